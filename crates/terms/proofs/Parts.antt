-- Parts of a slice, as a lent part arrives at a callee and as it comes back.
-- Assumes nothing.
use mathlib.Core.Path.{◌≡◌}
use mathlib.Core.List.{List, [], ◌∷◌, ◌++◌, append_assoc, append-nil}
use Prim.Native.Nat.{ℕ, ◌+◌, ◌-◌, ◌≤◌, ◌<◌}
use native.Mathlib.Numerals.{add-one}
use native.Mathlib.Omega.{arith}
use lib.ListN.{length, take, drop, get_or, length-append, length-drop, drop_of_length-le}
use lib.Seq.{take_all, drop-cons, drop-drop, take-append_seam, drop-append_seam}
use Rattle.terms.specs.Lists.{over}

-- the part from a place to the end
pub take-drop : (n : ℕ) (t : List ℕ) → take (length t - n) (drop n t) ≡ drop n t
take-drop n t = take_all (length t - n) (drop n t) (omega (arith, length-drop n t))

-- a list whose part from a place to the end came back as another one: what was before that place, and the other one
pub put_back : (n : ℕ) (t part : List ℕ)
    → take n t ++ (part ++ drop (length t - n) (drop n t)) ≡ take n t ++ part
put_back n t part =
    let most : length (drop n t) ≤ length t - n = omega (arith, length-drop n t) in
    let nothing : drop (length t - n) (drop n t) ≡ [] = drop_of_length-le (drop n t) most in
    rw (nothing, append-nil part)

-- a list from a place on: the element there, and the part after it
pub drop-part : (i : ℕ) (t : List ℕ)
    → i < length t
    → drop i t ≡ get_or t i 0 ∷ take (length t - (i + 1)) (drop (i + 1) t)
drop-part i t h = rw (take-drop (i + 1) t, add-one i) (drop-cons t i 0 h)

-- a buffer is as long after a list that fits was written into it
pub length_over : (xs buffer : List ℕ) → length xs ≤ length buffer → length (over xs buffer) ≡ length buffer
length_over xs buffer h =
    omega (arith, length-append xs (drop (length xs) buffer), length-drop (length xs) buffer)

-- what follows a list that was written is as before
pub drop-over : (xs buffer : List ℕ) → drop (length xs) (over xs buffer) ≡ drop (length xs) buffer
drop-over xs buffer = drop-append_seam xs (drop (length xs) buffer)

-- a second list written into the part after the first: the buffer is what was before that part, and the part
pub over-append : (xs ys buffer : List ℕ)
    → take (length xs) (over xs buffer) ++ over ys (drop (length xs) (over xs buffer)) ≡ over (xs ++ ys) buffer
over-append xs ys buffer =
    rw (drop-over xs buffer, take-append_seam xs (drop (length xs) buffer), length-append xs ys)
    (simp (drop-drop, append_assoc))
