-- A slice with a list written into it at a place, `put_at at xs slice`: its length, its elements, and the stores that write it;
-- what is before it, the list, what is after it, and lists put one after another.
-- Assumes nothing.
use mathlib.Core.Path.{◌≡◌, sym, ◌∙◌, ap, ap₂}
use Prim.Native.Nat.{ℕ, ◌+◌, ◌-◌, ◌≤◌, ◌<◌}
use native.Mathlib.Nat.{add_assoc}
use native.Mathlib.Omega.{arith}
use mathlib.Core.List.{List, [], ◌++◌, append_assoc}
use lib.ListN.{length, take, drop, get_or, length-append, length-drop, take-append-drop, get_or-append}
use lib.Seq.{slice, length-take-le, length-slice, take-length, take_at, drop_at, take-append-add, take-append_seam, drop-drop}
use lib.Seq.{drop-append-le, drop-append_seam, get_or-take, get_or-drop, get_or-append-add}
use lib.Seq.{sets, sets-eq, paste}
use Rattle.terms.specs.Lists.{over, put_at}

-- ---- elements

-- a copy of a whole list, number by number
pub paste_all : (s : List ℕ) (at : ℕ) (xs : List ℕ) → paste s at xs (length xs) ≡ put_at at xs s
paste_all s at xs =
    append_assoc (take at s) (take (length xs) xs) (drop (at + length xs) s)
    ∙ ap (λ (l : List ℕ). take at s ++ l)
    (ap₂ ◌++◌ (take-length xs) (sym (drop-drop (length xs) at s)))

module _ (at : ℕ) (xs s : List ℕ) (fits : at + length xs ≤ length s) where
  -- a store for each number
  pub sets-put_at : sets s at xs ≡ put_at at xs s
  sets-put_at = sets-eq xs s at fits ∙ simp (append_assoc, drop-drop)

  -- as long as before
  pub length-put_at : length (put_at at xs s) ≡ length s
  length-put_at = simp (length-append, length-take-le at s (omega arith), length-drop) (omega arith)

  -- what is before the list is as it was
  pub get_d-put_at-before : (k : ℕ) → k < at → get_or (put_at at xs s) k 0 ≡ get_or s k 0
  get_d-put_at-before k h =
      let before = length-take-le at s (omega arith) in
      get_or-append (take at s) (over xs (drop at s)) 0 k (omega arith) ∙ get_or-take at s k 0 h

  -- then comes the list
  pub get_d-put_at : (j : ℕ) → j < length xs → get_or (put_at at xs s) (at + j) 0 ≡ get_or xs j 0
  get_d-put_at j h =
      ap (λ (n : ℕ). get_or (put_at at xs s) (n + j) 0) (sym (length-take-le at s (omega arith)))
      ∙ get_or-append-add (take at s) (over xs (drop at s)) j 0
      ∙ get_or-append xs (drop (length xs) (drop at s)) 0 j h

  -- and what is after it is as it was
  get_d-put_at-past : (m : ℕ) → get_or (put_at at xs s) (at + (length xs + m)) 0 ≡ get_or s (at + (length xs + m)) 0
  get_d-put_at-past m =
      ap (λ (n : ℕ). get_or (put_at at xs s) (n + (length xs + m)) 0) (sym (length-take-le at s (omega arith)))
      ∙ get_or-append-add (take at s) (over xs (drop at s)) (length xs + m) 0
      ∙ get_or-append-add xs (drop (length xs) (drop at s)) m 0
      ∙ get_or-drop (length xs) (drop at s) m 0
      ∙ get_or-drop at s (length xs + m) 0

  pub get_d-put_at-after : (k : ℕ) → at + length xs ≤ k → get_or (put_at at xs s) k 0 ≡ get_or s k 0
  get_d-put_at-after k h =
      let past : at + (length xs + (k - (at + length xs))) ≡ k = omega arith in
      rw past at (get_d-put_at-past (k - (at + length xs)))

  -- what is used of the s after the list was written at the end of its used part
  pub take-put_at : take (at + length xs) (put_at at xs s) ≡ take at s ++ xs
  take-put_at =
      let used = take at s in
      let rest = over xs (drop at s) in
      ap (λ (n : ℕ). take (n + length xs) (used ++ rest)) (sym (length-take-le at s (omega arith)))
      ∙ take-append-add used rest (length xs)
      ∙ ap (λ (l : List ℕ). used ++ l) (take-append_seam xs (drop (length xs) (drop at s)))

-- ---- parts

-- nothing was put
pub put_at-none : (p : ℕ) (s : List ℕ) → put_at p [] s ≡ s
put_at-none p s = take-append-drop p s

-- from the place on
pub drop-put_at : (p : ℕ) (xs s : List ℕ) → p ≤ length s → drop p (put_at p xs s) ≡ over xs (drop p s)
drop-put_at p xs s h = drop_at (take p s) (over xs (drop p s)) p (length-take-le p s h)

module _ (p : ℕ) (xs s : List ℕ) (room : p + length xs ≤ length s) where
  -- before it
  pub put_at-before : take p (put_at p xs s) ≡ take p s
  put_at-before = take_at (take p s) (over xs (drop p s)) p (length-take-le p s (omega arith))

  -- the list
  pub put_at-there : slice p (p + length xs) (put_at p xs s) ≡ xs
  put_at-there = ap (drop p) (take-put_at p xs s room) ∙ drop_at (take p s) xs p (length-take-le p s (omega arith))

  -- after it
  pub put_at-after : drop (p + length xs) (put_at p xs s) ≡ drop (p + length xs) s
  put_at-after =
      sym (drop-drop (length xs) p (put_at p xs s))
      ∙ ap (drop (length xs)) (drop-put_at p xs s (omega arith))
      ∙ drop-append_seam xs (drop (length xs) (drop p s))
      ∙ drop-drop (length xs) p s

  -- another list after it
  pub put_at-append : (ys : List ℕ) → put_at (p + length xs) ys (put_at p xs s) ≡ put_at p (xs ++ ys) s
  put_at-append ys =
      ap₂ (λ (front back : List ℕ). front ++ over ys back) (take-put_at p xs s room) put_at-after
      ∙ simp (append_assoc, drop-drop, length-append, add_assoc)

-- what stood there is put back
pub put_at-same : (p q : ℕ) (s : List ℕ) → p ≤ q → q ≤ length s → put_at p (slice p q s) s ≡ s
put_at-same p q s h k =
    let n = length-slice p q s k in
    let upto : p + (q - p) ≡ q = omega arith in
    let rest : drop (length (slice p q s)) (drop p s) ≡ drop q s =
    rw (n, drop-drop (q - p) p s, upto)
    in
    let whole : slice p q s ++ drop q s ≡ drop p s =
    sym (drop-append-le p (take q s) (drop q s) (rw (length-take-le q s k) h)) ∙ ap (drop p) (take-append-drop q s)
    in
    rw (rest, whole) (take-append-drop p s)
