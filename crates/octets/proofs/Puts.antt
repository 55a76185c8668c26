-- Octets written at the start of a slice, one after another: nothing, one octet more, a block of
-- octets, and a second list in the part that follows.
-- Assumes nothing.
use mathlib.Core.Path.{◌≡◌, refl, sym, ◌∙◌, ap}
use Prim.Native.Nat.{ℕ, suc, ◌+◌, ◌-◌, ◌≤◌, ◌<◌}
use native.Mathlib.Numerals.{add-one}
use native.Mathlib.Omega.{arith}
use mathlib.Core.List.{List, [], ◌∷◌, ◌++◌, append_assoc}
use lib.ListN.{length, take, drop, get_or, set, length-append, length-drop}
use lib.Seq.{take-suc, take-length, take-take, take-add, take-append-le, length-take-le}
use lib.Seq.{drop-cons, drop-drop, drop-append-add, set-append_seam}
use Rattle.terms.specs.Lists.{over, put_at}
use Rattle.terms.proofs.Parts.{take-drop, put_back, length_over, over-append}
use Rattle.octets.specs.Put.{Puts}

-- an octet written after a list that was written
over-more : (xs buffer : List ℕ) (o : ℕ) → length xs < length buffer
    → set (over xs buffer) (length xs) o ≡ over (xs ++ (o ∷ [])) buffer
over-more xs buffer o h =
    rw (
      drop-cons buffer (length xs) 0 h,
      set-append_seam xs (get_or buffer (length xs) 0) (drop (suc (length xs)) buffer) o,
      length-append xs (o ∷ []),
      add-one (length xs),
      append_assoc xs (o ∷ []) (drop (suc (length xs)) buffer),
    )

-- nothing was written
pub puts_none : (before : List ℕ) → Puts [] before 0 before
puts_none before = record { count = refl; left = refl }

module _ (xs before : List ℕ) (n : ℕ) (after : List ℕ) (p : Puts xs before n after) where
  -- the slice is as long as before
  pub puts-length : n ≤ length before → length after ≡ length before
  puts-length h = ap length p.left ∙ length_over xs before (omega (arith, p.count))

  -- one octet more
  pub puts-more : (o : ℕ) → n < length before → Puts (xs ++ (o ∷ [])) before (n + 1) (set after n o)
  puts-more o h =
      let room : length xs < length before = omega (arith, p.count) in
      record {
        count = omega (arith, p.count, length-append xs (o ∷ []));
        left = rw (p.left, p.count) (over-more xs before o room);
      }

  -- a second list in the part that follows
  pub puts-append : (ys : List ℕ) (m : ℕ) (part : List ℕ) → Puts ys (drop n after) m part
      → Puts (xs ++ ys) before (n + m) (take n after ++ part)
  puts-append ys m part q = record {
    count = omega (arith, p.count, q.count, length-append xs ys);
    left = rw (q.left, p.left, p.count) (over-append xs ys before);
  }

  -- the same, where that part was lent and came back
  pub puts-part : (ys : List ℕ) (m : ℕ) (part : List ℕ) → Puts ys (take (length after - n) (drop n after)) m part
      → Puts (xs ++ ys) before (n + m) (take n after ++ (part ++ drop (length after - n) (drop n after)))
  puts-part ys m part q = rw (put_back n after part) (puts-append ys m part (rw (take-drop n after) at q))

-- the first octets of a list and the next one are one octet more of it
pub puts-next : (octets before : List ℕ) (i : ℕ) (after : List ℕ) → Puts (take i octets) before i after
    → i < length octets
    → i < length before
    → Puts (take (i + 1) octets) before (i + 1) (set after i (get_or octets i 0))
puts-next octets before i after p h l =
    rw (add-one i, take-suc octets i 0 h) (rw (add-one i) at (puts-more (take i octets) before i after p (get_or octets i 0) l))

-- all octets of a list
pub puts-all : (octets before : List ℕ) (i : ℕ) (after : List ℕ) → Puts (take i octets) before i after
    → i ≡ length octets
    → Puts octets before i after
puts-all octets before i after p e =
    let whole : take i octets ≡ octets = rw e (take-length octets) in
    rw whole at p

-- A block of the octets written where some of them are written already: it starts at most where they end, and ends no sooner.
module _ (octets before : List ℕ) (i : ℕ) (after : List ℕ) (p : Puts (take i octets) before i after)
    (at n : ℕ) (starts : at ≤ i) (ends : i ≤ at + n) (within : at + n ≤ length octets) where
  so_far : length (take i octets) ≡ i
  so_far = length-take-le i octets (omega arith)

  -- what is before the block
  take-before : take at after ≡ take at octets
  take-before =
      rw (p.left, take-append-le at (take i octets) (drop (length (take i octets)) before) (omega (arith, so_far)))
      (take-take at i octets starts)

  -- and after it
  drop-after : drop (at + n) after ≡ drop (at + n) before
  drop-after =
      let past : at + n ≡ length (take i octets) + (at + n - i) = omega (arith, so_far) in
      rw (p.left, past)
      (drop-append-add (take i octets) (drop (length (take i octets)) before) (at + n - i)
      ∙ drop-drop (at + n - i) (length (take i octets)) before)

  -- then the octets up to its end are written
  pub puts-block : Puts (take (at + n) octets) before (at + n) (put_at at (take n (drop at octets)) after)
  puts-block =
      let block = take n (drop at octets) in
      let width : length block ≡ n = length-take-le n (drop at octets) (omega (arith, length-drop at octets)) in
      let count : length (take (at + n) octets) ≡ at + n = length-take-le (at + n) octets within in
      record {
        count = sym count;
        left =
            rw (width, count, drop-drop n at after, take-before, drop-after, take-add at n octets)
            (sym (append_assoc (take at octets) block (drop (at + n) before)));
      }

-- the last block of the octets, some of which may be written already
pub puts-last : (octets before : List ℕ) (i : ℕ) (after : List ℕ) → Puts (take i octets) before i after
    → length octets - 4 ≤ i
    → i ≤ length octets
    → 4 ≤ length octets
    → Puts octets before (length octets)
    (put_at (length octets - 4) (take 4 (drop (length octets - 4) octets)) after)
puts-last octets before i after p starts ends four =
    let n = length octets in
    let end : n - 4 + 4 ≡ n = omega arith in
    puts-all octets before n _
    (rw end at (puts-block octets before i after p (n - 4) 4 starts (omega arith) (omega arith))) refl
