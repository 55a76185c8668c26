-- How many digits a number has in decimal, and a word, a number and the line end written one after another.
-- Assumes nothing.
use mathlib.Core.Path.{◌≡◌, refl}
use Prim.Native.Nat.{ℕ, zero, suc, ◌+◌, ◌-◌, ◌*◌, ◌^◌, ◌/◌, ◌%◌, ◌≤◌, ◌<◌}
use native.Mathlib.Nat.{pow-suc}
use native.Mathlib.Omega.{arith}
use mathlib.Core.Bool.{Bool, true, false}
use mathlib.Core.List.{List, [], ◌∷◌, ◌++◌}
use lib.Dec.{ltb}
use lib.ListN.{length, take, drop, set, length-append}
use borrow.Author.Tests.{ltb-true, ltb-false}
use Rattle.octets.specs.Put.{Puts}
use Rattle.octets.proofs.Puts.{puts-length, puts-more, puts-part}
use Rattle.pairing.specs.Words.{numbered, digit, decimal, decimal_digit, decimal-more}

-- a number of more digits than one has one more than a tenth of it
pub length-decimal-more : (n : ℕ) → 10 ≤ n → length (decimal n) ≡ length (decimal (n / 10)) + 1
length-decimal-more n h = rw (decimal-more n h) (length-append (decimal (n / 10)) (digit (n % 10) ∷ []))

-- a number below a power of ten has at most as many digits
pub length-decimal : (k n : ℕ) → n < 10 ^ suc k → length (decimal n) ≤ suc k
length-decimal zero n h = rw (decimal_digit n (omega arith)) (omega arith)
length-decimal (suc k) n h = go (ltb n 10) refl (length-decimal k (n / 10))
  where
    go : (b : Bool) → ltb n 10 ≡ b → (n / 10 < 10 ^ suc k → length (decimal (n / 10)) ≤ suc k)
        → length (decimal n) ≤ suc (suc k)
    go true e tenth = rw (decimal_digit n (ltb-true n 10 e)) (omega arith)
    go false e tenth =
        let power : n < 10 ^ suc k * 10 = rw (pow-suc 10 (suc k)) at h in
        omega (arith, length-decimal-more n (ltb-false n 10 e), tenth (omega arith))

-- a 64-bit number has at most 20 digits
pub length-decimal-64 : (n : ℕ) → n < 2 ^ 64 → length (decimal n) ≤ 20
length-decimal-64 n h = length-decimal 19 n (omega arith)

-- ---- a word, a number and the line end

module _ (word before after : List ℕ) (at n : ℕ) (small : n < 2 ^ 64) (room : length word + 21 ≤ length before)
    (p : Puts word before at after) where
  -- a word that was written leaves room for the digits and the line end
  pub room-after : at + length (decimal n) < length after
  room-after =
      let long = puts-length word before at after p (omega (arith, p.count)) in
      omega (arith, length-decimal-64 n small, p.count)

  module _ (m : ℕ) (part : List ℕ) (q : Puts (decimal n) (take (length after - at) (drop at after)) m part) where
    abbrev whole : List ℕ
    whole = take at after ++ (part ++ drop (length after - at) (drop at after))

    joined : Puts (word ++ decimal n) before (at + m) whole
    joined = puts-part word before at after p (decimal n) m part q

    -- the line end is within the slice
    pub line_end-within : at + m < length whole
    line_end-within =
        let here = room-after in
        let long = puts-length word before at after p (omega (arith, p.count)) in
        let same = puts-length (word ++ decimal n) before (at + m) whole joined (omega (arith, q.count)) in
        omega (arith, q.count)

    -- with it all is written
    pub puts-numbered : Puts (numbered word n) before (at + m + 1) (set whole (at + m) 0x0A)
    puts-numbered =
        let here = room-after in
        let long = puts-length word before at after p (omega (arith, p.count)) in
        puts-more (word ++ decimal n) before (at + m) whole joined 0x0A (omega (arith, q.count))
