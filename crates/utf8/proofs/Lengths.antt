-- The length that an octet announces (`announced`): by one test of all 256 octets, the leading ones of each are the leading zeros
-- of the inverted octet (`leading_zeros-inverted`), and its length goes by the range it stands in (`announced-range`); so each
-- octet is a character by itself, leads so many, or begins none (`says`).
-- Assumes nothing.
use mathlib.Core.Path.{◌≡◌, refl, sym, ◌∙◌, ap, subst}
use mathlib.Core.Bool.{Bool, true, false, true≢false, cond, not, ◌&&◌}
use mathlib.Core.Logic.{◌⊎◌, inl, inr}
use Rattle.std.specs.Prelude.{Option, None, Some}
use Prim.Native.Nat.{ℕ, zero, suc, ◌-◌, ◌^◌, ◌≤◌, ◌<◌}
use native.Mathlib.Decide.{dec_lt}
use native.Mathlib.Nat.{pow-suc}
use native.Mathlib.Omega.{arith}
use lib.Count.{count_leading_zeros}
use lib.Dec.{eqb, ltb}
use lib.Pow.{pow_pos}
use borrow.Author.Tests.{ltb-true, ltb-false, eqb-true, lt-ltb, le-ltb, le-leb, lt-leb, ne_eqb, not-false}
use Rattle.terms.specs.Lists.{lowest}
use Rattle.terms.proofs.Lowest.{lowest-none}
use Rattle.terms.proofs.Tests.{both, none-some}
use Rattle.utf8.specs.Utf8.{leading_ones, length_by, announced, by_range}
use Rattle.utf8.proofs.Encode.{Lead, leads_two, leads_three, leads_four}

-- ---- all 256 octets

-- whether two lengths are the same
abbrev same_length : Option ℕ → Option ℕ → Bool
same_length None None = true
same_length None (Some n) = false
same_length (Some m) None = false
same_length (Some m) (Some n) = eqb m n

same_length-true : (a b : Option ℕ) → same_length a b ≡ true → a ≡ b
same_length-true None None e = refl
same_length-true None (Some n) e = absurd (true≢false (sym e))
same_length-true (Some m) None e = absurd (true≢false (sym e))
same_length-true (Some m) (Some n) e = ap Some (eqb-true m n e)

-- the test of an octet
abbrev agrees : ℕ → Bool
agrees o = eqb (count_leading_zeros 8 (255 - o)) (leading_ones 8 o) && same_length (announced o) (by_range o)

-- computed for all of them
no-octet-differs : lowest (λ o. not (agrees o)) 256 ≡ None
unfolding lowest count_leading_zeros leading_ones announced
no-octet-differs = refl

-- so of each the leading zeros of the inverted octet are its leading ones, and the length goes by the range
octet-agrees : (o : ℕ) → o < 256 → (count_leading_zeros 8 (255 - o) ≡ leading_ones 8 o) × (announced o ≡ by_range o)
octet-agrees o h =
    let counted = eqb (count_leading_zeros 8 (255 - o)) (leading_ones 8 o) in
    let ranged = same_length (announced o) (by_range o) in
    let passed = both counted ranged (not-false (agrees o) (lowest-none (λ k. not (agrees k)) 256 no-octet-differs o h)) in
    (eqb-true (count_leading_zeros 8 (255 - o)) (leading_ones 8 o) passed.0, same_length-true (announced o) (by_range o) passed.1)

-- the leading zeros of the inverted octet are the octet's leading ones
pub leading_zeros-inverted : (o : ℕ) → o < 256 → count_leading_zeros 8 (255 - o) ≡ leading_ones 8 o
leading_zeros-inverted o h = (octet-agrees o h).0

-- ---- announced, by the count of leading ones

-- an octet from 80 on has such a bit
pub leading_ones-some : (o : ℕ) → 0x80 ≤ o → 1 ≤ leading_ones 8 o
unfolding leading_ones
leading_ones-some o h = rw (le-leb 0x80 o h) (omega arith)

-- no such bit gives 1
pub announced-no-ones : (o : ℕ) → leading_ones 8 o ≡ 0 → announced o ≡ Some 1
unfolding announced
announced-no-ones o e = rw e

-- two to four give that many
pub announced-ones : (o : ℕ) → 2 ≤ leading_ones 8 o → leading_ones 8 o ≤ 4 → announced o ≡ Some (leading_ones 8 o)
unfolding announced
announced-ones o l m =
    let n = leading_ones 8 o in
    simp (ne_eqb n 0 (λ e. omega arith), le-leb 2 n l, le-leb n 4 m)

-- any other count begins no sequence
pub announced-one-or-many : (o : ℕ) → (leading_ones 8 o ≡ 1) ⊎ (5 ≤ leading_ones 8 o) → announced o ≡ None
unfolding announced
announced-one-or-many o (inl e) = rw e
announced-one-or-many o (inr l) =
    let n = leading_ones 8 o in
    simp (ne_eqb n 0 (λ e. omega arith), le-leb 2 n (omega arith), lt-leb n 4 l)

-- as the count of the leading ones of an octet says it
pub announced_counted : {n : ℕ} (o : ℕ) → o < 256 → n ≡ count_leading_zeros 8 (255 - o) → announced o ≡ length_by n
unfolding announced
announced_counted o h e = ap length_by (sym (e ∙ leading_zeros-inverted o h))

-- ---- announced, by ranges

-- a number with k ones, or more bits than k, has k leading ones
leading_ones-full : (k o : ℕ) → 2 ^ k ≤ suc o → leading_ones k o ≡ k
unfolding leading_ones
leading_ones-full zero o h = refl
leading_ones-full (suc k) o h =
    let top : 2 ^ k ≤ o = omega (arith, pow-suc 2 k, pow_pos k) in
    rw (le-leb (2 ^ k) o top) (ap suc (leading_ones-full k (o - 2 ^ k) (omega (arith, pow-suc 2 k))))

-- the length goes by the range
pub announced-range : (o : ℕ) → announced o ≡ by_range o
unfolding announced
announced-range o = by (dec_lt o 256)
  where
    by : Dec (o < 256) → announced o ≡ by_range o
    by (yes h) = (octet-agrees o h).1
    by (no h) =
        ap length_by (leading_ones-full 8 o (omega arith))
        ∙ sym (simp (
          le-ltb o 0x80 (omega arith),
          le-ltb o 0xC0 (omega arith),
          le-ltb o 0xE0 (omega arith),
          le-ltb o 0xF0 (omega arith),
          le-ltb o 0xF8 (omega arith),
        ))

-- a character by itself
pub announced-one : (a : ℕ) → a < 0x80 → announced a ≡ Some 1
announced-one a h = announced-range a ∙ simp (lt-ltb a 0x80 h)

-- the first of several octets
pub announced-lead : (a x n least : ℕ) → Lead a x n least → announced a ≡ Some (suc n)
announced-lead a x n least (leads_two e h) =
    announced-range a ∙ simp (le-ltb a 0x80 (omega arith), le-ltb a 0xC0 (omega arith), lt-ltb a 0xE0 (omega arith))
announced-lead a x n least (leads_three e h) =
    announced-range a
    ∙ simp (le-ltb a 0x80 (omega arith), le-ltb a 0xC0 (omega arith), le-ltb a 0xE0 (omega arith), lt-ltb a 0xF0 (omega arith))
announced-lead a x n least (leads_four e h) =
    announced-range a
    ∙ simp (
      le-ltb a 0x80 (omega arith),
      le-ltb a 0xC0 (omega arith),
      le-ltb a 0xE0 (omega arith),
      le-ltb a 0xF0 (omega arith),
      lt-ltb a 0xF8 (omega arith),
    )

-- what an octet is by the length that it announces: a character by itself, the first of several octets, or neither
pub data Says (a : ℕ) : Option ℕ → Type 0 where
  alone : a < 0x80 → Says a (Some 1)
  leads : (x n least : ℕ) → Lead a x n least → Says a (Some (suc n))
  begins_none : Says a None

pub says : (a : ℕ) → Says a (announced a)
says a = rw (announced-range a) (by (ltb a 0x80) (ltb a 0xC0) (ltb a 0xE0) (ltb a 0xF0) (ltb a 0xF8) refl refl refl refl refl)
  where
    by : (p q r s u : Bool) → ltb a 0x80 ≡ p → ltb a 0xC0 ≡ q → ltb a 0xE0 ≡ r → ltb a 0xF0 ≡ s → ltb a 0xF8 ≡ u
        → Says a (cond p (Some 1) (cond q None (cond r (Some 2) (cond s (Some 3) (cond u (Some 4) None)))))
    by true q r s u e f g h k = alone (ltb-true a 0x80 e)
    by false true r s u e f g h k = begins_none
    by false false true s u e f g h k =
        leads (a - 0xC0) 1 0x80 (leads_two (omega (arith, ltb-false a 0xC0 f)) (omega (arith, ltb-true a 0xE0 g)))
    by false false false true u e f g h k =
        leads (a - 0xE0) 2 0x800 (leads_three (omega (arith, ltb-false a 0xE0 g)) (omega (arith, ltb-true a 0xF0 h)))
    by false false false false true e f g h k =
        leads (a - 0xF0) 3 0x10000 (leads_four (omega (arith, ltb-false a 0xF0 h)) (omega (arith, ltb-true a 0xF8 k)))
    by false false false false false e f g h k = begins_none

-- ---- what the first of several octets has in front of its bits

-- so many ones, and then none
abbrev mark : ℕ → ℕ
mark w = 256 - 2 ^ (8 - w)

abbrev pub Marked : ℕ → ℕ → Type 0
Marked w a = (mark w ≤ a) × (a < mark (suc w)) × (w ≤ 4)

lead-marked : (a x n least : ℕ) → Lead a x n least → Marked (suc n) a
lead-marked a x n least (leads_two e h) = omega arith
lead-marked a x n least (leads_three e h) = omega arith
lead-marked a x n least (leads_four e h) = omega arith

-- an octet that announces w, two or more, has w ones, and then none
pub announced-marked : (a w : ℕ) → announced a ≡ Some w → 2 ≤ w → Marked w a
announced-marked a w e l = by (announced a) (says a) e
  where
    by : (o : Option ℕ) → Says a o → o ≡ Some w → Marked w a
    by o (alone h) e = let is : 1 ≡ w = cc in absurd (omega arith)
    by o (leads x n least lead) e = let is : suc n ≡ w = cc in subst (λ (v : ℕ). Marked v a) is (lead-marked a x n least lead)
    by o begins_none e = absurd (none-some w e)
