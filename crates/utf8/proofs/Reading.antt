-- The character that stands at a place of a text, by the length that its first octet announces: an octet is there, and of a
-- longer character the octets that follow trail, and come to its code point (`Longer`).
-- Assumes nothing.
use mathlib.Core.Path.{◌≡◌, refl, sym, ◌∙◌, ap}
use mathlib.Core.Bool.{true, true≢false}
use mathlib.Core.List.{List}
use Rattle.std.specs.Prelude.{Option, None, Some}
use Prim.Native.Nat.{ℕ, suc, ◌+◌, ◌-◌, ◌≤◌, ◌<◌}
use native.Mathlib.Omega.{arith}
use lib.ListN.{length, take, drop, get_or}
use Rattle.terms.specs.Lists.{there}
use Rattle.utf8.specs.Utf8.{character, announced, decode, sequence, trailed, taken}
use Rattle.utf8.proofs.Encode.{leads_two, leads_three, leads_four}
use Rattle.utf8.proofs.Lengths.{Says, alone, leads, begins_none, says, announced-marked}
use Rattle.utf8.proofs.Trailed.{taken-there, taken_is}
use Rattle.utf8.proofs.Decode.{decode-stands, decode-at}

-- what follows the octet at a place
abbrev pub after : List ℕ → ℕ → List ℕ
after t i = take (length t - (i + 1)) (drop (i + 1) t)

module _ (t : List ℕ) (i : ℕ) (h : there (decode (drop i t)) ≡ true) where
  -- the row of the length that the first octet announces
  pub row-at : (o : Option ℕ) → o ≡ announced (get_or t i 0) → decode (drop i t) ≡ sequence o (get_or t i 0) (after t i)
  row-at o e = decode-at t i o (decode-stands t i h) e

  -- it announces a length
  pub announces-one : None ≡ announced (get_or t i 0) → ⊥
  announces-one e = true≢false (sym h ∙ ap there (row-at None e))

  -- of one to four, so that where it is none of one, three and four it is two
  pub announces-two : {n : ℕ} → Some n ≡ announced (get_or t i 0) → (n ≡ 1 → ⊥) → (n ≡ 3 → ⊥) → (n ≡ 4 → ⊥)
      → Some 2 ≡ announced (get_or t i 0)
  announces-two {n} e not_one not_three not_four = by (announced (get_or t i 0)) e (says (get_or t i 0))
    where
      by : (o : Option ℕ) → Some n ≡ o → Says (get_or t i 0) o → Some 2 ≡ o
      by o e (alone l) = absurd (not_one cc)
      by o e (leads x k least (leads_two f g)) = refl
      by o e (leads x k least (leads_three f g)) = absurd (not_three cc)
      by o e (leads x k least (leads_four f g)) = absurd (not_four cc)
      by o e begins_none = cc

  -- a character of n octets after its first, of which `base` is what isn't its bits
  pub record Longer (n base : ℕ) : Type 0 where
    pub above : base ≤ get_or t i 0
    pub bits : get_or t i 0 - base < 0x20
    pub trails : there (trailed n (get_or t i 0 - base) (after t i)) ≡ true
    pub is : {code : ℕ} → Some code ≡ trailed n (get_or t i 0 - base) (after t i) → Some (character code (suc n)) ≡ decode (drop i t)

  longer : (n base least : ℕ) → base ≤ get_or t i 0 → get_or t i 0 - base < 0x20
      → decode (drop i t) ≡ taken (suc n) least (trailed n (get_or t i 0 - base) (after t i))
      → Longer n base
  longer n base least l m e =
      let o = trailed n (get_or t i 0 - base) (after t i) in
      let valid : there (taken (suc n) least o) ≡ true = sym (ap there e) ∙ h in
      record {
        above = l;
        bits = m;
        trails = taken-there (suc n) least o valid;
        is = λ {code} f. taken_is (suc n) least code o valid f ∙ sym e;
      }

  pub longer-two : Some 2 ≡ announced (get_or t i 0) → Longer 1 0xC0
  longer-two e =
      let m = announced-marked (get_or t i 0) 2 (sym e) (omega arith) in
      longer 1 0xC0 0x80 (omega (arith, m)) (omega (arith, m)) (row-at (Some 2) e)

  pub longer-three : Some 3 ≡ announced (get_or t i 0) → Longer 2 0xE0
  longer-three e =
      let m = announced-marked (get_or t i 0) 3 (sym e) (omega arith) in
      longer 2 0xE0 0x800 (omega (arith, m)) (omega (arith, m)) (row-at (Some 3) e)

  pub longer-four : Some 4 ≡ announced (get_or t i 0) → Longer 3 0xF0
  longer-four e =
      let m = announced-marked (get_or t i 0) 4 (sym e) (omega arith) in
      longer 3 0xF0 0x10000 (omega (arith, m)) (omega (arith, m)) (row-at (Some 4) e)
