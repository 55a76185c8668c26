-- A walk over the octets that trail a first one: after i of them the bits x have become `code`, and what is left of the octets
-- makes of it what all of them make of x (`Joining`). One law over the width each for its start, for one octet more, for an octet
-- that doesn't trail, and for its end.
-- Assumes nothing.
use mathlib.Core.Path.{◌≡◌, refl, sym, ◌∙◌, ap}
use mathlib.Core.Bool.{Bool, true, false, true≢false}
use Rattle.std.specs.Prelude.{None, Some}
use mathlib.Core.List.{List}
use Prim.Native.Nat.{ℕ, suc, ◌+◌, ◌-◌, ◌*◌, ◌^◌, ◌≤◌, ◌<◌}
use native.Mathlib.Decide.{dec_lt}
use native.Mathlib.Nat.{zero-lt-suc, sub-zero, pow-suc, pow-le-pow_right}
use native.Mathlib.Numerals.{add-one}
use native.Mathlib.Omega.{arith}
use lib.ListN.{length, drop, get_or, length-drop}
use lib.Seq.{drop-cons}
use Rattle.terms.specs.Lists.{there}
use Rattle.utf8.specs.Utf8.{trails, trailed}
use Rattle.utf8.proofs.Trailed.{Between, trails-bounds, trailed-zero, trailed-short}

pub record Joining (n x : ℕ) (t : List ℕ) (i code : ℕ) : Type 0 where
  pub within : i ≤ n
  pub small : code < 0x20 * 64 ^ i
  pub left : trailed n x t ≡ trailed (n - i) code (drop i t)

-- the bits of the first octet alone
pub joining-start : (n x : ℕ) (t : List ℕ) → x < 0x20 → Joining n x t 0 x
joining-start n x t h = record { within = omega arith; small = omega arith; left = rw (sub-zero n) }

module _ {n x : ℕ} {t : List ℕ} {i code : ℕ} (j : Joining n x t i code) where
  -- one octet more is left
  one_left : i < n → n - i ≡ suc (n - suc i)
  one_left h = omega arith

  -- there is room for its bits
  pub joining-room : n ≤ 3 → i < n → code < 0x20000
  joining-room m h =
      let p : 64 ^ i ≤ 4096 = pow-le-pow_right (zero-lt-suc 63) {i = i} {j = 2} (omega arith) in
      omega (arith, j.small, p)

  -- it trails
  pub joining-more : i < n → i < length t → trails (get_or t i 0) ≡ true
      → Joining n x t (i + 1) (code * 64 + (get_or t i 0 - 0x80))
  unfolding trailed
  joining-more h l p =
      rw
      (add-one i)
      (record {
        within = omega arith;
        small = omega (arith, j.small, pow-suc 64 i, trails-bounds (get_or t i 0) p);
        left = j.left ∙ rw (one_left h, drop-cons t i 0 l, p);
      })

  -- it doesn't
  joining-stops : i < n → i < length t → trails (get_or t i 0) ≡ false → trailed n x t ≡ None
  unfolding trailed
  joining-stops h l p = j.left ∙ rw (one_left h, drop-cons t i 0 l, p)

  -- none is left
  pub joining-done : n ≤ i → trailed n x t ≡ Some code
  joining-done h =
      let none_left : n - i ≡ 0 = omega arith in
      j.left ∙ rw none_left (trailed-zero code (drop i t))

  -- where all are there and trail, one that is left does
  pub joining-next : i < n → there (trailed n x t) ≡ true → (i < length t) × Between (get_or t i 0)
  joining-next h is = (long, trails-bounds (get_or t i 0) (by (trails (get_or t i 0)) refl))
    where
      -- they come to a number
      not_none : trailed n x t ≡ None → ⊥
      not_none e = true≢false (sym is ∙ ap there e)

      long : i < length t
      long = go (dec_lt i (length t))
        where
          go : Dec (i < length t) → i < length t
          go (yes l) = l
          go (no l) = absurd (not_none (j.left ∙ trailed-short (n - i) code (drop i t) (omega (arith, length-drop i t))))

      by : (b : Bool) → trails (get_or t i 0) ≡ b → trails (get_or t i 0) ≡ true
      by true e = e
      by false e = absurd (not_none (joining-stops h long e))
