-- One shifted to a bit of a word of 64, and the mask below that bit.
-- Assumes nothing.
use mathlib.Core.Path.{◌≡◌, ap, ◌∙◌}
use Prim.Native.Nat.{ℕ, ◌-◌, ◌*◌, ◌^◌, ◌%◌, ◌<◌}
use native.Mathlib.Nat.{one-mul}
use native.Mathlib.Omega.{arith}
use lib.Dec.{lit<}
use lib.Pow.{shl_exact}
use lib.Bits.{bit_and, and_mask}

pub one_shifted : (bit : ℕ) → bit < 64 → 1 * 2 ^ bit % 2 ^ 64 ≡ 2 ^ bit
one_shifted bit h = shl_exact 1 bit 64 (lit< tt) (omega arith) ∙ one-mul (2 ^ bit)

pub mask_below : (word bit : ℕ) → bit < 64 → bit_and word (1 * 2 ^ bit % 2 ^ 64 - 1) ≡ word % 2 ^ bit
mask_below word bit h = ap (λ (x : ℕ). bit_and word (x - 1)) (one_shifted bit h) ∙ and_mask word bit
