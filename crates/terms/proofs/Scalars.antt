-- What is known of a scalar code point.
-- Assumes nothing.
use Prim.Native.Nat.{ℕ, ◌≤◌}
use mathlib.Core.Path.{◌≡◌}
use mathlib.Core.Bool.{true, ◌&&◌, not}
use lib.Dec.{leb}
use borrow.Author.Tests.{leb-true}
use Rattle.terms.specs.CodePoints.{scalar}
use Rattle.terms.proofs.Tests.{both}

-- a scalar code point is at most 10FFFF
pub scalar-most : (c : ℕ) → scalar c ≡ true → c ≤ 0x10FFFF
scalar-most c s = leb-true c 0x10FFFF (both (leb c 0x10FFFF) (not (leb 0xD800 c && leb c 0xDFFF)) s).0
