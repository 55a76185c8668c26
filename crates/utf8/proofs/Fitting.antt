-- Which numbers are taken after each first octet (RFC 3629, section 4): all of them (`-fits`, `-high`), none (`-low`, `-above`),
-- or those whose second octet stands in a range (`narrows-`).
-- Assumes nothing.
use mathlib.Core.Bool.{true, false}
use mathlib.Core.Logic.{◌⊎◌, inl, inr}
use Prim.Native.Nat.{ℕ, ◌+◌, ◌*◌, ◌≤◌, ◌<◌}
use native.Mathlib.Omega.{arith}
use borrow.Author.Tests.{le-leb, lt-leb}
use Rattle.utf8.proofs.Tails.{Fits, with_bits, Narrows}
use Rattle.utf8.proofs.Trailed.{Between}

-- ---- a number

-- at least the least, and below the surrogates
below-surrogates : (least c : ℕ) → least ≤ c → c < 0xD800 → Fits true least 0 c
below-surrogates least c l h = simp (le-leb least c l, le-leb c 0x10FFFF (omega arith), lt-leb 0xD800 c h)

-- or above them, and at most 10FFFF
above-surrogates : (least c : ℕ) → least ≤ c → 0xDFFF < c → c ≤ 0x10FFFF → Fits true least 0 c
above-surrogates least c l h m =
    simp (le-leb least c l, le-leb c 0x10FFFF m, le-leb 0xD800 c (omega arith), lt-leb c 0xDFFF h)

-- overlong
overlong : (least c : ℕ) → c < least → Fits false least 0 c
overlong least c h = simp (lt-leb least c h)

-- a surrogate
surrogate : (least c : ℕ) → least ≤ c → 0xD800 ≤ c → c ≤ 0xDFFF → Fits false least 0 c
surrogate least c l h m = simp (le-leb least c l, le-leb c 0x10FFFF (omega arith), le-leb 0xD800 c h, le-leb c 0xDFFF m)

-- above 10FFFF
too-high : (least c : ℕ) → least ≤ c → 0x10FFFF < c → Fits false least 0 c
too-high least c l h = simp (le-leb least c l, lt-leb c 0x10FFFF h)

-- ---- two octets: UTF8-2

-- C0 and C1
pub two-low : (x : ℕ) → x < 2 → Fits false 0x80 1 x
two-low x h y l = overlong 0x80 (x * 64 + y) (omega arith)

-- C2 to DF
pub two_fits : (x : ℕ) → 2 ≤ x → x < 0x20 → Fits true 0x80 1 x
two_fits x h m y l = below-surrogates 0x80 (x * 64 + y) (omega arith) (omega arith)

-- ---- three octets: UTF8-3

-- E1 to EC
pub three-fits : (x : ℕ) → 1 ≤ x → x < 0xD → Fits true 0x800 2 x
three-fits x h m y l z k = below-surrogates 0x800 ((x * 64 + y) * 64 + z) (omega arith) (omega arith)

-- EE and EF
pub three-high : (x : ℕ) → 0xE ≤ x → x < 0x10 → Fits true 0x800 2 x
three-high x h m y l z k = above-surrogates 0x800 ((x * 64 + y) * 64 + z) (omega arith) (omega arith) (omega arith)

-- E0: A0 to BF, or it is overlong
pub narrows-E0 : Narrows 0xA0 0xBF 0x800 1 0
narrows-E0 = record { from = omega arith; to = omega arith; inside = inside; outside = outside }
  where
    inside : (b : ℕ) → 0xA0 ≤ b → b ≤ 0xBF → Fits true 0x800 1 (with_bits 0 b)
    inside b l h y m = below-surrogates 0x800 (with_bits 0 b * 64 + y) (omega arith) (omega arith)

    outside : (b : ℕ) → Between b → (b < 0xA0) ⊎ (0xBF < b) → Fits false 0x800 1 (with_bits 0 b)
    outside b q (inl h) y m = overlong 0x800 (with_bits 0 b * 64 + y) (omega arith)
    outside b q (inr h) y m = absurd (omega arith)

-- ED: 80 to 9F, or it is a surrogate
pub narrows-ED : Narrows 0x80 0x9F 0x800 1 0xD
narrows-ED = record { from = omega arith; to = omega arith; inside = inside; outside = outside }
  where
    inside : (b : ℕ) → 0x80 ≤ b → b ≤ 0x9F → Fits true 0x800 1 (with_bits 0xD b)
    inside b l h y m = below-surrogates 0x800 (with_bits 0xD b * 64 + y) (omega arith) (omega arith)

    outside : (b : ℕ) → Between b → (b < 0x80) ⊎ (0x9F < b) → Fits false 0x800 1 (with_bits 0xD b)
    outside b q (inl h) y m = absurd (omega arith)
    outside b q (inr h) y m = surrogate 0x800 (with_bits 0xD b * 64 + y) (omega arith) (omega arith) (omega arith)

-- ---- four octets: UTF8-4

-- F1 to F3
pub four-fits : (x : ℕ) → 1 ≤ x → x < 4 → Fits true 0x10000 3 x
four-fits x h m y l z k w j = above-surrogates 0x10000 (((x * 64 + y) * 64 + z) * 64 + w) (omega arith) (omega arith) (omega arith)

-- F5 to F7
pub four-above : (x : ℕ) → 5 ≤ x → x < 8 → Fits false 0x10000 3 x
four-above x h m y l z k w j = too-high 0x10000 (((x * 64 + y) * 64 + z) * 64 + w) (omega arith) (omega arith)

-- F0: 90 to BF, or it is overlong
pub narrows-F0 : Narrows 0x90 0xBF 0x10000 2 0
narrows-F0 = record { from = omega arith; to = omega arith; inside = inside; outside = outside }
  where
    inside : (b : ℕ) → 0x90 ≤ b → b ≤ 0xBF → Fits true 0x10000 2 (with_bits 0 b)
    inside b l h y m z k = above-surrogates 0x10000 ((with_bits 0 b * 64 + y) * 64 + z) (omega arith) (omega arith) (omega arith)

    outside : (b : ℕ) → Between b → (b < 0x90) ⊎ (0xBF < b) → Fits false 0x10000 2 (with_bits 0 b)
    outside b q (inl h) y m z k = overlong 0x10000 ((with_bits 0 b * 64 + y) * 64 + z) (omega arith)
    outside b q (inr h) y m z k = absurd (omega arith)

-- F4: 80 to 8F, or it is above 10FFFF
pub narrows-F4 : Narrows 0x80 0x8F 0x10000 2 4
narrows-F4 = record { from = omega arith; to = omega arith; inside = inside; outside = outside }
  where
    inside : (b : ℕ) → 0x80 ≤ b → b ≤ 0x8F → Fits true 0x10000 2 (with_bits 4 b)
    inside b l h y m z k = above-surrogates 0x10000 ((with_bits 4 b * 64 + y) * 64 + z) (omega arith) (omega arith) (omega arith)

    outside : (b : ℕ) → Between b → (b < 0x80) ⊎ (0x8F < b) → Fits false 0x10000 2 (with_bits 4 b)
    outside b q (inl h) y m z k = absurd (omega arith)
    outside b q (inr h) y m z k = too-high 0x10000 ((with_bits 4 b * 64 + y) * 64 + z) (omega arith) (omega arith)
