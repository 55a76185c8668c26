-- Numbers in octets (document 02, request 2): "numbers little-endian", of any width.
-- Assumes nothing.
use Rattle.std.specs.Prelude.{ℕ, zero, suc, ◌+◌, ◌*◌, ◌%◌, ◌/◌, ◌<◌, List, [], ◌∷◌, get_or}

-- a number in so many octets, the low one first
unfoldable pub little_endian : ℕ → ℕ → List ℕ
little_endian zero n = []
little_endian (suc width) n = n % 256 ∷ little_endian width (n / 256)

-- the number that octets are, the low one first
unfoldable pub number_in : List ℕ → ℕ
number_in [] = 0
number_in (o ∷ os) = o + 256 * number_in os

-- every element of a list is an octet
abbrev pub Octets : List ℕ → Type 0
Octets xs = (i : ℕ) → get_or xs i 0 < 256
