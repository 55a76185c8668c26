-- The examples of RFC 4790, section 9.1, by computation.
-- Assumes nothing.
use mathlib.Core.Path.{◌≡◌, refl}
use Prim.Native.Nat.{ℕ, Ordering}
use mathlib.Core.List.{List, [], ◌∷◌}
use Rattle.numeric.specs.Numbers.{run, value_from, magnitude_of, order_of_magnitudes}

-- the order of two texts' magnitudes
abbrev pub ordered : List ℕ → List ℕ → Ordering
ordered s t = order_of_magnitudes (magnitude_of s) (magnitude_of t)

-- "4294967298" and then anything
abbrev pub large : List ℕ → List ℕ
large t = 0x34 ∷ 0x32 ∷ 0x39 ∷ 0x34 ∷ 0x39 ∷ 0x36 ∷ 0x37 ∷ 0x32 ∷ 0x39 ∷ 0x38 ∷ t

-- "0" is less than "1"
pub zero_one : ordered (0x30 ∷ []) (0x31 ∷ []) ≡ Ordering.lt
unfolding run value_from
zero_one = refl

-- "1" is less than "4294967298"
pub one-large : ordered (0x31 ∷ []) (large []) ≡ Ordering.lt
unfolding run value_from
one-large = refl

-- "4294967298", "04294967298" and "4294967298b" are equal
pub large-zero : ordered (large []) (0x30 ∷ large []) ≡ Ordering.eq
unfolding run value_from
large-zero = refl

pub large-letter : ordered (large []) (large (0x62 ∷ [])) ≡ Ordering.eq
unfolding run value_from
large-letter = refl

pub large-zero-letter : ordered (0x30 ∷ large []) (large (0x62 ∷ [])) ≡ Ordering.eq
unfolding run value_from
large-zero-letter = refl

-- "04294967298" is less than ""
pub large-nothing : ordered (0x30 ∷ large []) [] ≡ Ordering.lt
unfolding run value_from
large-nothing = refl

-- "", "x" and "y" are equal
pub nothing-x : ordered [] (0x78 ∷ []) ≡ Ordering.eq
unfolding run
nothing-x = refl

pub nothing-y : ordered [] (0x79 ∷ []) ≡ Ordering.eq
unfolding run
nothing-y = refl

pub x-y : ordered (0x78 ∷ []) (0x79 ∷ []) ≡ Ordering.eq
unfolding run
x-y = refl
