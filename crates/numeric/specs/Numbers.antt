-- Numbers as texts write them (RFC 4790, section 9.1, i;ascii-numeric): "arbitrarily-sized, unsigned decimal integer numbers
-- stored as octet strings". "All input is valid."
-- Assumes nothing.
use Prim.Native.Nat.{ℕ, ◌+◌, ◌-◌, ◌*◌, compare, Ordering}
use Rattle.std.specs.Prelude.{Bool, true, false, cond, ◌&&◌, List, [], ◌∷◌, leb, eqb}
use Rattle.terms.specs.Lists.{empty}

-- an octet that is a digit: "US-ASCII digits (0x30 to 0x39) represent digits of the numbers"
abbrev pub digit : ℕ → Bool
digit o = leb 0x30 o && leb o 0x39

-- the leading run of digits: "the input string is truncated at the first non-digit character"
unfoldable pub run : List ℕ → List ℕ
run [] = []
run (o ∷ os) = cond (digit o) (o ∷ run os) []

-- the number that digits write after those of a number so far
unfoldable pub value_from : ℕ → List ℕ → ℕ
value_from v [] = v
value_from v (o ∷ os) = value_from (v * 10 + (o - 0x30)) os

-- the number that digits write, of any length
abbrev pub value : List ℕ → ℕ
value ds = value_from 0 ds

-- what a text is compared by: a number, or infinity
pub data Magnitude : Type 0 where
  finite : ℕ → Magnitude
  infinite : Magnitude

-- a text's magnitude: "strings that do not start with a digit represent positive infinity"
abbrev pub magnitude_of : List ℕ → Magnitude
magnitude_of t = cond (empty (run t)) infinite (finite (value (run t)))

-- the order of magnitudes: numbers as numbers, infinity above all of them
abbrev pub order_of_magnitudes : Magnitude → Magnitude → Ordering
order_of_magnitudes (finite a) (finite b) = compare a b
order_of_magnitudes (finite a) infinite = Ordering.lt
order_of_magnitudes infinite (finite b) = Ordering.gt
order_of_magnitudes infinite infinite = Ordering.eq

-- two magnitudes are the same
abbrev pub same_magnitude : Magnitude → Magnitude → Bool
same_magnitude (finite a) (finite b) = eqb a b
same_magnitude (finite a) infinite = false
same_magnitude infinite (finite b) = false
same_magnitude infinite infinite = true
