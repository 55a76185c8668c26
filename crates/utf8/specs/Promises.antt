-- What the contracts of the crate say with the definitions of specs/Utf8.antt.
-- Assumes nothing.
use Rattle.std.specs.Prelude.{◌≡◌, ℕ, List, length}
use Rattle.terms.specs.Lists.{over}
use Rattle.utf8.specs.Utf8.{Character, character, encode}
use Rattle.utf8.specs.declared.DecodedCharacter.{DecodedCharacter}

-- the character that was read where one stands
abbrev pub character_of : DecodedCharacter → Character
character_of r = character r.code.0 r.width

-- a code point was written at the start of a slice: how many octets it took, and the slice afterwards
pub record Written (c : ℕ) (slice : List ℕ) (n : ℕ) (after : List ℕ) : Type 0 where
  pub count : n ≡ length (encode c)
  pub octets : after ≡ over (encode c) slice
