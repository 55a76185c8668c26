-- What octets of ASCII become by the published steps, where that is one octet of ASCII: the row from which a text's are read.
-- Assumes nothing.
use Rattle.std.specs.Prelude.{◌≡◌, ℕ, ◌<◌, List, [], ◌∷◌, length, get_or}
use Rattle.table.specs.Mapping.{Mapping}
use Rattle.decompose.specs.Steps.{expanded, lookups}

-- an octet of ASCII is what a code point becomes by the published steps, for two lookups; a number from 80 hex on says nothing
pub record Plain (m : Mapping) (c octet : ℕ) : Type 0 where
  pub single : octet < 0x80 → expanded m c ≡ octet ∷ []
  pub asked : octet < 0x80 → lookups m c ≡ 2

-- a number for each octet: one below 80 hex is what the octet in whose place it stands becomes, which is one of ASCII
pub record PlainRow (m : Mapping) (row : List ℕ) : Type 0 where
  pub size : length row ≡ 256
  pub ascii : (a : ℕ) → a < 256 → get_or row a 0 < 0x80 → a < 0x80
  pub plain : (a : ℕ) → a < 256 → Plain m a (get_or row a 0)
