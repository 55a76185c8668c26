-- `keys::unicode::size_unicode` meets its contract. The loop's invariant: the characters up to `at` came to `end` octets and
-- `lookups` lookups, and the text's numbers go by these and by what follows (`Sizing`), which is valid. The measure is what
-- is left of the text.
-- Assumes nothing.
use mathlib.Core.Path.{◌≡◌}
use mathlib.Core.Bool.{true}
use Prim.Native.Nat.{◌-◌}
use lib.ListN.{length, drop}
use Rattle.terms.specs.Lists.{there}
use Rattle.table.specs.Table.{table, mapping_of}
use Rattle.utf8.specs.Utf8.{decode, characters}
use Rattle.keys.specs.Walks.{Sizing}
use Rattle.keys.proofs.unicode.size_unicode.Given as goal

abbrev pub invariant-loop-at : goal.invariant-loop-at
invariant-loop-at l = Sizing decode (mapping_of (table l.entries l.pool)) l.text l.at.0 l.end.0 l.lookups × (there (characters (drop l.at.0 l.text)) ≡ true)

abbrev pub decreases-loop-at : goal.decreases-loop-at
decreases-loop-at l = length l.text - l.at.0
