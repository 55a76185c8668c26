-- The table that a sequence of lines builds, cut to what is used, and the mapping that the accepted lines mean: "Built tables
-- hold exactly the mappings of the accepted lines."
-- Assumes nothing.
use Rattle.std.specs.Prelude.{◌≡◌, ℕ, cond, List, [], ◌∷◌, ◌++◌, eqb, take}
use Rattle.std.specs.Prelude.{Option, None, Some}
use Rattle.table.specs.Layout.{first_entries}
use Rattle.table.specs.Table.{Table, table}
use Rattle.table.specs.Mapping.{Mapping}
use Rattle.ucd.specs.Lines.{Properties, line_properties}
use Rattle.builder.specs.Builder.{Built, line_refusal, accepted, add_line, add_lines, fresh}

-- ---- the table

-- "grown from the fresh state (all zeros)", with any two slices
abbrev pub start_of : Table → Built
start_of t = record { state = fresh; table = t }

-- "the slices cut to what is used"
abbrev pub cut : Built → Table
cut b = table (first_entries b.state.entries_used b.table.entries) (take b.state.pool_used b.table.pool)

-- ---- the accepted lines

-- a line of a sequence that is accepted where it stands, and what it gives
pub record Accepted (b : Built) (lines : List (List ℕ)) (line : List ℕ) (p : Properties) : Type 0 where
  pub before : List (List ℕ)
  pub after : List (List ℕ)
  pub split : lines ≡ before ++ line ∷ after
  pub unrefused : line_refusal (add_lines b before) line ≡ None
  pub given : line_properties line ≡ Some p

-- what is given, if something is, before the rest
abbrev pub and_given : Option Properties → List Properties → List Properties
and_given None ps = ps
and_given (Some p) ps = p ∷ ps

-- what the accepted lines of a sequence give, in their order
unfoldable pub accepted_of : Built → List (List ℕ) → List Properties
accepted_of b [] = []
accepted_of b (line ∷ lines) = and_given (accepted b line) (accepted_of (add_line b line) lines)

-- ---- the mapping that they mean

-- a code point of which nothing is said: it "maps to itself"
abbrev pub itself : ℕ → Properties
itself c = record { code = c; title = c; parts = [] }

-- the properties of a code point: those of the first that has it, if one does
unfoldable pub properties_of : List Properties → ℕ → Properties
properties_of [] c = itself c
properties_of (p ∷ ps) c = cond (eqb p.code c) p (properties_of ps c)

-- the mapping that properties mean
abbrev pub properties_mapping : List Properties → Mapping
properties_mapping ps = record { title = λ c. (properties_of ps c).title; parts = λ c. (properties_of ps c).parts }
