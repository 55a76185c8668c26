-- What the contracts of the inner functions cite: room for so many entries and pool numbers, and what becomes of what a line
-- gives.
-- Assumes nothing.
use Rattle.std.specs.Prelude.{◌≡◌, ℕ, ◌+◌, ◌≤◌, List, length}
use Rattle.std.specs.Prelude.{Option, Some, Result}
use Rattle.terms.specs.Refusals.{entries_most, pool_most, first, answer}
use Rattle.terms.specs.declared.Refusal.{Refusal}
use Rattle.table.specs.Layout.{entry_count}
use Rattle.ucd.specs.Lines.{Properties}
use Rattle.builder.specs.Builder.{Built, built, properties_checks, unless_refused, add_given, state_numbers, line_outcome}
use Rattle.builder.specs.Builder.{state_after}
use Rattle.builder.specs.declared.LineState.{LineState}
use Rattle.builder.specs.declared.RefusedLine.{RefusedLine}

-- slices of these sizes have room for so many entries and pool numbers, and no limit is passed
pub record Fits (used filled entries pool : ℕ) : Type 0 where
  pub entries-held : used ≤ entries
  pub entries-limit : used ≤ entries_most
  pub pool-held : filled ≤ pool
  pub pool-limit : filled ≤ pool_most

-- what is used has room
abbrev pub UsedFits : Built → Type 0
UsedFits b =
    Fits b.state.entries_used b.state.pool_used (entry_count b.table.entries) (length b.table.pool)

-- and so have one entry more and its parts
abbrev pub NextFits : Built → Properties → Type 0
NextFits b p =
    Fits (b.state.entries_used + 1) (b.state.pool_used + length p.parts) (entry_count b.table.entries)
    (length b.table.pool)

-- a line that gives these properties was added, unless x refuses it: the answer, and the state and slices that are left
pub record AddedBy (x : Option Refusal) (given : Option Properties) (b : Built) (r : Result LineState RefusedLine)
    (entries pool : List ℕ) : Type 0 where
  pub answered : line_outcome r ≡ answer x (state_numbers (add_given b (unless_refused x given)).state)
  pub left : built (state_after r) entries pool ≡ add_given b (unless_refused x given)

-- the refusal of what a line gives, if there is one: 25 to 27
unfoldable pub properties_refusal : Built → Properties → Option Refusal
properties_refusal b p = first (properties_checks b.state (entry_count b.table.entries) (length b.table.pool) p)

-- properties were added, unless one of these refuses them
abbrev pub AddedGiven : Built → Properties → Result LineState RefusedLine → List ℕ → List ℕ → Type 0
AddedGiven b p r entries pool = AddedBy (properties_refusal b p) (Some p) b r entries pool
