-- The builder: the refusals of a line in the paper's order, what a line leaves in the state and the two slices, and what it
-- answers.
-- Assumes nothing.
use Rattle.std.specs.Prelude.{◌≡◌, ℕ, ◌+◌, Bool, cond, ◌&&◌, ◌||◌, not, List, [], ◌∷◌, ◌++◌, ltb, length}
use Rattle.std.specs.Prelude.{Option, None, Some, Result, Ok, Err}
use Rattle.terms.specs.CodePoints.{scalar}
use Rattle.terms.specs.Lists.{all, put_at}
use Rattle.terms.specs.Refusals.{entries_most, pool_most, first, answer, Outcome, refused, gives}
use Rattle.terms.specs.declared.Refusal.{Refusal}
use Rattle.hangul.specs.Hangul.{syllable}
use Rattle.table.specs.Layout.{Entry, entry, entry_count, put_entry}
use Rattle.table.specs.Table.{Table, table}
use Rattle.ucd.specs.Lines.{Properties, line_properties, says_nothing, line_check, reading_checks}
use Rattle.builder.specs.declared.LineState.{LineState}
use Rattle.builder.specs.declared.RefusedLine.{RefusedLine}

-- the state and the two slices
pub record Built : Type 0 where
  pub state : LineState
  pub table : Table

-- the same by their values
abbrev pub built : LineState → List ℕ → List ℕ → Built
built st entries pool = record { state = st; table = table entries pool }

-- ---- refusals, over slices that hold so many whole entries and pool numbers

-- "more used than the slices hold, in whole entries, over the limits of 3": so many entries and pool numbers are too many
abbrev pub overfull : ℕ → ℕ → ℕ → ℕ → Bool
overfull used filled entries pool = ltb entries used || ltb entries_most used || ltb pool filled || ltb pool_most filled

-- 28: "state impossible (more used than the slices hold .., or last above 110000 hex)"
abbrev pub impossible : LineState → ℕ → ℕ → Bool
impossible st entries pool = overfull st.entries_used st.pool_used entries pool || ltb 0x110000 st.next

-- 25: "a line with a mapping has a surrogate in field 0, 5 or 14", or in 12 where that is taken (the code points are at most
-- 10FFFF, so no other is not scalar); "and a line with a mapping for one", a syllable, "gets 25"
abbrev pub barred : Properties → Bool
barred p =
    not (says_nothing p)
    && (not (scalar p.code && scalar p.title && all scalar p.parts) || syllable p.code)

-- 27: "no room for the entry or its parts, or a limit of 3 passed"
abbrev pub crowded : LineState → ℕ → ℕ → Properties → Bool
crowded st entries pool p =
    not (says_nothing p) && overfull (st.entries_used + 1) (st.pool_used + length p.parts) entries pool

-- 25 to 27: of what a line gives
abbrev pub properties_checks : LineState → ℕ → ℕ → Properties → List (Option Refusal)
properties_checks st entries pool p =
    line_check (barred p) 25
    ∷ line_check (ltb p.code st.next) 26
    ∷ line_check (crowded st entries pool p) 27
    ∷ []

-- the same of a line; one that gives nothing is refused before
abbrev pub given_checks : LineState → ℕ → ℕ → Option Properties → List (Option Refusal)
given_checks st entries pool None = []
given_checks st entries pool (Some p) = properties_checks st entries pool p

-- all checks of a line "in this order": 28, 20 to 23, 29, 24, 25 to 27
abbrev pub line_checks : LineState → ℕ → ℕ → List ℕ → List (Option Refusal)
line_checks st entries pool line =
    line_check (impossible st entries pool) 28
    ∷ reading_checks line ++ given_checks st entries pool (line_properties line)

-- the refusal of a line, if there is one
unfoldable pub line_refusal : Built → List ℕ → Option Refusal
line_refusal b line = first (line_checks b.state (entry_count b.table.entries) (length b.table.pool) line)

-- ---- what a line leaves

-- an entry for what a line gives, its parts at the next free place of the pool
abbrev pub entry_for : LineState → Properties → Entry
entry_for st p = entry p.code p.title st.pool_used (length p.parts)

-- "It appends at most one entry": the entry and its parts, each at the next free place
abbrev pub appended : Built → Properties → Built
appended b p = record {
  state = record {
    entries_used = b.state.entries_used + 1;
    pool_used = b.state.pool_used + length p.parts;
    next = p.code + 1;
  };
  table = table
      (put_entry b.state.entries_used (entry_for b.state p) b.table.entries)
      (put_at b.state.pool_used p.parts b.table.pool);
}

-- "Lines that say nothing .. only move the last code point"
abbrev pub moved : Built → Properties → Built
moved b p = record {
  state = record { entries_used = b.state.entries_used; pool_used = b.state.pool_used; next = p.code + 1 };
  table = b.table;
}

-- what properties leave
abbrev pub added : Built → Properties → Built
added b p = cond (says_nothing p) (moved b p) (appended b p)

-- what a line gives, unless it is refused
abbrev pub unless_refused : Option Refusal → Option Properties → Option Properties
unless_refused None given = given
unless_refused (Some r) given = None

-- what an accepted line gives; nothing of a line that is refused
abbrev pub accepted : Built → List ℕ → Option Properties
accepted b line = unless_refused (line_refusal b line) (line_properties line)

-- what that leaves: "state and slices stay on refusal"
abbrev pub add_given : Built → Option Properties → Built
add_given b None = b
add_given b (Some p) = added b p

-- the state and slices after a line
unfoldable pub add_line : Built → List ℕ → Built
add_line b line = add_given b (accepted b line)

-- after a sequence of lines, one after another
unfoldable pub add_lines : Built → List (List ℕ) → Built
add_lines b [] = b
add_lines b (line ∷ lines) = add_lines (add_line b line) lines

-- "the fresh state (all zeros)"
abbrev pub fresh : LineState
fresh = record { entries_used = 0; pool_used = 0; next = 0 }

-- ---- the answer in the paper's numbers

-- the numbers of a state
abbrev pub state_numbers : LineState → List ℕ
state_numbers st = st.entries_used ∷ st.pool_used ∷ st.next ∷ []

-- a refused line, with the state that came in
abbrev pub refused_line : Refusal → LineState → RefusedLine
refused_line r st = record { refusal = r; state = st }

-- the answer: on a refusal its number; else the state
abbrev pub line_outcome : Result LineState RefusedLine → Outcome
line_outcome (Ok st) = gives (state_numbers st)
line_outcome (Err e) = refused e.refusal

-- the state that comes back, refused or not
abbrev pub state_after : Result LineState RefusedLine → LineState
state_after (Ok st) = st
state_after (Err e) = e.state

-- what a line answers
abbrev pub line_answer : Built → List ℕ → Outcome
line_answer b line = answer (line_refusal b line) (state_numbers (add_line b line).state)

-- a line was added: the answer, and the state and slices that are left
pub record Added (b : Built) (line : List ℕ) (r : Result LineState RefusedLine) (entries pool : List ℕ) : Type 0 where
  pub answered : line_outcome r ≡ line_answer b line
  pub left : built (state_after r) entries pool ≡ add_line b line
