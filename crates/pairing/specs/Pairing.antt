-- A line of the program `pairs`: "first text, tab, second text (later tabs belong to it)". What it answers, and what it
-- leaves in the two key buffers.
-- Assumes nothing.
use Rattle.std.specs.Prelude.{◌≡◌, ℕ, suc, ◌<◌, Bool, not, List, [], ◌∷◌, ◌++◌, ltb, eqb, length, take, drop, get_or}
use Rattle.std.specs.Prelude.{Option, None, Some}
use Rattle.terms.specs.Lists.{there, lowest}
use Rattle.terms.specs.Refusals.{check, first, Outcome, refused}
use Rattle.terms.specs.declared.Collation.TheVariants.{UnicodeCasemap}
use Rattle.terms.specs.declared.Refusal.{Refusal}
use Rattle.table.specs.Table.{Table}
use Rattle.pages.specs.Pages.{Pages}
use Rattle.prepare.specs.Calls.{Call, call, lent, call_refusal, answer_of, buffers_after}
use Rattle.compare.specs.Compare.{order_values}

-- ---- the two texts

-- the longest line that is taken, in octets (2)
abbrev pub pair_most : ℕ
pair_most = 8193

-- an octet of a line is a tab
abbrev pub is_tab : List ℕ → ℕ → Bool
is_tab line i = eqb (get_or line i 0) 0x09

-- where the first tab stands, if there is one
abbrev pub tab_of : List ℕ → Option ℕ
tab_of line = lowest (is_tab line) (length line)

-- a line is cut at its first tab: what stands before it is the first text, and what stands after it the second
pub record CutAtTab (line : List ℕ) : Type 0 where
  pub at : ℕ
  pub tab : tab_of line ≡ Some at
  pub within : at < length line
  pub whole : line ≡ take at line ++ (0x09 ∷ drop (suc at) line)

-- what stands before a place of a line, and what stands after it, compared under i;unicode-casemap
abbrev pub call_around : List ℕ → Table → Pages → List ℕ → List ℕ → ℕ → Call
call_around line t p firstBuffer secondBuffer at =
    call (Some UnicodeCasemap) t p (lent (take at line) firstBuffer ∷ lent (drop (suc at) line) secondBuffer ∷ [])

-- the call that a line with a tab at a place is; without a tab it is none
abbrev pub call_at : List ℕ → Table → Pages → List ℕ → List ℕ → Option ℕ → Option Call
call_at line t p firstBuffer secondBuffer None = None
call_at line t p firstBuffer secondBuffer (Some at) = Some (call_around line t p firstBuffer secondBuffer at)

-- ---- the answer

-- "one over 8,193 octets is refused 2, before 9 is looked for": no tab in the line
abbrev pub pair_refusal : List ℕ → Option Refusal
pair_refusal line =
    first (check (ltb pair_most (length line)) 2 0 0 ∷ check (not (there (tab_of line))) 9 0 0 ∷ [])

-- the answer of a line: its refusal, and else the order of its texts
abbrev pub judged : Option Refusal → Option Call → Option Outcome
judged (Some r) c = Some (refused r)
judged None None = None
judged None (Some c) = answer_of (call_refusal c) (order_values c)

-- the two key buffers after a line: as the comparison leaves them, and as before if there is none
abbrev pub buffers_left : Option Refusal → Option Call → List (List ℕ) → List (List ℕ)
buffers_left (Some r) c before = before
buffers_left None None before = before
buffers_left None (Some c) before = buffers_after (call_refusal c) c

-- the answer for a line
unfoldable pub pair_answer : List ℕ → Table → Pages → List ℕ → List ℕ → Option Outcome
pair_answer line t p firstBuffer secondBuffer = judged (pair_refusal line) (call_at line t p firstBuffer secondBuffer (tab_of line))

-- the two key buffers after it
unfoldable pub pair_buffers : List ℕ → Table → Pages → List ℕ → List ℕ → List (List ℕ)
pair_buffers line t p firstBuffer secondBuffer =
    buffers_left (pair_refusal line) (call_at line t p firstBuffer secondBuffer (tab_of line)) (firstBuffer ∷ secondBuffer ∷ [])
