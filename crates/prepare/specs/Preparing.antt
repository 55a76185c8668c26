-- What preparing a text answers, in the paper's numbers, and the key that it shows.
-- Assumes nothing.
use Rattle.std.specs.Prelude.{◌≡◌, ℕ, ◌*◌, ◌≤◌, List, [], ◌∷◌, ◌++◌}
use Rattle.std.specs.Prelude.{Option, Some, Result, Ok, Err}
use Rattle.terms.specs.Lists.{total}
use Rattle.terms.specs.Refusals.{Outcome, outcome}
use Rattle.terms.specs.declared.Refusal.{Refusal}
use Rattle.utf8.specs.Utf8.{characters}
use Rattle.keys.specs.Keys.{PreparedText}
use Rattle.keys.specs.declared.Summary.{Summary}
use Rattle.keys.specs.Summaries.{summary_numbers, prepared_numbers, shown_at, character_count}
use Rattle.pages.specs.Pages.{Pages}
use Rattle.prepare.specs.Calls.{Call, prepared_in, room_refusal, call_refusal, pages_after, Answers}

-- what preparing a text answers: its summary, or the refusal
abbrev pub Preparation : Type 0
Preparation = Result Summary Refusal

-- a preparation's answer
abbrev pub preparation_outcome : Preparation → Outcome
preparation_outcome r = outcome summary_numbers r

-- the numbers of two summaries, the first text's and then the second's
abbrev pub pair_numbers : Summary × Summary → List ℕ
pair_numbers p = summary_numbers p.0 ++ summary_numbers p.1

-- what preparing two texts answers: both summaries, or the refusal
abbrev pub PreparedPair : Type 0
PreparedPair = Result (Summary × Summary) Refusal

-- two preparations' answer
abbrev pub pair_outcome : PreparedPair → Outcome
pair_outcome r = outcome pair_numbers r

-- the numbers of prepared texts, one after another
abbrev pub numbers_of : List PreparedText → List ℕ
numbers_of [] = []
numbers_of (p ∷ ps) = prepared_numbers p ++ numbers_of ps

-- the values of a call that prepares its texts
abbrev pub prepared_values : Call → Option (List ℕ)
prepared_values c = Some (numbers_of (prepared_in c))

-- the key that a preparation shows: "On refusal .. a shown key is empty"
abbrev pub shown_key : Preparation → List ℕ → List ℕ → List ℕ
shown_key (Ok s) text buffer = shown_at s.place s.key_length text buffer
shown_key (Err r) text buffer = []

-- the lookup count of a preparation, 0 on a refusal
abbrev pub lookups_counted : Preparation → ℕ
lookups_counted (Ok s) = s.lookups
lookups_counted (Err r) = 0

-- how many characters the texts of a call have
abbrev pub call_characters : Call → ℕ
call_characters c = total (λ l. character_count (characters l.text)) c.lents

-- a text was prepared: the answer, the key buffer, and the lookup count's bound of 258 a character; the refusal is the call's, or
-- what is left of it where some checks were passed
pub record PreparesBy (x : Option Refusal) (c : Call) (r : Preparation) (after : List ℕ) : Type 0 where
  pub call : Answers preparation_outcome prepared_values x c r (after ∷ [])
  pub most : lookups_counted r ≤ 258 * call_characters c

abbrev pub Prepares : Call → Preparation → List ℕ → Type 0
Prepares c r after = PreparesBy (call_refusal c) c r after

-- and was lent the pages to fill
pub record PreparesPaging (c : Call) (r : Preparation) (after : List ℕ) (p : Pages) : Type 0 where
  pub prepares : Prepares c r after
  pub paged : p ≡ pages_after c

abbrev pub PreparesReady : Call → Preparation → List ℕ → Type 0
PreparesReady c r after = PreparesBy (room_refusal c) c r after
