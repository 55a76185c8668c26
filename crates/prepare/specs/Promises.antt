-- What the contracts of the checks and of the filling say with the definitions of the other files.
-- Assumes nothing.
use Rattle.std.specs.Prelude.{◌≡◌, ℕ, Bool, ◌&&◌, [], ◌∷◌, leb, ltb}
use Rattle.std.specs.Prelude.{Option, Some, Result, Ok, ⊤}
use Rattle.std.specs.Result.{result_err}
use Rattle.terms.specs.Collations.{reads_table}
use Rattle.terms.specs.Refusals.{check}
use Rattle.terms.specs.declared.Collation.{Collation}
use Rattle.terms.specs.declared.Refusal.{Refusal}
use Rattle.table.specs.Table.{Table}
use Rattle.pages.specs.Pages.{Pages}
use Rattle.keys.specs.declared.KeyPlace.{KeyPlace}
use Rattle.keys.specs.declared.KeyPlace.TheVariants.{Text, Buffer}
use Rattle.keys.specs.declared.Summary.{Summary}
use Rattle.prepare.specs.Calls.{texts_refusal, lookup_check, ready_by, pages_by}

-- texts of these lengths were checked for 1 and 2 (a call on one text has 0 for the second): the refusal, and else the collation
pub record ChecksTexts (o : Option Collation) (a b : ℕ) (r : Result Collation Refusal) : Type 0 where
  pub refusal : result_err r ≡ texts_refusal o (a ∷ b ∷ [])
  pub known : (k : Collation) → r ≡ Ok k → o ≡ Some k

-- and for 1 to 7 and 15
pub record ChecksCall (o : Option Collation) (a b : ℕ) (t : Table) (p : Pages) (r : Result Collation Refusal) : Type 0 where
  pub refusal : result_err r ≡ ready_by o (a ∷ b ∷ []) t p
  pub known : (k : Collation) → r ≡ Ok k → o ≡ Some k

-- and the pages were filled where none of these applies
pub record ChecksPaging (o : Option Collation) (a b : ℕ) (t : Table) (p : Pages) (r : Result Collation Refusal) (q : Pages) : Type 0 where
  pub checks : ChecksCall o a b t p r
  pub paged : q ≡ pages_by (ready_by o (a ∷ b ∷ []) t p) o t p

-- a table was checked under a collation, and so were the pages
pub record ChecksTable (k : Collation) (t : Table) (p : Pages) (r : Result ⊤ Refusal) (q : Pages) : Type 0 where
  pub refusal : result_err r ≡ lookup_check (Some k) t p
  pub paged : q ≡ pages_by (lookup_check (Some k) t p) (Some k) t p

-- the octets of the key buffer that a key of n octets needs, by where it stands
abbrev pub needed_at : KeyPlace → ℕ → ℕ
needed_at Text n = 0
needed_at Buffer n = n

-- 8 by a summary's numbers
abbrev pub room_needed : ℕ → ℕ → Summary → Option Refusal
room_needed place room s = check (ltb room (needed_at s.place s.key_length)) 8 place (needed_at s.place s.key_length)

-- the most octets of a text that is brief
abbrev pub brief_most : ℕ
brief_most = 64

-- a text of n octets is brief, under a collation that reads the table
abbrev pub brief : Collation → ℕ → Bool
brief k n = reads_table k && leb n brief_most
