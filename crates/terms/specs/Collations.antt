-- The collations (document 01, "The collations"): which number names which, and which of them read the table.
-- Assumes nothing.
use Rattle.std.specs.Prelude.{ℕ, Bool, true, false, cond, eqb}
use Rattle.std.specs.Prelude.{Option, None, Some}
use Rattle.terms.specs.declared.Collation.{Collation}
use Rattle.terms.specs.declared.Collation.TheVariants.{Octet, AsciiCasemap, UnicodeCasemap}

-- the collation of a number, if it is 1, 2 or 3
abbrev pub collation_of : ℕ → Option Collation
collation_of k = cond (eqb k 1) (Some Octet) (cond (eqb k 2) (Some AsciiCasemap) (cond (eqb k 3) (Some UnicodeCasemap) None))

-- "Collations 1 and 2 don't read the table"
abbrev pub reads_table : Collation → Bool
reads_table Octet = false
reads_table AsciiCasemap = false
reads_table UnicodeCasemap = true
