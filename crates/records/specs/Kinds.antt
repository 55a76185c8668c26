-- The kinds of record and their numbers: "Kind 1 is a text. Kind 2 is a key".
-- Assumes nothing.
use Rattle.std.specs.Prelude.{ℕ, cond, eqb}
use Rattle.std.specs.Prelude.{Option, None, Some}
use Rattle.records.specs.declared.Kind.{Kind}
use Rattle.records.specs.declared.Kind.TheVariants.{Text, Key}

-- the number of a kind
abbrev pub kind_number : Kind → ℕ
kind_number Text = 1
kind_number Key = 2

-- the kind of a number, if it is one's
abbrev pub kind_numbered : ℕ → Option Kind
kind_numbered n = cond (eqb n 1) (Some Text) (cond (eqb n 2) (Some Key) None)
