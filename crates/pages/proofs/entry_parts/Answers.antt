-- `pages::entry_parts` meets its contract: an entry that was found is one of the table's.
-- Assumes nothing.
use Rattle.table.proofs.Form.{entry_of-some}
use Rattle.pages.proofs.entry_parts.Goals as goal
use mathlib.Core.Path.{sym}

pub parts_at-requires : goal.parts_at-requires
parts_at-requires c = record {
  pool_value = c.requires.findable.form;
  i_bound = (entry_of-some _ _ _ (sym c.in-Some.ensures)).0;
}
