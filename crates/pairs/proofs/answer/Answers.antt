-- `pairs::answer`: an accepted table has the form, and what is filled are its pages.
use Rattle.std.proofs.Common.{sym, subst, arith}
use Rattle.table.specs.Table.{table}
use Rattle.pages.specs.Promises.{Paged}
use Rattle.table.proofs.Form.{formed-ascending}
use Rattle.pages.proofs.Paging.{filled-paged}
use Rattle.decompose.proofs.Demand3.{accepted-form}
use Rattle.pairs.proofs.answer.Goals as goal

pub fill_pages-requires-clause-ascending : goal.fill_pages-requires-clause-ascending
fill_pages-requires-clause-ascending g c =
    let t = table c.args.entries.now c.args.pool.now in
    formed-ascending t (accepted-form t c.requires)

pub answer_all-requires : goal.answer_all-requires
answer_all-requires g c = record {
  accepted = c.requires;
  paged =
      subst (Paged c.args.entries.now) (sym c.fill_pages.ensures)
      (filled-paged c.args.entries.now _ (omega arith) (omega arith));
}
