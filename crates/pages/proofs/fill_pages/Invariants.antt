-- `pages::fill_pages` meets its contract. The loop's invariant: the pages below `page` were filled, and the first `next` entries
-- are those before it (`Filling`).
-- Assumes nothing.
use Rattle.pages.proofs.Filling.{Filling}
use Rattle.pages.proofs.fill_pages.Given as goal

abbrev pub invariant-loop-page : goal.invariant-loop-page
invariant-loop-page l = Filling l.entries l.initial.presence l.initial.ranks l.page l.next l.presence l.ranks
