-- `pages::fill_pages` meets its contract. The loop's invariant: the pages below `page` were filled, and the first `next` entries
-- are those before it (`Filling`).
-- Assumes nothing.
use Rattle.pages.proofs.Filling.{filling-more, filling-done}
use Rattle.pages.proofs.fill_pages.Goals as goal

pub loop-page-preserved : goal.loop-page-preserved
loop-page-preserved c =
    filling-more c.loop-page.invariant c.loop-page-test.true c.requires.pages_most_in_bounds c.requires.pages_most_in_bounds_2
    c.read_page-read.result c.read_page-read.ensures

pub returns : goal.returns
returns c = filling-done c.loop-page.invariant c.loop-page-test.false
