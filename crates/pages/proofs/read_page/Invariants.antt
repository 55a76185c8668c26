-- `pages::read_page` meets its contract. The loop's invariant: the entries below `i` were read, and `word` has the bits of those
-- on the page (`Reading`).
-- Assumes nothing.
use Rattle.pages.proofs.Reading.{Reading}
use Rattle.pages.proofs.read_page.Given as goal

abbrev pub invariant-loop-i : goal.invariant-loop-i
invariant-loop-i l = Reading l.entries l.page l.i l.word
