-- `search::seek_ready` meets its contract: `fill_two` prepares both texts, and `seek_shown` seeks in what they show.
-- Assumes nothing.
use Rattle.search.proofs.Seeking.{both-shows}
use Rattle.search.proofs.seek_ready.Goals as goal

-- both texts show their keys
pub seek_shown-requires-clause-shows : goal.seek_shown-requires-clause-shows
seek_shown-requires-clause-shows c = both-shows c.fill_two.ensures c.in_ok-one.was
