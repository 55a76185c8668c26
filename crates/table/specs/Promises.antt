-- What the functions on a table of the form ask for.
-- Assumes nothing.
use Rattle.std.specs.Prelude.{ℕ, suc, ◌+◌, ◌<◌, ◌≤◌, List}
use Rattle.table.specs.Layout.{entry_count, code_at}

-- the code points of the entries ascend
abbrev pub Ascending : List ℕ → Type 0
Ascending es = (i : ℕ) → suc i < entry_count es → code_at es i < code_at es (suc i)

-- the entries of which one may be that of code point c, `size` of them from `low` on: the first of them is at or below c, and all
-- entries after them are above it
pub record Candidates (es : List ℕ) (c low size : ℕ) : Type 0 where
  pub within : low + size ≤ entry_count es
  pub first : 0 < size → code_at es low ≤ c
  pub above : (k : ℕ) → low + size ≤ k → k < entry_count es → c < code_at es k
