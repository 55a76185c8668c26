-- What the functions that look an entry up ask for, and what reading one page comes to.
-- Assumes nothing.
use Rattle.std.specs.Prelude.{◌≡◌, ℕ, suc, ◌*◌, ◌≤◌, ◌<◌, List, length, get_or}
use Rattle.std.specs.Prelude.{None}
use Rattle.terms.specs.Refusals.{pages_most}
use Rattle.table.specs.Layout.{entry_count, code_at}
use Rattle.table.specs.Table.{Table, form_refusal}
use Rattle.pages.specs.Pages.{Pages, page_size, presence_word, rank_of}
use Rattle.pages.specs.declared.Page.{Page}

-- two slices hold the pages of a table's entries: what a call that filled them left there
pub record Paged (es : List ℕ) (p : Pages) : Type 0 where
  pub presence-long : pages_most ≤ length p.presence
  pub ranks-long : pages_most ≤ length p.ranks
  pub words : (page : ℕ) → page < pages_most → get_or p.presence page 0 ≡ presence_word es page
  pub numbers : (page : ℕ) → page < pages_most → get_or p.ranks page 0 ≡ rank_of es page

-- a table has the form, and these are its pages: an entry can be found by them
pub record Findable (t : Table) (p : Pages) : Type 0 where
  pub form : form_refusal t ≡ None
  pub paged : Paged t.entries p

-- the entries whose code point is below c are the first i
pub record Parted (es : List ℕ) (c i : ℕ) : Type 0 where
  pub within : i ≤ entry_count es
  pub below : (k : ℕ) → k < i → code_at es k < c
  pub above : (k : ℕ) → i ≤ k → k < entry_count es → c ≤ code_at es k

-- a page was read: its word, and the first entry after it
pub record PageRead (es : List ℕ) (page : ℕ) (r : Page) : Type 0 where
  pub word : r.word ≡ presence_word es page
  pub next : Parted es (suc page * page_size) r.next
