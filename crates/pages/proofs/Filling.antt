-- Both page slices filled page by page, `Filling es p page next after`.
-- Assumes nothing.
use mathlib.Core.Path.{◌≡◌, sym, ap, ap₂, ◌∙◌}
use Prim.Native.Nat.{ℕ, suc, ◌+◌, ◌*◌, ◌≤◌, ◌<◌}
use native.Mathlib.Omega.{arith}
use mathlib.Core.List.{List}
use lib.ListN.{length, set}
use lib.Seq.{take_all}
use Rattle.terms.specs.Lists.{over}
use Rattle.terms.specs.Refusals.{pages_most}
use Rattle.terms.proofs.Copying.{Copying, copying-start, copying-more, copying-done}
use Rattle.pages.specs.Pages.{page_size, presence_word, rank_of, up_to, pages, filled}
use Rattle.pages.specs.Promises.{Parted, PageRead}
use Rattle.pages.specs.declared.Page.{Page}
use Rattle.pages.proofs.Paging.{length-up_to, get_d-up_to}
use Rattle.pages.proofs.Ranks.{parted-start, rank_of-parted}

-- the first so many numbers of a slice were written, each what f says of its page
abbrev pub Written : (ℕ → ℕ) → List ℕ → ℕ → List ℕ → Type 0
Written f row page after = Copying (up_to f pages_most) pages_most row page after

-- one more
pub written-more : (f : ℕ → ℕ) {row after : List ℕ} {page : ℕ} → Written f row page after → page < pages_most
    → pages_most ≤ length row → (x : ℕ) → x ≡ f page → Written f row (page + 1) (set after page x)
written-more f {row} {after} {page} w h long x e =
    rw (e ∙ sym (get_d-up_to f pages_most page h)) (copying-more w h (omega (arith, length-up_to f pages_most)) long)

-- all
pub written-done : (f : ℕ → ℕ) {row after : List ℕ} {page : ℕ} → Written f row page after → pages_most ≤ page
    → after ≡ over (up_to f pages_most) row
written-done f {row} w h =
    let long : pages_most ≤ length (up_to f pages_most) = omega (arith, length-up_to f pages_most) in
    copying-done w h long ∙ ap (λ (xs : List ℕ). over xs row) (take_all pages_most (up_to f pages_most)
    (omega (arith, length-up_to f pages_most)))

-- the pages below `page` were filled, and the entries before it are the first `next`
pub record Filling (es presence ranks : List ℕ) (page next : ℕ) (presence' ranks' : List ℕ) : Type 0 where
  pub words : Written (presence_word es) presence page presence'
  pub numbers : Written (rank_of es) ranks page ranks'
  pub before : Parted es (page * page_size) next

pub filling-start : (es presence ranks : List ℕ) → Filling es presence ranks 0 0 presence ranks
filling-start es presence ranks = record {
  words = copying-start _ _ presence;
  numbers = copying-start _ _ ranks;
  before = parted-start es;
}

module _ {es presence ranks : List ℕ} {page next : ℕ} {presence' ranks' : List ℕ}
    (f : Filling es presence ranks page next presence' ranks') where
  -- one page more
  pub filling-more : page < pages_most → pages_most ≤ length presence → pages_most ≤ length ranks
      → (r : Page) → PageRead es page r
      → Filling es presence ranks (page + 1) r.next (set presence' page r.word) (set ranks' page next)
  filling-more h a b r read =
      let after : page + 1 ≡ suc page = omega arith in
      record {
        words = written-more (presence_word es) f.words h a r.word read.word;
        numbers = written-more (rank_of es) f.numbers h b next (sym (rank_of-parted page f.before));
        before = rw after read.next;
      }

  -- all
  pub filling-done : pages_most ≤ page → pages presence' ranks' ≡ filled es (pages presence ranks)
  filling-done h =
      ap₂ (λ (a b : List ℕ). pages a b)
      (written-done (presence_word es) f.words h)
      (written-done (rank_of es) f.numbers h)
