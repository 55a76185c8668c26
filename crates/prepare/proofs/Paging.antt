-- The pages of a call: 15, what is left of both slices, and that a call says the same whatever pages of the length it was lent.
-- Assumes nothing.
use Rattle.std.specs.Prelude.{Option, None, Some, Ok, Err}
use mathlib.Core.Path.{◌≡◌, refl, sym, ap, ap₂, ◌∙◌}
use Prim.Native.Nat.{ℕ}
use mathlib.Core.Bool.{Bool, true, false, cond, ◌&&◌}
use mathlib.Core.List.{List}
use lib.Dec.{ltb}
use lib.ListN.{length}
use borrow.Author.Tests.{ltb-false, le-ltb}
use Rattle.terms.specs.Collations.{reads_table}
use Rattle.terms.specs.Refusals.{pages_most, refusal, check, Outcome}
use Rattle.terms.specs.declared.Collation.{Collation}
use Rattle.terms.specs.declared.Refusal.{Refusal}
use Rattle.terms.proofs.Checks.{or_left, or_right, or_else-neither, when-none}
use Rattle.table.specs.Table.{Table}
use Rattle.pages.specs.Pages.{Pages, filled, short_pages}
use Rattle.pages.specs.Promises.{Paged}
use Rattle.pages.proofs.Paging.{filled-paged}
use Rattle.decompose.specs.TableCheck.{table_refusal, Usable}
use Rattle.keys.specs.Keys.{table_under, UsableUnder}
use Rattle.keys.proofs.Collations.{usable-accepted}
use Rattle.prepare.specs.Calls.{Lent, Call, call, pages_check, pages_under, lookup_check}
use Rattle.prepare.specs.Calls.{call_refusal, pages_by, answer_of, buffers_after, Called, UsableBy}
use Rattle.prepare.specs.Preparing.{Preparation, Prepares}
use Rattle.prepare.specs.Promises.{ChecksTable}

-- ---- 15

-- pages that were filled are long enough
paged-long : (es : List ℕ) (p : Pages) → Paged es p → short_pages p ≡ false
paged-long es p h =
    rw (le-ltb (length p.presence) pages_most h.presence-long, le-ltb (length p.ranks) pages_most h.ranks-long) refl

-- where table and pages may be gone on with, none of 3 to 7 and 15 applies
usable-pages : (k : Collation) (t : Table) (p : Pages) → UsableUnder k t p → pages_under k p ≡ None
usable-pages k t p u = go (reads_table k) u
  where
    go : (b : Bool) → (b ≡ true → Usable t p) → check (b && short_pages p) 15 0 0 ≡ None
    go true v = rw (paged-long t.entries p (v refl).paged) refl
    go false v = refl

pub usable-lookup : (o : Option Collation) (t : Table) (p : Pages) → UsableBy o t p → lookup_check o t p ≡ None
usable-lookup None t p u = refl
usable-lookup (Some k) t p u = rw (usable-accepted k t p (u k refl)) (usable-pages k t p (u k refl))

-- past these the pages that are left may be gone on with
pub lookup-usable : (k : Collation) (t : Table) (p q : Pages) → lookup_check (Some k) t p ≡ None
    → q ≡ pages_by None (Some k) t p → UsableUnder k t q
lookup-usable k t p q passed left reads =
    let both = or_else-neither (table_under k t) (pages_under k p) passed in
    let accepted : table_refusal t ≡ None = rw reads at both.0 in
    let long : short_pages p ≡ false = rw reads at (when-none (reads_table k && short_pages p) (refusal 15 0 0) both.1) in
    let words = ltb-false (length p.presence) pages_most (or_left _ (ltb (length p.ranks) pages_most) long) in
    let numbers = ltb-false (length p.ranks) pages_most (or_right (ltb (length p.presence) pages_most) _ long) in
    let is : q ≡ filled t.entries p = left ∙ ap (λ (b : Bool). cond b (filled t.entries p) p) reads in
    record { accepted = accepted; paged = rw is (filled-paged t.entries p words numbers) }

-- ---- a call lent other pages

-- 15 applies to neither: the refusal is the same
pub call_refusal-paged : (o : Option Collation) (t : Table) (p q : Pages) (ls : List Lent) → pages_check o p ≡ pages_check o q
    → call_refusal (call o t p ls) ≡ call_refusal (call o t q ls)
unfolding call_refusal
call_refusal-paged o t p q ls e = rw e refl

module _ {R : Type 0} {outcome : R → Outcome} {values : Call → Option (List ℕ)} {r : R} where
  -- so is the call, where its values don't go by the pages
  pub called-paged : {o : Option Collation} {t : Table} (p q : Pages) {ls : List Lent} {after : List (List ℕ)}
      → pages_check o p ≡ pages_check o q
      → values (call o t p ls) ≡ values (call o t q ls)
      → Called outcome values (call o t p ls) r after
      → Called outcome values (call o t q ls) r after
  called-paged {o} {t} p q {ls} {after} e same h =
      let x = call_refusal-paged o t p q ls e in
      record {
        answered = h.answered ∙ ap₂ (λ (y : Option Refusal) (v : Option (List ℕ)). answer_of y v) x same;
        left = h.left ∙ ap (λ (y : Option Refusal). buffers_after y (call o t p ls)) x ∙ buffers (call_refusal (call o t q ls));
      }
    where
      buffers : (y : Option Refusal) → buffers_after y (call o t p ls) ≡ buffers_after y (call o t q ls)
      buffers None = refl
      buffers (Some z) = refl

-- a prepared text too
pub prepares-paged : {o : Option Collation} {t : Table} (p q : Pages) {ls : List Lent} {r : Preparation} {after : List ℕ}
    → pages_check o p ≡ pages_check o q
    → Prepares (call o t p ls) r after
    → Prepares (call o t q ls) r after
prepares-paged p q e h = record { call = called-paged p q e refl h.call; most = h.most }

-- ---- the check of table and pages under a collation

module _ (k : Collation) (t : Table) (p : Pages) where
  -- a check that leaves the pages, by the refusal that it gives
  left-refused : (x : Refusal) → lookup_check (Some k) t p ≡ Some x → ChecksTable k t p (Err x) p
  left-refused x e = record { refusal = sym e; paged = rw e refl }

  -- the collation doesn't read the table
  pub table-unread : reads_table k ≡ false → ChecksTable k t p (Ok tt) p
  table-unread unread =
      let none-applies : lookup_check (Some k) t p ≡ None = rw unread refl in
      record { refusal = sym none-applies; paged = sym (rw (none-applies, unread) refl) }

  module _ (reads : reads_table k ≡ true) where
    -- one of 3 to 7
    pub table-refused : (x : Refusal) → table_refusal t ≡ Some x → ChecksTable k t p (Err x) p
    table-refused x e = left-refused x (rw (reads, e) refl)

    module _ (accepted : table_refusal t ≡ None) where
      -- 15
      pub table-short : short_pages p ≡ true → ChecksTable k t p (Err (refusal 15 0 0)) p
      table-short short = left-refused (refusal 15 0 0) (rw (reads, accepted, short) refl)

      -- none of these: the pages were filled
      pub table_filled : short_pages p ≡ false → (q : Pages) → q ≡ filled t.entries p → ChecksTable k t p (Ok tt) q
      table_filled long q e =
          let none-applies : lookup_check (Some k) t p ≡ None = rw (reads, accepted, long) refl in
          record { refusal = sym none-applies; paged = e ∙ sym (rw (none-applies, reads) refl) }
