-- The table of a sequence of lines is grown, and so passes checks 3 to 6: "A table grown from the fresh state (all zeros), with
-- nothing altered between calls and the slices cut to what is used, passes checks 3 to 6."
-- Assumes nothing.
use mathlib.Core.Path.{◌≡◌, refl, ap, subst⁻¹}
use Prim.Native.Nat.{ℕ}
use native.Mathlib.Omega.{arith}
use mathlib.Core.Bool.{Bool, true, false, cond, not}
use Rattle.std.specs.Prelude.{Option, None, Some}
use mathlib.Core.List.{List, [], ◌∷◌}
use lib.ListN.{length}
use borrow.Author.Tests.{le-ltb}
use Rattle.terms.specs.CodePoints.{scalar}
use Rattle.terms.specs.Refusals.{entries_most, pool_most}
use Rattle.terms.proofs.Lists.{all-at}
use Rattle.table.specs.Layout.{entry_count}
use Rattle.table.specs.Table.{Table, counts_below, form_refusal}
use Rattle.table.proofs.Entries.{entry_count-first_entries, whole_entries-first_entries}
use Rattle.table.proofs.Form.{form-formed}
use Rattle.ucd.specs.Lines.{Properties, says_nothing}
use Rattle.builder.specs.Builder.{Built, moved, appended, added, accepted, add_line, add_lines}
use Rattle.builder.specs.Built.{start_of, cut}
use Rattle.builder.specs.Promises.{UsedFits}
use Rattle.builder.proofs.Refusals.{Passes, passes}
use Rattle.builder.proofs.Adding.{add_line-accepted, add_line-none}
use Rattle.builder.proofs.Grown.{Grown, length-pool, grown-start, grown-moved, fits-appended, grown-appended}

-- ---- the form

-- as many entries as are used
pub entry_count-cut : {b : Built} → Grown b → entry_count (cut b).entries ≡ b.state.entries_used
entry_count-cut {b} g = entry_count-first_entries b.state.entries_used b.table.entries g.fits.entries-held

-- a grown table has the form
pub grown-form : {b : Built} → Grown b → form_refusal (cut b) ≡ None
grown-form {b} g =
    let used = b.state.entries_used in
    let many = entry_count-cut g in
    let long = length-pool g in
    let counts : counts_below (cut b).entries (entry_count (cut b).entries) ≡ b.state.pool_used = rw many g.counted in
    form-formed (cut b)
    (record {
      size =
          rw (
            whole_entries-first_entries used b.table.entries g.fits.entries-held,
            le-ltb entries_most (entry_count (cut b).entries) (omega (arith, g.fits)),
            le-ltb pool_most (length (cut b).pool) (omega (arith, g.fits)),
          );
      codes = λ i h. g.codes i (omega arith);
      entries = λ i h. g.entries i (omega arith);
      whole = le-ltb (counts_below (cut b).entries (entry_count (cut b).entries)) (length (cut b).pool) (omega arith);
      numbers = λ j h. ap not (all-at scalar (cut b).pool j 0 g.numbers h);
    })

-- ---- lines

-- with what an accepted line gives it is grown
grown-added : (b : Built) (p : Properties) → Grown b → Passes b p → Grown (added b p)
grown-added b p g ok = go (says_nothing p) refl
  where
    go : (t : Bool) → says_nothing p ≡ t → Grown (cond t (moved b p) (appended b p))
    go true e = grown-moved p g ok.next
    go false e = grown-appended b p g ok.next (ok.room e) e (ok.allowed e) ok.few

-- whatever the line
pub grown-add_line : (b : Built) (line : List ℕ) → Grown b → Grown (add_line b line)
grown-add_line b line g = go (accepted b line) refl
  where
    go : (o : Option Properties) → accepted b line ≡ o → Grown (add_line b line)
    go None e = subst⁻¹ Grown (add_line-none b line e) g
    go (Some p) e = subst⁻¹ Grown (add_line-accepted b line p e) (grown-added b p g (passes b line p e))

-- what is used has room after it, whatever the line
pub fits-add_line : (b : Built) (line : List ℕ) → UsedFits b → UsedFits (add_line b line)
fits-add_line b line fits = go (accepted b line) refl
  where
    stored : (p : Properties) → Passes b p → (t : Bool) → says_nothing p ≡ t → UsedFits (cond t (moved b p) (appended b p))
    stored p ok true e = fits
    stored p ok false e = fits-appended b p (ok.room e)

    go : (o : Option Properties) → accepted b line ≡ o → UsedFits (add_line b line)
    go None e = rw (add_line-none b line e) fits
    go (Some p) e = rw (add_line-accepted b line p e) (stored p (passes b line p e) (says_nothing p) refl)

-- whatever the lines
pub grown-add_lines : (b : Built) (lines : List (List ℕ)) → Grown b → Grown (add_lines b lines)
unfolding add_lines
grown-add_lines b [] g = g
grown-add_lines b (line ∷ lines) g = grown-add_lines (add_line b line) lines (grown-add_line b line g)

-- a table built from the fresh state, cut to what is used, has the form
pub built-form : (t : Table) (lines : List (List ℕ)) → form_refusal (cut (add_lines (start_of t) lines)) ≡ None
built-form t lines = grown-form (grown-add_lines (start_of t) lines (grown-start t))
