-- A line that 2 and 9 don't refuse is cut at its first tab: there is one, and the two texts and the tab between them are the
-- line. 9 in words.
-- Assumes nothing.
use mathlib.Core.Path.{◌≡◌, refl, ap}
use Prim.Native.Nat.{ℕ, ◌≤◌, ◌<◌}
use native.Mathlib.Omega.{arith}
use mathlib.Core.Bool.{Bool, true, false, not}
use mathlib.Core.Logic.{◌↔◌}
use Rattle.std.specs.Prelude.{Option, None, Some}
use mathlib.Core.List.{List}
use lib.Dec.{ltb}
use lib.ListN.{length, get_or}
use lib.Seq.{split_at}
use borrow.Author.Tests.{ltb-false, eqb-true, eqb-false, le-ltb, ne_eqb, not-false}
use Rattle.terms.specs.Lists.{there, or_else}
use Rattle.terms.specs.Refusals.{check, refusal}
use Rattle.terms.specs.declared.Refusal.{Refusal}
use Rattle.terms.proofs.Checks.{or_else-neither, when-none}
use Rattle.terms.proofs.Lowest.{lowest-some, lowest-none, lowest-nowhere}
use Rattle.pairing.specs.Pairing.{pair_most, is_tab, tab_of, CutAtTab, pair_refusal}

-- a line that 2 and 9 don't refuse has a tab
tab-there : (line : List ℕ) → pair_refusal line ≡ None → there (tab_of line) ≡ true
tab-there line e =
    let long = check (ltb pair_most (length line)) 2 0 0 in
    let tabless = check (not (there (tab_of line))) 9 0 0 in
    let passed = (or_else-neither tabless None (or_else-neither long (or_else tabless None) e).1).0 in
    not-false _ (when-none (not (there (tab_of line))) (refusal 9 0 0) passed)

-- and is cut there
pub pair-cut : (line : List ℕ) → pair_refusal line ≡ None → CutAtTab line
pair-cut line e = go (tab_of line) refl (tab-there line e)
  where
    go : (o : Option ℕ) → tab_of line ≡ o → there o ≡ true → CutAtTab line
    go None q h = absurd (let z : ◌≡◌ {A = ℕ} 0 1 = cc in omega arith)
    go (Some i) q h =
        let found = lowest-some (is_tab line) (length line) i q in
        let octet : get_or line i 0 ≡ 0x09 = eqb-true (get_or line i 0) 0x09 found.holds in
        record {
          at = i;
          tab = q;
          within = found.below;
          whole = rw octet at (split_at line i 0 found.below);
        }

-- ---- 9 in words

-- 9 exactly when the line is not too long for 2 and no octet of it is a tab
pub number-9 : (line : List ℕ)
    → (pair_refusal line ≡ Some (refusal 9 0 0)) ↔ ((length line ≤ 8193) × ((i : ℕ) → i < length line → get_or line i 0 ≡ 0x09 → ⊥))
number-9 line = (
  λ e. go (ltb pair_most (length line)) refl (tab_of line) refl e,
  λ h.
      rw (
        le-ltb pair_most (length line) h.0,
        lowest-nowhere (is_tab line) (length line) (λ k l. ne_eqb (get_or line k 0) 0x09 (h.1 k l)),
      ),
)
  where
    go : (b : Bool) → ltb pair_most (length line) ≡ b → (o : Option ℕ) → tab_of line ≡ o
        → or_else (check b 2 0 0) (or_else (check (not (there o)) 9 0 0) None) ≡ Some (refusal 9 0 0)
        → (length line ≤ 8193) × ((i : ℕ) → i < length line → get_or line i 0 ≡ 0x09 → ⊥)
    go true p o q e =
        let same : refusal 2 0 0 ≡ refusal 9 0 0 = cc in absurd (omega (arith, ap (λ (r : Refusal). r.number) same))
    go false p (Some i) q e = let z : ◌≡◌ {A = ℕ} 0 1 = cc in absurd (omega arith)
    go false p None q e = (
      ltb-false pair_most (length line) p,
      λ i l. eqb-false (get_or line i 0) 0x09 (lowest-none (is_tab line) (length line) q i l),
    )
