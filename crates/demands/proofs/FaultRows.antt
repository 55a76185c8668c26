-- A row of checks that renders a row of faults gives the first that applies, with its number and detail, and nothing where
-- none does.
-- Assumes nothing.
use mathlib.Core.Path.{◌≡◌, refl, sym, ap, ◌∙◌, subst}
use Prim.Native.Nat.{ℕ, suc}
use mathlib.Core.Bool.{Bool, true, false, not, true≢false}
use mathlib.Core.Logic.{◌⊎◌, inl, inr, ◌↔◌}
use Rattle.std.specs.Prelude.{Option, None, Some}
use mathlib.Core.List.{List, [], ◌∷◌, ◌++◌}
use lib.Dec.{eqb}
use lib.ListN.{take, drop}
use borrow.Author.Tests.{eq-eqb, not-true}
use Rattle.terms.specs.Lists.{all}
use Rattle.terms.specs.Refusals.{refusal, check, first}
use Rattle.terms.specs.declared.Refusal.{Refusal}
use Rattle.terms.proofs.Lists.{all_first, all_rest}
use Rattle.terms.proofs.Tests.{none-some}
use Rattle.table.specs.Table.{refused_at}
use Rattle.demands.specs.Faults.{Fault, fault, plain, Clear, FirstFault}

-- ---- one check

-- a check gives its fault's number, with place 0, exactly when the fault applies, with that detail
pub record Renders (c : Option Refusal) (f : Fault) : Type 0 where
  pub numbered : (x : Refusal) → c ≡ Some x → x ≡ refusal f.number 0 x.detail
  pub exactly : (d : ℕ) → (c ≡ Some (refusal f.number 0 d)) ↔ f.applies d

-- what a refusal is
pub some_same : (x y : Refusal) → Some x ≡ Some y → x ≡ y
some_same x y e = cc

detail-of : {n m d e : ℕ} → refusal n 0 d ≡ refusal m 0 e → d ≡ e
detail-of q = ap (λ (r : Refusal). r.detail) q

-- a check by a test, with its detail
pub renders-check : (b : Bool) (n m : ℕ) {A : Type 0} → (b ≡ true) ↔ A
    → Renders (check b n 0 m) (fault n (λ d. (d ≡ m) × A))
renders-check true n m h = record {
  numbered = λ x e. let is = some_same (refusal n 0 m) x e in rw (← is);
  exactly = λ d. (
    λ e. (sym (detail-of (some_same (refusal n 0 m) (refusal n 0 d) e)), h.0 refl),
    λ p. rw p.0,
  );
}
renders-check false n m h = record {
  numbered = λ x e. absurd (none-some x e);
  exactly = λ d. (λ e. absurd (none-some _ e), λ p. absurd (true≢false (sym (h.1 p.1))));
}

-- and with detail 0
pub renders-plain : (b : Bool) (n : ℕ) {A : Type 0} → (b ≡ true) ↔ A → Renders (check b n 0 0) (plain n A)
renders-plain b n h = renders-check b n 0 h

-- a check by where a fault was found, which is its detail
pub renders-at : (n : ℕ) (o : Option ℕ) {at : ℕ → Type 0} → ((i : ℕ) → (o ≡ Some i) ↔ at i) → Renders (refused_at n o) (fault n at)
renders-at n None h = record {
  numbered = λ x e. absurd (none-some x e);
  exactly = λ d. (λ e. absurd (none-some _ e), λ p. absurd (none-some d ((h d).1 p)));
}
renders-at n (Some i) h = record {
  numbered = λ x e. let is = some_same (refusal n 0 i) x e in rw (← is);
  exactly = λ d. (
    λ e. (h d).0 (ap Some (detail-of (some_same (refusal n 0 i) (refusal n 0 d) e))),
    λ p. let is : Some i ≡ Some d = (h d).1 p in cc,
  );
}

-- ---- a row

-- each check of a row renders a fault
abbrev pub RendersEach : List (Option Refusal) → List Fault → Type 0
RendersEach [] [] = Unit {0}
RendersEach [] (f ∷ fs) = ⊥
RendersEach (c ∷ cs) [] = ⊥
RendersEach (c ∷ cs) (f ∷ fs) = Renders c f × RendersEach cs fs

-- one row after another
pub renders-append : (cs : List (Option Refusal)) (fs : List Fault) (ds : List (Option Refusal)) (gs : List Fault)
    → RendersEach cs fs → RendersEach ds gs → RendersEach (cs ++ ds) (fs ++ gs)
renders-append [] [] ds gs r s = s
renders-append [] (f ∷ fs) ds gs r s = absurd r
renders-append (c ∷ cs) [] ds gs r s = absurd r
renders-append (c ∷ cs) (f ∷ fs) ds gs r s = (r.0, renders-append cs fs ds gs r.1 s)

-- a check that gives nothing renders a fault that does not apply
unapplied : (f : Fault) → Renders None f → (d : ℕ) → f.applies d → ⊥
unapplied f r d a = none-some _ ((r.exactly d).1 a)

-- and one that gives something a fault that does
applied : (f : Fault) (x : Refusal) → Renders (Some x) f → f.applies x.detail
applied f x r = (r.exactly x.detail).0 (ap Some (r.numbered x refl))

-- the first that applies is given
pub row-exactly : (cs : List (Option Refusal)) (fs : List Fault) → RendersEach cs fs
    → (n d : ℕ) → (first cs ≡ Some (refusal n 0 d)) ↔ FirstFault fs n d
row-exactly [] [] r n d = (λ e. none-some _ e, λ h. absurd h)
row-exactly [] (f ∷ fs) r n d = absurd r
row-exactly (c ∷ cs) [] r n d = absurd r
row-exactly (None ∷ cs) (f ∷ fs) r n d =
    let later = row-exactly cs fs r.1 n d in
    (λ e. inr (unapplied f r.0, later.0 e), given later)
  where
    given : (first cs ≡ Some (refusal n 0 d)) ↔ FirstFault fs n d
        → ((f.number ≡ n) × f.applies d) ⊎ (((e : ℕ) → f.applies e → ⊥) × FirstFault fs n d)
        → first cs ≡ Some (refusal n 0 d)
    given later (inl h) = absurd (unapplied f r.0 d h.1)
    given later (inr h) = later.1 h.1
row-exactly (Some x ∷ cs) (f ∷ fs) r n d = (found, given)
  where
    found : Some x ≡ Some (refusal n 0 d) → ((f.number ≡ n) × f.applies d) ⊎ (((e : ℕ) → f.applies e → ⊥) × FirstFault fs n d)
    found e =
        let is = some_same x (refusal n 0 d) e in
        let told = r.0.numbered x refl in
        inl (
          sym (ap (λ (y : Refusal). y.number) told) ∙ ap (λ (y : Refusal). y.number) is,
          rw (ap (λ (y : Refusal). y.detail) is) at (applied f x r.0),
        )

    given : ((f.number ≡ n) × f.applies d) ⊎ (((e : ℕ) → f.applies e → ⊥) × FirstFault fs n d) → Some x ≡ Some (refusal n 0 d)
    given (inl h) = (r.0.exactly d).1 h.1 ∙ rw h.0
    given (inr h) = absurd (h.0 x.detail (applied f x r.0))

-- nothing is given exactly when none applies
pub row-clear : (cs : List (Option Refusal)) (fs : List Fault) → RendersEach cs fs → (first cs ≡ None) ↔ Clear fs
row-clear [] [] r = (λ e. tt, λ h. refl)
row-clear [] (f ∷ fs) r = absurd r
row-clear (c ∷ cs) [] r = absurd r
row-clear (None ∷ cs) (f ∷ fs) r =
    let later = row-clear cs fs r.1 in (λ e. (unapplied f r.0, later.0 e), λ h. later.1 h.1)
row-clear (Some x ∷ cs) (f ∷ fs) r = (
  λ e. absurd (none-some x (sym e)),
  λ h. absurd (h.0 x.detail (applied f x r.0)),
)

-- ---- one number of a row

-- no fault of a row has the number n
abbrev pub absent : ℕ → List Fault → Bool
absent n fs = all (λ (f : Fault). not (eqb f.number n)) fs

absent-first : (n d : ℕ) (fs : List Fault) → absent n fs ≡ true → FirstFault fs n d → ⊥
absent-first n d [] e h = h
absent-first n d (f ∷ fs) e (inl h) =
    true≢false (sym (eq-eqb f.number n h.0) ∙ not-true _ (all_first (λ (f : Fault). not (eqb f.number n)) f fs e))
absent-first n d (f ∷ fs) e (inr h) = absent-first n d fs (all_rest (λ (f : Fault). not (eqb f.number n)) f fs e) h.1

-- the number of a fault that no other of the row has is given exactly when that fault applies and none before it does
number-exactly : (before : List Fault) (f : Fault) (after : List Fault)
    → absent f.number before ≡ true → absent f.number after ≡ true
    → (d : ℕ) → FirstFault (before ++ f ∷ after) f.number d ↔ (Clear before × f.applies d)
number-exactly [] f after a b d = (found, λ h. inl (refl, h.1))
  where
    found : ((f.number ≡ f.number) × f.applies d) ⊎ (((e : ℕ) → f.applies e → ⊥) × FirstFault after f.number d)
        → Unit {0} × f.applies d
    found (inl h) = (tt, h.1)
    found (inr h) = absurd (absent-first f.number d after b h.1)
number-exactly (g ∷ before) f after a b d =
    let later =
    number-exactly before f after (all_rest (λ (g : Fault). not (eqb g.number f.number)) g before a) b d in
    (found later, λ h. inr (h.0.0, later.1 (h.0.1, h.1)))
  where
    found : (FirstFault (before ++ f ∷ after) f.number d ↔ (Clear before × f.applies d))
        → ((g.number ≡ f.number) × g.applies d)
        ⊎ (((e : ℕ) → g.applies e → ⊥) × FirstFault (before ++ f ∷ after) f.number d)
        → (((e : ℕ) → g.applies e → ⊥) × Clear before) × f.applies d
    found later (inl h) =
        absurd (true≢false (sym (eq-eqb g.number f.number h.0) ∙ not-true _
        (all_first (λ (g : Fault). not (eqb g.number f.number)) g before a)))
    found later (inr h) = let rest = later.0 h.1 in ((h.0, rest.0), rest.1)

-- the same of the fault at place i of a row
pub number_at : (row : List Fault) (i : ℕ) (f : Fault) → row ≡ take i row ++ f ∷ drop (suc i) row
    → absent f.number (take i row) ≡ true → absent f.number (drop (suc i) row) ≡ true
    → (d : ℕ) → FirstFault row f.number d ↔ (Clear (take i row) × f.applies d)
number_at row i f e a b d =
    subst (λ (r : List Fault). FirstFault r f.number d ↔ (Clear (take i row) × f.applies d)) (sym e)
    (number-exactly (take i row) f (drop (suc i) row) a b d)

-- and of one whose detail is 0
pub plain_at : (row : List Fault) (i n : ℕ) (A : Type 0) → row ≡ take i row ++ plain n A ∷ drop (suc i) row
    → absent n (take i row) ≡ true → absent n (drop (suc i) row) ≡ true
    → FirstFault row n 0 ↔ (Clear (take i row) × A)
plain_at row i n A e a b =
    let h = number_at row i (plain n A) e a b 0 in
    (λ f. ((h.0 f).0, (h.0 f).1.1), λ p. h.1 (p.0, (refl, p.1)))
