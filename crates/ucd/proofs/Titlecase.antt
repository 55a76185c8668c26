-- Fields 12 and 14: what a field says that may be empty, and the titlecase that the two give.
-- Assumes nothing.
use mathlib.Core.Path.{◌≡◌, refl, sym, ◌∙◌, ap}
use Prim.Native.Nat.{ℕ}
use mathlib.Core.Bool.{Bool, true, false, cond, ◌||◌}
use Rattle.std.specs.Prelude.{Option, None, Some, Err, ok_or}
use mathlib.Core.List.{List, [], ◌∷◌}
use Rattle.terms.specs.Lists.{empty, there}
use Rattle.terms.proofs.Tests.{none-some}
use Rattle.ucd.proofs.Options.{both-some}
use lib.ListN.{drop}
use Rattle.ucd.specs.Promises.{number_read, TitlecaseRead}
use Rattle.ucd.specs.declared.LineFault.TheVariants.{Field12, Field14}
use Rattle.terms.specs.declared.CodePoint.{CodePoint}
use Rattle.ucd.proofs.Cutting.{field-left}
use Rattle.ucd.specs.Fields.{fields, field, code_point, optional, code_point_or, titlecase}

-- ---- a field that may be empty

-- it is well formed where it says a code point
pub optional-says : (c : ℕ) (os : List ℕ) → optional os ≡ there (code_point_or c os)
unfolding code_point_or
optional-says c os = go (empty os)
  where
    go : (b : Bool) → b || there (code_point os) ≡ there (cond b (Some c) (code_point os))
    go true = refl
    go false = refl

-- so one that says a code point is well formed
pub says-formed : (c u : ℕ) (os : List ℕ) → code_point_or c os ≡ Some u → optional os ≡ true
says-formed c u os e = optional-says c os ∙ ap there e

-- it says what it writes
written : (c u : ℕ) (os : List ℕ) → code_point os ≡ Some u → code_point_or c os ≡ Some u
unfolding code_point_or code_point
written c u [] e = absurd (none-some u e)
written c u (o ∷ os) e = e

-- ---- both fields

-- the titlecase is what field 14 says after what field 12 says
pub titlecase-some : (c : ℕ) (upper title : List ℕ) (u t : ℕ) → code_point_or c upper ≡ Some u → code_point_or u title ≡ Some t
    → titlecase c upper title ≡ Some t
unfolding titlecase
titlecase-some c upper title u t e f = rw (e, f)

-- fields that give one are well formed
pub titlecase-formed : (c : ℕ) (upper title : List ℕ) (t : ℕ) → titlecase c upper title ≡ Some t
    → (optional upper ≡ true) × (optional title ≡ true)
unfolding titlecase
titlecase-formed c upper title t e =
    let u = both-some (code_point_or c upper) _ e in
    (says-formed c u.0 upper u.1, says-formed u.0 t title u.2)

-- a filled field 14 decides
pub titlecase-filled : (c : ℕ) (upper title : List ℕ) (s t : ℕ) → titlecase c upper title ≡ Some s → code_point title ≡ Some t
    → s ≡ t
unfolding titlecase
titlecase-filled c upper title s t e f =
    let u = both-some (code_point_or c upper) _ e in
    let same : Some s ≡ Some t = sym u.2 ∙ written u.0 t title f in
    cc

-- where it is empty, field 12 does
pub titlecase-upper : (c : ℕ) (upper : List ℕ) (s u : ℕ) → titlecase c upper [] ≡ Some s → code_point upper ≡ Some u → s ≡ u
unfolding titlecase code_point_or
titlecase-upper c upper s u e f =
    let v = both-some (code_point_or c upper) _ e in
    let same : Some v.0 ≡ Some u = sym v.1 ∙ written c u upper f in
    let is : Some v.0 ≡ Some s = v.2 in
    cc

-- and where both are, there is none but itself
pub titlecase-none : (c s : ℕ) → titlecase c [] [] ≡ Some s → s ≡ c
unfolding titlecase code_point_or
titlecase-none c s e = let same : Some c ≡ Some s = e in cc

-- ---- what the reading of both answers

module _ (c : ℕ) (line from-12 : List ℕ) (left : fields from-12 ≡ drop 12 (fields line)) where
  -- field 12 is malformed
  pub read-uppercase : code_point_or c (field 0 from-12) ≡ None → TitlecaseRead c line (Err Field12)
  read-uppercase e = rw (← field-left line from-12 12 0 left) (optional-says c (field 0 from-12) ∙ ap there e)

  -- it isn't: what is read of field 14 is the titlecase, or says that that is
  pub read-titlecase : (u : ℕ) (r : Option CodePoint)
      → code_point_or c (field 0 from-12) ≡ Some u
      → number_read r ≡ code_point_or u (field 2 from-12)
      → TitlecaseRead c line (ok_or r Field14)
  read-titlecase u None upper e = record {
    formed = rw (← field-left line from-12 12 0 left) (says-formed c u (field 0 from-12) upper);
    malformed = rw (← field-left line from-12 12 2 left) (optional-says u (field 2 from-12) ∙ ap there (sym e));
  }
  read-titlecase u (Some t) upper e =
      rw (← field-left line from-12 12 0 left, ← field-left line from-12 12 2 left)
      (titlecase-some c (field 0 from-12) (field 2 from-12) u t.0 upper (sym e))
