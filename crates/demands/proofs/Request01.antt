-- Document 02, request 1 (empty titlecase fields), each sentence with the theorems that render it; they take what the theorems
-- of the demands take (Demand1.antt says what).
-- Assumes nothing.
use mathlib.Core.Path.{◌≡◌, sym, ◌∙◌}
use Prim.Native.Nat.{ℕ}
use mathlib.Core.Logic.Iff
use mathlib.Core.Logic.{◌↔◌}
use Rattle.std.specs.Prelude.{Some}
use mathlib.Core.List.{List, [], ◌∷◌}
use Rattle.terms.specs.Lists.{In}
use Rattle.terms.specs.Refusals.{refusal}
use Rattle.table.specs.Table.{Table, mapping_of}
use Rattle.ucd.specs.Fields.{field, code_point, decomposition}
use Rattle.ucd.specs.Lines.{Properties, LineSays}
use Rattle.ucd.proofs.Titlecase.{titlecase-filled, titlecase-upper, titlecase-none}
use Rattle.builder.specs.Builder.{Built, line_refusal}
use Rattle.builder.specs.Built.{start_of, cut}
use Rattle.demands.specs.Demands.{Grows}
use Rattle.demands.specs.Faults.{Clear, SaysBarred, MapsBarred, fault28, reading_faults}
use Rattle.demands.proofs.LineFaults.{reading-says}
use Rattle.demands.proofs.Demand1.{number-25}
use Rattle.demands.proofs.Demand2.{built-says, built-gives}

-- ---- "UAX #44 says an empty titlecase means the simple uppercase, field 12. Take field 12 then,"

module _ {line : List ℕ} {p : Properties} (s : LineSays line p) where
  -- a line says one code point and one decomposition
  code-said : {c : ℕ} → code_point (field 0 line) ≡ Some c → p.code ≡ c
  code-said {c} e = let same : Some p.code ≡ Some c = sym s.code ∙ e in cc

  parts_said : {ps : List ℕ} → decomposition (field 5 line) ≡ Some ps → p.parts ≡ ps
  parts_said {ps} e = let same : Some p.parts ≡ Some ps = sym s.parts ∙ e in cc

  -- ---- and the titlecase

  -- field 12's, where field 14 is empty
  pub says-uppercase : (u : ℕ) → field 14 line ≡ [] → code_point (field 12 line) ≡ Some u → p.title ≡ u
  says-uppercase u e f = titlecase-upper p.code (field 12 line) p.title u (rw e at s.title) f

  -- field 14's, where that is filled, whatever field 12 has
  pub says-titlecase : (t : ℕ) → code_point (field 14 line) ≡ Some t → p.title ≡ t
  says-titlecase t e = titlecase-filled p.code (field 12 line) (field 14 line) p.title t s.title e

  -- and itself, where both are empty
  pub says-itself : field 14 line ≡ [] → field 12 line ≡ [] → p.title ≡ p.code
  says-itself e f = titlecase-none p.code p.title (rw (e, f) at s.title)

-- ---- "in demand 2"

-- of the code point c of a line that calls of `add_line` took, the table that they have grown has that titlecase
module _ {t : Table} {lines accepted : List (List ℕ)} {b : Built} (g : Grows (start_of t) lines accepted b)
    {line : List ℕ} (i : In line accepted) {c : ℕ} (code : code_point (field 0 line) ≡ Some c) where
  -- what the line says, and that the table has it
  abbrev said : Properties
  said = (built-says g line i).0

  says : LineSays line said
  says = (built-says g line i).1

  holds : (mapping_of (cut b)).title c ≡ said.title
  holds = rw (code-said says code) at (built-gives g line said i says).0

  -- field 12's
  pub built-uppercase : (u : ℕ) → field 14 line ≡ [] → code_point (field 12 line) ≡ Some u → (mapping_of (cut b)).title c ≡ u
  built-uppercase u e f = holds ∙ says-uppercase says u e f

  -- field 14's
  pub built-titlecase : (u : ℕ) → code_point (field 14 line) ≡ Some u → (mapping_of (cut b)).title c ≡ u
  built-titlecase u e = holds ∙ says-titlecase says u e

  -- itself
  pub built-itself : field 14 line ≡ [] → field 12 line ≡ [] → (mapping_of (cut b)).title c ≡ c
  built-itself e f = holds ∙ says-itself says e f ∙ code-said says code

-- ---- "and for 25 too."

-- a line with code point c and parts ps gets 25 exactly when none before it applies, and it maps c so, with a surrogate or, by
-- request 4, where c is a syllable
module _ (b : Built) (line : List ℕ) {c : ℕ} {ps : List ℕ}
    (code : code_point (field 0 line) ≡ Some c) (parts : decomposition (field 5 line) ≡ Some ps) where
  -- by the titlecase that the line says
  taken : (t : ℕ) → ((p : Properties) → LineSays line p → p.title ≡ t)
      → (line_refusal b line ≡ Some (refusal 25 0 0)) ↔ (Clear (fault28 b ∷ reading_faults line) × MapsBarred c t ps)
  taken t title = Iff.trans (number-25 b line) (λ h. (h.0, by-fields h.1), λ h. (h.0, by-line h.0.1 h.1))
    where
      by-fields : SaysBarred line → MapsBarred c t ps
      by-fields h =
          let is = code-said h.says code in
          let cased = title h.said h.says in
          let listed = parts_said h.says parts in
          record {
            mapping = λ e. h.mapping (cased ∙ e.0 ∙ sym is, listed ∙ e.1);
            barred = rw (is, cased, listed) at h.barred;
          }

      by-line : Clear (reading_faults line) → MapsBarred c t ps → SaysBarred line
      by-line clear h =
          let p = reading-says line clear in
          let is = code-said p.1 code in
          let cased = title p.0 p.1 in
          let listed = parts_said p.1 parts in
          record {
            said = p.0;
            says = p.1;
            mapping = λ e. h.mapping (sym cased ∙ e.0 ∙ is, sym listed ∙ e.1);
            barred = rw (is, cased, listed) h.barred;
          }

  -- to field 12's, where field 14 is empty
  pub barred-uppercase : (u : ℕ) → field 14 line ≡ [] → code_point (field 12 line) ≡ Some u
      → (line_refusal b line ≡ Some (refusal 25 0 0)) ↔ (Clear (fault28 b ∷ reading_faults line) × MapsBarred c u ps)
  barred-uppercase u e f = taken u (λ p s. says-uppercase s u e f)

  -- to field 14's, where that is filled: a surrogate in field 12 beside it is no fault
  pub barred-titlecase : (t : ℕ) → code_point (field 14 line) ≡ Some t
      → (line_refusal b line ≡ Some (refusal 25 0 0)) ↔ (Clear (fault28 b ∷ reading_faults line) × MapsBarred c t ps)
  barred-titlecase t e = taken t (λ p s. says-titlecase s t e)

  -- to itself, where both are empty
  pub barred-itself : field 14 line ≡ [] → field 12 line ≡ []
      → (line_refusal b line ≡ Some (refusal 25 0 0)) ↔ (Clear (fault28 b ∷ reading_faults line) × MapsBarred c c ps)
  barred-itself e f = taken c (λ p s. says-itself s e f ∙ code-said s code)

-- ---- "Refusals: 29, field 12 malformed, checked even when 14 is filled, between 23 and 24."

-- `number-29` of Demand1.antt says when it is given: no word of field 14. `number-24` there asks that 29 doesn't apply.
