-- What a line gives: at most 32 parts, something where no check of its reading applies, just what its fields say, and no
-- number above 10FFFF.
-- Assumes nothing.
use mathlib.Core.Path.{◌≡◌, refl, sym, ◌∙◌, ap, subst}
use mathlib.Core.Bool.{Bool, true, false, cond, ◌&&◌, not}
use mathlib.Core.Logic.{◌↔◌}
use Rattle.std.specs.Prelude.{Option, None, Some, Result, Ok, Err, ok_or}
use mathlib.Core.List.{List, [], ◌∷◌}
use Prim.Native.Nat.{ℕ, suc, ◌≤◌, ◌<◌}
use native.Mathlib.Omega.{arith}
use lib.Dec.{leb}
use lib.ListN.{length, take}
use borrow.Author.Tests.{leb-true, le-leb, lt-ltb, le-ltb, eq-eqb, ne_eqb, eqb-true, not-false}
use Rattle.terms.specs.Lists.{all, empty, there, when}
use Rattle.terms.specs.Refusals.{line_most, parts_most, refusal, first}
use Rattle.terms.proofs.Checks.{when-none, first-none}
use Rattle.terms.proofs.Lists.{all_cons}
use Rattle.terms.proofs.Tests.{none-some}
use Rattle.ucd.proofs.Options.{both-some, made-some, present}
use Rattle.ucd.specs.Fields.{fields, field, cut, semicolons, digits, well_sized, bounded, code_point, code_points}
use Rattle.ucd.specs.Fields.{optional, untagged, some_parts, decomposition, code_point_or, titlecase}
use Rattle.ucd.specs.Lines.{Properties, LineSays, line_properties, line_check, reading_checks, reading_refusal, fault_number}
use Rattle.ucd.specs.Promises.{number_read, parts_read, TitlecaseRead}
use Rattle.terms.specs.declared.CodePoint.{CodePoint}
use Rattle.ucd.specs.declared.LineFault.{LineFault}
use Rattle.ucd.specs.declared.LineFault.TheVariants.{Length, FieldCount, Field0, Field5, Field12, Field14}
use Rattle.ucd.proofs.Cutting.{length_cut}
use Rattle.ucd.proofs.Titlecase.{optional-says, titlecase-some, titlecase-formed}

-- ---- at most 32 parts

-- as many code points as pieces
length-code_points : (ps : List (List ℕ)) (cs : List ℕ) → code_points ps ≡ Some cs → length cs ≡ length ps
unfolding code_points
length-code_points [] cs e = let same : [] ≡ cs = cc in sym (ap length same)
length-code_points (p ∷ ps) cs e =
    let rest = both-some (code_point p) _ e in
    let more = made-some _ (code_points ps) rest.2 in
    sym (ap length more.2) ∙ ap suc (length-code_points ps more.0 more.1)

length-some_parts : (ps : List (List ℕ)) (cs : List ℕ) → some_parts ps ≡ Some cs → length cs ≤ parts_most
length-some_parts ps cs = go (leb 1 (length ps)) (leb (length ps) parts_most) refl
  where
    go : (a b : Bool) → leb (length ps) parts_most ≡ b → cond (a && b) (code_points ps) None ≡ Some cs → length cs ≤ parts_most
    go true true e f = omega (arith, leb-true (length ps) parts_most e, length-code_points ps cs f)
    go true false e f = let z : ◌≡◌ {A = ℕ} 0 1 = cc in absurd (omega arith)
    go false b e f = let z : ◌≡◌ {A = ℕ} 0 1 = cc in absurd (omega arith)

length-decomposition : (os cs : List ℕ) → decomposition os ≡ Some cs → length cs ≤ parts_most
unfolding decomposition
length-decomposition os cs = go (empty os)
  where
    go : (b : Bool) → cond b (Some []) (some_parts (untagged (cut 0x20 os))) ≡ Some cs → length cs ≤ parts_most
    go true e = let same : [] ≡ cs = cc in omega (arith, ap length same)
    go false e = length-some_parts (untagged (cut 0x20 os)) cs e

-- a line gives at most 32 parts
pub length-parts : (line : List ℕ) (p : Properties) → line_properties line ≡ Some p → length p.parts ≤ parts_most
unfolding line_properties
length-parts line p e =
    let code = both-some (code_point (field 0 line)) _ e in
    let listed = both-some (decomposition (field 5 line)) _ code.2 in
    let cased = made-some _ (titlecase code.0 (field 12 line) (field 14 line)) listed.2 in
    omega
    (arith, length-decomposition (field 5 line) listed.0 listed.1, ap (λ (q : Properties). length q.parts) cased.2)

-- ---- the fields

-- a line whose reading is not refused has the fields 0 to 14: where `field` has a default, it is not reached
pub fields_read : (line : List ℕ) → reading_refusal line ≡ None → length (fields line) ≡ 15
unfolding reading_refusal
fields_read line e =
    eqb-true (length (fields line)) 15 (not-false _ (when-none _ _ (first-none (reading_checks line) e 1)))

-- so it has just 14 semicolons
pub semicolons-read : (line : List ℕ) → reading_refusal line ≡ None → semicolons line ≡ 14
semicolons-read line e = omega (arith, fields_read line e, length_cut 0x3B line)

-- ---- something is given

-- what is there is something
there-some : {A : Type 0} (o : Option A) → there o ≡ true → (a : A) × (o ≡ Some a)
there-some None e = let z : ◌≡◌ {A = ℕ} 0 1 = cc in absurd (omega arith)
there-some (Some a) e = (a, refl)

optional-some : (c : ℕ) (os : List ℕ) → optional os ≡ true → (u : ℕ) × (code_point_or c os ≡ Some u)
optional-some c os e = there-some (code_point_or c os) (sym (optional-says c os) ∙ e)

-- a line of which each field is well formed gives what they say
pub line_properties-some : (line ps : List ℕ) (c t : ℕ)
    → code_point (field 0 line) ≡ Some c
    → decomposition (field 5 line) ≡ Some ps
    → titlecase c (field 12 line) (field 14 line) ≡ Some t
    → line_properties line ≡ Some (record { code = c; title = t; parts = ps })
unfolding line_properties
line_properties-some line ps c t e f g = rw (e, f, g)

-- a line whose reading is not refused gives something
pub line_properties-read : (line : List ℕ) → reading_refusal line ≡ None → (p : Properties) × (line_properties line ≡ Some p)
unfolding reading_refusal
line_properties-read line e =
    let passed = first-none (reading_checks line) e in
    let code = there-some (code_point (field 0 line)) (not-false _ (when-none _ _ (passed 2))) in
    let listed = there-some (decomposition (field 5 line)) (not-false _ (when-none _ _ (passed 3))) in
    let upper = optional-some code.0 (field 12 line) (not-false _ (when-none _ _ (passed 4))) in
    let title = optional-some upper.0 (field 14 line) (not-false _ (when-none _ _ (passed 5))) in
    let cased = titlecase-some code.0 (field 12 line) (field 14 line) upper.0 title.0 upper.1 title.1 in (
      record { code = code.0; title = title.0; parts = listed.0 },
      line_properties-some line listed.0 code.0 title.0 code.1 listed.1 cased,
    )

-- ---- what a line says

-- it gives properties exactly when its fields say them
pub line_properties-exactly : (line : List ℕ) (p : Properties) → (line_properties line ≡ Some p) ↔ LineSays line p
unfolding line_properties
line_properties-exactly line p =
    (by-fields, λ s. line_properties-some line p.parts p.code p.title s.code s.parts s.title)
  where
    by-fields : line_properties line ≡ Some p → LineSays line p
    by-fields e =
        let code = both-some (code_point (field 0 line)) _ e in
        let listed = both-some (decomposition (field 5 line)) _ code.2 in
        let cased = made-some _ (titlecase code.0 (field 12 line) (field 14 line)) listed.2 in
        subst (LineSays line) cased.2 (record { code = code.1; parts = listed.1; title = cased.1 })

-- ---- code points are at most 10FFFF

bounded-most : (o : Option ℕ) (c : ℕ) → bounded o ≡ Some c → c ≤ 0x10FFFF
bounded-most None c e = absurd (none-some c e)
bounded-most (Some v) c e = go (leb v 0x10FFFF) refl e
  where
    go : (b : Bool) → leb v 0x10FFFF ≡ b → when b v ≡ Some c → c ≤ 0x10FFFF
    go true f g = let is : v ≡ c = cc in omega (arith, leb-true v 0x10FFFF f)
    go false f g = absurd (none-some c g)

-- one that is written
pub code_point-most : (os : List ℕ) (c : ℕ) → code_point os ≡ Some c → c ≤ 0x10FFFF
unfolding code_point
code_point-most os c = go (well_sized os)
  where
    go : (b : Bool) → cond b (bounded (digits 0 os)) None ≡ Some c → c ≤ 0x10FFFF
    go true e = bounded-most (digits 0 os) c e
    go false e = absurd (none-some c e)

code_points-most : (ps : List (List ℕ)) (cs : List ℕ) → code_points ps ≡ Some cs → all (λ c. leb c 0x10FFFF) cs ≡ true
unfolding code_points
code_points-most [] cs e = let same : [] ≡ cs = cc in rw (← same)
code_points-most (p ∷ ps) cs e =
    let first = both-some (code_point p) _ e in
    let rest = made-some _ (code_points ps) first.2 in
    rw (← rest.2)
    (all_cons (λ c. leb c 0x10FFFF) first.0 rest.0
    (le-leb first.0 0x10FFFF (code_point-most p first.0 first.1))
    (code_points-most ps rest.0 rest.1))

some_parts-most : (ps : List (List ℕ)) (cs : List ℕ) → some_parts ps ≡ Some cs → all (λ c. leb c 0x10FFFF) cs ≡ true
some_parts-most ps cs = go (leb 1 (length ps) && leb (length ps) parts_most)
  where
    go : (b : Bool) → cond b (code_points ps) None ≡ Some cs → all (λ c. leb c 0x10FFFF) cs ≡ true
    go true e = code_points-most ps cs e
    go false e = absurd (none-some cs e)

decomposition-most : (os cs : List ℕ) → decomposition os ≡ Some cs → all (λ c. leb c 0x10FFFF) cs ≡ true
unfolding decomposition
decomposition-most os cs = go (empty os)
  where
    go : (b : Bool) → cond b (Some []) (some_parts (untagged (cut 0x20 os))) ≡ Some cs → all (λ c. leb c 0x10FFFF) cs ≡ true
    go true e = let same : [] ≡ cs = cc in rw (← same)
    go false e = some_parts-most (untagged (cut 0x20 os)) cs e

code_point_or-most : (c : ℕ) (os : List ℕ) (t : ℕ) → c ≤ 0x10FFFF → code_point_or c os ≡ Some t → t ≤ 0x10FFFF
unfolding code_point_or
code_point_or-most c os t h = go (empty os)
  where
    go : (b : Bool) → cond b (Some c) (code_point os) ≡ Some t → t ≤ 0x10FFFF
    go true e = let is : c ≡ t = cc in omega arith
    go false e = code_point-most os t e

titlecase-most : (c : ℕ) (upper title : List ℕ) (t : ℕ) → c ≤ 0x10FFFF → titlecase c upper title ≡ Some t → t ≤ 0x10FFFF
unfolding titlecase
titlecase-most c upper title t h e =
    let u = both-some (code_point_or c upper) _ e in
    code_point_or-most u.0 title t (code_point_or-most c upper u.0 h u.1) u.2

-- all that a line says
pub says-most : (line : List ℕ) (p : Properties) → LineSays line p
    → all (λ c. leb c 0x10FFFF) (p.code ∷ p.title ∷ p.parts) ≡ true
says-most line p s =
    let code = code_point-most (field 0 line) p.code s.code in
    let title = titlecase-most p.code (field 12 line) (field 14 line) p.title code s.title in
    all_cons (λ c. leb c 0x10FFFF) p.code (p.title ∷ p.parts) (le-leb p.code 0x10FFFF code)
    (all_cons (λ c. leb c 0x10FFFF) p.title p.parts (le-leb p.title 0x10FFFF title)
    (decomposition-most (field 5 line) p.parts s.parts))

-- ---- what was read of a field

-- a field of which a code point was read writes it
pub code_found : (field t : List ℕ) (o : Option CodePoint) (e : LineFault) (c : CodePoint) {r : Result CodePoint LineFault}
    → t ≡ field
    → number_read o ≡ code_point t
    → r ≡ ok_or o e
    → r ≡ Ok c
    → code_point field ≡ Some c.0
code_found field t o e c is read asked got =
    sym (ap code_point is) ∙ sym read ∙ ap number_read (present o e c asked got)

-- a field of which parts were read says them
pub parts_found : (field t out : List ℕ) (o : Option ℕ) (e : LineFault) (n : ℕ) {r : Result ℕ LineFault}
    → t ≡ field
    → parts_read o out ≡ decomposition t
    → r ≡ ok_or o e
    → r ≡ Ok n
    → decomposition field ≡ Some (take n out)
parts_found field t out o e n is read asked got =
    sym (ap decomposition is)
    ∙ sym read
    ∙ ap (λ (r : Option ℕ). parts_read r out) (present o e n asked got)

-- ---- what the reading answers

module _ (line : List ℕ) where
  -- too long
  pub refused_length : line_most < length line → reading_refusal line ≡ Some (refusal 20 0 0)
  unfolding reading_refusal
  refused_length h = rw (lt-ltb line_most (length line) h)

  module _ (short : length line ≤ line_most) where
    -- not 15 fields
    pub refused_count : (length (fields line) ≡ 15 → ⊥) → reading_refusal line ≡ Some (refusal 21 0 0)
    unfolding reading_refusal
    refused_count ne = rw (le-ltb line_most (length line) short, ne_eqb (length (fields line)) 15 ne)

    module _ (whole : length (fields line) ≡ 15) where
      -- field 0 is malformed
      pub refused_code : code_point (field 0 line) ≡ None → reading_refusal line ≡ Some (refusal 22 0 0)
      unfolding reading_refusal
      refused_code e = rw (le-ltb line_most (length line) short, eq-eqb (length (fields line)) 15 whole, e)

      module _ (c : ℕ) (code : code_point (field 0 line) ≡ Some c) where
        -- field 5 is
        pub refused_parts : decomposition (field 5 line) ≡ None → reading_refusal line ≡ Some (refusal 23 0 0)
        unfolding reading_refusal
        refused_parts e = rw (le-ltb line_most (length line) short, eq-eqb (length (fields line)) 15 whole, code, e)

        module _ (ps : List ℕ) (parts : decomposition (field 5 line) ≡ Some ps) where
          -- field 12 or 14 is, or none
          cased : reading_refusal line
              ≡ first
              (line_check (not (optional (field 12 line))) 29 ∷ line_check (not (optional (field 14 line))) 24 ∷ [])
          unfolding reading_refusal
          cased = rw (le-ltb line_most (length line) short, eq-eqb (length (fields line)) 15 whole, code, parts)

          pub refused_case : (fault : LineFault) → TitlecaseRead c line (Err fault)
              → reading_refusal line ≡ Some (refusal (fault_number fault) 0 0)
          refused_case Field12 e = cased ∙ rw e
          refused_case Field14 e = cased ∙ rw (e.formed, e.malformed)
          refused_case Length e = absurd e
          refused_case FieldCount e = absurd e
          refused_case Field0 e = absurd e
          refused_case Field5 e = absurd e

          pub unrefused : (t : ℕ) → titlecase c (field 12 line) (field 14 line) ≡ Some t → reading_refusal line ≡ None
          unrefused t e =
              let formed = titlecase-formed c (field 12 line) (field 14 line) t e in
              cased ∙ rw (formed.0, formed.1)
