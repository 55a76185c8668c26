-- The checks of a line render its faults: 28, 20 to 27 and 29 in words.
-- Assumes nothing.
use mathlib.Core.Path.{◌≡◌, refl, sym, ap, ◌∙◌}
use Prim.Native.Nat.{ℕ, ◌+◌}
use native.Mathlib.Omega.{arith}
use mathlib.Core.Bool.{Bool, true, false, not, ◌&&◌, ◌||◌}
use mathlib.Core.Logic.{◌↔◌}
use Rattle.std.specs.Prelude.{Option, None, Some}
use mathlib.Core.List.{List, [], ◌∷◌, ◌++◌}
use lib.Dec.{leb, ltb, eqb}
use lib.ListN.{length}
use borrow.Author.Tests.{not-true, leb-true}
use Rattle.terms.specs.CodePoints.{scalar}
use Rattle.terms.specs.Lists.{all, empty, there}
use Rattle.terms.specs.Refusals.{refusal, first}
use Rattle.terms.specs.declared.Refusal.{Refusal}
use Rattle.terms.proofs.Checks.{first-append}
use Rattle.terms.proofs.Tests.{both, join, none-some}
use Rattle.hangul.specs.Hangul.{syllable}
use Rattle.table.specs.Layout.{entry_count}
use Rattle.table.specs.Table.{Table}
use Rattle.ucd.specs.Fields.{fields, field, code_point, decomposition, optional}
use Rattle.ucd.specs.Lines.{Properties, LineSays, line_properties, says_nothing, line_check, reading_checks, reading_refusal}
use Rattle.ucd.proofs.Cutting.{length_cut}
use Rattle.ucd.proofs.Lines.{line_properties-read, line_properties-exactly, says-most}
use Rattle.builder.specs.Builder.{Built, overfull, impossible, barred, crowded, given_checks, line_refusal}
use Rattle.demands.specs.Faults.{plain, TooMany, Impossible, WrongSemicolons, MalformedField, HasMapping, HasSurrogate}
use Rattle.demands.specs.Faults.{Barred, SaysBarred, SaysEarlier, SaysTooMuch, FirstFault, Clear, reading_faults, line_faults}
use Rattle.demands.specs.Faults.{fault25, fault26, fault27, fault28}
use Rattle.demands.proofs.Reflect.{ltb-exactly, eqb-exactly, and-exactly, or-exactly, or4-exactly, not-exactly}
use Rattle.demands.proofs.Reflect.{nor-exactly, gone-exactly, empty-exactly, all-fails, all_in}
use Rattle.demands.proofs.FaultRows.{Renders, RendersEach, renders-plain, renders-append, row-exactly, row-clear}
use Rattle.demands.proofs.TableFaults.{scalar-exactly, unscalar-exactly, syllable-exactly}

-- ---- 28, 20 to 24 and 29

-- so many are too many
many-exactly : (t : Table) (used filled : ℕ)
    → (overfull used filled (entry_count t.entries) (length t.pool) ≡ true) ↔ TooMany t used filled
many-exactly t used filled =
    let n = entry_count t.entries in
    or4-exactly (ltb n used) (ltb 16384 used) (ltb (length t.pool) filled) (ltb 65536 filled)
    (ltb-exactly n used) (ltb-exactly 16384 used) (ltb-exactly (length t.pool) filled) (ltb-exactly 65536 filled)

impossible-exactly : (b : Built)
    → (impossible b.state (entry_count b.table.entries) (length b.table.pool) ≡ true) ↔ Impossible b
impossible-exactly b =
    or-exactly
    (overfull b.state.entries_used b.state.pool_used (entry_count b.table.entries) (length b.table.pool))
    (ltb 0x110000 b.state.next)
    (many-exactly b.table b.state.entries_used b.state.pool_used)
    (ltb-exactly 0x110000 b.state.next)

-- not 15 fields are not 14 semicolons
fields-exactly : (line : List ℕ) → (not (eqb (length (fields line)) 15) ≡ true) ↔ WrongSemicolons line
fields-exactly line =
    let h = not-exactly (eqb (length (fields line)) 15) (eqb-exactly (length (fields line)) 15) in (
      λ e s. h.0 e (omega (arith, length_cut 0x3B line, s)),
      λ f. h.1 (λ e. f (omega (arith, length_cut 0x3B line, e))),
    )

-- a field that may be empty is malformed
optional-exactly : (i : ℕ) (line : List ℕ) → (not (optional (field i line)) ≡ true) ↔ MalformedField i line
optional-exactly i line =
    let os = field i line in
    nor-exactly (empty os) (there (code_point os)) (empty-exactly os) (gone-exactly (code_point os))

reading-renders : (line : List ℕ) → RendersEach (reading_checks line) (reading_faults line)
reading-renders line =
    let long = renders-plain _ 20 (ltb-exactly 512 (length line)) in
    let cut = renders-plain _ 21 (fields-exactly line) in
    let code = renders-plain _ 22 (gone-exactly (code_point (field 0 line))) in
    let parts = renders-plain _ 23 (gone-exactly (decomposition (field 5 line))) in
    let upper = renders-plain _ 29 (optional-exactly 12 line) in
    let title = renders-plain _ 24 (optional-exactly 14 line) in
    (long, (cut, (code, (parts, (upper, (title, tt))))))

-- so a line to which none of them applies says something
pub reading-says : (line : List ℕ) → Clear (reading_faults line) → (p : Properties) × LineSays line p
unfolding reading_refusal
reading-says line clear =
    let passed = (row-clear (reading_checks line) (reading_faults line) (reading-renders line)).1 clear in
    let given = line_properties-read line passed in
    (given.0, (line_properties-exactly line given.0).0 given.1)

-- ---- 25 to 27

-- a line has a mapping
pub mapping-exactly : (p : Properties) → (not (says_nothing p) ≡ true) ↔ HasMapping p
mapping-exactly p =
    not-exactly (says_nothing p)
    (and-exactly (eqb p.title p.code) (eqb (length p.parts) 0) (eqb-exactly p.title p.code) (no-parts p.parts))
  where
    no-parts : (ps : List ℕ) → (eqb (length ps) 0 ≡ true) ↔ (ps ≡ [])
    no-parts [] = (λ e. refl, λ e. refl)
    no-parts (x ∷ ps) =
        let h = eqb-exactly (length (x ∷ ps)) 0 in
        (λ e. absurd (omega (arith, h.0 e)), λ e. absurd (omega (arith, ap length e)))

-- the code points that a line says
abbrev said-codes : Properties → List ℕ
said-codes p = p.code ∷ p.title ∷ p.parts

-- the three tests of 25
abbrev said-scalar : Properties → Bool
said-scalar p = scalar p.code && scalar p.title && all scalar p.parts

-- they are one test of all
all_three : (p : Properties) → said-scalar p ≡ all scalar (said-codes p)
all_three p = go (scalar p.code) (scalar p.title)
  where
    go : (a b : Bool) → (a && b && all scalar p.parts) ≡ (a && (b && all scalar p.parts))
    go true b = refl
    go false b = refl

-- of a line that says p: one of its code points is a surrogate
surrogate-said : (line : List ℕ) (p : Properties) → LineSays line p
    → (not (said-scalar p) ≡ true) ↔ HasSurrogate (said-codes p)
surrogate-said line p s = (found, given)
  where
    found : not (said-scalar p) ≡ true → HasSurrogate (said-codes p)
    found e =
        let one = all-fails scalar (said-codes p) (sym (all_three p) ∙ not-true _ e) in
        let c = one.0 in
        let low = leb-true c 0x10FFFF (all_in (λ c. leb c 0x10FFFF) (said-codes p) (says-most line p s) c one.1) in
        record { code = c; among = one.1; surrogate = (unscalar-exactly c low).0 one.2 }

    given : HasSurrogate (said-codes p) → not (said-scalar p) ≡ true
    given h = go (all scalar (said-codes p)) refl
      where
        go : (t : Bool) → all scalar (said-codes p) ≡ t → not (said-scalar p) ≡ true
        go false e = ap not (all_three p ∙ e)
        go true e =
            absurd (((scalar-exactly h.code).0 (all_in scalar (said-codes p) e h.code h.among)).1 h.surrogate)

-- or its code point is a syllable
barred-said : (line : List ℕ) (p : Properties) → LineSays line p
    → (not (said-scalar p) || syllable p.code ≡ true) ↔ Barred p.code p.title p.parts
barred-said line p s =
    or-exactly (not (said-scalar p)) (syllable p.code) (surrogate-said line p s) (syllable-exactly p.code)

-- a check of what a line gives, if it gives something
abbrev over-given : (Properties → Bool) → ℕ → Option Properties → Option Refusal
over-given test n None = None
over-given test n (Some p) = line_check (test p) n

-- it renders a fault of what the line says
given-renders : (line : List ℕ) (test : Properties → Bool) (n : ℕ) {A : Type 0}
    → ((p : Properties) → LineSays line p → test p ≡ true → A)
    → (A → (p : Properties) × LineSays line p × (test p ≡ true))
    → Renders (over-given test n (line_properties line)) (plain n A)
given-renders line test n {A} holds back = go (line_properties line) refl
  where
    go : (o : Option Properties) → line_properties line ≡ o → Renders (over-given test n o) (plain n A)
    go None e = record {
      numbered = λ x q. absurd (none-some x q);
      exactly = λ d. (
        λ q. absurd (none-some _ q),
        λ a. (let b = back a.1 in absurd (none-some b.0 (sym e ∙ (line_properties-exactly line b.0).1 b.1))),
      );
    }
    go (Some p) e =
        renders-plain (test p) n (
          λ q. holds p ((line_properties-exactly line p).0 e) q,
          λ a.
              (let b = back a in
              let same : Some b.0 ≡ Some p = sym ((line_properties-exactly line b.0).1 b.1) ∙ e in
              let is : b.0 ≡ p = cc in
              rw is at b.2),
        )

module _ (b : Built) (line : List ℕ) where
  abbrev n : ℕ
  n = entry_count b.table.entries

  abbrev m : ℕ
  m = length b.table.pool

  -- 25 to 27 as checks of what is given, if something is
  abbrev given-row : Option Properties → List (Option Refusal)
  given-row o =
      over-given barred 25 o
      ∷ over-given (λ p. ltb p.code b.state.next) 26 o
      ∷ over-given (λ p. crowded b.state n m p) 27 o
      ∷ []

  first-given : (o : Option Properties) → first (given_checks b.state n m o) ≡ first (given-row o)
  first-given None = refl
  first-given (Some p) = refl

  barred-renders : Renders (over-given barred 25 (line_properties line)) (plain 25 (SaysBarred line))
  barred-renders =
      given-renders line barred 25
      (λ p s e.
      (let h = both (not (says_nothing p)) _ e in
      record { said = p; says = s; mapping = (mapping-exactly p).0 h.0; barred = (barred-said line p s).0 h.1 }))
      (λ a. (
        a.said,
        a.says,
        join (not (says_nothing a.said)) _ ((mapping-exactly a.said).1 a.mapping)
            ((barred-said line a.said a.says).1 a.barred),
      ))

  earlier-renders : Renders (over-given (λ p. ltb p.code b.state.next) 26 (line_properties line))
      (plain 26 (SaysEarlier b line))
  earlier-renders =
      given-renders line (λ p. ltb p.code b.state.next) 26
      (λ p s e. record { said = p; says = s; earlier = (ltb-exactly p.code b.state.next).0 e })
      (λ a. (a.said, a.says, (ltb-exactly a.said.code b.state.next).1 a.earlier))

  crowded-renders : Renders (over-given (λ p. crowded b.state n m p) 27 (line_properties line)) (plain 27 (SaysTooMuch b line))
  crowded-renders =
      given-renders line (λ p. crowded b.state n m p) 27
      (λ p s e.
      (let h = both (not (says_nothing p)) _ e in
      record {
        said = p;
        says = s;
        mapping = (mapping-exactly p).0 h.0;
        crowded = (many-exactly b.table (b.state.entries_used + 1) (b.state.pool_used + length p.parts)).0 h.1;
      }))
      (λ a. (
        a.said,
        a.says,
        join (not (says_nothing a.said)) _ ((mapping-exactly a.said).1 a.mapping)
            ((many-exactly b.table (b.state.entries_used + 1) (b.state.pool_used + length a.said.parts)).1
            a.crowded),
      ))

  -- ---- the row

  abbrev row : List (Option Refusal)
  row = line_check (impossible b.state n m) 28 ∷ reading_checks line ++ given-row (line_properties line)

  row-renders : RendersEach row (line_faults b line)
  row-renders =
      renders-append (line_check (impossible b.state n m) 28 ∷ reading_checks line)
      (fault28 b ∷ reading_faults line)
      (given-row (line_properties line))
      (fault25 line ∷ fault26 b line ∷ fault27 b line ∷ [])
      (renders-plain _ 28 (impossible-exactly b), reading-renders line)
      (barred-renders, (earlier-renders, (crowded-renders, tt)))

  row-refusal : line_refusal b line ≡ first row
  unfolding line_refusal
  row-refusal =
      let head = line_check (impossible b.state n m) 28 ∷ reading_checks line in
      first-append head (given_checks b.state n m (line_properties line))
      ∙ rw (first-given (line_properties line))
      (sym (first-append head (given-row (line_properties line))))

  -- a line's refusal is the first of 28, 20 to 23, 29, 24 to 27 that applies
  pub line_row : (k d : ℕ) → (line_refusal b line ≡ Some (refusal k 0 d)) ↔ FirstFault (line_faults b line) k d
  line_row k d = rw row-refusal (row-exactly row (line_faults b line) row-renders k d)

  -- and it has none exactly when none applies
  pub line_clear : (line_refusal b line ≡ None) ↔ Clear (line_faults b line)
  line_clear = rw row-refusal (row-clear row (line_faults b line) row-renders)
