-- The row of a line's checks in its three parts, and what is known where a check of it doesn't apply.
-- Assumes nothing.
use mathlib.Core.Path.{◌≡◌, refl, sym, ◌∙◌}
use Prim.Native.Nat.{ℕ, ◌≤◌}
use mathlib.Core.Bool.{true, false, ◌&&◌, ◌||◌, not}
use Rattle.std.specs.Prelude.{Option, None, Some}
use mathlib.Core.List.{List, ◌++◌}
use lib.Dec.{ltb}
use lib.ListN.{length}
use borrow.Author.Tests.{ltb-false, not-false}
use Rattle.terms.specs.CodePoints.{scalar}
use Rattle.terms.specs.Lists.{all, or_else}
use Rattle.terms.specs.Refusals.{entries_most, pool_most, parts_most, first, refusal}
use Rattle.terms.specs.declared.Refusal.{Refusal}
use Rattle.terms.proofs.Checks.{or_left, or_right, or_else-neither, when-none, first-append, first-none}
use Rattle.terms.proofs.Tests.{both}
use Rattle.hangul.specs.Hangul.{syllable}
use Rattle.table.specs.Layout.{entry_count}
use Rattle.ucd.specs.Lines.{Properties, line_properties, says_nothing, line_check, reading_checks, reading_refusal}
use Rattle.ucd.proofs.Lines.{length-parts, line_properties-read}
use Rattle.builder.specs.Builder.{Built, overfull, impossible, barred, crowded, properties_checks, given_checks}
use Rattle.builder.specs.Builder.{line_refusal, unless_refused, accepted}
use Rattle.builder.specs.Promises.{Fits, NextFits, properties_refusal}

-- numbers that are not too many have room
pub overfull-fits : (used filled entries pool : ℕ) → overfull used filled entries pool ≡ false → Fits used filled entries pool
overfull-fits used filled entries pool e =
    let a = ltb entries used in
    let b = ltb entries_most used in
    let c = ltb pool filled in
    let p : a || b || c ≡ false = or_left (a || b || c) (ltb pool_most filled) e in
    let q : a || b ≡ false = or_left (a || b) c p in
    record {
      entries-held = ltb-false entries used (or_left a b q);
      entries-limit = ltb-false entries_most used (or_right a b q);
      pool-held = ltb-false pool filled (or_right (a || b) c p);
      pool-limit = ltb-false pool_most filled (or_right (a || b || c) (ltb pool_most filled) e);
    }

module _ (b : Built) (line : List ℕ) where
  abbrev entries : ℕ
  entries = entry_count b.table.entries

  abbrev pool : ℕ
  pool = length b.table.pool

  -- an impossible state
  pub line_refusal-28 : impossible b.state entries pool ≡ true → line_refusal b line ≡ Some (refusal 28 0 0)
  unfolding line_refusal
  line_refusal-28 i = rw i

  -- a possible one: the reading, and then what the line gives
  module _ (possible : impossible b.state entries pool ≡ false) where
    line_refusal-possible : line_refusal b line
        ≡ or_else (reading_refusal line) (first (given_checks b.state entries pool (line_properties line)))
    unfolding line_refusal reading_refusal
    line_refusal-possible =
        rw possible (first-append (reading_checks line) (given_checks b.state entries pool (line_properties line)))

    -- the reading is refused
    pub line_refusal-reading : {r : Refusal} → reading_refusal line ≡ Some r → line_refusal b line ≡ Some r
    line_refusal-reading e = line_refusal-possible ∙ rw e

    -- it is not: what the line gives
    pub line_refusal-given : {p : Properties} → reading_refusal line ≡ None → line_properties line ≡ Some p
        → line_refusal b line ≡ properties_refusal b p
    unfolding properties_refusal
    line_refusal-given e f = line_refusal-possible ∙ rw (e, f)

  -- a line that is not refused: nor are its reading and what it gives
  line_refusal-none : line_refusal b line ≡ None
      → (reading_refusal line ≡ None) × (first (given_checks b.state entries pool (line_properties line)) ≡ None)
  unfolding line_refusal reading_refusal
  line_refusal-none e =
      let given = given_checks b.state entries pool (line_properties line) in
      let rest = (or_else-neither (line_check (impossible b.state entries pool) 28) (first (reading_checks line ++ given)) e).1 in
      or_else-neither (first (reading_checks line)) (first given) (sym (first-append (reading_checks line) given) ∙ rest)

  pub unrefused-reading : line_refusal b line ≡ None → reading_refusal line ≡ None
  unrefused-reading e = (line_refusal-none e).0

  -- so a line that is not refused gives something
  pub unrefused-given : line_refusal b line ≡ None → (p : Properties) × (line_properties line ≡ Some p)
  unrefused-given e = line_properties-read line (line_refusal-none e).0

-- ---- an accepted line

-- what is given is not refused
unless_refused-some : (x : Option Refusal) (given : Option Properties) (p : Properties) → unless_refused x given ≡ Some p
    → (x ≡ None) × (given ≡ Some p)
unless_refused-some None given p e = (refl, e)
unless_refused-some (Some r) given p e = (cc, cc)

-- an accepted line is not refused, and gives what it gives
pub accepted-some : (b : Built) (line : List ℕ) (p : Properties) → accepted b line ≡ Some p
    → (line_refusal b line ≡ None) × (line_properties line ≡ Some p)
accepted-some b line p e = unless_refused-some (line_refusal b line) (line_properties line) p e

-- the numbers of properties are scalar, and the code point is no syllable
pub record Allowed (p : Properties) : Type 0 where
  pub code : scalar p.code ≡ true
  pub title : scalar p.title ≡ true
  pub parts : all scalar p.parts ≡ true
  pub other : syllable p.code ≡ false

-- so it is of a mapping that 25 doesn't refuse
allowed : (p : Properties) → says_nothing p ≡ false → barred p ≡ false → Allowed p
allowed p m e =
    let x = not (scalar p.code && scalar p.title && all scalar p.parts) in
    let h : x || syllable p.code ≡ false = rw m at e in
    let t = not-false (scalar p.code && scalar p.title && all scalar p.parts) (or_left x (syllable p.code) h) in
    let r = both (scalar p.code && scalar p.title) (all scalar p.parts) t in
    let q = both (scalar p.code) (scalar p.title) r.0 in
    record { code = q.0; title = q.1; parts = r.1; other = or_right x (syllable p.code) h }

-- what an accepted line gives: it stands above the last line, its parts are few, and with a mapping it is allowed and has room
pub record Passes (b : Built) (p : Properties) : Type 0 where
  pub next : b.state.next ≤ p.code
  pub few : length p.parts ≤ parts_most
  pub allowed : says_nothing p ≡ false → Allowed p
  pub room : says_nothing p ≡ false → NextFits b p

-- an accepted line passes
pub passes : (b : Built) (line : List ℕ) (p : Properties) → accepted b line ≡ Some p → Passes b p
passes b line p e =
    let a = accepted-some b line p e in
    let st = b.state in
    let held = entry_count b.table.entries in
    let pool = length b.table.pool in
    let passed = first-none (properties_checks st held pool p) (rw a.1 at (line_refusal-none b line a.0).1) in
    record {
      next = ltb-false p.code st.next (when-none _ _ (passed 1));
      few = length-parts line p a.1;
      allowed = λ m. allowed p m (when-none _ _ (passed 0));
      room = λ m. overfull-fits _ _ held pool (rw m at (when-none (crowded st held pool p) _ (passed 2)));
    }
