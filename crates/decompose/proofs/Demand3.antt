-- Demand 3, on values: which tables are accepted, where 7 finds a fault, and the bounds of the published steps.
-- Accepted is `table_refusal t ≡ none`: what `check_table` answers is `table_refusal`, by its contract. That the octets which
-- are written and the asks which are counted are those of the published steps is `write_expansion`'s contract, `ExpansionFilled`
-- (specs/Promises.antt), and `size_expansion`'s for the numbers alone.
-- Assumes nothing.
use mathlib.Core.Path.{◌≡◌, refl, sym, ap, ◌∙◌}
use Prim.Native.Nat.{ℕ, ◌*◌, ◌≤◌, ◌<◌}
use native.Mathlib.Omega.{arith}
use mathlib.Core.Bool.{Bool, true, false, not, true≢false}
use Rattle.std.specs.Prelude.{Option, None, Some}
use mathlib.Core.List.{List, [], ◌∷◌}
use mathlib.Core.Logic.{◌↔◌, ◌⊎◌, inl, inr, ⊎_elim}
use lib.Dec.{leb}
use lib.ListN.{length}
use borrow.Author.Tests.{le-leb, not-true, not-false}
use Rattle.terms.specs.CodePoints.{scalar}
use Rattle.terms.specs.Lists.{all, each, total, or_else, when, lowest}
use Rattle.terms.specs.Refusals.{levels_most, full_most}
use Rattle.terms.specs.declared.Refusal.{Refusal}
use Rattle.terms.proofs.Checks.{or_else-neither, or_else-first, when-none}
use Rattle.terms.proofs.Lowest.{lowest-some, lowest-none, lowest-is, lowest-nowhere}
use Rattle.terms.proofs.Tests.{both, join, none-some}
use Rattle.hangul.specs.Hangul.{syllable}
use Rattle.table.specs.Mapping.{Mapping}
use Rattle.table.specs.Layout.{entry_count, code_at}
use Rattle.table.specs.Table.{Table, refused_at, form_refusal, entry_of, mapping_of}
use Rattle.table.proofs.Form.{refused_at-none, entry_of-some, parts_of-none, formed-title-scalar, formed-parts-scalar}
use Rattle.utf8.specs.Utf8.{Character}
use Rattle.decompose.specs.Levels.{within, full, asks}
use Rattle.decompose.specs.Steps.{StepsGive, expansion, steps_key, steps_lookups}
use Rattle.decompose.specs.Steps.StepsGive.{no-character, character}
use Rattle.decompose.specs.TableCheck.{unfolds, faulty_level, faulty_syllable, level_fault, table_refusal, UnfoldsWell}
use Rattle.decompose.specs.TableCheck.{Sound, LowestUnsound, SyllableUnsound}
use Rattle.decompose.proofs.Levels.{within→level, level→within}
use Rattle.decompose.proofs.Unfolds.{unfolds-unique, within→unfolds, level→unfolds}
use Rattle.decompose.proofs.Bounds.{asks-most, full-most, steps_lookups-most, steps_key-most, expansion-scalar}
use Rattle.decompose.proofs.Walk.{unfolds-whole}
use Rattle.decompose.proofs.Syllables.{syllables-unfold, syllables-sound, syllable-fails, syllable-faulty}

-- ---- "accepted exactly when it has document 01's form and every code point in it unfolds completely within 8 levels into at
-- most 32 code points"

-- the test of 7 says whether a code point unfolds well
pub unfolds→well : (m : Mapping) (c : ℕ) → unfolds m c ≡ true → UnfoldsWell m c
unfolds→well m c e =
    let leveled =
    within→level m levels_most c (both (within m levels_most c) (leb (length (full m levels_most c)) full_most) e).0 in
    record {
      level = leveled.level;
      has = leveled.has;
      within8 = leveled.most;
      codes = full m levels_most c;
      asked = asks m levels_most c;
      unfolded = level→unfolds m leveled.has levels_most leveled.most;
      short = full-most m c e;
    }

-- and holds where it does
pub well→unfolds : (m : Mapping) (c : ℕ) → UnfoldsWell m c → unfolds m c ≡ true
well→unfolds m c w =
    join (within m levels_most c) (leb (length (full m levels_most c)) full_most)
    (level→within m w.has levels_most w.within8)
    (le-leb (length (full m levels_most c)) full_most short)
  where
    same : w.codes ≡ full m levels_most c
    same = (unfolds-unique m w.unfolded (level→unfolds m w.has levels_most w.within8)).0

    short : length (full m levels_most c) ≤ full_most
    short = rw same at w.short

-- neither of two checks applies
neither : (a b : Option Refusal) → or_else a (or_else b None) ≡ None → (a ≡ None) × (b ≡ None)
neither a b e = let h = or_else-neither a (or_else b None) e in (h.0, (or_else-neither b None h.1).0)

-- a table that is accepted has the form
pub accepted-form : (t : Table) → table_refusal t ≡ None → form_refusal t ≡ None
unfolding table_refusal
accepted-form t e =
    (neither (form_refusal t) (refused_at 7 (level_fault t)) e).0

-- and 7 finds no fault in it, of an entry or of a syllable
accepted-levels : (t : Table) → table_refusal t ≡ None
    → (lowest (faulty_level t) (entry_count t.entries) ≡ None) × (faulty_syllable (mapping_of t) ≡ false)
unfolding table_refusal
accepted-levels t e =
    let n = entry_count t.entries in
    let o = level_fault t in
    let nowhere = refused_at-none 7 o (neither (form_refusal t) (refused_at 7 o) e).1 in
    let h = or_else-neither (lowest (faulty_level t) n) (when (faulty_syllable (mapping_of t)) n) nowhere in
    (h.0, when-none (faulty_syllable (mapping_of t)) n h.1)

-- so every entry's code point passes
accepted-entry : (t : Table) → table_refusal t ≡ None → (i : ℕ) → i < entry_count t.entries
    → unfolds (mapping_of t) (code_at t.entries i) ≡ true
accepted-entry t e i l =
    not-false (unfolds (mapping_of t) (code_at t.entries i))
    (lowest-none (faulty_level t) (entry_count t.entries) (accepted-levels t e).0 i l)

-- and every syllable
accepted-syllable : (t : Table) → table_refusal t ≡ None → (c : ℕ) → syllable c ≡ true → unfolds (mapping_of t) c ≡ true
accepted-syllable t e c is = syllables-unfold (mapping_of t) (accepted-levels t e).1 c is

-- a table of the form without a fault of either kind is accepted
sound-accepted : (t : Table) → Sound t → table_refusal t ≡ None
unfolding table_refusal
sound-accepted t s =
    rw (
      s.form,
      lowest-nowhere (faulty_level t) (entry_count t.entries) passes,
      syllables-sound (mapping_of t) (λ c is. well→unfolds (mapping_of t) c (s.syllables c is)),
    )
  where
    passes : (i : ℕ) → i < entry_count t.entries → faulty_level t i ≡ false
    passes i l = ap not (well→unfolds (mapping_of t) (code_at t.entries i) (s.entries i l))

-- a table is accepted exactly when it is sound
pub accepted-exactly : (t : Table) → (table_refusal t ≡ None) ↔ Sound t
accepted-exactly t = (accepted-sound, sound-accepted t)
  where
    accepted-sound : table_refusal t ≡ None → Sound t
    accepted-sound e = record {
      form = accepted-form t e;
      entries = λ i l. unfolds→well (mapping_of t) (code_at t.entries i) (accepted-entry t e i l);
      syllables = λ c is. unfolds→well (mapping_of t) c (accepted-syllable t e c is);
    }

-- a code point that doesn't unfold well fails the test
fails : (m : Mapping) (c : ℕ) → (UnfoldsWell m c → ⊥) → unfolds m c ≡ false
fails m c unsound = go (unfolds m c) refl
  where
    go : (b : Bool) → unfolds m c ≡ b → b ≡ false
    go true e = absurd (unsound (unfolds→well m c e))
    go false e = refl

-- and one that fails it doesn't
unwell : (m : Mapping) (c : ℕ) → unfolds m c ≡ false → UnfoldsWell m c → ⊥
unwell m c e w = true≢false (sym (well→unfolds m c w) ∙ e)

module _ (t : Table) (i : ℕ) where
  abbrev m : Mapping
  m = mapping_of t

  abbrev n : ℕ
  n = entry_count t.entries

  by-syllable : lowest (faulty_level t) n ≡ None → (b : Bool) → faulty_syllable m ≡ b → when b n ≡ Some i
      → LowestUnsound t i ⊎ SyllableUnsound t i
  by-syllable nowhere true faulty e =
      let failing = syllable-fails m faulty in
      inr (record {
        count = cc;
        entries = λ j l. unfolds→well m (code_at t.entries j) (not-false _ (lowest-none (faulty_level t) n nowhere j l));
        code = failing.0;
        is-syllable = failing.1;
        unsound = unwell m failing.0 failing.2;
      })
  by-syllable nowhere false faulty e = absurd (none-some i e)

  found : (o : Option ℕ) → lowest (faulty_level t) n ≡ o → level_fault t ≡ Some i → LowestUnsound t i ⊎ SyllableUnsound t i
  found None nowhere e = by-syllable nowhere (faulty_syllable m) refl (rw nowhere at e)
  found (Some j) here e =
      let same : lowest (faulty_level t) n ≡ Some i = here ∙ rw here at e in
      let first = lowest-some (faulty_level t) n i same in
      inl (record {
        below = first.below;
        unsound = unwell m (code_at t.entries i) (not-true _ first.holds);
        lower = λ k l. unfolds→well m (code_at t.entries k) (not-false _ (first.first k l));
      })

  is-lowest : LowestUnsound t i → level_fault t ≡ Some i
  is-lowest h =
      or_else-first (lowest (faulty_level t) n) _ i
      (lowest-is (faulty_level t) n i h.below
      (ap not (fails m (code_at t.entries i) h.unsound))
      (λ j l. ap not (well→unfolds m (code_at t.entries j) (h.lower j l))))

  is-count : SyllableUnsound t i → level_fault t ≡ Some i
  is-count h =
      let nowhere = lowest-nowhere (faulty_level t) n (λ j l. ap not (well→unfolds m (code_at t.entries j) (h.entries j l))) in
      let faulty = syllable-faulty m h.code h.is-syllable
      (λ e. h.unsound (unfolds→well m h.code e)) in
      rw (nowhere, faulty) (ap Some (sym h.count))

  -- 7 finds its fault at i exactly when that is the lowest entry that does not unfold well, or the number of entries, where only a
  -- syllable does not
  pub level_fault-exactly : (level_fault t ≡ Some i) ↔ (LowestUnsound t i ⊎ SyllableUnsound t i)
  level_fault-exactly = (found (lowest (faulty_level t) n) refl, ⊎_elim is-lowest is-count)

module _ (t : Table) (e : table_refusal t ≡ None) where
  -- "every code point in it": of an accepted table every code point passes the test of 7, with an entry or without, so every part
  -- and every titlecase
  pub accepted-all : (c : ℕ) → unfolds (mapping_of t) c ≡ true
  accepted-all c = go (syllable c) refl
    where
      listed : syllable c ≡ false → (o : Option ℕ) → entry_of t.entries c ≡ o → unfolds (mapping_of t) c ≡ true
      listed other None q = unfolds-whole (mapping_of t) c (parts_of-none t c other q)
      listed other (Some i) q =
          let found = entry_of-some t.entries c i q in
          rw found.1 at (accepted-entry t e i found.0)

      go : (b : Bool) → syllable c ≡ b → unfolds (mapping_of t) c ≡ true
      go true is = accepted-syllable t e c is
      go false other = listed other (entry_of t.entries c) refl

  -- and so unfolds well
  pub accepted-level : (c : ℕ) → UnfoldsWell (mapping_of t) c
  accepted-level c = unfolds→well (mapping_of t) c (accepted-all c)

  -- ---- "for every valid text of n code points, the published steps make at most 258 n lookups and give a key of at most 128
  -- n octets"

  -- what the published steps give is what the definitions compute
  pub accepted-steps : (chs : List Character)
      → StepsGive (mapping_of t) chs (steps_key (mapping_of t) chs) (steps_lookups (mapping_of t) chs)
  unfolding steps_key steps_lookups each total
  accepted-steps [] = no-character
  accepted-steps (ch ∷ chs) =
      let m = mapping_of t in
      let c = m.title ch.code in
      character (within→unfolds m levels_most c (both (within m levels_most c) _ (accepted-all c)).0) (accepted-steps chs)

  -- unfolding a code point is at most 257 asks
  pub accepted-asks : (c : ℕ) → asks (mapping_of t) levels_most c ≤ 257
  accepted-asks c =
      omega (arith, asks-most (mapping_of t) levels_most c, full-most (mapping_of t) c (accepted-all c))

  -- n characters take at most 258 n lookups
  pub accepted-lookups : (chs : List Character) → steps_lookups (mapping_of t) chs ≤ 258 * length chs
  accepted-lookups chs = steps_lookups-most (mapping_of t) accepted-all chs

  -- and have a key of at most 128 n octets
  pub accepted-key : (chs : List Character) → length (steps_key (mapping_of t) chs) ≤ 128 * length chs
  accepted-key chs = steps_key-most (mapping_of t) accepted-all chs

  -- a scalar code point becomes scalar code points, so that a key is UTF-8
  pub accepted-expansion-scalar : (c : ℕ) → scalar c ≡ true → all scalar (expansion (mapping_of t) c) ≡ true
  accepted-expansion-scalar =
      let form = accepted-form t e in
      expansion-scalar (mapping_of t) (formed-parts-scalar t form) (formed-title-scalar t form)
