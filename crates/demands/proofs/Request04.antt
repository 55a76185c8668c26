-- Document 02, request 4 (Hangul), each sentence with the theorems that render it; they take what the theorems of the demands
-- take (Demand1.antt says what).
-- Assumes nothing.
use Rattle.terms.specs.declared.Refusal.{Refusal}
use Rattle.std.specs.Prelude.{Result, Ok, ⊤}
use mathlib.Core.Path.{◌≡◌, refl, sym, ap, ap₂, ◌∙◌}
use Prim.Native.Nat.{ℕ, suc, ◌+◌, ◌-◌, ◌/◌, ◌%◌, ◌≤◌, ◌<◌}
use mathlib.Core.Bool.{Bool, true, false, cond, ◌&&◌, true≢false}
use mathlib.Core.Logic.{inl, inr}
use Rattle.std.specs.Prelude.{None, Some}
use mathlib.Core.List.{List, [], ◌∷◌, ◌++◌, append-nil}
use lib.Dec.{leb}
use borrow.Author.Tests.{leb-true}
use Rattle.terms.specs.CodePoints.{scalar}
use Rattle.terms.specs.Lists.{all, empty, each, total}
use Rattle.terms.specs.Refusals.{refusal, Given, check_outcome}
use Rattle.terms.specs.declared.Collation.TheVariants.{UnicodeCasemap}
use Rattle.terms.proofs.Lists.{all_cons, all-each, all-mono, each_append}
use Rattle.terms.proofs.Tests.{both}
use Rattle.hangul.specs.Hangul.{syllable, syllable_parts}
use Rattle.hangul.proofs.Syllables.{parts-two, parts-three, parts-scalar}
use Rattle.table.specs.Layout.{entry_count, code_at}
use Rattle.table.specs.Mapping.{Mapping}
use Rattle.table.specs.Table.{Table, form_refusal, mapping_of}
use Rattle.table.proofs.Form.{parts_of-syllable, formed-code}
use Rattle.utf8.specs.Utf8.{encodes, as_characters}
use Rattle.utf8.proofs.Characters.{characters-encodes}
use Rattle.decompose.specs.Levels.{Level, Highest, asks}
use Rattle.decompose.specs.Steps.{expanded, lookups, steps_key}
use Rattle.decompose.specs.TableCheck.{table_refusal, table_answer, UnfoldsWell}
use Rattle.decompose.proofs.SyllableSteps.{syllable-level, syllable-level-one, lookups-syllable, expanded-syllable}
use Rattle.keys.specs.Keys.{key_of}
use Rattle.keys.proofs.Validity.{key-valid}
use Rattle.pages.specs.Pages.{Pages}
use Rattle.prepare.specs.Calls.{Lent, call, Called}
use Rattle.compare.specs.Compare.{equality_outcome, equality_values}
use Rattle.compare.specs.Compare.{Equality}
use Rattle.ucd.specs.Lines.{Properties, LineSays}
use Rattle.builder.specs.Builder.{Built, line_refusal}
use Rattle.demands.specs.Demands.{in_jamo}
use Rattle.demands.specs.Faults.{Syllable, HasMapping, Clear, fault3, fault28, WrongCode, reading_faults}
use Rattle.demands.proofs.TableFaults.{syllable-exactly}
use Rattle.demands.proofs.Demand1.{number-4, number-7, number-25}
use Rattle.demands.proofs.Demand2.{equal-keys, equal-says}
use Rattle.demands.proofs.Demand3.{check-every}

-- ---- "Korean names in syllables don't meet the same names in jamo"

-- a code point that is written in jamo becomes what it becomes by itself
one-meets : (t : Table) → table_refusal t ≡ None → ((j : ℕ) → 0x1100 ≤ j → j ≤ 0x11C2 → (mapping_of t).title j ≡ j)
    → (c : ℕ) → each (λ p. expanded (mapping_of t) p) (cond (syllable c) (syllable_parts c) (c ∷ [])) ≡ expanded (mapping_of t) c
unfolding each
one-meets t ok own c = go (syllable c) refl
  where
    jamo : (j : ℕ) → (leb 0x1100 j && leb j 0x11C2) ≡ true → (mapping_of t).title j ≡ j
    jamo j e =
        let h = both (leb 0x1100 j) (leb j 0x11C2) e in
        own j (leb-true 0x1100 j h.0) (leb-true j 0x11C2 h.1)

    go : (b : Bool) → syllable c ≡ b
        → each (λ p. expanded (mapping_of t) p) (cond b (syllable_parts c) (c ∷ [])) ≡ expanded (mapping_of t) c
    go true is = sym (expanded-syllable t ok c is jamo)
    go false other = append-nil (expanded (mapping_of t) c)

-- so a list of them does
all_meet : (t : Table) → table_refusal t ≡ None → ((j : ℕ) → 0x1100 ≤ j → j ≤ 0x11C2 → (mapping_of t).title j ≡ j)
    → (cs : List ℕ) → each (λ p. expanded (mapping_of t) p) (in_jamo cs) ≡ each (λ p. expanded (mapping_of t) p) cs
unfolding each
all_meet t ok own [] = refl
all_meet t ok own (c ∷ cs) =
    each_append (λ p. expanded (mapping_of t) p) (cond (syllable c) (syllable_parts c) (c ∷ [])) (in_jamo cs)
    ∙ ap₂ (λ (xs ys : List ℕ). xs ++ ys) (one-meets t ok own c) (all_meet t ok own cs)

-- the steps go by code points
steps-codes : (m : Mapping) (cs : List ℕ) → steps_key m (as_characters cs) ≡ each (λ p. expanded m p) cs
unfolding steps_key each
steps-codes m [] = refl
steps-codes m (c ∷ cs) = ap (λ (xs : List ℕ). expanded m c ++ xs) (steps-codes m cs)

-- what is written in jamo is scalar too
jamo-scalar : (cs : List ℕ) → all scalar cs ≡ true → all scalar (in_jamo cs) ≡ true
jamo-scalar cs e =
    all-each scalar (λ c. cond (syllable c) (syllable_parts c) (c ∷ [])) cs
    (all-mono scalar (λ c. all scalar (cond (syllable c) (syllable_parts c) (c ∷ []))) one cs e)
  where
    one : (c : ℕ) → scalar c ≡ true → all scalar (cond (syllable c) (syllable_parts c) (c ∷ [])) ≡ true
    one c s = go (syllable c) refl
      where
        go : (b : Bool) → syllable c ≡ b → all scalar (cond b (syllable_parts c) (c ∷ [])) ≡ true
        go true is = parts-scalar c is
        go false other = all_cons scalar c [] s refl

-- now they do: over every accepted table in which the jamo are their own titlecases, as in the published one, a name and the same
-- name with each syllable in jamo have one key, so that every call on keys takes them for one
pub syllables-meet : (t : Table) → table_refusal t ≡ None → ((j : ℕ) → 0x1100 ≤ j → j ≤ 0x11C2 → (mapping_of t).title j ≡ j)
    → (cs : List ℕ) → all scalar cs ≡ true
    → key_of UnicodeCasemap (mapping_of t) (encodes (in_jamo cs)) ≡ key_of UnicodeCasemap (mapping_of t) (encodes cs)
syllables-meet t ok own cs e =
    let m = mapping_of t in
    key-valid m (encodes (in_jamo cs)) (as_characters (in_jamo cs)) (characters-encodes (in_jamo cs) (jamo-scalar cs e))
    ∙ steps-codes m (in_jamo cs)
    ∙ all_meet t ok own cs
    ∙ sym (steps-codes m cs)
    ∙ sym (key-valid m (encodes cs) (as_characters cs) (characters-encodes cs e))

-- so a call of `equal` on the two answers that they match, where it is not refused
pub names-meet : {t : Table} {pg : Pages} {l m : Lent} {r : Equality} {after : List (List ℕ)}
    → Called equality_outcome equality_values (call (Some UnicodeCasemap) t pg (l ∷ m ∷ [])) r after → Given (equality_outcome r)
    → table_refusal t ≡ None
    → ((j : ℕ) → 0x1100 ≤ j → j ≤ 0x11C2 → (mapping_of t).title j ≡ j)
    → (cs : List ℕ) → all scalar cs ≡ true → l.text ≡ encodes (in_jamo cs) → m.text ≡ encodes cs
    → r ≡ Ok true
names-meet {t} h answers ok own cs e first second =
    let key : List ℕ → List ℕ = λ text. key_of UnicodeCasemap (mapping_of t) text in
    (equal-keys (equal-says h answers)).1 (ap key first ∙ syllables-meet t ok own cs e ∙ sym (ap key second))

-- ---- "for AC00 to D7A3, with s the distance from AC00, the parts are 1100 + s/588, 1161 + (s mod 588)/28 and, if s mod 28 isn't
-- 0, 11A7 + s mod 28 (base numbers hex)."

module _ (t : Table) (c : ℕ) (is : Syllable c) where
  abbrev by-test : syllable c ≡ true
  by-test = (syllable-exactly c).1 is

  -- whatever the table
  pub two-jamo : (c - 0xAC00) % 28 ≡ 0
      → (mapping_of t).parts c ≡ (0x1100 + (c - 0xAC00) / 588) ∷ (0x1161 + (c - 0xAC00) % 588 / 28) ∷ []
  two-jamo e = parts_of-syllable t c by-test ∙ parts-two c e

  pub three-jamo : ((c - 0xAC00) % 28 ≡ 0 → ⊥)
      → (mapping_of t).parts c
      ≡ (0x1100 + (c - 0xAC00) / 588) ∷ (0x1161 + (c - 0xAC00) % 588 / 28) ∷ (0x11A7 + (c - 0xAC00) % 28) ∷ []
  three-jamo ne = parts_of-syllable t c by-test ∙ parts-three c ne

  -- ---- "Level 1 unless a part decomposes;"

  pub level-1 : all (λ p. empty ((mapping_of t).parts p)) ((mapping_of t).parts c) ≡ true → Level (mapping_of t) c 1
  level-1 e = syllable-level-one t c by-test (rw (parts_of-syllable t c by-test) at e)

  -- in any case one more than the highest level among them
  pub level-above : {n : ℕ} → Highest (mapping_of t) ((mapping_of t).parts c) n → Level (mapping_of t) c (suc n)
  level-above h = syllable-level t c by-test (rw (parts_of-syllable t c by-test) at h)

  -- ---- "parts are asked like any others."

  -- one ask for the titlecase, one for the decomposition, and those of each part
  pub lookups-jamo : table_refusal t ≡ None
      → lookups (mapping_of t) c ≡ suc (suc (total (λ p. asks (mapping_of t) 8 p) ((mapping_of t).parts c)))
  lookups-jamo ok =
      lookups-syllable t ok c by-test
      ∙ ap (λ (ps : List ℕ). suc (suc (total (λ p. asks (mapping_of t) 8 p) ps))) (sym (parts_of-syllable t c by-test))

-- ---- "Check 7, and with it demand 3's "every code point in it", now covers the syllables too, whether or not the table names
-- them:"

-- a table that `check_table` passes unfolds every syllable well (and `check-accepts` of Demand3.antt says that it passes exactly
-- where every entry and every syllable does, and the form holds)
pub check-syllables : (t : Table) {r : Result ⊤ Refusal} → check_outcome r ≡ table_answer t → r ≡ Ok tt
    → (c : ℕ) → Syllable c → UnfoldsWell (mapping_of t) c
check-syllables t h e c is = check-every t h e c

-- ---- "if no entry is at fault but a syllable is, the detail is the number of entries."

pub syllable-detail : (t : Table) → form_refusal t ≡ None
    → ((i : ℕ) → i < entry_count t.entries → UnfoldsWell (mapping_of t) (code_at t.entries i))
    → (c : ℕ) → Syllable c → (UnfoldsWell (mapping_of t) c → ⊥)
    → table_refusal t ≡ Some (refusal 7 0 (entry_count t.entries))
syllable-detail t form sound c is unsound =
    (number-7 t (entry_count t.entries)).1 (
      form,
      inr (record {
        count = refl;
        entries = sound;
        code = c;
        is-syllable = (syllable-exactly c).1 is;
        unsound = unsound;
      }),
    )

-- ---- "Refusals: an entry for a code point in that range is now a fault under 4,"

-- where 3 doesn't apply and it is the lowest at fault, 4 names it
pub syllable-entry : (t : Table) (i : ℕ) → Clear (fault3 t ∷ []) → i < entry_count t.entries → Syllable (code_at t.entries i)
    → ((j : ℕ) → j < i → WrongCode t.entries j → ⊥)
    → table_refusal t ≡ Some (refusal 4 0 i)
syllable-entry t i clear l is lower =
    (number-4 t i).1 (clear, record { below = l; here = inr (inr (inl is)); lower = lower })

-- no table of the form has one
pub syllable-no-entry : (t : Table) → form_refusal t ≡ None → (i : ℕ) → i < entry_count t.entries
    → Syllable (code_at t.entries i) → ⊥
syllable-no-entry t form i l is =
    true≢false (sym ((syllable-exactly (code_at t.entries i)).1 is) ∙ formed-code t form i l)

-- ---- "and a line with a mapping for one gets 25."

pub syllable-line : (b : Built) (line : List ℕ) → Clear (fault28 b ∷ reading_faults line)
    → (p : Properties) → LineSays line p → HasMapping p → Syllable p.code
    → line_refusal b line ≡ Some (refusal 25 0 0)
syllable-line b line clear p says mapping is =
    (number-25 b line).1 (clear, record { said = p; says = says; mapping = mapping; barred = inr is })
