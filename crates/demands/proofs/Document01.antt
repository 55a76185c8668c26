-- Sentences of document 01 that no demand has in its words, each with the theorems that render it; they take what the
-- theorems of the demands take (Demand1.antt says what).
-- Assumes nothing.
use Rattle.std.specs.Prelude.{Ok, Err}
use mathlib.Core.Path.{◌≡◌, refl, ap, ◌∙◌}
use Prim.Native.Nat.{ℕ, suc, ◌+◌, ◌*◌, ◌≤◌}
use native.Mathlib.Omega.{arith}
use mathlib.Core.Bool.{Bool, true, false, not, cond}
use mathlib.Core.Logic.{◌↔◌}
use Rattle.std.specs.Prelude.{Option, None, Some}
use mathlib.Core.List.{List, [], ◌∷◌, ◌++◌, map}
use lib.ListN.{length, replicate, length-map}
use borrow.Author.Tests.{le-ltb, not-true}
use Rattle.terms.specs.CodePoints.{scalar}
use Rattle.terms.specs.Collations.{reads_table}
use Rattle.terms.specs.Lists.{empty, over, there, In}
use Rattle.terms.specs.Refusals.{text_most, Outcome, Given}
use Rattle.terms.specs.declared.Collation.{Collation}
use Rattle.terms.specs.declared.Collation.TheVariants.{Octet, AsciiCasemap, UnicodeCasemap}
use Rattle.terms.specs.declared.Refusal.{Refusal}
use Rattle.utf8.specs.Utf8.{Character, characters, Encodes}
use Rattle.utf8.proofs.Characters.{characters-exactly}
use Rattle.table.specs.Mapping.{Mapping}
use Rattle.table.specs.Table.{Table, mapping_of}
use Rattle.decompose.specs.Levels.{Unfolds, UnfoldEach}
use Rattle.decompose.specs.Steps.{StepsGive, steps_key}
use Rattle.decompose.proofs.Levels.{empty-true}
use Rattle.decompose.proofs.Whole.{unfolded-whole, unfolds-parts, unfolds-append, steps-give-append}
use Rattle.keys.specs.Keys.{upper, prepared, table_under, room_for, keyed}
use Rattle.keys.specs.Summaries.{summary_numbers, prepared_numbers}
use Rattle.keys.specs.declared.Summary.{Summary}
use Rattle.keys.proofs.Bounds.{key-most}
use Rattle.keys.proofs.Collations.{summary-valid}
use Rattle.keys.proofs.Injective.{truth-inj}
use Rattle.pages.specs.Pages.{Pages}
use Rattle.prepare.specs.Calls.{Lent, Call, call, prepared_in, length_checks, room_checks, call_refusal, keyed_all, Called}
use Rattle.prepare.specs.Calls.{pages_check}
use Rattle.prepare.specs.Preparing.{shown_key, Prepares}
use Rattle.occurrence.specs.Occurrence.{occurrence}
use Rattle.search.specs.Substring.{found_values, substring_values, sought_values}
use Rattle.mz_texts.specs.Promises.{RowAnswered}
use Rattle.ucd.specs.Lines.{Properties, LineSays, says_nothing}
use Rattle.ucd.proofs.Lines.{line_properties-exactly}
use Rattle.builder.specs.Builder.{Built, built, accepted, moved, appended, Added}
use Rattle.builder.specs.declared.LineState.{LineState}
use Rattle.builder.proofs.Adding.{add_line-accepted}
use Rattle.demands.specs.Demands.{EachRoomy}
use Rattle.demands.specs.Faults.{Scalar, HasMapping}
use Rattle.demands.proofs.Growing.{taken-unrefused}
use Rattle.demands.proofs.LineFaults.{mapping-exactly}
use Rattle.demands.proofs.Preparing.{numbers-are, given-left}
use Rattle.demands.proofs.Reflect.{all_in}
use Rattle.demands.proofs.TableFaults.{scalar-exactly}

-- ================================================================ Preparation

-- ---- "A text is valid if it is UTF-8 by RFC 3629"

-- a text has these characters exactly when it is the encoding of their scalar code points, one after another
pub valid-exactly : (t : List ℕ) (chs : List Character) → (characters t ≡ Some chs) ↔ Encodes t chs
valid-exactly = characters-exactly

-- ---- "and the same step is applied again to each resulting code point until none decomposes."

-- no code point of a full decomposition decomposes
pub none-decomposes : (m : Mapping) {c : ℕ} {codes : List ℕ} {asked : ℕ} → Unfolds m c codes asked
    → (d : ℕ) → In d codes → m.parts d ≡ []
none-decomposes m {codes = codes} u d i =
    empty-true (m.parts d) (all_in (λ d. empty (m.parts d)) codes (unfolded-whole m u) d i)

-- ---- "Titlecase isn't taken again on the results."

-- unfolding asks for no titlecase: over another mapping with the same decompositions it is the same
pub titles-unasked : (m o : Mapping) → ((c : ℕ) → m.parts c ≡ o.parts c) → {c : ℕ} {codes : List ℕ} {asked : ℕ}
    → Unfolds m c codes asked → Unfolds o c codes asked
titles-unasked m o same u = unfolds-parts m o same u

-- ---- "Marks aren't reordered."

-- the full decompositions of some parts and then of others stand in that order
pub parts-append : (m : Mapping) {ps qs codes rest : List ℕ} {asked later : ℕ} → UnfoldEach m ps codes asked
    → UnfoldEach m qs rest later → UnfoldEach m (ps ++ qs) (codes ++ rest) (asked + later)
parts-append m u v = unfolds-append m u v

-- what the published steps give of some characters and then of others is the key of the one and then that of the other
pub steps-append : (m : Mapping) {chs ds : List Character} {key more : List ℕ} {n k : ℕ} → StepsGive m chs key n
    → StepsGive m ds more k
    → StepsGive m (chs ++ ds) (key ++ more) (n + k)
steps-append m s t = steps-give-append m s t

-- ---- "Preparation reports it, and whether the text is valid (always so under collations 1 and 2). It is 0 for an invalid
-- text and under collations 1 and 2."

module _ {k : Collation} {t : Table} {pg : Pages} {l : Lent} {s : Summary} {after : List ℕ}
    (h : Prepares (call (Some k) t pg (l ∷ [])) (Ok s) after) where
  octets-numbers : reads_table k ≡ false → (s.valid ≡ true) × (s.lookups ≡ 0)
  octets-numbers unread = go k unread (numbers-are h refl)
    where
      go : (j : Collation) → reads_table j ≡ false → summary_numbers s ≡ prepared_numbers (prepared j (mapping_of t) l.text)
          → (s.valid ≡ true) × (s.lookups ≡ 0)
      go Octet e n = (truth-inj s.valid true (cc), cc)
      go AsciiCasemap e n = (truth-inj s.valid true (cc), cc)
      go UnicodeCasemap e n = let z : ◌≡◌ {A = ℕ} 0 1 = cc in absurd (omega arith)

  -- valid under 1 and 2, the collations that read no table
  pub valid-octets : reads_table k ≡ false → s.valid ≡ true
  valid-octets unread = (octets-numbers unread).0

  -- and the count is 0
  pub count-octets : reads_table k ≡ false → s.lookups ≡ 0
  count-octets unread = (octets-numbers unread).1

  -- under 3 it is told whether the text is valid
  pub valid-unicode : k ≡ UnicodeCasemap → s.valid ≡ there (characters l.text)
  valid-unicode e = summary-valid k e (mapping_of t) l.text s (numbers-are h refl)

  -- and the count of an invalid text is 0
  pub count-invalid : k ≡ UnicodeCasemap → characters l.text ≡ None → s.lookups ≡ 0
  count-invalid e broken = let told = rw (e, broken) at (numbers-are h refl) in cc

-- ---- "All other keys stand at the start of the lent key buffer, and octets after the key stay. Comparing calls leave both
-- keys so, each in its own buffer."

-- a call on texts that is not refused leaves each key in its buffer
pub call-left : {R : Type 0} {outcome : R → Outcome} {values : Call → Option (List ℕ)} {c : Call} {r : R} {after : List (List ℕ)}
    → Called outcome values c r after → Given (outcome r) → after ≡ keyed_all (prepared_in c) c.lents
call-left = given-left

module _ (m : Mapping) (t buffer : List ℕ) where
  -- so under 1, where the key is the text: as before
  pub left-octet : keyed (prepared Octet m t) buffer ≡ buffer
  left-octet = refl

  -- under 2: the key, over what was there
  pub left-ascii : keyed (prepared AsciiCasemap m t) buffer ≡ over (map upper t) buffer
  left-ascii = refl

  -- under 3, of a valid text: the key, over what was there
  pub left-unicode : (chs : List Character) → characters t ≡ Some chs
      → keyed (prepared UnicodeCasemap m t) buffer ≡ over (steps_key m chs) buffer
  left-unicode chs e = rw e

  -- and of an invalid one, whose key is the text: as before
  pub left-broken : characters t ≡ None → keyed (prepared UnicodeCasemap m t) buffer ≡ buffer
  left-broken e = rw e

-- ================================================================ The mapping table

-- ---- "Scalar means at most 10FFFF hex and not D800 to DFFF."
pub scalar-words : (c : ℕ) → (scalar c ≡ true) ↔ Scalar c
scalar-words = scalar-exactly

-- ================================================================ Refusal numbers

-- ---- "Collations 1 and 2 don't read the table."

module _ (k : Collation) (unread : reads_table k ≡ false) (t u : Table) (pg : Pages) (ls : List Lent) where
  -- over another table the refusal is the same
  pub unread-refusal : call_refusal (call (Some k) t pg ls) ≡ call_refusal (call (Some k) u pg ls)
  unfolding call_refusal
  unread-refusal = go k unread
    where
      go : (j : Collation) → reads_table j ≡ false → call_refusal (call (Some j) t pg ls) ≡ call_refusal (call (Some j) u pg ls)
      go Octet e = refl
      go AsciiCasemap e = refl
      go UnicodeCasemap e = let z : ◌≡◌ {A = ℕ} 0 1 = cc in absurd (omega arith)

  -- and so are the texts prepared, by which `prepare`, `equal` and `order` answer and every call fills its buffers
  pub unread-keys : prepared_in (call (Some k) t pg ls) ≡ prepared_in (call (Some k) u pg ls)
  unread-keys = go k unread
    where
      go : (j : Collation) → reads_table j ≡ false → prepared_in (call (Some j) t pg ls) ≡ prepared_in (call (Some j) u pg ls)
      go Octet e = refl
      go AsciiCasemap e = refl
      go UnicodeCasemap e = let z : ◌≡◌ {A = ℕ} 0 1 = cc in absurd (omega arith)

found-unread : (k : Collation) → reads_table k ≡ false → (m o : Mapping) (t : List ℕ) (n : ℕ) (x : Option ℕ)
    → found_values k m t n x ≡ found_values k o t n x
found-unread k e m o t n None = refl
found-unread Octet e m o t n (Some i) = refl
found-unread AsciiCasemap e m o t n (Some i) = refl
found-unread UnicodeCasemap e m o t n (Some i) = let z : ◌≡◌ {A = ℕ} 0 1 = cc in absurd (omega arith)

-- and so is what `substring` answers
pub unread-sought : (k : Collation) → reads_table k ≡ false → (t u : Table) (pg : Pages) (l n : Lent)
    → sought_values (call (Some k) t pg (l ∷ n ∷ [])) ≡ sought_values (call (Some k) u pg (l ∷ n ∷ []))
unfolding substring_values
unread-sought Octet e t u pg l n =
    ap (λ (vs : List ℕ). Some (cond (empty l.text) (1 ∷ 0 ∷ 0 ∷ 0 ∷ 0 ∷ []) vs))
    (found-unread Octet e (mapping_of t) (mapping_of u) n.text (length l.text) (occurrence l.text n.text))
unread-sought AsciiCasemap e t u pg l n =
    let s = map upper l.text in
    ap (λ (vs : List ℕ). Some (cond (empty l.text) (1 ∷ 0 ∷ 0 ∷ 0 ∷ 0 ∷ []) vs))
    (found-unread AsciiCasemap e (mapping_of t) (mapping_of u) n.text (length s) (occurrence s (map upper n.text)))
unread-sought UnicodeCasemap e t u pg l n = let z : ◌≡◌ {A = ℕ} 0 1 = cc in absurd (omega arith)

-- ---- "On refusal .. a shown key is empty, and every other field of the answer is 0."

pub refused-shows : (x : Refusal) (text buffer : List ℕ) → shown_key (Err x) text buffer ≡ []
refused-shows x text buffer = refl

-- a call of the C interface on texts that is refused with x: its row, and every key buffer as it was
pub refused-row : {n : ℕ} {values : Call → Option (List ℕ)} {c : Call} {answer : List ℕ} {after : List (List ℕ)}
    → RowAnswered n values c answer after → (x : Refusal) → call_refusal c ≡ Some x
    → (answer ≡ x.number ∷ x.place ∷ x.detail ∷ replicate n 0) × (after ≡ map (λ l. l.buffer) c.lents)
refused-row h x e = (let told = rw e at h.answered in cc, rw e at h.left)

-- one that is not refused and has these values
pub given-row : {n : ℕ} {values : Call → Option (List ℕ)} {c : Call} {answer : List ℕ} {after : List (List ℕ)}
    → RowAnswered n values c answer after → call_refusal c ≡ None → (vs : List ℕ) → values c ≡ Some vs
    → answer ≡ 0 ∷ 0 ∷ 0 ∷ vs
given-row h e vs v = let told = rw (e, v) at h.answered in cc

-- ---- "A text is never refused for its content."

room_most : (k : Collation) (t : Table) (text : List ℕ) → table_under k t ≡ None
    → room_for (prepared k (mapping_of t) text) ≤ 128 * length text
room_most Octet t text e = omega arith
room_most AsciiCasemap t text e = omega (arith, length-map text upper)
room_most UnicodeCasemap t text e = key-most t text e

module _ (k : Collation) (t : Table) (ok : table_under k t ≡ None) where
  rooms-none : (place : ℕ) (ls : List Lent) → EachRoomy ls
      → room_checks place ls (map (λ l. prepared k (mapping_of t) l.text) ls) ≡ None
  rooms-none place [] h = refl
  rooms-none place (l ∷ ls) h =
      let room = room_for (prepared k (mapping_of t) l.text) in
      let fits = le-ltb (length l.buffer) room (omega (arith, room_most k t l.text ok, h.0.1)) in
      rw fits (rooms-none (suc place) ls h.1)

  lengths_none : (place : ℕ) (ls : List Lent) → EachRoomy ls → length_checks place (map (λ l. length l.text) ls) ≡ None
  lengths_none place [] h = refl
  lengths_none place (l ∷ ls) h = rw (le-ltb text_most (length l.text) h.0.0) (lengths_none (suc place) ls h.1)

  -- texts of at most 4,096 octets with buffers of 128 times their lengths are refused by nothing, whatever their octets are,
  -- where 15 doesn't apply either
  pub content-unrefused : (pg : Pages) (ls : List Lent) → pages_check (Some k) pg ≡ None → EachRoomy ls
      → call_refusal (call (Some k) t pg ls) ≡ None
  unfolding call_refusal
  content-unrefused pg ls long h = rw (lengths_none 1 ls h, ok, long, rooms-none 1 ls h)

-- ================================================================ Lines of UnicodeData.txt

-- ---- "It appends at most one entry." "Lines that say nothing .. only move the last code point."

module _ {b : Built} {line es pool : List ℕ} {st : LineState} {p : Properties} (h : Added b line (Ok st) es pool)
    (s : LineSays line p) where
  accepts : accepted b line ≡ Some p
  accepts = rw (taken-unrefused h) ((line_properties-exactly line p).1 s)

  -- a line with a mapping that is taken appends one entry and its parts, each at the next free place
  pub line-appends : HasMapping p → built st es pool ≡ appended b p
  line-appends mapping =
      let test : says_nothing p ≡ false = not-true (says_nothing p) ((mapping-exactly p).1 mapping) in
      h.left ∙ add_line-accepted b line p accepts ∙ rw test

  -- one that says nothing only moves the last code point
  pub line-moves : (HasMapping p → ⊥) → built st es pool ≡ moved b p
  line-moves none_said = h.left ∙ add_line-accepted b line p accepts ∙ rw (silent (says_nothing p) refl)
    where
      silent : (t : Bool) → says_nothing p ≡ t → says_nothing p ≡ true
      silent true e = e
      silent false e = absurd (none_said ((mapping-exactly p).0 (ap not e)))
