-- What calls of the reader and the writer of records answer, from their contracts: the end, a refusal or an item; a position
-- after the record or a refusal.
-- Assumes nothing.
use Rattle.std.specs.Prelude.{Result, Ok, Err}
use mathlib.Core.Path.{◌≡◌, refl, sym, ap, ap₂, ◌∙◌}
use Prim.Native.Nat.{ℕ, ◌+◌, ◌-◌, ◌≤◌}
use native.Mathlib.Omega.{arith}
use mathlib.Core.Bool.{true, false, not}
use Rattle.std.specs.Prelude.{None, Some}
use lib.Dec.{ltb}
use borrow.Author.Tests.{ltb-false, le-ltb, not-false}
use mathlib.Core.Logic.{◌↔◌}
use mathlib.Core.List.{List, [], ◌∷◌}
use lib.ListN.{length}
use lib.Seq.{slice, length-slice}
use Rattle.terms.specs.Refusals.{gives}
use Rattle.terms.specs.declared.Refusal.{Refusal}
use Rattle.terms.specs.declared.RecordPosition.{RecordPosition}
use Rattle.terms.specs.Lists.{put_at}
use Rattle.terms.specs.Refusals.{check}
use Rattle.terms.proofs.Checks.{answer-given, answer-refused, or_else-neither, when-none}
use Rattle.records.specs.Items.{rules, Item, of_text, of_key, fits, kind_of, body_of, record_of}
use Rattle.records.specs.Writing.{writing_refusal, written_outcome, Writes}
use Rattle.records.proofs.Lengths.{length-framed}
use Rattle.records.specs.Numbers.{Octets}
use Rattle.records.proofs.Framing.{read_at-end}
use Rattle.records.specs.Reading.{Reading, end, stopped, item, read_at, reading_outcome, record_outcome}
use Rattle.records.specs.declared.Record.{Record}
use Rattle.records.specs.declared.Record.TheVariants.{End, Text, Key}
use Rattle.records.proofs.Injective.{record_outcome-inj, written_outcome-inj}
use Rattle.records.proofs.WritesRead.{read_at-found}
use Rattle.records.proofs.Octets.{found-next, found-octets, found-record}
use Rattle.demands.specs.Records.{ReadCall, GivesItem, ReadsEach, read_one}

-- ---- one call of the reader

-- an answer gives one item at most
gives_one : (s : List ℕ) (x : Result Record Refusal) {i j : Item} {p q : ℕ} → GivesItem s x i p → GivesItem s x j q → (i ≡ j) × (p ≡ q)
gives_one s (Ok End) g h = absurd g
gives_one s (Ok (Text a b)) g h = (g.0 ∙ sym h.0, g.1 ∙ sym h.1)
gives_one s (Ok (Key f a b)) g h = (g.0 ∙ sym h.0, g.1 ∙ sym h.1)
gives_one s (Err y) g h = absurd g

module _ (s : List ℕ) (p : ℕ) (x : Result Record Refusal) (call : ReadCall s p x) where
  -- what is there, and the call's answer in its numbers
  told : (v : Reading) → read_at rules s p ≡ v → record_outcome x ≡ reading_outcome v
  told v e = call ∙ ap reading_outcome e

  -- the end
  pub reads_end : read_at rules s p ≡ end → x ≡ Ok End
  reads_end e = record_outcome-inj x (Ok End) (told end e)

  -- a refusal
  pub reads-stopped : (y : Refusal) → read_at rules s p ≡ stopped y → x ≡ Err y
  reads-stopped y e = record_outcome-inj x (Err y) (told (stopped y) e)

  -- an item
  pub reads-item : (i : Item) (q : ℕ) → read_at rules s p ≡ item i q → GivesItem s x i q
  reads-item (of_text t) q e =
      let f = found-octets rules s p (of_text t) q (read_at-found rules s p (of_text t) q e) in
      let is : x ≡ Ok (Text (record { 0 = q - length t }) (record { 0 = q })) = record_outcome-inj x _ (told (item (of_text t) q) e) in
      rw is (ap of_text f.1, refl)
  reads-item (of_key k t) q e =
      let f = found-octets rules s p (of_key k t) q (read_at-found rules s p (of_key k t) q e) in
      let is : x ≡ Ok (Key k (record { 0 = q - length t }) (record { 0 = q })) = record_outcome-inj x _ (told (item (of_key k t) q) e) in
      rw is (ap (of_key k) f.1, refl)

  -- ---- and what is there, from the answer

  -- it is the end
  pub end_read : x ≡ Ok End → read_at rules s p ≡ end
  end_read e = go (read_at rules s p) refl
    where
      go : (v : Reading) → read_at rules s p ≡ v → read_at rules s p ≡ end
      go end f = f
      go (stopped y) f = let both : ◌≡◌ {A = Result Record Refusal} (Ok End) (Err y) = sym e ∙ reads-stopped y f in cc
      go (item i q) f = absurd (rw e at (reads-item i q f))

  -- it is a refusal
  pub stopped-read : (y : Refusal) → x ≡ Err y → read_at rules s p ≡ stopped y
  stopped-read y e = go (read_at rules s p) refl
    where
      go : (v : Reading) → read_at rules s p ≡ v → read_at rules s p ≡ stopped y
      go end f = let both : Err y ≡ Ok End = sym e ∙ reads_end f in cc
      go (stopped z) f = let both : ◌≡◌ {A = Result Record Refusal} (Err y) (Err z) = sym e ∙ reads-stopped z f in f ∙ cc
      go (item i q) f = absurd (rw e at (reads-item i q f))

  -- it gives an item
  pub item-read : (i : Item) (q : ℕ) → GivesItem s x i q → read_at rules s p ≡ item i q
  item-read i q g = go (read_at rules s p) refl
    where
      go : (v : Reading) → read_at rules s p ≡ v → read_at rules s p ≡ item i q
      go end f = absurd (rw (reads_end f) at g)
      go (stopped y) f = absurd (rw (reads-stopped y f) at g)
      go (item j m) f = let one = gives_one s x (reads-item j m f) g in f ∙ ap₂ item one.0 one.1

  -- what is refused is not the end
  pub refused-inside : {y : Refusal} → x ≡ Err y → p ≡ length s → ⊥
  refused-inside {y} e at-end =
      let both : ◌≡◌ {A = Result Record Refusal} (Ok End) (Err y) = sym (reads_end (read_at-end rules s p at-end)) ∙ e in
      let z : ◌≡◌ {A = ℕ} 0 1 = cc in omega arith

-- an item that was given by a slice of octets: it fits, and its record is the octets from the position up to the next
pub record GivenItem (s : List ℕ) (p : ℕ) (i : Item) (q : ℕ) : Type 0 where
  pub fit : fits rules i ≡ true
  pub onward : p + 6 ≤ q
  pub within : q ≤ length s
  pub octets : record_of i ≡ slice p q s
  pub long : length (record_of i) ≡ q - p

pub given-item : (s : List ℕ) (p : ℕ) (x : Result Record Refusal) → ReadCall s p x → (i : Item) (q : ℕ) → GivesItem s x i q → Octets s
    → GivenItem s p i q
given-item s p x call i q given octets =
    let found = read_at-found rules s p i q (item-read s p x call i q given) in
    let there = found-next rules s p i q found in
    let same = found-record rules s p i q found octets in
    record {
      fit = found.fit;
      onward = there.0;
      within = there.1;
      octets = same;
      long = ap length same ∙ length-slice p q s there.1;
    }

-- what a call answers, by what is there
abbrev answer_to : Reading → Result Record Refusal
answer_to end = Ok End
answer_to (stopped y) = Err y
answer_to (item (of_text t) q) = Ok (Text (record { 0 = q - length t }) (record { 0 = q }))
answer_to (item (of_key f t) q) = Ok (Key f (record { 0 = q - length t }) (record { 0 = q }))

answered : (s : List ℕ) (p : ℕ) → ReadCall s p (answer_to (read_at rules s p))
answered s p = go (read_at rules s p)
  where
    go : (v : Reading) → record_outcome (answer_to v) ≡ reading_outcome v
    go end = refl
    go (stopped y) = refl
    go (item (of_text t) q) = refl
    go (item (of_key f t) q) = refl

-- an item that is there is read, and the rest after it
pub reads-next : {s : List ℕ} {p next q : ℕ} {i : Item} {items : List Item} → read_at rules s p ≡ item i next
    → ReadsEach s next items q
    → ReadsEach s p (i ∷ items) q
reads-next {s} {p} {next} {q} {i} e more =
    let x = answer_to (read_at rules s p) in
    read_one x (answered s p) (reads-item s p x (answered s p) i next e) more

-- ---- the writer

-- an item that was written: it fits, has room, and its record stands there
pub record Stands (i : Item) (p : ℕ) (s t : List ℕ) (next : ℕ) : Type 0 where
  pub fit : fits rules i ≡ true
  pub room : p + length (record_of i) ≤ length s
  pub upto : next ≡ p + length (record_of i)
  pub left : t ≡ put_at p (record_of i) s

-- a record has six octets at least
six : (i : Item) → 6 ≤ length (record_of i)
six i = omega (arith, length-framed (kind_of i) (body_of i))

pub writes-given : (i : Item) (p : ℕ) (s t : List ℕ) (next : RecordPosition) → Writes i p s (Ok next) t
    → Stands i p s t next.0
writes-given i p s t next w =
    let unrefused : writing_refusal i p (length s) ≡ None = answer-given (writing_refusal i p (length s)) _ _ w.answered in
    let neither = or_else-neither (check (not (fits rules i)) 13 0 0) _ unrefused in
    let room = ltb-false (length s - p) (length (record_of i)) (when-none _ _ (or_else-neither _ None neither.1).0) in
    let given : gives (next.0 ∷ []) ≡ gives ((p + length (record_of i)) ∷ []) = rw unrefused at w.answered in
    record {
      fit = not-false (fits rules i) (when-none _ _ neither.0);
      room = omega (arith, six i);
      upto = cc;
      left = rw unrefused at w.left;
    }

-- and the other way about: one that fits and has room is written
pub writes-room : (i : Item) (p : ℕ) (s : List ℕ) → fits rules i ≡ true → p + length (record_of i) ≤ length s
    → Writes i p s (Ok (record { 0 = p + length (record_of i) })) (put_at p (record_of i) s)
writes-room i p s fit room =
    let enough : ltb (length s - p) (length (record_of i)) ≡ false = le-ltb (length s - p) (length (record_of i)) (omega arith) in
    rw (fit, enough) (record { answered = refl; left = refl })

-- the answer is a refusal exactly where the definition's is
pub write-refused : (i : Item) {p : ℕ} {s t : List ℕ} {r : Result RecordPosition Refusal} → Writes i p s r t → (y : Refusal)
    → (r ≡ Err y) ↔ (writing_refusal i p (length s) ≡ Some y)
write-refused i {p} {s} {t} {r} w y = (
  λ e. answer-refused (writing_refusal i p (length s)) _ y (ap written_outcome (sym e) ∙ w.answered),
  λ e. written_outcome-inj r (Err y) (rw e at w.answered),
)

-- a contract of the writer fixes the answer and the slice
pub writes-same : (i : Item) {p : ℕ} {s t u : List ℕ} {x y : Result RecordPosition Refusal} → Writes i p s x t → Writes i p s y u → (x ≡ y) × (t ≡ u)
writes-same i {x = x} {y = y} v w = (written_outcome-inj x y (v.answered ∙ sym w.answered), v.left ∙ sym w.left)
