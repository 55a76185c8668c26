-- Document 02, request 2 (records to pass around), each sentence with the theorems that render it. `ReadCall s p x` is what the
-- contract of `read_record` says of its answer x on the slice s at position p; `Writes i p s r t` what those of `write_text` and
-- `write_key` say of the answer r and of the slice t that is left (Contracts.antt has the ties). Each fixes its call's answer.
-- Request02Refusals.antt has the sentences on refusals.
-- Assumes nothing.
use Rattle.std.specs.Prelude.{Result, Ok, Err}
use mathlib.Core.Path.{◌≡◌, refl, sym, ap, subst, subst₂, ◌∙◌}
use Prim.Native.Nat.{ℕ, ◌+◌, ◌-◌, ◌≤◌, ◌<◌}
use native.Mathlib.Omega.{arith}
use mathlib.Core.Bool.{true}
use mathlib.Core.Logic.{◌⊎◌, inl, inr, ◌↔◌}
use Rattle.std.specs.Prelude.{Some}
use mathlib.Core.List.{List, [], ◌∷◌, ◌++◌, append_assoc, append-nil}
use lib.ListN.{length, take, drop, length-append}
use lib.Seq.{slice, length-slice}
use Rattle.terms.specs.Collations.{collation_of}
use Rattle.terms.specs.Lists.{all, put_at, each}
use Rattle.terms.specs.declared.Collation.{Collation}
use Rattle.terms.specs.Refusals.{refusal}
use Rattle.terms.specs.declared.Refusal.{Refusal}
use Rattle.terms.specs.declared.RecordPosition.{RecordPosition}
use Rattle.table.specs.Table.{Table, mapping_of}
use Rattle.keys.specs.Keys.{prepared}
use Rattle.keys.specs.Summaries.{truth}
use Rattle.keys.specs.declared.Summary.{Summary}
use Rattle.pages.specs.Pages.{Pages}
use Rattle.prepare.specs.Calls.{Lent, call}
use Rattle.prepare.specs.Preparing.{shown_key, Prepares}
use Rattle.prepare.specs.Preparing.{Preparation}
use Rattle.records.specs.Numbers.{little_endian, Octets}
use Rattle.records.specs.Items.{rules, Item, of_text, of_key, fits, field_octets, framed, record_of}
use Rattle.records.specs.Reading.{end, stopped, read_at}
use Rattle.records.specs.Writing.{Writes}
use Rattle.records.specs.declared.KeyFields.{KeyFields}
use Rattle.records.specs.declared.Record.{Record}
use Rattle.records.specs.declared.Record.TheVariants.{End}
use Rattle.records.proofs.Lengths.{length-field_octets, length-kind-body}
use Rattle.records.proofs.Framing.{read_at-end, read_at-ends, read_at-past}
use Rattle.records.proofs.ReadsWritten.{read_at-written}
use Rattle.records.proofs.WritesRead.{read_at-found}
use Rattle.records.proofs.Octets.{found-next}
use Rattle.demands.specs.Records.{fields_for, Unfit}
use Rattle.demands.specs.Records.{ReadCall, GivesItem, ReadsEach, read_none, WritesEach, wrote_none, wrote_one}
use Rattle.demands.proofs.Preparing.{unrefused, numbers-are, shows}
use Rattle.demands.proofs.Storing.{kept-fits}
use Rattle.terms.proofs.PutAt.{drop-put_at, put_at-before, put_at-there, put_at-after, put_at-same}
use Rattle.demands.proofs.RecordCalls.{reads_end, reads-stopped, reads-item, end_read, item-read}
use Rattle.demands.proofs.RecordCalls.{GivenItem, given-item, Stands, writes-given}
use Rattle.demands.proofs.RecordCalls.{writes-room, writes-same}
use Rattle.demands.proofs.RecordRuns.{reads-split, writes-fixed, reads-fixed, writes-each}
use Rattle.demands.proofs.RecordRuns.{reads-each, reads-from, writes-all, run}

-- ---- "The archive people want texts and keys in files."

-- every key that a preparation gives can be kept: no record of it is refused with 13 (`write-13`)
pub prepared-kept : {n : ℕ} {k : Collation} {t : Table} {pg : Pages} {l : Lent} {r : Preparation} {after : List ℕ}
    → collation_of n ≡ Some k
    → Prepares (call (Some k) t pg (l ∷ [])) r after
    → (s : Summary) → r ≡ Ok s
    → Unfit (of_key (fields_for n (truth s.valid) l.text) (shown_key r l.text after)) → ⊥
prepared-kept {n} {k} {t} {pg} {l} named h s e =
    let told = numbers-are h e in
    let flag : truth (prepared k (mapping_of t) l.text).valid ≡ truth s.valid = cc in
    kept-fits n k t pg l (truth s.valid) _ named (unrefused h e) flag (shows h e)

-- ---- "A record is a four-octet length (of what follows it), a two-octet kind, a body; numbers little-endian. Kind 1 is a text."

pub text-record : (t : List ℕ) → record_of (of_text t) ≡ little_endian 4 (2 + length t) ++ (little_endian 2 1 ++ t)
unfolding framed
text-record t = rw (length-kind-body 1 t)

-- "Kind 2 is a key: collation (1 octet), 1 if the text was valid under it else 0 .., text length (2 octets), the key."
pub key-record : (f : KeyFields) (k : List ℕ)
    → record_of (of_key f k)
    ≡ little_endian 4 (6 + length k)
    ++ (little_endian 2 2
    ++ (little_endian 1 f.collation ++ (little_endian 1 f.valid ++ (little_endian 2 f.text_length ++ k))))
unfolding framed field_octets
key-record f k =
    let n : length (little_endian 2 2 ++ (field_octets f ++ k)) ≡ 6 + length k =
    omega (arith, length-kind-body 2 (field_octets f ++ k), length-append (field_octets f) k, length-field_octets f)
    in
    rw n (simp append_assoc)

module _ (i : Item) {p : ℕ} {s t : List ℕ} {q : RecordPosition} (w : Writes i p s (Ok q) t) where
  stands : Stands i p s t q.0
  stands = writes-given i p s t q w

  -- it stands in the slice from the position up to the one that is answered
  pub written-octets : slice p q.0 t ≡ record_of i
  written-octets = rw (stands.left, stands.upto) (put_at-there p (record_of i) s stands.room)

  -- and no other octet changes
  pub written-before : take p t ≡ take p s
  written-before = rw stands.left (put_at-before p (record_of i) s stands.room)

  pub written_after : drop q.0 t ≡ drop q.0 s
  written_after = rw (stands.left, stands.upto) (put_at-after p (record_of i) s stands.room)

  -- ---- "Writer and reader, each undoing the other,"

  -- reading what was written gives the item and the position after it
  pub written-reads : (x : Result Record Refusal) → ReadCall t p x → GivesItem t x i q.0
  written-reads x call =
      let here : drop p t ≡ record_of i ++ drop (length (record_of i)) (drop p s) =
      ap (drop p) stands.left ∙ drop-put_at p (record_of i) s (omega (arith, stands.room))
      in
      let read = read_at-written i t p (drop (length (record_of i)) (drop p s)) stands.fit here in
      rw stands.upto (reads-item t p x call i (p + length (record_of i)) read)

-- writing what was read gives the same octets, in any slice and at any position that has room for them
module _ (s : List ℕ) (p : ℕ) (x : Result Record Refusal) (call : ReadCall s p x) (i : Item) (q : ℕ) (given : GivesItem s x i q)
    (octets : Octets s) where
  item_of : GivenItem s p i q
  item_of = given-item s p x call i q given octets

  pub read-writes : (b : List ℕ) (at : ℕ) → at + (q - p) ≤ length b → (y : Result RecordPosition Refusal) (t : List ℕ) → Writes i at b y t
      → (y ≡ Ok (record { 0 = at + (q - p) })) × (t ≡ put_at at (slice p q s) b)
  read-writes b at room y t w =
      let same = writes-same i w (writes-room i at b item_of.fit (omega (arith, item_of.long))) in (
        same.0 ∙ ap (λ (n : ℕ). Ok (record { 0 = at + n })) item_of.long,
        same.1 ∙ ap (λ (xs : List ℕ). put_at at xs b) item_of.octets,
      )

  -- so written again where it was read it leaves the slice as it is
  pub read-writes-back : (y : Result RecordPosition Refusal) (t : List ℕ) → Writes i p s y t → (y ≡ Ok (record { 0 = q })) × (t ≡ s)
  read-writes-back y t w =
      let upto : p + (q - p) ≡ q = omega (arith, item_of.onward) in
      let same = read-writes s p (omega (arith, item_of.within, item_of.onward)) y t w in (
        same.0 ∙ ap (λ (n : ℕ). Ok (record { 0 = n })) upto,
        same.1 ∙ put_at-same p q s (omega (arith, item_of.onward)) item_of.within,
      )

-- ---- "over a lent slice that holds many;"

-- items written one after another are read one after another
pub each-written-reads : {s t : List ℕ} {p q : ℕ} {items : List Item} → WritesEach s p items t q → ReadsEach t p items q
each-written-reads wrote_none = read_none
each-written-reads (wrote_one {s = s} {t = t} {u = u} {p = p} {q = q} {next = next} {i = i} {items = items} w more) =
    let first = writes-given i p s t next w in
    let all-stand = writes-each (omega (arith, first.room)) (wrote_one w more) in
    let octets = each record_of (i ∷ items) in
    let here : drop p u ≡ octets ++ drop (length octets) (drop p s) =
    ap (drop p) all-stand.left ∙ drop-put_at p octets s (omega (arith, all-stand.room))
    in
    rw all-stand.upto (reads-each (i ∷ items) u p (drop (length octets) (drop p s)) all-stand.fit here)

-- and so from any of its positions: some are read from the first on, and the others from where those end
pub each-from-any : {s t : List ℕ} {p q : ℕ} (before after : List Item) → WritesEach s p (before ++ after) t q
    → (m : ℕ) × ReadsEach t p before m × ReadsEach t m after q
each-from-any before after w = reads-split before after (each-written-reads w)

-- what calls one after another leave, answer and give is fixed
pub each-written-fixed : {s t u : List ℕ} {p q r : ℕ} {items : List Item} → WritesEach s p items t q → WritesEach s p items u r
    → (t ≡ u) × (q ≡ r)
each-written-fixed = writes-fixed

pub each-read-fixed : {s : List ℕ} {p q r : ℕ} {items others : List Item} → length items ≡ length others
    → ReadsEach s p items q → ReadsEach s p others r
    → (items ≡ others) × (q ≡ r)
each-read-fixed = reads-fixed

-- items read one after another, from any position, are written as the same octets, in any slice and at any position that has room
pub each-read-writes : {s : List ℕ} {p q : ℕ} {items : List Item} → Octets s → p ≤ length s → ReadsEach s p items q
    → (b : List ℕ) (at : ℕ) → at + (q - p) ≤ length b
    → WritesEach b at items (put_at at (slice p q s) b) (at + (q - p))
each-read-writes {s} {p} {q} {items} octets h r b at room =
    let from = reads-from octets h r in
    let long = length-slice p q s from.within in
    let wrote = writes-all items b at from.fit (omega (arith, ap length from.octets)) in
    let same = subst (λ (xs : List ℕ). WritesEach b at items (put_at at xs b) (at + length xs)) from.octets wrote in
    subst (λ (n : ℕ). WritesEach b at items (put_at at (slice p q s) b) (at + n)) long same

-- and again in their own slice they leave it as it is
pub each-read-writes-back : {s : List ℕ} {p q : ℕ} {items : List Item} → Octets s → p ≤ length s → ReadsEach s p items q
    → WritesEach s p items s q
each-read-writes-back {s} {p} {q} {items} octets h r =
    let from = reads-from octets h r in
    let upto : p + (q - p) ≡ q = omega (arith, from.onward) in
    let wrote = each-read-writes octets h r s p (omega (arith, from.within, from.onward)) in
    subst₂ (λ (t : List ℕ) (n : ℕ). WritesEach s p items t n) (put_at-same p q s from.onward from.within) upto wrote

-- ---- "at its end the reader says so,"

-- it says so there, and nowhere else
pub end-exactly : (s : List ℕ) (p : ℕ) (x : Result Record Refusal) → ReadCall s p x → (x ≡ Ok End) ↔ (p ≡ length s)
end-exactly s p x call = (
  λ e. read_at-ends rules s p (end_read s p x call e),
  λ e. reads_end s p x call (read_at-end rules s p e),
)

-- and reading comes there: each record ends six octets further at least, and within the slice
pub read-onward : (s : List ℕ) (p : ℕ) (x : Result Record Refusal) → ReadCall s p x → (i : Item) (q : ℕ) → GivesItem s x i q
    → (p + 6 ≤ q) × (q ≤ length s)
read-onward s p x call i q given = found-next rules s p i q (read_at-found rules s p i q (item-read s p x call i q given))

-- from any position of any slice reading goes on, to a position where the next call says the end or refuses
pub read-on : (s : List ℕ) (p : ℕ)
    → (items : List Item) × (q : ℕ) × ReadsEach s p items q
    × ((x : Result Record Refusal) → ReadCall s q x → (x ≡ Ok End) ⊎ ((y : Refusal) × (x ≡ Err y)))
read-on s p = let r = run s p in (r.items, r.last, r.reads, λ x call. told x call r.stops)
  where
    told : (x : Result Record Refusal) → ReadCall s (run s p).last x
        → (read_at rules s (run s p).last ≡ end) ⊎ ((y : Refusal) × (read_at rules s (run s p).last ≡ stopped y))
        → (x ≡ Ok End) ⊎ ((y : Refusal) × (x ≡ Err y))
    told x call (inl e) = inl (reads_end s (run s p).last x call e)
    told x call (inr e) = inr (e.0, reads-stopped s (run s p).last x call e.0 e.1)

-- a slice of the records of items that fit is read from its start to its end
pub read_whole : (items : List Item) → all (fits rules) items ≡ true
    → ReadsEach (each record_of items) 0 items (length (each record_of items))
read_whole items fit =
    let s = each record_of items in
    let n : 0 + length s ≡ length s = omega arith in
    rw n at (reads-each items s 0 [] fit (sym (append-nil s)))

-- so is a slice that was written up to its end, from any of its positions, and then the reader says so
pub each-to-end : {s t : List ℕ} {p : ℕ} (before after : List Item) → WritesEach s p (before ++ after) t (length t)
    → (m : ℕ) × ReadsEach t p before m × ReadsEach t m after (length t) × ((x : Result Record Refusal) → ReadCall t (length t) x → x ≡ Ok End)
each-to-end {t = t} before after w =
    let parts = each-from-any before after w in
    (parts.0, parts.1, parts.2, λ x call. (end-exactly t (length t) x call).1 refl)

-- "past it is 11."
pub past-is-11 : (s : List ℕ) (p : ℕ) (x : Result Record Refusal) → ReadCall s p x → length s < p → x ≡ Err (refusal 11 0 0)
past-is-11 s p x call h = reads-stopped s p x call (refusal 11 0 0) (read_at-past rules s p h)
