-- Calls one after another: items that were written are read, what was read is written again as the octets that it was read
-- from, and reading goes on to the end or to a refusal.
-- Assumes nothing.
use Rattle.std.specs.Prelude.{Result, Ok}
use mathlib.Core.Path.{◌≡◌, refl, sym, ap, ap₂, subst, subst₂, ◌∙◌}
use Prim.Native.Nat.{ℕ, zero, suc, ◌+◌, ◌-◌, ◌≤◌}
use native.Mathlib.Omega.{arith}
use mathlib.Core.Bool.{true}
use mathlib.Core.Logic.{◌⊎◌, inl, inr}
use mathlib.Core.List.{List, [], ◌∷◌, ◌++◌, append_assoc}
use lib.ListN.{length, take, drop, length-append, take-append-drop}
use lib.Seq.{slice, slice_empty, take-take, drop-drop, drop-append-le, drop-append_seam, length-take-le}
use Rattle.terms.specs.Lists.{all, put_at, each}
use Rattle.terms.specs.declared.Refusal.{Refusal}
use Rattle.terms.specs.declared.RecordPosition.{RecordPosition}
use Rattle.terms.proofs.Lists.{all_cons, all_first, all_rest}
use Rattle.terms.proofs.PutAt.{length-put_at, put_at-none, put_at-append}
use Rattle.records.specs.Numbers.{Octets}
use Rattle.records.specs.Items.{rules, Item, fits, record_of}
use Rattle.records.specs.Reading.{Reading, end, stopped, item, read_at}
use Rattle.records.proofs.ReadsWritten.{read_at-written}
use Rattle.records.proofs.WritesRead.{read_at-found}
use Rattle.records.proofs.Octets.{found-next, found-record}
use Rattle.demands.specs.Records.{ReadsEach, read_none, read_one, WritesEach, wrote_none, wrote_one}
use Rattle.demands.proofs.RecordCalls.{item-read, reads-next, writes-given, writes-room, writes-same}

-- ---- calls one after another

-- an answer has one position
upto-same : {a b : RecordPosition} → ◌≡◌ {A = Result RecordPosition Refusal} (Ok a) (Ok b) → a.0 ≡ b.0
upto-same e = cc

-- a run of items in two parts: the second is read from where the first ends
pub reads-split : {s : List ℕ} {p q : ℕ} (before after : List Item) → ReadsEach s p (before ++ after) q
    → (m : ℕ) × ReadsEach s p before m × ReadsEach s m after q
reads-split {p = p} [] after r = (p, read_none, r)
reads-split (i ∷ before) after (read_one x call given more) =
    let rest = reads-split before after more in (rest.0, read_one x call given rest.1, rest.2)

-- the contracts fix what calls one after another leave and answer
pub writes-fixed : {s t u : List ℕ} {p q r : ℕ} {items : List Item} → WritesEach s p items t q → WritesEach s p items u r
    → (t ≡ u) × (q ≡ r)
writes-fixed wrote_none wrote_none = (refl, refl)
writes-fixed {s = s} {u = u} {p = p} {r = r} (wrote_one {i = i} {items = items} w more) (wrote_one v others) =
    let same = writes-same i v w in
    let place = upto-same same.0 in
    writes-fixed more (subst₂ (λ (l : List ℕ) (n : ℕ). WritesEach l n items u r) same.1 place others)

-- and which items calls of the reader give, and where they end
pub reads-fixed : {s : List ℕ} {p q r : ℕ} {items others : List Item} → length items ≡ length others
    → ReadsEach s p items q → ReadsEach s p others r
    → (items ≡ others) × (q ≡ r)
reads-fixed e read_none read_none = (refl, refl)
reads-fixed e read_none (read_one y call given more) = absurd (omega arith)
reads-fixed e (read_one x call given more) read_none = absurd (omega arith)
reads-fixed {s = s} {p = p} {r = r} e (read_one {next = n} {i = i} x call given more)
    (read_one {next = m} {i = j} {items = others} y told gave rest) =
    let one : item i n ≡ item j m = sym (item-read s p x call i n given) ∙ item-read s p y told j m gave in
    let here : i ≡ j = cc in
    let next : m ≡ n = cc in
    let later = reads-fixed (omega arith) more (subst (λ (k : ℕ). ReadsEach s k others r) next rest) in
    (ap₂ ◌∷◌ here later.0, later.1)

-- items that were written one after another: all fit, and their records stand one after another
pub record StandEach (items : List Item) (p : ℕ) (s t : List ℕ) (next : ℕ) : Type 0 where
  pub fit : all (fits rules) items ≡ true
  pub room : p + length (each record_of items) ≤ length s
  pub upto : next ≡ p + length (each record_of items)
  pub left : t ≡ put_at p (each record_of items) s

pub writes-each : {s t : List ℕ} {p q : ℕ} {items : List Item} → p ≤ length s → WritesEach s p items t q → StandEach items p s t q
unfolding each
writes-each h (wrote_none {s = s} {p = p}) = record {
  fit = refl;
  room = omega arith;
  upto = omega arith;
  left = sym (put_at-none p s);
}
writes-each h (wrote_one {s = s} {t = t} {p = p} {next = next} {i = i} {items = items} w more) =
    let first = writes-given i p s t next w in
    let long = length-put_at p (record_of i) s first.room in
    let rest = writes-each (omega (arith, first.upto, ap length first.left, first.room)) more in
    let all-long = length-append (record_of i) (each record_of items) in
    let place : next.0 ≡ p + length (record_of i) = first.upto in
    record {
      fit = all_cons (fits rules) i items first.fit rest.fit;
      room = omega (arith, rest.room, ap length first.left);
      upto = omega (arith, rest.upto);
      left = rest.left
          ∙ ap₂ (λ (at : ℕ) (l : List ℕ). put_at at (each record_of items) l) place first.left
          ∙ put_at-append p (record_of i) s first.room (each record_of items);
    }

-- items that fit are read where their records stand one after another, from the first on
pub reads-each : (items : List Item) (s : List ℕ) (p : ℕ) (rest : List ℕ) → all (fits rules) items ≡ true
    → drop p s ≡ each record_of items ++ rest
    → ReadsEach s p items (p + length (each record_of items))
unfolding each
reads-each [] s p rest fit here = let n : p + 0 ≡ p = omega arith in rw n read_none
reads-each (i ∷ items) s p rest fit here =
    let others = each record_of items ++ rest in
    let first : drop p s ≡ record_of i ++ others = here ∙ append_assoc (record_of i) (each record_of items) rest in
    let after : drop (p + length (record_of i)) s ≡ others =
    sym (drop-drop (length (record_of i)) p s) ∙ ap (drop (length (record_of i))) first ∙ drop-append_seam (record_of i) others
    in
    let long : p + length (record_of i) + length (each record_of items) ≡ p + length (record_of i ++ each record_of items) =
    omega (arith, length-append (record_of i) (each record_of items))
    in
    let more = reads-each items s (p + length (record_of i)) rest (all_rest (fits rules) i items fit) after in
    reads-next (read_at-written i s p others (all_first (fits rules) i items fit) first) (rw long at more)

-- ---- parts of a slice

-- a part and the one after it
slice-append : (a b c : ℕ) (s : List ℕ) → a ≤ b → b ≤ c → c ≤ length s → slice a b s ++ slice b c s ≡ slice a c s
slice-append a b c s h k l =
    let whole = take c s in
    let front : take b whole ≡ take b s = take-take b c s k in
    ap (λ (xs : List ℕ). drop a xs ++ drop b whole) (sym front)
    ∙ sym (drop-append-le a (take b whole) (drop b whole) (rw (front, length-take-le b s (omega arith)) h))
    ∙ ap (drop a) (take-append-drop b whole)

-- ---- items that were read

-- they fit, and their records are the octets that they were read from
pub record ReadFrom (s : List ℕ) (p : ℕ) (items : List Item) (q : ℕ) : Type 0 where
  pub fit : all (fits rules) items ≡ true
  pub onward : p ≤ q
  pub within : q ≤ length s
  pub octets : each record_of items ≡ slice p q s

pub reads-from : {s : List ℕ} {p q : ℕ} {items : List Item} → Octets s → p ≤ length s → ReadsEach s p items q
    → ReadFrom s p items q
unfolding each
reads-from {s = s} octets h (read_none {p = p}) = record {
  fit = refl;
  onward = omega arith;
  within = h;
  octets = sym (slice_empty p s);
}
reads-from {s = s} octets h (read_one {p = p} {next = next} {q = q} {i = i} {items = items} x call given more) =
    let found = read_at-found rules s p i next (item-read s p x call i next given) in
    let there = found-next rules s p i next found in
    let rest = reads-from octets there.1 more in
    record {
      fit = all_cons (fits rules) i items found.fit rest.fit;
      onward = omega (arith, there.0, rest.onward);
      within = rest.within;
      octets = ap₂ ◌++◌ (found-record rules s p i next found octets) rest.octets
          ∙ slice-append p next q s (omega (arith, there.0)) rest.onward rest.within;
    }

-- ---- items that fit are written one after another, where there is room

pub writes-all : (items : List Item) (s : List ℕ) (p : ℕ) → all (fits rules) items ≡ true
    → p + length (each record_of items) ≤ length s
    → WritesEach s p items (put_at p (each record_of items) s) (p + length (each record_of items))
unfolding each
writes-all [] s p fit room = let n : p + 0 ≡ p = omega arith in rw (n, put_at-none p s) wrote_none
writes-all (i ∷ items) s p fit room =
    let long = length-append (record_of i) (each record_of items) in
    let here : p + length (record_of i) ≤ length s = omega arith in
    let kept = length-put_at p (record_of i) s here in
    let next : p + length (record_of i) + length (each record_of items) ≡ p + length (record_of i ++ each record_of items) =
    omega arith
    in
    let more =
    writes-all items (put_at p (record_of i) s) (p + length (record_of i)) (all_rest (fits rules) i items fit) (omega arith)
    in
    wrote_one (writes-room i p s (all_first (fits rules) i items fit) here)
    (rw (next, put_at-append p (record_of i) s here (each record_of items)) at more)

-- ---- reading goes on

-- reading from a position on comes to the end of the slice or to a refusal
pub record Run (s : List ℕ) (p : ℕ) : Type 0 where
  pub items : List Item
  pub last : ℕ
  pub reads : ReadsEach s p items last
  pub stops : (read_at rules s last ≡ end) ⊎ ((x : Refusal) × (read_at rules s last ≡ stopped x))

-- one call, and a run from each position that it can give
step : (s : List ℕ) (p : ℕ) → ((next : ℕ) → p + 6 ≤ next → next ≤ length s → Run s next) → Run s p
step s p more = go (read_at rules s p) refl
  where
    go : (v : Reading) → read_at rules s p ≡ v → Run s p
    go end e = record { items = []; last = p; reads = read_none; stops = inl e }
    go (stopped x) e = record { items = []; last = p; reads = read_none; stops = inr (x, e) }
    go (item i next) e =
        let there = found-next rules s p i next (read_at-found rules s p i next e) in
        let rest = more next there.0 there.1 in
        record { items = i ∷ rest.items; last = rest.last; reads = reads-next e rest.reads; stops = rest.stops }

pub run : (s : List ℕ) (p : ℕ) → Run s p
run s p = go (length s - p) p (omega arith)
  where
    go : (n p : ℕ) → length s - p ≤ n → Run s p
    go zero p h = step s p (λ next on within. absurd (omega arith))
    go (suc n) p h = step s p (λ next on within. go n next (omega arith))
