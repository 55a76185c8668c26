-- Demand 2 of a hit: it names "the smallest run of whole characters of the text that covers it" (`Covers` of
-- specs/Covering.antt).
-- Assumes nothing.
use mathlib.Core.Path.{◌≡◌, refl, ap₂, ◌∙◌}
use Prim.Native.Nat.{ℕ, zero, suc, pred, ◌+◌, ◌-◌, ◌≤◌, ◌<◌}
use native.Mathlib.Decide.{dec_lt}
use native.Mathlib.Nat.{zero-add}
use native.Mathlib.Omega.{arith}
use Rattle.std.specs.Prelude.{Some}
use mathlib.Core.List.{List, [], ◌∷◌}
use lib.ListN.{length, take}
use lib.Seq.{take-nil}
use Rattle.terms.specs.Lists.{each, total}
use Rattle.table.specs.Mapping.{Mapping}
use Rattle.utf8.specs.Characters.{Character}
use Rattle.decompose.specs.Steps.{steps_key}
use Rattle.occurrence.specs.Occurrence.{occurrence}
use Rattle.occurrence.proofs.Laws.{occurrence-within}
use Rattle.search.specs.Covering.{span, holder, from_to, covering, text_at, key_at, Covers}
use Rattle.search.proofs.Holders.{size, length-key, holder-here, holder-later}

-- ---- places grow

text-next : (ch : Character) (chs : List Character) (j : ℕ) → text_at (ch ∷ chs) (suc j) ≡ ch.width + text_at chs j
unfolding total
text-next ch chs j = refl

key-next : (m : Mapping) (ch : Character) (chs : List Character) (j : ℕ) → key_at m (ch ∷ chs) (suc j) ≡ size m ch + key_at m chs j
key-next m ch chs j = length-key m ch (take j chs)

text-zero : (chs : List Character) → text_at chs 0 ≡ 0
unfolding total
text-zero chs = refl

key-zero : (m : Mapping) (chs : List Character) → key_at m chs 0 ≡ 0
unfolding steps_key each
key-zero m chs = refl

-- a later character begins no earlier in the text
pub text_at-mono : (chs : List Character) (i j : ℕ) → i ≤ j → text_at chs i ≤ text_at chs j
text_at-mono [] i j h = rw (take-nil {A = Character} i, take-nil {A = Character} j) (omega arith)
text_at-mono (ch ∷ chs) zero j h = omega (arith, text-zero (ch ∷ chs))
text_at-mono (ch ∷ chs) (suc i) zero h = absurd (omega arith)
text_at-mono (ch ∷ chs) (suc i) (suc j) h =
    omega (arith, text_at-mono chs i j (omega arith), text-next ch chs i, text-next ch chs j)

-- nor in the key
pub key_at-mono : (m : Mapping) (chs : List Character) (i j : ℕ) → i ≤ j → key_at m chs i ≤ key_at m chs j
key_at-mono m [] i j h = rw (take-nil {A = Character} i, take-nil {A = Character} j) (omega arith)
key_at-mono m (ch ∷ chs) zero j h = omega (arith, key-zero m (ch ∷ chs))
key_at-mono m (ch ∷ chs) (suc i) zero h = absurd (omega arith)
key_at-mono m (ch ∷ chs) (suc i) (suc j) h =
    omega (arith, key_at-mono m chs i j (omega arith), key-next m ch chs i, key-next m ch chs j)

-- ---- the character that holds an octet, by its index

-- character `index` holds octet k, and its place is counted on from `at`
record HeldBy (m : Mapping) (chs : List Character) (at k : ℕ) : Type 0 where
  index : ℕ
  below : index < length chs
  place : holder m at k chs ≡ Some (span (at + text_at chs index) (at + text_at chs (suc index)))
  from : key_at m chs index ≤ k
  upto : k < key_at m chs (suc index)

held-here : (m : Mapping) (ch : Character) (chs : List Character) (at k : ℕ) → k < size m ch → HeldBy m (ch ∷ chs) at k
held-here m ch chs at k h =
    let zeroth = text-zero (ch ∷ chs) in
    let next = text-next ch chs 0 in
    let start : at + text_at (ch ∷ chs) 0 ≡ at = omega arith in
    let end : at + text_at (ch ∷ chs) 1 ≡ at + ch.width = omega (arith, text-zero chs) in
    record {
      index = 0;
      below = omega arith;
      place = rw (start, end) (holder-here m ch chs at k h);
      from = omega (arith, key-zero m (ch ∷ chs));
      upto = omega (arith, key-next m ch chs 0);
    }

held-later : (m : Mapping) (ch : Character) (chs : List Character) (at k : ℕ) → size m ch ≤ k
    → HeldBy m chs (at + ch.width) (k - size m ch)
    → HeldBy m (ch ∷ chs) at k
held-later m ch chs at k h r =
    let i = r.index in
    let start : at + text_at (ch ∷ chs) (suc i) ≡ at + ch.width + text_at chs i = omega (arith, text-next ch chs i) in
    let end : at + text_at (ch ∷ chs) (suc (suc i)) ≡ at + ch.width + text_at chs (suc i) =
    omega (arith, text-next ch chs (suc i)) in
    record {
      index = suc i;
      below = omega (arith, r.below);
      place = rw (start, end) (holder-later m ch chs at k h ∙ r.place);
      from = omega (arith, r.from, key-next m ch chs i);
      upto = omega (arith, r.upto, key-next m ch chs (suc i));
    }

-- every octet of the key has such a character
held_by : (m : Mapping) (chs : List Character) (at k : ℕ) → k < length (steps_key m chs) → HeldBy m chs at k
unfolding steps_key each
held_by m [] at k h = absurd (omega arith)
held_by m (ch ∷ chs) at k h = go (dec_lt k (size m ch)) (held_by m chs (at + ch.width) (k - size m ch))
  where
    go : Dec (k < size m ch) → (k - size m ch < length (steps_key m chs) → HeldBy m chs (at + ch.width) (k - size m ch))
        → HeldBy m (ch ∷ chs) at k
    go (yes here) rest = held-here m ch chs at k here
    go (no past) rest =
        held-later m ch chs at k (omega arith) (rest (omega (arith, length-key m ch chs)))

-- ---- the covering run

module _ (m : Mapping) (chs : List Character) (s e : ℕ) (h : s < e) (within : e ≤ length (steps_key m chs)) where
  -- the characters that hold the first octet and the last
  one : HeldBy m chs 0 s
  one = held_by m chs 0 s (omega arith)

  two : HeldBy m chs 0 (pred e)
  two = held_by m chs 0 (pred e) (omega arith)

  run_is : covering m chs (span s e) ≡ span (text_at chs one.index) (text_at chs (suc two.index))
  unfolding covering
  run_is =
      ap₂ from_to one.place two.place
      ∙ rw (zero-add (text_at chs one.index), zero-add (text_at chs (suc two.index)))

  -- a character whose expansion begins no later than the part is no later than the first one
  no-later : (i : ℕ) → key_at m chs i ≤ s → i ≤ one.index
  no-later i low = go (dec_lt one.index i)
    where
      go : Dec (one.index < i) → i ≤ one.index
      go (yes l) = absurd (omega (arith, one.upto, key_at-mono m chs (suc one.index) i l))
      go (no l) = omega arith

  -- and one whose expansion begins no earlier than its end is past the last one
  no-earlier : (j : ℕ) → e ≤ key_at m chs j → suc two.index ≤ j
  no-earlier j high = go (dec_lt two.index j)
    where
      go : Dec (two.index < j) → suc two.index ≤ j
      go (yes l) = l
      go (no l) = absurd (omega (arith, two.from, key_at-mono m chs j two.index (omega arith)))

  -- "the smallest run of whole characters that covers it": it is a run of whole characters, and covers the part
  pub covering-covers : Covers m chs s e (covering m chs (span s e))
  covering-covers =
      let reached : e ≤ key_at m chs (suc two.index) = omega (arith, two.upto) in
      let ordered : two.index < one.index → ⊥ = λ l.
      omega (arith, one.from, two.upto, key_at-mono m chs (suc two.index) one.index l) in
      record {
        first = one.index;
        last = suc two.index;
        some = go ordered (dec_lt two.index one.index);
        most = two.below;
        whole = run_is;
        starts = one.from;
        ends = reached;
      }
    where
      go : (two.index < one.index → ⊥) → Dec (two.index < one.index) → one.index < suc two.index
      go f (yes l) = absurd (f l)
      go f (no l) = omega arith

  -- and no smaller one does: every run of whole characters, from i up to j, that covers the part contains it
  pub covering-least : (i j : ℕ) → i ≤ j → j ≤ length chs → key_at m chs i ≤ s → e ≤ key_at m chs j
      → (text_at chs i ≤ (covering m chs (span s e)).start) × ((covering m chs (span s e)).end ≤ text_at chs j)
  covering-least i j ordered most low high =
      rw run_is
      (text_at-mono chs i one.index (no-later i low), text_at-mono chs (suc two.index) j (no-earlier j high))

-- ---- the run of a hit

-- what is not empty is found in the key of characters that are there, first at octet i
module _ (m : Mapping) (needle : List ℕ) (chs : List Character) (i : ℕ) (some-sought : 0 < length needle)
    (found : occurrence needle (steps_key m chs) ≡ Some i) where
  within-key : i + length needle ≤ length (steps_key m chs)
  within-key = occurrence-within needle (steps_key m chs) i found

  -- the run that the hit names is one of whole characters, and covers that occurrence
  pub hit-covers : Covers m chs i (i + length needle) (covering m chs (span i (i + length needle)))
  hit-covers = covering-covers m chs i (i + length needle) (omega arith) within-key

  -- and no smaller one does
  pub hit-least : (a b : ℕ) → a ≤ b → b ≤ length chs → key_at m chs a ≤ i → i + length needle ≤ key_at m chs b
      → (text_at chs a ≤ (covering m chs (span i (i + length needle))).start)
      × ((covering m chs (span i (i + length needle))).end ≤ text_at chs b)
  hit-least = covering-least m chs i (i + length needle) (omega arith) within-key
