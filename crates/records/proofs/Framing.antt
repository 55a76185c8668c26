-- Where a record begins: the end, fewer octets than its length says, or a whole record.
-- Assumes nothing.
use mathlib.Core.Path.{◌≡◌, refl, sym, ◌∙◌}
use Prim.Native.Nat.{ℕ, ◌+◌, ◌-◌, ◌≤◌, ◌<◌}
use native.Mathlib.Omega.{arith}
use native.Mathlib.Decide.{ℕ_discrete}
use mathlib.Core.Bool.{Bool, true, false, ◌||◌}
use mathlib.Core.List.{List}
use Rattle.std.specs.Prelude.{Option, None, Some}
use lib.Dec.{ltb}
use lib.ListN.{length, take, drop, length-drop}
use lib.Seq.{length-take-le}
use borrow.Author.Tests.{lt-ltb, ltb-false, eq-eqb, ne_eqb}
use Rattle.terms.specs.Refusals.{refusal}
use Rattle.terms.specs.declared.Refusal.{Refusal}
use Rattle.terms.proofs.Checks.{or_left, or_right}
use Rattle.terms.proofs.Parts.{take-drop}
use Rattle.records.specs.Items.{Rules, Item, among, fits}
use Rattle.records.specs.Reading.{end, stopped, item, said_length, short, following, kind_in, body_in, item_in}
use Rattle.records.specs.Reading.{judged, read_following, read_rest, read_at}
use Rattle.records.specs.Promises.{whole_length}
use Rattle.records.proofs.Judging.{reads_known, reads-unknown}

-- octets begin with a length, and at least as many follow; it has room for a kind
pub record Whole (rest : List ℕ) : Type 0 where
  pub four : 4 ≤ length rest
  pub held : said_length rest ≤ length rest - 4
  pub kind : 2 ≤ said_length rest

-- ---- `short`

-- not short: whole
pub short-false : (rest : List ℕ) → short rest ≡ false → Whole rest
unfolding short
short-false rest e =
    let n = said_length rest in
    let few = ltb (length rest) 4 in
    let cut = ltb (length rest - 4) n in
    let both = or_left (few || cut) (ltb n 2) e in
    record {
      four = ltb-false (length rest) 4 (or_left few cut both);
      held = ltb-false (length rest - 4) n (or_right few cut both);
      kind = ltb-false n 2 (or_right (few || cut) (ltb n 2) e);
    }

-- a length that is answered: not short, and it is what is said
pub whole_length-some : (rest : List ℕ) (n : ℕ) → Some n ≡ whole_length rest → (short rest ≡ false) × (n ≡ said_length rest)
whole_length-some rest n e = go (short rest) refl
  where
    go : (b : Bool) → short rest ≡ b → (short rest ≡ false) × (n ≡ said_length rest)
    go true f = let z : Some n ≡ None = rw f at e in (cc, cc)
    go false f = let z : Some n ≡ Some (said_length rest) = rw f at e in (f, cc)

-- none is answered: short
pub whole_length-none : (rest : List ℕ) → None ≡ whole_length rest → short rest ≡ true
whole_length-none rest e = go (short rest) refl
  where
    go : (b : Bool) → short rest ≡ b → short rest ≡ true
    go true f = f
    go false f = let z : None ≡ Some (said_length rest) = rw f at e in cc

-- what follows the length is as long as it says
pub length-following : (rest : List ℕ) → Whole rest → length (following rest) ≡ said_length rest
length-following rest w = length-take-le (said_length rest) (drop 4 rest) (omega (arith, length-drop 4 rest, w.held))

-- ---- `read_rest`

pub read_rest-short : (r : Rules) (p : ℕ) (rest : List ℕ) → short rest ≡ true → read_rest r p rest ≡ stopped (refusal 11 0 0)
unfolding read_rest
read_rest-short r p rest e = rw e

pub read_rest-whole : (r : Rules) (p : ℕ) (rest : List ℕ) → short rest ≡ false
    → read_rest r p rest ≡ read_following r (p + 4 + said_length rest) (following rest)
unfolding read_rest
read_rest-whole r p rest e = rw e

-- it is never the end
stopped-end : {x : Refusal} → stopped x ≡ end → ⊥
stopped-end e = let z : ◌≡◌ {A = ℕ} 0 1 = cc in omega arith

item-end : {i : Item} {n : ℕ} → item i n ≡ end → ⊥
item-end e = let z : ◌≡◌ {A = ℕ} 0 1 = cc in omega arith

judged-end : (r : Rules) (n : ℕ) (o : Option Item) → judged r n o ≡ end → ⊥
judged-end r n None e = stopped-end e
judged-end r n (Some i) e = go (fits r i) refl
  where
    go : (b : Bool) → fits r i ≡ b → ⊥
    go true f = item-end (rw f at e)
    go false f = stopped-end (rw f at e)

following-end : (r : Rules) (n : ℕ) (octets : List ℕ) → read_following r n octets ≡ end → ⊥
following-end r n octets e = go (among (kind_in octets) r.kinds) refl
  where
    go : (b : Bool) → among (kind_in octets) r.kinds ≡ b → ⊥
    go true f =
        judged-end r n (item_in (kind_in octets) (body_in octets)) (sym (reads_known r n octets (kind_in octets) f refl) ∙ e)
    go false f = stopped-end (sym (reads-unknown r n octets f) ∙ e)

rest_end : (r : Rules) (p : ℕ) (rest : List ℕ) → read_rest r p rest ≡ end → ⊥
unfolding read_rest
rest_end r p rest e = go (short rest) refl
  where
    go : (b : Bool) → short rest ≡ b → ⊥
    go true f = stopped-end (rw f at e)
    go false f = following-end r (p + 4 + said_length rest) (following rest) (rw f at e)

-- ---- what is lent from a position on

-- a whole record of n octets after its length stands at position p
pub record Framed (s : List ℕ) (p n : ℕ) : Type 0 where
  pub unshort : short (drop p s) ≡ false
  pub said : n ≡ said_length (drop p s)
  pub whole : Whole (drop p s)
  pub lent : take (4 + n - 4) (drop 4 (take (length s - p) (drop p s))) ≡ following (drop p s)
  pub room : p + 4 + n ≤ length s

pub framed-some : (s : List ℕ) (p n : ℕ) → Some n ≡ whole_length (take (length s - p) (drop p s)) → Framed s p n
framed-some s p n e =
    let both = whole_length-some (drop p s) n (rw (take-drop p s) at e) in
    let whole = short-false (drop p s) both.0 in
    let long : 4 + n - 4 ≡ said_length (drop p s) = omega (arith, both.1) in
    record {
      unshort = both.0;
      said = both.1;
      whole = whole;
      lent = rw (take-drop p s, long);
      room = omega (arith, both.1, whole.held, whole.four, length-drop p s);
    }

-- ---- `read_at`

module _ (r : Rules) (slice : List ℕ) (p : ℕ) where
  -- at the end
  pub read_at-end : p ≡ length slice → read_at r slice p ≡ end
  unfolding read_at
  read_at-end e = rw (eq-eqb p (length slice) e)

  -- anywhere else
  pub read_at-rest : (p ≡ length slice → ⊥) → read_at r slice p ≡ read_rest r p (drop p slice)
  unfolding read_at
  read_at-rest e = rw (ne_eqb p (length slice) e)

  -- the end is told there alone
  pub read_at-ends : read_at r slice p ≡ end → p ≡ length slice
  read_at-ends e = go (ℕ_discrete p (length slice))
    where
      go : Dec (p ≡ length slice) → p ≡ length slice
      go (yes f) = f
      go (no f) = absurd (rest_end r p (drop p slice) (sym (read_at-rest f) ∙ e))

  -- past the end
  pub read_at-past : length slice < p → read_at r slice p ≡ stopped (refusal 11 0 0)
  unfolding short
  read_at-past h =
      let few : short (drop p slice) ≡ true = rw (lt-ltb (length (drop p slice)) 4 (omega (arith, length-drop p slice))) in
      rw (read_at-rest (λ e. omega arith)) (read_rest-short r p (drop p slice) few)

  -- a whole record
  pub read_at-framed : (n : ℕ) → Framed slice p n
      → read_at r slice p
      ≡ read_following r (p + 4 + n) (take (4 + n - 4) (drop 4 (take (length slice - p) (drop p slice))))
  read_at-framed n f =
      read_at-rest (λ e. omega (arith, e, f.room))
      ∙ read_rest-whole r p (drop p slice) f.unshort
      ∙ rw (f.lent, ← f.said)

  -- fewer octets than it says
  pub read_at-short : (p ≡ length slice → ⊥) → None ≡ whole_length (take (length slice - p) (drop p slice))
      → read_at r slice p ≡ stopped (refusal 11 0 0)
  read_at-short inside e =
      read_at-rest inside
      ∙ read_rest-short r p (drop p slice) (whole_length-none (drop p slice) (rw (take-drop p slice) at e))
