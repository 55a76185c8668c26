-- What calls answer and leave of a valid text under collation 3, in the words of demand 3: `prepare`, and any call that
-- leaves keys.
-- Assumes nothing.
use Rattle.std.specs.Prelude.{Ok}
use mathlib.Core.Path.{◌≡◌, refl, sym, ap, ◌∙◌}
use Prim.Native.Nat.{ℕ}
use native.Mathlib.Omega.{arith}
use mathlib.Core.Bool.{Bool, true, false}
use mathlib.Core.Logic.{◌⊎◌, inl, inr}
use Rattle.std.specs.Prelude.{Option, None, Some}
use mathlib.Core.List.{List, [], ◌∷◌}
use lib.Dec.{ltb}
use lib.ListN.{length}
use borrow.Author.Tests.{ltb-true}
use Rattle.terms.specs.Lists.{or_else}
use Rattle.terms.specs.Refusals.{refusal, check, Outcome, refused, gives, Given}
use Rattle.terms.specs.declared.Collation.{Collation}
use Rattle.terms.specs.declared.Collation.TheVariants.{UnicodeCasemap}
use Rattle.terms.specs.declared.Refusal.{Refusal}
use Rattle.terms.proofs.Checks.{or_else-none}
use Rattle.terms.proofs.Tests.{none-some}
use Rattle.utf8.specs.Utf8.{Character, characters}
use Rattle.decompose.specs.Steps.{steps_key, steps_lookups}
use Rattle.table.specs.Mapping.{Mapping}
use Rattle.table.specs.Table.{Table, mapping_of}
use Rattle.decompose.specs.TableCheck.{table_refusal}
use Rattle.decompose.proofs.Demand3.{accepted-steps}
use Rattle.keys.specs.Keys.{PreparedText, unicode_prepared, prepared, key_of, room_for, keyed}
use Rattle.keys.specs.Summaries.{summary_numbers, prepared_numbers}
use Rattle.keys.specs.declared.Summary.{Summary}
use Rattle.keys.proofs.Injective.{truth-inj}
use Rattle.pages.specs.Pages.{Pages}
use Rattle.prepare.specs.Calls.{Lent, Call, call, prepared_in, room_check, room_refusal, call_refusal, keyed_all, Called}
use Rattle.prepare.specs.Preparing.{preparation_outcome, shown_key, Prepares}
use Rattle.prepare.specs.Preparing.{Preparation}
use Rattle.prepare.proofs.Answering.{answered-gives, answered-refused}
use Rattle.prepare.proofs.CallRefusals.{unrefused-table}
use Rattle.prepare.proofs.Shown.{shown-key}
use Rattle.demands.specs.Demands.{Exact, KeyLeft, Short}
use Rattle.demands.proofs.Numbers.{eight-rooms, eight-table}

-- a check gives its refusal only where its test holds
check-some : (b : Bool) (n p d : ℕ) (x : Refusal) → check b n p d ≡ Some x → (b ≡ true) × (x ≡ refusal n p d)
check-some true n p d x e = (refl, cc)
check-some false n p d x e = absurd (none-some x e)

module _ {k : Collation} {t : Table} {pg : Pages} {l : Lent} {r : Preparation} {after : List ℕ}
    (h : Prepares (call (Some k) t pg (l ∷ [])) r after)
    {s : Summary} (e : r ≡ Ok s) where
  -- a text that was prepared was not refused
  pub unrefused : call_refusal (call (Some k) t pg (l ∷ [])) ≡ None
  unrefused = (answered-gives h.call (summary_numbers s) (ap preparation_outcome e)).0

  -- and its numbers are the prepared text's
  pub numbers-are : summary_numbers s ≡ prepared_numbers (prepared k (mapping_of t) l.text)
  numbers-are = let told = (answered-gives h.call (summary_numbers s) (ap preparation_outcome e)).1 in cc

  -- it shows its key
  pub shows : shown_key r l.text after ≡ key_of k (mapping_of t) l.text
  shows = shown-key h unrefused

-- a valid text under collation 3
module _ {t : Table} {pg : Pages} {l : Lent} {r : Preparation} {after : List ℕ}
    (h : Prepares (call (Some UnicodeCasemap) t pg (l ∷ [])) r after) where
  -- its table was accepted
  pub table-accepted : {s : Summary} → r ≡ Ok s → table_refusal t ≡ None
  table-accepted e = unrefused-table (call (Some UnicodeCasemap) t pg (l ∷ [])) (unrefused h e)

  module _ {chs : List Character} (valid : characters l.text ≡ Some chs) where
    prepared-valid : prepared UnicodeCasemap (mapping_of t) l.text ≡ unicode_prepared (mapping_of t) l.text (Some chs)
    prepared-valid = ap (unicode_prepared (mapping_of t) l.text) valid

    -- it was prepared: the answer is that of the published steps
    pub exact : (s : Summary) → r ≡ Ok s → Exact (mapping_of t) chs s (shown_key r l.text after)
    exact s e =
        let same = rw prepared-valid at (numbers-are h e) in
        let count : s.lookups ≡ steps_lookups (mapping_of t) chs = cc in
        let size : s.key_length ≡ length (steps_key (mapping_of t) chs) = cc in
        let key = shows h e ∙ ap (λ (p : PreparedText). p.key) prepared-valid in
        record {
          valid = truth-inj s.valid true (cc);
          steps = rw (key, count) (accepted-steps t (table-accepted e) chs);
          size = size ∙ sym (ap length key);
        }

-- ---- any call under collation 3

-- the text of one that is valid, prepared
prepared-chs : (m : Mapping) (l : Lent) (chs : List Character) → characters l.text ≡ Some chs
    → prepared UnicodeCasemap m l.text ≡ unicode_prepared m l.text (Some chs)
prepared-chs m l chs valid = ap (unicode_prepared m l.text) valid

-- of any call on texts
module _ {R : Type 0} {outcome : R → Outcome} {values : Call → Option (List ℕ)} {c : Call} {r : R} {after : List (List ℕ)}
    (h : Called outcome values c r after) where
  -- values were given, so nothing refused it
  pub given-unrefused : Given (outcome r) → call_refusal c ≡ None
  given-unrefused g = go (outcome r) refl g
    where
      go : (o : Outcome) → outcome r ≡ o → Given o → call_refusal c ≡ None
      go (refused x) e g = absurd g
      go (gives vs) e g = (answered-gives h vs e).0

  -- and the key buffers are those with the keys
  pub given-left : Given (outcome r) → after ≡ keyed_all (prepared_in c) c.lents
  given-left g = rw (given-unrefused g) at h.left

-- under collation 3
module _ {R : Type 0} {outcome : R → Outcome} {values : Call → Option (List ℕ)} {t : Table} {pg : Pages} {ls : List Lent} {r : R}
    {after : List (List ℕ)}
    (h : Called outcome values (call (Some UnicodeCasemap) t pg ls) r after) where
  -- values were given: its table was accepted
  pub given-accepted : Given (outcome r) → table_refusal t ≡ None
  given-accepted g = unrefused-table (call (Some UnicodeCasemap) t pg ls) (given-unrefused h g)

  -- refused with 8: its table was accepted, and a key has no room
  pub eight-accepted : (x : Refusal) → outcome r ≡ refused x → x.number ≡ 8 → table_refusal t ≡ None
  eight-accepted x e n = eight-table t pg ls x (answered-refused h x e) n

  pub eight-room : (x : Refusal) → outcome r ≡ refused x → x.number ≡ 8 → room_refusal (call (Some UnicodeCasemap) t pg ls) ≡ Some x
  eight-room x e n = eight-rooms (call (Some UnicodeCasemap) t pg ls) x (answered-refused h x e) n

-- a key buffer with the key of a valid text has that of the published steps
pub keyed-left : (t : Table) → table_refusal t ≡ None → (l : Lent) (chs : List Character) → characters l.text ≡ Some chs
    → KeyLeft (mapping_of t) chs l.buffer (keyed (prepared UnicodeCasemap (mapping_of t) l.text) l.buffer)
keyed-left t ok l chs valid =
    record {
      key = steps_key (mapping_of t) chs;
      lookups = steps_lookups (mapping_of t) chs;
      steps = accepted-steps t ok chs;
      left = ap (λ (p : PreparedText). keyed p l.buffer) (prepared-chs (mapping_of t) l chs valid);
    }

-- 8 at the place of a valid text names that key's length
pub room-short : (t : Table) → table_refusal t ≡ None → (l : Lent) (chs : List Character) → characters l.text ≡ Some chs
    → (place : ℕ) (x : Refusal) → room_check place (length l.buffer) (prepared UnicodeCasemap (mapping_of t) l.text) ≡ Some x
    → Short (mapping_of t) chs place l.buffer x
room-short t ok l chs valid place x e =
    let needed = length (steps_key (mapping_of t) chs) in
    let told = rw (prepared-chs (mapping_of t) l chs valid) at e in
    let test = check-some (ltb (length l.buffer) needed) 8 place needed x told in
    record {
      key = steps_key (mapping_of t) chs;
      lookups = steps_lookups (mapping_of t) chs;
      steps = accepted-steps t ok chs;
      names = test.1;
      shorter = ltb-true (length l.buffer) needed test.0;
    }

-- ---- two texts

-- lists of two that are the same have the same elements
pub heads : {a b c d : List ℕ} → a ∷ b ∷ [] ≡ c ∷ d ∷ [] → a ≡ c
heads e = cc

pub seconds : {a b c d : List ℕ} → a ∷ b ∷ [] ≡ c ∷ d ∷ [] → b ≡ d
seconds e = cc

module _ (t : Table) (pg : Pages) (l n : Lent) (x : Refusal) where
  abbrev first-room : Option Refusal
  first-room = room_check 1 (length l.buffer) (prepared UnicodeCasemap (mapping_of t) l.text)

  abbrev second-room : Option Refusal
  second-room = room_check 2 (length n.buffer) (prepared UnicodeCasemap (mapping_of t) n.text)

  -- 8 is of the first text or of the second
  abbrev Places : Type 0
  Places = ((first-room ≡ Some x) × (x.place ≡ 1)) ⊎ ((second-room ≡ Some x) × (x.place ≡ 2))

  pub room-places : room_refusal (call (Some UnicodeCasemap) t pg (l ∷ n ∷ [])) ≡ Some x → Places
  room-places e = go first-room refl e
    where
      place_of : (place : ℕ) (m : Lent)
          → room_check place (length m.buffer) (prepared UnicodeCasemap (mapping_of t) m.text) ≡ Some x
          → x.place ≡ place
      place_of place m q =
          let room = room_for (prepared UnicodeCasemap (mapping_of t) m.text) in
          ap (λ (y : Refusal). y.place) (check-some (ltb (length m.buffer) room) 8 place room x q).1

      go : (o : Option Refusal) → first-room ≡ o → or_else o (or_else second-room None) ≡ Some x → Places
      go None q f =
          let is : second-room ≡ Some x = sym (or_else-none second-room) ∙ f in inr (is, place_of 2 n is)
      go (Some y) q f = let is : first-room ≡ Some x = q ∙ f in inl (is, place_of 1 l is)

  pub at_first : Places → x.place ≡ 1 → first-room ≡ Some x
  at_first (inl p) e = p.0
  at_first (inr p) e = absurd (omega (arith, p.1, e))

  pub at_second : Places → x.place ≡ 2 → second-room ≡ Some x
  at_second (inl p) e = absurd (omega (arith, p.1, e))
  at_second (inr p) e = p.0
