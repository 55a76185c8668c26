-- What a caller may cite: the key that a prepared text shows is the text's key, and a refusal shows none.
-- Assumes nothing.
use Rattle.std.specs.Prelude.{Option, None, Some, Ok, Err}
use mathlib.Core.Path.{◌≡◌, refl, ap}
use Prim.Native.Nat.{ℕ}
use mathlib.Core.List.{List, [], ◌∷◌}
use Rattle.terms.specs.Refusals.{refused, gives}
use Rattle.terms.specs.declared.Collation.{Collation}
use Rattle.terms.specs.declared.Refusal.{Refusal}
use Rattle.table.specs.Table.{Table, mapping_of}
use Rattle.pages.specs.Pages.{Pages}
use Rattle.keys.specs.Keys.{prepared, key_of, keyed}
use Rattle.keys.specs.Summaries.{shown_at}
use Rattle.keys.specs.declared.Summary.{Summary}
use Rattle.keys.proofs.Injective.{truth-inj}
use Rattle.keys.proofs.Shown.{shown_at-keyed}
use Rattle.prepare.specs.Calls.{Lent, call, call_refusal, Answers}
use Rattle.prepare.specs.Preparing.{PreparedPair, Preparation, preparation_outcome, pair_outcome, numbers_of, prepared_values, shown_key, Prepares}
use Rattle.prepare.proofs.Answering.{answered-gives}

-- ---- one text

module _ {k : Collation} {t : Table} {p : Pages} {l : Lent} {r : Preparation} {after : List ℕ}
    (h : Prepares (call (Some k) t p (l ∷ [])) r after) where
  -- a text that was prepared shows its key
  pub shown-key : call_refusal (call (Some k) t p (l ∷ [])) ≡ None → shown_key r l.text after ≡ key_of k (mapping_of t) l.text
  shown-key e = go r (rw e at h.call.answered) (rw e at h.call.left)
    where
      go : (x : Preparation) → Some (preparation_outcome x) ≡ Some (gives (numbers_of (prepared k (mapping_of t) l.text ∷ [])))
          → after ∷ [] ≡ keyed (prepared k (mapping_of t) l.text) l.buffer ∷ []
          → shown_key x l.text after ≡ key_of k (mapping_of t) l.text
      go (Ok s) told left =
          let one : after ≡ keyed (prepared k (mapping_of t) l.text) l.buffer = cc in
          rw one (shown_at-keyed k (mapping_of t) l.text l.buffer s (cc))
      go (Err x) told left = cc

  -- "On refusal .. a shown key is empty"
  pub shown-refused : (x : Refusal) → call_refusal (call (Some k) t p (l ∷ [])) ≡ Some x → shown_key r l.text after ≡ []
  shown-refused x e = go r (rw e at h.call.answered)
    where
      go : (y : Preparation) → Some (preparation_outcome y) ≡ Some (refused x) → shown_key y l.text after ≡ []
      go (Ok s) told = cc
      go (Err y) told = refl

-- ---- two texts

-- what two texts that were prepared show: each key is its text's
pub record ShownBoth (k : Collation) (t : Table) (l m : Lent) (one two : Summary) (sAfter tAfter : List ℕ) : Type 0 where
  pub first : shown_at one.place one.key_length l.text sAfter ≡ key_of k (mapping_of t) l.text
  pub second : shown_at two.place two.key_length m.text tAfter ≡ key_of k (mapping_of t) m.text
  pub valid : two.valid ≡ (prepared k (mapping_of t) m.text).valid

module _ {k : Collation} {t : Table} {p : Pages} {l m : Lent} {x : Option Refusal} {r : PreparedPair} {sAfter tAfter : List ℕ}
    {one two : Summary}
    (h : Answers pair_outcome prepared_values x (call (Some k) t p (l ∷ m ∷ [])) r (sAfter ∷ tAfter ∷ []))
    (e : r ≡ Ok (one, two)) where
  -- nothing was refused
  pub both-unrefused : x ≡ None
  both-unrefused = (answered-gives h _ (ap pair_outcome e)).0

  -- two texts that were prepared show their keys
  pub shown-both : ShownBoth k t l m one two sAfter tAfter
  shown-both =
      let numbers = (answered-gives h _ (ap pair_outcome e)).1 in
      let left = rw both-unrefused at h.left in
      let left1 : sAfter ≡ keyed (prepared k (mapping_of t) l.text) l.buffer = cc in
      let left2 : tAfter ≡ keyed (prepared k (mapping_of t) m.text) m.buffer = cc in
      record {
        first = rw left1 (shown_at-keyed k (mapping_of t) l.text l.buffer one (cc));
        second = rw left2 (shown_at-keyed k (mapping_of t) m.text m.buffer two (cc));
        valid = truth-inj two.valid (prepared k (mapping_of t) m.text).valid (cc);
      }
