-- Calls of `order` and `equal` whose answers are not refusals: what they say as an order of keys, and that nothing refused them.
-- Assumes nothing.
use mathlib.Core.Path.{◌≡◌, refl}
use mathlib.Core.Bool.{cond}
use Prim.Native.Nat.{ℕ, Ordering}
use Rattle.std.specs.Prelude.{None, Some}
use mathlib.Core.List.{List, [], ◌∷◌}
use lib.Dec.{compare_is_eq}
use Rattle.terms.specs.Refusals.{Outcome, refused, gives, Given}
use Rattle.terms.specs.declared.Collation.{Collation}
use Rattle.octets.proofs.Orders.{flip}
use Rattle.table.specs.Table.{Table, mapping_of}
use Rattle.keys.specs.Keys.{PreparedText, prepared}
use Rattle.pages.specs.Pages.{Pages}
use Rattle.prepare.specs.Calls.{Lent, Call, call, call_refusal, Called}
use Rattle.prepare.proofs.Answering.{answered-gives}
use Rattle.compare.specs.Compare.{equality_outcome, compared, compared_values, ordered_by, equality_by, Says, flipped}
use Rattle.std.specs.Prelude.{true, Ok}
use Rattle.std.specs.declared.cmp.Ordering.TheVariants.{Less, Equal, Greater}

-- ---- answers that are no refusals

-- the values that were given
values_given : (o : Outcome) → Given o → (vs : List ℕ) × (o ≡ gives vs)
values_given (refused r) g = absurd g
values_given (gives vs) g = (vs, refl)

-- what is not a refusal was refused by nothing
pub given-unrefused : {R : Type 0} {outcome : R → Outcome} {r : R} (number : List ℕ → List ℕ → ℕ) {c : Call}
    {after : List (List ℕ)}
    → Called outcome (compared_values number) c r after
    → Given (outcome r)
    → call_refusal c ≡ None
given-unrefused {outcome = outcome} {r = r} number h given =
    let v = values_given (outcome r) given in (answered-gives h v.0 v.1).0

module _ {R : Type 0} {outcome : R → Outcome} {number : List ℕ → List ℕ → ℕ} {r : R} where
  -- from the contract
  pub says : {k : Collation} {t : Table} {g : Pages} {l m : Lent} {after : List (List ℕ)}
      → Called outcome (compared_values number) (call (Some k) t g (l ∷ m ∷ [])) r after
      → Given (outcome r)
      → Says outcome number (prepared k (mapping_of t) l.text) (prepared k (mapping_of t) m.text) r
  says {k} {t} {g} {l} {m} {after} h given =
      record { call = call (Some k) t g (l ∷ m ∷ []); after = after; called = h; texts = refl; given = given }

  -- what it tells
  pub says-number : {p q : PreparedText} → Says outcome number p q r → outcome r ≡ gives (number p.key q.key ∷ [])
  says-number {p} {q} c =
      let v = values_given (outcome r) c.given in
      let told = (answered-gives c.called v.0 v.1).1 in
      let is : compared number (p ∷ q ∷ []) ≡ Some v.0 = rw c.texts at told in
      let same : number p.key q.key ∷ [] ≡ v.0 = cc in
      rw same v.1

-- ---- the answer is the order of the keys

pub equality_outcome-ordered_by : (o : Ordering) → equality_outcome (equality_by (ordered_by o)) ≡ gives (cond (compare_is_eq o) 1 2 ∷ [])
equality_outcome-ordered_by Ordering.lt = refl
equality_outcome-ordered_by Ordering.eq = refl
equality_outcome-ordered_by Ordering.gt = refl

pub ordered_by-equal : (o : Ordering) → ordered_by o ≡ Ok Equal → o ≡ Ordering.eq
ordered_by-equal Ordering.lt e = cc
ordered_by-equal Ordering.eq e = refl
ordered_by-equal Ordering.gt e = cc

pub ordered_by-match : (o : Ordering) → equality_by (ordered_by o) ≡ Ok true → o ≡ Ordering.eq
ordered_by-match Ordering.lt e = cc
ordered_by-match Ordering.eq e = refl
ordered_by-match Ordering.gt e = cc

pub ordered_by-less : (o : Ordering) → ordered_by o ≡ Ok Less → o ≡ Ordering.lt
ordered_by-less Ordering.lt e = refl
ordered_by-less Ordering.eq e = cc
ordered_by-less Ordering.gt e = cc

pub ordered_by-greater : (o : Ordering) → ordered_by o ≡ Ok Greater → o ≡ Ordering.gt
ordered_by-greater Ordering.lt e = cc
ordered_by-greater Ordering.eq e = cc
ordered_by-greater Ordering.gt e = refl

pub ordered_by-flip : (o : Ordering) → ordered_by (flip o) ≡ flipped (ordered_by o)
ordered_by-flip Ordering.lt = refl
ordered_by-flip Ordering.eq = refl
ordered_by-flip Ordering.gt = refl
