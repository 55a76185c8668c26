-- What the two halves of a comparing call come to: the order of the keys that two prepared texts show is the order of the texts,
-- and equality goes by the order.
-- Assumes nothing.
use mathlib.Core.Path.{◌≡◌, refl, ap}
use Prim.Native.Nat.{ℕ, Ordering}
use mathlib.Core.Bool.{cond}
use Rattle.std.specs.Prelude.{Option, None, Some}
use mathlib.Core.List.{List, [], ◌∷◌}
use lib.Dec.{compare_is_eq}
use Rattle.terms.specs.Refusals.{refused, gives}
use Rattle.terms.specs.declared.Collation.{Collation}
use Rattle.terms.specs.declared.Refusal.{Refusal}
use Rattle.octets.specs.Order.{order_of, compared_order}
use Rattle.octets.proofs.Order.{order_same}
use Rattle.table.specs.Table.{Table}
use Rattle.keys.specs.Keys.{PreparedText}
use Rattle.keys.specs.Summaries.{shown_at}
use Rattle.keys.specs.declared.Summary.{Summary}
use Rattle.pages.specs.Pages.{Pages}
use Rattle.prepare.specs.Calls.{Lent, Call, call, prepared_in, call_refusal, answer_of, Answers, Called}
use Rattle.prepare.specs.Preparing.{PreparedPair, prepared_values, pair_outcome}
use Rattle.prepare.proofs.Shown.{shown-both, both-unrefused}
use Rattle.compare.specs.Compare.{equality_outcome, order_outcome, order_number, order_of_keys, equality_of_keys, compared}
use Rattle.compare.specs.Compare.{Ordered, order_values, equality_values, ordered_by, equality_by}
use Rattle.std.specs.Prelude.{Ok, Err}
use Rattle.std.specs.declared.cmp.Ordering as std
use Rattle.std.specs.declared.cmp.Ordering.TheVariants.{Less, Equal, Greater}

-- ---- order

-- an order of keys as an answer gives its number
pub order_outcome-ordered_by : (o : Ordering) → order_outcome (ordered_by o) ≡ gives (order_number o ∷ [])
order_outcome-ordered_by Ordering.lt = refl
order_outcome-ordered_by Ordering.eq = refl
order_outcome-ordered_by Ordering.gt = refl

-- two texts were prepared, and what they show was ordered
pub orders-shown : {k : Collation} {t : Table} {g : Pages} {l m : Lent} {x : Option Refusal} {p : PreparedPair} {sAfter tAfter : List ℕ}
    {one two : Summary} {o : std.Ordering}
    → Answers pair_outcome prepared_values x (call (Some k) t g (l ∷ m ∷ [])) p (sAfter ∷ tAfter ∷ [])
    → p ≡ Ok (one, two)
    → compared_order o
    ≡ order_of (shown_at one.place one.key_length l.text sAfter) (shown_at two.place two.key_length m.text tAfter)
    → Answers order_outcome order_values x (call (Some k) t g (l ∷ m ∷ [])) (Ok o) (sAfter ∷ tAfter ∷ [])
orders-shown h e told =
    let shown = shown-both h e in
    record { answered = rw (told, shown.first, shown.second, both-unrefused h e); left = h.left }

-- ---- equality by the order

-- a match where the order is a tie
equality-by-number : (r : Ordered) (o : Ordering) → order_outcome r ≡ gives (order_number o ∷ [])
    → equality_outcome (equality_by r) ≡ gives (cond (compare_is_eq o) 1 2 ∷ [])
equality-by-number (Ok Less) Ordering.lt e = refl
equality-by-number (Ok Less) Ordering.eq e = cc
equality-by-number (Ok Less) Ordering.gt e = cc
equality-by-number (Ok Equal) Ordering.lt e = cc
equality-by-number (Ok Equal) Ordering.eq e = refl
equality-by-number (Ok Equal) Ordering.gt e = cc
equality-by-number (Ok Greater) Ordering.lt e = cc
equality-by-number (Ok Greater) Ordering.eq e = cc
equality-by-number (Ok Greater) Ordering.gt e = refl
equality-by-number (Err y) o e = cc

-- the same refusal
equality-refused : (r : Ordered) (x : Refusal) → order_outcome r ≡ refused x → equality_outcome (equality_by r) ≡ refused x
equality-refused (Ok Less) x e = cc
equality-refused (Ok Equal) x e = cc
equality-refused (Ok Greater) x e = cc
equality-refused (Err y) x e = e

equality-by-order : (r : Ordered) (x : Option Refusal) (ps : List PreparedText)
    → Some (order_outcome r) ≡ answer_of x (compared order_of_keys ps)
    → Some (equality_outcome (equality_by r)) ≡ answer_of x (compared equality_of_keys ps)
equality-by-order r (Some x) ps e = ap Some (equality-refused r x (cc))
equality-by-order r None [] e = cc
equality-by-order r None (p ∷ []) e = cc
equality-by-order r None (p ∷ q ∷ []) e =
    ap Some (rw (← order_same p.key q.key) (equality-by-number r (order_of p.key q.key) (cc)))
equality-by-order r None (p ∷ q ∷ s ∷ ps) e = cc

-- texts that were ordered are compared for equality
pub equals-by : {c : Call} {r : Ordered} {after : List (List ℕ)} → Called order_outcome order_values c r after
    → Called equality_outcome equality_values c (equality_by r) after
equals-by {c} {r} h = record { answered = equality-by-order r (call_refusal c) (prepared_in c) h.answered; left = h.left }
