-- What a caller may go by: over one table and under one collation the answers of `order` that are not refusals are a total
-- preorder, its ties are exactly the texts with one key, and `equal` answers Match of exactly those. This holds of any calls,
-- whatever their key buffers held, and of the `_accepted` calls too, whose contracts are the same.
-- Assumes nothing.
use mathlib.Core.Path.{◌≡◌, refl, sym, ap, ◌∙◌}
use Prim.Native.Nat.{ℕ, Ordering}
use mathlib.Core.Bool.{Bool, true, false}
use mathlib.Core.Logic.{◌⊎◌, inl, inr, ◌↔◌}
use Rattle.std.specs.Prelude.{None, Some}
use mathlib.Core.List.{List, [], ◌∷◌}
use Rattle.terms.specs.Lists.{there}
use Rattle.terms.specs.declared.Collation.TheVariants.{UnicodeCasemap}
use Rattle.octets.specs.Order.{order_of}
use Rattle.octets.proofs.Order.{AtMost, at-most-trans, at-most-total, order-refl, order-equal, order_same, order_flip}
use Rattle.octets.proofs.Order.{order_trans}
use Rattle.utf8.specs.Utf8.{characters}
use Rattle.table.specs.Table.{Table, mapping_of}
use Rattle.decompose.specs.TableCheck.{table_refusal}
use Rattle.keys.specs.Keys.{PreparedText, key_of}
use Rattle.keys.proofs.Validity.{valid-invalid-differ}
use Rattle.pages.specs.Pages.{Pages}
use Rattle.prepare.specs.Calls.{Lent, call, Called}
use Rattle.prepare.proofs.CallRefusals.{unrefused-table}
use Rattle.compare.specs.Compare.{order_outcome, equality_outcome, order_values, equality_values, ordered_by, equality_by}
use Rattle.compare.specs.Compare.{Equality, Ordered, order_of_keys, equality_of_keys, OrderSays, EqualSays, flipped}
use Rattle.std.specs.Prelude.{Ok}
use Rattle.std.specs.declared.cmp.Ordering.TheVariants.{Less, Equal, Greater}
use Rattle.compare.proofs.Injective.{equality_outcome-inj, order_outcome-inj}
use Rattle.compare.proofs.Calls.{order_outcome-ordered_by}
use Rattle.compare.proofs.Says.{equality_outcome-ordered_by, ordered_by-equal, ordered_by-match, ordered_by-less}
use Rattle.compare.proofs.Says.{ordered_by-greater, ordered_by-flip, says, says-number, given-unrefused}

-- keys that are the same tie
same : {a b : List ℕ} → a ≡ b → order_of a b ≡ Ordering.eq
same {b} e = rw e (order-refl b)

module _ {p q : PreparedText} where
  -- `order` answers the order of the keys
  pub answers-keys : {r : Ordered} → OrderSays p q r → r ≡ ordered_by (order_of p.key q.key)
  answers-keys {r} c =
      let o = order_of p.key q.key in order_outcome-inj r (ordered_by o) (says-number c ∙ sym (order_outcome-ordered_by o))

  -- `equal` answers by it
  pub matches-keys : {r : Equality} → EqualSays p q r → r ≡ equality_by (ordered_by (order_of p.key q.key))
  matches-keys {r} c =
      let o = order_of p.key q.key in equality_outcome-inj r (equality_by (ordered_by o))
      (says-number c ∙ rw (← order_same p.key q.key) (sym (equality_outcome-ordered_by o)))

  -- ---- ties

  -- `order` says Equal of exactly the texts with one key
  pub answers-tie : {r : Ordered} → OrderSays p q r → (r ≡ Ok Equal) ↔ (p.key ≡ q.key)
  answers-tie c = (
    λ e. order-equal p.key q.key (ordered_by-equal (order_of p.key q.key) (sym (answers-keys c) ∙ e)),
    λ e. answers-keys c ∙ ap ordered_by (same e),
  )

  -- `equal` says Match of exactly those
  pub matches-tie : {r : Equality} → EqualSays p q r → (r ≡ Ok true) ↔ (p.key ≡ q.key)
  matches-tie c = (
    λ e. order-equal p.key q.key (ordered_by-match (order_of p.key q.key) (sym (matches-keys c) ∙ e)),
    λ e. matches-keys c ∙ ap (λ (o : Ordering). equality_by (ordered_by o)) (same e),
  )

  -- so `order` says Equal where `equal` says Match
  pub answers-match : {r : Ordered} {x : Equality} → OrderSays p q r → EqualSays p q x → (r ≡ Ok Equal) ↔ (x ≡ Ok true)
  answers-match c d = (
    λ e. (matches-tie d).1 ((answers-tie c).0 e),
    λ e. (answers-tie c).1 ((matches-tie d).0 e),
  )

  -- the texts decide: two calls on them answer the same
  pub answers-same : {r x : Ordered} → OrderSays p q r → OrderSays p q x → r ≡ x
  answers-same c d = answers-keys c ∙ sym (answers-keys d)

  -- an answer that is not Greater, by the keys
  not-greater : {r : Ordered} → OrderSays p q r → (r ≡ Ok Greater → ⊥) ↔ AtMost p.key q.key
  not-greater c = (
    λ h e. h (answers-keys c ∙ ap ordered_by e),
    λ h e. h (ordered_by-greater (order_of p.key q.key) (sym (answers-keys c) ∙ e)),
  )

-- ---- a total preorder

-- a text is Equal to itself
pub answers-refl : {p : PreparedText} {r : Ordered} → OrderSays p p r → r ≡ Ok Equal
answers-refl c = (answers-tie c).1 refl

-- the answer turns round with the texts
pub answers-flip : {p q : PreparedText} {r x : Ordered} → OrderSays p q r → OrderSays q p x → x ≡ flipped r
answers-flip {p} {q} c d =
    answers-keys d
    ∙ ap ordered_by (order_flip p.key q.key)
    ∙ ordered_by-flip (order_of p.key q.key)
    ∙ ap flipped (sym (answers-keys c))

module _ {p q s : PreparedText} {r x y : Ordered} (c : OrderSays p q r) (d : OrderSays q s x) (e : OrderSays p s y) where
  -- what is not Greater than what is not Greater is not Greater
  pub answers-trans : (r ≡ Ok Greater → ⊥) → (x ≡ Ok Greater → ⊥) → y ≡ Ok Greater → ⊥
  answers-trans h j =
      (not-greater e).1 (at-most-trans p.key q.key s.key ((not-greater c).0 h) ((not-greater d).0 j))

  -- what is Less than what is Less is Less
  pub answers-less : r ≡ Ok Less → x ≡ Ok Less → y ≡ Ok Less
  answers-less h j =
      answers-keys e
      ∙ ap ordered_by
      (order_trans p.key q.key s.key (ordered_by-less (order_of p.key q.key) (sym (answers-keys c) ∙ h))
      (ordered_by-less (order_of q.key s.key) (sym (answers-keys d) ∙ j)))

-- of two texts one is not Greater than the other
pub answers-total : {p q : PreparedText} {r x : Ordered} → OrderSays p q r → OrderSays q p x
    → (r ≡ Ok Greater → ⊥) ⊎ (x ≡ Ok Greater → ⊥)
answers-total {p} {q} {r} {x} c d = go (at-most-total p.key q.key)
  where
    go : AtMost p.key q.key ⊎ AtMost q.key p.key → (r ≡ Ok Greater → ⊥) ⊎ (x ≡ Ok Greater → ⊥)
    go (inl h) = inl ((not-greater c).1 h)
    go (inr h) = inr ((not-greater d).1 h)

-- ---- "Under collation 3 a valid and an invalid text are never equal"

-- texts with one key under collation 3 are both valid or both invalid
same-validity : (t : Table) (x y : List ℕ) → table_refusal t ≡ None
    → key_of UnicodeCasemap (mapping_of t) x ≡ key_of UnicodeCasemap (mapping_of t) y
    → there (characters x) ≡ there (characters y)
same-validity t x y ok key = go (there (characters x)) (there (characters y)) refl refl
  where
    go : (a b : Bool) → there (characters x) ≡ a → there (characters y) ≡ b → there (characters x) ≡ there (characters y)
    go true true e f = e ∙ sym f
    go true false e f = absurd (valid-invalid-differ t ok x y e f key)
    go false true e f = absurd (valid-invalid-differ t ok y x f e (sym key))
    go false false e f = e ∙ sym f

module _ {t : Table} {g : Pages} {l m : Lent} {after : List (List ℕ)} where
  -- where just one of two texts is valid, `order` does not say Equal
  pub answers-valid : Called order_outcome order_values (call (Some UnicodeCasemap) t g (l ∷ m ∷ [])) (Ok Equal) after
      → there (characters l.text) ≡ there (characters m.text)
  answers-valid h =
      let accepted = unrefused-table (call (Some UnicodeCasemap) t g (l ∷ m ∷ [])) (given-unrefused order_of_keys h tt) in
      same-validity t l.text m.text accepted ((answers-tie (says h tt)).0 refl)

  -- nor does `equal` say Match
  pub matches-valid : Called equality_outcome equality_values (call (Some UnicodeCasemap) t g (l ∷ m ∷ [])) (Ok true) after
      → there (characters l.text) ≡ there (characters m.text)
  matches-valid h =
      let accepted = unrefused-table (call (Some UnicodeCasemap) t g (l ∷ m ∷ [])) (given-unrefused equality_of_keys h tt) in
      same-validity t l.text m.text accepted ((matches-tie (says h tt)).0 refl)
