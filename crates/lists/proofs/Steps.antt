-- A list from a position on: the record there, and then the list from the next position on.
-- Assumes nothing.
use mathlib.Core.Path.{◌≡◌, refl, sym, ap, ◌∙◌}
use Prim.Native.Nat.{ℕ, zero, suc, ◌-◌, ◌≤◌}
use native.Mathlib.Omega.{arith}
use Rattle.std.specs.Prelude.{Option, None, Some}
use mathlib.Core.List.{List, [], ◌∷◌}
use lib.ListN.{length}
use Rattle.terms.specs.declared.Refusal.{Refusal}
use Rattle.records.specs.Items.{list_rules, Item, of_text, of_key}
use Rattle.records.specs.Reading.{Reading, end, stopped, item, read_at}
use Rattle.records.proofs.Framing.{read_at-end}
use Rattle.records.proofs.Steps.{read_at-next}
use Rattle.lists.specs.Names.{name_and, fault_or, read_on, names_from, fault_from}

-- ---- reading on

-- what is made of the end is where reading stops, and of a record only what follows it is asked
record Follows {A : Type 0} (stop : A) (put : Reading → (ℕ → A) → A) : Type 0 where
  ends : (rest : ℕ → A) → put end rest ≡ stop
  asks : (x : Reading) (one two : ℕ → A) → ((i : Item) (next : ℕ) → x ≡ item i next → one next ≡ two next)
      → put x one ≡ put x two

module _ {A : Type 0} (stop : A) (put : Reading → (ℕ → A) → A) (f : Follows stop put) (list : List ℕ) where
  -- at the end
  read-end : (steps p : ℕ) → p ≡ length list → read_on stop put steps list p ≡ stop
  unfolding read_on
  read-end zero p e = refl
  read-end (suc steps) p e =
      ap (λ (x : Reading). put x (read_on stop put steps list)) (read_at-end list_rules list p e)
      ∙ f.ends (read_on stop put steps list)

  -- more steps than octets are left make no difference
  read-enough : (s t p : ℕ) → p ≤ length list → length list - p ≤ s → length list - p ≤ t
      → read_on stop put s list p ≡ read_on stop put t list p
  unfolding read_on
  read-enough zero t p h a b = sym (read-end t p (omega arith))
  read-enough (suc s) zero p h a b = read-end (suc s) p (omega arith)
  read-enough (suc s) (suc t) p h a b =
      f.asks (read_at list_rules list p) (read_on stop put s list) (read_on stop put t list)
      (λ i next e.
      let n = read_at-next list_rules list p next i e in
      read-enough s t next n.1 (omega (arith, n.0)) (omega (arith, n.0)))

  -- the record at a position, and then the rest
  read_step : (p : ℕ) → p ≤ length list
      → read_on stop put (length list - p) list p
      ≡ put (read_at list_rules list p) (λ q. read_on stop put (length list - q) list q)
  unfolding read_on
  read_step p h = go (length list - p) refl
    where
      go : (n : ℕ) → length list - p ≡ n
          → read_on stop put n list p ≡ put (read_at list_rules list p) (λ q. read_on stop put (length list - q) list q)
      go zero e =
          sym
          (ap (λ (x : Reading). put x (λ q. read_on stop put (length list - q) list q))
          (read_at-end list_rules list p (omega arith))
          ∙ f.ends (λ q. read_on stop put (length list - q) list q))
      go (suc n) e =
          f.asks (read_at list_rules list p) (read_on stop put n list) (λ q. read_on stop put (length list - q) list q)
          (λ i next r.
          let m = read_at-next list_rules list p next i r in
          read-enough n (length list - next) next m.1 (omega (arith, m.0)) (omega arith))

-- ---- names

names-asks : (x : Reading) (one two : ℕ → List (List ℕ)) → ((i : Item) (next : ℕ) → x ≡ item i next → one next ≡ two next)
    → name_and x one ≡ name_and x two
names-asks end one two h = refl
names-asks (stopped y) one two h = refl
names-asks (item (of_text t) next) one two h = ap (λ (ts : List (List ℕ)). t ∷ ts) (h (of_text t) next refl)
names-asks (item (of_key f k) next) one two h = h (of_key f k) next refl

names-follow : Follows [] name_and
names-follow = record { ends = λ rest. refl; asks = names-asks }

faults-asks : (x : Reading) (one two : ℕ → Option Refusal) → ((i : Item) (next : ℕ) → x ≡ item i next → one next ≡ two next)
    → fault_or x one ≡ fault_or x two
faults-asks end one two h = refl
faults-asks (stopped y) one two h = refl
faults-asks (item i next) one two h = h i next refl

faults-follow : Follows None fault_or
faults-follow = record { ends = λ rest. refl; asks = faults-asks }

module _ (list : List ℕ) where
  -- the names from a position on, and the refusal, by the record that is there
  pub names-step : (p : ℕ) → p ≤ length list → names_from list p ≡ name_and (read_at list_rules list p) (names_from list)
  unfolding names_from
  names-step p h = read_step [] name_and names-follow list p h

  pub fault-step : (p : ℕ) → p ≤ length list → fault_from list p ≡ fault_or (read_at list_rules list p) (fault_from list)
  unfolding fault_from
  fault-step p h = read_step None fault_or faults-follow list p h

  -- at the end there is no name, and no fault
  pub names-end : (p : ℕ) → p ≡ length list → names_from list p ≡ []
  names-end p e =
      names-step p (omega arith) ∙ ap (λ (x : Reading). name_and x (names_from list)) (read_at-end list_rules list p e)

  pub fault-end : (p : ℕ) → p ≡ length list → fault_from list p ≡ None
  fault-end p e =
      fault-step p (omega arith) ∙ ap (λ (x : Reading). fault_or x (fault_from list)) (read_at-end list_rules list p e)

  module _ (p : ℕ) (inside : p ≤ length list) where
    -- a name
    pub names-name : (t : List ℕ) (next : ℕ) → read_at list_rules list p ≡ item (of_text t) next
        → names_from list p ≡ t ∷ names_from list next
    names-name t next e = names-step p inside ∙ ap (λ (x : Reading). name_and x (names_from list)) e

    pub fault-name : (i : Item) (next : ℕ) → read_at list_rules list p ≡ item i next → fault_from list p ≡ fault_from list next
    fault-name i next e = fault-step p inside ∙ ap (λ (x : Reading). fault_or x (fault_from list)) e

    -- a record that is refused
    pub fault-stopped : (y : Refusal) → read_at list_rules list p ≡ stopped y → fault_from list p ≡ Some y
    fault-stopped y e = fault-step p inside ∙ ap (λ (x : Reading). fault_or x (fault_from list)) e
