-- Keys that stand in a store one after another, numbered from 0, and the order of their numbers.
-- Assumes nothing.
use Prim.Native.Nat.{ℕ, zero, suc, ◌-◌, ◌≤◌, ◌<◌, Ordering}
use Rattle.std.specs.Prelude.{Bool, true, false, List, leb, ltb, length, take, drop, get_or}
use Rattle.terms.specs.Lists.{all}
use Rattle.octets.specs.Order.{order_of}

-- where a key begins: where the one before it ends
abbrev pub start_of : List ℕ → ℕ → ℕ
start_of ends zero = 0
start_of ends (suc x) = get_or ends x 0

-- a key by its number, of those that end at these places
unfoldable pub key_in : List ℕ → List ℕ → ℕ → List ℕ
key_in store ends x = take (get_or ends x 0 - start_of ends x) (drop (start_of ends x) store)

-- these places can be ends of keys in the store: each key ends within it, and not before it begins
pub record Ends (store ends : List ℕ) : Type 0 where
  pub forward : (x : ℕ) → x < length ends → start_of ends x ≤ get_or ends x 0
  pub within : (x : ℕ) → x < length ends → get_or ends x 0 ≤ length store

-- all are numbers of keys
abbrev pub all_numbered : List ℕ → List ℕ → Bool
all_numbered ends row = all (λ x. ltb x (length ends)) row

-- by the order of their keys x may stand before y: "in key order, ties by position"
abbrev pub may_precede : Ordering → ℕ → ℕ → Bool
may_precede Ordering.lt x y = true
may_precede Ordering.eq x y = leb x y
may_precede Ordering.gt x y = false

-- the order of numbers by the keys that they have
unfoldable pub key_order : (ℕ → List ℕ) → ℕ → ℕ → Bool
key_order key x y = may_precede (order_of (key x) (key y)) x y
