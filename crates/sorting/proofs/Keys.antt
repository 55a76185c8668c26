-- Where keys stand in a store, and a row's numbers as numbers of keys.
-- Assumes nothing.
use mathlib.Core.Path.{◌≡◌, refl, ap, ◌∙◌}
use Prim.Native.Nat.{ℕ, zero, suc, ◌-◌, ◌<◌}
use native.Mathlib.Omega.{arith}
use mathlib.Core.Bool.{true}
use mathlib.Core.List.{List}
use lib.Dec.{ltb}
use lib.ListN.{length, take, drop, get_or}
use borrow.Author.Tests.{ltb-true}
use Rattle.terms.proofs.Lists.{all-at}
use Rattle.sorting.specs.KeyOrder.{start_of, key_in, all_numbered}

-- a key begins where the one before it ends
pub start_of-next : (ends : List ℕ) (x : ℕ) → (x ≡ 0 → ⊥) → start_of ends x ≡ get_or ends (x - 1) 0
start_of-next ends zero h = absurd (h refl)
start_of-next ends (suc x) h = ap (λ (y : ℕ). get_or ends y 0) (omega arith)

-- the first begins at the start
pub start_of-first : (ends : List ℕ) (x : ℕ) → x ≡ 0 → start_of ends x ≡ 0
start_of-first ends zero h = refl
start_of-first ends (suc x) h = absurd (omega arith)

-- a key from where it begins
pub key_in-from : (store ends : List ℕ) (x start : ℕ) → start_of ends x ≡ start
    → key_in store ends x ≡ take (get_or ends x 0 - start) (drop start store)
unfolding key_in
key_in-from store ends x start h = rw h

-- the first key
pub key_in-first : (store ends : List ℕ) (x : ℕ) → x ≡ 0 → key_in store ends x ≡ take (get_or ends x 0) store
key_in-first store ends x h =
    let n : get_or ends x 0 - 0 ≡ get_or ends x 0 = omega arith in
    key_in-from store ends x 0 (start_of-first ends x h) ∙ ap (λ (m : ℕ). take m store) n

-- a number of a row is a key's
pub numbered-at : (ends row : List ℕ) (i : ℕ) → all_numbered ends row ≡ true → i < length row → get_or row i 0 < length ends
numbered-at ends row i a h =
    ltb-true (get_or row i 0) (length ends) (all-at (λ x. ltb x (length ends)) row i 0 a h)
