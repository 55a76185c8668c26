-- What arrays of partners and of positions say of two lists of keys, each sentence of request 3 about them: `find_shared` leaves
-- such arrays, and so does `match_keys`.
-- Assumes nothing.
use mathlib.Core.Path.{◌≡◌, refl, ap, ◌∙◌}
use Prim.Native.Nat.{Ordering}
use Prim.Native.Nat.{ℕ, zero, suc, ◌-◌, ◌≤◌, ◌<◌}
use native.Mathlib.Omega.{arith}
use mathlib.Core.Logic.{◌↔◌}
use mathlib.Core.List.{List, [], ◌∷◌, map}
use lib.Dec.{eqb}
use lib.ListN.{length, take, drop, get_or, length-map, get_or-append}
use lib.Seq.{take_at}
use Rattle.terms.specs.Lists.{over}
use Rattle.octets.specs.Order.{order_of}
use Rattle.partners.specs.Partners.{those, partner_of, key_positions}
use Rattle.partners.proofs.Meaning as meaning

-- an element of a list made of another
pub get_d_map : {A : Type 0} (f : A → ℕ) (d : A) (ks : List A) (i : ℕ) → i < length ks → get_or (map f ks) i 0 ≡ f (get_or ks i d)
get_d_map f d [] i h = absurd (omega arith)
get_d_map f d (k ∷ ks) zero h = refl
get_d_map f d (k ∷ ks) (suc i) h = get_d_map f d ks i (omega arith)

-- an array that has the lowest partner of each key of the first list
module _ (ks qs : List (List ℕ)) (before partners : List ℕ) (told : partners ≡ over (map (partner_of qs) ks) before)
    (i : ℕ) (inside : i < length ks) where
  partner-at : get_or partners i 0 ≡ partner_of qs (get_or ks i [])
  partner-at =
      ap (λ (s : List ℕ). get_or s i 0) told
      ∙ get_or-append (map (partner_of qs) ks) (drop (length (map (partner_of qs) ks)) before) 0 i
      (omega (arith, length-map ks (partner_of qs)))
      ∙ get_d_map (partner_of qs) [] ks i inside

  -- 0 exactly where no key of the second list is the same,
  pub partner-none : (get_or partners i 0 ≡ 0) ↔ ((j : ℕ) → j < length qs → get_or ks i [] ≡ get_or qs j [] → ⊥)
  partner-none = rw partner-at (meaning.partner_of-none qs (get_or ks i []))

  -- and j + 1 exactly where the one at j is and none before it
  pub partner-lowest : (j : ℕ) → (get_or partners i 0 ≡ suc j)
      ↔ ((j < length qs) × (get_or ks i [] ≡ get_or qs j []) × ((h : ℕ) → h < j → get_or ks i [] ≡ get_or qs h [] → ⊥))
  partner-lowest j = rw partner-at (meaning.partner_of-lowest qs (get_or ks i []) j)

-- an array that has the positions of keys in their order
module _ (ks : List (List ℕ)) (before positions : List ℕ) (told : positions ≡ over (key_positions ks) before) where
  -- they are its first elements, one for each key,
  pub positions-taken : take (length ks) positions ≡ key_positions ks
  positions-taken =
      ap (take (length ks)) told
      ∙ take_at (key_positions ks) (drop (length (key_positions ks)) before) (length ks) (meaning.length-key_positions ks)

  -- every position, each once,
  pub positions-once : (x : ℕ) → x < length ks → those (eqb (suc x)) (take (length ks) positions) ≡ suc x ∷ []
  positions-once x h = ap (those (eqb (suc x))) positions-taken ∙ meaning.key_positions-once ks x h

  pub position-is : (i : ℕ) → i < length ks → get_or positions i 0 ≡ get_or (key_positions ks) i 0
  position-is i h =
      ap (λ (s : List ℕ). get_or s i 0) told
      ∙ get_or-append (key_positions ks) (drop (length (key_positions ks)) before) 0 i
      (omega (arith, meaning.length-key_positions ks))

  -- no other number,
  pub positions-bounded : (i : ℕ) → i < length ks → (0 < get_or positions i 0) × (get_or positions i 0 ≤ length ks)
  positions-bounded i h = rw (position-is i h) (meaning.key_positions-within ks i h)

  -- ascending by key,
  pub positions-rise : (i j : ℕ) → i < j → j < length ks
      → order_of (get_or ks (get_or positions i 0 - 1) []) (get_or ks (get_or positions j 0 - 1) []) ≡ Ordering.gt
      → ⊥
  positions-rise i j h k = rw (position-is i (omega arith), position-is j k) (meaning.key_positions-ascend ks i j h k)

  -- ties by position
  pub positions-tied : (i j : ℕ) → i < j → j < length ks
      → get_or ks (get_or positions i 0 - 1) [] ≡ get_or ks (get_or positions j 0 - 1) []
      → get_or positions i 0 < get_or positions j 0
  positions-tied i j h k = rw (position-is i (omega arith), position-is j k) (meaning.key_positions-ties ks i j h k)
