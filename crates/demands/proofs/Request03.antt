-- Document 02, request 3 (which names two lists share), each sentence with the theorems that render it. They take a call of
-- `find_shared` or of its accepted twin by its contract (`ShareCall`), over any lists, any table and slices of any
-- lengths, that was not refused. Request03Refusals.antt has its sentences on refusals.
-- Assumes nothing.
use Rattle.std.specs.Prelude.{Ok}
use mathlib.Core.Path.{◌≡◌, refl, ap, ◌∙◌}
use Prim.Native.Nat.{Ordering}
use Prim.Native.Nat.{ℕ, suc, ◌-◌, ◌≤◌, ◌<◌}
use native.Mathlib.Omega.{arith}
use mathlib.Core.Bool.{true, not, cond}
use mathlib.Core.Logic.{◌↔◌}
use Rattle.std.specs.Prelude.{None, Some}
use mathlib.Core.List.{List, [], ◌∷◌, ◌++◌, map}
use lib.Dec.{eqb}
use lib.ListN.{length, take, get_or}
use Rattle.terms.specs.Lists.{empty, over, same, total}
use Rattle.terms.specs.Refusals.{gives}
use Rattle.terms.specs.declared.Collation.{Collation}
use Rattle.terms.proofs.Checks.{answer-given}
use Rattle.octets.specs.Order.{order_of}
use Rattle.table.specs.Mapping.{Mapping}
use Rattle.table.specs.Table.{mapping_of}
use Rattle.keys.specs.Keys.{key_of, prepared}
use Rattle.compare.specs.Compare.{EqualSays}
use Rattle.compare.specs.Compare.{Equality}
use Rattle.compare.proofs.Preorder.{matches-tie}
use Rattle.partners.specs.Partners.{those, equal_to, equal_pairs_of, partnered, partner_of, key_positions}
use Rattle.partners.proofs.Meaning as meaning
use Rattle.lists.specs.Names.{names_in}
use Rattle.storing.specs.Stored.{joined}
use Rattle.lists.specs.Lists.{ListsCall, first_keys, second_keys, lists_refusal, shared_values, slices_after}
use Rattle.lists.specs.declared.Totals.{Totals}
use Rattle.demands.specs.Lists.{ShareCall, Names, Listed}
use Rattle.demands.proofs.ListFaults.{names-are}
use Rattle.demands.proofs.ListCalls.{unrefused-listed}
use Rattle.demands.proofs.Partnering.{partner-none, partner-lowest, positions-taken, positions-once, positions-bounded}
use Rattle.demands.proofs.Partnering.{positions-rise, positions-tied}

module _ {c : ListsCall} {t : Totals} {store partners positions : List ℕ}
    (call : ShareCall c (Ok t) (store ∷ partners ∷ positions ∷ [])) where
  -- no check applied
  unrefused : lists_refusal c ≡ None
  unrefused = answer-given (lists_refusal c) (shared_values c) _ call.answered

  told : gives (t.first_names ∷ t.second_names ∷ t.equal_pairs ∷ t.partnered ∷ []) ≡ gives (shared_values c)
  told = rw unrefused at call.answered

  left : store ∷ partners ∷ positions ∷ [] ≡ slices_after None c
  left = rw unrefused at call.left

  -- ---- "I hold two lists of kind 1 records before every fit."

  -- a call that is not refused has a known collation and two lists of at most 1,024 names
  pub both-listed : Listed c (names_in c.first_list) (names_in c.second_list)
  both-listed = unrefused-listed c unrefused

  -- ---- "Report, for collations 1 to 3: names in each list,"

  pub names-told : {ts us : List (List ℕ)} → Names c.first_list 0 ts → Names c.second_list 0 us
      → (t.first_names ≡ length ts) × (t.second_names ≡ length us)
  names-told n m =
      let first : t.first_names ≡ length (names_in c.first_list) = cc told in
      let second : t.second_names ≡ length (names_in c.second_list) = cc told in
      (first ∙ ap length (names-are n (omega arith)).0, second ∙ ap length (names-are m (omega arith)).0)

  -- ---- "equal pairs across them, .. The totals are defined over all pairs, without sorting."

  -- one for each pair of a name of the first list and a name of the second whose keys are the same
  pub pairs-told : t.equal_pairs ≡ total (λ k. total (λ q. cond (same k q) 1 0) (second_keys c)) (first_keys c)
  pairs-told =
      let is : t.equal_pairs ≡ equal_pairs_of (first_keys c) (second_keys c) = cc told in
      is ∙ meaning.equal_pairs_of-all (first_keys c) (second_keys c)

  -- and the same with the lists exchanged
  pub pairs-exchanged : t.equal_pairs ≡ equal_pairs_of (second_keys c) (first_keys c)
  pairs-exchanged =
      let is : t.equal_pairs ≡ equal_pairs_of (first_keys c) (second_keys c) = cc told in
      is ∙ meaning.equal_pairs_of-swap (first_keys c) (second_keys c)

  -- ---- "names of the first list with any partner,"

  -- they are those that some name of the second list is equal to,
  pub partnered-told-any : t.partnered ≡ length (those (λ k. not (empty (equal_to (second_keys c) k))) (first_keys c))
  unfolding partnered
  partnered-told-any = cc told

  -- and those whose lowest partner is not 0
  pub partnered-told : t.partnered ≡ length (those (λ k. not (eqb (partner_of (second_keys c) k) 0)) (first_keys c))
  partnered-told =
      let is : t.partnered ≡ partnered (first_keys c) (second_keys c) = cc told in
      is ∙ meaning.partnered-some (first_keys c) (second_keys c)

  -- ---- "and in a lent array the lowest-numbered partner of each (counted from 1; 0 if none)."

  -- the array, which stays beyond the first list's names
  pub partners-told : partners ≡ over (map (partner_of (second_keys c)) (first_keys c)) c.partners
  partners-told = cc left

  -- the element of each name of the first list
  module _ (i : ℕ) (inside : i < length (first_keys c)) where
    -- is 0 exactly where no name of the second list has its key,
    pub no-partner : (get_or partners i 0 ≡ 0)
        ↔ ((j : ℕ) → j < length (second_keys c) → get_or (first_keys c) i [] ≡ get_or (second_keys c) j [] → ⊥)
    no-partner = partner-none (first_keys c) (second_keys c) c.partners partners partners-told i inside

    -- and j + 1 exactly where the name at j has it and none before it
    pub lowest-partner : (j : ℕ) → (get_or partners i 0 ≡ suc j)
        ↔ ((j < length (second_keys c)) × (get_or (first_keys c) i [] ≡ get_or (second_keys c) j [])
        × ((h : ℕ) → h < j → get_or (first_keys c) i [] ≡ get_or (second_keys c) h [] → ⊥))
    lowest-partner j = partner-lowest (first_keys c) (second_keys c) c.partners partners partners-told i inside j

  -- ---- "A second lent array gets the first list's positions, from 1 too, in key order, ties by position; both stay beyond that."

  pub positions-told : positions ≡ over (key_positions (first_keys c)) c.positions
  positions-told = cc left

  -- they are the array's first elements, one for each name,
  pub positions-first : take (length (first_keys c)) positions ≡ key_positions (first_keys c)
  positions-first = positions-taken (first_keys c) c.positions positions positions-told

  -- every position, each once,
  pub position-once : (x : ℕ) → x < length (first_keys c)
      → those (eqb (suc x)) (take (length (first_keys c)) positions) ≡ suc x ∷ []
  position-once x h = positions-once (first_keys c) c.positions positions positions-told x h

  -- no other number,
  pub position-within : (i : ℕ) → i < length (first_keys c)
      → (0 < get_or positions i 0) × (get_or positions i 0 ≤ length (first_keys c))
  position-within i h = positions-bounded (first_keys c) c.positions positions positions-told i h

  -- ascending by key,
  pub positions-ascend : (i j : ℕ) → i < j → j < length (first_keys c)
      → order_of (get_or (first_keys c) (get_or positions i 0 - 1) []) (get_or (first_keys c) (get_or positions j 0 - 1) []) ≡ Ordering.gt
      → ⊥
  positions-ascend i j h k = positions-rise (first_keys c) c.positions positions positions-told i j h k

  -- ties by position
  pub positions-ties : (i j : ℕ) → i < j → j < length (first_keys c)
      → get_or (first_keys c) (get_or positions i 0 - 1) [] ≡ get_or (first_keys c) (get_or positions j 0 - 1) []
      → get_or positions i 0 < get_or positions j 0
  positions-ties i j h k = positions-tied (first_keys c) c.positions positions positions-told i j h k

  -- ---- "Keys stand in a lent store one after another, first list first, those that are the text copied too."

  pub store_told : store ≡ over (joined (first_keys c ++ second_keys c)) c.store
  store_told = cc left

-- ---- "equal"

-- two names have one key exactly when `equal` answers Match of them, over the same table and under the same collation
pub names-equal : (k : Collation) (m : Mapping) (t u : List ℕ) {r : Equality} → EqualSays (prepared k m t) (prepared k m u) r
    → (r ≡ Ok true) ↔ (key_of k m t ≡ key_of k m u)
names-equal k m t u e = matches-tie e

-- ---- "first list's names" and their keys

-- the key at a place is that of the name at the place
pub keys-of-names : (c : ListsCall) (k : Collation) → c.collation ≡ Some k → {ts us : List (List ℕ)}
    → Names c.first_list 0 ts
    → Names c.second_list 0 us
    → (first_keys c ≡ map (key_of k (mapping_of c.table)) ts) × (second_keys c ≡ map (key_of k (mapping_of c.table)) us)
keys-of-names c k e n m =
    let a = names-are n (omega arith) in
    let b = names-are m (omega arith) in
    (rw (e, a.0) refl, rw (e, b.0) refl)
