-- Calls on keys: what a passed check says, keys in their order by the sorted numbers, and answers.
-- Assumes nothing.
use mathlib.Core.Path.{◌≡◌, refl, sym, ap, ap₂, ◌∙◌}
use Prim.Native.Nat.{ℕ, suc, ◌+◌, ◌-◌, ◌≤◌}
use native.Mathlib.Omega.{arith}
use mathlib.Core.Bool.{Bool, true}
use Rattle.std.specs.Prelude.{None, Some}
use mathlib.Core.List.{List, [], ◌∷◌, ◌++◌, map}
use lib.Dec.{ltb}
use lib.ListN.{length, drop, get_or, length-map}
use borrow.Author.Tests.{ltb-true, ltb-false}
use Rattle.terms.specs.Lists.{all, over}
use Rattle.terms.specs.Refusals.{ends_most, refusal, check}
use Rattle.terms.specs.declared.Refusal.{Refusal}
use Rattle.terms.proofs.Checks.{when-none, first-none}
use Rattle.terms.proofs.Lists.{all_first, all_rest}
use Rattle.sorting.specs.Sorted.{numbers}
use Rattle.sorting.specs.KeyOrder.{key_in, Ends, key_order}
use Rattle.sorting.proofs.Sorting.{all-sorted, length-sorted}
use Rattle.storing.specs.Ends.{ends_refusal}
use Rattle.storing.specs.Rooms.{store_check, arrays_check}
use Rattle.storing.proofs.Ending.{ends-passed, ends-few}
use Rattle.storing.proofs.Room.{store-room, arrays-room}
use Rattle.partners.specs.Partners.{key_positions}
use Rattle.partners.specs.declared.Totals.{Totals}
use Rattle.partners.proofs.Finding.{map-map}
use Rattle.partners.proofs.Those.{numbers-at, numbers-most, length-numbers}
use Rattle.partners.proofs.Walked.{positions-by}
use Rattle.matching.specs.Matching.{KeysCall, both_keys, in_order, repeated, keys_checked, keys_refusal, Matches}
use Rattle.matching.specs.Promises.{sorted_numbers, MatchesIn}
use Rattle.std.specs.Prelude.{Ok, Err}
use Rattle.matching.proofs.Repeats.{length-repeated}

-- ---- the checks that were passed

-- what a passed check says of ends and rows
pub record Fitting (octets : List ℕ) (ends : List ℕ) (first_names row repeats partners : ℕ) : Type 0 where
  pub sound : Ends octets ends
  pub few : length ends ≤ ends_most
  pub names : first_names ≤ length ends
  pub rows : (length ends ≤ row) × (length ends ≤ repeats)
  pub room : first_names ≤ partners

pub checked-fits : (octets ends : List ℕ) (first_names row repeats partners : ℕ)
    → keys_checked (length octets) ends first_names row repeats partners ≡ None
    → Fitting octets ends first_names row repeats partners
unfolding keys_checked
checked-fits octets ends first_names row repeats partners e =
    let checks = ends_refusal (length octets) ends
    ∷ check (ltb (length ends) first_names) 37 0 (length ends)
    ∷ arrays_check row repeats (length ends)
    ∷ store_check partners first_names
    ∷ [] in
    record {
      sound = ends-passed octets ends (first-none checks e 0);
      few = ends-few (length octets) ends (first-none checks e 0);
      names =
          ltb-false (length ends) first_names
          (when-none (ltb (length ends) first_names) (refusal 37 0 (length ends)) (first-none checks e 1));
      rows = arrays-room row repeats (length ends) (sym (first-none checks e 2));
      room = store-room (sym (first-none checks e 3));
    }

-- ---- keys in their order

-- what is made of each number of a list, where the ways agree on all that pass a test
map-within : {A : Type 0} (f g : ℕ → A) (test : ℕ → Bool) → ((x : ℕ) → test x ≡ true → f x ≡ g x) → (xs : List ℕ)
    → all test xs ≡ true → map f xs ≡ map g xs
map-within f g test h [] a = refl
map-within {A} f g test h (x ∷ xs) a =
    ap₂ (λ (y : A) (ys : List A). y ∷ ys) (h x (all_first test x xs a)) (map-within f g test h xs (all_rest test x xs a))

module _ (store ends : List ℕ) where
  abbrev key : ℕ → List ℕ
  key = key_in store ends

  abbrev ks : List (List ℕ)
  ks = map key (numbers 0 (length ends))

  pub positions-sorted : map suc (sorted_numbers store ends) ≡ key_positions ks
  positions-sorted = positions-by key (length ends)

  pub length-positions : length (key_positions ks) ≡ length ends
  length-positions =
      ap length (sym positions-sorted)
      ∙ length-map (sorted_numbers store ends) suc
      ∙ length-sorted (key_order key) (numbers 0 (length ends))
      ∙ length-numbers 0 (length ends)

  pub order-sorted : map key (sorted_numbers store ends) ≡ in_order ks
  order-sorted =
      map-within key (λ x. get_or ks (suc x - 1) []) (λ x. ltb x (length ends)) here (sorted_numbers store ends) below
      ∙ sym (map-map (λ p. get_or ks (p - 1) []) suc (sorted_numbers store ends))
      ∙ ap (map (λ p. get_or ks (p - 1) [])) positions-sorted
    where
      here : (x : ℕ) → ltb x (length ends) ≡ true → key x ≡ get_or ks (suc x - 1) []
      here x h =
          let same : 0 + x ≡ x = omega arith in
          let back : suc x - 1 ≡ x = omega arith in
          sym
          (ap (λ (n : ℕ). get_or ks n []) back
          ∙ numbers-at key [] 0 (length ends) x (ltb-true x (length ends) h)
          ∙ ap key same)

      below : all (λ x. ltb x (length ends)) (sorted_numbers store ends) ≡ true
      below =
          let from : 0 + length ends ≡ length ends = omega arith in
          all-sorted (key_order key) (λ x. ltb x (length ends)) (numbers 0 (length ends))
          ∙ rw from at (numbers-most 0 (length ends))

  pub length-order : length (repeated (in_order ks)) ≡ length ends
  length-order =
      length-repeated (in_order ks) ∙ length-map (key_positions ks) (λ p. get_or ks (p - 1) []) ∙ length-positions

-- ---- answers

-- a refusal: the rows stay
pub matches-refused : (c : KeysCall) (r : Refusal) → keys_refusal c ≡ Some r
    → Matches c (Err r) (c.row ∷ c.repeats ∷ c.partners ∷ [])
matches-refused c r e = record { answered = rw e refl; left = rw e refl }

-- a row of which the first part was filled
filled-over : (xs row : List ℕ) (n : ℕ) → length xs ≡ n → xs ++ drop n row ≡ over xs row
filled-over xs row n e = ap (λ (m : ℕ). xs ++ drop m row) (sym e)

-- matches
pub matches-found : (c : KeysCall) (t : Totals) {row repeats partners : List ℕ} → keys_refusal c ≡ None
    → MatchesIn c.store c.ends c.first_names c.partners t row repeats partners
    → Matches c (Ok t)
    ((row ++ drop (length c.ends) c.row) ∷ (repeats ++ drop (length c.ends) c.repeats) ∷ partners ∷ [])
matches-found c t {row} {repeats} {partners} e m =
    let n = length c.ends in
    let ordered : row ++ drop n c.row ≡ over (key_positions (both_keys c)) c.row =
    ap (λ (xs : List ℕ). xs ++ drop n c.row) (m.ordered ∙ positions-sorted c.store c.ends)
    ∙ filled-over (key_positions (both_keys c)) c.row n (length-positions c.store c.ends)
    in
    let grouped : repeats ++ drop n c.repeats ≡ over (repeated (in_order (both_keys c))) c.repeats =
    ap (λ (xs : List ℕ). xs ++ drop n c.repeats) (m.grouped ∙ ap repeated (order-sorted c.store c.ends))
    ∙ filled-over (repeated (in_order (both_keys c))) c.repeats n (length-order c.store c.ends)
    in
    record { answered = rw e (cc (m.pairs, m.names)); left = rw e (cc (ordered, grouped, m.lowest)) }
