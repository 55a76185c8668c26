-- The bulk calls, `prepare_many` and `match_keys`, each sentence of include/mundeziwa.h on them with the theorems that render it.
-- They take a call by its contract (`ManyCalled`, `Matches`), over any octets, ends, table, rows and slices of any lengths.
-- Assumes nothing.
use Rattle.std.specs.Prelude.{Result, Ok, Err}
use mathlib.Core.Path.{◌≡◌, refl, sym, ap, ap₂, ◌∙◌, subst}
use Prim.Native.Nat.{Ordering}
use Prim.Native.Nat.{ℕ, zero, suc, ◌+◌, ◌-◌, ◌≤◌, ◌<◌}
use native.Mathlib.Omega.{arith}
use mathlib.Core.Bool.{Bool, true, false, not, cond}
use mathlib.Core.Logic.{◌↔◌}
use Rattle.std.specs.Prelude.{Option, None, Some}
use mathlib.Core.List.{List, [], ◌∷◌, ◌++◌, map}
use lib.Dec.{eqb}
use lib.ListN.{length, take, drop, get_or, length-map, length-append, get_or-append}
use lib.Seq.{take_at}
use Rattle.terms.specs.Lists.{empty, over, same, total}
use Rattle.terms.specs.Refusals.{first, gives}
use Rattle.terms.specs.declared.Collation.{Collation}
use Rattle.terms.specs.declared.Collation.TheVariants.{UnicodeCasemap}
use Rattle.terms.specs.declared.Refusal.{Refusal}
use Rattle.terms.proofs.Checks.{answer-given, answer-refused, first-none, or_else-neither}
use Rattle.terms.proofs.Same.{same-exactly}
use Rattle.octets.specs.Order.{order_of}
use Rattle.utf8.specs.Utf8.{Character, characters}
use Rattle.table.specs.Mapping.{Mapping}
use Rattle.table.specs.Table.{mapping_of}
use Rattle.decompose.specs.Steps.{StepsGive, steps_key, steps_lookups}
use Rattle.decompose.specs.TableCheck.{table_refusal}
use Rattle.decompose.proofs.Demand3.{accepted-steps}
use Rattle.keys.specs.Keys.{key_of, prepared, unicode_prepared}
use Rattle.keys.specs.Summaries.{truth}
use Rattle.prepare.specs.Calls.{lookup_check}
use Rattle.sorting.specs.KeyOrder.{key_in}
use Rattle.sorting.specs.Sorted.{numbers}
use Rattle.partners.specs.Partners.{those, equal_to, equal_pairs_of, partnered, partner_of, key_positions}
use Rattle.partners.proofs.Meaning as meaning
use Rattle.partners.proofs.Those.{numbers-append, length-numbers}
use Rattle.storing.specs.Rooms.{store_check, arrays_check}
use Rattle.storing.specs.Stored.{joined, ends_from, strings_in}
use Rattle.storing.proofs.Ended.{length-ends_from, strings-stand}
use Rattle.storing.proofs.Room.{store-room}
use Rattle.many.specs.Many.{ManyCall, texts_of, many_keys, many_valid, texts_checks, rooms_refusal, many_refusal, many_values}
use Rattle.many.specs.Many.{slices_after}
use Rattle.many.specs.Many.{Batch}
use Rattle.many.proofs.Injective.{batch_outcome-inj}
use Rattle.many.proofs.Walking.{length-strings, string-at}
use Rattle.matching.specs.Matching.{KeysCall, both_keys, first_keys, second_keys, in_order, repeated, keys_refusal, matched_values}
use Rattle.matching.specs.Matching.{rows_after, Matches}
use Rattle.matching.proofs.Injective.{matched_outcome-inj}
use Rattle.matching.proofs.Repeats.{length-repeated}
use Rattle.partners.specs.declared.Totals.{Totals}
use Rattle.demands.specs.Bulk.{FirstRule, ManyCalled, many_rules, keys_rules}
use Rattle.demands.proofs.Partnering.{get_d_map, partner-none, partner-lowest, positions-once}
use Rattle.demands.proofs.Partnering.{positions-bounded, positions-rise, positions-tied}
use Rattle.demands.proofs.Rules.{many-gives, keys-gives}

-- ---- many texts: refusals

module _ {c : ManyCall} {r : Batch} {after : List (List ℕ)} (call : ManyCalled c r after) where
  -- "Refusals 1, 14, 36, 2, 3 to 7, 15, 8": refused with x exactly when x is that of the first rule that applies
  pub many-refused : (x : Refusal) → (r ≡ Err x) ↔ FirstRule (many_rules c) x
  many-refused x = (
    λ e. (many-gives c x).0 (answer-refused (many_refusal c) (many_values c) x (rw e at call.answered)),
    λ w. batch_outcome-inj r (Err x) (rw ((many-gives c x).1 w) at call.answered),
  )

  -- "On a refusal no other lent buffer changes" (demand 1)
  pub many-kept : (x : Refusal) → r ≡ Err x → after ≡ c.store ∷ c.key_ends ∷ c.valid ∷ []
  many-kept x e = rw (answer-refused (many_refusal c) (many_values c) x (rw e at call.answered)) at call.left

-- ---- many texts: a call that is not refused

module _ {c : ManyCall} {n : ℕ} {store key_ends valid : List ℕ}
    (call : ManyCalled c (Ok n) (store ∷ key_ends ∷ valid ∷ [])) where
  unrefused : many_refusal c ≡ None
  unrefused = answer-given (many_refusal c) (many_values c) _ call.answered

  left : store ∷ key_ends ∷ valid ∷ [] ≡ slices_after None c
  left = rw unrefused at call.left

  -- "at the start of store the keys of all texts, one after another with nothing between them, also those that are the text
  -- itself", "the octets of all keys together"
  pub many-stored : (store ≡ over (joined (many_keys c)) c.store) × (n ≡ length (joined (many_keys c)))
  many-stored =
      let told : gives (n ∷ []) ≡ gives (many_values c) = rw unrefused at call.answered in
      (cc left, cc told)

  passed : (lookup_check c.collation c.table c.pages ≡ None) × (length (joined (many_keys c)) ≤ length c.store)
  unfolding many_refusal
  passed =
      let rooms = first-none
      (first (texts_checks c.collation (length c.octets) c.ends)
      ∷ lookup_check c.collation c.table c.pages
      ∷ rooms_refusal c
      ∷ [])
      unrefused
      in (
        rooms 1,
        store-room (sym
            (first-none
            (store_check (length c.store) (length (joined (many_keys c)))
            ∷ arrays_check (length c.key_ends) (length c.valid) (length c.ends)
            ∷ [])
            (rooms 2)
            0)),
      )

  module _ (k : Collation) (known : c.collation ≡ Some k) where
    -- "Prepares many texts, each by itself"
    pub many-keys : many_keys c ≡ map (key_of k (mapping_of c.table)) (texts_of c)
    many-keys = rw known

    keys-many : length (many_keys c) ≡ length c.ends
    keys-many =
        ap length many-keys
        ∙ length-map (texts_of c) (key_of k (mapping_of c.table))
        ∙ length-strings c.octets c.ends

    -- "in key_ends where each of them ends": read by these ends, what stands in the store is the keys
    pub many_read : strings_in store (take (length c.ends) key_ends) ≡ many_keys c
    many_read =
        let ended : key_ends ≡ over (ends_from 0 (many_keys c)) c.key_ends = cc left in
        let ends : take (length c.ends) key_ends ≡ ends_from 0 (many_keys c) =
        ap (take (length c.ends)) ended
        ∙ take_at (ends_from 0 (many_keys c)) (drop (length (ends_from 0 (many_keys c))) c.key_ends) (length c.ends)
        (length-ends_from 0 (many_keys c) ∙ keys-many)
        in
        rw (many-stored.0, ends) (strings-stand (many_keys c) c.store passed.1)

    module _ (i : ℕ) (inside : i < length c.ends) where
      abbrev text : List ℕ
      text = key_in c.octets c.ends i

      -- the key of each text is its own, as `prepare` gives it,
      pub many-key : get_or (many_keys c) i [] ≡ key_of k (mapping_of c.table) (key_in c.octets c.ends i)
      many-key =
          ap (λ (ks : List (List ℕ)). get_or ks i []) many-keys
          ∙ made (texts_of c) i (omega (arith, length-strings c.octets c.ends))
          ∙ ap (key_of k (mapping_of c.table)) (string-at c.octets c.ends i inside)
        where
          made : (ts : List (List ℕ)) (j : ℕ) → j < length ts
              → get_or (map (key_of k (mapping_of c.table)) ts) j [] ≡ key_of k (mapping_of c.table) (get_or ts j [])
          made [] j h = absurd (omega arith)
          made (t ∷ ts) zero h = refl
          made (t ∷ ts) (suc j) h = made ts j (omega arith)

      -- "in valid 1 for each text that is valid else 0"
      pub many-valid : get_or valid i 0 ≡ truth (prepared k (mapping_of c.table) (key_in c.octets c.ends i)).valid
      many-valid =
          let value : List ℕ → ℕ = λ t. truth (prepared k (mapping_of c.table) t).valid in
          let checked : valid ≡ over (many_valid c) c.valid = cc left in
          let values : many_valid c ≡ map value (texts_of c) = rw known in
          ap (λ (s : List ℕ). get_or s i 0) (checked ∙ ap (λ (v : List ℕ). over v c.valid) values)
          ∙ get_or-append (map value (texts_of c)) (drop (length (map value (texts_of c))) c.valid) 0 i
          (omega (arith, length-map (texts_of c) value, length-strings c.octets c.ends))
          ∙ get_d_map value [] (texts_of c) i (omega (arith, length-strings c.octets c.ends))
          ∙ ap value (string-at c.octets c.ends i inside)

  -- demand 3: "Every preparation of such a text that reads the table, in a call that isn't refused, gives exactly the key of those
  -- steps"
  pub many-exact : c.collation ≡ Some UnicodeCasemap → (i : ℕ) → i < length c.ends → (chs : List Character)
      → characters (key_in c.octets c.ends i) ≡ Some chs
      → StepsGive (mapping_of c.table) chs (get_or (many_keys c) i []) (steps_lookups (mapping_of c.table) chs)
  many-exact known i inside chs e =
      let m = mapping_of c.table in
      let both = rw known at passed.0 in
      let ok : table_refusal c.table ≡ None = (or_else-neither (table_refusal c.table) _ both).0 in
      let steps : key_of UnicodeCasemap m (key_in c.octets c.ends i) ≡ steps_key m chs =
      ap (λ (o : Option (List Character)). (unicode_prepared m (key_in c.octets c.ends i) o).key) e
      in
      subst (λ (k : List ℕ). StepsGive m chs k (steps_lookups m chs)) (sym (many-key UnicodeCasemap known i inside ∙ steps))
      (accepted-steps c.table ok chs)

-- ---- keys: refusals

module _ {c : KeysCall} {r : Result Totals Refusal} {after : List (List ℕ)} (call : Matches c r after) where
  -- "Refusals 14, 36, 37, 8"
  pub match-refused : (x : Refusal) → (r ≡ Err x) ↔ FirstRule (keys_rules c) x
  match-refused x = (
    λ e. (keys-gives c x).0 (answer-refused (keys_refusal c) (matched_values c) x (rw e at call.answered)),
    λ w. matched_outcome-inj r (Err x) (rw ((keys-gives c x).1 w) at call.answered),
  )

  pub match-kept : (x : Refusal) → r ≡ Err x → after ≡ c.row ∷ c.repeats ∷ c.partners ∷ []
  match-kept x e = rw (answer-refused (keys_refusal c) (matched_values c) x (rw e at call.answered)) at call.left

-- ---- keys: a call that is not refused

-- which keys repeat: 1 exactly where there is a next one and it is the same, else 0
repeats-exactly : (ks : List (List ℕ)) (i : ℕ) → suc i < length ks
    → (get_or (repeated ks) i 0 ≡ 1) ↔ (get_or ks i [] ≡ get_or ks (suc i) [])
unfolding repeated
repeats-exactly [] i h = absurd (omega arith)
repeats-exactly (k ∷ []) i h = absurd (omega arith)
repeats-exactly (k ∷ q ∷ ks) zero h = go (same k q) refl
  where
    go : (b : Bool) → same k q ≡ b → (◌≡◌ {A = ℕ} (cond b 1 0) 1) ↔ (k ≡ q)
    go true e = (λ z. (same-exactly k q).0 e, λ z. refl)
    go false e = (λ z. absurd (omega (arith, z)), λ z. (let t : same k q ≡ true = (same-exactly k q).1 z in cc))
repeats-exactly (k ∷ q ∷ ks) (suc i) h = repeats-exactly (q ∷ ks) i (omega arith)

repeats-last : (ks : List (List ℕ)) (i : ℕ) → suc i ≡ length ks → get_or (repeated ks) i 0 ≡ 0
unfolding repeated
repeats-last [] i h = absurd (omega arith)
repeats-last (k ∷ []) zero h = refl
repeats-last (k ∷ []) (suc i) h = absurd (omega arith)
repeats-last (k ∷ q ∷ ks) zero h = absurd (omega arith)
repeats-last (k ∷ q ∷ ks) (suc i) h = repeats-last (q ∷ ks) i (omega arith)

module _ {c : KeysCall} {t : Totals} {row repeats partners : List ℕ}
    (call : Matches c (Ok t) (row ∷ repeats ∷ partners ∷ [])) where
  matched : keys_refusal c ≡ None
  matched = answer-given (keys_refusal c) (matched_values c) _ call.answered

  told : gives (t.equal_pairs ∷ t.partnered ∷ []) ≡ gives (matched_values c)
  told = rw matched at call.answered

  rows : row ∷ repeats ∷ partners ∷ [] ≡ rows_after None c
  rows = rw matched at call.left

  -- "equal pairs across the lists": over all pairs, as request 3 has it
  pub match-pairs : t.equal_pairs ≡ total (λ k. total (λ q. cond (same k q) 1 0) (second_keys c)) (first_keys c)
  match-pairs =
      let is : t.equal_pairs ≡ equal_pairs_of (first_keys c) (second_keys c) = cc told in
      is ∙ meaning.equal_pairs_of-all (first_keys c) (second_keys c)

  -- "names of the first list that have any partner"
  pub match-partnered : t.partnered ≡ length (those (λ k. not (empty (equal_to (second_keys c) k))) (first_keys c))
  unfolding partnered
  match-partnered = cc told

  partners-left : partners ≡ over (map (partner_of (second_keys c)) (first_keys c)) c.partners
  partners-left = cc rows

  -- "in partners, for each key of the first list in its turn, the lowest number in the second list, from 1, of a key that is
  -- equal to it, 0 if there is none"
  module _ (i : ℕ) (inside : i < length (first_keys c)) where
    pub match-no-partner : (get_or partners i 0 ≡ 0)
        ↔ ((j : ℕ) → j < length (second_keys c) → get_or (first_keys c) i [] ≡ get_or (second_keys c) j [] → ⊥)
    match-no-partner = partner-none (first_keys c) (second_keys c) c.partners partners partners-left i inside

    pub match-lowest-partner : (j : ℕ) → (get_or partners i 0 ≡ suc j)
        ↔ ((j < length (second_keys c)) × (get_or (first_keys c) i [] ≡ get_or (second_keys c) j [])
        × ((h : ℕ) → h < j → get_or (first_keys c) i [] ≡ get_or (second_keys c) h [] → ⊥))
    match-lowest-partner j = partner-lowest (first_keys c) (second_keys c) c.partners partners partners-left i inside j

  -- "in row the numbers of all keys, from 1, in the order of the keys, equal ones in the order of their numbers"
  pub match-row : row ≡ over (key_positions (both_keys c)) c.row
  match-row = cc rows

  -- each number once,
  pub match-row-once : (x : ℕ) → x < length (both_keys c)
      → those (eqb (suc x)) (take (length (both_keys c)) row) ≡ suc x ∷ []
  match-row-once x h = positions-once (both_keys c) c.row row match-row x h

  -- no other,
  pub match-row-within : (i : ℕ) → i < length (both_keys c) → (0 < get_or row i 0) × (get_or row i 0 ≤ length (both_keys c))
  match-row-within i h = positions-bounded (both_keys c) c.row row match-row i h

  -- ascending by key,
  pub match-row-ascends : (i j : ℕ) → i < j → j < length (both_keys c)
      → order_of (get_or (both_keys c) (get_or row i 0 - 1) []) (get_or (both_keys c) (get_or row j 0 - 1) []) ≡ Ordering.gt
      → ⊥
  match-row-ascends i j h k = positions-rise (both_keys c) c.row row match-row i j h k

  -- ties by number, so that of equal keys the first list's come before the second's
  pub match-row-ties : (i j : ℕ) → i < j → j < length (both_keys c)
      → get_or (both_keys c) (get_or row i 0 - 1) [] ≡ get_or (both_keys c) (get_or row j 0 - 1) []
      → get_or row i 0 < get_or row j 0
  match-row-ties i j h k = positions-tied (both_keys c) c.row row match-row i j h k

  -- "in repeats, for each place of the row, 1 if the key at the next place is equal to the one there, else 0"
  repeats-left : repeats ≡ over (repeated (in_order (both_keys c))) c.repeats
  repeats-left = cc rows

  order-long : length (in_order (both_keys c)) ≡ length (both_keys c)
  order-long = length-map (key_positions (both_keys c)) (λ p. get_or (both_keys c) (p - 1) []) ∙ meaning.length-key_positions (both_keys c)

  repeat-at : (i : ℕ) → i < length (both_keys c) → get_or repeats i 0 ≡ get_or (repeated (in_order (both_keys c))) i 0
  repeat-at i h =
      ap (λ (s : List ℕ). get_or s i 0) repeats-left
      ∙ get_or-append (repeated (in_order (both_keys c)))
      (drop (length (repeated (in_order (both_keys c)))) c.repeats) 0 i
      (omega (arith, length-repeated (in_order (both_keys c)), order-long))

  pub match-repeats : (i : ℕ) → suc i < length (both_keys c)
      → (get_or repeats i 0 ≡ 1) ↔ (get_or (in_order (both_keys c)) i [] ≡ get_or (in_order (both_keys c)) (suc i) [])
  match-repeats i h =
      rw (repeat-at i (omega arith)) (repeats-exactly (in_order (both_keys c)) i (omega (arith, order-long)))

  pub match-repeats-last : (i : ℕ) → suc i ≡ length (both_keys c) → get_or repeats i 0 ≡ 0
  match-repeats-last i h = repeat-at i (omega arith) ∙ repeats-last (in_order (both_keys c)) i (omega (arith, order-long))

-- ---- "the keys of both as mz_prepare_many leaves them"

map-append : {A B : Type 0} (f : A → B) (xs ys : List A) → map f (xs ++ ys) ≡ map f xs ++ map f ys
map-append f [] ys = refl
map-append {B = B} f (x ∷ xs) ys = ap (λ (t : List B). f x ∷ t) (map-append f xs ys)

-- two lists joined, of which the first parts are as long, are the same part by part
append-split : {A : Type 0} (us xs : List A) {bs ys : List A} → length us ≡ length xs → us ++ bs ≡ xs ++ ys
    → (us ≡ xs) × (bs ≡ ys)
append-split [] [] n e = (refl, e)
append-split [] (x ∷ xs) n e = absurd (omega (arith, n))
append-split (u ∷ us) [] n e = absurd (omega (arith, n))
append-split {A} (u ∷ us) (x ∷ xs) {bs} {ys} n e =
    let head : u ≡ x = cc in
    let rest : us ++ bs ≡ xs ++ ys = cc in
    let tails = append-split us xs (omega arith) rest in
    (ap₂ (λ (y : A) (t : List A). y ∷ t) head tails.0, tails.1)

-- over what `prepare_many` left of the texts of both lists, the keys are those of their names: the totals are those of the names
pub match-prepared : (k : Collation) (m : Mapping) (ts us : List (List ℕ)) (c : KeysCall)
    → strings_in c.store c.ends ≡ map (key_of k m) (ts ++ us)
    → c.first_names ≡ length ts
    → (first_keys c ≡ map (key_of k m) ts) × (second_keys c ≡ map (key_of k m) us)
match-prepared k m ts us c e f =
    let both : length c.ends ≡ length ts + length us =
    sym (length-strings c.store c.ends)
    ∙ ap length e
    ∙ length-map (ts ++ us) (key_of k m)
    ∙ length-append ts us
    in
    let key = key_in c.store c.ends in
    let all : map key (numbers 0 (length ts + length us)) ≡ map (key_of k m) ts ++ map (key_of k m) us =
    ap (λ (n : ℕ). map key (numbers 0 n)) (sym both) ∙ e ∙ map-append (key_of k m) ts us
    in
    let parts = ap (map key) (numbers-append 0 (length ts) (length us))
    ∙ map-append key (numbers 0 (length ts)) (numbers (0 + length ts) (length us))
    in
    let rest : length c.ends - length ts ≡ length us = omega arith in
    let from : 0 + length ts ≡ length ts = omega arith in
    let long : length (map key (numbers 0 (length ts))) ≡ length (map (key_of k m) ts) =
    length-map (numbers 0 (length ts)) key ∙ length-numbers 0 (length ts) ∙ sym (length-map ts (key_of k m))
    in
    let split = append-split (map key (numbers 0 (length ts))) (map (key_of k m) ts) long (sym parts ∙ all) in (
      ap (λ (n : ℕ). map key (numbers 0 n)) f ∙ split.0,
      ap (λ (n : ℕ). map key (numbers n (length c.ends - n))) f
          ∙ ap₂ (λ (a b : ℕ). map key (numbers a b)) (sym from) rest
          ∙ split.1,
    )
