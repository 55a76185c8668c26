-- A row of checks that renders a row of rules gives the refusal of the first that applies; and the rows of the bulk calls.
-- Assumes nothing.
use mathlib.Core.Path.{◌≡◌, refl, sym, ap, ◌∙◌}
use Prim.Native.Nat.{ℕ, ◌-◌, ◌<◌}
use mathlib.Core.Bool.{Bool, true, false, not, ◌||◌, true≢false}
use mathlib.Core.Logic.{◌⊎◌, inl, inr, ◌↔◌}
use Rattle.std.specs.Prelude.{Option, None, Some}
use mathlib.Core.List.{List, [], ◌∷◌}
use lib.Dec.{ltb}
use lib.ListN.{length, get_or}
use Rattle.terms.specs.Lists.{lowest, there}
use Rattle.terms.specs.Refusals.{refusal, check, first}
use Rattle.terms.specs.declared.Collation.{Collation}
use Rattle.terms.specs.declared.Refusal.{Refusal}
use Rattle.terms.proofs.Checks.{or_else-assoc, or_else-none}
use Rattle.terms.proofs.Tests.{none-some}
use Rattle.prepare.specs.Calls.{table_check, pages_check, collation_check}
use Rattle.sorting.specs.KeyOrder.{start_of}
use Rattle.storing.specs.Ends.{string_at, faulty_end, ends_refusal}
use Rattle.storing.specs.Rooms.{store_check, arrays_check}
use Rattle.storing.specs.Stored.{joined}
use Rattle.many.specs.Many.{ManyCall, many_keys, long_text, many_refusal}
use Rattle.matching.specs.Matching.{KeysCall, keys_checked, keys_refusal}
use Rattle.demands.specs.Faults.{LowestAt}
use Rattle.demands.specs.Bulk.{Rule, ruled, ruled_at, FirstRule, rule_too_many, rule_end, many_rules, keys_rules}
use Rattle.demands.proofs.Reflect.{ltb-exactly, or-exactly, lowest-exactly}

-- ---- one check

-- a check gives exactly the refusals of its rule
abbrev pub Gives : Option Refusal → Rule → Type 0
Gives c r = (x : Refusal) → (c ≡ Some x) ↔ r x

some_same : {x y : Refusal} → Some x ≡ Some y → x ≡ y
some_same e = cc

-- by a test
pub gives-check : (b : Bool) (n p d : ℕ) {A : Type 0} → (b ≡ true) ↔ A → Gives (check b n p d) (ruled n p d A)
gives-check true n p d h x = (λ e. (sym (some_same e), h.0 refl), λ a. ap Some (sym a.0))
gives-check false n p d h x = (λ e. absurd (none-some x e), λ a. absurd (true≢false (sym (h.1 a.1))))

-- by the lowest number at fault
pub gives_at : (n : ℕ) (o : Option ℕ) {holds : ℕ → Type 0} {bound : ℕ} → ((i : ℕ) → (o ≡ Some i) ↔ LowestAt holds bound i)
    → Gives (string_at n o) (ruled_at n holds bound)
gives_at n None h x = (λ e. absurd (none-some x e), λ a. absurd (none-some a.0 ((h a.0).1 a.2)))
gives_at n (Some i) h x = (
  λ e. (i, sym (some_same e), (h i).0 refl),
  λ a. let is : Some i ≡ Some a.0 = (h a.0).1 a.2 in let same : i ≡ a.0 = cc in ap Some (ap (refusal n 1) same ∙ sym a.1),
)

-- ---- a row

abbrev pub GivesEach : List (Option Refusal) → List Rule → Type 0
GivesEach [] [] = Unit {0}
GivesEach [] (r ∷ rs) = ⊥
GivesEach (c ∷ cs) [] = ⊥
GivesEach (c ∷ cs) (r ∷ rs) = Gives c r × GivesEach cs rs

-- the first check that applies is that of the first rule that does
pub gives-first : (cs : List (Option Refusal)) (rs : List Rule) → GivesEach cs rs → Gives (first cs) (FirstRule rs)
gives-first [] [] g x = (λ e. absurd (none-some x e), λ a. absurd a)
gives-first [] (r ∷ rs) g x = absurd g
gives-first (c ∷ cs) [] g x = absurd g
gives-first (None ∷ cs) (r ∷ rs) g x =
    let rest = gives-first cs rs g.1 x in
    (λ e. inr (λ y a. none-some y ((g.0 y).1 a), rest.0 e), later rest.1)
  where
    later : (FirstRule rs x → first cs ≡ Some x) → FirstRule (r ∷ rs) x → first cs ≡ Some x
    later rest (inl a) = absurd (none-some x ((g.0 x).1 a))
    later rest (inr a) = rest a.1
gives-first (Some y ∷ cs) (r ∷ rs) g x = (λ e. inl ((g.0 x).0 e), here)
  where
    here : FirstRule (r ∷ rs) x → Some y ≡ Some x
    here (inl a) = (g.0 x).1 a
    here (inr a) = absurd (a.0 y ((g.0 y).0 refl))

-- ---- the rows

too_many : (ends : List ℕ) → Gives (check (ltb 4294967295 (length ends)) 14 1 0) (rule_too_many ends)
too_many ends = gives-check (ltb 4294967295 (length ends)) 14 1 0 (ltb-exactly 4294967295 (length ends))

wrong-end : (octets : ℕ) (ends : List ℕ)
    → Gives (string_at 36 (lowest (faulty_end octets ends) (length ends))) (rule_end octets ends)
wrong-end octets ends =
    gives_at 36 (lowest (faulty_end octets ends) (length ends))
    (lowest-exactly (faulty_end octets ends)
    (λ i.
    or-exactly (ltb octets (get_or ends i 0)) (ltb (get_or ends i 0) (start_of ends i)) (ltb-exactly octets (get_or ends i 0))
    (ltb-exactly (get_or ends i 0) (start_of ends i)))
    (length ends))

arrays : (one two n : ℕ) → Gives (arrays_check one two n) (ruled 8 0 n ((one < n) ⊎ (two < n)))
arrays one two n =
    gives-check (ltb one n || ltb two n) 8 0 n (or-exactly (ltb one n) (ltb two n) (ltb-exactly one n) (ltb-exactly two n))

room : (one n : ℕ) → Gives (store_check one n) (ruled 8 0 n (one < n))
room one n = gives-check (ltb one n) 8 0 n (ltb-exactly one n)

unnamed : (o : Option Collation) → (not (there o) ≡ true) ↔ (o ≡ None)
unnamed None = (λ e. refl, λ e. refl)
unnamed (Some k) = (λ e. absurd (true≢false (sym e)), λ e. absurd (none-some k (sym e)))

module _ (c : ManyCall) where
  -- its checks as one row
  abbrev many_row : List (Option Refusal)
  many_row =
      collation_check c.collation
      ∷ check (ltb 4294967295 (length c.ends)) 14 1 0
      ∷ string_at 36 (lowest (faulty_end (length c.octets) c.ends) (length c.ends))
      ∷ string_at 2 (lowest (long_text c.ends) (length c.ends))
      ∷ table_check c.collation c.table
      ∷ pages_check c.collation c.pages
      ∷ store_check (length c.store) (length (joined (many_keys c)))
      ∷ arrays_check (length c.key_ends) (length c.valid) (length c.ends)
      ∷ []

  many-row : many_refusal c ≡ first many_row
  unfolding many_refusal ends_refusal
  many-row = simp (or_else-assoc, or_else-none)

  -- refused in words
  pub many-gives : Gives (many_refusal c) (FirstRule (many_rules c))
  many-gives =
      rw many-row
      (gives-first many_row (many_rules c) (
        gives-check (not (there c.collation)) 1 0 0 (unnamed c.collation),
        (
          too_many c.ends,
          (
            wrong-end (length c.octets) c.ends,
            (
              gives_at 2 (lowest (long_text c.ends) (length c.ends))
                  (lowest-exactly (long_text c.ends) (λ i. ltb-exactly 4096 (get_or c.ends i 0 - start_of c.ends i))
                  (length c.ends)),
              (
                λ x. (λ e. e, λ e. e),
                (
                  λ x. (λ e. e, λ e. e),
                  (
                    room (length c.store) (length (joined (many_keys c))),
                    (arrays (length c.key_ends) (length c.valid) (length c.ends), tt),
                  ),
                ),
              ),
            ),
          ),
        ),
      ))

module _ (c : KeysCall) where
  abbrev keys_row : List (Option Refusal)
  keys_row =
      check (ltb 4294967295 (length c.ends)) 14 1 0
      ∷ string_at 36 (lowest (faulty_end (length c.store) c.ends) (length c.ends))
      ∷ check (ltb (length c.ends) c.first_names) 37 0 (length c.ends)
      ∷ arrays_check (length c.row) (length c.repeats) (length c.ends)
      ∷ store_check (length c.partners) c.first_names
      ∷ []

  keys-row : keys_refusal c ≡ first keys_row
  unfolding keys_checked ends_refusal
  keys-row = simp (or_else-assoc, or_else-none)

  pub keys-gives : Gives (keys_refusal c) (FirstRule (keys_rules c))
  keys-gives =
      rw keys-row
      (gives-first keys_row (keys_rules c) (
        too_many c.ends,
        (
          wrong-end (length c.store) c.ends,
          (
            gives-check (ltb (length c.ends) c.first_names) 37 0 (length c.ends)
                (ltb-exactly (length c.ends) c.first_names),
            (
              arrays (length c.row) (length c.repeats) (length c.ends),
              (room (length c.partners) c.first_names, tt),
            ),
          ),
        ),
      ))
