-- Document 02, request 3 (which names two lists share), its sentences on refusals, each with the theorems that render it;
-- they take what those of Request03.antt take.
-- Assumes nothing.
use Rattle.std.specs.Prelude.{Err}
use mathlib.Core.Path.{◌≡◌, refl}
use Prim.Native.Nat.{ℕ, ◌<◌}
use native.Mathlib.Omega.{arith}
use mathlib.Core.Logic.Iff
use mathlib.Core.Logic.{◌⊎◌, ◌↔◌, true-and}
use Rattle.std.specs.Prelude.{None, Some}
use mathlib.Core.List.{List, [], ◌∷◌}
use lib.ListN.{length}
use Rattle.terms.specs.Refusals.{refusal}
use Rattle.terms.specs.declared.Refusal.{Refusal}
use Rattle.terms.proofs.Checks.{answer-refused}
use Rattle.records.specs.Items.{list_rules}
use Rattle.records.specs.Reading.{body_in, stopped, read_at}
use Rattle.lists.specs.Names.{names_in, list_fault}
use Rattle.lists.specs.Lists.{ListsCall, lists_refusal, shared_values}
use Rattle.lists.specs.Lists.{Shared}
use Rattle.lists.proofs.Injective.{shared_outcome-inj}
use Rattle.demands.specs.Faults.{Clear, FirstFault, plain}
use Rattle.demands.specs.Records.{TooFew, following_at, fault11}
use Rattle.demands.specs.Lists.{ShareCall, Names, Faulty, NoText, list_faults, ListsRefused}
use Rattle.demands.proofs.FaultRows.{plain_at}
use Rattle.demands.proofs.ListFaults.{names-are, faulty-is, names-there, faulty-there, list-row, list-numbers}
use Rattle.demands.proofs.ListCalls.{refused-words, words-refused}

-- ---- "order 1, then 11 to 13 on the first list, .. and on the second .., 14 .., the table's 3 to 7, 8 for the store .., then 8 for
-- either array"

module _ {c : ListsCall} {r : Shared} {after : List (List ℕ)} (call : ShareCall c r after) where
  -- a call is refused exactly when one of these is so, each where those before it are not, with that number, place and detail
  pub shared-refused : (x : Refusal) → (r ≡ Err x) ↔ ListsRefused c x
  shared-refused x = (
    λ e. words-refused c x (answer-refused (lists_refusal c) (shared_values c) x (rw e at call.answered)),
    λ w. shared_outcome-inj r (Err x) (rw (refused-words c x w) at call.answered),
  )

  -- "On refusal .. no lent buffer changes" (demand 1)
  pub shared_kept : (x : Refusal) → r ≡ Err x → after ≡ c.store ∷ c.partners ∷ c.positions ∷ []
  shared_kept x e =
      rw (answer-refused (lists_refusal c) (shared_values c) x (rw e at call.answered)) at call.left

-- ---- "11 to 13 .., record by record"

-- a list has these names exactly when it has no refusal and these are its names
pub list-names : (list : List ℕ) (ts : List (List ℕ)) → ((list_fault list ≡ None) × (names_in list ≡ ts)) ↔ Names list 0 ts
list-names list ts = (
  λ e. rw (← e.1) (names-there list e.0),
  λ n. let a = names-are n (omega arith) in (a.1, a.0),
)

-- and a refusal exactly when a record has it, and those before it are names
pub list-faulty : (list : List ℕ) (x : Refusal) → (list_fault list ≡ Some x) ↔ Faulty list 0 x
list-faulty list x = (λ e. faulty-there list x e, λ f. faulty-is f (omega arith))

module _ (list : List ℕ) (p : ℕ) (inside : p ≡ length list → ⊥) where
  -- one record: the first of 11, 12 and 13
  pub listed-first : (n d : ℕ) → (read_at list_rules list p ≡ stopped (refusal n 0 d)) ↔ FirstFault (list_faults list p) n d
  listed-first n d = list-row list p inside n d

  -- 11 exactly when "fewer octets [are] left than four or than the length says, or a length below 2"
  pub listed-11 : (read_at list_rules list p ≡ stopped (refusal 11 0 0)) ↔ TooFew list p
  listed-11 =
      Iff.trans (listed-first 11 0) (Iff.trans (plain_at (list_faults list p) 0 11 (TooFew list p) refl refl refl) true-and)

  -- 12 exactly when not 11, and the record is no text: "a kind 2 record is 12", whatever its body
  pub listed-12 : (read_at list_rules list p ≡ stopped (refusal 12 0 0)) ↔ (Clear (fault11 list p ∷ []) × NoText list p)
  listed-12 = Iff.trans (listed-first 12 0) (plain_at (list_faults list p) 1 12 (NoText list p) refl refl refl)

  -- 13 exactly when not 11 or 12, and the text is over the limit
  pub listed-13 : (read_at list_rules list p ≡ stopped (refusal 13 0 0))
      ↔ (Clear (fault11 list p ∷ plain 12 (NoText list p) ∷ []) × (4096 < length (body_in (following_at list p))))
  listed-13 =
      Iff.trans (listed-first 13 0)
      (plain_at (list_faults list p) 2 13 (4096 < length (body_in (following_at list p))) refl refl refl)

-- a record of a list has no other refusal
pub listed-refusals : (list : List ℕ) (p : ℕ) (y : Refusal) → read_at list_rules list p ≡ stopped y
    → (y ≡ refusal 11 0 0) ⊎ (y ≡ refusal 12 0 0) ⊎ (y ≡ refusal 13 0 0)
listed-refusals list p y e = list-numbers list p y e
