-- Lists by their definitions and in words: the names of a list and its first record that is refused, and the three numbers that
-- such a record can have.
-- Assumes nothing.
use mathlib.Core.Path.{◌≡◌, refl, sym, ap, ◌∙◌}
use Prim.Native.Nat.{ℕ, zero, suc, ◌-◌, ◌≤◌, ◌<◌}
use native.Mathlib.Omega.{arith}
use native.Mathlib.Decide.{ℕ_discrete}
use mathlib.Core.Bool.{Bool, true, false, not}
use mathlib.Core.Logic.{◌⊎◌, ◌↔◌}
use Rattle.std.specs.Prelude.{Option, None, Some}
use mathlib.Core.List.{List, [], ◌∷◌}
use lib.Dec.{leb, ltb, eqb}
use lib.ListN.{length, drop}
use borrow.Author.Tests.{leb-true, leb-false, lt-ltb, le-ltb, eq-eqb, ne_eqb}
use Rattle.terms.specs.Refusals.{refusal, check, first}
use Rattle.terms.specs.declared.Refusal.{Refusal}
use Rattle.terms.proofs.Tests.{none-some}
use Rattle.records.specs.Items.{list_rules, of_text, of_key, among}
use Rattle.records.specs.Reading.{Reading, end, stopped, item, short, following, kind_in, body_in, item_in, judged}
use Rattle.records.specs.Reading.{read_following, read_rest, read_at}
use Rattle.records.proofs.Framing.{read_rest-short, read_rest-whole, read_at-end, read_at-ends, read_at-rest}
use Rattle.records.proofs.Judging.{reads_known, reads-unknown}
use Rattle.records.proofs.Steps.{read_at-next, listed-key}
use Rattle.lists.specs.Names.{names_from, names_in, fault_from, list_fault}
use Rattle.lists.proofs.Steps.{names-end, fault-end, names-name, fault-name, fault-stopped}
use Rattle.demands.specs.Faults.{FirstFault}
use Rattle.demands.specs.Lists.{Names, no_more, one_more, Faulty, here, later, list_faults}
use Rattle.demands.proofs.Reflect.{ltb-exactly, eqb-exactly, not-exactly}
use Rattle.demands.proofs.FaultRows.{renders-plain, row-exactly}
use Rattle.demands.proofs.RecordFaults.{few-exactly, refusal_of, stopped-exactly, three}

-- ---- names and the first refusal

-- a list of these names has these, and no refusal
pub names-are : {list : List ℕ} {p : ℕ} {ts : List (List ℕ)} → Names list p ts → p ≤ length list
    → (names_from list p ≡ ts) × (fault_from list p ≡ None)
names-are {list} {p} (no_more e) h = (names-end list p e, fault-end list p e)
names-are {list} {p} (one_more {next = next} {t = t} e rest) h =
    let n = read_at-next list_rules list p next (of_text t) e in
    let r = names-are rest n.1 in (
      names-name list p h t next e ∙ ap (λ (us : List (List ℕ)). t ∷ us) r.0,
      fault-name list p h (of_text t) next e ∙ r.1,
    )

-- the first record that is refused
pub faulty-is : {list : List ℕ} {p : ℕ} {x : Refusal} → Faulty list p x → p ≤ length list → fault_from list p ≡ Some x
faulty-is {list} {p} {x} (here e) h = fault-stopped list p h x e
faulty-is {list} {p} {x} (later {next = next} {t = t} e rest) h =
    fault-name list p h (of_text t) next e ∙ faulty-is rest (read_at-next list_rules list p next (of_text t) e).1

-- what is so of a list from a position on
abbrev Read : List ℕ → ℕ → Type 0
Read list p =
    (fault_from list p ≡ None → Names list p (names_from list p)) × ((x : Refusal) → fault_from list p ≡ Some x → Faulty list p x)

read_by : (list : List ℕ) (p : ℕ) → p ≤ length list → ((next : ℕ) → p < next → next ≤ length list → Read list next)
    → (v : Reading) → read_at list_rules list p ≡ v
    → Read list p
read_by list p h rest end e =
    let last = read_at-ends list_rules list p e in (
      λ f. rw (names-end list p last) (no_more last),
      λ x f. absurd (none-some x (sym (fault-end list p last) ∙ f)),
    )
read_by list p h rest (stopped y) e =
    let is = fault-stopped list p h y e in (
      λ f. absurd (none-some y (sym f ∙ is)),
      λ x f. let same : Some y ≡ Some x = sym is ∙ f in here (e ∙ (let z : y ≡ x = cc in ap stopped z)),
    )
read_by list p h rest (item (of_key f k) next) e = absurd (listed-key list p next f k e)
read_by list p h rest (item (of_text t) next) e =
    let n = read_at-next list_rules list p next (of_text t) e in
    let r = rest next (omega (arith, n.0)) n.1 in
    let on = fault-name list p h (of_text t) next e in (
      λ f. rw (names-name list p h t next e) (one_more e (r.0 (sym on ∙ f))),
      λ x f. later e (r.1 x (sym on ∙ f)),
    )

-- by how much of it is left
read_all : (n : ℕ) (list : List ℕ) (p : ℕ) → p ≤ length list → length list - p ≤ n → Read list p
read_all zero list p h k =
    read_by list p h (λ next a b. absurd (omega arith)) (read_at list_rules list p) refl
read_all (suc n) list p h k =
    read_by list p h (λ next a b. read_all n list next b (omega arith)) (read_at list_rules list p) refl

-- a list without a refusal has its names, and one with a refusal the record that has it
pub names-there : (list : List ℕ) → list_fault list ≡ None → Names list 0 (names_in list)
names-there list e = (read_all (length list) list 0 (omega arith) (omega arith)).0 e

pub faulty-there : (list : List ℕ) (x : Refusal) → list_fault list ≡ Some x → Faulty list 0 x
faulty-there list x e = (read_all (length list) list 0 (omega arith) (omega arith)).1 x e

-- ---- 11, 12 and 13 of one record

text-refusal : (next : ℕ) (body : List ℕ)
    → refusal_of (judged list_rules next (item_in 1 body)) ≡ first (check (ltb 4096 (length body)) 13 0 0 ∷ [])
text-refusal next body = go (leb (length body) 4096) refl
  where
    go : (b : Bool) → leb (length body) 4096 ≡ b
        → refusal_of (judged list_rules next (item_in 1 body)) ≡ first (check (ltb 4096 (length body)) 13 0 0 ∷ [])
    go true e = rw (e, le-ltb 4096 (length body) (leb-true (length body) 4096 e))
    go false e = rw (e, lt-ltb 4096 (length body) (leb-false (length body) 4096 e))

abbrev following_checks : List ℕ → List (Option Refusal)
following_checks octets =
    check (not (eqb (kind_in octets) 1)) 12 0 0 ∷ check (ltb 4096 (length (body_in octets))) 13 0 0 ∷ []

following-refusal : (next : ℕ) (octets : List ℕ) → refusal_of (read_following list_rules next octets) ≡ first
    (following_checks octets)
following-refusal next octets = go (ℕ_discrete (kind_in octets) 1)
  where
    go : Dec (kind_in octets ≡ 1) → refusal_of (read_following list_rules next octets) ≡ first (following_checks octets)
    go (yes e) =
        ap refusal_of (reads_known list_rules next octets 1 refl e)
        ∙ rw (eq-eqb (kind_in octets) 1 e) (text-refusal next (body_in octets))
    go (no a) =
        let unknown : among (kind_in octets) list_rules.kinds ≡ false = rw (ne_eqb (kind_in octets) 1 a) in
        ap refusal_of (reads-unknown list_rules next octets unknown) ∙ rw (ne_eqb (kind_in octets) 1 a)

rest-refusal : (p : ℕ) (rest : List ℕ)
    → refusal_of (read_rest list_rules p rest) ≡ first (check (short rest) 11 0 0 ∷ following_checks (following rest))
rest-refusal p rest = go (short rest) refl
  where
    go : (b : Bool) → short rest ≡ b
        → refusal_of (read_rest list_rules p rest) ≡ first (check (short rest) 11 0 0 ∷ following_checks (following rest))
    go true e = ap refusal_of (read_rest-short list_rules p rest e) ∙ rw e
    go false e = ap refusal_of (read_rest-whole list_rules p rest e) ∙ rw e (following-refusal _ (following rest))

-- a record of a list is refused with the first fault of the row
pub list-row : (s : List ℕ) (p : ℕ) → (p ≡ length s → ⊥) → (n d : ℕ)
    → (read_at list_rules s p ≡ stopped (refusal n 0 d)) ↔ FirstFault (list_faults s p) n d
list-row s p inside n d =
    let rest = drop p s in
    let octets = following rest in
    let is = ap refusal_of (read_at-rest list_rules s p inside) ∙ rest-refusal p rest in
    let row =
    row-exactly (check (short rest) 11 0 0 ∷ following_checks octets) (list_faults s p) (
      renders-plain (short rest) 11 (few-exactly s p),
      (
        renders-plain (not (eqb (kind_in octets) 1)) 12 (not-exactly (eqb (kind_in octets) 1) (eqb-exactly (kind_in octets) 1)),
        (renders-plain (ltb 4096 (length (body_in octets))) 13 (ltb-exactly 4096 (length (body_in octets))), tt),
      ),
    )
    n
    d
    in
    let h = stopped-exactly (read_at list_rules s p) (refusal n 0 d) in
    (λ e. row.0 (sym is ∙ h.0 e), λ f. h.1 (is ∙ row.1 f))

-- it has one of the three numbers, with place and detail 0
pub list-numbers : (s : List ℕ) (p : ℕ) (y : Refusal) → read_at list_rules s p ≡ stopped y
    → (y ≡ refusal 11 0 0) ⊎ (y ≡ refusal 12 0 0) ⊎ (y ≡ refusal 13 0 0)
list-numbers s p y e = go (ℕ_discrete p (length s))
  where
    go : Dec (p ≡ length s) → (y ≡ refusal 11 0 0) ⊎ (y ≡ refusal 12 0 0) ⊎ (y ≡ refusal 13 0 0)
    go (yes f) = absurd (none-some y (ap refusal_of (sym (read_at-end list_rules s p f) ∙ e)))
    go (no f) =
        let octets = following (drop p s) in
        three (short (drop p s)) (not (eqb (kind_in octets) 1)) (ltb 4096 (length (body_in octets))) y
        (sym (ap refusal_of (read_at-rest list_rules s p f) ∙ rest-refusal p (drop p s)) ∙ ap refusal_of e)
