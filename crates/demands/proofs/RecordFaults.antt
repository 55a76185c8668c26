-- The checks of records render their faults: 11, 12 and 13 of reading, 13 and 8 of writing, in words.
-- Assumes nothing.
use mathlib.Core.Path.{◌≡◌, refl, sym, ap, ◌∙◌}
use Prim.Native.Nat.{ℕ, ◌-◌}
use native.Mathlib.Decide.{ℕ_discrete}
use mathlib.Core.Bool.{Bool, true, false, not, ◌&&◌, ◌||◌, or-false}
use mathlib.Core.Logic.{◌⊎◌, inl, inr, ◌↔◌}
use Rattle.std.specs.Prelude.{Option, None, Some}
use mathlib.Core.List.{List, [], ◌∷◌}
use lib.Dec.{leb, ltb, eqb}
use lib.ListN.{length, drop, length-drop}
use borrow.Author.Tests.{ltb-true, ltb-false, leb-true, leb-false, lt-ltb, le-ltb, le-leb, ne_eqb}
use Rattle.terms.specs.Refusals.{refusal, check, first}
use Rattle.terms.specs.declared.Refusal.{Refusal}
use Rattle.terms.proofs.Tests.{none-some}
use Rattle.records.specs.Items.{rules, Item, among, key_fits, fits, record_of}
use Rattle.records.specs.Reading.{Reading, end, stopped, item, said_length, short, following, kind_in, body_in, fields_in, item_in}
use Rattle.records.specs.Reading.{judged, read_following, read_rest, read_at}
use Rattle.records.specs.Writing.{writing_checks, writing_refusal}
use Rattle.records.proofs.Framing.{read_rest-short, read_rest-whole, read_at-end, read_at-rest}
use Rattle.records.proofs.Judging.{judged-short, judged-key, judged-unfit, reads_known, reads-unknown}
use Rattle.demands.specs.Faults.{FirstFault}
use Rattle.demands.specs.Records.{TooFew, WrongBody, read_faults, write_faults}
use Rattle.demands.proofs.Reflect.{leb-exactly, ltb-exactly, eqb-exactly, and-exactly, or-exactly, or3-exactly}
use Rattle.demands.proofs.Reflect.{not-exactly, nor-exactly}
use Rattle.demands.proofs.FaultRows.{renders-plain, renders-check, row-exactly}
use Rattle.demands.proofs.KeyFaults.{key-exactly, item-exactly}

-- ---- writing: 13, 8

pub write-row : (i : Item) (p m n d : ℕ) → (writing_refusal i p m ≡ Some (refusal n 0 d)) ↔ FirstFault (write_faults i p m) n d
write-row i p m n d =
    row-exactly (writing_checks rules i p m) (write_faults i p m) (
      renders-plain (not (fits rules i)) 13 (item-exactly i),
      (
        renders-check (ltb (m - p) (length (record_of i))) 8 (length (record_of i)) (ltb-exactly (m - p) (length
            (record_of i))),
        tt,
      ),
    )
    n
    d

-- ---- reading: 11, 12, 13

-- 13 of a kind and a body, as a test
abbrev wrong_body : ℕ → List ℕ → Bool
wrong_body kind body =
    (eqb kind 1 && ltb 4096 (length body))
    || (eqb kind 2 && (ltb (length body) 4 || (leb 4 (length body) && not (key_fits rules (fields_in body) (length body - 4)))))

body-exactly : (kind : ℕ) (body : List ℕ) → (wrong_body kind body ≡ true) ↔ WrongBody kind body
body-exactly kind body =
    let n = length body in
    let unfit = not (key_fits rules (fields_in body) (n - 4)) in
    or-exactly (eqb kind 1 && ltb 4096 n) (eqb kind 2 && (ltb n 4 || (leb 4 n && unfit)))
    (and-exactly (eqb kind 1) (ltb 4096 n) (eqb-exactly kind 1) (ltb-exactly 4096 n))
    (and-exactly (eqb kind 2) (ltb n 4 || (leb 4 n && unfit)) (eqb-exactly kind 2)
    (or-exactly (ltb n 4) (leb 4 n && unfit) (ltb-exactly n 4)
    (and-exactly (leb 4 n) unfit (leb-exactly 4 n) (key-exactly (fields_in body) (n - 4)))))

-- 12
kind-exactly : (kind : ℕ) → (not (among kind rules.kinds) ≡ true) ↔ ((kind ≡ 1 → ⊥) × (kind ≡ 2 → ⊥))
kind-exactly kind =
    nor-exactly (eqb kind 1) (eqb kind 2 || false) (eqb-exactly kind 1)
    (not-exactly (eqb kind 2 || false) (rw (or-false (eqb kind 2)) (eqb-exactly kind 2)))

-- 11
pub few-exactly : (s : List ℕ) (p : ℕ) → (short (drop p s) ≡ true) ↔ TooFew s p
unfolding short
few-exactly s p =
    let n = said_length (drop p s) in
    rw (length-drop p s)
    (or3-exactly (ltb (length s - p) 4) (ltb (length s - p - 4) n) (ltb n 2) (ltb-exactly (length s - p) 4)
    (ltb-exactly (length s - p - 4) n) (ltb-exactly n 2))

-- ---- the row of reading

-- the refusal that reading gives, if it is one
abbrev pub refusal_of : Reading → Option Refusal
refusal_of end = None
refusal_of (stopped x) = Some x
refusal_of (item i n) = None

-- of a text
text-refusal : (next : ℕ) (body : List ℕ)
    → refusal_of (judged rules next (item_in 1 body)) ≡ first (check (wrong_body 1 body) 13 0 0 ∷ [])
text-refusal next body = go (leb (length body) 4096) refl
  where
    go : (b : Bool) → leb (length body) 4096 ≡ b
        → refusal_of (judged rules next (item_in 1 body)) ≡ first (check (wrong_body 1 body) 13 0 0 ∷ [])
    go true e = rw (e, le-ltb 4096 (length body) (leb-true (length body) 4096 e))
    go false e = rw (e, lt-ltb 4096 (length body) (leb-false (length body) 4096 e))

-- of a key
key-refusal : (next : ℕ) (body : List ℕ)
    → refusal_of (judged rules next (item_in 2 body)) ≡ first (check (wrong_body 2 body) 13 0 0 ∷ [])
key-refusal next body = go (ltb (length body) 4) refl (key_fits rules (fields_in body) (length body - 4)) refl
  where
    go : (a : Bool) → ltb (length body) 4 ≡ a → (b : Bool) → key_fits rules (fields_in body) (length body - 4) ≡ b
        → refusal_of (judged rules next (item_in 2 body)) ≡ first (check (wrong_body 2 body) 13 0 0 ∷ [])
    go true e b f = ap refusal_of (judged-short rules next body (ltb-true (length body) 4 e)) ∙ rw e
    go false e true f =
        let four = ltb-false (length body) 4 e in
        ap refusal_of (judged-key rules next body four f) ∙ rw (e, le-leb 4 (length body) four, f)
    go false e false f =
        let four = ltb-false (length body) 4 e in
        ap refusal_of (judged-unfit rules next body four f) ∙ rw (e, le-leb 4 (length body) four, f)

-- of what follows the length
abbrev following_checks : List ℕ → List (Option Refusal)
following_checks octets =
    check (not (among (kind_in octets) rules.kinds)) 12 0 0 ∷ check (wrong_body (kind_in octets) (body_in octets)) 13 0 0 ∷ []

following-refusal : (next : ℕ) (octets : List ℕ) → refusal_of (read_following rules next octets) ≡ first (following_checks octets)
following-refusal next octets = go (ℕ_discrete (kind_in octets) 1) (ℕ_discrete (kind_in octets) 2)
  where
    go : Dec (kind_in octets ≡ 1) → Dec (kind_in octets ≡ 2)
        → refusal_of (read_following rules next octets) ≡ first (following_checks octets)
    go (yes e) b = ap refusal_of (reads_known rules next octets 1 refl e) ∙ (rw e (text-refusal next (body_in octets)))
    go (no a) (yes e) = ap refusal_of (reads_known rules next octets 2 refl e) ∙ (rw e (key-refusal next (body_in octets)))
    go (no a) (no b) =
        let unknown : among (kind_in octets) rules.kinds ≡ false =
        rw (ne_eqb (kind_in octets) 1 a, ne_eqb (kind_in octets) 2 b)
        in
        ap refusal_of (reads-unknown rules next octets unknown) ∙ rw unknown

-- of the octets from a position on
rest-refusal : (p : ℕ) (rest : List ℕ)
    → refusal_of (read_rest rules p rest) ≡ first (check (short rest) 11 0 0 ∷ following_checks (following rest))
rest-refusal p rest = go (short rest) refl
  where
    go : (b : Bool) → short rest ≡ b
        → refusal_of (read_rest rules p rest) ≡ first (check (short rest) 11 0 0 ∷ following_checks (following rest))
    go true e = ap refusal_of (read_rest-short rules p rest e) ∙ rw e
    go false e = ap refusal_of (read_rest-whole rules p rest e) ∙ rw e (following-refusal _ (following rest))

-- a refusal is what reading gives exactly where it is this
pub stopped-exactly : (v : Reading) (x : Refusal) → (v ≡ stopped x) ↔ (refusal_of v ≡ Some x)
stopped-exactly end x = (λ e. cc, λ e. absurd (none-some x e))
stopped-exactly (stopped y) x = (λ e. cc, λ e. cc)
stopped-exactly (item i n) x = (λ e. cc, λ e. absurd (none-some x e))

-- reading at a position that is not the end is refused with the first fault of the row
pub read-row : (s : List ℕ) (p : ℕ) → (p ≡ length s → ⊥) → (n d : ℕ)
    → (read_at rules s p ≡ stopped (refusal n 0 d)) ↔ FirstFault (read_faults s p) n d
read-row s p inside n d =
    let rest = drop p s in
    let octets = following rest in
    let is = ap refusal_of (read_at-rest rules s p inside) ∙ rest-refusal p rest in
    let row =
    row-exactly (check (short rest) 11 0 0 ∷ following_checks octets) (read_faults s p) (
      renders-plain (short rest) 11 (few-exactly s p),
      (
        renders-plain (not (among (kind_in octets) rules.kinds)) 12 (kind-exactly (kind_in octets)),
        (renders-plain (wrong_body (kind_in octets) (body_in octets)) 13 (body-exactly (kind_in octets) (body_in octets)), tt),
      ),
    )
    n
    d
    in
    let h = stopped-exactly (read_at rules s p) (refusal n 0 d) in
    (λ e. row.0 (sym is ∙ h.0 e), λ f. h.1 (is ∙ row.1 f))

-- ---- the numbers

-- of three checks
pub three : (a b c : Bool) (y : Refusal) → first (check a 11 0 0 ∷ check b 12 0 0 ∷ check c 13 0 0 ∷ []) ≡ Some y
    → (y ≡ refusal 11 0 0) ⊎ (y ≡ refusal 12 0 0) ⊎ (y ≡ refusal 13 0 0)
three true b c y e = inl (cc)
three false true c y e = inr (inl (cc))
three false false true y e = inr (inr (cc))
three false false false y e = absurd (none-some y e)

pub read-numbers : (s : List ℕ) (p : ℕ) (y : Refusal) → read_at rules s p ≡ stopped y
    → (y ≡ refusal 11 0 0) ⊎ (y ≡ refusal 12 0 0) ⊎ (y ≡ refusal 13 0 0)
read-numbers s p y e = go (ℕ_discrete p (length s))
  where
    go : Dec (p ≡ length s) → (y ≡ refusal 11 0 0) ⊎ (y ≡ refusal 12 0 0) ⊎ (y ≡ refusal 13 0 0)
    go (yes f) = absurd (none-some y (ap refusal_of (sym (read_at-end rules s p f) ∙ e)))
    go (no f) =
        let octets = following (drop p s) in
        three (short (drop p s)) (not (among (kind_in octets) rules.kinds)) (wrong_body (kind_in octets) (body_in octets)) y
        (sym (ap refusal_of (read_at-rest rules s p f) ∙ rest-refusal p (drop p s)) ∙ ap refusal_of e)

-- and of two
two : (a b : Bool) (n : ℕ) (y : Refusal) → first (check a 13 0 0 ∷ check b 8 0 n ∷ []) ≡ Some y
    → (y ≡ refusal 13 0 0) ⊎ (y ≡ refusal 8 0 n)
two true b n y e = inl (cc)
two false true n y e = inr (cc)
two false false n y e = absurd (none-some y e)

pub write-numbers : (i : Item) (p m : ℕ) (y : Refusal) → writing_refusal i p m ≡ Some y
    → (y ≡ refusal 13 0 0) ⊎ (y ≡ refusal 8 0 (length (record_of i)))
write-numbers i p m y e = two (not (fits rules i)) (ltb (m - p) (length (record_of i))) (length (record_of i)) y e
