-- A row of checks gives the first that applies; the refusals of a table and of a call on texts are such rows. What holds of all
-- that its checks may give holds of what the row gives.
-- Assumes nothing.
use mathlib.Core.Path.{◌≡◌, sym, ap, ◌∙◌, refl, subst}
use Prim.Native.Nat.{ℕ, zero, suc, ◌≤◌}
use native.Mathlib.Omega.{arith}
use mathlib.Core.Bool.{Bool, true, false}
use mathlib.Core.Logic.{◌↔◌}
use Rattle.std.specs.Prelude.{Option, None, Some}
use mathlib.Core.List.{List, [], ◌∷◌, ◌++◌}
use lib.Dec.{ltb}
use lib.ListN.{length, replicate}
use Rattle.terms.specs.Lists.{or_else}
use Rattle.terms.specs.Refusals.{text_most, refusal, check, first}
use Rattle.terms.specs.declared.Refusal.{Refusal}
use Rattle.terms.proofs.Checks.{or_else-assoc, first-append}
use Rattle.terms.proofs.Tests.{none-some}
use Rattle.keys.specs.Keys.{PreparedText, room_for}
use Rattle.prepare.specs.Calls.{Lent, Call, lengths, prepared_in, length_check, length_checks, table_check, collation_check}
use Rattle.prepare.specs.Calls.{pages_check, lookup_check}
use Rattle.prepare.specs.Calls.{room_check, room_checks, room_refusal, call_refusal}
use Rattle.demands.specs.Demands.{FirstApplies, length_row, room_row, call_checks}

-- ---- the first check that applies

first_past : (n : ℕ) (x : Refusal) (rest : List (Option Refusal)) → first (replicate n None ++ Some x ∷ rest) ≡ Some x
first_past zero x rest = refl
first_past (suc n) x rest = first_past n x rest

first_some : (checks : List (Option Refusal)) (x : Refusal) → first checks ≡ Some x → FirstApplies checks x
first_some [] x e = absurd (none-some x e)
first_some (None ∷ cs) x e =
    let later = first_some cs x e in
    record { passed = suc later.passed; rest = later.rest; row = ap (λ (l : List (Option Refusal)). None ∷ l) later.row }
first_some (Some y ∷ cs) x e = record { passed = 0; rest = cs; row = cc }

-- a row gives the first of its checks that applies
pub first-exactly : (checks : List (Option Refusal)) (x : Refusal) → (first checks ≡ Some x) ↔ FirstApplies checks x
first-exactly checks x = (first_some checks x, λ a. ap first a.row ∙ first_past a.passed x a.rest)

-- ---- a call on texts

-- its lengths' checks, and its rooms'
first-length_row : (place : ℕ) (ns : List ℕ) → first (length_row place ns) ≡ length_checks place ns
first-length_row place [] = refl
first-length_row place (n ∷ ns) = ap (or_else (length_check place n)) (first-length_row (suc place) ns)

first-room_row : (place : ℕ) (ls : List Lent) (ps : List PreparedText) → first (room_row place ls ps) ≡ room_checks place ls ps
first-room_row place [] ps = refl
first-room_row place (l ∷ ls) [] = refl
first-room_row place (l ∷ ls) (p ∷ ps) = ap (or_else (room_check place (length l.buffer) p)) (first-room_row (suc place) ls ps)

-- its refusal, one check after another
pub call_refusal-row : (c : Call)
    → call_refusal c
    ≡ or_else (collation_check c.collation)
    (or_else (length_checks 1 (lengths c)) (or_else (lookup_check c.collation c.table c.pages) (room_refusal c)))
unfolding call_refusal
call_refusal-row c =
    or_else-assoc (or_else (collation_check c.collation) (length_checks 1 (lengths c)))
    (lookup_check c.collation c.table c.pages) (room_refusal c)
    ∙ or_else-assoc (collation_check c.collation) (length_checks 1 (lengths c)) _

-- is that row's first
pub first-call_checks : (c : Call) → first (call_checks c) ≡ call_refusal c
first-call_checks c =
    let table = table_check c.collation c.table in
    let pages = pages_check c.collation c.pages in
    let rooms = room_row 1 c.lents (prepared_in c) in
    ap (or_else (collation_check c.collation))
    (first-append (length_row 1 (lengths c)) (table ∷ pages ∷ rooms)
    ∙ rw (first-length_row 1 (lengths c), first-room_row 1 c.lents (prepared_in c), or_else-assoc table pages (room_refusal c)))
    ∙ sym (call_refusal-row c)

-- ---- what a check may give

-- every refusal that a check gives is such
abbrev pub Every : (Refusal → Type 0) → Option Refusal → Type 0
Every P c = (x : Refusal) → c ≡ Some x → P x

module _ (P : Refusal → Type 0) where
  pub every-none : Every P None
  every-none x e = absurd (none-some x e)

  pub every_some : (y : Refusal) → P y → Every P (Some y)
  every_some y h x e = let same : y ≡ x = cc in subst P same h

  pub every-check : (b : Bool) (n p d : ℕ) → P (refusal n p d) → Every P (check b n p d)
  every-check true n p d h = every_some (refusal n p d) h
  every-check false n p d h = every-none

  pub every-else : (c d : Option Refusal) → Every P c → Every P d → Every P (or_else c d)
  every-else None d a b = b
  every-else (Some y) d a b = a

  -- 2, from place p on
  pub every-length : (p : ℕ) (ns : List ℕ) → ((q d : ℕ) → p ≤ q → P (refusal 2 q d)) → Every P (length_checks p ns)
  every-length p [] h = every-none
  every-length p (n ∷ ns) h =
      every-else (length_check p n) (length_checks (suc p) ns)
      (every-check (ltb text_most n) 2 p n (h p n (omega arith)))
      (every-length (suc p) ns (λ q d l. h q d (omega arith)))

  -- 8, from place p on
  pub every-room : (p : ℕ) (ls : List Lent) (ps : List PreparedText) → ((q d : ℕ) → p ≤ q → P (refusal 8 q d))
      → Every P (room_checks p ls ps)
  every-room p [] ps h = every-none
  every-room p (l ∷ ls) [] h = every-none
  every-room p (l ∷ ls) (k ∷ ps) h =
      every-else (room_check p (length l.buffer) k) (room_checks (suc p) ls ps)
      (every-check (ltb (length l.buffer) (room_for k)) 8 p (room_for k) (h p (room_for k) (omega arith)))
      (every-room (suc p) ls ps (λ q d l. h q d (omega arith)))
