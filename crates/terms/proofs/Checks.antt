-- Laws of checks: one after another, a row of them, where none applies, and what an answer says of them.
-- Assumes nothing.
use mathlib.Core.Path.{◌≡◌, refl, sym, ap, ◌∙◌}
use mathlib.Core.Bool.{Bool, true, false, ◌||◌}
use Rattle.std.specs.Prelude.{Option, None, Some, Result, Ok, Err, ⊤}
use Rattle.std.specs.Result.{result_err}
use mathlib.Core.List.{List, [], ◌∷◌, ◌++◌}
use lib.ListN.{get_or}
use Prim.Native.Nat.{ℕ, zero, suc}
use Rattle.terms.specs.Lists.{or_else, when}
use Rattle.terms.specs.Refusals.{first, answer, refused, gives, check_outcome}
use Rattle.terms.specs.declared.Refusal.{Refusal}

-- ---- tests that don't hold

-- the first of two
pub or_left : (a b : Bool) → a || b ≡ false → a ≡ false
or_left false b e = refl
or_left true b e = e

-- the second of two
pub or_right : (a b : Bool) → a || b ≡ false → b ≡ false
or_right false b e = e
or_right true b e = cc

-- ---- two checks, one after the other

module _ {A : Type 0} where
  -- nothing follows
  pub or_else-none : (a : Option A) → or_else a None ≡ a
  or_else-none None = refl
  or_else-none (Some x) = refl

  -- grouped another way
  pub or_else-assoc : (a b c : Option A) → or_else (or_else a b) c ≡ or_else a (or_else b c)
  or_else-assoc None b c = refl
  or_else-assoc (Some x) b c = refl

  -- the first is there
  pub or_else-first : (a b : Option A) (x : A) → a ≡ Some x → or_else a b ≡ Some x
  or_else-first a b x e = rw e

  -- the first is not there
  pub or_else-second : (a b : Option A) → a ≡ None → or_else a b ≡ b
  or_else-second a b e = rw e

  -- neither is there
  pub or_else-neither : (a b : Option A) → or_else a b ≡ None → (a ≡ None) × (b ≡ None)
  or_else-neither None b e = (refl, e)
  or_else-neither (Some x) b e = (e, cc)

  -- a test that did not apply
  pub when-none : (b : Bool) (a : A) → when b a ≡ None → b ≡ false
  when-none true a e = cc
  when-none false a e = refl

-- ---- a row of checks, of which the first that applies is given

-- one row after another
pub first-append : (xs ys : List (Option Refusal)) → first (xs ++ ys) ≡ or_else (first xs) (first ys)
first-append [] ys = refl
first-append (x ∷ xs) ys = ap (or_else x) (first-append xs ys) ∙ sym (or_else-assoc x (first xs) (first ys))

-- where none applies, each doesn't
pub first-none : (xs : List (Option Refusal)) → first xs ≡ None → (i : ℕ) → get_or xs i None ≡ None
first-none [] e i = refl
first-none (None ∷ xs) e zero = refl
first-none (None ∷ xs) e (suc i) = first-none xs e i
first-none (Some r ∷ xs) e zero = e
first-none (Some r ∷ xs) e (suc i) = cc

-- ---- answers

-- values are given where nothing refuses
pub answer-given : (o : Option Refusal) (vs ws : List ℕ) → gives ws ≡ answer o vs → o ≡ None
answer-given None vs ws e = refl
answer-given (Some r) vs ws e = cc

-- a refusal is given where it is the call's
pub answer-refused : (o : Option Refusal) (vs : List ℕ) (r : Refusal) → refused r ≡ answer o vs → o ≡ Some r
answer-refused None vs r e = cc
answer-refused (Some s) vs r e = cc

-- a check whose answer is that of a refusal answers the refusal
pub check_refusal-answer : (c : Result ⊤ Refusal) (o : Option Refusal) → check_outcome c ≡ answer o [] → result_err c ≡ o
check_refusal-answer (Ok u) None e = refl
check_refusal-answer (Ok u) (Some r) e = cc
check_refusal-answer (Err s) None e = cc
check_refusal-answer (Err s) (Some r) e = cc
