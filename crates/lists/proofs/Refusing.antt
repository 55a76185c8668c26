-- The checks of a call on two lists, by cases: which of them applies, and what is left where none does.
-- Assumes nothing.
use mathlib.Core.Path.{◌≡◌, refl, sym, ap, ◌∙◌}
use Prim.Native.Nat.{ℕ, ◌≤◌, ◌<◌}
use native.Mathlib.Omega.{arith}
use Rattle.std.specs.Prelude.{Option, None, Some, Result, Ok, Err}
use Rattle.std.specs.Result.{result_err}
use mathlib.Core.List.{List}
use lib.ListN.{length}
use borrow.Author.Tests.{lt-ltb, le-ltb}
use Rattle.terms.specs.Refusals.{names_most, refusal, first}
use Rattle.terms.specs.declared.Collation.{Collation}
use Rattle.terms.specs.declared.Refusal.{Refusal}
use Rattle.lists.specs.Names.{names_in, list_fault}
use Rattle.lists.specs.Lists.{placed, names_checks}
use Rattle.lists.specs.Promises.{Counted, ListsIn, ChecksLists}
use Rattle.lists.specs.declared.names.NameCount.{NameCount}
use Rattle.lists.specs.declared.checks.CheckedLists.{CheckedLists}

-- ---- 1 and 11 to 14

-- a refusal says nothing of names
stopped-passed : {x : Refusal} {c : CheckedLists} → Err x ≡ Ok c → ⊥
stopped-passed e = let z : ◌≡◌ {A = ℕ} 0 1 = cc in omega arith

-- and one that passed, of these
passed-same : {o : Option Collation} {one two : List ℕ} (c d : CheckedLists) → ◌≡◌ {A = Result CheckedLists Refusal} (Ok c) (Ok d) → o ≡ Some c.collation
    → Counted one c.first
    → Counted two c.second
    → (o ≡ Some d.collation) × Counted one d.first × Counted two d.second
passed-same c d e f a b =
    let same : c ≡ d = cc in
    (f ∙ ap (λ (x : CheckedLists). Some x.collation) same, rw (← same) a, rw (← same) b)

module _ {o : Option Collation} {one two : List ℕ} where
  refuses : {x y : Refusal} → x ≡ y → Some y ≡ first (names_checks o one two) → ChecksLists o one two (Err x)
  refuses e h = record { refusal = ap Some e ∙ h; known = λ c s. absurd (stopped-passed s) }

  -- 1
  pub unknown-collation : {x : Refusal} → o ≡ None → x ≡ refusal 1 0 0 → ChecksLists o one two (Err x)
  unknown-collation e h = refuses h (rw e refl)

  module _ {k : Collation} (known : o ≡ Some k) where
    -- 11 to 13 of the first list
    pub first-faulty : {x : Refusal} (y : Refusal) → list_fault one ≡ Some y → x ≡ refusal y.number 1 y.detail
        → ChecksLists o one two (Err x)
    first-faulty y f h = refuses h (rw (known, f) refl)

    module _ (whole : list_fault one ≡ None) where
      -- and of the second
      pub second-faulty : {x : Refusal} (y : Refusal) → list_fault two ≡ Some y → x ≡ refusal y.number 2 y.detail
          → ChecksLists o one two (Err x)
      second-faulty y f h = refuses h (rw (known, whole, f) refl)

      module _ (both : list_fault two ≡ None) where
        -- 14
        pub first-long : {x : Refusal} → names_most < length (names_in one) → x ≡ refusal 14 1 0 → ChecksLists o one two
            (Err x)
        first-long l h = refuses h (rw (known, whole, both, lt-ltb names_most (length (names_in one)) l) refl)

        pub second-long : {x : Refusal} → length (names_in one) ≤ names_most → names_most < length (names_in two)
            → x ≡ refusal 14 2 0
            → ChecksLists o one two (Err x)
        second-long s l h =
            refuses h
            (rw (known, whole, both, le-ltb names_most (length (names_in one)) s, lt-ltb names_most (length (names_in two)) l) refl)

        -- none
        pub none-applies : (n m : NameCount) → Counted one n → Counted two m → n.names ≤ names_most → m.names ≤ names_most
            → ChecksLists o one two (Ok (record { collation = k; first = n; second = m }))
        none-applies n m cn cm s t = record {
          refusal =
              rw (
                known,
                whole,
                both,
                le-ltb names_most (length (names_in one)) (omega (arith, cn.names)),
                le-ltb names_most (length (names_in two)) (omega (arith, cm.names)),
              ) refl;
          known = λ d e. passed-same (record { collation = k; first = n; second = m }) d e known cn cm;
        }

-- what reading the first or the second list answered: its names counted, or its refusal
pub listed-names : {place : ℕ} {list : List ℕ} {r : Result NameCount Refusal} (n : NameCount) → ListsIn place list r → r ≡ Ok n
    → (list_fault list ≡ None) × Counted list n
listed-names {place} {list} n l e = (unplaced place (list_fault list) (sym l.refusal ∙ ap result_err e), l.counted n e)
  where
    unplaced : (p : ℕ) (o : Option Refusal) → placed p o ≡ None → o ≡ None
    unplaced p None f = refl
    unplaced p (Some x) f = cc
