-- What an answered call tells: values where nothing refuses, a refusal where it is the call's; and a refusal that is handed on.
-- Assumes nothing.
use Rattle.std.specs.Prelude.{Option, None, Some}
use mathlib.Core.Path.{◌≡◌, refl, sym, ap, ◌∙◌}
use Prim.Native.Nat.{ℕ}
use mathlib.Core.List.{List}
use Rattle.terms.specs.Refusals.{Outcome, refused, gives}
use Rattle.terms.specs.declared.Refusal.{Refusal}
use Rattle.prepare.specs.Calls.{Call, answer_of, Answers}

-- values are given where nothing refuses, and they are the call's
pub answer_of-gives : (x : Option Refusal) (v : Option (List ℕ)) (ws : List ℕ) → Some (gives ws) ≡ answer_of x v
    → (x ≡ None) × (v ≡ Some ws)
answer_of-gives None None ws e = (refl, cc)
answer_of-gives None (Some vs) ws e = (refl, cc)
answer_of-gives (Some r) v ws e = (cc, cc)

-- a refusal is given where it is the call's
pub answer_of-refused : (x : Option Refusal) (v : Option (List ℕ)) (r : Refusal) → Some (refused r) ≡ answer_of x v → x ≡ Some r
answer_of-refused None None r e = cc
answer_of-refused None (Some vs) r e = cc
answer_of-refused (Some s) v r e = cc

module _ {R : Type 0} {outcome : R → Outcome} {values : Call → Option (List ℕ)} {x : Option Refusal} {c : Call} {r : R}
    {after : List (List ℕ)} (h : Answers outcome values x c r after) where
  -- an answer that gives values
  pub answered-gives : (ws : List ℕ) → outcome r ≡ gives ws → (x ≡ None) × (values c ≡ Some ws)
  answered-gives ws e = answer_of-gives x (values c) ws (ap Some (sym e) ∙ h.answered)

  -- an answer that is a refusal
  pub answered-refused : (y : Refusal) → outcome r ≡ refused y → x ≡ Some y
  answered-refused y e = answer_of-refused x (values c) y (ap Some (sym e) ∙ h.answered)

  -- a refusal is handed on
  pub answers-on : {Q : Type 0} {outcome2 : Q → Outcome} {values2 : Call → Option (List ℕ)} {q : Q} {y : Refusal}
      → outcome r ≡ refused y
      → outcome2 q ≡ refused y
      → Answers outcome2 values2 x c q after
  answers-on {outcome2} {values2} {q} {y} e f =
      let is = answered-refused y e in
      record { answered = rw (is, f); left = h.left }
