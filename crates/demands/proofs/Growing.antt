-- A table that calls of `add_line` have grown is the one that the builder's definition gives for the lines, and the lines
-- that a call answered Taken are those that the definition accepts.
-- Assumes nothing.
use Rattle.std.specs.Prelude.{Ok, Err}
use mathlib.Core.Path.{◌≡◌, refl, sym, ap, ◌∙◌}
use Prim.Native.Nat.{ℕ}
use Rattle.std.specs.Prelude.{None, Some}
use mathlib.Core.List.{List, [], ◌∷◌, ◌++◌}
use native.Mathlib.Omega.{arith}
use Rattle.terms.specs.Lists.{In}
use Rattle.terms.specs.declared.Refusal.{Refusal}
use Rattle.terms.proofs.Checks.{answer-given, answer-refused}
use Rattle.terms.proofs.Tests.{none-some}
use Rattle.ucd.specs.Lines.{Properties, LineSays, line_properties}
use Rattle.ucd.specs.Fields.{semicolons}
use Rattle.ucd.proofs.Lines.{line_properties-exactly, semicolons-read}
use Rattle.builder.specs.Builder.{Built, line_refusal, accepted, add_line, add_lines, state_numbers, Added}
use Rattle.builder.specs.Built.{Accepted, accepted_of}
use Rattle.builder.specs.declared.LineState.{LineState}
use Rattle.builder.proofs.Refusals.{unrefused-reading, unrefused-given}
use Rattle.demands.specs.Demands.{Grows, no_call, taken, not_taken, SayEach, no_line, one_line}

-- what each call leaves is what the definition says of its line
pub grows-is : {b c : Built} {lines taking : List (List ℕ)} → Grows b lines taking c → c ≡ add_lines b lines
unfolding add_lines
grows-is no_call = refl
grows-is (taken {lines = lines} added rest) = grows-is rest ∙ ap (λ (x : Built). add_lines x lines) added.left
grows-is (not_taken {lines = lines} added rest) = grows-is rest ∙ ap (λ (x : Built). add_lines x lines) added.left

-- ---- one call

module _ {b : Built} {line es pool : List ℕ} {st : LineState} where
  -- a line that was taken is refused by nothing
  pub taken-unrefused : Added b line (Ok st) es pool → line_refusal b line ≡ None
  taken-unrefused h = answer-given (line_refusal b line) (state_numbers (add_line b line).state) (state_numbers st) h.answered

  -- one that was not is refused
  not-taken-refused : {x : Refusal} → Added b line (Err (record { refusal = x; state = st })) es pool → line_refusal b line ≡ Some x
  not-taken-refused {x} h = answer-refused (line_refusal b line) (state_numbers (add_line b line).state) x h.answered

-- ---- the lines that were taken

-- what they say is what the definition collects
pub grows-says : {b c : Built} {lines taking : List (List ℕ)} → Grows b lines taking c → SayEach taking (accepted_of b lines)
unfolding accepted_of
grows-says no_call = no_line
grows-says (taken {b = b} {line = line} {lines = lines} added rest) =
    let passed = taken-unrefused added in
    let said = unrefused-given b line passed in
    let is : accepted b line ≡ Some said.0 = rw passed said.1 in
    rw (is, ← added.left) (one_line ((line_properties-exactly line said.0).0 said.1) (grows-says rest))
grows-says (not_taken {b = b} {line = line} added rest) =
    let is : accepted b line ≡ None = rw (not-taken-refused added) in rw (is, ← added.left) (grows-says rest)

-- ---- between the two ways to say accepted

-- a list with an element is not empty
not-empty : (before : List (List ℕ)) (line : List ℕ) (after : List (List ℕ)) → [] ≡ before ++ line ∷ after → ⊥
not-empty [] line after e = let z : ◌≡◌ {A = ℕ} 0 1 = cc in omega arith
not-empty (x ∷ before) line after e = let z : ◌≡◌ {A = ℕ} 0 1 = cc in omega arith

-- accepted after a first line is accepted of the whole
later : {b d : Built} {first line : List ℕ} {lines : List (List ℕ)} {p : Properties} → d ≡ add_line b first
    → Accepted d lines line p
    → Accepted b (first ∷ lines) line p
unfolding add_lines
later {first = first} e a = record {
  before = first ∷ a.before;
  after = a.after;
  split = ap (λ (l : List (List ℕ)). first ∷ l) a.split;
  unrefused = rw e at a.unrefused;
  given = a.given;
}

module _ {line : List ℕ} {p : Properties} (said : line_properties line ≡ Some p) where
  -- a line that was taken is accepted by the definition
  taken-accepted : {b c : Built} {lines taking : List (List ℕ)} → Grows b lines taking c
      → (before after : List (List ℕ)) → taking ≡ before ++ line ∷ after → Accepted b lines line p
  unfolding add_lines
  taken-accepted no_call before after e = absurd (not-empty before line after e)
  taken-accepted (taken {line = first} {lines = lines} added rest) [] after e =
      let is : first ≡ line = cc in
      record {
        before = [];
        after = lines;
        split = ap (λ (x : List ℕ). x ∷ lines) is;
        unrefused = rw is at (taken-unrefused added);
        given = said;
      }
  taken-accepted (taken added rest) (x ∷ before) after e = later added.left (taken-accepted rest before after (cc))
  taken-accepted (not_taken added rest) before after e = later added.left (taken-accepted rest before after e)

  pub in-accepted : {b c : Built} {lines taking : List (List ℕ)} → Grows b lines taking c → In line taking
      → Accepted b lines line p
  in-accepted g i = taken-accepted g i.before i.after i.split

-- one more in front
in-later : {x first : List ℕ} {xs : List (List ℕ)} → In x xs → In x (first ∷ xs)
in-later {first = first} i =
    record { before = first ∷ i.before; after = i.after; split = ap (λ (l : List (List ℕ)). first ∷ l) i.split }

-- a line that the definition accepts was taken
accepted-taken : {line : List ℕ} {b c : Built} {lines taking : List (List ℕ)} → Grows b lines taking c
    → (before after : List (List ℕ)) → lines ≡ before ++ line ∷ after → line_refusal (add_lines b before) line ≡ None
    → In line taking
unfolding add_lines
accepted-taken {line = line} no_call before after e u = absurd (not-empty before line after e)
accepted-taken {line = line} (taken {line = first} {accepted = taking} added rest) [] after e u =
    let is : first ≡ line = cc in record { before = []; after = taking; split = ap (λ (x : List ℕ). x ∷ taking) is }
accepted-taken (taken {line = first} added rest) (x ∷ before) after e u =
    let is : first ≡ x = cc in in-later (accepted-taken rest before after (cc) (rw (added.left, is) u))
accepted-taken {line = line} (not_taken {line = first} {x = x} added rest) [] after e u =
    let is : first ≡ line = cc in absurd (none-some x (sym (rw (← is) at u) ∙ not-taken-refused added))
accepted-taken (not_taken {line = first} added rest) (x ∷ before) after e u =
    let is : first ≡ x = cc in accepted-taken rest before after (cc) (rw (added.left, is) u)

pub accepted-in : {line : List ℕ} {p : Properties} {b c : Built} {lines taking : List (List ℕ)} → Grows b lines taking c
    → Accepted b lines line p → In line taking
accepted-in g a = accepted-taken g a.before a.after a.split a.unrefused

-- ---- what a line that was taken has

module _ (line : List ℕ) where
  -- a call on it was answered Taken: nothing refused it there
  unrefused-somewhere : {b c : Built} {lines taking : List (List ℕ)} → Grows b lines taking c
      → (before after : List (List ℕ)) → taking ≡ before ++ line ∷ after → (d : Built) × (line_refusal d line ≡ None)
  unrefused-somewhere no_call before after e = absurd (not-empty before line after e)
  unrefused-somewhere (taken {b = b} {line = first} added rest) [] after e =
      let is : first ≡ line = cc in (b, rw is at (taken-unrefused added))
  unrefused-somewhere (taken added rest) (x ∷ before) after e = unrefused-somewhere rest before after (cc)
  unrefused-somewhere (not_taken added rest) before after e = unrefused-somewhere rest before after e

module _ {b c : Built} {lines taking : List (List ℕ)} (g : Grows b lines taking c) (line : List ℕ) (i : In line taking) where
  -- 14 semicolons
  pub in_whole : semicolons line ≡ 14
  in_whole =
      let at = unrefused-somewhere line g i.before i.after i.split in
      semicolons-read line (unrefused-reading at.0 line at.1)

  -- and something that it says
  pub in-says : (p : Properties) × LineSays line p
  in-says =
      let at = unrefused-somewhere line g i.before i.after i.split in
      let said = unrefused-given at.0 line at.1 in
      (said.0, (line_properties-exactly line said.0).0 said.1)
