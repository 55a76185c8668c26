-- The automaton of specs/Judging.antt ends in `Whole` on exactly the texts that have characters (`judged-characters`): what may
-- still come in a state (`goes_on`) is what may come in the next one after an octet (`goes_on-next`).
-- Assumes nothing.
use mathlib.Core.Path.{◌≡◌, refl, ◌∙◌, ap}
use mathlib.Core.Bool.{Bool, true, false, cond, ◌&&◌}
use Rattle.std.specs.Prelude.{None}
use mathlib.Core.List.{List, [], ◌∷◌}
use Prim.Native.Nat.{ℕ, suc, ◌-◌, ◌≤◌, ◌<◌}
use native.Mathlib.Decide.{dec_lt}
use native.Mathlib.Omega.{arith}
use lib.Dec.{eqb, ltb}
use borrow.Author.Tests.{lt-ltb, le-ltb}
use Rattle.terms.specs.Lists.{there}
use Rattle.utf8.specs.Characters.{characters-nil, characters-none}
use Rattle.utf8.specs.Judging.{State, Whole, One, Two, Three, AfterE0, AfterED, AfterF0, AfterF4, Fault}
use Rattle.utf8.specs.Judging.{after_first, next, judged, place}
use Rattle.utf8.specs.Utf8.{character, announced, characters}
use Rattle.utf8.proofs.Encode.{Lead, leads_two, leads_three, leads_four}
use Rattle.utf8.proofs.Lengths.{announced-range}
use Rattle.utf8.proofs.Decode.{decode-one, decode-first}
use Rattle.utf8.proofs.Decoders.{there-drop}
use Rattle.utf8.proofs.Characters.{utf8-decodes}
use Rattle.utf8.proofs.Tails.{in_range, tailed, amid, characters-lead, Fits, held-tailed, Narrows, held-amid}
use Rattle.utf8.proofs.Fitting.{two-low, two_fits, three-fits, three-high, four-fits, four-above}
use Rattle.utf8.proofs.Fitting.{narrows-E0, narrows-ED, narrows-F0, narrows-F4}

-- whether octets may come in a state, to the end of a text
abbrev goes_on : State → List ℕ → Bool
goes_on Whole t = tailed 0 t
goes_on One t = tailed 1 t
goes_on Two t = tailed 2 t
goes_on Three t = tailed 3 t
goes_on AfterE0 t = amid 0xA0 0xBF 1 t
goes_on AfterED t = amid 0x80 0x9F 1 t
goes_on AfterF0 t = amid 0x90 0xBF 2 t
goes_on AfterF4 t = amid 0x80 0x8F 2 t
goes_on Fault t = false

-- ---- a first octet

module _ (o : ℕ) (t : List ℕ) where
  -- it leads to a state: the octets after it may come where they may in that state
  record Leads (s : State) : Type 0 where
    same : there (characters (o ∷ t)) ≡ goes_on s t

  -- a character by itself
  leads-whole : o < 0x80 → Leads Whole
  leads-whole h = record { same = there-drop utf8-decodes (o ∷ t) 0 (character o 1) (decode-one o t h) }

  -- it announces no length
  leads-none : announced o ≡ None → Leads Fault
  leads-none e =
      record { same = ap there (characters-none utf8-decodes (o ∷ t) (decode-first o t None e) (omega arith)) }

  -- 80 to BF, and F8 to FF
  leads-80 : 0x80 ≤ o → o < 0xC0 → Leads Fault
  leads-80 l h = leads-none (announced-range o ∙ simp (le-ltb o 0x80 l, lt-ltb o 0xC0 h))

  leads-F8 : 0xF8 ≤ o → Leads Fault
  leads-F8 l =
      leads-none (announced-range o
      ∙ simp (
        le-ltb o 0x80 (omega arith),
        le-ltb o 0xC0 (omega arith),
        le-ltb o 0xE0 (omega arith),
        le-ltb o 0xF0 (omega arith),
        le-ltb o 0xF8 l,
      ))

  -- the first of several, of which every number is taken, or none
  leads-tailed : (p : Bool) (x n least : ℕ) → Lead o x n least → Fits p least n x
      → there (characters (o ∷ t)) ≡ (p && tailed n t)
  leads-tailed p x n least lead f = characters-lead o x n least t lead ∙ held-tailed p least n x t f

  -- or those where the next octet stands in a range
  leads-amid : {low high : ℕ} (x n least : ℕ) → Lead o x (suc n) least → Narrows low high least n x
      → there (characters (o ∷ t)) ≡ amid low high n t
  leads-amid x n least lead f = characters-lead o x (suc n) least t lead ∙ held-amid t f

  -- UTF8-2: C2 to DF; C0 and C1 would be overlong
  leads-two : 0xC2 ≤ o → o < 0xE0 → Leads One
  leads-two l h =
      let x = o - 0xC0 in
      record { same = leads-tailed true x 1 0x80 (leads_two (omega arith) (omega arith)) (two_fits x (omega arith) (omega arith)) }

  leads-overlong : 0xC0 ≤ o → o < 0xC2 → Leads Fault
  leads-overlong l h =
      let x = o - 0xC0 in
      record { same = leads-tailed false x 1 0x80 (leads_two (omega arith) (omega arith)) (two-low x (omega arith)) }

  -- UTF8-3: E0, E1 to EC, ED, EE and EF
  leads-E0 : o ≡ 0xE0 → Leads AfterE0
  leads-E0 e = record { same = leads-amid 0 1 0x800 (leads_three e (omega arith)) narrows-E0 }

  leads-three : 0xE1 ≤ o → o < 0xED → Leads Two
  leads-three l h =
      let x = o - 0xE0 in
      record { same = leads-tailed true x 2 0x800 (leads_three (omega arith) (omega arith)) (three-fits x (omega arith) (omega arith)) }

  leads-ED : o ≡ 0xED → Leads AfterED
  leads-ED e = record { same = leads-amid 0xD 1 0x800 (leads_three e (omega arith)) narrows-ED }

  leads-EE : 0xEE ≤ o → o < 0xF0 → Leads Two
  leads-EE l h =
      let x = o - 0xE0 in
      record { same = leads-tailed true x 2 0x800 (leads_three (omega arith) (omega arith)) (three-high x (omega arith) (omega arith)) }

  -- UTF8-4: F0, F1 to F3, F4; F5 to F7 would be above 10FFFF
  leads-F0 : o ≡ 0xF0 → Leads AfterF0
  leads-F0 e = record { same = leads-amid 0 2 0x10000 (leads_four e (omega arith)) narrows-F0 }

  leads-four : 0xF1 ≤ o → o < 0xF4 → Leads Three
  leads-four l h =
      let x = o - 0xF0 in
      record { same = leads-tailed true x 3 0x10000 (leads_four (omega arith) (omega arith)) (four-fits x (omega arith) (omega arith)) }

  leads-F4 : o ≡ 0xF4 → Leads AfterF4
  leads-F4 e = record { same = leads-amid 4 2 0x10000 (leads_four e (omega arith)) narrows-F4 }

  leads-above : 0xF5 ≤ o → o < 0xF8 → Leads Fault
  leads-above l h =
      let x = o - 0xF0 in
      record { same = leads-tailed false x 3 0x10000 (leads_four (omega arith) (omega arith)) (four-above x (omega arith) (omega arith)) }

  -- the octet is below a bound, or not
  either {ℓ} : {A : Type ℓ} (n : ℕ) → (o < n → A) → (n ≤ o → A) → A
  either {A = A} n below above = by (dec_lt o n)
    where
      by : Dec (o < n) → A
      by (yes h) = below h
      by (no h) = above (omega arith)

  split : {a b : State} (n : ℕ) → (o < n → Leads a) → (n ≤ o → Leads b) → Leads (cond (ltb o n) a b)
  split n below above = either n (λ h. rw (lt-ltb o n h) (below h)) (λ l. rw (le-ltb o n l) (above l))

  -- by the ranges of `after_first`
  leads-first : Leads (after_first o)
  unfolding after_first
  leads-first =
      split 0x80 leads-whole
      (λ l0. split 0xC2 (λ h. either 0xC0 (leads-80 l0) (λ l. leads-overlong l h))
      (λ l1. split 0xE0 (leads-two l1)
      (λ l2. split 0xE1 (λ h. leads-E0 (omega arith))
      (λ l3. split 0xED (leads-three l3)
      (λ l4. split 0xEE (λ h. leads-ED (omega arith))
      (λ l5. split 0xF0 (leads-EE l5)
      (λ l6. split 0xF1 (λ h. leads-F0 (omega arith))
      (λ l7. split 0xF4 (leads-four l7)
      (λ l8. split 0xF5 (λ h. leads-F4 (omega arith)) (λ l. either 0xF8 (leads-above l) leads-F8))))))))))

-- ---- every octet

-- an octet that passes a test leads to a state, and any other to a fault
chosen : (p : Bool) (s : State) (t : List ℕ) → (p && goes_on s t) ≡ goes_on (cond p s Fault) t
chosen true s t = refl
chosen false s t = refl

-- what may come in a state is what may come in the next one, after the octet that leads there
goes_on-next : (s : State) (o : ℕ) (t : List ℕ) → goes_on s (o ∷ t) ≡ goes_on (next s o) t
goes_on-next Whole o t = (leads-first o t).same
goes_on-next One o t = chosen (in_range 0x80 0xBF o) Whole t
goes_on-next Two o t = chosen (in_range 0x80 0xBF o) One t
goes_on-next Three o t = chosen (in_range 0x80 0xBF o) Two t
goes_on-next AfterE0 o t = chosen (in_range 0xA0 0xBF o) One t
goes_on-next AfterED o t = chosen (in_range 0x80 0x9F o) One t
goes_on-next AfterF0 o t = chosen (in_range 0x90 0xBF o) Two t
goes_on-next AfterF4 o t = chosen (in_range 0x80 0x8F o) Two t
goes_on-next Fault o t = refl

-- a text may end only where a character has ended
goes_on-nil : (s : State) → goes_on s [] ≡ eqb (place s) 0
goes_on-nil Whole = ap there (characters-nil utf8-decodes)
goes_on-nil One = refl
goes_on-nil Two = refl
goes_on-nil Three = refl
goes_on-nil AfterE0 = refl
goes_on-nil AfterED = refl
goes_on-nil AfterF0 = refl
goes_on-nil AfterF4 = refl
goes_on-nil Fault = refl

goes_on-judged : (s : State) (t : List ℕ) → goes_on s t ≡ eqb (place (judged s t)) 0
unfolding judged
goes_on-judged s [] = goes_on-nil s
goes_on-judged s (o ∷ t) = goes_on-next s o t ∙ goes_on-judged (next s o) t

-- a text has characters exactly where the automaton ends in `Whole`
pub judged-characters : (t : List ℕ) → there (characters t) ≡ eqb (place (judged Whole t)) 0
judged-characters t = goes_on-judged Whole t
