-- What unfolding gives: none of it decomposes, the titlecases don't matter, and parts and characters keep their order.
-- Assumes nothing.
use mathlib.Core.Path.{◌≡◌, refl, sym, ap, ◌∙◌, subst}
use Prim.Native.Nat.{ℕ, suc, ◌+◌}
use native.Mathlib.Nat.{zero-add}
use native.Mathlib.Omega.{arith}
use mathlib.Core.Bool.{true}
use mathlib.Core.List.{List, [], ◌++◌, append_assoc}
use Rattle.terms.specs.Lists.{all, empty}
use Rattle.terms.proofs.Lists.{all_cons, all_append}
use Rattle.utf8.specs.Utf8.{Character, encodes}
use Rattle.table.specs.Mapping.{Mapping}
use Rattle.decompose.specs.Levels.{Unfolds, UnfoldEach}
use Rattle.decompose.specs.Levels.Unfolds.{stays, decomposes}
use Rattle.decompose.specs.Levels.UnfoldEach.{none_left, part}
use Rattle.decompose.specs.Steps.{StepsGive, no-character, character}

-- none of it decomposes
pub unfolded-whole : (m : Mapping) {c : ℕ} {codes : List ℕ} {asked : ℕ} → Unfolds m c codes asked
    → all (λ d. empty (m.parts d)) codes ≡ true
unfolded-whole m u = elim u as
    (λ (c : ℕ) (codes : List ℕ) (asked : ℕ) (x : Unfolds m c codes asked). all (λ d. empty (m.parts d)) codes ≡ true)
    (λ (ps codes : List ℕ) (asked : ℕ) (x : UnfoldEach m ps codes asked). all (λ d. empty (m.parts d)) codes ≡ true) [
      | stays {c = c} e ↦ all_cons (λ d. empty (m.parts d)) c [] (ap empty e) refl
      | decomposes d (v → f) ↦ f
      | none_left ↦ refl
      | part {codes = codes} {rest = rest} (v → f) (w → g) ↦ all_append (λ d. empty (m.parts d)) codes rest f g
    ]

-- over a mapping with the same decompositions it is the same
pub unfolds-parts : (m o : Mapping) → ((c : ℕ) → m.parts c ≡ o.parts c) → {c : ℕ} {codes : List ℕ} {asked : ℕ}
    → Unfolds m c codes asked → Unfolds o c codes asked
unfolds-parts m o same u = elim u as
    (λ (c : ℕ) (codes : List ℕ) (asked : ℕ) (x : Unfolds m c codes asked). Unfolds o c codes asked)
    (λ (ps codes : List ℕ) (asked : ℕ) (x : UnfoldEach m ps codes asked). UnfoldEach o ps codes asked) [
      | stays {c = c} e ↦ stays (sym (same c) ∙ e)
      | decomposes {c = c} {codes = codes} {asked = asked} d (v → f) ↦
          decomposes (λ e. d (same c ∙ e)) (subst (λ (ps : List ℕ). UnfoldEach o ps codes asked) (same c) f)
      | none_left ↦ none_left
      | part (v → f) (w → g) ↦ part f g
    ]

-- of some parts and then of others
pub unfolds-append : (m : Mapping) {ps qs codes rest : List ℕ} {asked later : ℕ} → UnfoldEach m ps codes asked
    → UnfoldEach m qs rest later → UnfoldEach m (ps ++ qs) (codes ++ rest) (asked + later)
unfolds-append m {later = later} none_left v = rw (zero-add later) v
unfolds-append m {rest = rest} {later = later} (part {codes = codes} {rest = more} {asked = asked} {later = then} u w) v =
    let sum : asked + then + later ≡ asked + (then + later) = omega arith in
    rw (append_assoc codes more rest, sum) (part u (unfolds-append m w v))

-- of some characters and then of others
pub steps-give-append : (m : Mapping) {chs ds : List Character} {key more : List ℕ} {n k : ℕ} → StepsGive m chs key n
    → StepsGive m ds more k
    → StepsGive m (chs ++ ds) (key ++ more) (n + k)
steps-give-append m {more = more} {k = k} no-character t = rw (zero-add k) t
steps-give-append m {more = more} {k = k} (character {codes = codes} {key = key} {asked = asked} {later = later} u s) t =
    let sum : suc asked + later + k ≡ suc asked + (later + k) = omega arith in
    rw (append_assoc (encodes codes) key more, sum) (character u (steps-give-append m s t))
