-- Texts by their ends: each of them, what is left from a place on, and how many octets they have.
-- Assumes nothing.
use mathlib.Core.Path.{◌≡◌, refl, sym, ap, ap₂, ◌∙◌}
use Prim.Native.Nat.{ℕ, zero, suc, ◌+◌, ◌*◌, ◌-◌, ◌≤◌, ◌<◌}
use native.Mathlib.Omega.{arith}
use mathlib.Core.List.{List, [], ◌∷◌, map}
use lib.ListN.{length, take, drop, get_or, length-map, length-drop, drop_of_length-le}
use lib.Seq.{drop-cons, take-length, length-take-le}
use Rattle.terms.specs.Lists.{total}
use Rattle.terms.specs.Refusals.{text_most, expansion_most}
use Rattle.terms.proofs.Lists.{total_take_more}
use Rattle.sorting.specs.KeyOrder.{start_of, key_in}
use Rattle.sorting.specs.Sorted.{numbers}
use Rattle.storing.specs.Stored.{joined, strings_in}
use Rattle.storing.proofs.Ended.{joined-most}
use Rattle.partners.proofs.Finding.{map-map}
use Rattle.partners.proofs.Those.{length-numbers, numbers-at}
use Rattle.many.specs.Promises.{Texts}

module _ (octets ends : List ℕ) where
  -- as many as ends
  pub length-strings : length (strings_in octets ends) ≡ length ends
  length-strings = length-map (numbers 0 (length ends)) (key_in octets ends) ∙ length-numbers 0 (length ends)

  module _ (i : ℕ) (h : i < length ends) where
    pub string-at : get_or (strings_in octets ends) i [] ≡ key_in octets ends i
    string-at =
        let same : 0 + i ≡ i = omega arith in
        numbers-at (key_in octets ends) [] 0 (length ends) i h ∙ ap (key_in octets ends) same

    -- what is made of a text
    pub made_at : (f : List ℕ → ℕ) → get_or (map f (strings_in octets ends)) i 0 ≡ f (key_in octets ends i)
    made_at f =
        let same : 0 + i ≡ i = omega arith in
        ap (λ (xs : List ℕ). get_or xs i 0) (map-map f (key_in octets ends) (numbers 0 (length ends)))
        ∙ numbers-at (λ x. f (key_in octets ends x)) 0 0 (length ends) i h
        ∙ ap (λ (x : ℕ). f (key_in octets ends x)) same

    -- the texts from a place on: the one there, and those after it
    pub keys-next : (key : List ℕ → List ℕ)
        → map key (drop i (strings_in octets ends)) ≡ key (key_in octets ends i) ∷ map key (drop (i + 1) (strings_in octets ends))
    keys-next key =
        let next : suc i ≡ i + 1 = omega arith in
        ap (map key)
        (drop-cons (strings_in octets ends) i [] (omega (arith, length-strings))
        ∙ ap₂ (λ (t : List ℕ) (n : ℕ). t ∷ drop n (strings_in octets ends)) string-at next)

  -- and none after the last
  pub keys-done : (key : List ℕ → List ℕ) (i : ℕ) → length ends ≤ i → map key (drop i (strings_in octets ends)) ≡ []
  keys-done key i h = ap (map key) (drop_of_length-le (strings_in octets ends) {i = i} (omega (arith, length-strings)))

  module _ (s : Texts octets ends) where
    -- as long as from where it begins to where it ends
    pub length-string : (i : ℕ) → i < length ends → length (key_in octets ends i) ≡ get_or ends i 0 - start_of ends i
    unfolding key_in
    length-string i h =
        length-take-le (get_or ends i 0 - start_of ends i) (drop (start_of ends i) octets)
        (omega (arith, length-drop (start_of ends i) octets, s.sound.forward i h, s.sound.within i h))

    pub string-short : (i : ℕ) → i < length ends → length (key_in octets ends i) ≤ text_most
    string-short i h = omega (arith, length-string i h, s.short i h)

    -- ---- how many octets

    abbrev upto : ℕ → ℕ
    upto i = total (λ t. length t) (take i (strings_in octets ends))

    -- the texts before a place end where it begins
    before : (i : ℕ) → i ≤ length ends → upto i ≡ start_of ends i
    unfolding total
    before zero h = refl
    before (suc i) h =
        let here : i < length ends = omega arith in
        let next : i + 1 ≡ suc i = omega arith in
        ap upto (sym next)
        ∙ total_take_more (λ t. length t) (strings_in octets ends) i [] (omega (arith, length-strings))
        ∙ (let long : length (get_or (strings_in octets ends) i []) ≡ get_or ends i 0 - start_of ends i =
        ap length (string-at i here) ∙ length-string i here
        in
        omega (arith, long, before i (omega arith), s.sound.forward i here))

    start-within : (i : ℕ) → i ≤ length ends → start_of ends i ≤ length octets
    start-within zero h = omega arith
    start-within (suc i) h = s.sound.within i (omega arith)

    start-most : (i : ℕ) → i ≤ length ends → start_of ends i ≤ text_most * i
    start-most zero h = omega arith
    start-most (suc i) h =
        omega (arith, s.short i (omega arith), s.sound.forward i (omega arith), start-most i (omega arith))

    all : total (λ t. length t) (strings_in octets ends) ≡ start_of ends (length ends)
    all =
        ap (λ (ts : List (List ℕ)). total (λ t. length t) ts) (sym
        (ap (λ (n : ℕ). take n (strings_in octets ends)) (sym length-strings) ∙ take-length (strings_in octets ends)))
        ∙ before (length ends) (omega arith)

    module _ (key : List ℕ → List ℕ) (most : (t : List ℕ) → length (key t) ≤ expansion_most * length t) where
      -- room for 128 times the octets is room for the keys
      pub keys-within : length (joined (map key (strings_in octets ends))) ≤ expansion_most * length octets
      keys-within =
          omega (arith, joined-most key most (strings_in octets ends), all, start-within (length ends) (omega arith))

      -- no sum of their lengths wraps
      pub keys-few : length (joined (map key (strings_in octets ends))) ≤ 524288 * length ends
      keys-few = omega (arith, joined-most key most (strings_in octets ends), all, start-most (length ends) (omega arith))
