-- The characters of a text over every decoder:
-- the first of them and the others (`characters-cons`), and where there are none (`characters-empty`);
-- how many there are (`characters-count`), that they are scalar (`characters-scalars`), and where each stands (`characters-at`);
-- and from a place of a text on, as a walk meets them: the next one, those after it, and the end.
-- Assumes nothing.
use mathlib.Core.Path.{◌≡◌, refl, sym, ◌∙◌, ap}
use mathlib.Core.Bool.{true}
use Rattle.std.specs.Prelude.{Option, None, Some}
use mathlib.Core.List.{List, [], ◌∷◌, ◌++◌}
use Prim.Native.Nat.{ℕ, ◌+◌, ◌≤◌, ◌<◌}
use native.Mathlib.Omega.{arith}
use lib.ListN.{length, drop, length-drop, drop_of_length-le}
use lib.Seq.{drop-drop}
use Rattle.terms.specs.CodePoints.{scalar}
use Rattle.terms.specs.Lists.{all, there, total}
use Rattle.terms.proofs.Lists.{all_cons}
use Rattle.terms.proofs.Tests.{none-some}
use Rattle.utf8.specs.Characters.{Character, codes_of, Decoder, Decodes, prepend, characters_by, characters-nil}
use Rattle.utf8.specs.Characters.{characters-more, characters-none}

-- what a character before others came from
prepend-some : (ch : Character) (o : Option (List Character)) (chs : List Character) → prepend ch o ≡ Some chs
    → (rest : List Character) × (o ≡ Some rest) × (ch ∷ rest ≡ chs)
prepend-some ch None chs e = absurd (none-some chs e)
prepend-some ch (Some rest) chs e = (rest, refl, cc)

there-prepend : (ch : Character) (o : Option (List Character)) → there (prepend ch o) ≡ there o
there-prepend ch None = refl
there-prepend ch (Some chs) = refl

module _ {decode : Decoder} (d : Decodes decode) where
  -- ---- the characters of a text

  -- of a text that is not empty: its first character, and those of what follows it
  record First (t : List ℕ) (chs : List Character) : Type 0 where
    ch : Character
    rest : List Character
    decoded : decode t ≡ Some ch
    follow : characters_by decode (drop ch.width t) ≡ Some rest
    all_of : ch ∷ rest ≡ chs

  first : (t : List ℕ) (chs : List Character) → 0 < length t → characters_by decode t ≡ Some chs → First t chs
  first t chs h e = by (decode t) refl
    where
      by : (o : Option Character) → decode t ≡ o → First t chs
      by None f = absurd (none-some chs (sym (characters-none d t f h) ∙ e))
      by (Some ch) f =
          let p = prepend-some ch (characters_by decode (drop ch.width t)) chs (sym (characters-more d t ch f) ∙ e) in
          record { ch = ch; rest = p.0; decoded = f; follow = p.1; all_of = p.2 }

  -- the first of a text's characters stands at its front, and the others are those of what follows it
  pub characters-cons : (t : List ℕ) (ch : Character) (chs : List Character) → characters_by decode t ≡ Some (ch ∷ chs)
      → (decode t ≡ Some ch) × (characters_by decode (drop ch.width t) ≡ Some chs)
  characters-cons [] ch chs e = let z : ◌≡◌ {A = ℕ} 0 1 = cc (characters-nil d) in absurd (omega arith)
  characters-cons (a ∷ t) ch chs e =
      let f = first (a ∷ t) (ch ∷ chs) (omega arith) e in
      let same : f.ch ≡ ch = cc in (
        f.decoded ∙ ap Some same,
        ap (λ (x : Character). characters_by decode (drop x.width (a ∷ t)))
            (sym same) ∙ f.follow ∙ cc,
      )

  -- a text whose characters are none is empty
  pub characters-empty : (t : List ℕ) → characters_by decode t ≡ Some [] → t ≡ []
  characters-empty [] e = refl
  characters-empty (a ∷ t) e =
      let f = first (a ∷ t) [] (omega arith) e in
      let z : ◌≡◌ {A = ℕ} 0 1 = cc in
      absurd (omega arith)

  -- a text has at most as many characters as octets
  pub characters-count : (t : List ℕ) (chs : List Character) → characters_by decode t ≡ Some chs → length chs ≤ length t
  characters-count t [] e = omega arith
  characters-count t (ch ∷ chs) e =
      let f = characters-cons t ch chs e in
      omega (arith, characters-count (drop ch.width t) chs f.1, d.fits t ch f.0, length-drop ch.width t)

  -- and they are scalar
  pub characters-scalars : (t : List ℕ) (chs : List Character) → characters_by decode t ≡ Some chs
      → all scalar (codes_of chs) ≡ true
  characters-scalars t [] e = refl
  characters-scalars t (ch ∷ chs) e =
      let f = characters-cons t ch chs e in
      all_cons scalar ch.code (codes_of chs) (d.scalars t ch f.0) (characters-scalars (drop ch.width t) chs f.1)

  -- each stands after those before it
  pub characters-at : (before : List Character) (t : List ℕ) (ch : Character) (after : List Character)
      → characters_by decode t ≡ Some (before ++ ch ∷ after)
      → decode (drop (total (λ (x : Character). x.width) before) t) ≡ Some ch
  unfolding total
  characters-at [] t ch after e = (characters-cons t ch after e).0
  characters-at (b ∷ before) t ch after e =
      let more = total (λ (x : Character). x.width) before in
      sym (ap decode (drop-drop more b.width t))
      ∙ characters-at before (drop b.width t) ch after (characters-cons t b (before ++ ch ∷ after) e).1

  -- ---- from a place of a text on

  module _ (t : List ℕ) (at : ℕ) where
    -- a character takes an octet or more, and no more than are left
    pub decode-drop-fits : (ch : Character) → at ≤ length t → decode (drop at t) ≡ Some ch
        → (1 ≤ ch.width) × (at + ch.width ≤ length t)
    decode-drop-fits ch h e = omega (arith, d.fits (drop at t) ch e, length-drop at t)

    -- the one there, and those after it
    pub characters-drop : (ch : Character) → decode (drop at t) ≡ Some ch
        → characters_by decode (drop at t) ≡ prepend ch (characters_by decode (drop (at + ch.width) t))
    characters-drop ch e = characters-more d (drop at t) ch e ∙ rw (drop-drop ch.width at t)

    -- they are there where those after it are
    pub there-drop : (ch : Character) → decode (drop at t) ≡ Some ch
        → there (characters_by decode (drop at t)) ≡ there (characters_by decode (drop (at + ch.width) t))
    there-drop ch e = ap there (characters-drop ch e) ∙ there-prepend ch (characters_by decode (drop (at + ch.width) t))

    -- where they are there, one stands before the end
    pub there-next : there (characters_by decode (drop at t)) ≡ true → at < length t → there (decode (drop at t)) ≡ true
    there-next v h = by (decode (drop at t)) refl
      where
        by : (o : Option Character) → decode (drop at t) ≡ o → there o ≡ true
        by None e = sym (ap there (characters-none d (drop at t) e (omega (arith, length-drop at t)))) ∙ v
        by (Some ch) e = refl

    -- at the end there are none
    pub characters-end : length t ≤ at → characters_by decode (drop at t) ≡ Some []
    characters-end h = rw (drop_of_length-le t h) (characters-nil d)
