-- What may follow a first octet: octets that trail and then characters (`tailed`), the first of them perhaps in a narrower range
-- (`amid`). After the bits x of a first octet this is so where every number that the octets can come to is taken (`held-tailed`),
-- or where just the numbers are taken whose next six bits stand in that range (`held-amid`).
-- Assumes nothing.
use mathlib.Core.Path.{◌≡◌, refl, sym, ◌∙◌, ap}
use mathlib.Core.Bool.{Bool, true, false, ◌&&◌}
use mathlib.Core.Logic.{◌⊎◌, inl, inr}
use Rattle.std.specs.Prelude.{Option, None, Some}
use mathlib.Core.List.{List, [], ◌∷◌}
use Prim.Native.Nat.{ℕ, zero, suc, ◌+◌, ◌-◌, ◌*◌, ◌≤◌, ◌<◌}
use native.Mathlib.Decide.{dec_lt, dec_le}
use native.Mathlib.Nat.{zero-add}
use native.Mathlib.Omega.{arith}
use lib.Dec.{leb, ltb}
use lib.ListN.{drop}
use borrow.Author.Tests.{le-leb, lt-leb, le-ltb, lt-ltb}
use Rattle.terms.specs.Lists.{there, when}
use Rattle.utf8.specs.Characters.{characters-none}
use Rattle.utf8.specs.Utf8.{scalar, Character, character, trails, trailed, taken, characters}
use Rattle.utf8.proofs.Encode.{Lead}
use Rattle.utf8.proofs.Decode.{decode-longer}
use Rattle.utf8.proofs.Decoders.{there-drop}
use Rattle.utf8.proofs.Characters.{utf8-decodes}
use Rattle.utf8.proofs.Trailed.{Between, trails-bounds, trails-yes, taken-some}

-- ---- octets that follow

-- an octet stands in a range
abbrev pub in_range : ℕ → ℕ → ℕ → Bool
in_range low high b = leb low b && leb b high

-- n octets that trail, and then characters
abbrev pub tailed : ℕ → List ℕ → Bool
tailed zero t = there (characters t)
tailed (suc n) [] = false
tailed (suc n) (b ∷ t) = in_range 0x80 0xBF b && tailed n t

-- an octet from low to high, then n that trail, and then characters
abbrev pub amid : ℕ → ℕ → ℕ → List ℕ → Bool
amid low high n [] = false
amid low high n (b ∷ t) = in_range low high b && tailed n t

-- ---- what a first octet asks of them

-- whether a code point that was read is taken
abbrev fits : ℕ → Option ℕ → Bool
fits least None = false
fits least (Some c) = leb least c && scalar c

there-taken : (w least : ℕ) (o : Option ℕ) → there (taken w least o) ≡ fits least o
there-taken w least None = refl
there-taken w least (Some c) = by (leb least c && scalar c)
  where
    by : (p : Bool) → there (when p (character c w)) ≡ p
    by true = refl
    by false = refl

-- after a first octet with the bits x: n octets trail, the number is taken, and then come characters
abbrev held : ℕ → ℕ → ℕ → List ℕ → Bool
held least n x t = fits least (trailed n x t) && there (characters (drop n t))

-- such a first octet begins a valid text where this holds of the octets after it
pub characters-lead : (a x n least : ℕ) (t : List ℕ) → Lead a x n least → there (characters (a ∷ t)) ≡ held least n x t
characters-lead a x n least t lead =
    by (taken (suc n) least (trailed n x t)) refl
    ∙ ap (λ (p : Bool). p && there (characters (drop n t))) (there-taken (suc n) least (trailed n x t))
  where
    by : (o : Option Character) → taken (suc n) least (trailed n x t) ≡ o
        → there (characters (a ∷ t)) ≡ (there (taken (suc n) least (trailed n x t)) && there (characters (drop n t)))
    by None e =
        rw e (ap there (characters-none utf8-decodes (a ∷ t) (decode-longer a x n least t lead ∙ e) (omega arith)))
    by (Some ch) e =
        let q = taken-some (suc n) least (trailed n x t) ch e in
        let read = decode-longer a x n least t lead ∙ e ∙ ap Some (sym q.4) in
        rw e (rw (zero-add (suc n)) at (there-drop utf8-decodes (a ∷ t) 0 (character q.0 (suc n)) read))

-- the bits x, and after them those of an octet that trails
abbrev pub with_bits : ℕ → ℕ → ℕ
with_bits x b = x * 64 + (b - 0x80)

-- every number with the high bits x and n octets more passes the test of `fits`, or every one fails it
abbrev pub Fits : Bool → ℕ → ℕ → ℕ → Type 0
Fits p least zero x = (leb least x && scalar x) ≡ p
Fits p least (suc n) x = (y : ℕ) → y < 64 → Fits p least n (x * 64 + y)

-- an octet trails where it stands in the range of those
trails-in_range : (b : ℕ) → trails b ≡ in_range 0x80 0xBF b
trails-in_range b = ap (λ (p : Bool). leb 0x80 b && p) (by (dec_lt b 0xC0))
  where
    by : Dec (b < 0xC0) → ltb b 0xC0 ≡ leb b 0xBF
    by (yes h) = lt-ltb b 0xC0 h ∙ sym (le-leb b 0xBF (omega arith))
    by (no h) = le-ltb b 0xC0 (omega arith) ∙ sym (lt-leb b 0xBF (omega arith))

-- no octet is left where one must come
none_left : (p : Bool) → false ≡ (p && false)
none_left true = refl
none_left false = refl

-- one octet more
held-trails : (least n x b : ℕ) (t : List ℕ) → trails b ≡ true
    → held least (suc n) x (b ∷ t) ≡ held least n (with_bits x b) t
unfolding trailed
held-trails least n x b t e = rw e

held-stops : (least n x b : ℕ) (t : List ℕ) → trails b ≡ false → held least (suc n) x (b ∷ t) ≡ false
unfolding trailed
held-stops least n x b t e = rw e

held-nil : (least n x : ℕ) → held least (suc n) x [] ≡ false
unfolding trailed
held-nil least n x = refl

held-zero : (least x : ℕ) (t : List ℕ) → held least 0 x t ≡ ((leb least x && scalar x) && there (characters t))
unfolding trailed
held-zero least x t = refl

-- where all numbers pass, or all fail, what follows need only trail
pub held-tailed : (p : Bool) (least n x : ℕ) (t : List ℕ) → Fits p least n x → held least n x t ≡ (p && tailed n t)
held-tailed p least zero x t f = held-zero least x t ∙ rw f
held-tailed p least (suc n) x [] f = held-nil least n x ∙ none_left p
held-tailed p least (suc n) x (b ∷ t) f =
    by (trails b) refl (λ h. held-tailed p least n (with_bits x b) t (f (b - 0x80) h))
  where
    by : (q : Bool) → trails b ≡ q → (b - 0x80 < 64 → held least n (with_bits x b) t ≡ (p && tailed n t))
        → held least (suc n) x (b ∷ t) ≡ (p && (in_range 0x80 0xBF b && tailed n t))
    by true e rest =
        let bounds = trails-bounds b e in
        rw (sym (trails-in_range b) ∙ e) (held-trails least n x b t e ∙ rest (omega (arith, bounds)))
    by false e rest = rw (sym (trails-in_range b) ∙ e) (held-stops least n x b t e ∙ none_left p)

-- where just those numbers pass whose next six bits come from an octet from low to high, the next octet must be one of these
pub record Narrows (low high least n x : ℕ) : Type 0 where
  pub from : 0x80 ≤ low
  pub to : high ≤ 0xBF
  pub inside : (b : ℕ) → low ≤ b → b ≤ high → Fits true least n (with_bits x b)
  pub outside : (b : ℕ) → Between b → (b < low) ⊎ (high < b) → Fits false least n (with_bits x b)

pub held-amid : {low high least n x : ℕ} (t : List ℕ) → Narrows low high least n x → held least (suc n) x t ≡ amid low high n t
held-amid {least = least} {n = n} {x = x} [] f = held-nil least n x
held-amid {low} {high} {least} {n} {x} (b ∷ t) f = by (dec_le low b) (dec_le b high)
  where
    -- it is not one of these
    misses : (b < low) ⊎ (high < b) → held least (suc n) x (b ∷ t) ≡ false
    misses out = go (trails b) refl
      where
        go : (q : Bool) → trails b ≡ q → held least (suc n) x (b ∷ t) ≡ false
        go true e =
            held-trails least n x b t e
            ∙ held-tailed false least n (with_bits x b) t (f.outside b (trails-bounds b e) out)
        go false e = held-stops least n x b t e

    by : Dec (low ≤ b) → Dec (b ≤ high) → held least (suc n) x (b ∷ t) ≡ (in_range low high b && tailed n t)
    by (yes l) (yes h) =
        rw
        (le-leb low b l, le-leb b high h)
        (held-trails least n x b t (trails-yes b (omega (arith, f.from), omega (arith, f.to)))
        ∙ held-tailed true least n (with_bits x b) t (f.inside b l h))
    by (yes l) (no h) = rw (le-leb low b l, lt-leb b high (omega arith)) (misses (inr (omega arith)))
    by (no l) q = rw (lt-leb low b (omega arith)) (misses (inl (omega arith)))
