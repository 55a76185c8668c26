-- Octets that trail: which do (`trails`), what they come to, by places and over every width (`trailed`), and which code points
-- are `taken`.
-- Assumes nothing.
use mathlib.Core.Path.{◌≡◌, refl, sym, ◌∙◌, ap}
use mathlib.Core.Bool.{Bool, true, false, true≢false, cond, ◌&&◌}
use Rattle.std.specs.Prelude.{Option, None, Some}
use mathlib.Core.List.{List, [], ◌∷◌, ◌++◌}
use Prim.Native.Nat.{ℕ, zero, suc, ◌+◌, ◌-◌, ◌*◌, ◌/◌, ◌%◌, ◌≤◌, ◌<◌}
use native.Mathlib.Decide.{dec_lt}
use native.Mathlib.Omega.{arith}
use lib.Dec.{leb, ltb}
use lib.ListN.{length, drop}
use borrow.Author.Tests.{ltb-true, leb-true, lt-ltb, le-leb}
use Rattle.terms.specs.Lists.{there, when}
use Rattle.terms.proofs.Tests.{both, join, none-some}
use Rattle.utf8.specs.Utf8.{scalar, Character, character, trails, trailed, taken}
use Rattle.utf8.proofs.Encode.{high_bits, trailing}

-- ---- what is there passed its test

cond-some : {A : Type 0} (b : Bool) (o : Option A) (a : A) → cond b o None ≡ Some a → (b ≡ true) × (o ≡ Some a)
cond-some true o a e = (refl, e)
cond-some false o a e = absurd (none-some a e)

when-some : (b : Bool) (a ch : Character) → when b a ≡ Some ch → (b ≡ true) × (a ≡ ch)
when-some true a ch e = (refl, cc)
when-some false a ch e = absurd (none-some ch e)

-- ---- trails

-- an octet that trails is 80 to BF
abbrev pub Between : ℕ → Type 0
Between b = (0x80 ≤ b) × (b < 0xC0)

pub trails-bounds : (b : ℕ) → trails b ≡ true → Between b
trails-bounds b e =
    let h = both (leb 0x80 b) (ltb b 0xC0) e in
    (leb-true 0x80 b h.0, ltb-true b 0xC0 h.1)

-- and such an octet trails
pub trails-yes : (b : ℕ) → Between b → trails b ≡ true
trails-yes b h = join (leb 0x80 b) (ltb b 0xC0) (le-leb 0x80 b h.0) (lt-ltb b 0xC0 h.1)

-- ---- trailed

-- no octet more
pub trailed-zero : (x : ℕ) (t : List ℕ) → trailed 0 x t ≡ Some x
unfolding trailed
trailed-zero x t = refl

-- one octet more, at the front
trailed-cons : (n x b y : ℕ) (t : List ℕ) → trails b ≡ true → x * 64 + (b - 0x80) ≡ y → trailed (suc n) x (b ∷ t) ≡ trailed n y t
unfolding trailed
trailed-cons n x b y t p e = rw (p, e)

-- too few octets
pub trailed-short : (n x : ℕ) (t : List ℕ) → length t < n → trailed n x t ≡ None
unfolding trailed
trailed-short zero x t h = absurd (omega arith)
trailed-short (suc n) x [] h = refl
trailed-short (suc n) x (b ∷ t) h = by (trails b) (trailed-short n (x * 64 + (b - 0x80)) t (omega arith))
  where
    by : (p : Bool) → trailed n (x * 64 + (b - 0x80)) t ≡ None → cond p (trailed n (x * 64 + (b - 0x80)) t) None ≡ None
    by true e = e
    by false e = refl

-- where they come to a number, there are as many
pub trailed-long : (n x : ℕ) (t : List ℕ) → there (trailed n x t) ≡ true → n ≤ length t
trailed-long n x t h = by (dec_lt (length t) n)
  where
    by : Dec (length t < n) → n ≤ length t
    by (yes l) = absurd (true≢false (sym h ∙ ap there (trailed-short n x t l)))
    by (no l) = omega arith

-- a number's octets that trail, after its high bits, are it
pub trailed-trailing : (n c : ℕ) (t : List ℕ) → trailed n (high_bits n c) (trailing n c ++ t) ≡ Some c
trailed-trailing zero c t = trailed-zero c t
trailed-trailing (suc n) c t =
    let high = high_bits n c in
    trailed-cons n (high / 64) (0x80 + high % 64) high (trailing n c ++ t) (trails-yes (0x80 + high % 64) (omega arith))
    (omega arith)
    ∙ trailed-trailing n c t

-- and octets that trail after the bits x are those of the number that they come to, of which x are the high bits
pub trailed-some : (n x c : ℕ) (t : List ℕ) → trailed n x t ≡ Some c → (high_bits n c ≡ x) × (t ≡ trailing n c ++ drop n t)
unfolding trailed
trailed-some zero x c t e = (cc, refl)
trailed-some (suc n) x c [] e = absurd (none-some c e)
trailed-some (suc n) x c (b ∷ t) e =
    let more = x * 64 + (b - 0x80) in
    let p = cond-some (trails b) (trailed n more t) c e in
    let bounds = trails-bounds b p.0 in
    let r = trailed-some n more c t p.1 in
    let first : 0x80 + high_bits n c % 64 ≡ b = omega (arith, r.0) in
    (omega (arith, r.0), rw first (ap (λ (l : List ℕ). b ∷ l) r.1))

-- ---- taken

-- a scalar code point that is not too low for its width is taken
pub taken_yes : (w least c : ℕ) → least ≤ c → scalar c ≡ true → taken w least (Some c) ≡ Some (character c w)
taken_yes w least c l s = rw (join (leb least c) (scalar c) (le-leb least c l) s)

-- and what is taken is one
pub taken-some : (w least : ℕ) (o : Option ℕ) (ch : Character) → taken w least o ≡ Some ch
    → (c : ℕ) × (o ≡ Some c) × (least ≤ c) × (scalar c ≡ true) × (character c w ≡ ch)
taken-some w least None ch e = absurd (none-some ch e)
taken-some w least (Some c) ch e =
    let h = when-some (leb least c && scalar c) (character c w) ch e in
    let k = both (leb least c) (scalar c) h.0 in
    (c, refl, leb-true least c k.0, k.1, h.1)

-- of what is taken there is a code point
pub taken-there : (w least : ℕ) (o : Option ℕ) → there (taken w least o) ≡ true → there o ≡ true
taken-there w least None h = h
taken-there w least (Some c) h = refl

-- and it is that one
pub taken_is : (w least c : ℕ) (o : Option ℕ) → there (taken w least o) ≡ true → Some c ≡ o → Some (character c w) ≡ taken w least o
taken_is w least c o h e = rw (← e) (by (leb least c && scalar c) (rw (← e) at h))
  where
    by : (b : Bool) → there (when b (character c w)) ≡ true → Some (character c w) ≡ when b (character c w)
    by true h = refl
    by false h = absurd (true≢false (sym h))
