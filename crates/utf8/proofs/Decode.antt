-- `decode` by the first octet; the octets of a scalar code point decode to it, whatever follows them; what decodes is a
-- scalar code point whose octets the text begins with; so no code point's octets begin another's.
-- Assumes nothing.
use mathlib.Core.Path.{◌≡◌, refl, sym, ◌∙◌, ap, subst}
use mathlib.Core.Bool.{true, true≢false, ◌&&◌, not}
use Rattle.std.specs.Prelude.{Option, None, Some}
use mathlib.Core.List.{List, [], ◌∷◌, ◌++◌}
use Prim.Native.Nat.{ℕ, suc, ◌+◌, ◌-◌, ◌<◌}
use native.Mathlib.Decide.{dec_lt}
use native.Mathlib.Omega.{arith}
use lib.Dec.{leb}
use lib.ListN.{length, take, drop, get_or, drop_of_length-le}
use lib.Seq.{drop-cons, drop-append_seam}
use borrow.Author.Tests.{le-leb, lt-leb}
use Rattle.terms.specs.Lists.{there}
use Rattle.terms.proofs.Parts.{drop-part}
use Rattle.terms.proofs.Tests.{join, none-some}
use Rattle.utf8.specs.Utf8.{scalar, encode, Character, character, trailed, taken, announced, sequence, decode}
use Rattle.terms.proofs.Scalars.{scalar-most}
use Rattle.utf8.proofs.Encode.{encode_one, high_bits, trailing, length-trailing, Lead, leads_two}
use Rattle.utf8.proofs.Encode.{leads_three, leads_four, encode-longer, longer}
use Rattle.utf8.proofs.Lengths.{announced-one, announced-lead, Says, alone, leads, begins_none, says}
use Rattle.utf8.proofs.Trailed.{trailed-trailing, trailed-some, taken_yes, taken-some}

-- ---- decode by the first octet

-- no octets
pub decode-nil : decode [] ≡ None
unfolding decode
decode-nil = refl

-- at or past the end: a character stands before it
pub decode-stands : (t : List ℕ) (i : ℕ) → there (decode (drop i t)) ≡ true → i < length t
decode-stands t i h = by (dec_lt i (length t))
  where
    by : Dec (i < length t) → i < length t
    by (yes l) = l
    by (no l) =
        let past : drop i t ≡ [] = drop_of_length-le t {i = i} (omega arith) in
        absurd (true≢false (sym h ∙ ap there (ap decode past ∙ decode-nil)))

-- the octet announces a length, or none
pub decode-first : (a : ℕ) (t : List ℕ) (o : Option ℕ) → announced a ≡ o → decode (a ∷ t) ≡ sequence o a t
unfolding decode
decode-first a t o e = rw e

-- the same at a place of a text, before the part that follows the octet there
pub decode-at : (t : List ℕ) (i : ℕ) (o : Option ℕ) → i < length t → o ≡ announced (get_or t i 0)
    → decode (drop i t) ≡ sequence o (get_or t i 0) (take (length t - (i + 1)) (drop (i + 1) t))
decode-at t i o h e =
    ap decode (drop-part i t h) ∙ decode-first (get_or t i 0) (take (length t - (i + 1)) (drop (i + 1) t)) o (sym e)

-- one octet
pub decode-one : (a : ℕ) (t : List ℕ) → a < 0x80 → decode (a ∷ t) ≡ Some (character a 1)
decode-one a t h = decode-first a t (Some 1) (announced-one a h)

-- more: the row of the table, by the bits that the octet carries
sequence-lead : (a x n least : ℕ) (t : List ℕ) → Lead a x n least
    → sequence (Some (suc n)) a t ≡ taken (suc n) least (trailed n x t)
sequence-lead a x n least t (leads_two e h) = let bits : a - 0xC0 ≡ x = omega arith in rw bits
sequence-lead a x n least t (leads_three e h) = let bits : a - 0xE0 ≡ x = omega arith in rw bits
sequence-lead a x n least t (leads_four e h) = let bits : a - 0xF0 ≡ x = omega arith in rw bits

pub decode-longer : (a x n least : ℕ) (t : List ℕ) → Lead a x n least → decode (a ∷ t) ≡ taken (suc n) least (trailed n x t)
decode-longer a x n least t lead =
    decode-first a t (Some (suc n)) (announced-lead a x n least lead) ∙ sequence-lead a x n least t lead

-- ---- what is encoded decodes

-- the octets of a scalar code point decode to it, whatever follows them
pub decode-encode : (c : ℕ) (t : List ℕ) → scalar c ≡ true → decode (encode c ++ t) ≡ Some (character c (length (encode c)))
decode-encode c t s = by (dec_lt c 0x80)
  where
    by : Dec (c < 0x80) → decode (encode c ++ t) ≡ Some (character c (length (encode c)))
    by (yes h) = rw (encode_one c h) (decode-one c t h)
    by (no h) =
        let r = longer c (omega arith) (scalar-most c s) in
        let n = r.count in
        rw (encode-longer r.first (high_bits n c) n r.least c r.lead refl r.enough)
        (decode-longer r.first (high_bits n c) n r.least (trailing n c ++ t) r.lead
        ∙ ap (taken (suc n) r.least) (trailed-trailing n c t)
        ∙ taken_yes (suc n) r.least c r.enough s
        ∙ ap (λ (w : ℕ). Some (character c (suc w))) (sym (length-trailing n c)))

-- ---- what decodes is encoded

-- a character at the front of a text: it is scalar, the text begins with its octets, and it took just these
pub record Decoded (t : List ℕ) (ch : Character) : Type 0 where
  pub is_scalar : scalar ch.code ≡ true
  pub octets : t ≡ encode ch.code ++ drop ch.width t
  pub wide : ch.width ≡ length (encode ch.code)

decoded : (t rest : List ℕ) (c w : ℕ) (ch : Character) → scalar c ≡ true → t ≡ encode c ++ rest → w ≡ length (encode c)
    → character c w ≡ ch
    → Decoded t ch
decoded t rest c w ch s o e is =
    subst
    (λ (x : Character). Decoded t x)
    is
    (record { is_scalar = s; octets = o ∙ ap (λ (r : List ℕ). encode c ++ r) left; wide = e })
  where
    left : rest ≡ drop w t
    left = rw (e, o) (sym (drop-append_seam (encode c) rest))

-- a code point below 80 is scalar
scalar-low : (c : ℕ) → c < 0x80 → scalar c ≡ true
scalar-low c h =
    join (leb c 0x10FFFF) (not (leb 0xD800 c && leb c 0xDFFF)) (le-leb c 0x10FFFF (omega arith))
    (rw (lt-leb 0xD800 c (omega arith)))

sound-one : (a : ℕ) (t : List ℕ) (ch : Character) → a < 0x80 → decode (a ∷ t) ≡ Some ch → Decoded (a ∷ t) ch
sound-one a t ch h e =
    let f = decode-one a t h in
    let is : character a 1 ≡ ch = cc in
    decoded (a ∷ t) t a 1 ch (scalar-low a h) (rw (encode_one a h)) (rw (encode_one a h)) is

sound-longer : (a x n least : ℕ) (t : List ℕ) (ch : Character) → Lead a x n least → decode (a ∷ t) ≡ Some ch → Decoded (a ∷ t) ch
sound-longer a x n least t ch lead e =
    let q = taken-some (suc n) least (trailed n x t) ch (sym (decode-longer a x n least t lead) ∙ e) in
    let r = trailed-some n x q.0 t q.1 in
    let o = encode-longer a x n least q.0 lead r.0 q.2 in
    decoded (a ∷ t) (drop n t) q.0 (suc n) ch q.3 (rw o (ap (λ (l : List ℕ). a ∷ l) r.1))
    (rw o (ap suc (sym (length-trailing n q.0))))
    q.4

-- what decodes is a scalar code point, and the text begins with its octets
pub decode-sound : (t : List ℕ) (ch : Character) → decode t ≡ Some ch → Decoded t ch
decode-sound [] ch e = absurd (none-some ch (sym decode-nil ∙ e))
decode-sound (a ∷ t) ch e = by (announced a) refl (says a)
  where
    by : (o : Option ℕ) → announced a ≡ o → Says a o → Decoded (a ∷ t) ch
    by o is (alone h) = sound-one a t ch h e
    by o is (leads x n least lead) = sound-longer a x n least t ch lead e
    by o is begins_none = absurd (none-some ch (sym (decode-first a t None is) ∙ e))

-- a character is as long as its first octet announces
pub decode-announced : (a : ℕ) (t : List ℕ) (ch : Character) → decode (a ∷ t) ≡ Some ch → announced a ≡ Some ch.width
decode-announced a t ch e = by (announced a) refl (says a)
  where
    by : (o : Option ℕ) → announced a ≡ o → Says a o → announced a ≡ Some ch.width
    by o is (alone h) =
        let one = decode-one a t h in
        let ch-is : character a 1 ≡ ch = cc in
        is ∙ ap (λ (x : Character). Some x.width) ch-is
    by o is (leads x n least lead) =
        let q = taken-some (suc n) least (trailed n x t) ch (sym (decode-longer a x n least t lead) ∙ e) in
        is ∙ ap (λ (x : Character). Some x.width) q.4
    by o is begins_none = absurd (none-some ch (sym (decode-first a t None is) ∙ e))

-- wherever it stands
pub decode-announced-at : (t : List ℕ) (i : ℕ) (ch : Character) → decode (drop i t) ≡ Some ch
    → announced (get_or t i 0) ≡ Some ch.width
decode-announced-at t i ch e =
    let starts = drop-cons t i 0 (decode-stands t i (ap there e)) in
    decode-announced (get_or t i 0) (drop (suc i) t) ch (sym (ap decode starts) ∙ e)

-- ---- no code point's octets begin another's

-- texts that begin with the octets of scalar code points agree in these and in the rest, where they agree
pub encode-prefix-free : (c d : ℕ) (s t : List ℕ) → scalar c ≡ true → scalar d ≡ true → encode c ++ s ≡ encode d ++ t
    → (c ≡ d) × (s ≡ t)
encode-prefix-free c d s t p q e = (same, rest)
  where
    both-are : character c (length (encode c)) ≡ character d (length (encode d))
    both-are = cc (decode-encode c s p, decode-encode d t q)

    same : c ≡ d
    same = ap (λ (ch : Character). ch.code) both-are

    rest : s ≡ t
    rest =
        sym (drop-append_seam (encode c) s)
        ∙ ap (λ (l : List ℕ). drop (length (encode c)) l) e
        ∙ ap (λ (x : ℕ). drop (length (encode x)) (encode d ++ t)) same
        ∙ drop-append_seam (encode d) t

-- scalar code points with the same octets are the same
pub encode_injective : (c d : ℕ) → scalar c ≡ true → scalar d ≡ true → encode c ≡ encode d → c ≡ d
encode_injective c d p q e = (encode-prefix-free c d [] [] p q (ap (λ (l : List ℕ). l ++ []) e)).0
