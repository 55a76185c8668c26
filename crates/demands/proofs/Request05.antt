-- Document 02, request 5 (octet lengths by rule), each sentence with the theorems that render it. The rule speaks of an octet alone;
-- what every public call makes of a text goes by its characters, and these by the rule.
-- Assumes nothing.
use Rattle.search.specs.Substring.{Sought}
use Rattle.demands.specs.Demands.{hit_at}
use mathlib.Core.Path.{◌≡◌, refl, sym, ap, ◌∙◌, fun_ext}
use Prim.Native.Nat.{ℕ, suc, ◌-◌, ◌≤◌, ◌<◌}
use mathlib.Core.Bool.{Bool, true, false, cond}
use mathlib.Core.Logic.{inl, inr}
use Rattle.std.specs.Prelude.{None, Some}
use mathlib.Core.List.{List, [], ◌∷◌, ◌++◌, append-nil}
use native.Mathlib.Decide.{dec_lt}
use native.Mathlib.Omega.{arith}
use lib.Dec.{ltb}
use lib.ListN.{length, take, drop, get_or, take-append-drop}
use lib.Seq.{drop-cons}
use Rattle.terms.specs.CodePoints.{scalar}
use Rattle.terms.specs.Lists.{total}
use Rattle.terms.specs.Refusals.{Given}
use Rattle.terms.specs.declared.Collation.TheVariants.{UnicodeCasemap}
use Rattle.terms.specs.declared.KeyPosition.{KeyPosition}
use Rattle.terms.specs.declared.TextPosition.{TextPosition}
use Rattle.utf8.specs.Characters.{Decoder, characters_by}
use Rattle.utf8.specs.Utf8.{Character, character, leading_ones, length_by, announced, encode, trailed, taken, sequence, decode}
use Rattle.utf8.specs.Utf8.{characters, by_range}
use Rattle.utf8.proofs.Lengths.{announced-range, announced-no-ones, announced-ones, announced-one-or-many}
use Rattle.utf8.proofs.Decode.{decode-nil, decode-first, decode-encode, decode-announced-at}
use Rattle.utf8.proofs.Decoders.{characters-at}
use Rattle.utf8.proofs.Characters.{utf8-decodes}
use Rattle.table.specs.Table.{Table}
use Rattle.pages.specs.Pages.{Pages}
use Rattle.prepare.specs.Calls.{Lent, call, Called}
use Rattle.search.specs.Covering.{Span, text_at}
use Rattle.search.specs.Substring.{substring_outcome, sought_values}
use Rattle.demands.specs.Ranges.{decoded_by_range}
use Rattle.demands.proofs.Demand2.{substring-covers}

-- ---- "Take it from the first octet's leading one bits, as RFC 3629 draws it."

-- what is read from the front of octets is the row of the table that the first octet's leading ones name
pub read-by-ones : (a : ℕ) (t : List ℕ) → decode (a ∷ t) ≡ sequence (length_by (leading_ones 8 a)) a t
unfolding announced
read-by-ones a t = decode-first a t (length_by (leading_ones 8 a)) refl

-- ---- "Prove for every octet: no such bit gives 1,"

pub no-bit-gives-1 : (o : ℕ) → leading_ones 8 o ≡ 0 → announced o ≡ Some 1
no-bit-gives-1 = announced-no-ones

-- ---- "two to four give that many,"

pub two-to-four-give-that-many : (o : ℕ) → 2 ≤ leading_ones 8 o → leading_ones 8 o ≤ 4 → announced o ≡ Some (leading_ones 8 o)
two-to-four-give-that-many = announced-ones

-- ---- "any other count begins no sequence;"

pub other-counts-give-none : (o : ℕ) → (leading_ones 8 o ≡ 0 → ⊥) → (2 ≤ leading_ones 8 o → leading_ones 8 o ≤ 4 → ⊥)
    → announced o ≡ None
other-counts-give-none o some-bit others = by (dec_lt (leading_ones 8 o) 2)
  where
    by : Dec (leading_ones 8 o < 2) → announced o ≡ None
    by (yes h) = announced-one-or-many o (inl (omega (arith, some-bit)))
    by (no h) = announced-one-or-many o (inr (omega (arith, others (omega arith))))

-- and no character begins with such an octet, whatever follows it
pub none-begins-none : (o : ℕ) (t : List ℕ) → announced o ≡ None → decode (o ∷ t) ≡ None
none-begins-none o t e = decode-first o t None e

-- ---- "and every valid character is as long as its first octet says."

-- each character of a valid text, the one after those before it
pub as-long-as-said : (t : List ℕ) (before : List Character) (ch : Character) (after : List Character)
    → characters t ≡ Some (before ++ ch ∷ after)
    → announced (get_or t (total (λ (x : Character). x.width) before) 0) ≡ Some ch.width
as-long-as-said t before ch after e =
    decode-announced-at t (total (λ (x : Character). x.width) before) ch (characters-at utf8-decodes before t ch after e)

-- the octets of every scalar code point
pub encoded-as-long-as-said : (c : ℕ) → scalar c ≡ true → announced (get_or (encode c) 0 0) ≡ Some (length (encode c))
encoded-as-long-as-said c s =
    decode-announced-at (encode c) 0 _ (ap decode (sym (append-nil (encode c))) ∙ decode-encode c [] s)

-- and so a hit that `substring` reports in a valid text begins with an octet that announces a character, not inside of one
pub hit-begins-a-character : {t : Table} {pg : Pages} {l n : Lent} {r : Sought} {after : List (List ℕ)}
    → Called substring_outcome sought_values (call (Some UnicodeCasemap) t pg (l ∷ n ∷ [])) r after → Given (substring_outcome r)
    → 0 < length l.text
    → {a b : KeyPosition} {c d : TextPosition} → r ≡ hit_at a b c d
    → {chs : List Character} → characters n.text ≡ Some chs
    → (w : ℕ) × (announced (get_or n.text c.0 0) ≡ Some w)
hit-begins-a-character {n} h answers text {c} e {chs} valid =
    let run = substring-covers h answers text e valid in
    let j = run.first in
    let ch = get_or chs j (character 0 0) in
    let later = drop (suc j) chs in
    let next = drop-cons chs j (character 0 0) (omega (arith, run.some, run.most)) in
    let all_of : chs ≡ take j chs ++ ch ∷ later =
    sym (take-append-drop j chs) ∙ ap (λ (rest : List Character). take j chs ++ rest) next in
    let at_c : c.0 ≡ text_at chs j = ap (λ (x : Span). x.start) run.whole in (
      ch.width,
      ap (λ (i : ℕ). announced (get_or n.text i 0)) at_c
          ∙ as-long-as-said n.text (take j chs) ch later (valid ∙ ap Some all_of),
    )

-- ---- "No answer changes."

-- an octet's length is that of the range in which it stands
pub lengths-by-range : (o : ℕ) → announced o ≡ by_range o
lengths-by-range = announced-range

-- so what is read from any octets is what was read before
pub reads-as-before : (t : List ℕ) → decode t ≡ decoded_by_range t
reads-as-before [] = decode-nil
reads-as-before (a ∷ t) =
    decode-first a t (by_range a) (announced-range a) ∙ by (ltb a 0x80) (ltb a 0xC0) (ltb a 0xE0) (ltb a 0xF0) (ltb a 0xF8)
  where
    by : (p q r s u : Bool)
        → sequence (cond p (Some 1) (cond q None (cond r (Some 2) (cond s (Some 3) (cond u (Some 4) None))))) a t
        ≡ cond p (Some (character a 1))
        (cond q None
        (cond r (taken 2 0x80 (trailed 1 (a - 0xC0) t))
        (cond s (taken 3 0x800 (trailed 2 (a - 0xE0) t)) (cond u (taken 4 0x10000 (trailed 3 (a - 0xF0) t)) None))))
    by true q r s u = refl
    by false true r s u = refl
    by false false true s u = refl
    by false false false true u = refl
    by false false false false true = refl
    by false false false false false = refl

-- and every text has the characters that it had, from which keys, order and hits are made
pub characters-as-before : (t : List ℕ) → characters t ≡ characters_by decoded_by_range t
characters-as-before t = ap (λ (d : Decoder). characters_by d t) (fun_ext reads-as-before)
