-- The covering run out of two walks, by every decoder: the second goes on from the character that the first found
-- (`Resumed`), and finds what a walk from the start of the text would.
-- Assumes nothing.
use mathlib.Core.Path.{◌≡◌, refl, sym, ap, ap₂, ◌∙◌}
use Prim.Native.Nat.{ℕ, ◌+◌, ◌-◌, ◌≤◌, ◌<◌, pred}
use native.Mathlib.Decide.{dec_lt}
use native.Mathlib.Omega.{arith}
use mathlib.Core.Bool.{true}
use Rattle.std.specs.Prelude.{Option, None, Some}
use mathlib.Core.List.{List, [], ◌∷◌}
use lib.ListN.{length, drop}
use lib.Seq.{drop-drop}
use Rattle.terms.specs.Lists.{there}
use Rattle.terms.proofs.Tests.{none-some}
use Rattle.table.specs.Mapping.{Mapping}
use Rattle.utf8.specs.Characters.{Character, Decoder, Decodes, characters_by}
use Rattle.utf8.proofs.Decoders.{characters-cons}
use Rattle.decompose.specs.Steps.{steps_key}
use Rattle.search.specs.Covering.{Span, span, holder, from_to, covering}
use Rattle.search.specs.Substring.{run_in}
use Rattle.search.specs.Promises.{listed, offset_of, HasOctet, HolderFound, Within}
use Rattle.search.specs.declared.covering.Holder.{Holder}
use Rattle.search.proofs.Holders.{size, length-key, holder-here, holder-later, offset-here, offset-later}

-- ---- on from the character that was found

-- an octet is no further into its character than into the key
pub offset-most : (m : Mapping) (k : ℕ) (chs : List Character) → offset_of m k chs ≤ k
unfolding offset_of
offset-most m k [] = omega arith
offset-most m k (ch ∷ chs) = go (dec_lt k (size m ch)) (offset-most m (k - size m ch) chs)
  where
    go : Dec (k < size m ch) → offset_of m (k - size m ch) chs ≤ k - size m ch → offset_of m k (ch ∷ chs) ≤ k
    go (yes h) rest = omega (arith, offset-here m ch chs k h)
    go (no h) rest = omega (arith, offset-later m ch chs k (omega arith))

-- a later octet from a place on, and the length of the key there, seen from the place of octet k's character
pub record Resumed (decode : Decoder) (m : Mapping) (t : List ℕ) (at k a : ℕ) (chs : List Character) : Type 0 where
  pub rest : List Character
  pub there : characters_by decode (drop a t) ≡ Some rest
  pub later : (j : ℕ) → holder m at (k + j) chs ≡ holder m a (offset_of m k chs + j) rest
  pub octets : length (steps_key m chs) + offset_of m k chs ≡ k + length (steps_key m rest)

-- the octet is the first character's
resumed-here : (decode : Decoder) (m : Mapping) (t : List ℕ) (at k a : ℕ) (ch : Character) (chs : List Character)
    → k < size m ch
    → at ≡ a
    → characters_by decode (drop at t) ≡ Some (ch ∷ chs)
    → Resumed decode m t at k a (ch ∷ chs)
resumed-here decode m t at k a ch chs h is e =
    let first = offset-here m ch chs k h in
    record {
      rest = ch ∷ chs;
      there = ap (λ n. characters_by decode (drop n t)) (sym is) ∙ e;
      later = λ j. rw (first, is);
      octets = omega (arith, first);
    }

-- or a later one's
resumed-later : (decode : Decoder) (m : Mapping) (t : List ℕ) (at k a : ℕ) (ch : Character) (chs : List Character)
    → size m ch ≤ k
    → Resumed decode m t (at + ch.width) (k - size m ch) a chs
    → Resumed decode m t at k a (ch ∷ chs)
resumed-later decode m t at k a ch chs h r =
    let on = offset-later m ch chs k h in
    record {
      rest = r.rest;
      there = r.there;
      later = λ j.
          let same : k + j - size m ch ≡ k - size m ch + j = omega arith in
          holder-later m ch chs at (k + j) (omega arith) ∙ rw (same, on) (r.later j);
      octets = omega (arith, on, r.octets, length-key m ch chs);
    }

-- the walk may go on from the character that was found
pub resume : {decode : Decoder} (d : Decodes decode) (m : Mapping) (t : List ℕ) (chs : List Character) (at k a b : ℕ)
    → characters_by decode (drop at t) ≡ Some chs
    → holder m at k chs ≡ Some (span a b)
    → Resumed decode m t at k a chs
unfolding holder
resume d m t [] at k a b e found = absurd (none-some (span a b) found)
resume {decode} d m t (ch ∷ chs) at k a b e found =
    go (dec_lt k (size m ch)) (resume d m t chs (at + ch.width) (k - size m ch) a b)
  where
    next : characters_by decode (drop (at + ch.width) t) ≡ Some chs
    next = rw (← drop-drop ch.width at t) (characters-cons d (drop at t) ch chs e).1

    go : Dec (k < size m ch)
        → (characters_by decode (drop (at + ch.width) t) ≡ Some chs
        → holder m (at + ch.width) (k - size m ch) chs ≡ Some (span a b)
        → Resumed decode m t (at + ch.width) (k - size m ch) a chs)
        → Resumed decode m t at k a (ch ∷ chs)
    go (yes h) on =
        let here : Some (span at (at + ch.width)) ≡ Some (span a b) = sym (holder-here m ch chs at k h) ∙ found in
        let same : span at (at + ch.width) ≡ span a b = cc in
        resumed-here decode m t at k a ch chs h (ap (λ (s : Span). s.start) same) e
    go (no h) on =
        let past : size m ch ≤ k = omega arith in
        resumed-later decode m t at k a ch chs past (on next (sym (holder-later m ch chs at k past) ∙ found))

-- ---- the covering run

-- what is there
listed-there : (o : Option (List Character)) → there o ≡ true → o ≡ Some (listed o)
listed-there None e = let z : ◌≡◌ {A = ℕ} 0 1 = cc in absurd (omega arith)
listed-there (Some chs) e = refl

module _ {decode : Decoder} (d : Decodes decode) {m : Mapping} (t : List ℕ) {s e : ℕ}
    (w : Within m (characters_by decode t) s e) where
  -- the first octet is within the key
  pub first-has-octet : HasOctet m (characters_by decode t) s
  first-has-octet = record { valid = w.valid; below = omega (arith, w.some, w.most) }

  abbrev chs : List Character
  chs = listed (characters_by decode t)

  all : characters_by decode t ≡ Some chs
  all = listed-there (characters_by decode t) w.valid

  module _ {first : Holder} (h : HolderFound m (characters_by decode t) 0 s first) where
    resumed : Resumed decode m t 0 s first.start.0 chs
    resumed = resume d m t chs 0 s first.start.0 first.end.0 all (sym h.place)

    -- the offset is no more than s
    pub first-offset : first.offset ≤ s
    first-offset = omega (arith, h.offset, offset-most m s chs)

    -- the last octet is within the key from there on
    pub last-has-octet : HasOctet m (characters_by decode (drop first.start.0 t)) (first.offset + (e - 1 - s))
    last-has-octet =
        let r = resumed in
        let key = ap (λ (o : Option (List Character)). length (steps_key m (listed o))) r.there in
        record { valid = ap there r.there; below = omega (arith, w.some, w.most, h.offset, r.octets, key) }

    -- the two characters make the run
    pub run-covers : {last : Holder}
        → HolderFound m (characters_by decode (drop first.start.0 t)) first.start.0 (first.offset + (e - 1 - s)) last
        → span first.start.0 last.end.0 ≡ run_in m (characters_by decode t) (span s e)
    unfolding covering
    run-covers {last} l =
        let r = resumed in
        let further : s + (e - 1 - s) ≡ pred e = omega (arith, w.some) in
        let found : Some (span last.start.0 last.end.0) ≡ holder m 0 (pred e) chs =
        l.place
        ∙ ap₂ (holder m first.start.0) (ap (λ n. n + (e - 1 - s)) h.offset) (ap listed r.there)
        ∙ sym (r.later (e - 1 - s))
        ∙ ap (λ n. holder m 0 n chs) further in
        ap₂ from_to h.place found ∙ ap (λ (o : Option (List Character)). run_in m o (span s e)) (sym all)
