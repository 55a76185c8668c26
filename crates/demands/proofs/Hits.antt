-- What `substring` answers where it is not refused, in the words of demand 2: a hit is the first occurrence in the key with its
-- run, and there is no match where there is no occurrence.
-- Assumes nothing.
use Rattle.search.specs.Substring.{Sought}
use Rattle.std.specs.Prelude.{Ok}
use Rattle.demands.specs.Demands.{hit_at}
use mathlib.Core.Path.{◌≡◌, refl, sym, ap, ◌∙◌}
use Prim.Native.Nat.{ℕ, ◌+◌, ◌≤◌, ◌<◌}
use native.Mathlib.Omega.{arith}
use mathlib.Core.Logic.{◌↔◌}
use Rattle.std.specs.Prelude.{Option, None, Some}
use mathlib.Core.List.{List, [], ◌∷◌}
use lib.ListN.{length}
use Rattle.terms.specs.Refusals.{gives}
use Rattle.terms.specs.declared.KeyPosition.{KeyPosition}
use Rattle.terms.specs.declared.TextPosition.{TextPosition}
use Rattle.table.specs.Mapping.{Mapping}
use Rattle.utf8.specs.Utf8.{Character, characters}
use Rattle.terms.specs.declared.Collation.{Collation}
use Rattle.terms.specs.declared.Collation.TheVariants.{Octet, AsciiCasemap, UnicodeCasemap}
use Rattle.keys.specs.Keys.{key_of}
use Rattle.keys.proofs.Validity.{key-valid}
use Rattle.decompose.specs.Steps.{steps_key}
use Rattle.occurrence.specs.Occurrence.{occurrence}
use Rattle.occurrence.proofs.Laws.{occurrence-some, occurrence-none, occurrence-is, occurrence-nowhere}
use Rattle.search.specs.Covering.{Span, span, covering, Covers}
use Rattle.search.specs.Substring.{substring_outcome, run_in, text_run, found_values, substring_values}
use Rattle.search.proofs.Injective.{substring_outcome-inj}
use Rattle.search.proofs.Seeking.{key-some}
use Rattle.search.proofs.Cover.{hit-covers, hit-least}
use Rattle.demands.specs.Demands.{OccursAt, Hit}

-- what is told of a text that is not empty
values-some : (k : Collation) (m : Mapping) (s t : List ℕ) → 0 < length s
    → substring_values k m s t ≡ found_values k m t (length (key_of k m s)) (occurrence (key_of k m s) (key_of k m t))
unfolding substring_values
values-some k m [] t h = absurd (omega arith)
values-some k m (x ∷ s) t h = refl

-- spans with the same ends are the same
span_same : (a b : Span) → a.start ≡ b.start → a.end ≡ b.end → a ≡ b
span_same a b p q = λ i. record { start = p i; end = q i }

module _ (k : Collation) (m : Mapping) (s t : List ℕ) (r : Sought) (text : 0 < length s)
    (e : substring_outcome r ≡ gives (substring_values k m s t)) where
  abbrev needle : List ℕ
  needle = key_of k m s

  abbrev hay : List ℕ
  hay = key_of k m t

  told : (o : Option ℕ) → occurrence needle hay ≡ o → substring_outcome r ≡ gives (found_values k m t (length needle) o)
  told o f = e ∙ ap gives (values-some k m s t text ∙ ap (found_values k m t (length needle)) f)

  -- a hit with its four numbers is the first occurrence
  hit-is : (a b : KeyPosition) (c d : TextPosition) → r ≡ hit_at a b c d → Hit k m s t a.0 b.0 c.0 d.0
  hit-is a b c d q = go (occurrence needle hay) refl
    where
      go : (o : Option ℕ) → occurrence needle hay ≡ o → Hit k m s t a.0 b.0 c.0 d.0
      go None f = let z : ◌≡◌ {A = ℕ} 1 2 = cc (rw q at (told None f)) in absurd (omega arith)
      go (Some i) f =
          let same = rw q at (told (Some i) f) in
          let found = occurrence-some needle hay i f in
          let part : Span = span i (i + length needle) in
          let from : i ≡ a.0 = cc in
          let to : i + length needle ≡ b.0 = cc in
          let start : c.0 ≡ (text_run k m t part).start = cc in
          let end : d.0 ≡ (text_run k m t part).end = cc in
          record {
            occurs = rw from at found.0;
            nowhere-lower = rw from at found.1;
            upto = sym to ∙ rw from;
            run =
                span_same (span c.0 d.0) (text_run k m t part) start end
                ∙ ap (text_run k m t) (span_same part (span a.0 b.0) from to);
          }

  -- and the first occurrence is that hit
  is-hit : (a b : KeyPosition) (c d : TextPosition) → Hit k m s t a.0 b.0 c.0 d.0 → r ≡ hit_at a b c d
  is-hit a b c d h =
      let found = occurrence-is needle hay a.0 h.occurs h.nowhere-lower in
      let same = rw (sym h.upto) at (told (Some a.0) found) in
      let start : c.0 ≡ (text_run k m t (span a.0 b.0)).start = ap (λ (x : Span). x.start) h.run in
      let end : d.0 ≡ (text_run k m t (span a.0 b.0)).end = ap (λ (x : Span). x.end) h.run in
      substring_outcome-inj r (hit_at a b c d) (cc)

  -- a hit is the first occurrence, with its run
  pub match-exactly : (a b : KeyPosition) (c d : TextPosition) → (r ≡ hit_at a b c d) ↔ Hit k m s t a.0 b.0 c.0 d.0
  match-exactly a b c d = (hit-is a b c d, is-hit a b c d)

  -- there is no match where the key occurs nowhere
  pub none-exactly : (r ≡ Ok None) ↔ ((i : ℕ) → OccursAt (key_of k m s) (key_of k m t) i → ⊥)
  none-exactly = (
    λ q. go q (occurrence needle hay) refl,
    λ nowhere. substring_outcome-inj r (Ok None) (told None (occurrence-nowhere needle hay nowhere)),
  )
    where
      go : r ≡ Ok None → (o : Option ℕ) → occurrence needle hay ≡ o → (i : ℕ) → OccursAt needle hay i → ⊥
      go q None f = occurrence-none needle hay f
      go q (Some i) f = let z : ◌≡◌ {A = ℕ} 1 2 = cc (rw q at (told (Some i) f)) in absurd (omega arith)

-- an empty text is found at 0, 0, 0, 0
pub match-empty : (k : Collation) (m : Mapping) (t : List ℕ) (r : Sought) → substring_outcome r ≡ gives (substring_values k m [] t)
    → r ≡ hit_at (record { 0 = 0 }) (record { 0 = 0 }) (record { 0 = 0 }) (record { 0 = 0 })
unfolding substring_values
match-empty k m t r e = substring_outcome-inj r _ e

-- ---- the run

module _ {k : Collation} {m : Mapping} {s t : List ℕ} {a b c d : ℕ} (h : Hit k m s t a b c d) where
  -- it is the part of the key under collations 1 and 2, and under 3 where the second text is invalid
  pub run-same : (k ≡ UnicodeCasemap → characters t ≡ None) → span c d ≡ span a b
  run-same octets = h.run ∙ go k octets
    where
      go : (j : Collation) → (j ≡ UnicodeCasemap → characters t ≡ None) → text_run j m t (span a b) ≡ span a b
      go Octet o = refl
      go AsciiCasemap o = refl
      go UnicodeCasemap o = ap (λ (x : Option (List Character)). run_in m x (span a b)) (o refl)

module _ {m : Mapping} {s t : List ℕ} {a b c d : ℕ} (h : Hit UnicodeCasemap m s t a b c d)
    (text : 0 < length s) {chs : List Character} (valid : characters t ≡ Some chs) where
  found : occurrence (key_of UnicodeCasemap m s) (steps_key m chs) ≡ Some a
  found =
      rw (key-valid m t chs valid) at
      (occurrence-is (key_of UnicodeCasemap m s) (key_of UnicodeCasemap m t) a h.occurs h.nowhere-lower)

  run_is : span c d ≡ covering m chs (span a (a + length (key_of UnicodeCasemap m s)))
  run_is =
      rw h.upto at h.run
      ∙ ap (λ (o : Option (List Character)). run_in m o (span a (a + length (key_of UnicodeCasemap m s)))) valid

  -- it is a run of whole characters that covers the occurrence
  pub run-covers : Covers m chs a b (span c d)
  run-covers = rw (run_is, h.upto) (hit-covers m (key_of UnicodeCasemap m s) chs a (key-some UnicodeCasemap m s text) found)

  -- and every run of whole characters that covers it contains this one
  pub run-least : (run : Span) → Covers m chs a b run → (run.start ≤ c) × (d ≤ run.end)
  run-least run w =
      let least = hit-least m (key_of UnicodeCasemap m s) chs a (key-some UnicodeCasemap m s text) found w.first w.last
      (omega (arith, w.some)) w.most w.starts
      (omega (arith, w.ends, h.upto)) in
      let start = ap (λ (x : Span). x.start) run_is in
      let end = ap (λ (x : Span). x.end) run_is in
      rw w.whole (omega (arith, least.0), omega (arith, least.1))
