-- How the substring answer comes apart: a hit with its covering run, what is found, what two prepared texts show, and the whole
-- call. Each law is on plain values.
-- Assumes nothing.
use mathlib.Core.Path.{◌≡◌, refl, sym, ap, ◌∙◌}
use Prim.Native.Nat.{ℕ, ◌+◌, ◌≤◌, ◌<◌}
use native.Mathlib.Omega.{arith}
use mathlib.Core.Bool.{Bool, true, false, true≢false}
use Rattle.std.specs.Prelude.{Option, None, Some, Ok}
use mathlib.Core.List.{List, [], ◌∷◌}
use lib.ListN.{length, length-append, length-map}
use Rattle.terms.specs.Collations.{reads_table}
use Rattle.terms.specs.Lists.{empty, there, each}
use Rattle.terms.specs.Refusals.{levels_most}
use Rattle.terms.specs.declared.Collation.{Collation}
use Rattle.terms.specs.declared.Collation.TheVariants.{Octet, AsciiCasemap, UnicodeCasemap}
use Rattle.terms.specs.declared.Refusal.{Refusal}
use Rattle.table.specs.Mapping.{Mapping}
use Rattle.utf8.specs.Utf8.{Character, encode, encodes, characters}
use Rattle.utf8.proofs.Encode.{encode-width}
use Rattle.utf8.proofs.Characters.{utf8-decodes}
use Rattle.utf8.proofs.Decoders.{characters-empty}
use Rattle.decompose.specs.Steps.{expansion, steps_key}
use Rattle.decompose.proofs.Bounds.{full-some}
use Rattle.table.specs.Table.{Table, mapping_of}
use Rattle.keys.specs.Keys.{upper, unicode_prepared, prepared, key_of}
use Rattle.keys.specs.declared.Summary.{Summary}
use Rattle.pages.specs.Pages.{Pages}
use Rattle.prepare.specs.Calls.{Lent, call, Answers}
use Rattle.prepare.specs.Preparing.{PreparedPair, prepared_values, pair_outcome}
use Rattle.prepare.proofs.Shown.{shown-both}
use Rattle.occurrence.specs.Occurrence.{occurrence}
use Rattle.occurrence.proofs.Laws.{occurrence-within}
use Rattle.search.specs.Covering.{Span, span}
use Rattle.search.specs.Substring.{hit_numbers, run_in, text_run, found_values, substring_values}
use Rattle.search.specs.Promises.{listed, Within, Hits, Seekable, Shows}
use Rattle.search.specs.declared.Hit.{Hit}
use Rattle.search.proofs.Holders.{size, length-key}

-- ---- a key is empty only where its text is

-- code points have octets
encodes-some : (cs : List ℕ) → 1 ≤ length cs → 1 ≤ length (encodes cs)
unfolding each
encodes-some [] h = absurd (omega arith)
encodes-some (c ∷ cs) h = omega (arith, (encode-width c).0, length-append (encode c) (encodes cs))

-- a character becomes an octet or more
pub size-some : (m : Mapping) (ch : Character) → 1 ≤ size m ch
size-some m ch = encodes-some (expansion m ch.code) (full-some m levels_most (m.title ch.code))

unicode-some : (m : Mapping) (t : List ℕ) → 0 < length t → 0 < length (unicode_prepared m t (characters t)).key
unfolding each
unicode-some m t h = go (characters t) refl
  where
    go : (o : Option (List Character)) → characters t ≡ o → 0 < length (unicode_prepared m t o).key
    go None e = h
    go (Some []) e = absurd (omega (arith, ap length (characters-empty utf8-decodes t e)))
    go (Some (ch ∷ chs)) e = omega (arith, size-some m ch, length-key m ch chs)

-- a text that is not empty has a key that is not
pub key-some : (k : Collation) (m : Mapping) (t : List ℕ) → 0 < length t → 0 < length (key_of k m t)
key-some Octet m t h = h
key-some AsciiCasemap m t h = omega (arith, length-map t upper)
key-some UnicodeCasemap m t h = unicode-some m t h

-- ---- a hit

valid-there : (m : Mapping) (t : List ℕ) (o : Option (List Character)) → (unicode_prepared m t o).valid ≡ there o
valid-there m t None = refl
valid-there m t (Some chs) = refl

key-there : (m : Mapping) (t : List ℕ) (o : Option (List Character)) → there o ≡ true
    → (unicode_prepared m t o).key ≡ steps_key m (listed o)
key-there m t None e = cc
key-there m t (Some chs) e = refl

run-nowhere : (m : Mapping) (o : Option (List Character)) (s : Span) → there o ≡ false → s ≡ run_in m o s
run-nowhere m None s e = refl
run-nowhere m (Some chs) s e = let z : ◌≡◌ {A = ℕ} 0 1 = cc in absurd (omega arith)

module _ (k : Collation) (m : Mapping) (t : List ℕ) (valid : Bool) (s e : ℕ) (h : Hits k m t valid s e)
    (reads : reads_table k ≡ true) where
  -- where the table is read, a hit in a valid text has a covering run
  pub hits-within : valid ≡ true → Within m (characters t) s e
  hits-within = go k reads h.told h.most
    where
      go : (j : Collation) → reads_table j ≡ true → valid ≡ (prepared j m t).valid → e ≤ length (key_of j m t) → valid ≡ true
          → Within m (characters t) s e
      go Octet r told most v = absurd (true≢false (sym r))
      go AsciiCasemap r told most v = absurd (true≢false (sym r))
      go UnicodeCasemap r told most v =
          let there-is : there (characters t) ≡ true = sym (valid-there m t (characters t)) ∙ sym told ∙ v in
          record
          { valid = there-is; some = h.some; most = omega (arith, most, ap length (key-there m t (characters t) there-is)) }

  -- in one that is not valid the run is the part of the key
  pub hits-invalid : valid ≡ false → span s e ≡ text_run k m t (span s e)
  hits-invalid = go k h.told
    where
      go : (j : Collation) → valid ≡ (prepared j m t).valid → valid ≡ false → span s e ≡ text_run j m t (span s e)
      go Octet told v = refl
      go AsciiCasemap told v = refl
      go UnicodeCasemap told v = run-nowhere m (characters t) (span s e) (sym (valid-there m t (characters t)) ∙ sym told ∙ v)

-- where the table is read the run is by the characters
pub text_run-reads : (k : Collation) (m : Mapping) (t : List ℕ) (s run : Span) → reads_table k ≡ true
    → run ≡ run_in m (characters t) s
    → run ≡ text_run k m t s
text_run-reads Octet m t s run r e = absurd (true≢false (sym r))
text_run-reads AsciiCasemap m t s run r e = absurd (true≢false (sym r))
text_run-reads UnicodeCasemap m t s run r e = e

-- where it is not, the run is the part of the key
pub text_run-other : (k : Collation) (m : Mapping) (t : List ℕ) (s : Span) → reads_table k ≡ false → s ≡ text_run k m t s
text_run-other Octet m t s r = refl
text_run-other AsciiCasemap m t s r = refl
text_run-other UnicodeCasemap m t s r = absurd (true≢false r)

-- ---- what is found

-- where the needle is found, the key has that part
pub found-hits : {k : Collation} {m : Mapping} {needle hay t : List ℕ} {valid : Bool} → Seekable k m needle hay t valid → (i : ℕ)
    → occurrence needle hay ≡ Some i
    → Hits k m t valid i (i + length needle)
found-hits {needle} {hay} h i e = record {
  told = h.told;
  some = omega (arith, h.some);
  most = omega (arith, occurrence-within needle hay i e, ap length h.key);
}

empty-zero : (s : List ℕ) → length s ≡ 0 → empty s ≡ true
empty-zero [] e = refl
empty-zero (x ∷ s) e = absurd (omega arith)

empty-some : (s : List ℕ) → (length s ≡ 0 → ⊥) → empty s ≡ false
empty-some [] h = absurd (h refl)
empty-some (x ∷ s) h = refl

-- an empty first text: "matches with 0, 0, 0, 0"
pub values-empty : (k : Collation) (m : Mapping) (s t : List ℕ) → length s ≡ 0 → 1 ∷ 0 ∷ 0 ∷ 0 ∷ 0 ∷ [] ≡ substring_values k m s t
unfolding substring_values
values-empty k m s t e = rw (empty-zero s e)

-- any other: what is found of its key in the second's
pub values-found : (k : Collation) (m : Mapping) (s t needle hay : List ℕ) (r : Option Hit) → (length s ≡ 0 → ⊥)
    → needle ≡ key_of k m s → hay ≡ key_of k m t
    → hit_numbers r ≡ found_values k m t (length needle) (occurrence needle hay)
    → hit_numbers r ≡ substring_values k m s t
unfolding substring_values
values-found k m s t needle hay r h a b e = rw (empty-some s h, ← a, ← b) e

-- keys that are shown can be sought in
pub shows-seekable : {k : Collation} {m : Mapping} {s sKey : List ℕ} {one : Summary} {t tKey : List ℕ} {two : Summary}
    {needle hay : List ℕ}
    → Shows k m s sKey one t tKey two
    → (length s ≡ 0 → ⊥) → needle ≡ key_of k m s → hay ≡ key_of k m t
    → Seekable k m needle hay t two.valid
shows-seekable {k} {m} {s} h full-text a b = record { some = rw a (key-some k m s (omega arith)); key = b; told = h.told }

-- ---- the whole call

module _ {k : Collation} {t : Table} {g : Pages} {l n : Lent} {x : Option Refusal} {r : PreparedPair} {sAfter tAfter : List ℕ}
    {one two : Summary}
    (h : Answers pair_outcome prepared_values x (call (Some k) t g (l ∷ n ∷ [])) r (sAfter ∷ tAfter ∷ []))
    (e : r ≡ Ok (one, two)) where
  -- texts that were prepared show their keys
  pub both-shows : Shows k (mapping_of t) l.text sAfter one n.text tAfter two
  both-shows = let shown = shown-both h e in record { first = shown.first; second = shown.second; told = shown.valid }
