-- The key that a prepared text's summary shows is the text's key: where it is the text, and where it was written.
-- Assumes nothing.
use mathlib.Core.Path.{◌≡◌, refl}
use Prim.Native.Nat.{ℕ, ◌≤◌}
use native.Mathlib.Nat.{le_refl}
use native.Mathlib.Omega.{arith}
use mathlib.Core.Bool.{Bool, true, false, cond}
use Rattle.std.specs.Prelude.{Option, None, Some}
use mathlib.Core.List.{List, ◌++◌}
use lib.ListN.{length, length-append, drop}
use lib.Seq.{take_all, take_at}
use borrow.Author.Tests.{le-leb}
use Rattle.terms.specs.Lists.{over}
use Rattle.terms.specs.declared.Collation.{Collation}
use Rattle.terms.specs.declared.Collation.TheVariants.{Octet, AsciiCasemap, UnicodeCasemap}
use Rattle.table.specs.Mapping.{Mapping}
use Rattle.utf8.specs.Utf8.{Character, characters}
use Rattle.keys.specs.Keys.{PreparedText, prepared, key_of, keyed, unicode_prepared}
use Rattle.keys.specs.Summaries.{truth, place_number, summary_numbers, prepared_numbers, first_of, shown_at}
use Rattle.keys.specs.declared.KeyPlace.{KeyPlace}
use Rattle.keys.specs.declared.KeyPlace.TheVariants.{Text, Buffer}
use Rattle.keys.specs.declared.Summary.{Summary}

-- ---- the front of a list

-- as many octets as there are
first_of-all : (xs : List ℕ) → first_of (length xs) xs ≡ xs
first_of-all xs = rw (le-leb (length xs) (length xs) (le_refl (length xs))) (take_all (length xs) xs (le_refl (length xs)))

-- the octets that were written
first_of-over : (xs buffer : List ℕ) → first_of (length xs) (over xs buffer) ≡ xs
first_of-over xs buffer =
    let rest = drop (length xs) buffer in
    let fits : length xs ≤ length (xs ++ rest) = omega (arith, length-append xs rest) in
    rw (le-leb (length xs) (length (xs ++ rest)) fits) (take_at xs rest (length xs) refl)

-- ---- one text

-- a key that does not belong in the buffer is the text
pub key-text : (k : Collation) (m : Mapping) (t : List ℕ) → (prepared k m t).buffered ≡ false → key_of k m t ≡ t
key-text Octet m t e = refl
key-text AsciiCasemap m t e = cc
key-text UnicodeCasemap m t e = unicode (characters t) e
  where
    unicode : (o : Option (List Character)) → (unicode_prepared m t o).buffered ≡ false → (unicode_prepared m t o).key ≡ t
    unicode None e = refl
    unicode (Some chs) e = cc

-- a place and a length that are a prepared text's show its key
shown_at-place : (place : KeyPlace) (p : PreparedText) (t buffer : List ℕ) → (p.buffered ≡ false → p.key ≡ t)
    → place_number place ≡ truth p.buffered
    → shown_at place (length p.key) t (keyed p buffer) ≡ p.key
shown_at-place place p t buffer whole e = go place p.buffered whole e
  where
    go : (q : KeyPlace) (b : Bool) → (b ≡ false → p.key ≡ t) → place_number q ≡ truth b
        → shown_at q (length p.key) t (cond b (over p.key buffer) buffer) ≡ p.key
    go Text true h e = cc
    go Text false h e = rw (h refl) (first_of-all t)
    go Buffer true h e = first_of-over p.key buffer
    go Buffer false h e = cc

-- a summary with a prepared text's numbers shows its key
pub shown_at-keyed : (k : Collation) (m : Mapping) (t buffer : List ℕ) (s : Summary)
    → summary_numbers s ≡ prepared_numbers (prepared k m t)
    → shown_at s.place s.key_length t (keyed (prepared k m t) buffer) ≡ key_of k m t
shown_at-keyed k m t buffer s sized =
    let p = prepared k m t in
    let len : s.key_length ≡ length p.key = cc in
    rw len (shown_at-place s.place p t buffer (key-text k m t) (cc))
