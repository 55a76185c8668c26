-- The key of a text can be kept in a record: its collation, flag and lengths are as a record's must be.
-- Assumes nothing.
use mathlib.Core.Path.{◌≡◌, refl, sym, ap, subst₂, ◌∙◌}
use Prim.Native.Nat.{ℕ, ◌*◌, ◌≤◌}
use mathlib.Core.Bool.{true, not, true≢false}
use Rattle.std.specs.Prelude.{Option, None, Some}
use mathlib.Core.List.{List, [], ◌∷◌, map}
use lib.Dec.{eqb}
use lib.ListN.{length, length-map}
use borrow.Author.Tests.{ltb-false, le-leb, eq-eqb}
use Rattle.terms.specs.Collations.{collation_of}
use Rattle.terms.specs.declared.Collation.{Collation}
use Rattle.terms.specs.declared.Collation.TheVariants.{Octet, AsciiCasemap, UnicodeCasemap}
use Rattle.utf8.specs.Utf8.{Character, characters}
use Rattle.table.specs.Table.{Table, mapping_of}
use Rattle.keys.specs.Keys.{upper, unicode_prepared, prepared, room_for, table_under}
use Rattle.keys.specs.Summaries.{truth}
use Rattle.keys.proofs.Bounds.{key-most}
use Rattle.terms.proofs.Checks.{or_else-neither, when-none}
use Rattle.pages.specs.Pages.{Pages}
use Rattle.prepare.specs.Calls.{Lent, call, lengths, collation_check, length_check, texts_refusal, call_refusal}
use Rattle.prepare.proofs.CallRefusals.{unrefused, unrefused-table}
use Rattle.records.specs.Items.{rules, of_key, agrees, key_fits}
use Rattle.demands.specs.Records.{fields_for, Unfit}
use Rattle.demands.proofs.KeyFaults.{key-exactly}

-- a text of so many octets agrees with itself
same : (text : List ℕ) → eqb (length text) (length text) ≡ true
same text = eq-eqb (length text) (length text) refl

agree-unicode : (n : ℕ) (t : Table) (text : List ℕ) (o : Option (List Character))
    → room_for (unicode_prepared (mapping_of t) text o) ≤ 128 * length text
    → agrees (Some UnicodeCasemap) (fields_for n (truth (unicode_prepared (mapping_of t) text o).valid) text)
    (length (unicode_prepared (mapping_of t) text o).key)
    ≡ true
agree-unicode n t text None h = same text
agree-unicode n t text (Some chs) h = le-leb _ (128 * length text) h

agree : (n : ℕ) (k : Collation) (t : Table) (text : List ℕ) → table_under k t ≡ None
    → agrees (Some k) (fields_for n (truth (prepared k (mapping_of t) text).valid) text) (length (prepared k (mapping_of t) text).key) ≡ true
agree n Octet t text ok = same text
agree n AsciiCasemap t text ok = eq-eqb (length (map upper text)) (length text) (length-map text upper)
agree n UnicodeCasemap t text ok = agree-unicode n t text (characters text) (key-most t text ok)

-- so it fits
pub prepared-fits : (n : ℕ) (k : Collation) (t : Table) (text : List ℕ) → collation_of n ≡ Some k → table_under k t ≡ None
    → length text ≤ 4096
    → key_fits rules (fields_for n (truth (prepared k (mapping_of t) text).valid) text) (length (prepared k (mapping_of t) text).key) ≡ true
prepared-fits n k t text named ok short = rw (le-leb (length text) 4096 short, named) (agree n k t text ok)

-- and so does that of a text whose preparation was not refused
pub kept-fits : (n : ℕ) (k : Collation) (t : Table) (pg : Pages) (l : Lent) (flag : ℕ) (key : List ℕ)
    → collation_of n ≡ Some k
    → call_refusal (call (Some k) t pg (l ∷ [])) ≡ None
    → truth (prepared k (mapping_of t) l.text).valid ≡ flag
    → key ≡ (prepared k (mapping_of t) l.text).key
    → Unfit (of_key (fields_for n flag l.text) key) → ⊥
kept-fits n k t pg l flag key named ok e f unfit =
    let c = call (Some k) t pg (l ∷ []) in
    let texts = (or_else-neither (texts_refusal (Some k) (lengths c)) _ (unrefused c ok).0).0 in
    let long = (or_else-neither (length_check 1 (length l.text)) None (or_else-neither (collation_check (Some k)) _ texts).1).0 in
    let short : length l.text ≤ 4096 = ltb-false 4096 (length l.text) (when-none _ _ long) in
    let fit = prepared-fits n k t l.text named (unrefused-table c ok) short in
    let fields = fields_for n flag l.text in
    let fits : key_fits rules fields (length key) ≡ true =
    subst₂ (λ (v : ℕ) (xs : List ℕ). key_fits rules (fields_for n v l.text) (length xs) ≡ true) e (sym f) fit
    in
    true≢false (sym ((key-exactly fields (length key)).1 unfit) ∙ ap not fits)
