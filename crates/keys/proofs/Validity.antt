-- "Under collation 3 a valid and an invalid text are never equal": the key of a valid text is UTF-8, and that of an invalid
-- text is the text, which is not.
-- Assumes nothing.
use mathlib.Core.Path.{◌≡◌, refl, sym, ◌∙◌, ap}
use mathlib.Core.Bool.{Bool, true, false, true≢false}
use Rattle.std.specs.Prelude.{Option, None, Some}
use mathlib.Core.List.{List, [], ◌∷◌, ◌++◌}
use Prim.Native.Nat.{ℕ}
use Rattle.terms.specs.CodePoints.{scalar}
use Rattle.terms.specs.Lists.{all, each, there}
use Rattle.terms.proofs.Lists.{all_first, all_rest, all_append, each_append}
use Rattle.table.specs.Mapping.{Mapping}
use Rattle.utf8.specs.Characters.{codes_of}
use Rattle.utf8.specs.Utf8.{Character, encode, encodes, characters}
use Rattle.utf8.proofs.Characters.{utf8-decodes, characters-encodes}
use Rattle.utf8.proofs.Decoders.{characters-scalars}
use Rattle.decompose.specs.Steps.{expansion, steps_key}
use Rattle.decompose.proofs.Demand3.{accepted-expansion-scalar}
use Rattle.table.specs.Table.{Table, mapping_of}
use Rattle.decompose.specs.TableCheck.{table_refusal}
use Rattle.keys.specs.Keys.{unicode_prepared, key_of}
use Rattle.terms.specs.declared.Collation.TheVariants.{UnicodeCasemap}

-- a mapping that takes scalar code points to scalar ones
abbrev Scalars : Mapping → Type 0
Scalars m = (c : ℕ) → scalar c ≡ true → all scalar (expansion m c) ≡ true

-- all code points that characters expand into
abbrev expansions : Mapping → List ℕ → List ℕ
expansions m cs = each (λ c. expansion m c) cs

-- the published key is the encoding of these
steps_key-encodes : (m : Mapping) (chs : List Character) → steps_key m chs ≡ encodes (expansions m (codes_of chs))
unfolding steps_key each
steps_key-encodes m [] = refl
steps_key-encodes m (ch ∷ chs) =
    ap (λ (l : List ℕ). encodes (expansion m ch.code) ++ l) (steps_key-encodes m chs)
    ∙ sym (each_append encode (expansion m ch.code) (expansions m (codes_of chs)))

-- and they are scalar
expansions-scalar : (m : Mapping) → Scalars m → (cs : List ℕ) → all scalar cs ≡ true → all scalar (expansions m cs) ≡ true
unfolding each
expansions-scalar m ok [] e = refl
expansions-scalar m ok (c ∷ cs) e =
    all_append scalar (expansion m c) (expansions m cs)
    (ok c (all_first scalar c cs e))
    (expansions-scalar m ok cs (all_rest scalar c cs e))

-- so the key of a valid text is UTF-8
valid-key : (m : Mapping) → Scalars m → (t : List ℕ) (chs : List Character) → characters t ≡ Some chs
    → there (characters (steps_key m chs)) ≡ true
valid-key m ok t chs e =
    let codes : List ℕ = expansions m (codes_of chs) in
    ap (λ (l : List ℕ). there (characters l)) (steps_key-encodes m chs)
    ∙ ap there (characters-encodes codes (expansions-scalar m ok (codes_of chs) (characters-scalars utf8-decodes t chs e)))

-- the key of a valid text, and of one that is not
pub key-valid : (m : Mapping) (t : List ℕ) (chs : List Character) → characters t ≡ Some chs
    → key_of UnicodeCasemap m t ≡ steps_key m chs
key-valid m t chs e = ap (λ (o : Option (List Character)). (unicode_prepared m t o).key) e

pub key-invalid : (m : Mapping) (t : List ℕ) → characters t ≡ None → key_of UnicodeCasemap m t ≡ t
key-invalid m t e = ap (λ (o : Option (List Character)). (unicode_prepared m t o).key) e

-- a truth is not its opposite
no_both : (b : Bool) → b ≡ true → b ≡ false → ⊥
no_both b p q = true≢false (sym p ∙ q)

differ : (m : Mapping) → Scalars m → (s t : List ℕ) (o p : Option (List Character))
    → characters s ≡ o
    → characters t ≡ p
    → there (characters s) ≡ true
    → there (characters t) ≡ false
    → key_of UnicodeCasemap m s ≡ key_of UnicodeCasemap m t
    → ⊥
differ m ok s t None p e f v i k = no_both (there (characters s)) v (ap there e)
differ m ok s t (Some chs) (Some others) e f v i k = no_both (there (characters t)) (ap there f) i
differ m ok s t (Some chs) None e f v i k =
    let same : steps_key m chs ≡ t = sym (key-valid m s chs e) ∙ k ∙ key-invalid m t f in
    no_both (there (characters t)) (ap (λ (l : List ℕ). there (characters l)) (sym same) ∙ valid-key m ok s chs e) i

-- over an accepted table a valid and an invalid text never have equal keys under collation 3
pub valid-invalid-differ : (t : Table)
    → table_refusal t ≡ None
    → (x y : List ℕ)
    → there (characters x) ≡ true
    → there (characters y) ≡ false
    → key_of UnicodeCasemap (mapping_of t) x ≡ key_of UnicodeCasemap (mapping_of t) y
    → ⊥
valid-invalid-differ t ok x y v i k =
    differ (mapping_of t) (accepted-expansion-scalar t ok) x y (characters x) (characters y) refl refl v i k
