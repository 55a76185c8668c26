-- `records::reading::read_following` meets its contract: the kind says who reads the body.
-- Assumes nothing.
use mathlib.Core.Path.{◌≡◌, refl, sym, ap, ◌∙◌}
use Prim.Native.Nat.{ℕ, ◌+◌, ◌*◌}
use native.Mathlib.Omega.{arith}
use mathlib.Core.Bool.{Bool, true, false, true≢false}
use mathlib.Core.List.{List}
use lib.ListN.{get_or}
use borrow.Author.Tests.{ne_eqb, eqb-true}
use Rattle.std.specs.Prelude.{None, Some, eqb, cond}
use Rattle.terms.specs.Refusals.{refusal, refused}
use Rattle.terms.proofs.Parts.{take-drop}
use Rattle.records.specs.declared.Kind.TheVariants.{Text, Key}
use Rattle.records.specs.Kinds.{kind_numbered}
use Rattle.records.specs.Items.{rules, list_rules}
use Rattle.records.specs.Reading.{stopped, kind_in, body_in, item_in, judged, read_following, reading_outcome}
use Rattle.records.specs.Promises.{rules_for}
use Rattle.records.proofs.Judging.{reads_known, reads-unknown}
use Rattle.records.proofs.LittleEndian.{number_in-two}
use Rattle.records.proofs.reading.read_following.Goals as goal
use Rattle.records.proofs.reading.read_following.Goals.{in_default-via-in-Some-Key+else-keys, in_default-via-in_default}

-- a text is known, whether keys are or not, and judged alike
text-read : (keys : Bool) (next : ℕ) (octets : List ℕ) → kind_in octets ≡ 1
    → read_following (rules_for keys) next octets ≡ judged rules next (item_in 1 (body_in octets))
text-read true next octets e = reads_known rules next octets 1 refl e
text-read false next octets e = reads_known list_rules next octets 1 refl e

-- a key is known where keys are read
key-read : (keys : Bool) (next : ℕ) (octets : List ℕ) → keys ≡ true → kind_in octets ≡ 2
    → read_following (rules_for keys) next octets ≡ judged rules next (item_in 2 (body_in octets))
key-read true next octets on e = reads_known rules next octets 2 refl e
key-read false next octets on e = absurd (true≢false (sym on))

-- a kind that is neither a text nor a key where those are read is unknown
other-read : (keys : Bool) (next : ℕ) (octets : List ℕ) → (kind_in octets ≡ 1 → ⊥) → (keys ≡ true → kind_in octets ≡ 2 → ⊥)
    → read_following (rules_for keys) next octets ≡ stopped (refusal 12 0 0)
other-read true next octets one two =
    reads-unknown rules next octets (rw (ne_eqb (kind_in octets) 1 one, ne_eqb (kind_in octets) 2 (two refl)))
other-read false next octets one two = reads-unknown list_rules next octets (rw (ne_eqb (kind_in octets) 1 one))

-- the number of each kind
text-numbered : (n : ℕ) → kind_numbered n ≡ Some Text → n ≡ 1
text-numbered n = go (eqb n 1) (eqb n 2) refl
  where
    go : (a b : Bool) → eqb n 1 ≡ a → cond a (Some Text) (cond b (Some Key) None) ≡ Some Text → n ≡ 1
    go true b f e = eqb-true n 1 f
    go false true f e = cc
    go false false f e = cc

key-numbered : (n : ℕ) → kind_numbered n ≡ Some Key → n ≡ 2
key-numbered n = go (eqb n 1) (eqb n 2) refl
  where
    go : (a b : Bool) → eqb n 2 ≡ b → cond a (Some Text) (cond b (Some Key) None) ≡ Some Key → n ≡ 2
    go true b f e = cc
    go false true f e = eqb-true n 2 f
    go false false f e = cc

none-numbered : (n : ℕ) → kind_numbered n ≡ None → (n ≡ 1 → ⊥) × (n ≡ 2 → ⊥)
none-numbered n e =
    (λ f. let z : Some Text ≡ None = rw f at e in cc, λ f. let z : Some Key ≡ None = rw f at e in cc)

-- the kind that two octets are
kind-read : (octets : List ℕ) (n : ℕ) → n ≡ get_or octets 0 0 + 256 * get_or octets 1 0 → n ≡ kind_in octets
kind-read octets n e = e ∙ sym (number_in-two 0 octets)

-- a text
pub returns-in-Some-Text : goal.returns-in-Some-Text
returns-in-Some-Text c =
    let a = c.args in
    let kind = kind-read a.octets.now c.from_le_bytes.result (omega (arith, c.from_le_bytes.ensures)) in
    let one = text-numbered c.from_le_bytes.result (sym c.of.ensures ∙ c.in-Some-Text.is ∙ ap Some c.in-Some-Text.field-0-is) in
    (rw (take-drop 2 a.octets.now) at c.read_text.ensures)
    ∙ ap reading_outcome (sym (text-read a.keys a.next.0 a.octets.now (sym kind ∙ one)))

-- a key
pub returns-in-Some-Key : goal.returns-in-Some-Key
returns-in-Some-Key c =
    let a = c.args in
    let kind = kind-read a.octets.now c.from_le_bytes.result (omega (arith, c.from_le_bytes.ensures)) in
    let two = key-numbered c.from_le_bytes.result (sym c.of.ensures ∙ c.in-Some-Key.is ∙ ap Some c.in-Some-Key.field-0-is) in
    (rw (take-drop 2 a.octets.now) at c.read_key.ensures)
    ∙ ap reading_outcome (sym (key-read a.keys a.next.0 a.octets.now c.if-keys.true (sym kind ∙ two)))

-- another kind, or a key where keys are not read
pub returns-in_default : goal.returns-in_default
returns-in_default c =
    let a = c.args in
    let kind = kind-read a.octets.now c.from_le_bytes.result (omega (arith, c.from_le_bytes.ensures)) in
    let n = c.from_le_bytes.result in
    ap refused c.refusal.ensures
    ∙ ap reading_outcome
    (sym
    (elim c.in_default.branch [
      | in_default-via-in-Some-Key+else-keys w ↦
          let two = key-numbered n (sym c.of.ensures ∙ w.in-Some-Key.is ∙ ap Some w.in-Some-Key.field-0-is) in
          other-read a.keys a.next.0 a.octets.now (λ e. omega (arith, kind, two, e))
          (λ on e. true≢false (sym on ∙ w.if-keys.false))
      | in_default-via-in_default w ↦
          let none = none-numbered n (sym c.of.ensures ∙ w.in_default.is) in
          other-read a.keys a.next.0 a.octets.now (λ e. none.0 (kind ∙ e)) (λ on e. none.1 (kind ∙ e))
    ]))
