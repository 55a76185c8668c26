-- Reading on from record to record, for any rules: where the next one stands, and what a text that was read is.
-- Assumes nothing.
use mathlib.Core.Path.{◌≡◌, refl, sym, ap, ◌∙◌}
use Prim.Native.Nat.{ℕ, ◌+◌, ◌-◌, ◌≤◌}
use mathlib.Core.Bool.{true, true≢false}
use mathlib.Core.List.{List}
use native.Mathlib.Omega.{arith}
use lib.ListN.{length, drop, length-drop}
use lib.Seq.{slice}
use borrow.Author.Tests.{leb-true}
use Rattle.records.specs.Items.{Rules, list_rules, Item, of_text, of_key, among, kind_of}
use Rattle.records.specs.Reading.{item, following, kind_in, body_in, read_at}
use Rattle.records.specs.declared.KeyFields.{KeyFields}
use Rattle.records.proofs.WritesRead.{item_in-cases, item_in-kind, read_at-found}
use Rattle.records.proofs.Framing.{length-following}
use Rattle.records.proofs.Octets.{found-next, found-octets}

-- the next position is within the slice, and further by a length and a kind at least
pub read_at-next : (r : Rules) (s : List ℕ) (p next : ℕ) (i : Item) → read_at r s p ≡ item i next
    → (p + 6 ≤ next) × (next ≤ length s)
read_at-next r s p next i e = found-next r s p i next (read_at-found r s p i next e)

-- a text that was read is the octets up to the next position, and not over the limit
pub read_at-text : (r : Rules) (s : List ℕ) (p next : ℕ) (t : List ℕ) → read_at r s p ≡ item (of_text t) next
    → (length t ≤ next) × (t ≡ slice (next - length t) next s) × (length t ≤ r.longest)
read_at-text r s p next t e =
    let found = read_at-found r s p (of_text t) next e in
    let octets = found-octets r s p (of_text t) next found in
    (octets.0, octets.1, leb-true (length t) r.longest found.fit)

-- the kind of an item that was read is known
pub read_at-known : (r : Rules) (s : List ℕ) (p next : ℕ) (i : Item) → read_at r s p ≡ item i next
    → among (kind_of i) r.kinds ≡ true
read_at-known r s p next i e =
    let found = read_at-found r s p i next e in
    let octets = following (drop p s) in
    rw (item_in-kind (kind_in octets) (body_in octets) i found.held) found.known

-- ---- a list

-- no key is read
pub listed-key : (s : List ℕ) (p next : ℕ) (f : KeyFields) (k : List ℕ) → read_at list_rules s p ≡ item (of_key f k) next → ⊥
listed-key s p next f k e = true≢false (sym (read_at-known list_rules s p next (of_key f k) e))

-- what is read is a text
pub listed-text : (s : List ℕ) (p next : ℕ) (i : Item) → read_at list_rules s p ≡ item i next → (t : List ℕ) × (i ≡ of_text t)
listed-text s p next (of_text t) e = (t, refl)
listed-text s p next (of_key f k) e = absurd (listed-key s p next f k e)

-- a text's record has six octets before it
pub read_at-long : (r : Rules) (s : List ℕ) (p next : ℕ) (t : List ℕ) → read_at r s p ≡ item (of_text t) next
    → next ≡ p + 6 + length t
read_at-long r s p next t e =
    let f = read_at-found r s p (of_text t) next e in
    let octets = following (drop p s) in
    let body = item_in-cases (kind_in octets) (body_in octets) (of_text t) f.held {A = length t ≡ length octets - 2}
    (λ k i. ap length (text-is i) ∙ length-drop 2 octets)
    (λ k four i. absurd (text-key i))
    in
    omega (arith, f.after, body, length-following (drop p s) f.whole, f.whole.kind)
  where
    text-is : {a b : List ℕ} → of_text a ≡ of_text b → a ≡ b
    text-is i = cc

    text-key : {a b : List ℕ} {k : KeyFields} → of_text a ≡ of_key k b → ⊥
    text-key i = let z : ◌≡◌ {A = ℕ} 0 1 = cc in omega arith
