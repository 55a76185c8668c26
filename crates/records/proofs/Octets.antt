-- Where the octets of an item that was read stand: up to the next position.
-- Assumes nothing.
use mathlib.Core.Path.{◌≡◌, sym, ap, ◌∙◌}
use Prim.Native.Nat.{ℕ, ◌+◌, ◌-◌, ◌≤◌}
use native.Mathlib.Omega.{arith}
use mathlib.Core.List.{List}
use Rattle.std.specs.Prelude.{Some}
use lib.ListN.{length, take, drop, length-drop}
use lib.Seq.{drop-drop, take-add, drop_at, length-take-le, slice}
use Rattle.records.specs.Numbers.{Octets}
use Rattle.records.specs.Items.{Rules, Item, of_text, of_key, record_of}
use Rattle.records.specs.Reading.{said_length, following, kind_in, body_in, item_in}
use Rattle.records.proofs.Framing.{Whole, length-following}
use Rattle.records.proofs.WritesRead.{Found, item_in-cases, record-again}

-- the octets of an item: the text, or the key
abbrev pub octets_of : Item → List ℕ
octets_of (of_text t) = t
octets_of (of_key f k) = k

-- they are the last octets of what follows the length
held-last : (kind : ℕ) (body : List ℕ) (i : Item) → item_in kind body ≡ Some i
    → (k : ℕ) × (k ≤ length body) × (octets_of i ≡ drop k body)
held-last kind body i e =
    item_in-cases kind body i e (λ k s. (0, omega arith, ap octets_of s)) (λ k four s. (4, four, ap octets_of s))

-- so many octets from a position on are those up to another
pub take_part : (j m : ℕ) (s : List ℕ) → j ≤ length s → take m (drop j s) ≡ slice j (j + m) s
take_part j m s h =
    sym (ap (drop j) (take-add j m s) ∙ drop_at (take j s) (take m (drop j s)) j (length-take-le j s h))

-- what follows the length, as a part of the slice
following-part : (s : List ℕ) (p : ℕ) → Whole (drop p s) → following (drop p s) ≡ slice (p + 4) (p + 4 + said_length
    (drop p s)) s
following-part s p w =
    ap (take (said_length (drop p s))) (drop-drop 4 p s)
    ∙ take_part (p + 4) (said_length (drop p s)) s (omega (arith, w.four, length-drop p s))

module _ (r : Rules) (s : List ℕ) (p : ℕ) (i : Item) (next : ℕ) (f : Found r s p i next) where
  -- the next position is within the slice, and further by a length and a kind at least
  pub found-next : (p + 6 ≤ next) × (next ≤ length s)
  found-next = (
    omega (arith, f.after, f.whole.kind),
    omega (arith, f.after, f.whole.held, f.whole.four, length-drop p s),
  )

  -- the octets of the item are those up to it
  pub found-octets : (length (octets_of i) ≤ next) × (octets_of i ≡ slice (next - length (octets_of i)) next s)
  found-octets =
      let rest = drop p s in
      let octets = following rest in
      let last = held-last (kind_in octets) (body_in octets) i f.held in
      let k = last.0 in
      let n = length-following rest f.whole in
      let many : length (octets_of i) + (2 + k) ≡ said_length rest =
      omega (arith, ap length last.2, length-drop k (body_in octets), length-drop 2 octets, last.1, n, f.whole.kind)
      in
      let start : next - length (octets_of i) ≡ p + 4 + (2 + k) = omega (arith, f.after) in
      let there : octets_of i ≡ drop (2 + k) octets = last.2 ∙ drop-drop k 2 octets in (
        omega (arith, f.after),
        rw start
            (there
            ∙ ap (drop (2 + k)) (following-part s p f.whole ∙ ap (λ (m : ℕ). slice (p + 4) m s) (sym f.after))
            ∙ drop-drop (2 + k) (p + 4) (take next s)),
      )

  -- and its record those from the position up to it, where the slice is octets
  pub found-record : Octets s → record_of i ≡ slice p next s
  found-record octets =
      let upto : p + (next - p) ≡ next = omega (arith, found-next.0) in
      record-again r s p i next octets f
      ∙ (rw upto at (take_part p (next - p) s (omega (arith, found-next.0, found-next.1))))
