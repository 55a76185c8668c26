-- One key put at the start of a slice, also where it is the text itself.
-- Assumes nothing.
use mathlib.Core.Path.{◌≡◌, refl, sym, ap, ap₂, ◌∙◌}
use Prim.Native.Nat.{ℕ, ◌≤◌}
use native.Mathlib.Omega.{arith}
use mathlib.Core.Bool.{Bool, true, false, cond}
use mathlib.Core.List.{List}
use lib.ListN.{length}
use Rattle.terms.specs.Lists.{over}
use Rattle.terms.specs.declared.Collation.{Collation}
use Rattle.octets.specs.Put.{Puts}
use Rattle.table.specs.Mapping.{Mapping}
use Rattle.keys.specs.Keys.{PreparedText, prepared, key_of, room_for}
use Rattle.keys.specs.Summaries.{truth, place_number, summary_numbers, prepared_numbers, KeyFilled}
use Rattle.keys.specs.declared.KeyPlace.TheVariants.{Text, Buffer}
use Rattle.keys.specs.declared.Summary.{Summary}
use Rattle.keys.proofs.Shown.{key-text}
use Rattle.storing.specs.Stored.{KeyPut}

-- a summary with a prepared text's numbers has the length of its key
pub sized-length : (s : Summary) (p : PreparedText) → summary_numbers s ≡ prepared_numbers p → s.key_length ≡ length p.key
sized-length s p e = cc

-- room for the key is room for what belongs in the buffer
pub room_most : (k : Collation) (m : Mapping) (t : List ℕ) {n : ℕ} → length (key_of k m t) ≤ n → room_for (prepared k m t) ≤ n
room_most k m t {n} h = go (prepared k m t).buffered
  where
    go : (b : Bool) → cond b (length (key_of k m t)) 0 ≤ n
    go true = h
    go false = omega arith

module _ (k : Collation) (m : Mapping) (t out : List ℕ) (s : Summary) (after : List ℕ)
    (f : KeyFilled (prepared k m t) out s after) where
  unbuffered : s.place ≡ Text → (prepared k m t).buffered ≡ false
  unbuffered e = go (prepared k m t).buffered (let z : place_number s.place ≡ truth (prepared k m t).buffered = cc
      f.numbers in sym (ap place_number e) ∙ z)
    where
      go : (b : Bool) → 0 ≡ truth b → b ≡ false
      go true z = absurd (omega (arith, z))
      go false z = refl

  buffered : s.place ≡ Buffer → (prepared k m t).buffered ≡ true
  buffered e = go (prepared k m t).buffered (let z : place_number s.place ≡ truth (prepared k m t).buffered = cc
      f.numbers in sym (ap place_number e) ∙ z)
    where
      go : (b : Bool) → 1 ≡ truth b → b ≡ true
      go true z = refl
      go false z = absurd (omega (arith, z))

  -- the text is the key, and the slice was left
  pub filled-text : s.place ≡ Text → key_of k m t ≡ t
  filled-text e = key-text k m t (unbuffered e)

  filled-left : s.place ≡ Text → after ≡ out
  filled-left e = f.left ∙ ap (λ (b : Bool). cond b (over (key_of k m t) out) out) (unbuffered e)

  -- and then copied
  pub filled-copied : s.place ≡ Text → (n : ℕ) (copied : List ℕ) → Puts t after n copied → KeyPut (prepared k m t) out s copied
  filled-copied e n copied p = record {
    numbers = f.numbers;
    left = p.left ∙ ap₂ (λ (xs ys : List ℕ). over xs ys) (sym (filled-text e)) (filled-left e);
  }

  -- the key was put
  pub filled-buffer : s.place ≡ Buffer → KeyPut (prepared k m t) out s after
  filled-buffer e = record {
    numbers = f.numbers;
    left = f.left ∙ ap (λ (b : Bool). cond b (over (key_of k m t) out) out) (buffered e);
  }

-- a key that was put, by how many octets it has
pub key-put : (k : Collation) (m : Mapping) (t : List ℕ) {out : List ℕ} {s : Summary} {after : List ℕ}
    → KeyPut (prepared k m t) out s after
    → Puts (key_of k m t) out s.key_length after
key-put k m t {out} {s} p = record { count = sized-length s (prepared k m t) p.numbers; left = p.left }
