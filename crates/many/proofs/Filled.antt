-- Keys put one after another, their ends, and whether their texts are valid: what is written and what is left to write are all.
-- Assumes nothing.
use mathlib.Core.Path.{◌≡◌, sym, ap, ◌∙◌}
use Prim.Native.Nat.{ℕ, ◌+◌, ◌≤◌, ◌<◌}
use native.Mathlib.Omega.{arith}
use mathlib.Core.List.{List, ◌++◌, map}
use lib.ListN.{length, take, drop, get_or, set, length-map}
use lib.Seq.{take-length}
use Rattle.terms.specs.Lists.{over}
use Rattle.octets.specs.Put.{Puts}
use Rattle.sorting.specs.KeyOrder.{key_in}
use Rattle.terms.proofs.Copying.{Copying, copying-start, copying-more, copying-done}
use Rattle.storing.specs.Stored.{joined, strings_in}
use Rattle.storing.proofs.Putting.{Putting, putting-start, putting-room, putting-place, putting-more, putting-done}
use Rattle.many.specs.Promises.{PutsMany}
use Rattle.many.proofs.Walking.{length-strings, made_at, keys-next, keys-done}

module _ (key : List ℕ → List ℕ) (value : List ℕ → ℕ) (octets ends : List ℕ) where
  -- the texts before `i` are done
  pub record Filling (store₀ key_ends₀ valid₀ : List ℕ) (i last : ℕ) (store key_ends valid : List ℕ) : Type 0 where
    pub inside : i ≤ length ends
    pub putting : Putting (map key (strings_in octets ends)) 0 store₀ 0 key_ends₀ (map key (drop i (strings_in octets ends))) last i
        store key_ends
    pub copying : Copying (map value (strings_in octets ends)) (length ends) valid₀ i valid

  pub filling-start : (store key_ends valid : List ℕ) → Filling store key_ends valid 0 0 store key_ends valid
  filling-start store key_ends valid = record {
    inside = omega arith;
    putting = putting-start (map key (strings_in octets ends)) 0 store 0 key_ends;
    copying = copying-start (map value (strings_in octets ends)) (length ends) valid;
  }

  module _ {store₀ key_ends₀ valid₀ : List ℕ} {i last : ℕ} {store key_ends valid : List ℕ}
      (f : Filling store₀ key_ends₀ valid₀ i last store key_ends valid)
      (fits : length (joined (map key (strings_in octets ends))) ≤ length store₀)
      (endsFit : length ends ≤ length key_ends₀)
      (validFit : length ends ≤ length valid₀) where
    fits-from : 0 + length (joined (map key (strings_in octets ends))) ≤ length store₀
    fits-from = omega arith

    ends-from : 0 + length (map key (strings_in octets ends)) ≤ length key_ends₀
    ends-from = omega (arith, length-map (strings_in octets ends) key, length-strings octets ends)

    values-long : length (map value (strings_in octets ends)) ≡ length ends
    values-long = length-map (strings_in octets ends) value ∙ length-strings octets ends

    module _ (here : i < length ends) where
      abbrev text : List ℕ
      text = key_in octets ends i

      -- there is room for the key, and a place for where it ends
      pub filling-room : last + length (key (key_in octets ends i)) ≤ length store
      filling-room =
          putting-room f.putting fits-from ends-from (key text) (map key (drop (i + 1) (strings_in octets ends)))
          (keys-next octets ends i here key)

      pub filling-place : i < length key_ends
      filling-place =
          putting-place f.putting fits-from ends-from (key text) (map key (drop (i + 1) (strings_in octets ends)))
          (keys-next octets ends i here key)

      -- one more text
      pub filling-more : (long : ℕ) (part : List ℕ) → Puts (key (key_in octets ends i)) (drop last store) long part
          → (v : ℕ) → v ≡ value (key_in octets ends i)
          → Filling store₀ key_ends₀ valid₀ (i + 1) (last + long) (take last store ++ part) (set key_ends i (last + long))
          (set valid i v)
      filling-more long part put v e =
          let there : get_or (map value (strings_in octets ends)) i 0 ≡ v = made_at octets ends i here value ∙ sym e in
          record {
            inside = omega arith;
            putting =
                putting-more f.putting fits-from ends-from (key text) (map key (drop (i + 1) (strings_in octets ends)))
                (keys-next octets ends i here key) long part put;
            copying = rw there at (copying-more f.copying here (omega (arith, values-long)) validFit);
          }

    -- all texts
    pub filling-done : length ends ≤ i
        → PutsMany (map key (strings_in octets ends)) (map value (strings_in octets ends)) store₀ key_ends₀ valid₀ last store key_ends
        valid
    filling-done h =
        let put = putting-done f.putting fits-from ends-from (keys-done octets ends key i h) in
        let values = map value (strings_in octets ends) in
        let whole : take (length ends) values ≡ values = ap (λ (n : ℕ). take n values) (sym values-long) ∙ take-length values in
        record {
          size = omega (arith, put.upto);
          stored = put.stored;
          ended = put.ended;
          checked =
              copying-done f.copying h (omega (arith, values-long)) ∙ ap (λ (t : List ℕ). over t valid₀) whole;
        }
