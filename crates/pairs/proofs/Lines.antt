-- A line put into the part of the output buffer that is not used: it ends within the buffer, which keeps its length.
-- Assumes nothing.
use mathlib.Core.Path.{◌≡◌, ◌∙◌, ap}
use Prim.Native.Nat.{ℕ, ◌+◌, ◌-◌, ◌≤◌}
use native.Mathlib.Omega.{arith}
use mathlib.Core.List.{List, ◌++◌}
use lib.ListN.{length, take, drop, length-append, length-take, length-drop}
use Rattle.terms.proofs.Parts.{take-drop, put_back}
use Rattle.octets.specs.Put.{Puts}

-- what was written into a slice that keeps its length lies within it
pub puts-within : (octets before : List ℕ) (n : ℕ) (after : List ℕ) → Puts octets before n after → length after ≡ length before
    → n ≤ length before
puts-within octets before n after p same =
    let long : length after ≡ length octets + length (drop (length octets) before) =
    ap length p.left ∙ length-append octets (drop (length octets) before)
    in
    omega (arith, p.count)

module _ (used : ℕ) (out part : List ℕ) (fits : used ≤ length out)
    (same : length part ≡ length (take (length out - used) (drop used out))) where
  -- as long as before
  pub length-lined : length (take used out ++ (part ++ drop (length out - used) (drop used out))) ≡ length out
  length-lined =
      rw (put_back used out part)
      (omega (
        arith,
        length-append (take used out) part,
        length-take used out,
        length-drop used out,
        ap length (take-drop used out),
      ))

  -- the line ends within it
  pub lined-within : (octets : List ℕ) (n : ℕ) → Puts octets (take (length out - used) (drop used out)) n part
      → used + n ≤ length out
  lined-within octets n p =
      omega (
        arith,
        puts-within octets (take (length out - used) (drop used out)) n part p same,
        ap length (take-drop used out),
        length-drop used out,
      )

  -- also as it is afterwards
  pub lined-ends : (octets : List ℕ) (n : ℕ) → Puts octets (take (length out - used) (drop used out)) n part
      → used + n ≤ length (take used out ++ (part ++ drop (length out - used) (drop used out)))
  lined-ends octets n p = rw length-lined (lined-within octets n p)
