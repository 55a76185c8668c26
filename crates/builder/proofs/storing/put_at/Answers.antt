-- `builder::storing::put_at` meets its contract.
-- Assumes nothing.
use mathlib.Core.Path.{sym, ◌∙◌, ap}
use Prim.Native.Nat.{ℕ, ◌<◌, ◌+◌}
use native.Mathlib.Numerals.{add-one}
use native.Mathlib.Omega.{arith}
use mathlib.Core.List.{List}
use lib.ListN.{length, set, get_or}
use lib.Seq.{paste, paste-suc}
use Rattle.builder.proofs.storing.put_at.Goals as goal

-- one number more
pub loop-i-preserved : goal.loop-i-preserved
loop-i-preserved c =
    let l = c in
    let a = l.args in
    let i = l.loop-i.i in
    let below : i < length a.numbers.now = omega arith in
    let inside : a.at + i < length a.out.now = omega (arith, l.requires) in
    ap (λ (o : List ℕ). set o (a.at + i) (get_or a.numbers.now i 0)) l.loop-i.invariant
    ∙ paste-suc a.out.now a.at a.numbers.now i 0 inside below
    ∙ ap (λ (n : ℕ). paste a.out.now a.at a.numbers.now n) (sym (add-one i))
