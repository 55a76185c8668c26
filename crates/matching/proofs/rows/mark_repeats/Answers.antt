-- `matching::rows::mark_repeats` meets its contract. The invariant: the places before `i` are marked.
-- Assumes nothing.
use mathlib.Core.Path.{◌≡◌, refl, sym, ap, ◌∙◌}
use native.Mathlib.Omega.{arith}
use mathlib.Core.Bool.{Bool, true, false, cond}
use Rattle.std.specs.Int.{from_bool}
use mathlib.Core.List.{map}
use lib.ListN.{length, get_or, length-map}
use Rattle.sorting.specs.KeyOrder.{key_in}
use Rattle.terms.proofs.Copying.{copying-more}
use Rattle.matching.specs.Matching.{repeated}
use Rattle.matching.proofs.Repeats.{copying-whole, length-repeated, repeated-at}
use Rattle.matching.proofs.rows.mark_repeats.Goals as goal

-- a truth value as a number
one_if : (t : Bool) → from_bool t ≡ cond t 1 0
one_if true = refl
one_if false = refl

pub loop-i-preserved : goal.loop-i-preserved
loop-i-preserved c =
    let l = c in
    let s = c in
    let key = key_in s.args.store.now s.args.ends.now in
    let row = s.args.row.now in
    let marks = repeated (map key row) in
    let i = l.loop-i.i in
    let here = c.loop-i-test.true in
    let long : length marks ≡ length row = length-repeated (map key row) ∙ length-map row key in
    let mark : get_or marks i 0 ≡ c.from.result =
    repeated-at key row i here ∙ sym (c.from.ensures ∙ one_if c.repeats_key.result ∙ ap (λ (t : Bool). cond t 1 0) c.repeats_key.ensures)
    in
    rw mark at (copying-more l.loop-i.invariant here (omega arith) (omega (arith, s.requires.repeats_len)))

pub returns : goal.returns
returns c =
    let s = c in
    let key = key_in s.args.store.now s.args.ends.now in
    let row = s.args.row.now in
    let long : length row ≡ length (repeated (map key row)) = sym (length-repeated (map key row) ∙ length-map row key) in
    copying-whole c.loop-i.invariant c.loop-i-test.false long (sym s.requires.repeats_len)
