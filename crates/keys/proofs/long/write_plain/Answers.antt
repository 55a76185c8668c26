-- `keys::long::write_plain` meets its contract. The loop's invariant: over every table of which the row tells the text was walked up
-- to `i` (`Walking`), and the buffer keeps its length. Assumes nothing.
use mathlib.Core.Path.{◌≡◌, sym, ap, ◌∙◌, subst}
use mathlib.Core.List.{[], ◌∷◌}
use Rattle.std.specs.Prelude.{Some}
use Prim.Native.Nat.{ℕ, ◌+◌, ◌<◌}
use native.Mathlib.Omega.{arith}
use lib.ListN.{drop, get_or, set, length-set}
use lib.Seq.{drop-cons}
use Rattle.utf8.specs.Utf8.{character, decode}
use Rattle.utf8.proofs.Decode.{decode-one}
use Rattle.keys.specs.Walks.{Walking, PlainWalked}
use Rattle.keys.proofs.Walking.{walking-plain}
use Rattle.keys.proofs.long.write_plain.Goals as goal

pub loop-i-preserved : goal.loop-i-preserved
loop-i-preserved c =
    let more : let l = c in PlainWalked l.args.row.now l.args.text.now l.args.key.now (l.loop-i.i + 1) (set l.loop-i.key l.loop-i.i c.row_octet-octet.result) =
    record {
      walked = λ m told accepted valid.
          let l = c in
          let text = l.args.text.now in
          let i = l.loop-i.i in
          let told-octet = c.row_octet-octet.ensures in
          let here = c.loop-i-test.true in
          let plain = told.plain ((get_or c.args.text.now c.loop-i.i 0)) told-octet.0 in
          let below : get_or l.args.row.now ((get_or c.args.text.now c.loop-i.i 0)) 0 < 0x80 = omega (arith, told-octet.1, c.if-octet-ge-ASCII_END.false) in
          let cut = drop-cons text i 0 (omega (arith, here)) in
          let read : decode (drop i text) ≡ Some (character ((get_or c.args.text.now c.loop-i.i 0)) 1) =
          ap decode cut ∙ decode-one ((get_or c.args.text.now c.loop-i.i 0)) _ (told.ascii ((get_or c.args.text.now c.loop-i.i 0)) told-octet.0 below) in
          let walked = walking-plain (l.loop-i.invariant.1.walked m told accepted valid) accepted ((get_or c.args.text.now c.loop-i.i 0)) c.row_octet-octet.result read
          (omega (arith, here))
          (plain.single below ∙ ap (λ (o : ℕ). o ∷ []) (sym told-octet.1)) (plain.asked below) in
          subst (λ k. Walking m text l.args.key.now (i + 1) (i + 1) k (set l.loop-i.key i c.row_octet-octet.result))
          (omega arith) walked;
    } in
    let l = c in (
      length-set l.loop-i.key l.loop-i.i c.row_octet-octet.result ∙ l.loop-i.invariant.0,
      more,
    )
