-- `records::reading::frame_of` meets its contract: the three tests are those of `short`.
-- Assumes nothing.
use mathlib.Core.Path.{◌≡◌, ◌∙◌}
use mathlib.Core.List.{List}
use native.Mathlib.Omega.{arith}
use Rattle.std.specs.Prelude.{None, Some}
use Prim.Native.Nat.{ℕ, ◌-◌, ◌≤◌, ◌<◌}
use lib.ListN.{length, take}
use borrow.Author.Tests.{lt-ltb, le-ltb}
use Rattle.records.specs.Numbers.{number_in}
use Rattle.records.specs.Reading.{short}
use Rattle.records.specs.Promises.{whole_length}
use Rattle.records.proofs.LittleEndian.{number_in-four}
use Rattle.records.proofs.reading.frame_of.Goals as goal
use Rattle.records.proofs.reading.frame_of.Goals.{then-left-n-via-then-left-n, then-left-n-via-else-left-n+then-n-lt2}

module _ (rest : List ℕ) where
  few : length rest < 4 → None ≡ whole_length rest
  unfolding short
  few h = rw (lt-ltb (length rest) 4 h)

  module _ (n : ℕ) (e : n ≡ number_in (take 4 rest)) (four : 4 ≤ length rest) where
    cut : length rest - 4 < n → None ≡ whole_length rest
    unfolding short
    cut h = rw (le-ltb (length rest) 4 four, ← e, lt-ltb (length rest - 4) n h)

    bare : n ≤ length rest - 4 → n < 2 → None ≡ whole_length rest
    unfolding short
    bare h l = rw (le-ltb (length rest) 4 four, ← e, le-ltb (length rest - 4) n h, lt-ltb n 2 l)

    whole : n ≤ length rest - 4 → 2 ≤ n → Some n ≡ whole_length rest
    unfolding short
    whole h l = rw (le-ltb (length rest) 4 four, ← e, le-ltb (length rest - 4) n h, le-ltb n 2 l)

pub returns-in_err-said : goal.returns-in_err-said
returns-in_err-said c = c.from_residual.ensures ∙ few c.args.rest.now c.in_err-said.ensures.cases

pub returns-then-left-n : goal.returns-then-left-n
returns-then-left-n c =
    let split = c.in_ok-said.ensures.cases in
    let n = number_in-four c.args.rest.now c.in_ok-said.said.now c.from_le_bytes-n.result split.0 c.from_le_bytes-n.ensures in
    elim c.then-left-n.branch [
      | then-left-n-via-then-left-n w ↦ cut c.args.rest.now _ n (omega arith) (omega (arith, w.if-left-n.true))
      | then-left-n-via-else-left-n+then-n-lt2 w ↦
          bare c.args.rest.now _ n (omega arith) (omega (arith, w.if-left-n.false)) w.if-n-lt2.true
    ]

pub returns : goal.returns
returns c =
    let split = c.in_ok-said.ensures.cases in
    let n = number_in-four c.args.rest.now c.in_ok-said.said.now c.from_le_bytes-n.result split.0 c.from_le_bytes-n.ensures in
    whole c.args.rest.now _ n (omega arith) (omega (arith, c.if-left-n.false)) c.if-n-lt2.false
