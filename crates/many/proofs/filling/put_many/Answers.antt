-- `many::filling::put_many` meets its contract. The invariant: the texts before `i` are done (`Filling`).
-- Assumes nothing.
use mathlib.Core.Path.{◌≡◌, ap, ◌∙◌}
use Prim.Native.Nat.{ℕ, ◌+◌, ◌≤◌}
use native.Mathlib.Omega.{arith}
use mathlib.Core.Bool.{Bool, true, false}
use mathlib.Core.List.{List}
use Rattle.std.specs.Int.{from_bool}
use lib.ListN.{length, drop, length-drop}
use Rattle.terms.proofs.Parts.{take-drop, put_back}
use Rattle.table.specs.Table.{table, mapping_of}
use Rattle.octets.specs.Put.{Puts}
use Rattle.keys.specs.Keys.{prepared, key_of}
use Rattle.keys.specs.Summaries.{truth}
use Rattle.sorting.specs.KeyOrder.{key_in}
use Rattle.storing.specs.Stored.{KeyPut}
use Rattle.storing.proofs.Keyed.{key-put}
use Rattle.many.proofs.Filled.{filling-room, filling-more, filling-done}
use Rattle.many.proofs.Walking.{string-short}
use Rattle.many.proofs.filling.put_many.Goals as goal

-- 1 for true, 0 for false
one-of : (b : Bool) → {n : ℕ} → n ≡ from_bool b → n ≡ truth b
one-of true e = e
one-of false e = e

pub put_key-summary-requires : goal.put_key-summary-requires
put_key-summary-requires c =
    let value : List ℕ → ℕ =
    λ t. truth (prepared c.args.collation ((mapping_of (table c.args.entries.now c.args.pool.now))) t).valid in
    let room : let l = c in l.loop-i.end + length ((key_of c.args.collation ((mapping_of (table c.args.entries.now c.args.pool.now)))) ((let a = c.args in key_in a.octets.now a.ends.now c.loop-i.i))) ≤ length l.loop-i.store =
    let l = c in
    let s = l in
    filling-room ((key_of c.args.collation ((mapping_of (table c.args.entries.now c.args.pool.now))))) (value) s.args.octets.now s.args.ends.now l.loop-i.invariant s.requires.ends_in_bounds
    s.requires.ends_in_bounds_2 s.requires.ends_in_bounds_3 c.loop-i-test.true in
    let k = c in
    let l = k in
    let s = l in
    let short = string-short s.args.octets.now s.args.ends.now s.requires.texts l.loop-i.i k.loop-i-test.true in
    record {
      text_len_bound = rw k.key_at-text.ensures short;
      usable_under = s.requires.usable_under;
      text_in_bounds = rw k.key_at-text.ensures
          (omega (
            arith,
            room,
            ap length (take-drop l.loop-i.end l.loop-i.store),
            length-drop l.loop-i.end l.loop-i.store,
          ));
    }

pub loop-i-preserved : goal.loop-i-preserved
loop-i-preserved c =
    let put : let l = c in KeyPut (prepared l.args.collation ((mapping_of (table c.args.entries.now c.args.pool.now))) ((let a = c.args in key_in a.octets.now a.ends.now c.loop-i.i))) (drop l.loop-i.end l.loop-i.store) c.put_key-summary.result c.put_key-summary.new.out =
    let l = c in
    rw (c.key_at-text.ensures, take-drop l.loop-i.end l.loop-i.store) at c.put_key-summary.ensures in
    let puts : let l = c in Puts ((key_of c.args.collation ((mapping_of (table c.args.entries.now c.args.pool.now)))) ((let a = c.args in key_in a.octets.now a.ends.now c.loop-i.i))) (drop l.loop-i.end l.loop-i.store) c.put_key-summary.result.key_length c.put_key-summary.new.out =
    let s = c in key-put s.args.collation ((mapping_of (table c.args.entries.now c.args.pool.now))) ((let a = c.args in key_in a.octets.now a.ends.now c.loop-i.i)) (put) in
    let value : List ℕ → ℕ =
    λ t. truth (prepared c.args.collation ((mapping_of (table c.args.entries.now c.args.pool.now))) t).valid in
    let p = c in
    let k = p in
    let l = k in
    let s = l in
    let numbers = (put).numbers in
    let valid : truth p.put_key-summary.result.valid ≡ value ((let a = c.args in key_in a.octets.now a.ends.now c.loop-i.i)) = cc in
    rw (put_back l.loop-i.end l.loop-i.store p.put_key-summary.new.out)
    (filling-more ((key_of c.args.collation ((mapping_of (table c.args.entries.now c.args.pool.now))))) (value) s.args.octets.now s.args.ends.now l.loop-i.invariant s.requires.ends_in_bounds
    s.requires.ends_in_bounds_2 s.requires.ends_in_bounds_3 k.loop-i-test.true
    p.put_key-summary.result.key_length
    p.put_key-summary.new.out
    (puts)
    c.from.result
    (one-of c.put_key-summary.result.valid c.from.ensures ∙ valid))

pub returns : goal.returns
returns c =
    let value : List ℕ → ℕ =
    λ t. truth (prepared c.args.collation ((mapping_of (table c.args.entries.now c.args.pool.now))) t).valid in
    let l = c in
    let s = l in
    filling-done ((key_of c.args.collation ((mapping_of (table c.args.entries.now c.args.pool.now))))) (value) s.args.octets.now s.args.ends.now l.loop-i.invariant s.requires.ends_in_bounds
    s.requires.ends_in_bounds_2 s.requires.ends_in_bounds_3 (omega arith)
