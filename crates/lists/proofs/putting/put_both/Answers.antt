-- `lists::putting::put_both` meets its contract: the second list's keys are put after the first's.
-- Assumes nothing.
use mathlib.Core.Path.{◌≡◌, sym, ap, ◌∙◌}
use native.Mathlib.Omega.{arith}
use mathlib.Core.List.{map}
use lib.ListN.{length, length-map}
use Rattle.terms.proofs.PutAt.{length-put_at}
use Rattle.table.specs.Table.{table, mapping_of}
use Rattle.keys.specs.Keys.{key_of}
use Rattle.lists.specs.Names.{names_in}
use Rattle.storing.specs.Stored.{joined}
use Rattle.storing.specs.Stored.{ends_from}
use Rattle.storing.proofs.Ended.{length-ends_from}
use Rattle.lists.proofs.Ended.{long-both, both-put}
use Rattle.lists.proofs.putting.put_both.Goals as goal

pub put_keys-middle-requires : goal.put_keys-middle-requires
put_keys-middle-requires c =
    let s = c in
    record { usable_under = s.requires.usable_under; list_value = s.requires.first_value; list_in_bounds = omega (arith, long-both ((map (key_of c.args.collation (mapping_of (table c.args.entries.now c.args.pool.now))) (names_in c.args.first.now))) ((map (key_of c.args.collation (mapping_of (table c.args.entries.now c.args.pool.now))) (names_in c.args.second.now))), s.requires.second_in_bounds_2); list_in_bounds_2 = omega (arith, s.requires.first_names_value, s.requires.second_in_bounds) }

pub put_keys-requires : goal.put_keys-requires
put_keys-requires c =
    let many : c.args.first_names ≡ length ((map (key_of c.args.collation (mapping_of (table c.args.entries.now c.args.pool.now))) (names_in c.args.first.now))) =
    c.requires.first_names_value ∙ sym (length-map (names_in c.args.first.now) (key_of c.args.collation (mapping_of (table
    c.args.entries.now c.args.pool.now)))) in
    let s = c in
    let p = c.put_keys-middle in
    record {
      usable_under = s.requires.usable_under;
      list_value = s.requires.second_value;
      list_in_bounds = omega (
        arith,
        long-both ((map (key_of c.args.collation (mapping_of (table c.args.entries.now c.args.pool.now))) (names_in c.args.first.now))) ((map (key_of c.args.collation (mapping_of (table c.args.entries.now c.args.pool.now))) (names_in c.args.second.now))),
        s.requires.second_in_bounds_2,
        p.ensures.upto,
        ap length p.ensures.stored,
        length-put_at 0 (joined ((map (key_of c.args.collation (mapping_of (table c.args.entries.now c.args.pool.now))) (names_in c.args.first.now)))) s.args.store.now (omega (
          arith,
          long-both ((map (key_of c.args.collation (mapping_of (table c.args.entries.now c.args.pool.now))) (names_in c.args.first.now)))
              ((map (key_of c.args.collation (mapping_of (table c.args.entries.now c.args.pool.now))) (names_in c.args.second.now))),
          s.requires.second_in_bounds_2,
        )),
      );
      list_in_bounds_2 = omega (
        arith,
        s.requires.second_in_bounds,
        ap length p.ensures.ended,
        length-put_at 0 (ends_from 0 ((map (key_of c.args.collation (mapping_of (table c.args.entries.now c.args.pool.now))) (names_in c.args.first.now)))) s.args.ends.now
            (omega (arith, length-ends_from 0 ((map (key_of c.args.collation (mapping_of (table c.args.entries.now c.args.pool.now))) (names_in c.args.first.now))), many, s.requires.second_in_bounds)),
      );
    }

pub returns : goal.returns
returns c =
    let many : c.args.first_names ≡ length ((map (key_of c.args.collation (mapping_of (table c.args.entries.now c.args.pool.now))) (names_in c.args.first.now))) =
    c.requires.first_names_value ∙ sym (length-map (names_in c.args.first.now) (key_of c.args.collation (mapping_of (table
    c.args.entries.now c.args.pool.now)))) in
    let s = c in
    let key = key_of s.args.collation (mapping_of (table s.args.entries.now s.args.pool.now)) in
    let second = rw (many) at c.put_keys.ensures in
    both-put ((map (key_of c.args.collation (mapping_of (table c.args.entries.now c.args.pool.now))) (names_in c.args.first.now))) ((map (key_of c.args.collation (mapping_of (table c.args.entries.now c.args.pool.now))) (names_in c.args.second.now))) s.args.store.now s.args.ends.now c.put_keys-middle.ensures second
    s.requires.second_in_bounds_2
    (omega (arith, many, length-map (names_in s.args.second.now) key, s.requires.second_in_bounds))
