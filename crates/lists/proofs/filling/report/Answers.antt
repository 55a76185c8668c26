-- `lists::filling::report` meets its contract: the keys stand in the store as the core asks, and what it finds is of
-- these keys.
-- Assumes nothing.
use mathlib.Core.Path.{◌≡◌, sym, ap, ◌∙◌}
use Prim.Native.Nat.{◌+◌}
use native.Mathlib.Omega.{arith}
use mathlib.Core.List.{◌++◌, map}
use lib.ListN.{length, take, length-map, length-append}
use lib.Seq.{length-take-le}
use Rattle.table.specs.Table.{table, mapping_of}
use Rattle.keys.specs.Keys.{key_of}
use Rattle.lists.specs.Names.{names_in}
use Rattle.storing.specs.Stored.{ends_from}
use Rattle.storing.proofs.Ended.{length-ends_from, ends-stand}
use Rattle.lists.proofs.Ended.{ends-taken, reports-found}
use Rattle.lists.proofs.filling.report.Goals as goal

pub find_partners-requires : goal.find_partners-requires
find_partners-requires c =
    let many_one : c.args.first_names ≡ length ((map ((key_of c.args.collation (mapping_of (table c.args.entries.now c.args.pool.now)))) (names_in c.args.first.now))) =
    c.requires.named.names ∙ sym (length-map (names_in c.args.first.now) ((key_of c.args.collation (mapping_of (table c.args.entries.now c.args.pool.now))))) in
    let many_two : c.args.second_names ≡ length ((map ((key_of c.args.collation (mapping_of (table c.args.entries.now c.args.pool.now)))) (names_in c.args.second.now))) =
    c.requires.named_2.names ∙ sym (length-map (names_in c.args.second.now) ((key_of c.args.collation (mapping_of (table c.args.entries.now c.args.pool.now))))) in
    let many : c.args.first_names + c.args.second_names ≡ length ((map ((key_of c.args.collation (mapping_of (table c.args.entries.now c.args.pool.now)))) (names_in c.args.first.now)) ++ (map ((key_of c.args.collation (mapping_of (table c.args.entries.now c.args.pool.now)))) (names_in c.args.second.now))) =
    omega (arith, many_one, many_two, length-append ((map ((key_of c.args.collation (mapping_of (table c.args.entries.now c.args.pool.now)))) (names_in c.args.first.now))) ((map ((key_of c.args.collation (mapping_of (table c.args.entries.now c.args.pool.now)))) (names_in c.args.second.now)))) in
    let taken : let s = c in take (s.args.first_names + s.args.second_names) c.put_both.new.ends ≡ ends_from 0 ((map ((key_of c.args.collation (mapping_of (table c.args.entries.now c.args.pool.now)))) (names_in c.args.first.now)) ++ (map ((key_of c.args.collation (mapping_of (table c.args.entries.now c.args.pool.now)))) (names_in c.args.second.now))) =
    let s = c in
    ends-taken (s.args.first_names + s.args.second_names) c.put_both.ensures (many) in
    let s = c in
    let put = c in
    let ends = taken in
    let long = ap length ends ∙ length-ends_from 0 ((map ((key_of c.args.collation (mapping_of (table c.args.entries.now c.args.pool.now)))) (names_in c.args.first.now)) ++ (map ((key_of c.args.collation (mapping_of (table c.args.entries.now c.args.pool.now)))) (names_in c.args.second.now))) in
    let row = sym (length-take-le (s.args.first_names + s.args.second_names) _ (omega (arith, s.requires.named.most, s.requires.named_2.most))) in
    let ends_row = sym (ap length ends ∙ length-ends_from 0 ((map (key_of c.args.collation (mapping_of (table c.args.entries.now c.args.pool.now))) (names_in c.args.first.now)) ++ (map (key_of c.args.collation (mapping_of (table c.args.entries.now c.args.pool.now))) (names_in c.args.second.now))) ∙ sym many) in
    record { ends = rw (ends, put.put_both.ensures.stored) (ends-stand ((map ((key_of c.args.collation (mapping_of (table c.args.entries.now c.args.pool.now)))) (names_in c.args.first.now)) ++ (map ((key_of c.args.collation (mapping_of (table c.args.entries.now c.args.pool.now)))) (names_in c.args.second.now))) s.args.store.now s.requires.second_in_bounds); ends_len_bound = omega (arith, long, many, s.requires.named.most, s.requires.named_2.most); middle_in_bounds = omega (arith, long, many); row_len = sym row ∙ ends_row; row_in_bounds = omega (arith, row, s.requires.named.most, s.requires.named_2.most); middle_in_bounds_2 = s.requires.first_names_in_bounds; middle_in_bounds_3 = s.requires.first_names_in_bounds_2 }

pub returns : goal.returns
returns c =
    let many_one : c.args.first_names ≡ length ((map ((key_of c.args.collation (mapping_of (table c.args.entries.now c.args.pool.now)))) (names_in c.args.first.now))) =
    c.requires.named.names ∙ sym (length-map (names_in c.args.first.now) ((key_of c.args.collation (mapping_of (table c.args.entries.now c.args.pool.now))))) in
    let many_two : c.args.second_names ≡ length ((map ((key_of c.args.collation (mapping_of (table c.args.entries.now c.args.pool.now)))) (names_in c.args.second.now))) =
    c.requires.named_2.names ∙ sym (length-map (names_in c.args.second.now) ((key_of c.args.collation (mapping_of (table c.args.entries.now c.args.pool.now))))) in
    let many : c.args.first_names + c.args.second_names ≡ length ((map ((key_of c.args.collation (mapping_of (table c.args.entries.now c.args.pool.now)))) (names_in c.args.first.now)) ++ (map ((key_of c.args.collation (mapping_of (table c.args.entries.now c.args.pool.now)))) (names_in c.args.second.now))) =
    omega (arith, many_one, many_two, length-append ((map ((key_of c.args.collation (mapping_of (table c.args.entries.now c.args.pool.now)))) (names_in c.args.first.now))) ((map ((key_of c.args.collation (mapping_of (table c.args.entries.now c.args.pool.now)))) (names_in c.args.second.now)))) in
    let taken : let s = c in take (s.args.first_names + s.args.second_names) c.put_both.new.ends ≡ ends_from 0 ((map ((key_of c.args.collation (mapping_of (table c.args.entries.now c.args.pool.now)))) (names_in c.args.first.now)) ++ (map ((key_of c.args.collation (mapping_of (table c.args.entries.now c.args.pool.now)))) (names_in c.args.second.now))) =
    let s = c in
    ends-taken (s.args.first_names + s.args.second_names) c.put_both.ensures (many) in
    let put = c in
    let s = put in
    reports-found s.args.first_names put.put_both.ensures s.requires.second_in_bounds (many_one)
    (rw (taken) at c.find_partners.ensures)
