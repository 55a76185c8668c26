-- `many::filling::size_many` meets its contract. The invariant: with the keys of the texts from `i` on, all are counted.
-- Assumes nothing.
use mathlib.Core.Path.{◌≡◌, ap, ◌∙◌}
use Prim.Native.Nat.{ℕ, ◌+◌}
use native.Mathlib.Omega.{arith}
use mathlib.Core.List.{List, map}
use lib.ListN.{length, drop}
use Rattle.terms.specs.Lists.{each}
use Rattle.table.specs.Table.{table, mapping_of}
use Rattle.pages.specs.Pages.{pages}
use Rattle.keys.proofs.Collations.{usable-accepted}
use Rattle.keys.specs.Keys.{prepared, key_of}
use Rattle.keys.proofs.Bounds.{key-within}
use Rattle.sorting.specs.KeyOrder.{key_in}
use Rattle.storing.specs.Stored.{joined, strings_in}
use Rattle.storing.proofs.Ended.{long-joined}
use Rattle.storing.proofs.Keyed.{sized-length}
use Rattle.many.proofs.Walking.{keys-next, keys-done, string-short, keys-few}
use Rattle.many.proofs.filling.size_many.Goals as goal

pub size_key-summary-requires : goal.size_key-summary-requires
size_key-summary-requires c =
    let s = c in
    let short = string-short s.args.octets.now s.args.ends.now s.requires.texts c.loop-i.i c.loop-i-test.true in
    record { text_len_bound = rw c.key_at-text.ensures short; usable_under = s.requires.usable_under }

pub overflow_add-size : goal.overflow_add-size
overflow_add-size c =
    let left : ℕ → ℕ =
    λ n. length (joined (map ((key_of c.args.collation (mapping_of (table c.args.entries.now c.args.pool.now)))) (drop n (strings_in c.args.octets.now c.args.ends.now)))) in
    let long : let s = c in left c.loop-i.i ≡ length ((key_of c.args.collation (mapping_of (table c.args.entries.now c.args.pool.now))) ((let a = c.args in key_in a.octets.now a.ends.now c.loop-i.i))) + left (c.loop-i.i + 1) =
    let s = c in
    let texts = strings_in s.args.octets.now s.args.ends.now in
    ap (λ (ks : List (List ℕ)). length (joined ks)) (keys-next s.args.octets.now s.args.ends.now c.loop-i.i
    c.loop-i-test.true ((key_of c.args.collation (mapping_of (table c.args.entries.now c.args.pool.now)))))
    ∙ long-joined ((key_of c.args.collation (mapping_of (table c.args.entries.now c.args.pool.now))) ((let a = c.args in key_in a.octets.now a.ends.now c.loop-i.i))) (map ((key_of c.args.collation (mapping_of (table c.args.entries.now c.args.pool.now)))) (drop (c.loop-i.i + 1) texts)) in
    let sized : c.size_key-summary.result.key_length ≡ length ((key_of c.args.collation (mapping_of (table c.args.entries.now c.args.pool.now))) ((let a = c.args in key_in a.octets.now a.ends.now c.loop-i.i))) =
    let k = c in
    let s = k in
    sized-length c.size_key-summary.result (prepared s.args.collation (mapping_of (table s.args.entries.now
    s.args.pool.now)) ((let a = c.args in key_in a.octets.now a.ends.now c.loop-i.i))) (rw k.key_at-text.ensures at c.size_key-summary.ensures) in
    let k = c in
    let s = k in
    omega (
      arith,
      sized,
      k.loop-i.invariant,
      long,
      keys-few s.args.octets.now s.args.ends.now s.requires.texts ((key_of c.args.collation (mapping_of (table c.args.entries.now c.args.pool.now))))
          (λ t. key-within s.args.collation (table s.args.entries.now s.args.pool.now) t
          (usable-accepted s.args.collation (table s.args.entries.now s.args.pool.now)
          (pages s.args.presence.now s.args.ranks.now) s.requires.usable_under)),
      s.requires.texts.few,
    )

pub loop-i-preserved : goal.loop-i-preserved
loop-i-preserved c =
    let left : ℕ → ℕ =
    λ n. length (joined (map ((key_of c.args.collation (mapping_of (table c.args.entries.now c.args.pool.now)))) (drop n (strings_in c.args.octets.now c.args.ends.now)))) in
    let long : let s = c in left c.loop-i.i ≡ length ((key_of c.args.collation (mapping_of (table c.args.entries.now c.args.pool.now))) ((let a = c.args in key_in a.octets.now a.ends.now c.loop-i.i))) + left (c.loop-i.i + 1) =
    let s = c in
    let texts = strings_in s.args.octets.now s.args.ends.now in
    ap (λ (ks : List (List ℕ)). length (joined ks)) (keys-next s.args.octets.now s.args.ends.now c.loop-i.i
    c.loop-i-test.true ((key_of c.args.collation (mapping_of (table c.args.entries.now c.args.pool.now)))))
    ∙ long-joined ((key_of c.args.collation (mapping_of (table c.args.entries.now c.args.pool.now))) ((let a = c.args in key_in a.octets.now a.ends.now c.loop-i.i))) (map ((key_of c.args.collation (mapping_of (table c.args.entries.now c.args.pool.now)))) (drop (c.loop-i.i + 1) texts)) in
    let sized : c.size_key-summary.result.key_length ≡ length ((key_of c.args.collation (mapping_of (table c.args.entries.now c.args.pool.now))) ((let a = c.args in key_in a.octets.now a.ends.now c.loop-i.i))) =
    let k = c in
    let s = k in
    sized-length c.size_key-summary.result (prepared s.args.collation (mapping_of (table s.args.entries.now
    s.args.pool.now)) ((let a = c.args in key_in a.octets.now a.ends.now c.loop-i.i))) (rw k.key_at-text.ensures at c.size_key-summary.ensures) in
    let k = c in
    omega (arith, sized, k.loop-i.invariant, long)

pub returns : goal.returns
unfolding each
returns c =
    let s = c in
    let none_left = keys-done s.args.octets.now s.args.ends.now ((key_of c.args.collation (mapping_of (table c.args.entries.now c.args.pool.now)))) c.loop-i.i (omega arith) in
    omega (arith, c.loop-i.invariant, ap (λ (ks : List (List ℕ)). length (joined ks)) none_left)
