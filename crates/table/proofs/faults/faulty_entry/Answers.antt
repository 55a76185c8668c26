-- `table::faults::faulty_entry` meets its contract. The loop's invariant: no entry below `i` is faulty, and `sum` is the
-- sum of their counts, each at most 32.
-- Assumes nothing.
use Prim.Native.Nat.{ℕ, ◌+◌, ◌≤◌, ◌<◌}
use native.Mathlib.Numerals.{add-one}
use native.Mathlib.Omega.{arith}
use mathlib.Core.Path.{◌≡◌, refl, sym, ap, ◌∙◌}
use mathlib.Core.Bool.{false}
use mathlib.Core.List.{List}
use lib.Dec.{ltb}
use lib.ListN.{length}
use borrow.Author.Count.{below_none, below_more}
use borrow.Author.Rules.{rules}
use borrow.Author.Tests.{lt-ltb, le-ltb}
use Rattle.terms.specs.Lists.{when}
use Rattle.terms.specs.Refusals.{parts_most}
use Rattle.terms.proofs.Lowest.{lowest-is, lowest-nowhere}
use Rattle.table.specs.Layout.{entry_count, count_at}
use Rattle.table.specs.Table.{Table, table, counts_below, faulty_entry, entry_fault}
use Rattle.table.proofs.Form.{sound-count}
use Rattle.table.proofs.faults.faulty_entry.Goals as goal

-- the counts below no entry, and below one entry more
counts_below-none : (es : List ℕ) → 0 ≡ counts_below es 0
unfolding counts_below
counts_below-none es = refl

counts_below-more : (es : List ℕ) (i : ℕ) → counts_below es (i + 1) ≡ counts_below es i + count_at es i
unfolding counts_below
counts_below-more es i = rw (add-one i)

-- no entry is faulty: the pool's length decides
entry_fault-left : (t : Table) (i : ℕ) → i ≡ entry_count t.entries
    → ((k : ℕ) → k < i → faulty_entry t k ≡ false)
    → entry_fault t ≡ when (ltb (counts_below t.entries i) (length t.pool)) i
entry_fault-left t i e fails =
    rw (lowest-nowhere (faulty_entry t) (entry_count t.entries) (λ k h. fails k (omega arith)), e)

-- before the first turn
pub loop-i-init : goal.loop-i-init
loop-i-init c = (below_none _, counts_below-none _, search rules)

-- a faulty entry
pub returns-then-is_faulty_entry : goal.returns-then-is_faulty_entry
returns-then-is_faulty_entry c =
    let t = table c.args.entries.now c.args.pool.now in
    let holds = sym c.is_faulty_entry.ensures ∙ c.if-is_faulty_entry.true in
    rw (lowest-is (faulty_entry t) (entry_count t.entries) c.loop-i.i (omega arith) holds c.loop-i.invariant.0)

-- one entry more that is not faulty
pub loop-i-preserved : goal.loop-i-preserved
loop-i-preserved c =
    let t = table c.args.entries.now c.args.pool.now in
    let passed : faulty_entry t c.loop-i.i ≡ false = sym c.is_faulty_entry.ensures ∙ c.if-is_faulty_entry.false in
    let few : count_at t.entries c.loop-i.i ≤ parts_most = sound-count t c.loop-i.i passed in
    let more = counts_below-more t.entries c.loop-i.i in
    (below_more _ _ c.loop-i.invariant.0 passed, omega arith, omega (arith, few))

-- the pool is longer than all counts
pub returns-then-sum-pool : goal.returns-then-sum-pool
returns-then-sum-pool c =
    let t = table c.args.entries.now c.args.pool.now in
    let n = c.entry_count-count.result in
    let end : c.loop-i.i ≡ n = omega arith in
    let sum = rw end at c.loop-i.invariant.1 in
    let longer = lt-ltb (counts_below t.entries n) (length t.pool) (omega (arith, sum)) in
    sym (entry_fault-left t n c.entry_count-count.ensures (rw end at c.loop-i.invariant.0) ∙ ap (λ b. when b n) longer)

-- it is not
pub returns-else-sum-pool : goal.returns-else-sum-pool
returns-else-sum-pool c =
    let t = table c.args.entries.now c.args.pool.now in
    let n = c.entry_count-count.result in
    let end : c.loop-i.i ≡ n = omega arith in
    let sum = rw end at c.loop-i.invariant.1 in
    let full = le-ltb (counts_below t.entries n) (length t.pool) (omega (arith, sum)) in
    sym (entry_fault-left t n c.entry_count-count.ensures (rw end at c.loop-i.invariant.0) ∙ ap (λ b. when b n) full)
