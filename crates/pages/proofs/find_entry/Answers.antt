-- `pages::find_entry` meets its contract: it is the place by pages, which is where the entry stands.
-- Assumes nothing.
use mathlib.Core.Path.{sym, ap, ◌∙◌}
use Rattle.std.specs.Prelude.{Some}
use Prim.Native.Nat.{ℕ, ◌+◌, ◌/◌, ◌%◌, ◌^◌, ◌≤◌, ◌<◌}
use native.Mathlib.Nat.{mod-lt}
use native.Mathlib.Omega.{arith}
use lib.Count.{ones-le}
use lib.ListN.{get_or}
use lib.Pow.{pow_pos}
use Rattle.terms.specs.Refusals.{pages_most}
use Rattle.terms.proofs.Scalars.{scalar-most}
use Rattle.table.specs.Table.{table}
use Rattle.table.proofs.Form.{formed, formed-ascending, sound-entries}
use Rattle.pages.specs.Pages.{pages, page_size}
use Rattle.pages.proofs.Paging.{paged-place, paged_place-yes, paged_place-no, rank_of-most}
use Rattle.pages.proofs.find_entry.Goals as goal

-- a sum of two small numbers
pub overflow_add-result : goal.overflow_add-result
overflow_add-result c =
    let t = table c.args.entries.now c.args.pool.now in
    let page = c.args.c.0 / page_size in
    let bit = c.args.c.0 % page_size in
    let word = get_or c.args.presence.now page 0 in
    let within : page < pages_most = omega (arith, scalar-most c.args.c.0 c.requires.c_value) in
    let number_most : get_or c.args.ranks.now page 0 ≤ 16384 =
    omega (
      arith,
      c.requires.findable.paged.numbers page within,
      rank_of-most c.args.entries.now page,
      sound-entries t (formed t c.requires.findable.form).size,
    ) in
    omega (arith, number_most, c.ones_below.ensures, ones-le bit (word % 2 ^ bit) (mod-lt word (pow_pos bit)))

-- the bit is set
pub returns-then-has_bit : goal.returns-then-has_bit
returns-then-has_bit c =
    let p = pages c.args.presence.now c.args.ranks.now in
    let within = scalar-most c.args.c.0 c.requires.c_value in
    let up = formed-ascending (table c.args.entries.now c.args.pool.now) c.requires.findable.form in
    ap (λ (n : ℕ). Some (get_or p.ranks (c.args.c.0 / page_size) 0 + n)) c.ones_below.ensures
    ∙ sym (paged_place-yes p c.args.c.0 (sym c.has_bit.ensures ∙ c.if-has_bit.true))
    ∙ paged-place c.args.entries.now up c.requires.findable.paged c.args.c.0 (omega (arith, within))

-- it is clear
pub returns-else-has_bit : goal.returns-else-has_bit
returns-else-has_bit c =
    let p = pages c.args.presence.now c.args.ranks.now in
    let within = scalar-most c.args.c.0 c.requires.c_value in
    let up = formed-ascending (table c.args.entries.now c.args.pool.now) c.requires.findable.form in
    sym (paged_place-no p c.args.c.0 (sym c.has_bit.ensures ∙ c.if-has_bit.false))
    ∙ paged-place c.args.entries.now up c.requires.findable.paged c.args.c.0 (omega (arith, within))
