-- `table::faults::is_faulty_code` meets its contract: its tests are those of `faulty_code`, the last one by the entry before.
-- Assumes nothing.
use Prim.Native.Nat.{ℕ, zero, suc, ◌-◌}
use native.Mathlib.Omega.{arith}
use native.Mathlib.Numerals.{sub-one}
use mathlib.Core.Path.{◌≡◌, refl}
use mathlib.Core.Bool.{false}
use mathlib.Core.List.{List}
use lib.Dec.{leb}
use borrow.Author.Rules.{rules}
use Rattle.table.specs.Layout.{code_at}
use Rattle.table.specs.Table.{not_above}
use Rattle.table.proofs.faults.is_faulty_code.Goals as goal

-- the entry before the first, and the one before any other
not_above-first : (es : List ℕ) (i : ℕ) → i ≡ 0 → false ≡ not_above es i
unfolding not_above
not_above-first es zero e = refl
not_above-first es (suc i) e = absurd (omega arith)

not_above-later : (es : List ℕ) (i : ℕ) → (i ≡ 0 → ⊥) → leb (code_at es i) (code_at es (i - 1)) ≡ not_above es i
unfolding not_above
not_above-later es zero ne = absurd (ne refl)
not_above-later es (suc i) ne = rw (sub-one (suc i))

-- any other entry
pub returns-then-i-ne0 : goal.returns-then-i-ne0
returns-then-i-ne0 c =
    let above = not_above-later c.args.entries.now c.args.i c.if-i-ne0.true in
    search (rules, above)

-- the first entry
pub returns-else-i-ne0 : goal.returns-else-i-ne0
returns-else-i-ne0 c =
    let above = not_above-first c.args.entries.now c.args.i c.if-i-ne0.false in
    search (rules, above)
