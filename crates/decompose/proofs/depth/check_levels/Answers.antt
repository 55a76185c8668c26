-- `decompose::depth::check_levels` meets its contract. The loop's invariant: `i` is at most the number of entries, and the
-- code point of no entry below it has too many levels or code points; one with no parts never does. The measure is the number
-- of entries that are left. Assumes nothing.
use Prim.Native.Nat.{ℕ}
use native.Mathlib.Omega.{arith}
use mathlib.Core.Path.{◌≡◌, refl, sym, ap, ◌∙◌}
use mathlib.Core.Bool.{Bool, true, false, not}
use Rattle.std.specs.Prelude.{Option, Some, is_some}
use mathlib.Core.List.{[]}
use lib.ListN.{length}
use borrow.Author.Count.{below_more}
use borrow.Author.Tests.{not-true, not-false}
use Rattle.terms.specs.Lists.{when}
use Rattle.terms.specs.Refusals.{levels_most, full_most, answer}
use Rattle.terms.proofs.Checks.{or_else-first, or_else-second}
use Rattle.terms.proofs.Lowest.{lowest-is, lowest-nowhere}
use Rattle.table.specs.Mapping.{Mapping}
use Rattle.table.specs.Layout.{entry_count, code_at}
use Rattle.table.specs.Table.{table, refused_at, parts_of, mapping_of}
use Rattle.table.proofs.Form.{formed-parts-at}
use Rattle.decompose.specs.Levels.{full}
use Rattle.decompose.specs.TableCheck.{unfolds, faulty_level, faulty_syllable, level_fault}
use Rattle.decompose.specs.Promises.{measured}
use Rattle.decompose.proofs.Walk.{parts_none, unfolds-whole, parts-some, split-listed}
use Rattle.decompose.proofs.depth.check_levels.Goals as goal
use Rattle.decompose.proofs.depth.check_levels.Goals.{then-parts-ne0+else-is_none, else-parts-ne0}

-- a measurement that did not fit is of a code point that 7 refuses, and one that did of one that it passes
measured-fault : (m : Mapping) (c : ℕ) (o : Option ℕ) (b : Bool) → o ≡ measured m levels_most full_most c → is_some o ≡ not b
    → not (unfolds m c) ≡ b
measured-fault m c o b e n = go (unfolds m c) b (ap is_some (sym e) ∙ n)
  where
    go : (u d : Bool) → is_some (when u (length (full m levels_most c))) ≡ not d → not u ≡ d
    go true true q = sym q
    go true false q = refl
    go false true q = refl
    go false false q = sym q

-- the entry has parts, those of its code point
pub measure-measurement-requires : goal.measure-measurement-requires
measure-measurement-requires c =
    let taken : let l = c in c.parts_at-parts.result.now ≡ parts_of ((table c.args.entries.now c.args.pool.now)) (code_at ((table c.args.entries.now c.args.pool.now)).entries l.loop-i.i) =
    let l = c in
    let t = (table c.args.entries.now c.args.pool.now) in
    c.parts_at-parts.ensures ∙ sym (formed-parts-at t l.requires l.loop-i.i (omega arith)) in
    let parted = c in
    record { pool_value = parted.requires; listed = rw c.code_at.ensures (split-listed (parts-some (taken) c.if-parts-ne0.true)) }

-- an entry whose code point has too much
pub returns-then-is_none : goal.returns-then-is_none
returns-then-is_none c =
    let called = c in
    let read = called in
    let l = read in
    let t = (table c.args.entries.now c.args.pool.now) in
    let i = l.loop-i.i in
    let measured_here = rw read.code_at.ensures at called.measure-measurement.ensures in
    let faulty = measured-fault (mapping_of t) (code_at t.entries i) _ _ measured_here (c.is_none.ensures ∙ ap not c.if-is_none.true) in
    let n = entry_count t.entries in
    let found = or_else-first _ _ i (lowest-is (faulty_level t) n i (omega arith) faulty l.loop-i.invariant) in
    rw (c.refused_at.ensures, c.number.ensures) (sym (ap (λ (o : Option ℕ). answer (refused_at 7 o) []) found))

-- one entry more that is not faulty: it was measured, or has no parts
pub loop-i-preserved : goal.loop-i-preserved
loop-i-preserved c =
    let taken : let l = c in c.parts_at-parts.result.now ≡ parts_of ((table c.args.entries.now c.args.pool.now)) (code_at ((table c.args.entries.now c.args.pool.now)).entries l.loop-i.i) =
    let l = c in
    let t = (table c.args.entries.now c.args.pool.now) in
    c.parts_at-parts.ensures ∙ sym (formed-parts-at t l.requires l.loop-i.i (omega arith)) in
    let parted = c in
    let l = parted in
    let m = mapping_of ((table c.args.entries.now c.args.pool.now)) in
    let code = code_at ((table c.args.entries.now c.args.pool.now)).entries l.loop-i.i in
    let sound : faulty_level ((table c.args.entries.now c.args.pool.now)) l.loop-i.i ≡ false =
    elim c.if-parts-ne0.branch [
      | then-parts-ne0+else-is_none w ↦
          measured-fault m code _ _ (rw w.code_at.ensures at w.measure-measurement.ensures)
          (w.is_none.ensures ∙ ap not w.if-is_none.false)
      | else-parts-ne0 w ↦ ap not (unfolds-whole m code (parts_none m code _ taken w.if-parts-ne0.false))
    ]
    in
    below_more _ _ l.loop-i.invariant sound

-- a syllable has too much
pub returns-then-not-syllables_fit : goal.returns-then-not-syllables_fit
returns-then-not-syllables_fit c =
    let passed : let t = (table c.args.entries.now c.args.pool.now) in level_fault t ≡ when (faulty_syllable (mapping_of t)) (entry_count t.entries) =
    let l = c in
    let t = (table c.args.entries.now c.args.pool.now) in
    or_else-second _ _ (lowest-nowhere (faulty_level t) (entry_count t.entries) (λ k h. l.loop-i.invariant k (omega arith))) in
    let called = c in
    let l = called in
    let t = (table c.args.entries.now c.args.pool.now) in
    let unfit = sym called.syllables_fit.ensures ∙ c.if-not-syllables_fit.true in
    let faulty = not-false (faulty_syllable (mapping_of t)) unfit in
    let found = passed ∙ ap (λ b. when b (entry_count t.entries)) faulty
    ∙ ap Some (sym l.entry_count-count.ensures) in
    rw (c.refused_at-then-not-syllables_fit.ensures, c.number-then-not-syllables_fit.ensures) (sym (ap (λ (o : Option ℕ). answer (refused_at 7 o) []) found))

-- none has
pub returns : goal.returns
returns c =
    let passed : let t = (table c.args.entries.now c.args.pool.now) in level_fault t ≡ when (faulty_syllable (mapping_of t)) (entry_count t.entries) =
    let l = c in
    let t = (table c.args.entries.now c.args.pool.now) in
    or_else-second _ _ (lowest-nowhere (faulty_level t) (entry_count t.entries) (λ k h. l.loop-i.invariant k (omega arith))) in
    let called = c in
    let t = (table c.args.entries.now c.args.pool.now) in
    let sound = not-true (faulty_syllable (mapping_of t)) (sym called.syllables_fit.ensures ∙ c.if-not-syllables_fit.false) in
    let nowhere = passed ∙ ap (λ b. when b (entry_count t.entries)) sound in
    sym (ap (λ (o : Option ℕ). answer (refused_at 7 o) []) nowhere)
