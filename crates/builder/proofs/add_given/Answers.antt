-- `builder::add_given` meets its contract: what was found of each check says which of 25 to 27 applies, or that none does.
-- Assumes nothing.
use Rattle.std.proofs.Common.{refl, sym, ◌∙◌}
use borrow.Author.Tests.{lt-ltb, le-ltb}
use Rattle.builder.specs.Builder.{built}
use Rattle.builder.specs.Promises.{properties_refusal}
use Rattle.builder.proofs.Adding.{added_by-refused, added_by-taken}
use Rattle.builder.proofs.add_given.Goals as goal

-- barred
pub returns-then-is_barred : goal.returns-then-is_barred
unfolding properties_refusal
returns-then-is_barred c =
    rw c.refused.ensures
    (added_by-refused (built c.args.state c.args.entries.now c.args.pool.now)
    (rw (← c.is_barred.ensures, c.if-is_barred.true)))

-- not above the last
pub returns-then-simple-state : goal.returns-then-simple-state
unfolding properties_refusal
returns-then-simple-state c =
    let clean = sym c.is_barred.ensures ∙ c.if-is_barred.false in
    rw c.refused-then-simple-state.ensures
    (added_by-refused (built c.args.state c.args.entries.now c.args.pool.now)
    (rw (clean, lt-ltb _ _ c.if-simple-state.true)))

-- no room
pub returns-then-is_crowded : goal.returns-then-is_crowded
unfolding properties_refusal
returns-then-is_crowded c =
    let clean = sym c.is_barred.ensures ∙ c.if-is_barred.false in
    rw c.refused-then-is_crowded.ensures
    (added_by-refused (built c.args.state c.args.entries.now c.args.pool.now)
    (rw (clean, le-ltb _ _ c.if-simple-state.false, ← c.is_crowded.ensures, c.if-is_crowded.true)))

-- none of them
pub returns : goal.returns
unfolding properties_refusal
returns c =
    let clean = sym c.is_barred.ensures ∙ c.if-is_barred.false in
    added_by-taken (built c.args.state c.args.entries.now c.args.pool.now)
    (rw (clean, le-ltb _ _ c.if-simple-state.false, ← c.is_crowded.ensures, c.if-is_crowded.false))
    refl
    c.store.ensures
