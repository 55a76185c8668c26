-- `ucd::fields::from_field` meets its contract. The loop's invariant: a walk stands at the start of the next field.
-- Assumes nothing.
use Rattle.ucd.proofs.Cutting.{Stands}
use Rattle.ucd.proofs.fields.from_field.Given as goal

abbrev pub invariant-loop : goal.invariant-loop
invariant-loop l = Stands 0x3B l.line l.counter l.start
