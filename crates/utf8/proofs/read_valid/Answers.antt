-- `utf8::read_valid` meets its contract: a character stands at the position, so its first octet announces one to four, and the
-- octets that follow are there and trail.
-- Assumes nothing.
use mathlib.Core.Path.{sym, ◌∙◌, ap}
use native.Mathlib.Omega.{arith}
use Rattle.std.specs.Prelude.{Some}
use Rattle.utf8.proofs.Decode.{decode-stands}
use Rattle.utf8.proofs.Reading.{row-at, announces-one, announces-two, longer-two, longer-three, longer-four}
use Rattle.utf8.proofs.read_valid.Goals as goal
use Rattle.utf8.proofs.read_valid.Goals.{in_default-via-in-Some+in_default, in_default-via-in_default}

pub bounds-text-i : goal.bounds-text-i
bounds-text-i c = decode-stands c.args.text.now c.args.at.0 c.requires

pub overflow_add-rest : goal.overflow_add-rest
overflow_add-rest c = omega (arith, decode-stands c.args.text.now c.args.at.0 c.requires, c.well_formed.0)

pub slice_bounds-rest-count : goal.slice_bounds-rest-count
slice_bounds-rest-count c = omega (arith, decode-stands c.args.text.now c.args.at.0 c.requires)

pub slice_bounds-rest-start : goal.slice_bounds-rest-start
slice_bounds-rest-start c = omega (arith, decode-stands c.args.text.now c.args.at.0 c.requires)

-- one octet
pub returns-in-Some-eq1 : goal.returns-in-Some-eq1
returns-in-Some-eq1 c =
    sym (row-at c.args.text.now c.args.at.0 c.requires (Some 1) (ap Some (sym c.in-Some-eq1.field-0-test) ∙ c.in-Some-eq1.ensures))

-- three
pub overflow_sub-a : goal.overflow_sub-a
overflow_sub-a c =
    (longer-three c.args.text.now c.args.at.0 c.requires (ap Some (sym c.in-Some-eq3.field-0-test) ∙ c.in-Some-eq3.ensures)).above

pub join-requires : goal.join-requires
join-requires c =
    let r = longer-three c.args.text.now c.args.at.0 c.requires (ap Some (sym c.in-Some-eq3.field-0-test) ∙ c.in-Some-eq3.ensures) in
    record { count_bound = omega arith; bits_bound = r.bits; rest_value = r.trails }

pub returns-in-Some-eq3 : goal.returns-in-Some-eq3
returns-in-Some-eq3 c =
    (longer-three c.args.text.now c.args.at.0 c.requires (ap Some (sym c.in-Some-eq3.field-0-test) ∙ c.in-Some-eq3.ensures)).is
    c.join.ensures

-- four
pub overflow_sub-a-in-Some-eq4 : goal.overflow_sub-a-in-Some-eq4
overflow_sub-a-in-Some-eq4 c =
    (longer-four c.args.text.now c.args.at.0 c.requires (ap Some (sym c.in-Some-eq4.field-0-test) ∙ c.in-Some-eq4.ensures)).above

pub join-requires-in-Some-eq4 : goal.join-requires-in-Some-eq4
join-requires-in-Some-eq4 c =
    let r = longer-four c.args.text.now c.args.at.0 c.requires (ap Some (sym c.in-Some-eq4.field-0-test) ∙ c.in-Some-eq4.ensures) in
    record { count_bound = omega arith; bits_bound = r.bits; rest_value = r.trails }

pub returns-in-Some-eq4 : goal.returns-in-Some-eq4
returns-in-Some-eq4 c =
    (longer-four c.args.text.now c.args.at.0 c.requires (ap Some (sym c.in-Some-eq4.field-0-test) ∙ c.in-Some-eq4.ensures)).is
    c.join-in-Some-eq4.ensures

-- two
pub overflow_sub-a-in_default : goal.overflow_sub-a-in_default
overflow_sub-a-in_default c =
    (longer-two c.args.text.now c.args.at.0 c.requires
    (elim c.in_default.branch [
      | in_default-via-in-Some+in_default w ↦
          let test = w.in_default.field-0-test in
          announces-two c.args.text.now c.args.at.0 c.requires w.in_default.ensures test.0.0.1 test.0.1 test.1
      | in_default-via-in_default w ↦
          absurd (announces-one c.args.text.now c.args.at.0 c.requires (sym w.in_default.is ∙ c.sequence_length.ensures))
    ])).above

pub join-requires-in_default : goal.join-requires-in_default
join-requires-in_default c =
    let r =
    longer-two c.args.text.now c.args.at.0 c.requires
    (elim c.in_default.branch [
      | in_default-via-in-Some+in_default w ↦
          let test = w.in_default.field-0-test in
          announces-two c.args.text.now c.args.at.0 c.requires w.in_default.ensures test.0.0.1 test.0.1 test.1
      | in_default-via-in_default w ↦
          absurd (announces-one c.args.text.now c.args.at.0 c.requires (sym w.in_default.is ∙ c.sequence_length.ensures))
    ]) in
    record { count_bound = omega arith; bits_bound = r.bits; rest_value = r.trails }

pub returns-in_default : goal.returns-in_default
returns-in_default c =
    (longer-two c.args.text.now c.args.at.0 c.requires
    (elim c.in_default.branch [
      | in_default-via-in-Some+in_default w ↦
          let test = w.in_default.field-0-test in
          announces-two c.args.text.now c.args.at.0 c.requires w.in_default.ensures test.0.0.1 test.0.1 test.1
      | in_default-via-in_default w ↦
          absurd (announces-one c.args.text.now c.args.at.0 c.requires (sym w.in_default.is ∙ c.sequence_length.ensures))
    ])).is
    c.join-in_default.ensures
