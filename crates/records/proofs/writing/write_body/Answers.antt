-- `records::writing::write_body` meets its contract: no room past the end and where too little is left, else the record in the
-- part from the position on.
-- Assumes nothing.
use mathlib.Core.Path.{◌≡◌, ap, ◌∙◌}
use Prim.Native.Nat.{ℕ, ◌+◌, ◌-◌, ◌<◌}
use native.Mathlib.Omega.{arith}
use mathlib.Core.List.{◌++◌}
use lib.ListN.{length, length-append}
use Rattle.terms.specs.Refusals.{refusal}
use Rattle.records.specs.Items.{framed}
use Rattle.records.specs.Kinds.{kind_number}
use Rattle.std.specs.Prelude.{Ok, Err}
use Rattle.records.proofs.Lengths.{length-framed}
use Rattle.records.proofs.Putting.{puts-no-room, puts-room}
use Rattle.records.proofs.writing.write_body.Goals as goal
use Rattle.records.proofs.writing.write_body.Goals.{then-records-at-via-then-records-at}
use Rattle.records.proofs.writing.write_body.Goals.{then-records-at-via-else-records-at+then-records-at-2}

-- past the end, or too little is left
pub returns-then-records-at : goal.returns-then-records-at
returns-then-records-at c =
    let a = c.args in
    let octets = framed (kind_number a.kind) (a.fields.now ++ a.octets.now) in
    let long : 6 + (length a.fields.now + length a.octets.now) ≡ length octets =
    omega (
      arith,
      length-framed (kind_number a.kind) (a.fields.now ++ a.octets.now),
      length-append a.fields.now a.octets.now,
    )
    in
    let few : length a.records.now - a.position.0 < length octets =
    elim c.then-records-at.branch [
      | then-records-at-via-then-records-at w ↦ omega (arith, long, w.if-records-at.true)
      | then-records-at-via-else-records-at+then-records-at-2 w ↦ omega (arith, long, w.if-records-at-2.true)
    ]
    in
    puts-no-room octets a.position.0 a.records.now _ few
    (ap Err (c.refusal.ensures ∙ ap (λ (n : ℕ). refusal 8 0 n) long))

-- there is room
pub returns : goal.returns
returns c =
    let long : 6 + (length c.args.fields.now + length c.args.octets.now) ≡ length ((framed (kind_number c.args.kind) (c.args.fields.now ++ c.args.octets.now))) =
    let a = c.args in
    omega (
      arith,
      length-framed (kind_number a.kind) (a.fields.now ++ a.octets.now),
      length-append a.fields.now a.octets.now,
    ) in
    let put = c in
    let passed = put in
    let s = passed in
    puts-room ((framed (kind_number c.args.kind) (c.args.fields.now ++ c.args.octets.now))) s.args.position.0 s.args.records.now _ _ _
    (omega (arith, long, passed.if-records-at-2.false))
    put.put_record.ensures
    (ap (λ (n : ℕ). Ok (record { 0 = s.args.position.0 + n })) (long))
