-- `ucd::fields::find_field` meets its contract: the field is the first of those from there on.
-- Assumes nothing.
use Rattle.std.proofs.Common.{◌≡◌, arith, ◌∙◌, sym, ap, ℕ, take}
use Rattle.std.proofs.lemmas.List.{length-take-le}
use native.Mathlib.Nat.{add-zero}
use Rattle.ucd.specs.Fields.{field}
use Rattle.ucd.specs.Promises.{piece_end}
use Rattle.ucd.proofs.Cutting.{piece_end-most, cut-first, field-left}
use Rattle.ucd.proofs.fields.find_field.Goals as goal

pub slice_bounds-result-end : goal.slice_bounds-result-end
slice_bounds-result-end c =
    let rest = c.from_field-rest.result.now in
    sym (length-take-le c.piece_end.result rest (omega (arith, c.piece_end.ensures, piece_end-most 0x3B rest)))

pub returns : goal.returns
returns c =
    let rest = c.from_field-rest.result.now in
    let ends : c.piece_end.result ≡ piece_end 0x3B (c.from_field-rest.result.now) = omega (arith, c.piece_end.ensures) in
    ap (λ (n : ℕ). take n (c.from_field-rest.result.now)) ends
    ∙ (cut-first 0x3B rest
    ∙ field-left c.args.line.now rest c.args.k 0 c.from_field-rest.ensures
    ∙ ap (λ (k : ℕ). field k c.args.line.now) (add-zero c.args.k))
