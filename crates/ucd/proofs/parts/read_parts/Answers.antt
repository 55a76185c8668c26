-- `ucd::parts::read_parts` meets its contract: whether the field is empty, and whether it begins with a tag, says which case of
-- `decomposition` holds.
-- Assumes nothing.
use Rattle.std.proofs.Common.{◌≡◌, sym, ◌∙◌, ap, ◌<◌, ◌+◌, ◌-◌, length, ℕ, take, drop, true, false, arith, rules}
use Rattle.std.proofs.lemmas.List.{length-take-le, take_rest}
use Rattle.ucd.specs.Fields.{tag}
use Rattle.ucd.specs.Promises.{piece_end}
use Rattle.ucd.proofs.Cutting.{piece_end-most}
use Rattle.ucd.proofs.Listing.{decomposition-empty, decomposition-plain, decomposition-alone, decomposition-tagged}
use Rattle.ucd.proofs.parts.read_parts.Goals as goal

-- an empty field
pub returns-then-is_empty : goal.returns-then-is_empty
returns-then-is_empty c = record {
  read = decomposition-empty c.args.t.now (search rules);
  within = search rules;
}

pub slice_bounds-is_tag-end : goal.slice_bounds-is_tag-end
slice_bounds-is_tag-end c =
    let t = c.args.t.now in
    sym (length-take-le c.piece_end-n.result t (omega (arith, c.piece_end-n.ensures, piece_end-most 0x20 t)))

-- no tag
pub returns-then-not-is_tag : goal.returns-then-not-is_tag
returns-then-not-is_tag c =
    let t = c.args.t.now in
    let ends : c.piece_end-n.result ≡ piece_end 0x20 c.args.t.now = omega (arith, c.piece_end-n.ensures) in
    let no : tag (take (piece_end 0x20 t) t) ≡ false =
    rw ends at (sym c.is_tag.ensures ∙ c.if-not-is_tag.true) in
    rw (decomposition-plain t (search rules) no) c.read_listed.ensures

-- a tag alone
pub returns-then-n-t : goal.returns-then-n-t
returns-then-n-t c =
    let t = c.args.t.now in
    let ends : c.piece_end-n.result ≡ piece_end 0x20 c.args.t.now = omega (arith, c.piece_end-n.ensures) in
    let yes : tag (take (piece_end 0x20 t) t) ≡ true =
    rw ends at (sym c.is_tag.ensures ∙ c.if-not-is_tag.false) in
    record {
      read = decomposition-alone t (search rules) yes (sym ends ∙ c.if-n-t.true);
      within = search rules;
    }

pub overflow_add-n : goal.overflow_add-n
overflow_add-n c = omega (arith, c.piece_end-n.ensures, piece_end-most 0x20 c.args.t.now, c.well_formed.0)

pub slice_bounds-read_listed-count : goal.slice_bounds-read_listed-count
slice_bounds-read_listed-count c = omega (arith, c.piece_end-n.ensures, piece_end-most 0x20 c.args.t.now)

pub slice_bounds-read_listed-start : goal.slice_bounds-read_listed-start
slice_bounds-read_listed-start c = omega (arith, c.piece_end-n.ensures, piece_end-most 0x20 c.args.t.now)

-- a tag and more
pub returns : goal.returns
returns c =
    let t = c.args.t.now in
    let n = c.piece_end-n.result in
    let ends : c.piece_end-n.result ≡ piece_end 0x20 c.args.t.now = omega (arith, c.piece_end-n.ensures) in
    let yes : tag (take (piece_end 0x20 t) t) ≡ true =
    rw ends at (sym c.is_tag.ensures ∙ c.if-not-is_tag.false) in
    let more : piece_end 0x20 t < length t = omega (arith, c.piece_end-n.ensures, piece_end-most 0x20 t) in
    let rest : take (length t - (n + 1)) (drop (n + 1) t) ≡ drop (piece_end 0x20 t + 1) t =
    take_rest t (n + 1) ∙ ap (λ (k : ℕ). drop (k + 1) t) ends in
    rw (decomposition-tagged t (search rules) yes more, ← rest) c.read_listed-2.ensures
