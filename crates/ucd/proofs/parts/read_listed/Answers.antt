-- `ucd::parts::read_listed` meets its contract: std's parts between spaces are the pieces.
-- Assumes nothing.
use Rattle.std.proofs.Common.{◌≡◌, sym, ◌∙◌, ap, ◌<◌, length, List, [], ℕ, eqb, get_or, arith, rules, tests}
use Rattle.std.specs.List.{slice_split}
use Rattle.std.proofs.lemmas.List.{length-set, length_push, get_or_default}
use Rattle.std.proofs.lemmas.Iterator.Splits.{YieldsList-from_slice_split}
use Rattle.std.proofs.lemmas.Iterator.Consumers.{YieldsList-turn, YieldsList-end, YieldsList-at}
use Rattle.ucd.specs.Fields.{cut, code_point}
use Rattle.ucd.specs.Promises.{number_read}
use Rattle.ucd.proofs.Cutting.{cut-split, cut-some}
use Rattle.ucd.proofs.Listing.{lists-first, lists-none, lists-many, lists-more, lists-all}
use Rattle.ucd.proofs.parts.read_listed.Goals as goal

-- the piece that std gives is the next one
record Here (t piece : List ℕ) (count : ℕ) : Type 0 where
  within : count < length (cut 0x20 t)
  is : get_or (cut 0x20 t) count [] ≡ piece

here : (t piece : List ℕ) (n count : ℕ)
    → count ≡ n
    → (n < length (slice_split (λ o. eqb o 0x20) t)) × (piece ≡ get_or (slice_split (λ o. eqb o 0x20) t) n piece)
    → Here t piece count
here t piece n count e h = rw e (record {
  within = rw (cut-split 0x20 t) h.0;
  is = rw (cut-split 0x20 t) (get_or_default (slice_split (λ o. eqb o 0x20) t) n [] piece h.0 ∙ sym h.1);
})

pub loop-piece-init : goal.loop-piece-init
loop-piece-init c = record {
  room = search rules;
  most = search rules;
  read = search rules;
  lists = lists-first (cut 0x20 c.args.t.now) c.args.parts.now;
}

-- more pieces than may be
pub returns-then-count-eq-PARTS_MOST : goal.returns-then-count-eq-PARTS_MOST
returns-then-count-eq-PARTS_MOST c =
    let turn =
    YieldsList-turn
    (YieldsList-at c.into_iter-piece-iterator.ensures.into_iter_gives
    (YieldsList-from_slice_split _ (λ o. eqb o 0x20) c.args.t.now c.split-piece-items.ensures.rest
    c.split-piece-items.ensures.done c.split-piece-items.ensures.closure (λ x r q k. search (rules, tests))))
    c.loop-piece.yielded _ c.loop-piece.yielded_by _ _ c.in-Some.piece c.in-Some.is c.next.ensures.steps in
    let next : Here c.args.t.now c.in-Some.piece.now c.loop-piece.count = here _ _ _ _ c.loop-piece.invariant.read turn in
    record { read = sym (lists-many (cut 0x20 c.args.t.now) (omega arith)); within = search rules }

-- a piece that writes no code point
pub returns-in_err-parts : goal.returns-in_err-parts
returns-in_err-parts c =
    let turn =
    YieldsList-turn
    (YieldsList-at c.into_iter-piece-iterator.ensures.into_iter_gives
    (YieldsList-from_slice_split _ (λ o. eqb o 0x20) c.args.t.now c.split-piece-items.ensures.rest
    c.split-piece-items.ensures.done c.split-piece-items.ensures.closure (λ x r q k. search (rules, tests))))
    c.loop-piece.yielded _ c.loop-piece.yielded_by _ _ c.in-Some.piece c.in-Some.is c.next.ensures.steps in
    let next : Here c.args.t.now c.in-Some.piece.now c.loop-piece.count = here _ _ _ _ c.loop-piece.invariant.read turn in
    let none = sym c.read_code_point.ensures ∙ ap number_read c.in_err-parts.was in
    rw c.from_residual.ensures
    (record {
      read = sym (lists-none (cut 0x20 c.args.t.now) c.loop-piece.count next.within (ap code_point next.is ∙ none));
      within = search rules;
    })

-- one part more
pub loop-piece-preserved : goal.loop-piece-preserved
loop-piece-preserved c =
    let turn =
    YieldsList-turn
    (YieldsList-at c.into_iter-piece-iterator.ensures.into_iter_gives
    (YieldsList-from_slice_split _ (λ o. eqb o 0x20) c.args.t.now c.split-piece-items.ensures.rest
    c.split-piece-items.ensures.done c.split-piece-items.ensures.closure (λ x r q k. search (rules, tests))))
    c.loop-piece.yielded _ c.loop-piece.yielded_by _ _ c.in-Some.piece c.in-Some.is c.next.ensures.steps in
    let next : Here c.args.t.now c.in-Some.piece.now c.loop-piece.count = here _ _ _ _ c.loop-piece.invariant.read turn in
    let l = c.loop-piece in
    let part = c.in_ok-parts.field-0.0 in
    let some = sym c.read_code_point.ensures ∙ ap number_read c.in_ok-parts.was in
    record {
      room = length-set l.parts l.count part ∙ l.invariant.room;
      most = omega arith;
      read = omega (arith, length_push l.yielded c.in-Some.piece);
      lists =
          lists-more (cut 0x20 c.args.t.now) l.invariant.lists part next.within (ap code_point next.is ∙ some)
          (omega arith);
    }

-- the last piece
pub returns : goal.returns
returns c =
    let end =
    YieldsList-end
    (YieldsList-at c.into_iter-piece-iterator.ensures.into_iter_gives
    (YieldsList-from_slice_split _ (λ o. eqb o 0x20) c.args.t.now c.split-piece-items.ensures.rest
    c.split-piece-items.ensures.done c.split-piece-items.ensures.closure (λ x r q k. search (rules, tests))))
    c.loop-piece.yielded _ c.loop-piece.yielded_by _ _ c.in-None.is c.next.ensures.steps in
    let pieces = cut 0x20 c.args.t.now in
    let all : c.loop-piece.count ≡ length pieces =
    c.loop-piece.invariant.read ∙ end.1 ∙ ap (λ (l : List (List ℕ)). length l) (sym (cut-split 0x20 c.args.t.now)) in
    record {
      read =
          lists-all pieces c.loop-piece.invariant.lists (omega arith)
          (omega (arith, cut-some 0x20 c.args.t.now))
          c.loop-piece.invariant.most;
      within = c.loop-piece.invariant.most;
    }
