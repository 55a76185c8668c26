-- `ucd::parts::has_letters_only` meets its contract: a test of all elements is std's.
-- Assumes nothing.
use Rattle.std.proofs.Common.{◌∙◌, sym, rules, tests}
use Rattle.std.proofs.lemmas.Iterator.{YieldsList-from_slice}
use Rattle.std.proofs.lemmas.Iterator.Search.{all_from_yields_List}
use Rattle.ucd.specs.Fields.{letter}
use Rattle.ucd.proofs.Walks.{all_std}
use Rattle.ucd.proofs.parts.has_letters_only.Goals as goal

pub returns : goal.returns
returns c =
    let t = c.args.t.now in
    all_from_yields_List letter _ _ _ c.all.ensures.ran (YieldsList-from_slice t (cc)) (λ x b q k. search (rules, tests))
    ∙ sym (all_std letter t)
