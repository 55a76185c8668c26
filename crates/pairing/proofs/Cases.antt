-- Lines of document 01's example, and the edges of a line, by computation.
-- Assumes nothing.
use mathlib.Core.Path.{◌≡◌, refl}
use Rattle.std.specs.Prelude.{Some, Ok, Err}
use mathlib.Core.List.{[], ◌∷◌, ◌++◌}
use Rattle.terms.specs.Lists.{lowest}
use Rattle.terms.specs.Refusals.{refusal}
use Rattle.std.specs.declared.cmp.Ordering.TheVariants.{Less, Equal, Greater}
use Rattle.pairing.specs.Pairing.{tab_of, pair_refusal}
use Rattle.pairing.specs.Words.{decimal_by, decimal, less, equal, greater, refused_word, pairs_word, words_of, answer_line}
use Rattle.pairing.specs.Words.{count_line, table_line}

-- `a`, tab, `A`, tab, `B`: the line is cut at the first tab, so the later one belongs to the second text
pub later-tab : tab_of (0x61 ∷ 0x09 ∷ 0x41 ∷ 0x09 ∷ 0x42 ∷ []) ≡ Some 1
unfolding lowest
later-tab = refl

-- a line without a tab, and an empty one
pub no-tab : (pair_refusal (0x61 ∷ []) ≡ Some (refusal 9 0 0)) × (pair_refusal [] ≡ Some (refusal 9 0 0))
unfolding lowest
no-tab = (refl, refl)

-- the words of each answer
pub words : (words_of (Ok Less) ≡ less) × (words_of (Ok Equal) ≡ equal) × (words_of (Ok Greater) ≡ greater)
words = (refl, refl, refl)

-- `refused 2`, `pairs 4`, `pairs 0`, `table refused 27`
pub numbers : (answer_line (Err (refusal 2 0 0)) ≡ refused_word ++ (0x32 ∷ 0x0A ∷ []))
    × (count_line 4 ≡ pairs_word ++ (0x34 ∷ 0x0A ∷ []))
    × (count_line 0 ≡ pairs_word ++ (0x30 ∷ 0x0A ∷ []))
    × (table_line 27 ≡ 0x74 ∷ 0x61 ∷ 0x62 ∷ 0x6C ∷ 0x65 ∷ 0x20 ∷ refused_word ++ (0x32 ∷ 0x37 ∷ 0x0A ∷ []))
unfolding decimal decimal_by
numbers = (refl, refl, refl, refl)
