-- The three numbers that stand for the jamo of a syllable.
-- Assumes nothing.
use Rattle.std.specs.Prelude.{ℕ, ◌+◌, ◌-◌, ◌/◌, ◌%◌, List, [], ◌∷◌}
use Rattle.hangul.specs.Hangul.{s_base, l_base, v_base, t_base, n_count, t_count}

-- the leading consonant, the vowel, and the trailing consonant or its base
unfoldable pub jamo_of : ℕ → List ℕ
jamo_of c = let s = c - s_base in (l_base + s / n_count) ∷ (v_base + s % n_count / t_count) ∷ (t_base + s % t_count) ∷ []
