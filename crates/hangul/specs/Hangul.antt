-- Hangul syllables and their decompositions (document 02, request 4; the Unicode Standard, section 3.12, whose names the constants
-- have).
-- Assumes nothing.
use Rattle.std.specs.Prelude.{ℕ, ◌+◌, ◌-◌, ◌*◌, ◌/◌, ◌%◌, Bool, cond, ◌&&◌, List, [], ◌∷◌, leb, ltb, eqb}

-- ---- constants

-- the first syllable
abbrev pub s_base : ℕ
s_base = 0xAC00

-- the first leading consonant
abbrev pub l_base : ℕ
l_base = 0x1100

-- the first vowel
abbrev pub v_base : ℕ
v_base = 0x1161

-- one below the first trailing consonant
abbrev pub t_base : ℕ
t_base = 0x11A7

-- the number of leading consonants
abbrev pub l_count : ℕ
l_count = 19

-- of vowels
abbrev pub v_count : ℕ
v_count = 21

-- and of trailing consonants, none being the first
abbrev pub t_count : ℕ
t_count = 28

-- the number of syllables with one leading consonant
abbrev pub n_count : ℕ
n_count = v_count * t_count

-- the number of syllables
abbrev pub s_count : ℕ
s_count = l_count * n_count

-- ---- syllables

-- "AC00 to D7A3"
unfoldable pub syllable : ℕ → Bool
syllable c = leb s_base c && ltb c (s_base + s_count)

-- "with s the distance from AC00, the parts are 1100 + s/588, 1161 + (s mod 588)/28 and, if s mod 28 isn't 0, 11A7 + s mod 28"
unfoldable pub syllable_parts : ℕ → List ℕ
syllable_parts c =
    let s = c - s_base in
    (l_base + s / n_count) ∷ (v_base + s % n_count / t_count) ∷ cond (eqb (s % t_count) 0) [] ((t_base + s % t_count) ∷ [])

-- the syllable of a leading consonant, a vowel and a trailing consonant, each counted from its base: the Standard's composition
abbrev pub composed : ℕ → ℕ → ℕ → ℕ
composed l v t = s_base + ((l * v_count + v) * t_count + t)
