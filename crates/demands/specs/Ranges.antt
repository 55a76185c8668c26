-- UTF-8 by the range in which the first octet stands, as it was defined before request 5: what its "No answer changes" speaks of.
-- Assumes nothing.
use Rattle.std.specs.Prelude.{ℕ, ◌-◌, cond, List, [], ◌∷◌, ltb}
use Rattle.std.specs.Prelude.{Option, None, Some}
use Rattle.utf8.specs.Utf8.{Character, character, trailed, taken}

-- the character at the front of a text, by the range of its first octet
abbrev pub decoded_by_range : List ℕ → Option Character
decoded_by_range [] = None
decoded_by_range (a ∷ t) =
    cond (ltb a 0x80) (Some (character a 1))
    (cond (ltb a 0xC0) None
    (cond (ltb a 0xE0) (taken 2 0x80 (trailed 1 (a - 0xC0) t))
    (cond (ltb a 0xF0) (taken 3 0x800 (trailed 2 (a - 0xE0) t))
    (cond (ltb a 0xF8) (taken 4 0x10000 (trailed 3 (a - 0xF0) t)) None))))
