-- A table and a text that take as much as an accepted table can: the bounds of demand 3 are attained.
-- Assumes nothing.
use Rattle.std.specs.Prelude.{ℕ, List, [], ◌∷◌, ◌++◌, replicate}
use Rattle.table.specs.Table.{Table, table}
use Rattle.utf8.specs.Utf8.{Character, character}

-- U+0001 decomposes into 32 times U+0002; that into U+0003 and so on to U+0008, which becomes U+10000: 8 levels, 32 code
-- points of 4 octets each
abbrev pub widest_entries : List ℕ
widest_entries =
    1 ∷ 1 ∷ 0 ∷ 32 ∷ 2 ∷ 2 ∷ 32 ∷ 1 ∷ 3 ∷ 3 ∷ 33 ∷ 1 ∷ 4 ∷ 4 ∷ 34 ∷ 1
    ∷ 5 ∷ 5 ∷ 35 ∷ 1 ∷ 6 ∷ 6 ∷ 36 ∷ 1 ∷ 7 ∷ 7 ∷ 37 ∷ 1 ∷ 8 ∷ 8 ∷ 38 ∷ 1
    ∷ []

abbrev pub widest_pool : List ℕ
widest_pool = replicate 32 2 ++ 3 ∷ 4 ∷ 5 ∷ 6 ∷ 7 ∷ 8 ∷ 0x10000 ∷ []

abbrev pub widest : Table
widest = table widest_entries widest_pool

-- the text of the one character U+0001, and that character
abbrev pub widest_text : List ℕ
widest_text = 1 ∷ []

abbrev pub widest_characters : List Character
widest_characters = character 1 1 ∷ []
