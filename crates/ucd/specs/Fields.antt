-- The fields of a line of UnicodeData.txt: field 0 the code point, 5 the decomposition, 12 the uppercase, 14 the titlecase.
-- Assumes nothing.
use Rattle.std.specs.Prelude.{ℕ, suc, ◌+◌, ◌-◌, ◌*◌, Bool, cond, ◌&&◌, ◌||◌, not, List, [], ◌∷◌, leb, eqb, length, get_or, take, drop}
use Rattle.std.specs.Prelude.{Option, None, Some, option_map, option_and_then}
use Rattle.terms.specs.Lists.{all, empty, there, when}
use Rattle.terms.specs.Refusals.{parts_most}

-- ---- cutting

-- an octet before the first of the pieces
abbrev pub grow : ℕ → List (List ℕ) → List (List ℕ)
grow o [] = (o ∷ []) ∷ []
grow o (p ∷ ps) = (o ∷ p) ∷ ps

-- the pieces of a line between separators: always one more than there are separators
unfoldable pub cut : ℕ → List ℕ → List (List ℕ)
cut sep [] = [] ∷ []
cut sep (o ∷ os) = cond (eqb o sep) ([] ∷ cut sep os) (grow o (cut sep os))

-- how often an octet stands in a line: there is one piece more (`length_cut` of proofs/Cutting.antt)
unfoldable pub times : ℕ → List ℕ → ℕ
times sep [] = 0
times sep (o ∷ os) = cond (eqb o sep) (suc (times sep os)) (times sep os)

-- the semicolons of a line (21)
abbrev pub semicolons : List ℕ → ℕ
semicolons line = times 0x3B line

-- the fields of a line, between semicolons
abbrev pub fields : List ℕ → List (List ℕ)
fields line = cut 0x3B line

-- field i of a line
abbrev pub field : ℕ → List ℕ → List ℕ
field i line = get_or (fields line) i []

-- ---- code points: "4 to 6 digits, 0-9 and A-F, at most 10FFFF, with no leading zero past four digits"

-- the value of a digit
abbrev pub digit : ℕ → Option ℕ
digit o =
    cond (leb 0x30 o && leb o 0x39) (Some (o - 0x30))
    (cond (leb 0x41 o && leb o 0x46) (Some (o - 0x37)) None)

-- the value of digits after the value so far, if each is one
unfoldable pub digits : ℕ → List ℕ → Option ℕ
digits n [] = Some n
digits n (o ∷ os) = option_and_then (λ d. digits (n * 16 + d) os) (digit o)

-- 4 to 6 octets, and more than four only if the first is not the digit 0
abbrev pub well_sized : List ℕ → Bool
well_sized os = eqb (length os) 4 || ((eqb (length os) 5 || eqb (length os) 6) && not (eqb (get_or os 0 0) 0x30))

-- a value that is at most 10FFFF
abbrev pub bounded : Option ℕ → Option ℕ
bounded None = None
bounded (Some v) = when (leb v 0x10FFFF) v

-- the code point that the octets write, if they write one
unfoldable pub code_point : List ℕ → Option ℕ
code_point os = cond (well_sized os) (bounded (digits 0 os)) None

-- the code points that the pieces write, if each writes one
unfoldable pub code_points : List (List ℕ) → Option (List ℕ)
code_points [] = Some []
code_points (p ∷ ps) = option_and_then (λ c. option_map (λ cs. c ∷ cs) (code_points ps)) (code_point p)

-- ---- field 5: "empty, or 1 to 32 code points with single spaces between, after an optional tag .. and one space"

-- a letter A-Z or a-z
abbrev pub letter : ℕ → Bool
letter o = (leb 0x41 o && leb o 0x5A) || (leb 0x61 o && leb o 0x7A)

-- "an optional tag of one or more letters A-Z or a-z in angle brackets"
abbrev pub tag : List ℕ → Bool
tag p =
    leb 3 (length p)
    && eqb (get_or p 0 0) 0x3C
    && eqb (get_or p (length p - 1) 0) 0x3E
    && all letter (take (length p - 2) (drop 1 p))

-- the pieces after the tag, if there is one
abbrev pub untagged : List (List ℕ) → List (List ℕ)
untagged [] = []
untagged (p ∷ ps) = cond (tag p) ps (p ∷ ps)

-- 1 to 32 code points
abbrev pub some_parts : List (List ℕ) → Option (List ℕ)
some_parts ps = cond (leb 1 (length ps) && leb (length ps) parts_most) (code_points ps) None

-- the decomposition that field 5 says, if it is well formed
unfoldable pub decomposition : List ℕ → Option (List ℕ)
decomposition os = cond (empty os) (Some []) (some_parts (untagged (cut 0x20 os)))

-- ---- fields 12 and 14: "an empty titlecase means the simple uppercase, field 12"

-- a field that may be empty is well formed: it is empty, or writes a code point
abbrev pub optional : List ℕ → Bool
optional os = empty os || there (code_point os)

-- the code point that such a field says: another one, c, if it is empty
unfoldable pub code_point_or : ℕ → List ℕ → Option ℕ
code_point_or c os = cond (empty os) (Some c) (code_point os)

-- the titlecase that fields 12 and 14 give a code point: field 14's, the uppercase if that is empty, itself if both are
unfoldable pub titlecase : ℕ → List ℕ → List ℕ → Option ℕ
titlecase c upper title = option_and_then (λ u. code_point_or u title) (code_point_or c upper)
