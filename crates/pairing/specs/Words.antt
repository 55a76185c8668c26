-- The lines that the program `pairs` prints, as octets: "Each line prints `equal`, `less`, `greater` or `refused` and the
-- number", "The last line counts all lines read", and `table refused` and the number. Words are in ASCII.
-- Assumes nothing.
use Rattle.std.specs.Prelude.{◌≡◌, refl, ℕ, zero, suc, ◌+◌, ◌/◌, ◌%◌, ◌≤◌, ◌<◌, Bool, true, false, cond, List, [], ◌∷◌, ◌++◌, ltb}
use Rattle.std.proofs.Common.{arith, ltb-false, lt-ltb, le-ltb}
use Rattle.std.specs.Prelude.{Result, Ok, Err}
use Rattle.std.specs.declared.cmp.Ordering.{Ordering}
use Rattle.std.specs.declared.cmp.Ordering.TheVariants.{Less, Equal, Greater}
use Rattle.terms.specs.declared.Refusal.{Refusal}

-- ---- numbers

-- the octet of a digit
abbrev pub digit : ℕ → ℕ
digit d = 0x30 + d

-- a number in decimal, the number k being above it: a digit alone, or the digits of a tenth and then the last
unfoldable pub decimal_by : ℕ → ℕ → List ℕ
decimal_by zero n = []
decimal_by (suc k) n = cond (ltb n 10) (digit n ∷ []) (decimal_by k (n / 10) ++ (digit (n % 10) ∷ []))

-- a number in decimal
unfoldable pub decimal : ℕ → List ℕ
decimal n = decimal_by (suc n) n

-- any number above it will do
decimal_by-enough : (j k n : ℕ) → n < j → n < k → decimal_by j n ≡ decimal_by k n
unfolding decimal_by
decimal_by-enough zero k n h l = absurd (omega arith)
decimal_by-enough (suc j) zero n h l = absurd (omega arith)
decimal_by-enough (suc j) (suc k) n h l = go (ltb n 10) refl (decimal_by-enough j k (n / 10))
  where
    go : (b : Bool) → ltb n 10 ≡ b → (n / 10 < j → n / 10 < k → decimal_by j (n / 10) ≡ decimal_by k (n / 10))
        → cond b (digit n ∷ []) (decimal_by j (n / 10) ++ (digit (n % 10) ∷ []))
        ≡ cond b (digit n ∷ []) (decimal_by k (n / 10) ++ (digit (n % 10) ∷ []))
    go true e same = refl
    go false e same = let more : 10 ≤ n = ltb-false n 10 e in rw (same (omega arith) (omega arith))

-- a number below 10 is its digit
pub decimal_digit : (n : ℕ) → n < 10 → decimal n ≡ digit n ∷ []
unfolding decimal decimal_by
decimal_digit n h = rw (lt-ltb n 10 h)

-- any other is a tenth of it, and then its last digit
pub decimal-more : (n : ℕ) → 10 ≤ n → decimal n ≡ decimal (n / 10) ++ (digit (n % 10) ∷ [])
unfolding decimal decimal_by
decimal-more n h = rw (le-ltb n 10 h, decimal_by-enough n (suc (n / 10)) (n / 10) (omega arith) (omega arith))

-- ---- words

-- `less`
abbrev pub less : List ℕ
less = 0x6C ∷ 0x65 ∷ 0x73 ∷ 0x73 ∷ []

-- `equal`
abbrev pub equal : List ℕ
equal = 0x65 ∷ 0x71 ∷ 0x75 ∷ 0x61 ∷ 0x6C ∷ []

-- `greater`
abbrev pub greater : List ℕ
greater = 0x67 ∷ 0x72 ∷ 0x65 ∷ 0x61 ∷ 0x74 ∷ 0x65 ∷ 0x72 ∷ []

-- `refused` and a space
abbrev pub refused_word : List ℕ
refused_word = 0x72 ∷ 0x65 ∷ 0x66 ∷ 0x75 ∷ 0x73 ∷ 0x65 ∷ 0x64 ∷ 0x20 ∷ []

-- `table` and a space
abbrev pub table_word : List ℕ
table_word = 0x74 ∷ 0x61 ∷ 0x62 ∷ 0x6C ∷ 0x65 ∷ 0x20 ∷ []

-- `pairs` and a space
abbrev pub pairs_word : List ℕ
pairs_word = 0x70 ∷ 0x61 ∷ 0x69 ∷ 0x72 ∷ 0x73 ∷ 0x20 ∷ []

-- `collation` and a space
abbrev pub collation_word : List ℕ
collation_word = 0x63 ∷ 0x6F ∷ 0x6C ∷ 0x6C ∷ 0x61 ∷ 0x74 ∷ 0x69 ∷ 0x6F ∷ 0x6E ∷ 0x20 ∷ []

-- `i;unicode-casemap`
abbrev pub unicode_casemap : List ℕ
unicode_casemap =
    0x69 ∷ 0x3B ∷ 0x75 ∷ 0x6E ∷ 0x69 ∷ 0x63 ∷ 0x6F ∷ 0x64 ∷ 0x65 ∷ 0x2D
    ∷ 0x63 ∷ 0x61 ∷ 0x73 ∷ 0x65 ∷ 0x6D ∷ 0x61 ∷ 0x70 ∷ []

-- the words of an answer
abbrev pub words_of : Result Ordering Refusal → List ℕ
words_of (Ok Less) = less
words_of (Ok Equal) = equal
words_of (Ok Greater) = greater
words_of (Err r) = refused_word ++ decimal r.number

-- ---- lines

-- each line ends in 0A
abbrev pub ended : List ℕ → List ℕ
ended words = words ++ (0x0A ∷ [])

-- a word, a number in decimal, and the line end
abbrev pub numbered : List ℕ → ℕ → List ℕ
numbered word n = ended (word ++ decimal n)

-- the line of an answer
abbrev pub answer_line : Result Ordering Refusal → List ℕ
answer_line answer = ended (words_of answer)

-- the first line
abbrev pub heading_line : List ℕ
heading_line = ended (collation_word ++ unicode_casemap)

-- the last line
abbrev pub count_line : ℕ → List ℕ
count_line n = numbered pairs_word n

-- the only line where a data line or the table is refused
abbrev pub table_line : ℕ → List ℕ
table_line n = numbered (table_word ++ refused_word) n

-- room for any of these lines
abbrev pub words_most : ℕ
words_most = 35
