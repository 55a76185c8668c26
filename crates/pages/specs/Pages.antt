-- Paged presence bits (document 02, request 6): what the two page slices hold of a table's entries, and how an entry's place is
-- found from them.
-- Assumes nothing.
use Rattle.std.specs.Prelude.{ℕ, zero, suc, ◌+◌, ◌*◌, ◌/◌, ◌%◌, ◌^◌, Bool, true, false, ◌||◌, List, [], ◌∷◌, ◌++◌, eqb, ltb, length, get_or}
use Rattle.std.specs.Prelude.{Option}
use Rattle.std.specs.Int.Count.{ones}
use Rattle.terms.specs.Lists.{there, when, over}
use Rattle.terms.specs.Refusals.{pages_most}
use Rattle.table.specs.Layout.{entry_count, code_at}
use Rattle.table.specs.Table.{entry_of}

-- "a page of 64": how many code points it has
abbrev pub page_size : ℕ
page_size = 64

-- ---- words and counts

-- a truth as a binary digit
abbrev pub digit : Bool → ℕ
digit true = 1
digit false = 0

-- the number whose lowest k bits say which numbers below k pass a test: "the lowest .. in the lowest bit"
unfoldable pub word_of : (ℕ → Bool) → ℕ → ℕ
word_of test zero = 0
word_of test (suc k) = digit (test k) * 2 ^ k + word_of test k

-- how many numbers below n pass a test
unfoldable pub counted : (ℕ → Bool) → ℕ → ℕ
counted test zero = 0
counted test (suc n) = digit (test n) + counted test n

-- ---- what the pages of a table's entries are

-- "a bit for each code point of a page of 64, the lowest code point in the lowest bit": set where it has an entry
unfoldable pub presence_word : List ℕ → ℕ → ℕ
presence_word es page = word_of (λ bit. there (entry_of es (page * page_size + bit))) page_size

-- "the number of entries before each page": of those whose code point is below its first
unfoldable pub rank_of : List ℕ → ℕ → ℕ
rank_of es page = counted (λ i. ltb (code_at es i) (page * page_size)) (entry_count es)

-- a number for each of the first n pages
unfoldable pub up_to : (ℕ → ℕ) → ℕ → List ℕ
up_to f zero = []
up_to f (suc n) = up_to f n ++ f n ∷ []

-- two page slices as one value: the words of presence bits, and the numbers of entries before
pub record Pages : Type 0 where
  pub presence : List ℕ
  pub ranks : List ℕ

-- the pages of two slices
abbrev pub pages : List ℕ → List ℕ → Pages
pages presence ranks = record { presence = presence; ranks = ranks }

-- two page slices after they were filled for a table's entries: "fills them afresh, 17,408 pages, and leaves what lies beyond"
abbrev pub filled : List ℕ → Pages → Pages
filled es p =
    pages (over (up_to (presence_word es) pages_most) p.presence) (over (up_to (rank_of es) pages_most) p.ranks)

-- 15: "a page slice under 17,408 long"
abbrev pub short_pages : Pages → Bool
short_pages p = ltb (length p.presence) pages_most || ltb (length p.ranks) pages_most

-- ---- finding an entry

-- "An entry's position is found from its bit: the rank is the count of ones below it, added to the page's number"
unfoldable pub paged_place : Pages → ℕ → Option ℕ
paged_place p c =
    let word = get_or p.presence (c / page_size) 0 in
    let bit = c % page_size in
    when (eqb (word / 2 ^ bit % 2) 1) (get_or p.ranks (c / page_size) 0 + ones (word % 2 ^ bit))
