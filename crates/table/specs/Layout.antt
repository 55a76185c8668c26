-- The layout of the entries: how many numbers an entry has and which is which; entries read, written and cut.
-- What an entry's numbers are and where they stand is said here, in src/layout.rt and in proofs/Entries.antt, and nowhere else.
-- Assumes nothing.
use Rattle.std.specs.Prelude.{ℕ, ◌+◌, ◌*◌, ◌/◌, ◌%◌, Bool, List, [], ◌∷◌, eqb, length, get_or, take}
use Rattle.terms.specs.Lists.{put_at}

-- "four 32-bit numbers each"
abbrev pub entry_width : ℕ
entry_width = 4

-- "An entry is code point, titlecase (the code point itself if none), pool start, count"
pub record Entry : Type 0 where
  pub code : ℕ
  pub title : ℕ
  pub start : ℕ
  pub count : ℕ

-- an entry by its numbers
abbrev pub entry : ℕ → ℕ → ℕ → ℕ → Entry
entry code title start count = record { code = code; title = title; start = start; count = count }

-- the numbers of an entry, in their order
abbrev pub entry_numbers : Entry → List ℕ
entry_numbers e = e.code ∷ e.title ∷ e.start ∷ e.count ∷ []

-- ---- reading

-- the number of whole entries
unfoldable pub entry_count : List ℕ → ℕ
entry_count es = length es / entry_width

-- the slice is "a multiple of 4 long"
unfoldable pub whole_entries : List ℕ → Bool
whole_entries es = eqb (length es % entry_width) 0

-- number j of entry i
unfoldable pub number_at : List ℕ → ℕ → ℕ → ℕ
number_at es i j = get_or es (i * entry_width + j) 0

-- the code point of entry i
abbrev pub code_at : List ℕ → ℕ → ℕ
code_at es i = number_at es i 0

-- the titlecase of entry i
abbrev pub title_at : List ℕ → ℕ → ℕ
title_at es i = number_at es i 1

-- the pool start of entry i
abbrev pub start_at : List ℕ → ℕ → ℕ
start_at es i = number_at es i 2

-- the count of entry i
abbrev pub count_at : List ℕ → ℕ → ℕ
count_at es i = number_at es i 3

-- ---- writing and cutting

-- the entries after one was written as entry i
unfoldable pub put_entry : ℕ → Entry → List ℕ → List ℕ
put_entry i e es = put_at (i * entry_width) (entry_numbers e) es

-- the first n entries: "the slices cut to what is used"
unfoldable pub first_entries : ℕ → List ℕ → List ℕ
first_entries n es = take (n * entry_width) es
