-- Refusals, the limits and numbers of documents 01 and 02, and answers in the papers' numbers.
-- Assumes nothing.
use Rattle.std.specs.Prelude.{ℕ, Bool, List, [], ◌∷◌, replicate, ⊤, Option, None, Some, Result, Ok, Err}
use Rattle.terms.specs.Lists.{or_else, when}
use Rattle.terms.specs.declared.Refusal.{Refusal}

-- ---- limits

-- the longest text that is taken, in octets (2, 13)
abbrev pub text_most : ℕ
text_most = 4096

-- the most entries of a table (3)
abbrev pub entries_most : ℕ
entries_most = 16384

-- the most numbers of a pool (3)
abbrev pub pool_most : ℕ
pool_most = 65536

-- the most parts of one decomposition (5, and field 5 of a line)
abbrev pub parts_most : ℕ
parts_most = 32

-- the most levels in which a code point of an accepted table unfolds (7)
abbrev pub levels_most : ℕ
levels_most = 8

-- the most code points of a full decomposition in an accepted table (7)
abbrev pub full_most : ℕ
full_most = 32

-- the most octets of the expansion of one character over an accepted table (demand 3), and of a key for each octet of its
-- text (13)
abbrev pub expansion_most : ℕ
expansion_most = 128

-- the longest line of UnicodeData.txt that is taken, in octets (20)
abbrev pub line_most : ℕ
line_most = 512

-- the most names of a list (14)
abbrev pub names_most : ℕ
names_most = 1024

-- the most octet strings in one slice that are told by their ends (14)
abbrev pub ends_most : ℕ
ends_most = 4294967295

-- the numbers of a page slice that are filled, one for each page of 64 code points (15)
abbrev pub pages_most : ℕ
pages_most = 17408

-- ---- refusals

-- a refusal by its number, place and detail
abbrev pub refusal : ℕ → ℕ → ℕ → Refusal
refusal n p d = record { number = n; place = p; detail = d }

-- a check: the refusal where the test holds, and else nothing
abbrev pub check : Bool → ℕ → ℕ → ℕ → Option Refusal
check applies n p d = when applies (refusal n p d)

-- "Checks run in this order; the first that applies is given"
abbrev pub first : List (Option Refusal) → Option Refusal
first [] = None
first (c ∷ cs) = or_else c (first cs)

-- ---- answers

-- an answer in the paper's numbers: a refusal, or the values that the call gives
pub data Outcome : Type 0 where
  refused : Refusal → Outcome
  gives : List ℕ → Outcome

-- an answer that is no refusal: values were given
abbrev pub Given : Outcome → Type 0
Given (refused r) = ⊥
Given (gives values) = Unit {0}

-- the answer of a call: the refusal if a check applies, and else the values
abbrev pub answer : Option Refusal → List ℕ → Outcome
answer None values = gives values
answer (Some r) values = refused r

-- an answer in the paper's numbers: the refusal, or those of the value
abbrev pub outcome : {A : Type 0} → (A → List ℕ) → Result A Refusal → Outcome
outcome values (Ok a) = gives (values a)
outcome values (Err r) = refused r

-- a check's answer: passed has no value
abbrev pub check_outcome : Result ⊤ Refusal → Outcome
check_outcome r = outcome (λ _. []) r

-- an answer of n values as one row of numbers: number (0 if not refused), place, detail, values;
-- on a refusal "every other field of the answer is 0"
abbrev pub row : ℕ → Outcome → List ℕ
row n (refused r) = r.number ∷ r.place ∷ r.detail ∷ replicate n 0
row n (gives values) = 0 ∷ 0 ∷ 0 ∷ values
