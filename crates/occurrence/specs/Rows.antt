-- The rows of a needle x: the periods of its fronts that repeat three times or more, in the list `periods`, and beside each
-- in the list `reaches` the length of the longest front that has the period. The first n elements of both lists are rows.
-- Assumes nothing.
use Rattle.std.specs.Prelude.{ℕ, suc, ◌+◌, ◌-◌, ◌*◌, ◌≤◌, ◌<◌, ◌≡◌, List, length, get_or}
use Rattle.occurrence.specs.Matches.{Period}

-- the most rows of a needle
abbrev pub rows_most : ℕ
rows_most = 64

-- the periods ascend from 1 or more
pub record Ordered (periods : List ℕ) (n : ℕ) : Type 0 where
  pub positive : (k : ℕ) → k < n → 0 < get_or periods k 0
  pub ascending : (k l : ℕ) → k < l → l < n → get_or periods k 0 < get_or periods l 0

-- a row that says of the first i octets that s is a period
pub record Row (periods reaches : List ℕ) (n i s : ℕ) : Type 0 where
  pub number : ℕ
  pub below : number < n
  pub period : get_or periods number 0 ≡ s
  pub reach : i ≤ get_or reaches number 0

-- how far to go on after i matched octets: by the least period that a row gives them, with the others kept as matched, or
-- else past a third of them, with none kept
pub record Shifted (periods reaches : List ℕ) (n i by kept : ℕ) : Type 0 where
  pub positive : 0 < by
  pub within : 3 * by ≤ i + 3
  pub rest : kept ≤ i - by
  pub held : 0 < kept → Row periods reaches n i by
  pub least : (k : ℕ) → k < n → i ≤ get_or reaches k 0 → by ≤ get_or periods k 0

-- the rows of the periods below j: each is right, and where every row that reaches i has a period over s, s is none of the
-- first i octets
pub record Rows (x periods reaches : List ℕ) (n j : ℕ) : Type 0 where
  pub ordered : Ordered periods n
  pub below : (k : ℕ) → k < n → get_or periods k 0 < j
  pub right : (k : ℕ) → k < n → Period x (get_or reaches k 0) (get_or periods k 0)
  pub covered : (i s : ℕ) → 0 < s → s < j → 3 * s ≤ i → i ≤ length x
      → ((k : ℕ) → k < n → i ≤ get_or reaches k 0 → s < get_or periods k 0) → Period x i s → ⊥

-- all rows of x are noted: n of them, which both lists have room for
pub record Noted (x periods reaches : List ℕ) (n : ℕ) : Type 0 where
  pub within : n ≤ length periods
  pub beside : n ≤ length reaches
  pub rows : Rows x periods reaches n (suc (length x))
