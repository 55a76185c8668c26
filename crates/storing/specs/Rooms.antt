-- Room for keys, and for numbers of them (document 02, request 3): 8, with place 0.
-- Assumes nothing.
use Rattle.std.specs.Prelude.{ℕ, ◌||◌, ltb}
use Rattle.std.specs.Prelude.{Option}
use Rattle.terms.specs.Refusals.{check}
use Rattle.terms.specs.declared.Refusal.{Refusal}

-- "8 for the store (detail all keys together)"
abbrev pub store_check : ℕ → ℕ → Option Refusal
store_check room needed = check (ltb room needed) 8 0 needed

-- "8 for either array (detail the first list's names)"
abbrev pub arrays_check : ℕ → ℕ → ℕ → Option Refusal
arrays_check one two names = check (ltb one names || ltb two names) 8 0 names
