-- Which numbers are code points that a text can hold.
-- Assumes nothing.
use Rattle.std.specs.Prelude.{ℕ, Bool, ◌&&◌, not, leb}

-- "Scalar means at most 10FFFF hex and not D800 to DFFF"
abbrev pub scalar : ℕ → Bool
scalar c = leb c 0x10FFFF && not (leb 0xD800 c && leb c 0xDFFF)
