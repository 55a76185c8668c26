-- What the functions of the program ask of a reader, a table's state and the output, and promise: that places lie within the
-- slices, that the number by which loops end falls, and that the number of a refused line is a reason's.
-- Assumes nothing.
use Rattle.std.specs.Prelude.{◌≡◌, ℕ, ◌+◌, ◌≤◌, ◌<◌, List, Result, Ok, Err}
use Rattle.terms.specs.Reasons.{reason_number}
use Rattle.terms.specs.Views.{reason_numbered}
use Rattle.builder.specs.Builder.{built}
use Rattle.builder.specs.Promises.{UsedFits}
use Rattle.builder.specs.declared.LineState.{LineState}
use Rattle.pairing.specs.Words.{words_most}
use Rattle.pairs.specs.declared.reader.Reader.{Reader}
use Rattle.pairs.specs.declared.reader.Next.{Next}
use Rattle.pairs.specs.declared.reader.Next.TheVariants.{Line, Long, Failed, End}
use Rattle.pairs.specs.declared.reader.Step.{Step}
use Rattle.pairs.specs.declared.reader.Step.TheVariants.{Answer, More}
use Rattle.pairs.specs.declared.growing.NoTable.{NoTable}
use Rattle.pairs.specs.declared.growing.NoTable.TheVariants.{Unreadable, Refused}
use Rattle.pairs.specs.declared.growing.Added.{Added}
use Rattle.pairs.specs.declared.growing.Added.TheVariants.{Taken, Done}
use Rattle.pairs.specs.declared.answers.Answered.{Answered}
use Rattle.pairs.specs.declared.answers.Answered.TheVariants.{Answer as Answering, Nothing, End as Ended}
use Rattle.pairs.specs.declared.output.Output.{Output}

-- ---- reading

-- a reader stands within a buffer of n octets
pub record Stands (n : ℕ) (r : Reader) : Type 0 where
  pub seen : r.at ≤ r.seen
  pub read : r.seen ≤ r.end
  pub within : r.end ≤ n

-- it does, with fewer steps left than a bound
pub record Goes (n bound : ℕ) (r : Reader) : Type 0 where
  pub stands : Stands n r
  pub falls : r.left < bound

-- a part of a buffer of n octets
pub record Part (n start end : ℕ) : Type 0 where
  pub ordered : start ≤ end
  pub within : end ≤ n

-- what comes next: a part of the buffer, and where the reader goes on
abbrev pub Nexts : ℕ → ℕ → Next → Type 0
Nexts n bound (Line start end r) = Part n start end × Goes n bound r
Nexts n bound (Long r) = Goes n bound r
Nexts n bound (Failed r) = Goes n bound r
Nexts n bound End = Unit {0}

-- what one step comes to
abbrev pub Steps : ℕ → ℕ → Step → Type 0
Steps n bound (Answer next) = Nexts n bound next
Steps n bound (More r) = Goes n bound r

-- ---- the table

-- the number that is printed where there is no table: 0 "if the file can't be read"
abbrev pub printed_number : NoTable → ℕ
printed_number Unreadable = 0
printed_number (Refused n) = n

-- a refusal number: one that a reason has
abbrev pub OfReason : ℕ → Type 0
OfReason n = reason_number (reason_numbered n) ≡ n

-- "the number (0 if the file can't be read)": that of a refused line is a refusal number
abbrev pub Numbered : NoTable → Type 0
Numbered Unreadable = Unit {0}
Numbered (Refused n) = OfReason n

-- what became of the lines of a file: what the state says is used lies within the slices, or why there is no table
abbrev pub GrownFits : List ℕ → List ℕ → Result LineState NoTable → Type 0
GrownFits entries pool (Ok st) = UsedFits (built st entries pool)
GrownFits entries pool (Err k) = Numbered k

-- what became of one line more
abbrev pub AddedFits : ℕ → ℕ → List ℕ → List ℕ → Added → Type 0
AddedFits n bound entries pool (Taken st r) = UsedFits (built st entries pool) × Goes n bound r
AddedFits n bound entries pool (Done grown) = GrownFits entries pool grown

-- ---- the answers

-- where the reader goes on after an answer
abbrev pub Answers : ℕ → ℕ → Answered → Type 0
Answers n bound (Answering answer r) = Goes n bound r
Answers n bound (Nothing r) = Goes n bound r
Answers n bound Ended = Unit {0}

-- the output buffer, of n octets, has room for one line more
abbrev pub HasRoom : ℕ → Output → Type 0
HasRoom n o = o.used + words_most ≤ n

-- room for two lines
abbrev pub lines_most : ℕ
lines_most = words_most + words_most
