-- Which texts are UTF-8, octet by octet: the syntax of RFC 3629, section 4 (UTF8-octets), as an automaton. `judged-characters` of
-- proofs/Automaton.antt shows that it ends in `Whole` on exactly the texts that have characters.
-- Assumes nothing.
use Rattle.std.specs.Prelude.{cond, ◌&&◌, List, [], ◌∷◌, ℕ, ◌*◌, ◌^◌, leb, ltb}
use Rattle.terms.specs.Lists.{total}

-- what the octets so far have come to
pub data State : Type 0 where
  -- "UTF8-octets = *( UTF8-char )": a character has ended, or none has begun
  Whole : State
  -- so many UTF8-tail are missing, "UTF8-tail = %x80-BF"
  One : State
  Two : State
  Three : State
  -- E0 came, the first of UTF8-3: "%xE0 %xA0-BF UTF8-tail"
  AfterE0 : State
  -- ED came, so too: "%xED %x80-9F UTF8-tail"
  AfterED : State
  -- F0 came, the first of UTF8-4: "%xF0 %x90-BF 2( UTF8-tail )"
  AfterF0 : State
  -- F4 came, so too: "%xF4 %x80-8F 2( UTF8-tail )"
  AfterF4 : State
  -- no row of the syntax begins so, whatever follows
  Fault : State

-- the state after a character's first octet: "UTF8-1 = %x00-7F", UTF8-2 begins with C2 to DF, UTF8-3 with E0 to EF, UTF8-4 with F0
-- to F4
unfoldable pub after_first : ℕ → State
after_first o =
    cond (ltb o 0x80) Whole
    (cond (ltb o 0xC2) Fault
    (cond (ltb o 0xE0) One
    (cond (ltb o 0xE1) AfterE0
    (cond (ltb o 0xED) Two
    (cond (ltb o 0xEE) AfterED
    (cond (ltb o 0xF0) Two
    (cond (ltb o 0xF1) AfterF0
    (cond (ltb o 0xF4) Three
    (cond (ltb o 0xF5) AfterF4 Fault)))))))))

-- an octet "%xlow-high" leads to a state, and any other to a fault
abbrev pub among : ℕ → ℕ → ℕ → State → State
among low high o s = cond (leb low o && leb o high) s Fault

-- the state after one octet more, by the rows UTF8-2, UTF8-3 and UTF8-4
abbrev pub next : State → ℕ → State
next Whole o = after_first o
next One o = among 0x80 0xBF o Whole
next Two o = among 0x80 0xBF o One
next Three o = among 0x80 0xBF o Two
next AfterE0 o = among 0xA0 0xBF o One
next AfterED o = among 0x80 0x9F o One
next AfterF0 o = among 0x90 0xBF o Two
next AfterF4 o = among 0x80 0x8F o Two
next Fault o = Fault

-- the state after octets, one after another (UTF8-octets)
unfoldable pub judged : State → List ℕ → State
judged s [] = s
judged s (o ∷ t) = judged (next s o) t

-- ---- states as numbers

-- the place of a state in a row: its lowest bit, each six bits after the one before
abbrev pub place : State → ℕ
place Whole = 0
place One = 6
place Two = 12
place Three = 18
place AfterE0 = 24
place AfterED = 30
place AfterF0 = 36
place AfterF4 = 42
place Fault = 48

-- all states
abbrev pub states : List State
states = Whole ∷ One ∷ Two ∷ Three ∷ AfterE0 ∷ AfterED ∷ AfterF0 ∷ AfterF4 ∷ Fault ∷ []

-- an octet's row: at the place of each state, the place of the one that the octet leads to
unfoldable pub row_of : ℕ → ℕ
row_of o = total (λ (s : State). place (next s o) * 2 ^ place s) states
