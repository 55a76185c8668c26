-- A call on texts as one value: its refusals in the paper's order, what it answers, and what it leaves in the key buffers and
-- the pages.
-- Assumes nothing.
use Rattle.std.specs.Prelude.{◌≡◌, ℕ, suc, not, cond, ◌&&◌, List, [], ◌∷◌, map, ltb, length}
use Rattle.std.specs.Prelude.{Option, None, Some}
use Rattle.terms.specs.Lists.{or_else, there}
use Rattle.terms.specs.Refusals.{text_most, check, Outcome, refused, gives}
use Rattle.terms.specs.Collations.{reads_table}
use Rattle.terms.specs.declared.Collation.{Collation}
use Rattle.terms.specs.declared.Refusal.{Refusal}
use Rattle.table.specs.Mapping.{Mapping}
use Rattle.table.specs.Table.{Table, table, mapping_of}
use Rattle.pages.specs.Pages.{Pages, pages, filled, short_pages}
use Rattle.keys.specs.Keys.{PreparedText, prepared, table_under, UsableUnder, room_for, keyed}

-- ---- a call

-- a text, and the key buffer that is lent for it
pub record Lent : Type 0 where
  pub text : List ℕ
  pub buffer : List ℕ

-- a call on texts: the collation that its number names, if it names one; the texts lent, in their order; the table; the pages
-- lent for it
pub record Call : Type 0 where
  pub collation : Option Collation
  pub lents : List Lent
  pub table : Table
  pub pages : Pages

-- a text with its buffer, and a call by its fields
abbrev pub lent : List ℕ → List ℕ → Lent
lent t b = record { text = t; buffer = b }

abbrev pub call : Option Collation → Table → Pages → List Lent → Call
call k t p ls = record { collation = k; lents = ls; table = t; pages = p }

-- a call on one text, by the parameters of a function
abbrev pub one_call : Option Collation → List ℕ → List ℕ → List ℕ → List ℕ → List ℕ → List ℕ → Call
one_call k t entries pool presence ranks b = call k (table entries pool) (pages presence ranks) (lent t b ∷ [])

-- a call on two texts, by the parameters of a function
abbrev pub two_call : Option Collation → List ℕ → List ℕ → List ℕ → List ℕ → List ℕ → List ℕ → List ℕ → List ℕ → Call
two_call k s t entries pool presence ranks sBuffer tBuffer =
    call k (table entries pool) (pages presence ranks) (lent s sBuffer ∷ lent t tBuffer ∷ [])

-- its texts prepared, each by itself; a number that is no collation's prepares nothing
abbrev pub prepared_under : Option Collation → Mapping → List Lent → List PreparedText
prepared_under None m ls = []
prepared_under (Some k) m ls = map (λ l. prepared k m l.text) ls

abbrev pub prepared_in : Call → List PreparedText
prepared_in c = prepared_under c.collation (mapping_of c.table) c.lents

-- the lengths of its texts
abbrev pub lengths : Call → List ℕ
lengths c = map (λ l. length l.text) c.lents

-- ---- refusals before any key is looked at: 1 to 7, 15

-- 1: "collation not 1, 2, 3"
abbrev pub collation_check : Option Collation → Option Refusal
collation_check k = check (not (there k)) 1 0 0

-- 2: "text over 4,096 octets", the detail its length
abbrev pub length_check : ℕ → ℕ → Option Refusal
length_check place n = check (ltb text_most n) 2 place n

-- 2: "first text, then second"; the texts are numbered from the given place
abbrev pub length_checks : ℕ → List ℕ → Option Refusal
length_checks place [] = None
length_checks place (n ∷ ns) = or_else (length_check place n) (length_checks (suc place) ns)

-- 1 and 2, for texts of these lengths
abbrev pub texts_refusal : Option Collation → List ℕ → Option Refusal
texts_refusal k ns = or_else (collation_check k) (length_checks 1 ns)

-- 3 to 7, where the number names a collation
abbrev pub table_check : Option Collation → Table → Option Refusal
table_check None t = None
table_check (Some k) t = table_under k t

-- 15: "a page slice under 17,408 long", where the collation reads the table: "no other call tests or touches them"
abbrev pub pages_under : Collation → Pages → Option Refusal
pages_under k p = check (reads_table k && short_pages p) 15 0 0

abbrev pub pages_check : Option Collation → Pages → Option Refusal
pages_check None p = None
pages_check (Some k) p = pages_under k p

-- 3 to 7, and "after 7 and before 8" 15
abbrev pub lookup_check : Option Collation → Table → Pages → Option Refusal
lookup_check k t p = or_else (table_check k t) (pages_check k p)

-- 1, 2, 3 to 7, 15, for texts of these lengths
abbrev pub ready_by : Option Collation → List ℕ → Table → Pages → Option Refusal
ready_by k ns t p = or_else (texts_refusal k ns) (lookup_check k t p)

-- 1, 2, 3 to 7, 15 of a call
abbrev pub ready_refusal : Call → Option Refusal
ready_refusal c = ready_by c.collation (lengths c) c.table c.pages

-- ---- refusals for the keys' room: 8

-- 8: "a key that belongs in a buffer is longer than it", the detail the length needed
abbrev pub room_check : ℕ → ℕ → PreparedText → Option Refusal
room_check place room p = check (ltb room (room_for p)) 8 place (room_for p)

-- 8: "first text, then second"
abbrev pub room_checks : ℕ → List Lent → List PreparedText → Option Refusal
room_checks place (l ∷ ls) (p ∷ ps) = or_else (room_check place (length l.buffer) p) (room_checks (suc place) ls ps)
room_checks place [] ps = None
room_checks place (l ∷ ls) [] = None

-- 8 of a call
abbrev pub room_refusal : Call → Option Refusal
room_refusal c = room_checks 1 c.lents (prepared_in c)

-- ---- the whole call

-- the refusal of a call, if there is one: 1, 2, 3 to 7, 15, 8
unfoldable pub call_refusal : Call → Option Refusal
call_refusal c = or_else (ready_refusal c) (room_refusal c)

-- each key in its buffer
abbrev pub keyed_all : List PreparedText → List Lent → List (List ℕ)
keyed_all (p ∷ ps) (l ∷ ls) = keyed p l.buffer ∷ keyed_all ps ls
keyed_all [] ls = []
keyed_all (p ∷ ps) [] = []

-- the key buffers after a call: "On refusal all buffers stay"; "Comparing calls leave both keys so, each in its own buffer"
abbrev pub buffers_after : Option Refusal → Call → List (List ℕ)
buffers_after None c = keyed_all (prepared_in c) c.lents
buffers_after (Some r) c = map (λ l. l.buffer) c.lents

-- two page slices after the checks that come before any key is looked at: "Every call that checks a table under collation 3 .. fills
-- them afresh"; "on 8 and later ones the pages stay filled"
abbrev pub pages_by : Option Refusal → Option Collation → Table → Pages → Pages
pages_by (Some r) k t p = p
pages_by None None t p = p
pages_by None (Some k) t p = cond (reads_table k) (filled t.entries p) p

-- the pages after a call
abbrev pub pages_after : Call → Pages
pages_after c = pages_by (ready_refusal c) c.collation c.table c.pages

-- what a call tells: the refusal if a check applies, and else its values; nothing where it has neither
abbrev pub answer_of : Option Refusal → Option (List ℕ) → Option Outcome
answer_of (Some r) v = Some (refused r)
answer_of None None = None
answer_of None (Some values) = Some (gives values)

-- a call was answered: its outcome is the refusal or the call's values, and the key buffers are those after it. The refusal
-- is the call's, or what is left of it where some checks were passed.
pub record Answers {R : Type 0} (outcome : R → Outcome) (values : Call → Option (List ℕ)) (x : Option Refusal) (c : Call)
    (r : R) (after : List (List ℕ)) : Type 0 where
  pub answered : Some (outcome r) ≡ answer_of x (values c)
  pub left : after ≡ buffers_after x c

-- the whole call
abbrev pub Called : {R : Type 0} → (R → Outcome) → (Call → Option (List ℕ)) → Call → R → List (List ℕ) → Type 0
Called outcome values c r after = Answers outcome values (call_refusal c) c r after

-- the whole call, which was lent the pages to fill
pub record CalledPaging {R : Type 0} (outcome : R → Outcome) (values : Call → Option (List ℕ)) (c : Call) (r : R)
    (after : List (List ℕ)) (p : Pages) : Type 0 where
  pub called : Called outcome values c r after
  pub paged : p ≡ pages_after c

-- a call that passed 1 to 7 and 15: only 8 is left
abbrev pub CalledReady : {R : Type 0} → (R → Outcome) → (Call → Option (List ℕ)) → Call → R → List (List ℕ) → Type 0
CalledReady outcome values c r after = Answers outcome values (room_refusal c) c r after

-- the table and the pages may be gone on with under the collation that a number names: what the calls ask for that check neither
abbrev pub UsableBy : Option Collation → Table → Pages → Type 0
UsableBy o t p = (k : Collation) → o ≡ Some k → UsableUnder k t p
