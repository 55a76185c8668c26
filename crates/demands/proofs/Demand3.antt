-- Demand 3, each sentence with the theorems that render it.
-- Theorems are about the public calls. One takes what a call's contract says, which `rt check` proves of the code and
-- Contracts.antt takes from the contract itself: of a call on texts `Prepares` or `Called` with the call's outcome and
-- values, which speak of one value c, the call; of `add_line` `Added`; of `check_table` the equation `check_outcome r ≡
-- table_answer t`. It says the sentence of the answer r and of the slices afterwards. The `_accepted` calls have the same
-- `ensures` under a `requires`, an accepted table: where that holds, so does the theorem. Where a theorem has `call (some k)
-- ..`, the call's number names the collation k.
-- Assumes nothing.
use Rattle.std.specs.Prelude.{Result, Ok, Err, ⊤}
use mathlib.Core.Path.{◌≡◌, sym, ap, ◌∙◌}
use Prim.Native.Nat.{ℕ, ◌*◌, ◌≤◌}
use native.Mathlib.Omega.{arith}
use mathlib.Core.Logic.{◌⊎◌, ⊎_map, ◌↔◌}
use Rattle.std.specs.Prelude.{Option, None, Some}
use mathlib.Core.List.{List, [], ◌∷◌}
use lib.ListN.{length}
use Rattle.terms.specs.Refusals.{Outcome, refused, Given, check_outcome}
use Rattle.terms.specs.declared.Collation.TheVariants.{UnicodeCasemap}
use Rattle.terms.specs.declared.Refusal.{Refusal}
use Rattle.terms.proofs.Checks.{or_else-none, answer-given}
use Rattle.terms.proofs.Injective.{check_outcome-inj}
use Rattle.utf8.specs.Utf8.{Character, characters}
use Rattle.table.specs.Mapping.{Mapping}
use Rattle.table.specs.Table.{Table, mapping_of}
use Rattle.decompose.specs.Steps.{StepsGive, steps_key, steps_lookups}
use Rattle.decompose.specs.TableCheck.{table_refusal, table_answer, UnfoldsWell, Sound}
use Rattle.decompose.specs.Levels.{Unfolds}
use Rattle.decompose.proofs.Unfolds.{unfolds-unique, steps-unique}
use Rattle.decompose.proofs.Demand3.{accepted-exactly, accepted-level, accepted-lookups, accepted-key, accepted-steps}
use Rattle.keys.specs.declared.Summary.{Summary}
use Rattle.pages.specs.Pages.{Pages}
use Rattle.prepare.specs.Calls.{Lent, Call, call, Called}
use Rattle.prepare.specs.Preparing.{preparation_outcome, shown_key, Prepares}
use Rattle.prepare.specs.Preparing.{Preparation}
use Rattle.demands.specs.Demands.{Exact, KeyLeft, Short, Bounds, Attained}
use Rattle.demands.specs.Widest.{widest, widest_text, widest_characters}
use Rattle.demands.proofs.Preparing.{table-accepted, exact, given-accepted, given-left, eight-accepted, eight-room}
use Rattle.demands.proofs.Preparing.{keyed-left, room-short, room-places, at_first, at_second, heads, seconds}
use Rattle.demands.proofs.Attained.{widest-attains}

-- ---- "Whatever two slices are handed in as a mapping table, it is accepted *exactly* when it has document 01's form and
-- every code point in it unfolds completely within 8 levels into at most 32 code points."

module _ (t : Table) {r : Result ⊤ Refusal} (h : check_outcome r ≡ table_answer t) where
  -- `check_table` answers Passed of exactly the tables that are so
  pub check-accepts : (r ≡ Ok tt) ↔ Sound t
  check-accepts = (
    λ e. (accepted-exactly t).0 (passes e),
    λ sound. check_outcome-inj r (Ok tt) (rw ((accepted-exactly t).1 sound) at h),
  )
    where
      passes : r ≡ Ok tt → table_refusal t ≡ None
      passes e = answer-given (table_refusal t) [] [] (rw e at h)

  -- and in an accepted table every code point at all unfolds so, parts and titlecases too
  pub check-every : r ≡ Ok tt → (c : ℕ) → UnfoldsWell (mapping_of t) c
  check-every e = accepted-level t ((accepted-exactly t).1 (check-accepts.0 e))

  -- ---- "Over every accepted table, for every valid text of n code points, the published steps make at most 258 n lookups
  -- and give a key of at most 128 n octets."

  -- of any characters, so of every valid text's
  pub check-bounds : r ≡ Ok tt → (chs : List Character) → Bounds (mapping_of t) chs
  check-bounds e chs =
      let ok = (accepted-exactly t).1 (check-accepts.0 e) in
      record {
        key = steps_key (mapping_of t) chs;
        lookups = steps_lookups (mapping_of t) chs;
        steps = accepted-steps t ok chs;
        asked = omega (arith, accepted-lookups t ok chs);
        octets = omega (arith, accepted-key t ok chs);
      }

-- a code point unfolds in one way, and the published steps give one key, with one number of lookups; so "the key of those
-- steps" and "as many lookups as they make" below are those of the bounds
pub unfolded-once : (m : Mapping) {c : ℕ} {codes others : List ℕ} {asked again : ℕ} → Unfolds m c codes asked
    → Unfolds m c others again
    → (codes ≡ others) × (asked ≡ again)
unfolded-once = unfolds-unique

pub steps-once : (m : Mapping) {chs : List Character} {key other : List ℕ} {n k : ℕ} → StepsGive m chs key n
    → StepsGive m chs other k
    → (key ≡ other) × (n ≡ k)
steps-once = steps-unique

-- both bounds are attained: the table `widest` is accepted, and on a valid text of one character the steps make 258 lookups
-- and give a key of 128 octets
pub bounds-attained : Attained widest widest_text widest_characters 258 128
bounds-attained = widest-attains

-- ---- "Every preparation of such a text that reads the table, in a call that isn't refused, gives exactly the key of those
-- steps and, where it is a call of its own, reports exactly as many lookups as they make."

-- a call of its own is `prepare`
module _ {t : Table} {pg : Pages} {l : Lent} {r : Preparation} {after : List ℕ} (h : Prepares (call (Some UnicodeCasemap) t pg (l ∷ [])) r after)
    {chs : List Character} (valid : characters l.text ≡ Some chs) where
  -- a valid text that was prepared: its count, its key's length and the key that is shown are those of the published steps
  pub prepare-exact : (s : Summary) → r ≡ Ok s → Exact (mapping_of t) chs s (shown_key r l.text after)
  prepare-exact = exact h valid

  -- and so within the bounds, for the table was accepted
  pub prepare-bounds : (s : Summary) → r ≡ Ok s → (s.lookups ≤ 258 * length chs) × (s.key_length ≤ 128 * length chs)
  prepare-bounds s e =
      let ok = table-accepted h e in
      let is = prepare-exact s e in
      let same = steps-unique (mapping_of t) is.steps (accepted-steps t ok chs) in
      (omega (arith, same.1, accepted-lookups t ok chs), omega (arith, is.size, ap length same.0, accepted-key t ok chs))

-- any call on two texts prepares both: `equal`, `order` and `substring`, whose contracts are `Called` with their outcome and
-- values
module _ {R : Type 0} {outcome : R → Outcome} {values : Call → Option (List ℕ)} {t : Table} {pg : Pages} {l n : Lent} {r : R}
    {one two : List ℕ}
    (h : Called outcome values (call (Some UnicodeCasemap) t pg (l ∷ n ∷ [])) r (one ∷ two ∷ [])) where
  -- not refused, it leaves in each buffer whose text is valid the key of the published steps, over what was there
  pub compare-exact-first : Given (outcome r) → (chs : List Character) → characters l.text ≡ Some chs
      → KeyLeft (mapping_of t) chs l.buffer one
  compare-exact-first g chs valid =
      let left : one ≡ _ = heads (given-left h g) in rw left (keyed-left t (given-accepted h g) l chs valid)

  pub compare-exact-second : Given (outcome r) → (chs : List Character) → characters n.text ≡ Some chs
      → KeyLeft (mapping_of t) chs n.buffer two
  compare-exact-second g chs valid =
      let left : two ≡ _ = seconds (given-left h g) in rw left (keyed-left t (given-accepted h g) n chs valid)

  -- ---- "One refused for its key buffer names that key's length."

  -- refused with 8 it names the first text or the second
  pub compare-short-place : (x : Refusal) → outcome r ≡ refused x → x.number ≡ 8 → (x.place ≡ 1) ⊎ (x.place ≡ 2)
  compare-short-place x e eight = ⊎_map (λ p. p.1) (λ p. p.1) (room-places t pg l n x (eight-room h x e eight))

  -- and that one's key's length, if the text is valid; the buffer is shorter
  pub compare-short-first : (x : Refusal) → outcome r ≡ refused x → x.number ≡ 8 → x.place ≡ 1
      → (chs : List Character) → characters l.text ≡ Some chs → Short (mapping_of t) chs 1 l.buffer x
  compare-short-first x e eight place chs valid =
      room-short t (eight-accepted h x e eight) l chs valid 1 x
      (at_first t pg l n x (room-places t pg l n x (eight-room h x e eight)) place)

  pub compare-short-second : (x : Refusal) → outcome r ≡ refused x → x.number ≡ 8 → x.place ≡ 2
      → (chs : List Character) → characters n.text ≡ Some chs → Short (mapping_of t) chs 2 n.buffer x
  compare-short-second x e eight place chs valid =
      room-short t (eight-accepted h x e eight) n chs valid 2 x
      (at_second t pg l n x (room-places t pg l n x (eight-room h x e eight)) place)

-- the same of `prepare`, whose place is 1
pub prepare-short : {t : Table} {pg : Pages} {l : Lent} {r : Preparation} {after : List ℕ}
    → Prepares (call (Some UnicodeCasemap) t pg (l ∷ [])) r after
    → {chs : List Character} → characters l.text ≡ Some chs
    → (x : Refusal) → r ≡ Err x → x.number ≡ 8 → Short (mapping_of t) chs 1 l.buffer x
prepare-short {t} {pg} {l} h {chs} valid x e eight =
    let told = ap preparation_outcome e in
    room-short t (eight-accepted h.call x told eight) l chs valid 1 x
    (sym (or_else-none _) ∙ eight-room h.call x told eight)
