-- Document 02, request 6 (paged presence bits), each sentence with the theorems that render it. What the pages are is said of any
-- entries; what the calls do with them, of the calls' contracts: `CalledPaging` and `PreparesPaging` of a call on texts,
-- `SharesPaging` of one on lists, `PreparesManyPaging` of one on many texts (Contracts.antt takes each from the contract itself).
-- Assumes nothing.
use mathlib.Core.Path.{◌≡◌, refl, sym, ap, ◌∙◌}
use Prim.Native.Nat.{ℕ, ◌+◌, ◌*◌, ◌/◌, ◌%◌, ◌^◌, ◌≤◌, ◌<◌}
use native.Mathlib.Omega.{arith}
use mathlib.Core.Bool.{false}
use mathlib.Core.Logic.{◌↔◌}
use Rattle.std.specs.Prelude.{Option, None, Some}
use mathlib.Core.List.{List}
use lib.ListN.{length, get_or, drop}
use Rattle.terms.specs.Collations.{reads_table}
use Rattle.terms.specs.Lists.{over}
use Rattle.terms.specs.Refusals.{refusal, Outcome, Given, refused}
use Rattle.terms.specs.declared.Collation.{Collation}
use Rattle.terms.specs.declared.Collation.TheVariants.{UnicodeCasemap}
use Rattle.terms.specs.declared.Refusal.{Refusal}
use Rattle.terms.proofs.Parts.{drop-over}
use Rattle.table.specs.Layout.{entry_count, code_at}
use Rattle.table.specs.Table.{Table, entry_of}
use Rattle.table.proofs.Form.{formed-ascending}
use Rattle.pages.specs.Pages.{Pages, presence_word, rank_of, up_to, filled, paged_place}
use Rattle.pages.specs.Promises.{Parted}
use Rattle.pages.proofs.Ranks.{listed, parted-all, rank_of-parted}
use Rattle.pages.proofs.Paging.{presence-bit, digit-exactly, listed-exactly, paged-place, filled-paged, length-up_to, get_d-filled}
use Rattle.decompose.specs.TableCheck.{table_refusal}
use Rattle.decompose.proofs.Demand3.{accepted-form}
use Rattle.prepare.specs.Calls.{Lent, Call, call, lengths, texts_refusal, ready_refusal, call_refusal}
use Rattle.prepare.specs.Calls.{CalledPaging, UsableBy}
use Rattle.prepare.proofs.CallRefusals.{unrefused, passed-usable, unread-pages}
use Rattle.demands.specs.Demands.{ShortPages}
use Rattle.demands.proofs.Numbers.{eight-ready, other-refused, fifteen-exactly}
use Rattle.demands.proofs.Preparing.{given-unrefused}
use Rattle.demands.proofs.Demand1.{call-refused}

-- ---- "one with a bit for each code point of a page of 64, the lowest code point in the lowest bit,"

-- the bit of a code point is set exactly when it has an entry
pub bit-of-an-entry : (es : List ℕ) (page bit : ℕ) → bit < 64
    → (presence_word es page / 2 ^ bit % 2 ≡ 1) ↔ ((i : ℕ) × (i < entry_count es) × (code_at es i ≡ page * 64 + bit))
bit-of-an-entry es page bit h = (
  λ e. (listed-exactly es (page * 64 + bit)).0 ((digit-exactly (listed es (page * 64 + bit))).0 (sym (presence-bit es page bit h) ∙ e)),
  λ i. presence-bit es page bit h ∙ (digit-exactly (listed es (page * 64 + bit))).1 ((listed-exactly es (page * 64 + bit)).1 i),
)

-- ---- "the other with the number of entries before each page."

-- of an accepted table the entries before a page are the first ones, as many as the page's number says
pub number-of-a-page : (t : Table) → table_refusal t ≡ None → (page : ℕ) → Parted t.entries (page * 64) (rank_of t.entries page)
number-of-a-page t ok page =
    let parted = parted-all t.entries (formed-ascending t (accepted-form t ok)) (page * 64) in
    rw (rank_of-parted page parted) parted

-- ---- "An entry's position is found from its bit: the rank is the count of ones below it, added to the page's number. Show that
-- it answers as the old lookup for every accepted table and code point."

pub pages-answer-as-before : (t : Table) → table_refusal t ≡ None
    → (p : Pages) → 17408 ≤ length p.presence → 17408 ≤ length p.ranks
    → (c : ℕ) → c ≤ 0x10FFFF → paged_place (filled t.entries p) c ≡ entry_of t.entries c
pages-answer-as-before t ok p a b c h =
    paged-place t.entries (formed-ascending t (accepted-form t ok)) (filled-paged t.entries p a b) c (omega arith)

-- ---- "Every call that checks a table under collation 3 is lent both and fills them afresh, 17,408 pages, and leaves what lies
-- beyond;"

-- what filling leaves: a number for each page, whatever was there, and what lay beyond
pub filled-afresh : (es : List ℕ) (p : Pages) (page : ℕ) → page < 17408
    → (get_or (filled es p).presence page 0 ≡ presence_word es page) × (get_or (filled es p).ranks page 0 ≡ rank_of es page)
filled-afresh es p page h = (get_d-filled (presence_word es) p.presence page h, get_d-filled (rank_of es) p.ranks page h)

pub left-beyond : (es : List ℕ) (p : Pages)
    → (drop 17408 (filled es p).presence ≡ drop 17408 p.presence) × (drop 17408 (filled es p).ranks ≡ drop 17408 p.ranks)
left-beyond es p = (beyond (presence_word es) p.presence, beyond (rank_of es) p.ranks)
  where
    beyond : (f : ℕ → ℕ) (row : List ℕ) → drop 17408 (over (up_to f 17408) row) ≡ drop 17408 row
    beyond f row =
        sym (ap (λ (n : ℕ). drop n (over (up_to f 17408) row)) (length-up_to f 17408))
        ∙ drop-over (up_to f 17408) row
        ∙ ap (λ (n : ℕ). drop n row) (length-up_to f 17408)

-- a call on texts: `prepare` (with its `call`), `equal`, `order`, `substring`
module _ {R : Type 0} {outcome : R → Outcome} {values : Call → Option (List ℕ)} {t : Table} {pg : Pages} {ls : List Lent} {r : R}
    {after : List (List ℕ)} {left : Pages}
    (h : CalledPaging outcome values (call (Some UnicodeCasemap) t pg ls) r after left) where
  filled-ready : ready_refusal (call (Some UnicodeCasemap) t pg ls) ≡ None → left ≡ filled t.entries pg
  filled-ready ready = rw ready at h.paged

  -- one that is not refused fills them
  pub texts-fill : Given (outcome r) → left ≡ filled t.entries pg
  texts-fill g = filled-ready (unrefused (call (Some UnicodeCasemap) t pg ls) (given-unrefused h.called g)).0

  -- ---- "on 8 and later ones the pages stay filled,"

  pub texts-fill-on-8 : (x : Refusal) → outcome r ≡ refused x → x.number ≡ 8 → left ≡ filled t.entries pg
  texts-fill-on-8 x e eight =
      filled-ready (eight-ready (call (Some UnicodeCasemap) t pg ls) x ((call-refused h.called x).0 e) eight)

-- ---- "which demand 1 now allows": on every other refusal no lent page changes

pub texts-keep : {R : Type 0} {outcome : R → Outcome} {values : Call → Option (List ℕ)} {c : Call} {r : R}
    {after : List (List ℕ)} {left : Pages}
    → CalledPaging outcome values c r after left
    → (x : Refusal) → outcome r ≡ refused x → (x.number ≡ 8 → ⊥) → left ≡ c.pages
texts-keep {c = c} h x e other = rw (other-refused c x ((call-refused h.called x).0 e) other) at h.paged

-- ---- "no other call tests or touches them."

-- under a collation that reads no table a call leaves them, whatever they are
pub texts-leave : {R : Type 0} {outcome : R → Outcome} {values : Call → Option (List ℕ)} {k : Collation} {t : Table} {pg : Pages}
    {ls : List Lent} {r : R} {after : List (List ℕ)} {left : Pages}
    → reads_table k ≡ false
    → CalledPaging outcome values (call (Some k) t pg ls) r after left
    → left ≡ pg
texts-leave {k = k} {t = t} {pg = pg} {ls = ls} unread h = h.paged ∙ unread-pages k t pg ls unread

-- and answers alike, whichever were lent
pub texts-untested : (k : Collation) → reads_table k ≡ false → (t : Table) (p q : Pages) (ls : List Lent)
    → call_refusal (call (Some k) t p ls) ≡ call_refusal (call (Some k) t q ls)
unfolding call_refusal
texts-untested k unread t p q ls = rw unread refl

-- ---- "Refusals: 15, a page slice under 17,408 long, after 7 and before 8;"

-- under collation 3, where none of 1 to 7 applies, 15 exactly when a page slice is too short: so 8 is looked for after it
pub number-15 : (t : Table) (pg : Pages) (ls : List Lent)
    → texts_refusal (Some UnicodeCasemap) (lengths (call (Some UnicodeCasemap) t pg ls)) ≡ None
    → table_refusal t ≡ None
    → (call_refusal (call (Some UnicodeCasemap) t pg ls) ≡ Some (refusal 15 0 0)) ↔ ShortPages pg
number-15 = fifteen-exactly

-- ---- The `_accepted` calls are lent pages to read, and ask for what a public call over the same table left there.

pub left-for-accepted : {R : Type 0} {outcome : R → Outcome} {values : Call → Option (List ℕ)} {o : Option Collation} {t : Table}
    {pg : Pages} {ls : List Lent} {r : R} {after : List (List ℕ)} {left : Pages}
    → CalledPaging outcome values (call o t pg ls) r after left
    → Given (outcome r)
    → UsableBy o t left
left-for-accepted {o = o} {t = t} {pg = pg} {ls = ls} {left = left} h g =
    passed-usable o t pg ls left h.paged (unrefused (call o t pg ls) (given-unrefused h.called g)).0
