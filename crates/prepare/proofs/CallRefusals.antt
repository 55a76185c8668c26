-- How the refusal of a call comes apart: 1 to 7 and 15, which are checked before a key is looked at, and then 8. So a call that
-- passed these answers what is left of it, and a call that did not answers their refusal.
-- Assumes nothing.
use Rattle.std.specs.Result.{result_err}
use Rattle.std.specs.Prelude.{Option, None, Some, Result, Ok, Err, ⊤}
use mathlib.Core.Path.{◌≡◌, refl, sym, ap, ap₂, ◌∙◌}
use Prim.Native.Nat.{ℕ, zero-le, ◌≤◌}
use mathlib.Core.Bool.{true, false}
use mathlib.Core.List.{List, [], ◌∷◌, map}
use borrow.Author.Tests.{ltb-false}
use Rattle.terms.specs.Collations.{reads_table}
use Rattle.terms.specs.Lists.{there}
use Rattle.terms.specs.Refusals.{text_most, Outcome, refused}
use Rattle.terms.specs.declared.Collation.{Collation}
use Rattle.terms.specs.declared.Refusal.{Refusal}
use Rattle.terms.proofs.Checks.{or_else-none, or_else-first, or_else-second, or_else-neither, when-none}
use Rattle.table.specs.Table.{Table}
use Rattle.pages.specs.Pages.{Pages}
use Rattle.keys.specs.Keys.{UsableUnder}
use Rattle.prepare.specs.Calls.{Lent, Call, call, lengths, collation_check, length_checks, texts_refusal, table_check}
use Rattle.prepare.specs.Calls.{pages_check, lookup_check, pages_by, pages_after, CalledPaging, UsableBy}
use Rattle.prepare.specs.Calls.{ready_by, ready_refusal, room_refusal, call_refusal, Called, CalledReady}
use Rattle.prepare.specs.Preparing.{Preparation, Prepares, PreparesPaging, PreparesReady}
use Rattle.prepare.specs.Promises.{ChecksTexts, ChecksCall, ChecksPaging, ChecksTable}
use Rattle.prepare.proofs.Paging.{usable-lookup, lookup-usable, called-paged, prepares-paged}

-- ---- what the check of a call says

-- what a call that passed 1 to 7 and 15 may go by
pub record Ready (o : Option Collation) (k : Collation) (a b : ℕ) (t : Table) (p : Pages) : Type 0 where
  pub known : o ≡ Some k
  pub first : a ≤ text_most
  pub second : b ≤ text_most
  pub lookup : lookup_check o t p ≡ None
  pub refusal : ready_by o (a ∷ b ∷ []) t p ≡ None

module _ {o : Option Collation} {a b : ℕ} {t : Table} {p : Pages} {r : Result Collation Refusal} (h : ChecksCall o a b t p r) where
  -- none of 1 to 7 and 15 refuses
  pub checks-passed : {k : Collation} → r ≡ Ok k → Ready o k a b t p
  checks-passed {k} passed =
      let e : ready_by o (a ∷ b ∷ []) t p ≡ None = sym h.refusal ∙ ap result_err passed in
      let both = or_else-neither (texts_refusal o (a ∷ b ∷ [])) (lookup_check o t p) e in
      let lengths = (or_else-neither (collation_check o) (length_checks 1 (a ∷ b ∷ [])) both.0).1 in
      let one = or_else-neither _ (length_checks 2 (b ∷ [])) lengths in
      let two = or_else-neither _ None one.1 in
      record {
        known = h.known k passed;
        first = ltb-false text_most a (when-none _ _ one.0);
        second = ltb-false text_most b (when-none _ _ two.0);
        lookup = both.1;
        refusal = e;
      }

  -- one of them does
  pub checks-refused : {x : Refusal} → r ≡ Err x → ready_by o (a ∷ b ∷ []) t p ≡ Some x
  checks-refused e = sym h.refusal ∙ ap result_err e

-- what `check_texts` answers is the whole answer, or leaves it to the check of the table and the pages
module _ {o : Option Collation} {a b : ℕ} {q : Result Collation Refusal} (h : ChecksTexts o a b q) where
  -- past 1 and 2 that check decides
  ready_by-passed : {k : Collation} (t : Table) (p : Pages) → q ≡ Ok k → ready_by o (a ∷ b ∷ []) t p ≡ lookup_check (Some k) t p
  ready_by-passed {k} t p e =
      let passed : texts_refusal o (a ∷ b ∷ []) ≡ None = sym h.refusal ∙ ap result_err e in
      or_else-second _ _ passed ∙ ap (λ (n : Option Collation). lookup_check n t p) (h.known k e)

  -- and what it leaves of the pages is what the call does
  pages_by-passed : {k : Collation} (t : Table) (p : Pages) → q ≡ Ok k
      → pages_by (lookup_check (Some k) t p) (Some k) t p ≡ pages_by (ready_by o (a ∷ b ∷ []) t p) o t p
  pages_by-passed {k} t p e =
      ap₂ (λ (x : Option Refusal) (n : Option Collation). pages_by x n t p) (sym (ready_by-passed t p e)) (sym (h.known k e))

  module _ {t : Table} {p : Pages} {k : Collation} {c : Result ⊤ Refusal} {left : Pages} (table : ChecksTable k t p c left) where
    pub checks-table-passed : q ≡ Ok k → c ≡ Ok tt → ChecksPaging o a b t p (Ok k) left
    checks-table-passed e f = record {
      checks = record {
        refusal = ap result_err (sym f) ∙ table.refusal ∙ sym (ready_by-passed t p e);
        known = λ j g. h.known k e ∙ cc;
      };
      paged = table.paged ∙ pages_by-passed t p e;
    }

    pub checks-table-refused : {x : Refusal} → q ≡ Ok k → c ≡ Err x → ChecksPaging o a b t p (Err x) left
    checks-table-refused e f = record {
      checks = record {
        refusal = ap result_err (sym f) ∙ table.refusal ∙ sym (ready_by-passed t p e);
        known = λ j g. cc;
      };
      paged = table.paged ∙ pages_by-passed t p e;
    }

  pub checks-texts-refused : {t : Table} {p : Pages} {x : Refusal} → q ≡ Err x → ChecksPaging o a b t p (Err x) p
  checks-texts-refused {t} {p} {x} e =
      let first : ready_by o (a ∷ b ∷ []) t p ≡ Some x =
      or_else-first _ (lookup_check o t p) x (sym h.refusal ∙ ap result_err e) in
      record { checks = record { refusal = sym first; known = λ j f. cc }; paged = rw first refl }

-- a call whose table was accepted before and whose pages were filled is checked by its texts
pub checks-texts : {o : Option Collation} {a b : ℕ} {t : Table} {p : Pages} {r : Result Collation Refusal} → UsableBy o t p → ChecksTexts o a b r
    → ChecksCall o a b t p r
checks-texts {o} {a} {b} {t} {p} usable h = record {
  refusal = h.refusal ∙ sym (rw (usable-lookup o t p usable) (or_else-none (texts_refusal o (a ∷ b ∷ []))));
  known = h.known;
}

-- ---- what is left of a call

-- past 1 to 7 and 15, 8 is left
pub call_refusal-ready : (c : Call) → ready_refusal c ≡ None → call_refusal c ≡ room_refusal c
unfolding call_refusal
call_refusal-ready c e = or_else-second (ready_refusal c) (room_refusal c) e

pub call_refusal-refused : (c : Call) (x : Refusal) → ready_refusal c ≡ Some x → call_refusal c ≡ Some x
unfolding call_refusal
call_refusal-refused c x e = or_else-first (ready_refusal c) (room_refusal c) x e

-- a call that nothing refused passed 1 to 7 and 15, and 8
pub unrefused : (c : Call) → call_refusal c ≡ None → (ready_refusal c ≡ None) × (room_refusal c ≡ None)
unfolding call_refusal
unrefused c e = or_else-neither (ready_refusal c) (room_refusal c) e

-- so its table is accepted
pub unrefused-table : (c : Call) → call_refusal c ≡ None → table_check c.collation c.table ≡ None
unrefused-table c e =
    let lookup = (or_else-neither (texts_refusal c.collation (lengths c)) _ (unrefused c e).0).1 in
    (or_else-neither (table_check c.collation c.table) _ lookup).0

-- and it is under a collation
pub unrefused-known : (o : Option Collation) (t : Table) (p : Pages) (ls : List Lent) → call_refusal (call o t p ls) ≡ None
    → there o ≡ true
unfolding call_refusal
unrefused-known None t p ls e = cc
unrefused-known (Some k) t p ls e = refl

module _ {R : Type 0} {outcome : R → Outcome} {values : Call → Option (List ℕ)} {r : R} where
  -- what is left of the call is the whole call
  pub called-ready : {o : Option Collation} {k : Collation} {t : Table} {p : Pages} {ls : List Lent} {after : List (List ℕ)} → o ≡ Some k
      → ready_refusal (call o t p ls) ≡ None
      → CalledReady outcome values (call (Some k) t p ls) r after
      → Called outcome values (call o t p ls) r after
  called-ready {o} {k} {t} {p} {ls} e f h =
      let c : Call = call (Some k) t p ls in
      let g : ready_refusal c ≡ None = rw e at f in
      rw e (record { answered = rw (call_refusal-ready c g) h.answered; left = rw (call_refusal-ready c g) h.left })

  -- refused by one of 1 to 7 and 15
  pub called-refused : {c : Call} {x : Refusal} → ready_refusal c ≡ Some x → outcome r ≡ refused x
      → Called outcome values c r (map (λ l. l.buffer) c.lents)
  called-refused {c} {x} e f = record { answered = rw (call_refusal-refused c x e, f); left = rw (call_refusal-refused c x e) }

-- the same of preparing a text, with the bound of its lookup count
pub prepares-ready : {o : Option Collation} {k : Collation} {t : Table} {p : Pages} {ls : List Lent} {r : Preparation} {after : List ℕ}
    → o ≡ Some k
    → ready_refusal (call o t p ls) ≡ None
    → PreparesReady (call (Some k) t p ls) r after
    → Prepares (call o t p ls) r after
prepares-ready e f h = record { call = called-ready e f h.call; most = h.most }

pub prepares-refused : {o : Option Collation} {t : Table} {p : Pages} {l : Lent} {x : Refusal}
    → ready_refusal (call o t p (l ∷ [])) ≡ Some x
    → Prepares (call o t p (l ∷ [])) (Err x) l.buffer
prepares-refused e = record { call = called-refused e refl; most = zero-le }

-- ---- a call that is lent the pages to fill

-- the pages that its check left
module _ (o : Option Collation) (t : Table) (p : Pages) (ls : List Lent) (q : Pages) (left : q ≡ pages_after (call o t p ls)) where
  module _ (passed : ready_refusal (call o t p ls) ≡ None) where
    lookup-passed : lookup_check o t p ≡ None
    lookup-passed = (or_else-neither (texts_refusal o (lengths (call o t p ls))) (lookup_check o t p) passed).1

    -- may be gone on with, where it was passed
    pub passed-usable : UsableBy o t q
    passed-usable k e =
        lookup-usable k t p q (rw e at lookup-passed)
        (left ∙ ap₂ (λ (x : Option Refusal) (n : Option Collation). pages_by x n t p) passed e)

    -- and 15 applies neither to them nor to those that came in
    pub passed-pages : pages_check o q ≡ pages_check o p
    passed-pages =
        let after = or_else-neither (table_check o t) (pages_check o q) (usable-lookup o t q passed-usable) in
        let before = or_else-neither (table_check o t) (pages_check o p) lookup-passed in
        after.1 ∙ sym before.1

    -- nor does any number before it
    pub passed-ready : ready_refusal (call o t q ls) ≡ None
    passed-ready =
        rw (or_else-neither (texts_refusal o (lengths (call o t p ls))) (lookup_check o t p) passed).0
        (usable-lookup o t q passed-usable)

    -- what the call without the check answers is the whole answer
    pub called-passed : {R : Type 0} {outcome : R → Outcome} {values : Call → Option (List ℕ)} {r : R} {after : List (List ℕ)}
        → values (call o t q ls) ≡ values (call o t p ls)
        → Called outcome values (call o t q ls) r after
        → CalledPaging outcome values (call o t p ls) r after q
    called-passed same h = record { called = called-paged q p passed-pages same h; paged = left }

    pub prepares-passed : {r : Preparation} {after : List ℕ} → Prepares (call o t q ls) r after
        → PreparesPaging (call o t p ls) r after q
    prepares-passed h = record { prepares = prepares-paged q p passed-pages h; paged = left }

-- under a collation that reads no table the pages stay
pub unread-pages : (k : Collation) (t : Table) (p : Pages) (ls : List Lent) → reads_table k ≡ false
    → pages_after (call (Some k) t p ls) ≡ p
unread-pages k t p ls unread = go (ready_refusal (call (Some k) t p ls))
  where
    go : (x : Option Refusal) → pages_by x (Some k) t p ≡ p
    go None = rw unread refl
    go (Some y) = refl

-- of a call on empty texts only the check of table and pages is left, where the number names a collation
pub lookup-checked : (o : Option Collation) (k : Collation) (t : Table) (p : Pages) → o ≡ Some k
    → ready_by o (0 ∷ 0 ∷ []) t p ≡ lookup_check o t p
lookup-checked o k t p e = rw e refl

module _ {o : Option Collation} {k : Collation} {t : Table} {p : Pages} {r : Result Collation Refusal} {q : Pages} (h : ChecksPaging o 0 0 t p r q)
    (known : o ≡ Some k) where
  -- so that is what it answers
  pub lookup-told : result_err r ≡ lookup_check o t p
  lookup-told = h.checks.refusal ∙ lookup-checked o k t p known

  -- and by what the pages go
  pub lookup-left : q ≡ pages_by (lookup_check o t p) o t p
  lookup-left = h.paged ∙ ap (λ (x : Option Refusal). pages_by x o t p) (lookup-checked o k t p known)

  -- where it was passed, table and pages may be gone on with
  pub lookup-ready : {j : Collation} → r ≡ Ok j → UsableUnder k t q
  lookup-ready passed =
      let none-applies : lookup_check o t p ≡ None = sym lookup-told ∙ ap result_err passed in
      lookup-usable k t p q (rw known at none-applies)
      (lookup-left ∙ ap₂ (λ (x : Option Refusal) (n : Option Collation). pages_by x n t p) none-applies known)
