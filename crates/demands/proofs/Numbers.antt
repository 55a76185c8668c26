-- Which numbers and places the checks of a call on texts give, and what 1, 2 and 8 say of its arguments.
-- Assumes nothing.
use mathlib.Core.Path.{◌≡◌, refl, sym, ap, ◌∙◌}
use Prim.Native.Nat.{ℕ, ◌≤◌, ◌<◌}
use native.Mathlib.Omega.{arith}
use mathlib.Core.Logic.{inl, inr, ◌↔◌}
use mathlib.Core.Bool.{Bool, true, false, cond, not, ◌&&◌, true≢false}
use Rattle.std.specs.Prelude.{Option, None, Some}
use mathlib.Core.List.{List, [], ◌∷◌}
use lib.Dec.{ltb}
use lib.ListN.{length}
use borrow.Author.Tests.{ltb-true, lt-ltb, le-ltb, ne_eqb}
use Rattle.terms.specs.Collations.{collation_of, reads_table}
use Rattle.terms.specs.Lists.{or_else, lowest, there}
use Rattle.terms.specs.Refusals.{text_most, pages_most, refusal, check}
use Rattle.terms.specs.declared.Collation.{Collation}
use Rattle.terms.specs.declared.Collation.TheVariants.{UnicodeCasemap}
use Rattle.terms.specs.declared.Refusal.{Refusal}
use Rattle.terms.proofs.Checks.{or_else-none, or_else-assoc}
use Rattle.terms.proofs.Tests.{none-some}
use Rattle.table.specs.Layout.{entry_count}
use Rattle.table.specs.Table.{Table, faulty_size, faulty_code, faulty_number, entry_fault, refused_at, form_refusal, mapping_of}
use Rattle.decompose.specs.TableCheck.{level_fault, table_refusal}
use Rattle.keys.specs.Keys.{prepared, room_for}
use Rattle.pages.specs.Pages.{Pages, short_pages}
use Rattle.prepare.specs.Calls.{Lent, Call, call, lengths, prepared_in, collation_check, length_check, length_checks}
use Rattle.prepare.specs.Calls.{texts_refusal, table_check, pages_check, pages_under, lookup_check, ready_refusal, room_checks, room_refusal, call_refusal}
use Rattle.prepare.proofs.CallRefusals.{call_refusal-ready, call_refusal-refused}
use Rattle.demands.specs.Demands.{CollationNumber, ShortPages}
use Rattle.demands.proofs.Reflect.{ltb-exactly, or-exactly}
use Rattle.demands.proofs.FaultRows.{some_same}
use Rattle.demands.proofs.Rows.{call_refusal-row, Every, every-none, every_some, every-check, every-else, every-length}
use Rattle.demands.proofs.Rows.{every-room}

-- ---- numbers

-- the number is from low up to high
abbrev Between : ℕ → ℕ → Refusal → Type 0
Between low high x = (low ≤ x.number) × (x.number ≤ high)

abbrev Numbers : ℕ → ℕ → Option Refusal → Type 0
Numbers low high c = Every (Between low high) c

-- 2
numbers-lengths : (p : ℕ) (ns : List ℕ) → Numbers 2 2 (length_checks p ns)
numbers-lengths p ns = every-length (Between 2 2) p ns (λ q d l. (omega arith, omega arith))

-- 3 to 7
numbers-row : (size : Bool) (four five six seven : Option ℕ)
    → Numbers 3 7
    (or_else (or_else (check size 3 0 0) (or_else (refused_at 4 four) (or_else (refused_at 5 five) (or_else (refused_at 6 six) None))))
    (or_else (refused_at 7 seven) None))
numbers-row true _ _ _ _ = every_some (Between 3 7) (refusal 3 0 0) (omega arith, omega arith)
numbers-row false (Some i) _ _ _ = every_some (Between 3 7) (refusal 4 0 i) (omega arith, omega arith)
numbers-row false None (Some i) _ _ = every_some (Between 3 7) (refusal 5 0 i) (omega arith, omega arith)
numbers-row false None None (Some i) _ = every_some (Between 3 7) (refusal 6 0 i) (omega arith, omega arith)
numbers-row false None None None (Some i) = every_some (Between 3 7) (refusal 7 0 i) (omega arith, omega arith)
numbers-row false None None None None = every-none (Between 3 7)

numbers-table : (t : Table) → Numbers 3 7 (table_refusal t)
unfolding table_refusal form_refusal
numbers-table t =
    numbers-row (faulty_size t) (lowest (faulty_code t.entries) (entry_count t.entries)) (entry_fault t)
    (lowest (faulty_number t.pool) (length t.pool))
    (level_fault t)

numbers-under : (o : Option Collation) (t : Table) → Numbers 3 7 (table_check o t)
numbers-under None t = every-none (Between 3 7)
numbers-under (Some k) t = go (reads_table k)
  where
    go : (b : Bool) → Numbers 3 7 (cond b (table_refusal t) None)
    go true = numbers-table t
    go false = every-none (Between 3 7)

-- 15
numbers-pages : (o : Option Collation) (pg : Pages) → Numbers 15 15 (pages_check o pg)
numbers-pages None pg = every-none (Between 15 15)
numbers-pages (Some k) pg = every-check (Between 15 15) (reads_table k && short_pages pg) 15 0 0 (omega arith, omega arith)

-- a refusal with another number than the first check gives comes from the second
numbers-past : {low high : ℕ} {c : Option Refusal} → Numbers low high c → (d : Option Refusal) (x : Refusal)
    → (low ≤ x.number → x.number ≤ high → ⊥) → or_else c d ≡ Some x → d ≡ Some x
numbers-past {c = None} n d x other e = e
numbers-past {c = Some y} n d x other e = absurd (other (n x e).0 (n x e).1)

-- wider bounds hold too
numbers-wider : {low high : ℕ} {c : Option Refusal} → Numbers low high c → (a b : ℕ) → a ≤ low → high ≤ b → Numbers a b c
numbers-wider n a b p q x e = let bounds = n x e in (omega arith, omega arith)

module _ (c : Call) where
  -- the checks after each number
  abbrev after-lengths : Option Refusal
  after-lengths = or_else (lookup_check c.collation c.table c.pages) (room_refusal c)

  abbrev after-collation : Option Refusal
  after-collation = or_else (length_checks 1 (lengths c)) after-lengths

  numbers-one : Numbers 1 1 (collation_check c.collation)
  numbers-one = every-check (Between 1 1) (not (there c.collation)) 1 0 0 (omega arith, omega arith)

  numbers-room : Numbers 8 8 (room_refusal c)
  numbers-room = every-room (Between 8 8) 1 c.lents (prepared_in c) (λ q d l. (omega arith, omega arith))

  numbers-later : Numbers 3 15 after-lengths
  numbers-later =
      every-else (Between 3 15) (lookup_check c.collation c.table c.pages) (room_refusal c)
      (every-else (Between 3 15) (table_check c.collation c.table) (pages_check c.collation c.pages)
      (numbers-wider (numbers-under c.collation c.table) 3 15 (omega arith) (omega arith))
      (numbers-wider (numbers-pages c.collation c.pages) 3 15 (omega arith) (omega arith)))
      (numbers-wider numbers-room 3 15 (omega arith) (omega arith))

  -- a call that is refused with 8 is refused for a key's room
  pub eight-rooms : (x : Refusal) → call_refusal c ≡ Some x → x.number ≡ 8 → room_refusal c ≡ Some x
  eight-rooms x e n =
      let pages = pages_check c.collation c.pages in
      numbers-past (numbers-pages c.collation c.pages) (room_refusal c) x (λ a b. omega arith)
      (numbers-past (numbers-under c.collation c.table) (or_else pages (room_refusal c)) x (λ a b. omega arith)
      (sym (or_else-assoc (table_check c.collation c.table) pages (room_refusal c))
      ∙ numbers-past (numbers-lengths 1 (lengths c)) after-lengths x (λ a b. omega arith)
      (numbers-past numbers-one after-collation x (λ a b. omega arith) (sym (call_refusal-row c) ∙ e))))

  -- it passed 1 to 7 and 15
  pub eight-ready : (x : Refusal) → call_refusal c ≡ Some x → x.number ≡ 8 → ready_refusal c ≡ None
  eight-ready x e n = go (ready_refusal c) refl
    where
      other : Every (λ (y : Refusal). y.number ≡ 8 → ⊥) (ready_refusal c)
      other =
          let apart : Refusal → Type 0 = λ y. y.number ≡ 8 → ⊥ in
          every-else apart (texts_refusal c.collation (lengths c)) (lookup_check c.collation c.table c.pages)
          (every-else apart (collation_check c.collation) (length_checks 1 (lengths c))
          (λ y f m. omega (arith, (numbers-one y f).1)) (λ y f m. omega (arith, (numbers-lengths 1 (lengths c) y f).1)))
          (every-else apart (table_check c.collation c.table) (pages_check c.collation c.pages)
          (λ y f m. omega (arith, (numbers-under c.collation c.table y f).1))
          (λ y f m. omega (arith, (numbers-pages c.collation c.pages y f).0)))

      go : (o : Option Refusal) → ready_refusal c ≡ o → ready_refusal c ≡ None
      go None f = f
      go (Some y) f =
          let same : y ≡ x = some_same y x (sym (call_refusal-refused c y f) ∙ e) in
          absurd (other y f (ap (λ (z : Refusal). z.number) same ∙ n))

  -- and one that is refused with another number did not
  pub other-refused : (x : Refusal) → call_refusal c ≡ Some x → (x.number ≡ 8 → ⊥) → ready_refusal c ≡ Some x
  other-refused x e n = go (ready_refusal c) refl
    where
      go : (o : Option Refusal) → ready_refusal c ≡ o → ready_refusal c ≡ Some x
      go None f =
          let bounds = numbers-room x (sym (call_refusal-ready c f) ∙ e) in
          absurd (n (omega (arith, bounds.0, bounds.1)))
      go (Some y) f = f ∙ sym (call_refusal-refused c y f) ∙ e

-- a call under collation 3 that is refused with 8 has an accepted table
pub eight-table : (t : Table) (pg : Pages) (ls : List Lent) (x : Refusal) → call_refusal (call (Some UnicodeCasemap) t pg ls) ≡ Some x
    → x.number ≡ 8
    → table_refusal t ≡ None
eight-table t pg ls x e n =
    let c : Call = call (Some UnicodeCasemap) t pg ls in
    go (table_refusal t) refl
    (numbers-past (numbers-lengths 1 (lengths c)) (after-lengths c) x (λ a b. omega arith)
    (numbers-past (numbers-one c) (after-collation c) x (λ a b. omega arith) (sym (call_refusal-row c) ∙ e)))
  where
    go : (o : Option Refusal) → table_refusal t ≡ o
        → or_else (or_else o (pages_under UnicodeCasemap pg)) (room_refusal (call (Some UnicodeCasemap) t pg ls)) ≡ Some x
        → table_refusal t ≡ None
    go None q h = q
    go (Some y) q h = let is : y ≡ x = cc in absurd (omega (arith, (numbers-table t x (q ∙ ap Some is)).1, n))

-- a refusal of the table is that of a call under collation 3 exactly where 1 and 2 are passed
pub table-exactly : (t : Table) (pg : Pages) (ls : List Lent)
    → texts_refusal (Some UnicodeCasemap) (lengths (call (Some UnicodeCasemap) t pg ls)) ≡ None
    → (x : Refusal) → x.number ≤ 7 → (call_refusal (call (Some UnicodeCasemap) t pg ls) ≡ Some x) ↔ (table_refusal t ≡ Some x)
unfolding call_refusal
table-exactly t pg ls passed x few =
    let c : Call = call (Some UnicodeCasemap) t pg ls in
    rw passed (go c (table_refusal t))
  where
    go : (c : Call) (o : Option Refusal)
        → (or_else (or_else o (pages_under UnicodeCasemap pg)) (room_refusal c) ≡ Some x) ↔ (o ≡ Some x)
    go c None = (
      λ e. absurd (omega (
        arith,
        (numbers-room c x (numbers-past (numbers-pages (Some UnicodeCasemap) pg) (room_refusal c) x (λ a b. omega arith) e)).0,
        few,
      )),
      λ e. absurd (none-some x e),
    )
    go c (Some y) = (λ e. e, λ e. e)

-- pages are short exactly when one of their slices is
pub short-exactly : (pg : Pages) → (short_pages pg ≡ true) ↔ ShortPages pg
short-exactly pg =
    or-exactly (ltb (length pg.presence) pages_most) (ltb (length pg.ranks) pages_most)
    (ltb-exactly (length pg.presence) pages_most) (ltb-exactly (length pg.ranks) pages_most)

-- 15 is that of a call under collation 3 exactly where 1 to 7 are passed and a page slice is too short
pub fifteen-exactly : (t : Table) (pg : Pages) (ls : List Lent)
    → texts_refusal (Some UnicodeCasemap) (lengths (call (Some UnicodeCasemap) t pg ls)) ≡ None
    → table_refusal t ≡ None
    → (call_refusal (call (Some UnicodeCasemap) t pg ls) ≡ Some (refusal 15 0 0)) ↔ ShortPages pg
unfolding call_refusal
fifteen-exactly t pg ls passed accepted =
    let c : Call = call (Some UnicodeCasemap) t pg ls in
    rw (passed, accepted) (go c (short_pages pg) (short-exactly pg))
  where
    go : (c : Call) (b : Bool) → (b ≡ true) ↔ ShortPages pg
        → (or_else (check b 15 0 0) (room_refusal c) ≡ Some (refusal 15 0 0)) ↔ ShortPages pg
    go c true short = (λ e. short.0 refl, λ h. refl)
    go c false short = (
      λ e. absurd (omega (arith, (numbers-room c (refusal 15 0 0) e).1)),
      λ h. absurd (true≢false (sym (short.1 h))),
    )

-- ---- places

-- with the number n, the place is above p
abbrev Beyond : ℕ → ℕ → Refusal → Type 0
Beyond n p x = x.number ≡ n → p < x.place

beyond-numbers : (n p : ℕ) {low high : ℕ} {c : Option Refusal} → Numbers low high c → n < low → Every (Beyond n p) c
beyond-numbers n p ns l x e f = absurd (omega (arith, (ns x e).0))

-- a check's refusal is given exactly when its test holds, if no later check gives the same
here-exactly : (n p d a b : ℕ) (rest : Option Refusal) → Every (Beyond n p) rest
    → (or_else (check (ltb a b) n p d) rest ≡ Some (refusal n p d)) ↔ (a < b)
here-exactly n p d a b rest later = (λ e. go (ltb a b) refl e, λ l. rw (lt-ltb a b l))
  where
    go : (t : Bool) → ltb a b ≡ t → or_else (check t n p d) rest ≡ Some (refusal n p d) → a < b
    go true f e = ltb-true a b f
    go false f e = absurd (omega (arith, later (refusal n p d) e refl))

-- ---- 1, 2 and 8 in words

collation-known : (k : ℕ) → CollationNumber k → collation_check (collation_of k) ≡ None
collation-known k (inl e) = rw e
collation-known k (inr (inl e)) = rw e
collation-known k (inr (inr e)) = rw e

collation-unknown : (k : ℕ) → (CollationNumber k → ⊥) → collation_check (collation_of k) ≡ Some (refusal 1 0 0)
collation-unknown k h = rw (ne_eqb k 1 (λ e. h (inl e)), ne_eqb k 2 (λ e. h (inr (inl e))), ne_eqb k 3 (λ e. h (inr (inr e))))

-- 1 exactly when the collation is not one
pub one-exactly : (k : ℕ) (t : Table) (pg : Pages) (ls : List Lent)
    → (call_refusal (call (collation_of k) t pg ls) ≡ Some (refusal 1 0 0)) ↔ (CollationNumber k → ⊥)
one-exactly k t pg ls =
    let c : Call = call (collation_of k) t pg ls in (
      λ e known. omega (
        arith,
        (every-else (Between 2 15) (length_checks 1 (lengths c)) (after-lengths c)
            (numbers-wider (numbers-lengths 1 (lengths c)) 2 15 (omega arith) (omega arith))
            (numbers-wider (numbers-later c) 2 15 (omega arith) (omega arith))
            (refusal 1 0 0) (rw (collation-known k known) at (sym (call_refusal-row c) ∙ e))).0,
      ),
      λ unknown. call_refusal-row c ∙ rw (collation-unknown k unknown),
    )

module _ (k : Collation) (t : Table) (pg : Pages) where
  -- 2 of the first text exactly when it is too long
  pub two-first : (l : Lent) (ls : List Lent)
      → (call_refusal (call (Some k) t pg (l ∷ ls)) ≡ Some (refusal 2 1 (length l.text))) ↔ (text_most < length l.text)
  two-first l ls =
      let c : Call = call (Some k) t pg (l ∷ ls) in
      let rest = after-lengths c in
      let others = length_checks 2 (lengths (call (Some k) t pg ls)) in
      rw (call_refusal-row c, or_else-assoc (length_check 1 (length l.text)) others rest)
      (here-exactly 2 1 (length l.text) text_most (length l.text) (or_else others rest)
      (every-else (Beyond 2 1) others rest
      (every-length (Beyond 2 1) 2 (lengths (call (Some k) t pg ls)) (λ q d l e. omega arith))
      (beyond-numbers 2 1 (numbers-later c) (omega arith))))

  -- and of the second, where the first is not
  pub two-second : (l n : Lent) → length l.text ≤ text_most
      → (call_refusal (call (Some k) t pg (l ∷ n ∷ [])) ≡ Some (refusal 2 2 (length n.text))) ↔ (text_most < length n.text)
  two-second l n fits =
      let c : Call = call (Some k) t pg (l ∷ n ∷ []) in
      rw (call_refusal-row c, le-ltb text_most (length l.text) fits, or_else-none (length_check 2 (length n.text)))
      (here-exactly 2 2 (length n.text) text_most (length n.text) (after-lengths c)
      (beyond-numbers 2 2 (numbers-later c) (omega arith)))

  -- 8 of the first text, where 1 to 7 and 15 were passed, exactly when its buffer is too short
  pub eight-first : (l : Lent) (ls : List Lent) → ready_refusal (call (Some k) t pg (l ∷ ls)) ≡ None
      → let n = room_for (prepared k (mapping_of t) l.text) in
      (call_refusal (call (Some k) t pg (l ∷ ls)) ≡ Some (refusal 8 1 n)) ↔ (length l.buffer < n)
  eight-first l ls ready =
      let n = room_for (prepared k (mapping_of t) l.text) in
      let others = prepared_in (call (Some k) t pg ls) in
      rw (call_refusal-ready (call (Some k) t pg (l ∷ ls)) ready)
      (here-exactly 8 1 n (length l.buffer) n (room_checks 2 ls others)
      (every-room (Beyond 8 1) 2 ls others (λ q d l e. omega arith)))

  -- and of the second, where the first's is not
  pub eight-second : (l o : Lent) → ready_refusal (call (Some k) t pg (l ∷ o ∷ [])) ≡ None
      → room_for (prepared k (mapping_of t) l.text) ≤ length l.buffer
      → let n = room_for (prepared k (mapping_of t) o.text) in
      (call_refusal (call (Some k) t pg (l ∷ o ∷ [])) ≡ Some (refusal 8 2 n)) ↔ (length o.buffer < n)
  eight-second l o ready fits =
      let n = room_for (prepared k (mapping_of t) o.text) in
      rw (
        call_refusal-ready (call (Some k) t pg (l ∷ o ∷ [])) ready,
        le-ltb (length l.buffer) (room_for (prepared k (mapping_of t) l.text)) fits,
      )
      (here-exactly 8 2 n (length o.buffer) n None (λ x e f. absurd (none-some x e)))
