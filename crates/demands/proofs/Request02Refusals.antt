-- Document 02, request 2 (records to pass around), its sentences on refusals, each with the theorems that render it; they take what
-- those of Request02.antt take.
-- Assumes nothing.
use Rattle.std.specs.Prelude.{Result, Err}
use Rattle.terms.specs.declared.RecordPosition.{RecordPosition}
use mathlib.Core.Path.{◌≡◌, refl}
use Prim.Native.Nat.{ℕ}
use mathlib.Core.Logic.Iff
use mathlib.Core.Logic.{◌⊎◌, ◌↔◌, true-and}
use mathlib.Core.List.{List, [], ◌∷◌}
use lib.ListN.{length}
use Rattle.terms.specs.Refusals.{refusal}
use Rattle.terms.specs.declared.Refusal.{Refusal}
use Rattle.records.specs.Items.{Item, record_of}
use Rattle.records.specs.Reading.{kind_in, body_in}
use Rattle.records.specs.Writing.{Writes}
use Rattle.records.specs.declared.Record.{Record}
use Rattle.demands.specs.Faults.{Clear, FirstFault, fault, plain}
use Rattle.demands.specs.Records.{ReadCall}
use Rattle.demands.specs.Records.{Unfit, NoRoom, TooFew, UnknownKind, WrongBody, following_at, fault11, fault12}
use Rattle.demands.specs.Records.{read_faults, write_faults}
use Rattle.demands.proofs.FaultRows.{number_at, plain_at}
use Rattle.demands.proofs.RecordCalls.{reads-stopped, stopped-read}
use Rattle.demands.proofs.RecordCalls.{refused-inside, write-refused}
use Rattle.demands.proofs.RecordFaults.{read-row, read-numbers, write-row, write-numbers}

-- ---- "Refusals: 11 .. 12 .. 13 ..; reading checks 11, 12, 13,"

module _ (s : List ℕ) (p : ℕ) (x : Result Record Refusal) (call : ReadCall s p x) where
  -- a call that is not at the end is refused with number n exactly when that is the first fault of the row
  pub read_first : (p ≡ length s → ⊥) → (n d : ℕ) → (x ≡ Err (refusal n 0 d)) ↔ FirstFault (read_faults s p) n d
  read_first inside n d =
      let row = read-row s p inside n d in (
        λ e. row.0 (stopped-read s p x call (refusal n 0 d) e),
        λ f. reads-stopped s p x call (refusal n 0 d) (row.1 f),
      )

  -- one number of the row, of a call that is not at the end
  inside-exactly : (n : ℕ) {A : Type 0} → (FirstFault (read_faults s p) n 0 ↔ A)
      → (x ≡ Err (refusal n 0 0)) ↔ ((p ≡ length s → ⊥) × A)
  inside-exactly n h = (
    λ e. (refused-inside s p x call e, h.0 ((read_first (refused-inside s p x call e) n 0).0 e)),
    λ a. (read_first a.0 n 0).1 (h.1 a.1),
  )

  -- 11 exactly when it is not the end, and "fewer octets [are] left than four or than the length says, or a length below 2"
  pub read-11 : (x ≡ Err (refusal 11 0 0)) ↔ ((p ≡ length s → ⊥) × TooFew s p)
  read-11 = inside-exactly 11 (Iff.trans (plain_at (read_faults s p) 0 11 (TooFew s p) refl refl refl) true-and)

  -- 12 exactly when not 11, and "kind unknown"
  pub read-12 : (x ≡ Err (refusal 12 0 0)) ↔ ((p ≡ length s → ⊥) × (Clear (fault11 s p ∷ []) × UnknownKind s p))
  read-12 = inside-exactly 12 (plain_at (read_faults s p) 1 12 (UnknownKind s p) refl refl refl)

  -- 13 exactly when not 11 or 12, and "a text or text length [is] over the limit, a key body below four octets, or collation,
  -- flag or lengths not as above"
  pub read-13 : (x ≡ Err (refusal 13 0 0))
      ↔ ((p ≡ length s → ⊥)
      × (Clear (fault11 s p ∷ fault12 s p ∷ []) × WrongBody (kind_in (following_at s p)) (body_in (following_at s p))))
  read-13 =
      inside-exactly 13
      (plain_at (read_faults s p) 2 13 (WrongBody (kind_in (following_at s p)) (body_in (following_at s p))) refl refl refl)

-- ---- "8 no room (detail the whole record); .. writing 13, 8,"

module _ (i : Item) {p : ℕ} {s t : List ℕ} {r : Result RecordPosition Refusal} (w : Writes i p s r t) where
  -- a call is refused with number n and detail d exactly when that is the first fault of the row
  pub write-first : (n d : ℕ) → (r ≡ Err (refusal n 0 d)) ↔ FirstFault (write_faults i p (length s)) n d
  write-first n d = Iff.trans (write-refused i w (refusal n 0 d)) (write-row i p (length s) n d)

  -- 13 exactly when the item is unfit
  pub write-13 : (r ≡ Err (refusal 13 0 0)) ↔ Unfit i
  write-13 =
      Iff.trans (write-first 13 0) (Iff.trans (plain_at (write_faults i p (length s)) 0 13 (Unfit i) refl refl refl) true-and)

  -- 8 exactly when not 13, and fewer octets are left in the slice than the whole record has, which is the detail
  pub write-8 : (d : ℕ) → (r ≡ Err (refusal 8 0 d)) ↔ (Clear (plain 13 (Unfit i) ∷ []) × NoRoom i p (length s) d)
  write-8 d =
      Iff.trans (write-first 8 d)
      (number_at (write_faults i p (length s)) 1 (fault 8 (NoRoom i p (length s))) refl refl refl d)

  -- "and then no lent buffer changes" (demand 1)
  pub write_kept : (y : Refusal) → r ≡ Err y → t ≡ s
  write_kept y e = rw ((write-refused i w y).0 e) at w.left

-- ---- "all with place 0."

-- every refusal of the reader is one of its three, with place and detail 0
pub read-refusals : (s : List ℕ) (p : ℕ) (x : Result Record Refusal) → ReadCall s p x → (y : Refusal) → x ≡ Err y
    → (y ≡ refusal 11 0 0) ⊎ (y ≡ refusal 12 0 0) ⊎ (y ≡ refusal 13 0 0)
read-refusals s p x call y e = read-numbers s p y (stopped-read s p x call y e)

-- and every one of the writer one of its two, 8 with its detail
pub write-refusals : (i : Item) {p : ℕ} {s t : List ℕ} (y : Refusal) → Writes i p s (Err y) t
    → (y ≡ refusal 13 0 0) ⊎ (y ≡ refusal 8 0 (length (record_of i)))
write-refusals i {p} {s} y w = write-numbers i p (length s) y ((write-refused i w y).0 refl)
