-- 13 in words: a key or an item doesn't fit exactly where its collation, flag or lengths are not as they should be.
-- Assumes nothing.
use mathlib.Core.Path.{◌≡◌, refl, sym}
use Prim.Native.Nat.{ℕ, ◌*◌}
use native.Mathlib.Omega.{arith}
use native.Mathlib.Decide.{ℕ_discrete}
use mathlib.Core.Bool.{Bool, true, not, ◌&&◌, ◌||◌, true≢false}
use mathlib.Core.Logic.{◌⊎◌, inl, inr, ◌↔◌}
use Rattle.std.specs.Prelude.{None, Some}
use lib.Dec.{leb, eqb}
use lib.ListN.{length}
use borrow.Author.Tests.{ne_eqb}
use Rattle.terms.specs.Collations.{collation_of, reads_table}
use Rattle.terms.specs.declared.Collation.{Collation}
use Rattle.terms.specs.declared.Collation.TheVariants.{Octet, AsciiCasemap, UnicodeCasemap}
use Rattle.records.specs.Items.{rules, Item, of_text, of_key, flag_fits, length_fits, agrees, key_fits, fits}
use Rattle.records.specs.declared.KeyFields.{KeyFields}
use Rattle.demands.specs.Demands.{CollationNumber}
use Rattle.demands.specs.Records.{WrongFlag, LikeText, WrongLength, WrongKey, Unfit}
use Rattle.demands.proofs.Reflect.{eqb-exactly, or-exactly, not-exactly, nor-exactly, above-exactly, nand-exactly}
use Rattle.demands.proofs.Reflect.{cond-exactly}

-- ---- a key

-- a collation that doesn't read the table, by its number
abbrev Unread : ℕ → Type 0
Unread k = (k ≡ 1) ⊎ (k ≡ 2)

-- a number names a collation, of which it says whether it reads the table
pub record Named (k : ℕ) (c : Collation) : Type 0 where
  pub names : collation_of k ≡ Some c
  pub unread : (not (reads_table c) ≡ true) ↔ Unread k

named : (k : ℕ) → CollationNumber k → (c : Collation) × Named k c
named k (inl e) = (Octet, record { names = rw e; unread = (λ f. inl e, λ h. refl) })
named k (inr (inl e)) = (AsciiCasemap, record { names = rw e; unread = (λ f. inr e, λ h. refl) })
named k (inr (inr e)) = (UnicodeCasemap, record { names = rw e; unread = (λ f. absurd (true≢false (sym f)), three) })
  where
    three : Unread k → not (reads_table UnicodeCasemap) ≡ true
    three (inl f) = absurd (omega arith)
    three (inr f) = absurd (omega arith)

-- whether a number is one of a collation
collation-number : (k : ℕ) → Dec (CollationNumber k)
collation-number k = go (ℕ_discrete k 1) (ℕ_discrete k 2) (ℕ_discrete k 3)
  where
    none_of : (k ≡ 1 → ⊥) → (k ≡ 2 → ⊥) → (k ≡ 3 → ⊥) → CollationNumber k → ⊥
    none_of a b c (inl e) = a e
    none_of a b c (inr (inl e)) = b e
    none_of a b c (inr (inr e)) = c e

    go : Dec (k ≡ 1) → Dec (k ≡ 2) → Dec (k ≡ 3) → Dec (CollationNumber k)
    go (yes e) b c = yes (inl e)
    go (no a) (yes e) c = yes (inr (inl e))
    go (no a) (no b) (yes e) = yes (inr (inr e))
    go (no a) (no b) (no c) = no (none_of a b c)

module _ (f : KeyFields) (n : ℕ) (c : Collation) (h : Named f.collation c) where
  -- its flag
  flag-exactly : (not (flag_fits c f.valid) ≡ true) ↔ WrongFlag f
  flag-exactly =
      let v = f.valid in
      let both =
      nor-exactly (eqb v 1) (eqb v 0 && reads_table c) (eqb-exactly v 1)
      (nand-exactly (eqb v 0) (reads_table c) (not-exactly (eqb v 0) (eqb-exactly v 0)) h.unread)
      in
      (λ e. wrong (both.0 e).0 (both.0 e).1 (ℕ_discrete v 0), λ w. both.1 (tested w))
    where
      wrong : (f.valid ≡ 1 → ⊥) → (f.valid ≡ 0 → ⊥) ⊎ Unread f.collation → Dec (f.valid ≡ 0) → WrongFlag f
      wrong one (inl zero) d = inl (zero, one)
      wrong one (inr unread) (yes e) = inr (e, unread)
      wrong one (inr unread) (no zero) = inl (zero, one)

      tested : WrongFlag f → (f.valid ≡ 1 → ⊥) × ((f.valid ≡ 0 → ⊥) ⊎ Unread f.collation)
      tested (inl w) = (w.1, inl w.0)
      tested (inr w) = (λ one. omega (arith, w.0, one), inr w.1)

  -- where key and text length must agree
  like-exactly : (eqb f.valid 0 || not (reads_table c) ≡ true) ↔ LikeText f
  like-exactly = or-exactly (eqb f.valid 0) (not (reads_table c)) (eqb-exactly f.valid 0) h.unread

  -- and its length
  length-exactly : (not (length_fits c f n) ≡ true) ↔ WrongLength f n
  length-exactly =
      cond-exactly (eqb f.valid 0 || not (reads_table c)) (eqb n f.text_length) (leb n (128 * f.text_length))
      like-exactly
      (not-exactly (eqb n f.text_length) (eqb-exactly n f.text_length))
      (above-exactly n (128 * f.text_length))

-- collation, flag and lengths are not as they should
agrees-exactly : (f : KeyFields) (n : ℕ)
    → (not (agrees (collation_of f.collation) f n) ≡ true)
    ↔ ((CollationNumber f.collation → ⊥) ⊎ WrongFlag f ⊎ WrongLength f n)
agrees-exactly f n = go (collation-number f.collation)
  where
    Wrong : Type 0
    Wrong = (CollationNumber f.collation → ⊥) ⊎ WrongFlag f ⊎ WrongLength f n

    unknown-is : (CollationNumber f.collation → ⊥) → collation_of f.collation ≡ None
    unknown-is h =
        rw (
          ne_eqb f.collation 1 (λ e. h (inl e)),
          ne_eqb f.collation 2 (λ e. h (inr (inl e))),
          ne_eqb f.collation 3 (λ e. h (inr (inr e))),
        )

    go : Dec (CollationNumber f.collation) → (not (agrees (collation_of f.collation) f n) ≡ true) ↔ Wrong
    go (yes k) =
        let found = named f.collation k in
        let c = found.0 in
        let h = found.1 in
        let e =
        nand-exactly (flag_fits c f.valid) (length_fits c f n) (flag-exactly f n c h) (length-exactly f n c h)
        in
        rw h.names (λ t. inr (e.0 t), known e)
      where
        known : {b : Bool} → (b ≡ true) ↔ (WrongFlag f ⊎ WrongLength f n) → Wrong → b ≡ true
        known e (inl unknown) = absurd (unknown k)
        known e (inr w) = e.1 w
    go (no unknown) = rw (unknown-is unknown) (λ t. inl unknown, λ w. refl)

-- a key of n octets doesn't fit
pub key-exactly : (f : KeyFields) (n : ℕ) → (not (key_fits rules f n) ≡ true) ↔ WrongKey f n
key-exactly f n =
    nand-exactly (leb f.text_length 4096) (agrees (collation_of f.collation) f n)
    (above-exactly f.text_length 4096)
    (agrees-exactly f n)

-- an item doesn't
pub item-exactly : (i : Item) → (not (fits rules i) ≡ true) ↔ Unfit i
item-exactly (of_text t) = above-exactly (length t) 4096
item-exactly (of_key f k) = key-exactly f (length k)
