-- Which items fit: collation, flag and lengths by cases.
-- Assumes nothing.
use mathlib.Core.Path.{◌≡◌, refl, sym}
use Prim.Native.Nat.{ℕ, ◌*◌, ◌≤◌, ◌<◌}
use native.Mathlib.Omega.{arith}
use mathlib.Core.Bool.{Bool, true, false, cond, not, ◌&&◌, ◌||◌, and-false, true≢false}
use Rattle.std.specs.Prelude.{Option, None, Some}
use lib.Dec.{eqb, leb}
use borrow.Author.Tests.{leb-true, eqb-true, ne_eqb}
use Rattle.terms.specs.Collations.{reads_table}
use Rattle.terms.specs.declared.Collation.{Collation}
use Rattle.terms.specs.declared.Collation.TheVariants.{Octet, AsciiCasemap, UnicodeCasemap}
use Rattle.terms.proofs.Tests.{both}
use Rattle.records.specs.Items.{Rules, rules, flag_fits, length_fits, agrees, record_collation, key_fits}
use Rattle.records.specs.declared.KeyFields.{KeyFields}

module _ (c : Collation) (f : KeyFields) (n : ℕ) where
  -- the flag is 1
  pub agrees-valid : f.valid ≡ 1
      → agrees (Some c) f n ≡ cond (reads_table c) (leb n (128 * f.text_length)) (eqb n f.text_length)
  agrees-valid e = rw e (by-case c)
    where
      by-case : (k : Collation)
          → cond (not (reads_table k)) (eqb n f.text_length) (leb n (128 * f.text_length))
          ≡ cond (reads_table k) (leb n (128 * f.text_length)) (eqb n f.text_length)
      by-case Octet = refl
      by-case AsciiCasemap = refl
      by-case UnicodeCasemap = refl

  -- the flag is 0
  pub agrees-invalid : f.valid ≡ 0 → agrees (Some c) f n ≡ reads_table c && eqb n f.text_length
  agrees-invalid e = rw e

  -- it is another number
  pub agrees-neither : (f.valid ≡ 1 → ⊥) → (f.valid ≡ 0 → ⊥) → agrees (Some c) f n ≡ false
  agrees-neither one zero = rw (ne_eqb f.valid 1 one, ne_eqb f.valid 0 zero)

  -- it is not 1, under a collation that doesn't read the table
  pub agrees-unread : reads_table c ≡ false → (f.valid ≡ 1 → ⊥) → agrees (Some c) f n ≡ false
  agrees-unread e one = rw (ne_eqb f.valid 1 one, e, and-false (eqb f.valid 0))

-- ---- how long a key can be

-- at most 128 times its text
length_most : (b : Bool) (n m : ℕ) → cond b (eqb n m) (leb n (128 * m)) ≡ true → n ≤ 128 * m
length_most true n m e = let same : n ≡ m = eqb-true n m e in omega arith
length_most false n m e = leb-true n (128 * m) e

agrees-most : (o : Option Collation) (f : KeyFields) (n : ℕ) → agrees o f n ≡ true → n ≤ 128 * f.text_length
agrees-most None f n e = absurd (true≢false (sym e))
agrees-most (Some c) f n e =
    length_most (eqb f.valid 0 || not (reads_table c)) n f.text_length
    (both (flag_fits c f.valid) (length_fits c f n) e).1

-- a key that fits has at most 128 octets for each that a text may have
pub key_fits-most : (r : Rules) (f : KeyFields) (n : ℕ) → key_fits r f n ≡ true → n ≤ 128 * r.longest
key_fits-most r f n e =
    let each = both (leb f.text_length r.longest) (agrees (record_collation f.collation) f n) e in
    omega (
      arith,
      leb-true f.text_length r.longest each.0,
      agrees-most (record_collation f.collation) f n each.1,
    )

-- ---- what a record can hold of its numbers

-- a collation that a record may name has a number of one octet
collation-small : (k : ℕ) (f : KeyFields) (n : ℕ) → agrees (record_collation k) f n ≡ true → k < 256
collation-small k f n e = go (eqb k 1) refl (eqb k 2) refl (eqb k 3) refl
  where
    go : (a : Bool) → eqb k 1 ≡ a → (b : Bool) → eqb k 2 ≡ b → (c : Bool) → eqb k 3 ≡ c → k < 256
    go true p b q c r = let is : k ≡ 1 = eqb-true k 1 p in omega arith
    go false p true q c r = let is : k ≡ 2 = eqb-true k 2 q in omega arith
    go false p false q true r = let is : k ≡ 3 = eqb-true k 3 r in omega arith
    go false p false q false r = absurd (true≢false (sym (rw (p, q, r) at e)))

-- so has a flag
flag_small : (c : Collation) (flag : ℕ) → flag_fits c flag ≡ true → flag < 256
flag_small c flag e = go (eqb flag 1) refl (eqb flag 0) refl
  where
    go : (a : Bool) → eqb flag 1 ≡ a → (b : Bool) → eqb flag 0 ≡ b → flag < 256
    go true p b q = let is : flag ≡ 1 = eqb-true flag 1 p in omega arith
    go false p true q = let is : flag ≡ 0 = eqb-true flag 0 q in omega arith
    go false p false q = absurd (true≢false (sym (rw (p, q) at e)))

agrees-flag : (o : Option Collation) (f : KeyFields) (n : ℕ) → agrees o f n ≡ true → f.valid < 256
agrees-flag None f n e = absurd (true≢false (sym e))
agrees-flag (Some c) f n e = flag_small c f.valid (both (flag_fits c f.valid) (length_fits c f n) e).0

-- the numbers of a key that fits have one, one and two octets
pub record Small (f : KeyFields) : Type 0 where
  pub collation : f.collation < 256
  pub flag : f.valid < 256
  pub length : f.text_length < 65536

pub key_fits-small : (f : KeyFields) (n : ℕ) → key_fits rules f n ≡ true → Small f
key_fits-small f n e =
    let each = both (leb f.text_length 4096) (agrees (record_collation f.collation) f n) e in
    record {
      collation = collation-small f.collation f n each.1;
      flag = agrees-flag (record_collation f.collation) f n each.1;
      length = omega (arith, leb-true f.text_length 4096 each.0);
    }
