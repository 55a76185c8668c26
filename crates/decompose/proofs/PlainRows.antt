-- What an octet of ASCII becomes, over a mapping, and a row of it that is filled octet by octet: what it has after the first i
-- (`RowTo`), with its laws, start, one more, done.
-- Assumes nothing.
use mathlib.Core.Path.{◌≡◌, sym, ap, ◌∙◌}
use Prim.Native.Nat.{ℕ, ◌+◌, ◌≤◌, ◌<◌}
use native.Mathlib.Decide.{dec_lt, ℕ_discrete}
use native.Mathlib.Omega.{arith}
use mathlib.Core.Bool.{true, not, ◌&&◌}
use mathlib.Core.List.{List}
use lib.Dec.{leb}
use lib.ListN.{length, get_or, set, replicate, length-set, length-replicate, get_or-replicate}
use lib.Seq.{get_or-set_same, get_or-set_other}
use borrow.Author.Tests.{le-leb, lt-leb}
use Rattle.terms.specs.CodePoints.{scalar}
use Rattle.terms.proofs.Tests.{join}
use Rattle.hangul.proofs.Syllables.{syllable-below}
use Rattle.table.specs.Mapping.{Mapping}
use Rattle.table.specs.Table.{Table, title_of, entry_parts, mapping_of}
use Rattle.table.proofs.Form.{parts_of-other}
use Rattle.utf8.proofs.Encode.{encode_one}
use Rattle.decompose.specs.Plain.{Plain, PlainRow}
use Rattle.decompose.proofs.Walk.{parts_none}
use Rattle.decompose.proofs.Expansion.{expanded-plain, counted-plain}

-- ---- one octet

-- a code point of ASCII is scalar
pub scalar-ascii : (c : ℕ) → c < 0x80 → scalar c ≡ true
scalar-ascii c h =
    join (leb c 0x10FFFF) (not (leb 0xD800 c && leb c 0xDFFF)) (le-leb c 0x10FFFF (omega arith))
    (rw (lt-leb 0xD800 c (omega arith)))

-- a number from 80 hex on says nothing
pub plain-none : (m : Mapping) (c octet : ℕ) → 0x80 ≤ octet → Plain m c octet
plain-none m c octet h = record { single = λ l. absurd (omega arith); asked = λ l. absurd (omega arith) }

-- a titlecase of ASCII of which the entries say no parts is what the code point becomes, since it is no syllable
pub plain-title : (t : Table) (c x : ℕ) (ps : List ℕ) → title_of t.entries c ≡ x → x < 0x80
    → ps ≡ entry_parts t x → length ps ≡ 0 → Plain (mapping_of t) c x
plain-title t c x ps title low e z =
    let m = mapping_of t in
    let whole = parts_none m x ps (e ∙ sym (parts_of-other t x (syllable-below x (omega arith)))) z in
    record {
      single = λ l. expanded-plain m c x title whole ∙ encode_one x low;
      asked = λ l. sym (counted-plain m c x title whole 1 (sym (ap length (encode_one x low)))).asked;
    }

-- ---- the row

-- the first i octets have what they become, and the others say nothing
pub record RowTo (m : Mapping) (i : ℕ) (row : List ℕ) : Type 0 where
  pub passed : i ≤ 0x80
  pub size : length row ≡ 256
  pub done : (a : ℕ) → a < i → Plain m a (get_or row a 0)
  pub rest : (a : ℕ) → i ≤ a → a < 256 → get_or row a 0 ≡ 0x80

-- before the first
pub row-start : (m : Mapping) → RowTo m 0 (replicate 256 0x80)
row-start m = record {
  passed = omega arith;
  size = length-replicate {A = ℕ} 256 0x80;
  done = λ a h. absurd (omega arith);
  rest = λ a l h. get_or-replicate {A = ℕ} 256 a 0x80 0 h;
}

module _ {m : Mapping} {i : ℕ} {row : List ℕ} (w : RowTo m i row) where
  -- one octet more
  pub row_more : (x : ℕ) → i < 0x80 → Plain m i x → RowTo m (i + 1) (set row i x)
  row_more x h p =
      let inside : i < length row = omega (arith, w.size) in
      record {
        passed = omega arith;
        size = length-set row i x ∙ w.size;
        done = λ a l. at a l inside (ℕ_discrete a i);
        rest = λ a l b. get_or-set_other row i a x 0 (omega arith) ∙ w.rest a (omega arith) b;
      }
    where
      at : (a : ℕ) → a < i + 1 → i < length row → Dec (a ≡ i) → Plain m a (get_or (set row i x) a 0)
      at a l inside (yes e) = rw (e, get_or-set_same row i x 0 inside) p
      at a l inside (no e) = rw (get_or-set_other row i a x 0 e) (w.done a (omega arith))

  -- all of ASCII
  pub row_done : 0x80 ≤ i → PlainRow m row
  row_done h = record {
    size = w.size;
    ascii = λ a b l. low a b l (dec_lt a 0x80);
    plain = λ a b. at a b (dec_lt a 0x80);
  }
    where
      low : (a : ℕ) → a < 256 → get_or row a 0 < 0x80 → Dec (a < 0x80) → a < 0x80
      low a b l (yes d) = d
      low a b l (no d) = absurd (omega (arith, w.rest a (omega (arith, w.passed)) b))

      at : (a : ℕ) → a < 256 → Dec (a < 0x80) → Plain m a (get_or row a 0)
      at a b (yes d) = w.done a (omega arith)
      at a b (no d) = plain-none m a (get_or row a 0) (omega (arith, w.rest a (omega (arith, w.passed)) b))
