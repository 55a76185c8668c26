-- Sizing and writing a code point that decomposes: what each has after the first i parts, as a record on plain values with
-- its laws, start, one more, done.
-- Assumes nothing.
use mathlib.Core.Path.{◌≡◌, refl, sym, ap, ◌∙◌}
use Prim.Native.Nat.{ℕ, suc, ◌+◌, ◌-◌, ◌≤◌, ◌<◌}
use native.Mathlib.Omega.{arith}
use mathlib.Core.List.{List, ◌++◌}
use lib.ListN.{length, get_or, take, drop, length-append, length-drop}
use lib.Seq.{take_all}
use Rattle.terms.specs.Lists.{each, total, over}
use Rattle.terms.proofs.Lists.{each_append, each-take-more, each-take-drop, total_take_more, total-take}
use Rattle.terms.proofs.Parts.{take-drop, put_back, length_over, over-append}
use Rattle.table.specs.Mapping.{Mapping}
use Rattle.utf8.specs.Utf8.{encode, encodes}
use Rattle.decompose.specs.Levels.{full, asks}
use Rattle.decompose.specs.Promises.{Split, Bounded, Counted, Filled}
use Rattle.decompose.specs.declared.Unfolded.{Unfolded}
use Rattle.decompose.proofs.Walk.{fulls, full-parts, asks-parts, bounded-levels, bounded-octets, bounded-asks}

-- ---- sizing

-- the first i parts come to as many octets, and with the ask for the parts themselves to as many asks
pub record Sizing (m : Mapping) (n : ℕ) (ps : List ℕ) (o a i : ℕ) : Type 0 where
  pub passed : i ≤ length ps
  pub octets : o ≡ length (encodes (fulls m n (take i ps)))
  pub asked : a ≡ suc (total (λ p. asks m n p) (take i ps))

-- before the first part
pub sizing-start : {m : Mapping} {n : ℕ} {ps : List ℕ} → Sizing m n ps 0 1 0
unfolding each total
sizing-start = record { passed = omega arith; octets = refl; asked = refl }

-- the octets of one part more
encodes_more : (m : Mapping) (n : ℕ) (ps : List ℕ) (i : ℕ) → i < length ps
    → encodes (fulls m n (take (i + 1) ps)) ≡ encodes (fulls m n (take i ps)) ++ encodes (full m n (get_or ps i 0))
encodes_more m n ps i l =
    rw (each-take-more (λ p. full m n p) ps i 0 l) (each_append encode (fulls m n (take i ps)) (full m n (get_or ps i 0)))

-- one part more
pub sizing-more : {m : Mapping} {n : ℕ} {ps : List ℕ} {o a i : ℕ} {r : Unfolded} → Sizing m n ps o a i
    → i < length ps
    → Counted (full m n (get_or ps i 0)) (asks m n (get_or ps i 0)) r
    → Sizing m n ps (o + r.octets) (a + r.asks) (i + 1)
sizing-more {m} {n} {ps} {o} {a} {i} {r} w l part =
    record {
      passed = omega arith;
      octets =
          omega (
            arith,
            ap length (encodes_more m n ps i l),
            length-append (encodes (fulls m n (take i ps))) (encodes (full m n (get_or ps i 0))),
          );
      asked = omega (arith, total_take_more (λ p. asks m n p) ps i 0 l);
    }

module _ {m : Mapping} {n c : ℕ} {ps : List ℕ} (b : Bounded m n c) (s : Split m c ps) {o a i : ℕ}
    (w : Sizing m (n - 1) ps o a i) where
  -- every part was sized: the code point is
  pub sizing-done : length ps ≤ i → Counted (full m n c) (asks m n c) (record { octets = o; asks = a })
  sizing-done l =
      let h = bounded-levels b s in
      let whole = take_all i ps l in
      record {
        octets = rw (full-parts s n h) (rw whole at w.octets);
        asked = rw (asks-parts s n h) (rw whole at w.asked);
      }

  -- the octets so far are at most those of the whole
  pub sizing-octets : o ≤ length (encodes (full m n c))
  sizing-octets =
      let first = fulls m (n - 1) (take i ps) in
      let rest = fulls m (n - 1) (drop i ps) in
      omega (
        arith,
        ap length (each_append encode first rest),
        length-append (encodes first) (encodes rest),
        ap (λ (l : List ℕ). length (encodes l))
            (each-take-drop (λ p. full m (n - 1) p) ps i ∙ sym (full-parts s n (bounded-levels b s))),
      )

  -- which are few, and so are the asks
  pub sizing-few : (o ≤ 128) × (a ≤ 257)
  sizing-few = (
    omega (arith, sizing-octets, bounded-octets b),
    omega (arith, total-take (λ p. asks m (n - 1) p) ps i, asks-parts s n (bounded-levels b s), bounded-asks b),
  )

-- ---- writing

-- the first i parts were sized, and written at the start of a slice
pub record Writing (m : Mapping) (n : ℕ) (ps slice : List ℕ) (o a i : ℕ) (after : List ℕ) : Type 0 where
  pub sized : Sizing m n ps o a i
  pub written : after ≡ over (encodes (fulls m n (take i ps))) slice

-- before the first part
pub writing_start : {m : Mapping} {n : ℕ} {ps slice : List ℕ} → Writing m n ps slice 0 1 0 slice
unfolding each
writing_start = record { sized = sizing-start; written = refl }

-- one part more, written into what follows the octets so far, as that part of the slice is lent and put back
pub writing_more : {m : Mapping} {n : ℕ} {ps slice : List ℕ} {o a i : ℕ} {r : Unfolded} {now after : List ℕ}
    → Writing m n ps slice o a i now
    → i < length ps
    → Filled (full m n (get_or ps i 0)) (asks m n (get_or ps i 0)) (take (length now - o) (drop o now)) r after
    → Writing m n ps slice (o + r.octets) (a + r.asks) (i + 1) (take o now ++ (after ++ drop (length now - o) (drop o now)))
writing_more {m} {n} {ps} {slice} {o} {a} {i} {r} {now} {after} w l part =
    let first = encodes (fulls m n (take i ps)) in
    let next = encodes (full m n (get_or ps i 0)) in
    let filled = rw (take-drop o now) at part.written in
    record {
      sized = sizing-more w.sized l part.counted;
      written =
          rw (put_back o now after, filled, w.written, w.sized.octets, encodes_more m n ps i l)
          (over-append first next slice);
    }

module _
    {m : Mapping}
    {n c : ℕ}
    {ps : List ℕ}
    (b : Bounded m n c)
    (s : Split m c ps)
    {slice : List ℕ}
    {o a i : ℕ}
    {after : List ℕ}
    (w : Writing m (n - 1) ps slice o a i after) where
  -- every part was written: the code point is
  pub writing-done : length ps ≤ i → Filled (full m n c) (asks m n c) slice (record { octets = o; asks = a }) after
  writing-done l =
      let whole = take_all i ps l in
      record {
        counted = sizing-done b s w.sized l;
        written = rw (full-parts s n (bounded-levels b s)) (rw whole at w.written);
      }

  module _ (room : length (encodes (full m n c)) ≤ length slice) where
    -- the slice keeps its length, if it has room for the whole
    pub writing-length : length after ≡ length slice
    writing-length =
        let most = sizing-octets b s w.sized in
        ap length w.written ∙ length_over (encodes (fulls m (n - 1) (take i ps))) slice (omega (arith, w.sized.octets))

    -- and what is lent of it has room for the next part
    pub writing-room : i < length ps
        → length (encodes (full m (n - 1) (get_or ps i 0))) ≤ length (take (length after - o) (drop o after))
    writing-room l =
        let p = get_or ps i 0 in
        let r : Unfolded = record { octets = length (encodes (full m (n - 1) p)); asks = asks m (n - 1) p } in
        let part : Counted (full m (n - 1) p) (asks m (n - 1) p) r = record { octets = refl; asked = refl } in
        rw (take-drop o after)
        (omega (arith, sizing-octets b s (sizing-more w.sized l part), writing-length, length-drop o after))
