-- Measuring a code point that decomposes: what it has after the first i parts, as a record on plain values with its laws,
-- start, one more, done, stop.
-- Assumes nothing.
use mathlib.Core.Path.{◌≡◌, refl, sym, ap, ◌∙◌}
use Prim.Native.Nat.{ℕ, ◌+◌, ◌-◌, ◌≤◌, ◌<◌}
use native.Mathlib.Omega.{arith}
use mathlib.Core.Bool.{Bool, true, false, ◌&&◌}
use Rattle.std.specs.Prelude.{Option, None, Some}
use mathlib.Core.List.{List}
use lib.Dec.{leb}
use lib.ListN.{length, get_or, take, length-append}
use lib.Seq.{take_all}
use borrow.Author.Tests.{leb-true, le-leb}
use Rattle.terms.specs.Lists.{all, each, when}
use Rattle.terms.proofs.Lists.{all-at, all-take-more, each-take-more, length-each-take}
use Rattle.terms.proofs.Tests.{none-some}
use Rattle.table.specs.Mapping.{Mapping}
use Rattle.decompose.specs.Levels.{within, full}
use Rattle.decompose.specs.Promises.{measured, Split}
use Rattle.decompose.proofs.Walk.{fulls, within-parts, full-parts, within_none}

-- the parts are measured, as a code point is
abbrev pub measured_parts : Mapping → ℕ → ℕ → List ℕ → Option ℕ
measured_parts m n room ps = when (all (λ p. within m n p) ps && leb (length (fulls m n ps)) room) (length (fulls m n ps))

-- a code point that decomposes is measured by its parts
pub measured-parts : {m : Mapping} {c : ℕ} {ps : List ℕ} → Split m c ps → (n room : ℕ) → 1 ≤ n
    → measured m n room c ≡ measured_parts m (n - 1) room ps
measured-parts s n room h = rw (within-parts s n h, full-parts s n h)

-- with no level left it is too much
pub measured-none : {m : Mapping} {c : ℕ} {ps : List ℕ} → Split m c ps → (room : ℕ) → measured m 0 room c ≡ None
measured-none s room = rw (within_none s)

-- the first i parts are within n levels and come to `count` code points, for which there is room
pub record Measuring (m : Mapping) (n : ℕ) (ps : List ℕ) (room count i : ℕ) : Type 0 where
  pub passed : i ≤ length ps
  pub level : all (λ p. within m n p) (take i ps) ≡ true
  pub size : count ≡ length (fulls m n (take i ps))
  pub fits : count ≤ room

-- before the first part
pub measuring-start : {m : Mapping} {n : ℕ} {ps : List ℕ} {room : ℕ} → Measuring m n ps room 0 0
unfolding each
measuring-start = record { passed = omega arith; level = refl; size = refl; fits = omega arith }

-- a measurement that fits: within the levels, and how many code points
pub measured-some : (m : Mapping) (n room c k : ℕ) → measured m n room c ≡ Some k
    → (within m n c ≡ true) × (length (full m n c) ≡ k) × (k ≤ room)
measured-some m n room c k e = go (within m n c) (leb (length (full m n c)) room) refl refl e
  where
    go : (a b : Bool) → within m n c ≡ a → leb (length (full m n c)) room ≡ b
        → when (a && b) (length (full m n c)) ≡ Some k
        → (within m n c ≡ true) × (length (full m n c) ≡ k) × (k ≤ room)
    go true true p q r =
        let same : length (full m n c) ≡ k = cc in
        (p, same, omega (arith, leb-true (length (full m n c)) room q))
    go true false p q r = absurd (none-some k r)
    go false b p q r = absurd (none-some k r)

-- one part more
pub measuring-more : {m : Mapping} {n : ℕ} {ps : List ℕ} {room count i k : ℕ} → Measuring m n ps room count i
    → i < length ps
    → measured m n (room - count) (get_or ps i 0) ≡ Some k
    → Measuring m n ps room (count + k) (i + 1)
measuring-more {m} {n} {ps} {room} {count} {i} {k} w l e =
    let part = measured-some m n (room - count) (get_or ps i 0) k e in
    record {
      passed = omega arith;
      level = all-take-more (λ p. within m n p) ps i 0 w.level part.0 l;
      size =
          omega (
            arith,
            ap length (each-take-more (λ p. full m n p) ps i 0 l),
            length-append (fulls m n (take i ps)) (full m n (get_or ps i 0)),
          );
      fits = omega arith;
    }

-- every part was measured
pub measuring-done : {m : Mapping} {n : ℕ} {ps : List ℕ} {room count i : ℕ} → Measuring m n ps room count i
    → length ps ≤ i
    → Some count ≡ measured_parts m n room ps
measuring-done {m} {n} {ps} {room} {count} {i} w l =
    let whole = take_all i ps l in
    let level : all (λ p. within m n p) ps ≡ true = rw whole at w.level in
    let size : length (fulls m n ps) ≡ count = sym (rw whole at w.size) in
    rw (level, size, le-leb count room w.fits)

-- a part that is too much is too much for all
pub measuring-stop : {m : Mapping} {n : ℕ} {ps : List ℕ} {room count i : ℕ} → Measuring m n ps room count i
    → i < length ps
    → measured m n (room - count) (get_or ps i 0) ≡ None
    → None ≡ measured_parts m n room ps
measuring-stop {m} {n} {ps} {room} {count} {i} w l e =
    go (all (λ p. within m n p) ps) (leb (length (fulls m n ps)) room) refl refl
  where
    go : (a b : Bool) → all (λ p. within m n p) ps ≡ a → leb (length (fulls m n ps)) room ≡ b
        → None ≡ when (a && b) (length (fulls m n ps))
    go false b x y = refl
    go true false x y = refl
    go true true x y =
        let level : within m n (get_or ps i 0) ≡ true = all-at (λ p. within m n p) ps i 0 x l in
        let short : length (full m n (get_or ps i 0)) ≤ room - count =
        omega (
          arith,
          leb-true (length (fulls m n ps)) room y,
          length-each-take (λ p. full m n p) ps (i + 1),
          ap length (each-take-more (λ p. full m n p) ps i 0 l),
          length-append (fulls m n (take i ps)) (full m n (get_or ps i 0)),
        )
        in
        let fits : measured m n (room - count) (get_or ps i 0) ≡ Some (length (full m n (get_or ps i 0))) =
        rw (level, le-leb (length (full m n (get_or ps i 0))) (room - count) short)
        in
        absurd (none-some (length (full m n (get_or ps i 0))) (sym e ∙ fits))
