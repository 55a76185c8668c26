-- A reader that goes on goes on below a higher bound too, in a buffer of the same length.
-- Assumes nothing.
use mathlib.Core.Path.{◌≡◌}
use Prim.Native.Nat.{ℕ, ◌≤◌}
use native.Mathlib.Omega.{arith}
use Rattle.pairs.specs.Reading.{Stands, Goes, Nexts, Steps}
use Rattle.pairs.specs.declared.reader.Reader.{Reader}
use Rattle.pairs.specs.declared.reader.Next.{Next}
use Rattle.pairs.specs.declared.reader.Next.TheVariants.{Line, Long, Failed, End}
use Rattle.pairs.specs.declared.reader.Step.{Step}
use Rattle.pairs.specs.declared.reader.Step.TheVariants.{Answer, More}

-- a reader within a buffer is within one of the same length
pub stands_same : (n m : ℕ) (r : Reader) → n ≡ m → Stands n r → Stands m r
stands_same n m r e s = record { seen = s.seen; read = s.read; within = omega (arith, s.within) }

-- a reader within no buffer at all is within any
pub stands-anywhere : (n : ℕ) (r : Reader) → Stands 0 r → Stands n r
stands-anywhere n r s = record { seen = s.seen; read = s.read; within = omega (arith, s.within) }

module _ (n m a b : ℕ) (same : n ≡ m) (below : a ≤ b) where
  -- where a reader goes on
  pub goes_on : (r : Reader) → Goes n a r → Goes m b r
  goes_on r g = record { stands = stands_same n m r same g.stands; falls = omega (arith, g.falls) }

  -- what comes next
  pub nexts-on : (x : Next) → Nexts n a x → Nexts m b x
  nexts-on (Line start end r) (p, g) = (record { ordered = p.ordered; within = omega (arith, p.within) }, goes_on r g)
  nexts-on (Long r) g = goes_on r g
  nexts-on (Failed r) g = goes_on r g
  nexts-on End g = g

  -- what a step comes to
  pub steps_on : (s : Step) → Steps n a s → Steps m b s
  steps_on (Answer x) g = nexts-on x g
  steps_on (More r) g = goes_on r g
