-- A key that was first written beside: it stands there whole, and what is put from there is the key in its buffer.
-- Assumes nothing.
use Rattle.std.specs.Prelude.{None}
use mathlib.Core.Path.{◌≡◌, refl, sym}
use Prim.Native.Nat.{ℕ, zero-le, ◌≤◌}
use native.Mathlib.Omega.{arith}
use mathlib.Core.Bool.{Bool, true, false, cond, true≢false}
use mathlib.Core.List.{List}
use lib.ListN.{length, take, drop, length-append}
use lib.Seq.{take-append_seam}
use borrow.Author.Tests.{ltb-false}
use Rattle.terms.specs.Lists.{over}
use Rattle.terms.specs.declared.Collation.{Collation}
use Rattle.terms.specs.declared.Collation.TheVariants.{Octet, AsciiCasemap, UnicodeCasemap}
use Rattle.terms.proofs.Checks.{when-none}
use Rattle.keys.specs.Keys.{PreparedText, keyed}
use Rattle.keys.specs.Summaries.{KeyFilled}
use Rattle.keys.specs.declared.Summary.{Summary}
use Rattle.prepare.specs.Promises.{needed_at, room_needed, brief}
use Rattle.prepare.proofs.Rooms.{needed-room_for}

-- a text is brief under collation 3 alone
pub brief-unicode : (k : Collation) (n : ℕ) → brief k n ≡ true → k ≡ UnicodeCasemap
brief-unicode Octet n e = absurd (true≢false (sym e))
brief-unicode AsciiCasemap n e = absurd (true≢false (sym e))
brief-unicode UnicodeCasemap n e = refl

-- a key that passes 8 has as many octets as it needs
pub needed-enough : (place room : ℕ) (s : Summary) → room_needed place room s ≡ None
    → needed_at s.place s.key_length ≤ room
needed-enough place room s e = ltb-false room (needed_at s.place s.key_length) (when-none _ _ e)

-- as many octets as a key needs are there once it was written
written-long : (b : Bool) (key spare : List ℕ) → cond b (length key) 0 ≤ length (cond b (over key spare) spare)
written-long true key spare = omega (arith, length-append key (drop (length key) spare))
written-long false key spare = zero-le

-- and they are the key
written-put : (b : Bool) (key spare buffer : List ℕ)
    → over (take (cond b (length key) 0) (cond b (over key spare) spare)) buffer ≡ cond b (over key buffer) buffer
written-put true key spare buffer = rw (take-append_seam key (drop (length key) spare))
written-put false key spare buffer = refl

module _ {p : PreparedText} {spare : List ℕ} {s : Summary} {beside : List ℕ} (h : KeyFilled p spare s beside) where
  -- the key stands beside
  pub beside_long : needed_at s.place s.key_length ≤ length beside
  beside_long = rw (needed-room_for p s h.numbers, h.left) (written-long p.buffered p.key spare)

  -- put from there, it is the key in its buffer
  pub beside-put : (buffer : List ℕ) → over (take (needed_at s.place s.key_length) beside) buffer ≡ keyed p buffer
  beside-put buffer = rw (needed-room_for p s h.numbers, h.left) (written-put p.buffered p.key spare buffer)
