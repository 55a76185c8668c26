-- What a passed check of room says, and what it is where there is room.
-- Assumes nothing.
use mathlib.Core.Path.{◌≡◌, refl, sym, ap}
use Prim.Native.Nat.{ℕ, ◌≤◌, ◌<◌}
use mathlib.Core.Bool.{◌||◌}
use Rattle.std.specs.Prelude.{None, Some}
use lib.Dec.{ltb}
use borrow.Author.Tests.{ltb-false, lt-ltb, le-ltb}
use Rattle.terms.specs.Refusals.{refusal}
use Rattle.terms.specs.declared.Refusal.{Refusal}
use Rattle.terms.proofs.Checks.{or_left, or_right, when-none}
use Rattle.storing.specs.Rooms.{store_check, arrays_check}

-- there is room
pub store-room : {room needed : ℕ} → None ≡ store_check room needed → needed ≤ room
store-room {room} {needed} e = ltb-false room needed (when-none (ltb room needed) (refusal 8 0 needed) (sym e))

pub arrays-room : (one two names : ℕ) → None ≡ arrays_check one two names → (names ≤ one) × (names ≤ two)
arrays-room one two names e =
    let neither = when-none (ltb one names || ltb two names) (refusal 8 0 names) (sym e) in (
      ltb-false one names (or_left (ltb one names) (ltb two names) neither),
      ltb-false two names (or_right (ltb one names) (ltb two names) neither),
    )

-- the store is long enough, or too short
pub store-enough : {room needed : ℕ} → needed ≤ room → None ≡ store_check room needed
store-enough {room} {needed} h = rw (le-ltb room needed h) refl

pub store-short : {x : Refusal} {room needed : ℕ} → room < needed → x ≡ refusal 8 0 needed → Some x ≡ store_check room needed
store-short {x} {room} {needed} h e = rw (lt-ltb room needed h) (ap Some e)
