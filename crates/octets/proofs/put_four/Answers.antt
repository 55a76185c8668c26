-- `octets::put_four` meets its contract: four stores write the four octets that were read.
-- Assumes nothing.
use mathlib.Core.Path.{◌≡◌, ◌∙◌}
use Prim.Native.Nat.{ℕ, suc, ◌+◌, ◌≤◌}
use native.Mathlib.Omega.{arith}
use mathlib.Core.List.{List, [], ◌∷◌, append_assoc}
use lib.ListN.{length, take, drop, get_or, set}
use lib.Seq.{drop-cons, drop-drop, sets-eq}
use Rattle.terms.specs.Lists.{put_at}
use Rattle.octets.proofs.put_four.Goals as goal

-- the stores, one after another
stores : (octets : List ℕ) (at : ℕ) (out : List ℕ) → at + 4 ≤ length octets
    → length octets ≤ length out
    → set
    (set (set (set out at (get_or octets at 0)) (at + 1) (get_or octets (at + 1) 0)) (at + 2) (get_or octets (at + 2) 0))
    (at + 3)
    (get_or octets (at + 3) 0)
    ≡ put_at at (take 4 (drop at octets)) out
stores octets at out h l =
    let one : at + 1 ≡ suc at = omega arith in
    let two : at + 2 ≡ suc (suc at) = omega arith in
    let three : at + 3 ≡ suc (suc (suc at)) = omega arith in
    rw (
      one,
      two,
      three,
      drop-cons octets at 0 (omega arith),
      drop-cons octets (suc at) 0 (omega arith),
      drop-cons octets (suc (suc at)) 0 (omega arith),
      drop-cons octets (suc (suc (suc at))) 0 (omega arith),
    )
    (sets-eq
    (get_or octets at 0
    ∷ get_or octets (suc at) 0
    ∷ get_or octets (suc (suc at)) 0
    ∷ get_or octets (suc (suc (suc at))) 0
    ∷ [])
    out
    at
    (omega arith)
    ∙ simp (append_assoc, drop-drop))

-- the four octets
pub returns : goal.returns
returns c =
    let s = c in
    stores s.args.octets.now s.args.at s.args.out.now s.requires.at_in_bounds s.requires.octets_in_bounds
