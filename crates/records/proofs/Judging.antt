-- What reading makes of a kind and a body, by cases.
-- Assumes nothing.
use mathlib.Core.Path.{◌≡◌}
use Prim.Native.Nat.{ℕ, ◌-◌, ◌≤◌, ◌<◌}
use mathlib.Core.Bool.{true, false}
use mathlib.Core.List.{List}
use lib.ListN.{length, drop, length-drop}
use borrow.Author.Tests.{le-leb, lt-leb}
use Rattle.terms.specs.Refusals.{refusal}
use Rattle.records.specs.Items.{Rules, of_key, among, key_fits}
use Rattle.records.specs.Reading.{stopped, item, kind_in, body_in, fields_in, item_in, judged, read_following}

-- ---- the body of a key

module _ (r : Rules) (next : ℕ) (body : List ℕ) where
  -- below four octets
  pub judged-short : length body < 4 → judged r next (item_in 2 body) ≡ stopped (refusal 13 0 0)
  judged-short h = rw (lt-leb 4 (length body) h)

  module _ (four : 4 ≤ length body) where
    -- a key that fits
    pub judged-key : key_fits r (fields_in body) (length body - 4) ≡ true
        → judged r next (item_in 2 body) ≡ item (of_key (fields_in body) (drop 4 body)) next
    judged-key e = rw (le-leb 4 (length body) four, length-drop 4 body, e)

    -- and one that doesn't
    pub judged-unfit : key_fits r (fields_in body) (length body - 4) ≡ false
        → judged r next (item_in 2 body) ≡ stopped (refusal 13 0 0)
    judged-unfit e = rw (le-leb 4 (length body) four, length-drop 4 body, e)

-- ---- what follows the length, by its kind

module _ (r : Rules) (next : ℕ) (octets : List ℕ) where
  pub reads_known : (kind : ℕ) → among kind r.kinds ≡ true → kind_in octets ≡ kind
      → read_following r next octets ≡ judged r next (item_in kind (body_in octets))
  unfolding read_following
  reads_known kind known e = rw (e, known)

  pub reads-unknown : among (kind_in octets) r.kinds ≡ false → read_following r next octets ≡ stopped (refusal 12 0 0)
  unfolding read_following
  reads-unknown unknown = rw unknown
