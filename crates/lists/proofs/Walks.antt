-- Walking over the names of a list: sizing their keys, and putting them into the store one after another.
-- Assumes nothing.
use mathlib.Core.Path.{◌≡◌, sym, ap, ◌∙◌}
use Prim.Native.Nat.{ℕ, ◌+◌, ◌-◌, ◌≤◌, ◌<◌}
use native.Mathlib.Omega.{arith}
use Rattle.std.specs.Prelude.{None}
use mathlib.Core.List.{List, ◌∷◌, ◌++◌, map}
use lib.ListN.{length, take, drop, set, length-append, length-map, length-drop}
use lib.Seq.{length-take-le}
use Rattle.terms.specs.Lists.{each}
use Rattle.terms.specs.Refusals.{text_most}
use Rattle.records.specs.Items.{list_rules, of_text}
use Rattle.octets.specs.Put.{Puts}
use Rattle.records.proofs.Steps.{read_at-next}
use Rattle.storing.specs.Stored.{joined, PutsKeys}
use Rattle.storing.proofs.Putting.{Putting, putting-start, putting-room, putting-place, putting-more, putting-done}
use Rattle.lists.specs.Names.{names_from, names_in, fault_from, list_fault}
use Rattle.lists.specs.Promises.{NameRead}
use Rattle.lists.specs.declared.names.NamePlace.{NamePlace}
use Rattle.lists.proofs.Steps.{names-end, names-name, fault-name}

module _ (key : List ℕ → List ℕ) (list : List ℕ) where
  -- the keys of the names from a position on
  abbrev pub keys_at : ℕ → List (List ℕ)
  keys_at p = map key (names_from list p)

  -- the list is walked over up to a position
  pub record Walking (p : ℕ) : Type 0 where
    pub inside : p ≤ length list
    pub whole : fault_from list p ≡ None

  pub walking_start : list_fault list ≡ None → Walking 0
  walking_start e = record { inside = omega arith; whole = e }

  module _ {p : ℕ} (w : Walking p) (r : NamePlace) (n : NameRead list p r) where
    -- the name that was read
    abbrev pub name : List ℕ
    name = take (r.end.0 - r.start.0) (drop r.start.0 list)

    pub walking-more : Walking r.end.0
    walking-more = record {
      inside = n.within;
      whole = sym (fault-name list p w.inside (of_text name) r.end.0 n.read) ∙ w.whole;
    }

    pub walking-onward : p < r.end.0
    walking-onward = omega (arith, (read_at-next list_rules list p r.end.0 (of_text name) n.read).0)

    pub name-short : length name ≤ text_most
    name-short =
        omega (
          arith,
          length-take-le (r.end.0 - r.start.0) (drop r.start.0 list)
              (omega (arith, length-drop r.start.0 list, n.forward, n.within)),
          n.short,
        )

    keys-name : keys_at p ≡ key name ∷ keys_at r.end.0
    keys-name = ap (map key) (names-name list p w.inside name r.end.0 n.read)

    joined-name : joined (keys_at p) ≡ key name ++ joined (keys_at r.end.0)
    unfolding each
    joined-name = ap joined keys-name

    pub long-name : length (joined (keys_at p)) ≡ length (key name) + length (joined (keys_at r.end.0))
    long-name = ap length joined-name ∙ length-append (key name) (joined (keys_at r.end.0))

    -- ---- sizing

    pub sized-more : (size : ℕ) {all : ℕ} → size + length (joined (keys_at p)) ≡ all
        → size + length (key name) + length (joined (keys_at r.end.0)) ≡ all
    sized-more size e = omega (arith, long-name)

  pub sized-done : (p size : ℕ) {all : ℕ} → p ≡ length list → size + length (joined (keys_at p)) ≡ all → size ≡ all
  unfolding each
  sized-done p size e h = omega (arith, ap (λ (ts : List (List ℕ)). length (joined (map key ts))) (names-end list p e))

  -- ---- putting

  -- the list is walked over up to a position, and the keys before it are put
  pub record PuttingNames (from : ℕ) (store₀ : List ℕ) (index : ℕ) (ends₀ : List ℕ) (p last i : ℕ)
      (store ends : List ℕ) : Type 0 where
    pub walking : Walking p
    pub putting : Putting (keys_at 0) from store₀ index ends₀ (keys_at p) last i store ends

  pub names-start : (from : ℕ) (store : List ℕ) (index : ℕ) (ends : List ℕ) → list_fault list ≡ None
      → PuttingNames from store index ends 0 from index store ends
  names-start from store index ends e = record {
    walking = walking_start e;
    putting = putting-start (keys_at 0) from store index ends;
  }

  module _ {from index p last i : ℕ} {store₀ ends₀ store ends : List ℕ}
      (w : PuttingNames from store₀ index ends₀ p last i store ends)
      (fits : from + length (joined (keys_at 0)) ≤ length store₀)
      (room : index + length (names_in list) ≤ length ends₀) where
    -- as many keys as names
    keys-room : index + length (keys_at 0) ≤ length ends₀
    keys-room = omega (arith, length-map (names_in list) key)

    module _ (r : NamePlace) (n : NameRead list p r) where
      pub names-room : last + length (key (name w.walking r n)) ≤ length store
      names-room = putting-room w.putting fits keys-room (key (name w.walking r n)) (keys_at r.end.0)
          (keys-name w.walking r n)

      pub names-place : i < length ends
      names-place = putting-place w.putting fits keys-room (key (name w.walking r n)) (keys_at r.end.0)
          (keys-name w.walking r n)

      pub names_more : (long : ℕ) (part : List ℕ) → Puts (key (name w.walking r n)) (drop last store) long part
          → PuttingNames from store₀ index ends₀ r.end.0 (last + long) (i + 1) (take last store ++ part)
          (set ends i (last + long))
      names_more long part put = record {
        walking = walking-more w.walking r n;
        putting = putting-more w.putting fits keys-room (key (name w.walking r n)) (keys_at r.end.0)
            (keys-name w.walking r n) long part put;
      }

    -- all are put
    pub names-done : p ≡ length list → PutsKeys (keys_at 0) from store₀ index ends₀ last store ends
    names-done e = putting-done w.putting fits keys-room (ap (map key) (names-end list p e))
