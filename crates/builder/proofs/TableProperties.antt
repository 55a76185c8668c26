-- The properties that the entries of a grown table give a code point: its own where they are below it; and with one more line,
-- those of the line of its code point, and of the others what they were.
-- Assumes nothing.
use mathlib.Core.Path.{◌≡◌, refl, sym, ◌∙◌, ap, ap₂}
use Prim.Native.Nat.{ℕ, ◌≤◌, ◌<◌}
use native.Mathlib.Omega.{arith}
use mathlib.Core.Bool.{Bool, true, false, cond}
use Rattle.std.specs.Prelude.{Option, None, Some}
use mathlib.Core.List.{List, [], ◌∷◌}
use lib.Dec.{eqb}
use lib.ListN.{length, take, drop, length-drop}
use lib.Seq.{take-length, drop_at, take-append-le, drop-append-le}
use borrow.Author.Tests.{eqb-true}
use Rattle.terms.specs.Lists.{or_else, when}
use Rattle.terms.proofs.Tests.{both}
use Rattle.table.specs.Layout.{Entry, entry_count, start_at, count_at}
use Rattle.table.specs.Table.{Table, entry_of, title_in, title_of, parts_in, entry_parts}
use Rattle.table.proofs.Form.{formed-fits, entry_of-none, entry_of-some}
use Rattle.table.proofs.Appending.{title_at-before, start_at-before, count_at-before, title_at-last, start_at-last, count_at-last}
use Rattle.table.proofs.Appending.{entry_of-append}
use Rattle.ucd.specs.Lines.{Properties, says_nothing}
use Rattle.builder.specs.Builder.{Built, entry_for, appended, moved, added}
use Rattle.builder.specs.Built.{cut, itself}
use Rattle.builder.specs.Promises.{NextFits}
use Rattle.builder.proofs.Refusals.{Passes}
use Rattle.builder.proofs.Grown.{Grown, length-pool, pool-appended}
use Rattle.builder.proofs.BuiltForm.{entry_count-cut, grown-form}

-- the properties that the entries of a table give a code point
abbrev pub table_properties : Table → ℕ → Properties
table_properties t c = record { code = c; title = title_of t.entries c; parts = entry_parts t c }

-- the same by the entry that was found
abbrev properties_in : Table → ℕ → Option ℕ → Properties
properties_in t c o = record { code = c; title = title_in t.entries c o; parts = parts_in t o }

-- properties by their values
abbrev properties : ℕ → ℕ → List ℕ → Properties
properties c t ps = record { code = c; title = t; parts = ps }

-- no elements
length-zero : (xs : List ℕ) → length xs ≡ 0 → [] ≡ xs
length-zero [] e = refl
length-zero (x ∷ xs) e = absurd (omega arith)

-- properties that say nothing are the code point's own
itself-nothing : (p : Properties) → says_nothing p ≡ true → itself p.code ≡ p
itself-nothing p e =
    let h = both (eqb p.title p.code) (eqb (length p.parts) 0) e in
    ap₂ (properties p.code)
    (sym (eqb-true p.title p.code h.0))
    (length-zero p.parts (eqb-true (length p.parts) 0 h.1))

module _ (b : Built) (g : Grown b) where
  -- a code point above the entries has none
  entry_of-above : (c : ℕ) → b.state.next ≤ c → entry_of (cut b).entries c ≡ None
  entry_of-above c h =
      entry_of-none (cut b).entries c (λ i l e. omega (arith, g.below i (omega (arith, entry_count-cut g))))

  -- its properties are its own
  pub table_properties-above : (c : ℕ) → b.state.next ≤ c → table_properties (cut b) c ≡ itself c
  table_properties-above c h = ap (properties_in (cut b) c) (entry_of-above c h)

  module _ (p : Properties) (next : b.state.next ≤ p.code) where
    -- ---- a line that says nothing

    table_properties-moved : says_nothing p ≡ true
        → (c : ℕ) → table_properties (cut (moved b p)) c ≡ cond (eqb p.code c) p (table_properties (cut b) c)
    table_properties-moved nothing c = go (eqb p.code c) refl
      where
        go : (t : Bool) → eqb p.code c ≡ t → table_properties (cut b) c ≡ cond t p (table_properties (cut b) c)
        go true e =
            let same : c ≡ p.code = sym (eqb-true p.code c e) in
            rw same (table_properties-above p.code next ∙ itself-nothing p nothing)
        go false e = refl

    -- ---- a mapping

    module _ (room : NextFits b p) where
      abbrev n : ℕ
      n = b.state.entries_used

      abbrev e : Entry
      e = entry_for b.state p

      abbrev after : Table
      after = cut (appended b p)

      within : n < entry_count b.table.entries
      within = omega (arith, room.entries-held)

      -- by the new entry: the properties
      by_last : properties_in after p.code (Some n) ≡ p
      by_last =
          ap₂ (properties p.code)
          (title_at-last n e b.table.entries within)
          (ap₂ (λ (k s : ℕ). take k (drop s after.pool))
          (count_at-last n e b.table.entries within)
          (start_at-last n e b.table.entries within)
          ∙ ap (λ (l : List ℕ). take (length p.parts) (drop b.state.pool_used l)) (pool-appended b p room)
          ∙ ap (take (length p.parts)) (drop_at (cut b).pool p.parts b.state.pool_used (length-pool g))
          ∙ take-length p.parts)

      -- by an entry before: as before
      by-entry : (c i : ℕ) → i < n → properties_in after c (Some i) ≡ properties_in (cut b) c (Some i)
      by-entry c i h =
          let start = start_at (cut b).entries i in
          let count = count_at (cut b).entries i in
          let fits = formed-fits (cut b) (grown-form g) i (omega (arith, entry_count-cut g)) in
          let inside : count ≤ length (drop start (cut b).pool) = omega (arith, length-drop start (cut b).pool) in
          ap₂ (properties c)
          (title_at-before n e b.table.entries within i h)
          (ap₂ (λ (k s : ℕ). take k (drop s after.pool))
          (count_at-before n e b.table.entries within i h)
          (start_at-before n e b.table.entries within i h)
          ∙ ap (λ (l : List ℕ). take count (drop start l)) (pool-appended b p room)
          ∙ ap (take count) (drop-append-le start (cut b).pool p.parts (omega arith))
          ∙ take-append-le count (drop start (cut b).pool) p.parts inside)

      by_before : (c : ℕ) (o : Option ℕ) → entry_of (cut b).entries c ≡ o
          → properties_in after c (or_else o None) ≡ properties_in (cut b) c o
      by_before c None f = refl
      by_before c (Some i) f = by-entry c i (omega (arith, (entry_of-some (cut b).entries c i f).0, entry_count-cut g))

      table_properties-appended : (c : ℕ)
          → table_properties (cut (appended b p)) c ≡ cond (eqb p.code c) p (table_properties (cut b) c)
      table_properties-appended c =
          ap (properties_in after c) (entry_of-append n e b.table.entries within c) ∙ go (eqb p.code c) refl
        where
          go : (t : Bool) → eqb p.code c ≡ t
              → properties_in after c (or_else (entry_of (cut b).entries c) (when t n)) ≡ cond t p (table_properties (cut b) c)
          go true f =
              let same : c ≡ p.code = sym (eqb-true p.code c f) in
              rw (same, entry_of-above p.code next) by_last
          go false f = by_before c (entry_of (cut b).entries c) refl

-- with a line more: its properties of its code point, and of the others what they were
pub table_properties-added : (b : Built) (p : Properties) → Grown b → Passes b p
    → (c : ℕ) → table_properties (cut (added b p)) c ≡ cond (eqb p.code c) p (table_properties (cut b) c)
table_properties-added b p g ok c = go (says_nothing p) refl
  where
    go : (t : Bool) → says_nothing p ≡ t
        → table_properties (cut (cond t (moved b p) (appended b p))) c ≡ cond (eqb p.code c) p (table_properties (cut b) c)
    go true f = table_properties-moved b g p ok.next f c
    go false f = table_properties-appended b g p ok.next (ok.room f) c
