-- The mapping of the entries of the table of a sequence of lines is what the accepted lines give: "Built tables hold exactly the
-- mappings of the accepted lines."
-- Assumes nothing.
use mathlib.Core.Path.{◌≡◌, refl, sym, ◌∙◌, ap}
use Prim.Native.Nat.{ℕ, ◌+◌, ◌<◌}
use native.Mathlib.Omega.{arith}
use mathlib.Core.Bool.{Bool, true, false, cond}
use Rattle.std.specs.Prelude.{Option, None, Some}
use mathlib.Core.List.{List, [], ◌∷◌, ◌++◌}
use lib.Dec.{eqb}
use borrow.Author.Tests.{eqb-true, eq-eqb, ne_eqb}
use Rattle.table.specs.Table.{Table, title_of, entry_parts, entry_mapping}
use Rattle.ucd.specs.Lines.{Properties, says_nothing}
use Rattle.builder.specs.Builder.{Built, moved, appended, added, accepted, add_line, add_lines}
use Rattle.builder.specs.Built.{start_of, cut, Accepted, and_given, accepted_of, itself, properties_of, properties_mapping}
use Rattle.builder.proofs.Refusals.{accepted-some, passes}
use Rattle.builder.proofs.Adding.{add_line-accepted, add_line-none}
use Rattle.builder.proofs.Grown.{Grown, grown-start}
use Rattle.builder.proofs.BuiltForm.{grown-add_line, grown-add_lines}
use Rattle.builder.proofs.TableProperties.{table_properties, table_properties-above, table_properties-added}

-- the properties that the table so far gives a code point
abbrev built_properties : Built → ℕ → Properties
built_properties b c = table_properties (cut b) c

-- ---- a line

next-added : (b : Built) (p : Properties) → (added b p).state.next ≡ p.code + 1
next-added b p = go (says_nothing p)
  where
    go : (t : Bool) → (cond t (moved b p) (appended b p)).state.next ≡ p.code + 1
    go true = refl
    go false = refl

module _ (b : Built) (line : List ℕ) (p : Properties) (taken : accepted b line ≡ Some p) where
  -- the next code point after an accepted line
  next-accepted : (add_line b line).state.next ≡ p.code + 1
  next-accepted = ap (λ (x : Built). x.state.next) (add_line-accepted b line p taken) ∙ next-added b p

  -- of its code point the table has what it gives, of the others what it had before
  built_properties-accepted : Grown b → (c : ℕ)
      → built_properties (add_line b line) c ≡ cond (eqb p.code c) p (built_properties b c)
  built_properties-accepted g c =
      ap (λ (x : Built). built_properties x c) (add_line-accepted b line p taken)
      ∙ table_properties-added b p g (passes b line p taken) c

-- ---- a sequence of lines

-- the properties of a code point, and else a given value
properties_else : Properties → List Properties → ℕ → Properties
properties_else d [] c = d
properties_else d (p ∷ ps) c = cond (eqb p.code c) p (properties_else d ps c)

properties_of-else : (ps : List Properties) (c : ℕ) → properties_of ps c ≡ properties_else (itself c) ps c
unfolding properties_of properties_else
properties_of-else [] c = refl
properties_of-else (p ∷ ps) c = ap (cond (eqb p.code c) p) (properties_of-else ps c)

-- accepted lines give nothing to a code point below the next
accepted_of-below : (b : Built) (lines : List (List ℕ)) (d : Properties) (c : ℕ) → c < b.state.next
    → properties_else d (accepted_of b lines) c ≡ d
unfolding accepted_of properties_else
accepted_of-below b [] d c h = refl
accepted_of-below b (line ∷ lines) d c h = go (accepted b line) refl (accepted_of-below (add_line b line) lines d c)
  where
    go : (o : Option Properties) → accepted b line ≡ o
        → (c < (add_line b line).state.next → properties_else d (accepted_of (add_line b line) lines) c ≡ d)
        → properties_else d (and_given o (accepted_of (add_line b line) lines)) c ≡ d
    go None e rest = rest (rw (add_line-none b line e) h)
    go (Some p) e rest =
        let above = (passes b line p e).next in
        rw (ne_eqb p.code c (λ s. omega arith)) (rest (omega (arith, next-accepted b line p e)))

-- after the lines the table has what the accepted ones give, and else what it had before
built_properties-lines : (b : Built) (lines : List (List ℕ)) (c : ℕ) → Grown b
    → built_properties (add_lines b lines) c ≡ properties_else (built_properties b c) (accepted_of b lines) c
unfolding add_lines accepted_of properties_else
built_properties-lines b [] c g = refl
built_properties-lines b (line ∷ lines) c g =
    built_properties-lines (add_line b line) lines c (grown-add_line b line g) ∙ go (accepted b line) refl
  where
    rest : List Properties
    rest = accepted_of (add_line b line) lines

    one : (p : Properties) → accepted b line ≡ Some p → (t : Bool) → eqb p.code c ≡ t
        → properties_else (built_properties (add_line b line) c) rest c ≡ cond t p (properties_else (built_properties b c) rest c)
    one p e true f =
        let below : c < (add_line b line).state.next = omega (arith, next-accepted b line p e, eqb-true p.code c f) in
        accepted_of-below (add_line b line) lines (built_properties (add_line b line) c) c below
        ∙ built_properties-accepted b line p e g c
        ∙ rw f
    one p e false f = ap (λ (d : Properties). properties_else d rest c) (built_properties-accepted b line p e g c ∙ rw f)

    go : (o : Option Properties) → accepted b line ≡ o
        → properties_else (built_properties (add_line b line) c) rest c ≡ properties_else (built_properties b c) (and_given o rest) c
    go None e = ap (λ (x : Built). properties_else (built_properties x c) rest c) (add_line-none b line e)
    go (Some p) e = one p e (eqb p.code c) refl

-- ---- from the fresh state

module _ (t : Table) (lines : List (List ℕ)) where
  built_properties-built : (c : ℕ) → built_properties (add_lines (start_of t) lines) c ≡ properties_of (accepted_of (start_of t) lines) c
  built_properties-built c =
      built_properties-lines (start_of t) lines c (grown-start t)
      ∙ ap (λ (d : Properties). properties_else d (accepted_of (start_of t) lines) c)
      (table_properties-above (start_of t) (grown-start t) c (omega arith))
      ∙ sym (properties_of-else (accepted_of (start_of t) lines) c)

  -- the entries of a built table, cut to what is used, have the mapping that the accepted lines mean
  pub entry_mapping-built : entry_mapping (cut (add_lines (start_of t) lines)) ≡ properties_mapping (accepted_of (start_of t) lines)
  entry_mapping-built = λ i. record {
    title = λ c. (built_properties-built c i).title;
    parts = λ c. (built_properties-built c i).parts;
  }

-- ---- line by line

add_lines-append : (b : Built) (xs ys : List (List ℕ)) → add_lines b (xs ++ ys) ≡ add_lines (add_lines b xs) ys
unfolding add_lines
add_lines-append b [] ys = refl
add_lines-append b (x ∷ xs) ys = add_lines-append (add_line b x) xs ys

-- the table has an accepted line's properties, whatever follows
built_properties-line : (b : Built) (line : List ℕ) (p : Properties) (after : List (List ℕ)) → Grown b → accepted b line ≡ Some p
    → built_properties (add_lines b (line ∷ after)) p.code ≡ p
unfolding add_lines
built_properties-line b line p after g taken =
    built_properties-lines (add_line b line) after p.code (grown-add_line b line g)
    ∙ accepted_of-below (add_line b line) after (built_properties (add_line b line) p.code) p.code
    (omega (arith, next-accepted b line p taken))
    ∙ built_properties-accepted b line p taken g p.code
    ∙ rw (eq-eqb p.code p.code refl)

built_properties-among : (t : Table) (lines : List (List ℕ)) (line : List ℕ) (p : Properties) → Accepted (start_of t) lines line p
    → built_properties (add_lines (start_of t) lines) p.code ≡ p
built_properties-among t lines line p a =
    let b = add_lines (start_of t) a.before in
    ap (λ (ls : List (List ℕ)). built_properties (add_lines (start_of t) ls) p.code) a.split
    ∙ ap (λ (x : Built). built_properties x p.code) (add_lines-append (start_of t) a.before (line ∷ a.after))
    ∙ built_properties-line b line p a.after (grown-add_lines (start_of t) a.before (grown-start t))
    (rw a.unrefused a.given)

-- one line more before an accepted line
accepted-later : (b : Built) (first : List ℕ) {lines : List (List ℕ)} {line : List ℕ} {p : Properties}
    → Accepted (add_line b first) lines line p → Accepted b (first ∷ lines) line p
unfolding add_lines
accepted-later b first a = record {
  before = first ∷ a.before;
  after = a.after;
  split = ap (λ (ls : List (List ℕ)). first ∷ ls) a.split;
  unrefused = a.unrefused;
  given = a.given;
}

-- the first line, if it is accepted
accepted-first : (b : Built) (first : List ℕ) (lines : List (List ℕ)) (p : Properties) → accepted b first ≡ Some p
    → Accepted b (first ∷ lines) first p
unfolding add_lines
accepted-first b first lines p e =
    let a = accepted-some b first p e in
    record { before = []; after = lines; split = refl; unrefused = a.0; given = a.1 }

-- a code point that no accepted line has is itself
accepted_of-other : (b : Built) (lines : List (List ℕ)) (c : ℕ)
    → ((line : List ℕ) (p : Properties) → Accepted b lines line p → p.code ≡ c → ⊥)
    → properties_of (accepted_of b lines) c ≡ itself c
unfolding accepted_of properties_of
accepted_of-other b [] c h = refl
accepted_of-other b (first ∷ lines) c h =
    go (accepted b first) refl (accepted_of-other (add_line b first) lines c (λ line p a. h line p (accepted-later b first a)))
  where
    go : (o : Option Properties) → accepted b first ≡ o
        → properties_of (accepted_of (add_line b first) lines) c ≡ itself c
        → properties_of (and_given o (accepted_of (add_line b first) lines)) c ≡ itself c
    go None e rest = rest
    go (Some p) e rest = rw (ne_eqb p.code c (h first p (accepted-first b first lines p e))) rest

module _ (t : Table) (lines : List (List ℕ)) where
  -- of the code point of an accepted line, the entries of a built table have the titlecase and the parts that the line gives
  pub built-line : (line : List ℕ) (p : Properties)
      → Accepted (start_of t) lines line p
      → (title_of (cut (add_lines (start_of t) lines)).entries p.code ≡ p.title)
      × (entry_parts (cut (add_lines (start_of t) lines)) p.code ≡ p.parts)
  built-line line p a =
      let e = built_properties-among t lines line p a in
      (ap (λ (q : Properties). q.title) e, ap (λ (q : Properties). q.parts) e)

  -- a code point that no accepted line has is its own titlecase and has no parts
  pub built-other : (c : ℕ)
      → ((line : List ℕ) (p : Properties) → Accepted (start_of t) lines line p → p.code ≡ c → ⊥)
      → (title_of (cut (add_lines (start_of t) lines)).entries c ≡ c)
      × (entry_parts (cut (add_lines (start_of t) lines)) c ≡ [])
  built-other c h =
      let e = built_properties-built t lines c ∙ accepted_of-other (start_of t) lines c h in
      (ap (λ (q : Properties). q.title) e, ap (λ (q : Properties). q.parts) e)
