-- Calls on two lists: what is left of the refusal where some checks were passed, and answers that are a refusal or a report.
-- Assumes nothing.
use mathlib.Core.Path.{◌≡◌, refl, sym, ap, ◌∙◌}
use Prim.Native.Nat.{ℕ, zero, suc, ◌-◌, ◌*◌, ◌≤◌}
use native.Mathlib.Omega.{arith}
use Rattle.std.specs.Prelude.{Option, None, Some, Ok, Err}
use mathlib.Core.List.{List, [], ◌∷◌}
use lib.Dec.{ltb}
use lib.ListN.{length}
use borrow.Author.Tests.{ltb-false}
use Rattle.terms.specs.Lists.{total}
use Rattle.terms.specs.Refusals.{names_most, text_most, refusal, first}
use Rattle.terms.specs.declared.Collation.{Collation}
use Rattle.terms.specs.declared.Refusal.{Refusal}
use Rattle.terms.proofs.Checks.{when-none, first-none, or_else-none}
use Rattle.terms.proofs.Tests.{none-some}
use Rattle.pages.specs.Pages.{Pages}
use Rattle.prepare.specs.Calls.{lookup_check, pages_by}
use Rattle.records.specs.Items.{list_rules, of_text, of_key}
use Rattle.records.specs.Reading.{Reading, end, stopped, item, read_at}
use Rattle.records.proofs.Steps.{read_at-text}
use Rattle.lists.specs.Names.{name_and, read_on, names_from, names_in, list_fault}
use Rattle.lists.specs.Lists.{Shared, ListsCall, placed, names_checks, rooms_refusal}
use Rattle.lists.specs.Lists.{ready_refusal, lists_refusal, slices_after, pages_after, Shares, first_keys, second_keys}
use Rattle.lists.specs.Promises.{name_octets, octets_most, Counted, Named, Listed, Reports}
use Rattle.lists.specs.declared.names.NameCount.{NameCount}
use Rattle.partners.specs.declared.Totals.{Totals as Partnered}

-- ---- names are short

short-read : (steps : ℕ) (list : List ℕ) (p : ℕ)
    → total (λ t. length t) (read_on [] name_and steps list p) ≤ text_most * length (read_on [] name_and steps list p)
unfolding read_on total
short-read zero list p = omega arith
short-read (suc steps) list p = go (read_at list_rules list p) refl (short-read steps list)
  where
    go : (x : Reading) → read_at list_rules list p ≡ x
        → ((q : ℕ) → total (λ t. length t) (read_on [] name_and steps list q) ≤ text_most * length
        (read_on [] name_and steps list q))
        → total (λ t. length t) (name_and x (read_on [] name_and steps list)) ≤ text_most * length (name_and x
        (read_on [] name_and steps list))
    go end e rest = omega arith
    go (stopped y) e rest = omega arith
    go (item (of_text t) next) e rest = omega (arith, (read_at-text list_rules list p next t e).2, rest next)
    go (item (of_key f k) next) e rest = rest next

-- the octets of at most 1,024 names
pub octets-most : {list : List ℕ} {n : ℕ} → Named list n → name_octets list ≤ octets_most
unfolding names_from
octets-most {list} {n} m = omega (arith, short-read (length list - 0) list 0, m.names, m.most)

-- ---- the checks that were passed

placed-none : (place : ℕ) (o : Option Refusal) → placed place o ≡ None → o ≡ None
placed-none place None e = refl
placed-none place (Some x) e = absurd (none-some (refusal x.number place x.detail) (sym e))

module _ (o : Option Collation) (one two : List ℕ) (passed : None ≡ first (names_checks o one two)) where
  pub first-listed : (n : NameCount) → Counted one n → Listed one n
  first-listed n c = record {
    named = record {
      whole = placed-none 1 (list_fault one) (first-none (names_checks o one two) (sym passed) 1);
      names = c.names;
      most =
          omega (
            arith,
            c.names,
            ltb-false names_most (length (names_in one))
                (when-none (ltb names_most (length (names_in one))) (refusal 14 1 0) (first-none (names_checks o one two)
                (sym passed) 3)),
          );
    };
    octets = c.octets;
  }

  pub second-listed : (n : NameCount) → Counted two n → Listed two n
  second-listed n c = record {
    named = record {
      whole = placed-none 2 (list_fault two) (first-none (names_checks o one two) (sym passed) 2);
      names = c.names;
      most =
          omega (
            arith,
            c.names,
            ltb-false names_most (length (names_in two))
                (when-none (ltb names_most (length (names_in two))) (refusal 14 2 0) (first-none (names_checks o one two)
                (sym passed) 4)),
          );
    };
    octets = c.octets;
  }

-- ---- the refusal of a call

module _ (c : ListsCall) where
  -- 1 and 11 to 14 first
  pub refused-names : {r : Refusal} → Some r ≡ first (names_checks c.collation c.first_list
      c.second_list) → lists_refusal c ≡ Some r
  unfolding lists_refusal
  refused-names e = rw (← e) refl

  -- and the pages stay then
  pub paged-names : {r : Refusal} → Some r ≡ first (names_checks c.collation c.first_list c.second_list)
      → c.pages ≡ pages_after c
  paged-names e = rw (← e) refl

  module _ (names : None ≡ first (names_checks c.collation c.first_list c.second_list)) where
    -- then 3 to 7 and 15
    pub refused-lookup : {r : Refusal} → lookup_check c.collation c.table c.pages ≡ Some r → lists_refusal c ≡ Some r
    unfolding lists_refusal
    refused-lookup e = rw (← names, e) refl

    -- by which the pages go
    pub paged-lookup : {q : Pages} → q ≡ pages_by (lookup_check c.collation c.table c.pages) c.collation c.table c.pages
        → q ≡ pages_after c
    paged-lookup e =
        let ready : ready_refusal c ≡ lookup_check c.collation c.table c.pages =
        rw (← names) (or_else-none (lookup_check c.collation c.table c.pages)) in
        e ∙ ap (λ (x : Option Refusal). pages_by x c.collation c.table c.pages) (sym ready)

    -- then 8
    pub refused-rooms : lookup_check c.collation c.table c.pages ≡ None → lists_refusal c ≡ rooms_refusal c
    unfolding lists_refusal
    refused-rooms e = rw (← names, e) (or_else-none (rooms_refusal c))

-- ---- answers

-- a refusal: the slices stay
pub shares-refused : {x : Option Refusal} (c : ListsCall) (r : Refusal) → x ≡ Some r
    → Shares x c (Err r) (c.store ∷ c.partners ∷ c.positions ∷ [])
shares-refused c r e = rw e (record { answered = refl; left = refl })

-- the same call with what is left of its refusal
pub shares-same : {x y : Option Refusal} {c : ListsCall} {r : Shared} {after : List
    (List ℕ)} → x ≡ y → Shares y c r after → Shares x c r after
shares-same e s = rw e s

-- a call with other pages
abbrev pub repaged : ListsCall → Pages → ListsCall
repaged c p = record {
  collation = c.collation;
  first_list = c.first_list;
  second_list = c.second_list;
  table = c.table;
  pages = p;
  store = c.store;
  partners = c.partners;
  positions = c.positions;
}

-- answers alike
pub shares-repaged : {x : Option Refusal} (c : ListsCall) (p : Pages) {r : Shared} {after : List (List ℕ)}
    → Shares x (repaged c p) r after → Shares x c r after
shares-repaged {x} c p h = record { answered = h.answered; left = h.left ∙ slices x }
  where
    slices : (y : Option Refusal) → slices_after y (repaged c p) ≡ slices_after y c
    slices None = refl
    slices (Some r) = refl

-- a report
pub shares-found : {x : Option Refusal} (c : ListsCall) (t : Partnered) (n m : ℕ) {store partners positions : List ℕ}
    → x ≡ None
    → n ≡ length (names_in c.first_list)
    → m ≡ length (names_in c.second_list)
    → Reports (first_keys c) (second_keys c) c.store c.partners c.positions t store partners positions
    → Shares x c (Ok (record { first_names = n; second_names = m; equal_pairs = t.equal_pairs; partnered = t.partnered }))
    (store ∷ partners ∷ positions ∷ [])
shares-found c t n m e a b r =
    rw e
    (record {
      answered = cc (a, b, r.found.pairs, r.found.names);
      left = cc (r.stored, r.found.lowest, r.found.ordered);
    })
