-- Calls on many texts: what passed checks say, what is left of the refusal where some were passed, and answers.
-- Assumes nothing.
use mathlib.Core.Path.{◌≡◌, refl, sym, ap, ◌∙◌}
use Prim.Native.Nat.{ℕ, ◌-◌, ◌≤◌, ◌<◌}
use Rattle.std.specs.Prelude.{Option, None, Some, Ok, Err}
use mathlib.Core.List.{List, [], ◌∷◌}
use lib.ListN.{length, get_or}
use borrow.Author.Tests.{ltb-false}
use Rattle.terms.specs.Lists.{lowest}
use Rattle.terms.specs.Refusals.{text_most, first}
use Rattle.terms.specs.declared.Collation.{Collation}
use Rattle.terms.specs.declared.Refusal.{Refusal}
use Rattle.terms.proofs.Checks.{first-none, or_else-none}
use Rattle.terms.proofs.Lowest.{lowest-none}
use Rattle.pages.specs.Pages.{Pages}
use Rattle.prepare.specs.Calls.{lookup_check, pages_by}
use Rattle.sorting.specs.KeyOrder.{start_of}
use Rattle.storing.proofs.Ending.{string_at-none, ends-few, ends-passed}
use Rattle.many.specs.Many.{Batch, ManyCall, many_keys, many_valid, long_text, texts_checks, rooms_refusal, ready_refusal}
use Rattle.many.specs.Many.{many_refusal, slices_after, pages_after, PreparesMany}
use Rattle.many.specs.Promises.{Texts, PutsMany}

-- ---- the checks that were passed

module _ (o : Option Collation) (octets ends : List ℕ) (passed : None ≡ first (texts_checks o (length octets) ends)) where
  checks-none : (i : ℕ) → get_or (texts_checks o (length octets) ends) i None ≡ None
  checks-none = first-none (texts_checks o (length octets) ends) (sym passed)

  short : (i : ℕ) → i < length ends → get_or ends i 0 - start_of ends i ≤ text_most
  short i h =
      ltb-false text_most (get_or ends i 0 - start_of ends i)
      (lowest-none (long_text ends) (length ends) (string_at-none 2 (lowest (long_text ends) (length ends)) (checks-none 2)) i h)

  -- the texts are as they must be
  pub texts-passed : Texts octets ends
  texts-passed = record {
    sound = ends-passed octets ends (checks-none 1);
    few = ends-few (length octets) ends (checks-none 1);
    short = short;
  }

-- ---- the refusal of a call

module _ (c : ManyCall) where
  -- 1, 14, 36 and 2 first
  pub refused-texts : {r : Refusal} → Some r ≡ first (texts_checks c.collation (length c.octets) c.ends)
      → many_refusal c ≡ Some r
  unfolding many_refusal
  refused-texts e = rw (← e) refl

  -- and the pages stay then
  pub paged-texts : {r : Refusal} → Some r ≡ first (texts_checks c.collation (length c.octets) c.ends)
      → c.pages ≡ pages_after c
  paged-texts e = rw (← e) refl

  module _ (texts : None ≡ first (texts_checks c.collation (length c.octets) c.ends)) where
    -- then 3 to 7 and 15
    pub refused-lookup : {r : Refusal} → lookup_check c.collation c.table c.pages ≡ Some r → many_refusal c ≡ Some r
    unfolding many_refusal
    refused-lookup e = rw (← texts, e) refl

    -- before any key is looked at these are left
    pub ready-lookup : ready_refusal c ≡ lookup_check c.collation c.table c.pages
    ready-lookup = rw (← texts) (or_else-none (lookup_check c.collation c.table c.pages))

    -- and the pages go by them
    pub paged-lookup : {q : Pages} → q ≡ pages_by (lookup_check c.collation c.table c.pages) c.collation c.table c.pages
        → q ≡ pages_after c
    paged-lookup e = e ∙ ap (λ (x : Option Refusal). pages_by x c.collation c.table c.pages) (sym ready-lookup)

    -- then 8
    pub refused-rooms : lookup_check c.collation c.table c.pages ≡ None → many_refusal c ≡ rooms_refusal c
    unfolding many_refusal
    refused-rooms e = rw (← texts, e) (or_else-none (rooms_refusal c))

-- ---- answers

-- a refusal: the slices stay
pub many-refused : {x : Option Refusal} (c : ManyCall) (r : Refusal) → x ≡ Some r
    → PreparesMany x c (Err r) (c.store ∷ c.key_ends ∷ c.valid ∷ [])
many-refused c r e = rw e (record { answered = refl; left = refl })

-- the same call with what is left of its refusal
pub many-same : {x y : Option Refusal} {c : ManyCall} {r : Batch} {after : List (List ℕ)} → x ≡ y → PreparesMany y c r after
    → PreparesMany x c r after
many-same e s = rw e s

-- a call with other pages
abbrev pub repaged : ManyCall → Pages → ManyCall
repaged c p = record {
  collation = c.collation;
  octets = c.octets;
  ends = c.ends;
  table = c.table;
  pages = p;
  store = c.store;
  key_ends = c.key_ends;
  valid = c.valid;
}

-- answers alike
pub many-repaged : {x : Option Refusal} (c : ManyCall) (p : Pages) {r : Batch} {after : List (List ℕ)}
    → PreparesMany x (repaged c p) r after → PreparesMany x c r after
many-repaged {x} c p h = record { answered = h.answered; left = h.left ∙ slices x }
  where
    slices : (y : Option Refusal) → slices_after y (repaged c p) ≡ slices_after y c
    slices None = refl
    slices (Some r) = refl

-- keys
pub many-prepared : {x : Option Refusal} (c : ManyCall) (n : ℕ) {store key_ends valid : List ℕ} → x ≡ None
    → PutsMany (many_keys c) (many_valid c) c.store c.key_ends c.valid n store key_ends valid
    → PreparesMany x c (Ok n) (store ∷ key_ends ∷ valid ∷ [])
many-prepared c n e p = rw e (record { answered = cc p.size; left = cc (p.stored, p.ended, p.checked) })
