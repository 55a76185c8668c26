-- The refusals of a call on two lists, by its row of checks and in words, and what was passed where it has none.
-- Assumes nothing.
use mathlib.Core.Path.{◌≡◌, refl, sym, ap, ◌∙◌}
use Prim.Native.Nat.{ℕ, ◌≤◌, ◌<◌}
use native.Mathlib.Omega.{arith}
use mathlib.Core.Bool.{Bool, true, false}
use mathlib.Core.Logic.{◌⊎◌, inl, inr}
use Rattle.std.specs.Prelude.{Option, None, Some}
use mathlib.Core.List.{List}
use lib.Dec.{ltb}
use lib.ListN.{length}
use borrow.Author.Tests.{ltb-true, ltb-false, lt-ltb, le-ltb}
use Rattle.terms.specs.Lists.{or_else}
use Rattle.terms.specs.Refusals.{refusal, check, first}
use Rattle.terms.specs.declared.Collation.{Collation}
use Rattle.terms.specs.declared.Collation.TheVariants.{Octet, AsciiCasemap, UnicodeCasemap}
use Rattle.terms.specs.declared.Refusal.{Refusal}
use Rattle.terms.proofs.Tests.{none-some}
use Rattle.decompose.specs.TableCheck.{table_refusal}
use Rattle.pages.specs.Pages.{short_pages}
use Rattle.prepare.specs.Calls.{lookup_check, pages_under}
use Rattle.lists.specs.Names.{names_in, list_fault}
use Rattle.storing.specs.Rooms.{arrays_check}
use Rattle.lists.specs.Lists.{ListsCall, all_keys, names_checks, lists_refusal}
use Rattle.lists.proofs.Sharing.{refused-lookup, refused-rooms}
use Rattle.demands.specs.Lists.{Names, Listed, ListsRefused, number-1, first-11-to-13, second-11-to-13, first-14}
use Rattle.demands.specs.Lists.{second-14, number-3-to-7, number-15, store-8, array-8}
use Rattle.demands.proofs.Numbers.{short-exactly}
use Rattle.demands.proofs.ListFaults.{names-are, faulty-is, names-there, faulty-there}

some_same : {x y : Refusal} → Some x ≡ Some y → x ≡ y
some_same e = cc

module _ (c : ListsCall) where
  -- ---- in words, from the checks

  listed : {ts us : List (List ℕ)} → Listed c ts us
      → (list_fault c.first_list ≡ None) × (list_fault c.second_list ≡ None) × (length (names_in c.first_list) ≤ 1024)
      × (length (names_in c.second_list) ≤ 1024) × (names_in c.first_list ≡ ts)
  listed l =
      let a = names-are l.first (omega arith) in
      let b = names-are l.second (omega arith) in
      (a.1, b.1, omega (arith, ap length a.0, l.first_most), omega (arith, ap length b.0, l.second_most), a.0)

  passes : {ts us : List (List ℕ)} → Listed c ts us → None ≡ first (names_checks c.collation c.first_list c.second_list)
  passes l =
      let f = listed l in
      rw (
        l.known,
        f.0,
        f.1,
        le-ltb 1024 (length (names_in c.first_list)) f.2,
        le-ltb 1024 (length (names_in c.second_list)) f.3,
      ) refl

  -- the words give the refusal
  pub refused-words : (x : Refusal) → ListsRefused c x → lists_refusal c ≡ Some x
  unfolding lists_refusal
  refused-words x (number-1 e) = rw e
  refused-words x (first-11-to-13 k y e f) = rw (e, faulty-is f (omega arith))
  refused-words x (second-11-to-13 k ts y e n f) = rw (e, (names-are n (omega arith)).1, faulty-is f (omega arith))
  refused-words x (first-14 k ts us e n m l) =
      let a = names-are n (omega arith) in
      rw (
        e,
        a.1,
        (names-are m (omega arith)).1,
        lt-ltb 1024 (length (names_in c.first_list)) (omega (
          arith,
          ap length
              a.0,
        )),
      )
  refused-words x (second-14 k ts us e n m s l) =
      let a = names-are n (omega arith) in
      let b = names-are m (omega arith) in
      rw (
        e,
        a.1,
        b.1,
        le-ltb 1024 (length (names_in c.first_list)) (omega (arith, ap length a.0)),
        lt-ltb 1024 (length (names_in c.second_list)) (omega (arith, ap length b.0)),
      )
  refused-words x (number-3-to-7 ts us y l k t) = refused-lookup c (passes l) (rw (k, t) refl)
  refused-words x (number-15 ts us l k t s) =
      refused-lookup c (passes l) (rw (k, t, (short-exactly c.pages).1 s) refl)
  refused-words x (store-8 ts us l t s) =
      refused-rooms c (passes l) t ∙ rw (lt-ltb (length c.store) (length (all_keys c)) s)
  refused-words x (array-8 ts us l t s a) =
      let names = (listed l).4 in
      refused-rooms c (passes l) t
      ∙ rw (le-ltb (length c.store) (length (all_keys c)) s, names) (short a)
    where
      short : (length c.partners < length ts) ⊎ (length c.positions < length ts)
          → or_else (arrays_check (length c.partners) (length c.positions) (length ts)) None ≡ Some (refusal 8 0
          (length ts))
      short (inl h) = rw (lt-ltb (length c.partners) (length ts) h)
      short (inr h) = go (ltb (length c.partners) (length ts)) refl
        where
          go : (b : Bool) → ltb (length c.partners) (length ts) ≡ b
              → or_else (arrays_check (length c.partners) (length c.positions) (length ts)) None ≡ Some (refusal 8 0
              (length ts))
          go true e = rw e
          go false e = rw (e, lt-ltb (length c.positions) (length ts) h)

  -- ---- every call has words, or passed

  abbrev Decided : Type 0
  Decided =
      ((lists_refusal c ≡ None) × Listed c (names_in c.first_list) (names_in c.second_list)) ⊎ ((x : Refusal) × ListsRefused c x)

  module _ (l : Listed c (names_in c.first_list) (names_in c.second_list)) where
    arrays-decided : lookup_check c.collation c.table c.pages ≡ None → length (all_keys c) ≤ length c.store
        → (a b : Bool)
        → ltb (length c.partners) (length (names_in c.first_list)) ≡ a
        → ltb (length c.positions) (length (names_in c.first_list)) ≡ b
        → Decided
    arrays-decided t s true b e f =
        inr (
          refusal 8 0 (length (names_in c.first_list)),
          array-8 (names_in c.first_list) (names_in c.second_list) l t s (inl (ltb-true _ _ e)),
        )
    arrays-decided t s false true e f =
        inr (
          refusal 8 0 (length (names_in c.first_list)),
          array-8 (names_in c.first_list) (names_in c.second_list) l t s (inr (ltb-true _ _ f)),
        )
    arrays-decided t s false false e f =
        inl (refused-rooms c (passes l) t ∙ rw (le-ltb (length c.store) (length (all_keys c)) s, e, f), l)

    store-decided : lookup_check c.collation c.table c.pages ≡ None → (b : Bool) → ltb (length c.store) (length
        (all_keys c)) ≡ b → Decided
    store-decided t true e =
        inr
        (refusal 8 0 (length (all_keys c)), store-8 (names_in c.first_list) (names_in c.second_list) l t (ltb-true _ _ e))
    store-decided t false e =
        arrays-decided t (ltb-false (length c.store) (length (all_keys c)) e)
        (ltb (length c.partners) (length (names_in c.first_list)))
        (ltb (length c.positions) (length (names_in c.first_list)))
        refl
        refl

    -- only collation 3 reads the table and the pages
    reads : (k : Collation) → c.collation ≡ Some k → (x : Refusal) → lookup_check c.collation c.table c.pages ≡ Some x
        → (c.collation ≡ Some UnicodeCasemap)
        × (or_else (table_refusal c.table) (pages_under UnicodeCasemap c.pages) ≡ Some x)
    reads Octet f x t = absurd (none-some x (rw f at t))
    reads AsciiCasemap f x t = absurd (none-some x (rw f at t))
    reads UnicodeCasemap f x t = (f, rw f at t)

    lookup-refused : (x : Refusal) → c.collation ≡ Some UnicodeCasemap → (o : Option Refusal) → table_refusal c.table ≡ o
        → or_else o (pages_under UnicodeCasemap c.pages) ≡ Some x → Decided
    lookup-refused x k (Some y) t e =
        inr (y, number-3-to-7 (names_in c.first_list) (names_in c.second_list) y l k t)
    lookup-refused x k None t e = go (short_pages c.pages) refl e
      where
        go : (b : Bool) → short_pages c.pages ≡ b → check b 15 0 0 ≡ Some x → Decided
        go true short f =
            inr (
              refusal 15 0 0,
              number-15 (names_in c.first_list) (names_in c.second_list) l k t ((short-exactly c.pages).0 short),
            )
        go false short f = absurd (none-some x f)

    lookup-decided : (o : Option Refusal) → lookup_check c.collation c.table c.pages ≡ o → Decided
    lookup-decided (Some x) e =
        let read = reads l.collation l.known x e in
        lookup-refused x read.0 (table_refusal c.table) refl read.1
    lookup-decided None e = store-decided e (ltb (length c.store) (length (all_keys c))) refl

  module _ (k : Collation) (e : c.collation ≡ Some k) where
    counts-decided : Names c.first_list 0 (names_in c.first_list) → Names c.second_list 0 (names_in c.second_list)
        → (a b : Bool)
        → ltb 1024 (length (names_in c.first_list)) ≡ a
        → ltb 1024 (length (names_in c.second_list)) ≡ b
        → Decided
    counts-decided n m true b f g =
        inr (refusal 14 1 0, first-14 k (names_in c.first_list) (names_in c.second_list) e n m (ltb-true _ _ f))
    counts-decided n m false true f g =
        inr (
          refusal 14 2 0,
          second-14 k (names_in c.first_list) (names_in c.second_list) e n m (ltb-false _ _ f) (ltb-true _ _ g),
        )
    counts-decided n m false false f g =
        lookup-decided
        (record {
          collation = k;
          known = e;
          first = n;
          second = m;
          first_most = ltb-false 1024 (length (names_in c.first_list)) f;
          second_most = ltb-false 1024 (length (names_in c.second_list)) g;
        })
        (lookup_check c.collation c.table c.pages)
        refl

    second-decided : list_fault c.first_list ≡ None → (o : Option Refusal) → list_fault c.second_list ≡ o → Decided
    second-decided w (Some x) f =
        inr (
          refusal x.number 2 x.detail,
          second-11-to-13 k (names_in c.first_list) x e (names-there c.first_list w) (faulty-there c.second_list x f),
        )
    second-decided w None f =
        counts-decided (names-there c.first_list w) (names-there c.second_list f)
        (ltb 1024 (length (names_in c.first_list)))
        (ltb 1024 (length (names_in c.second_list)))
        refl
        refl

    first-decided : (o : Option Refusal) → list_fault c.first_list ≡ o → Decided
    first-decided (Some x) f =
        inr (refusal x.number 1 x.detail, first-11-to-13 k x e (faulty-there c.first_list x f))
    first-decided None f = second-decided f (list_fault c.second_list) refl

  decided : (o : Option Collation) → c.collation ≡ o → Decided
  decided None e = inr (refusal 1 0 0, number-1 e)
  decided (Some k) e = first-decided k e (list_fault c.first_list) refl

  -- the refusal has words
  pub words-refused : (x : Refusal) → lists_refusal c ≡ Some x → ListsRefused c x
  words-refused x e = go (decided c.collation refl)
    where
      go : Decided → ListsRefused c x
      go (inl f) = absurd (none-some x (sym f.0 ∙ e))
      go (inr w) = let same : w.0 ≡ x = some_same (sym (refused-words w.0 w.1) ∙ e) in rw (← same) w.1

  -- a call without a refusal: the collation is known, both are lists of at most 1,024 names, and table and pages pass
  pub unrefused-listed : lists_refusal c ≡ None → Listed c (names_in c.first_list) (names_in c.second_list)
  unrefused-listed e = go (decided c.collation refl)
    where
      go : Decided → Listed c (names_in c.first_list) (names_in c.second_list)
      go (inl d) = d.1
      go (inr w) = absurd (none-some w.0 (sym e ∙ refused-words w.0 w.1))
