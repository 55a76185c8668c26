-- The keys of both lists in the store, the second list's after the first's, and what the core finds of them.
-- Assumes nothing.
use mathlib.Core.Path.{◌≡◌, sym, ap, ap₂, ◌∙◌}
use Prim.Native.Nat.{ℕ, ◌+◌, ◌-◌, ◌≤◌}
use native.Mathlib.Omega.{arith}
use mathlib.Core.List.{List, [], ◌++◌}
use lib.ListN.{length, take, drop, length-append, get_or-append}
use lib.Seq.{take_at, get_or-append-add}
use Rattle.terms.specs.Lists.{over, put_at}
use Rattle.terms.proofs.Lists.{each_append}
use Rattle.terms.proofs.PutAt.{put_at-append}
use Rattle.sorting.specs.KeyOrder.{key_in}
use Rattle.partners.specs.Promises.{keys_from, FindsIn}
use Rattle.partners.specs.declared.Totals.{Totals}
use Rattle.storing.specs.Stored.{joined, ends_from, PutsKeys}
use Rattle.storing.proofs.Ended.{length-ends_from, ends_from-append, key-stands, map-numbers}
use Rattle.lists.specs.Promises.{PutsAll, Reports}

-- the keys of both lists, in the store
module _ (ks qs : List (List ℕ)) (store : List ℕ) (room : length (joined (ks ++ qs)) ≤ length store) where
  abbrev key : ℕ → List ℕ
  key = key_in (over (joined (ks ++ qs)) store) (ends_from 0 (ks ++ qs))

  pub first-stand : keys_from key 0 (length ks) ≡ ks
  first-stand =
      map-numbers key 0 ks
      (λ x h.
      let from : 0 + x ≡ x = omega arith in
      ap key from
      ∙ key-stands (ks ++ qs) store room x (omega (arith, length-append ks qs))
      ∙ get_or-append ks qs [] x h)

  pub second-stand : keys_from key (length ks) (length qs) ≡ qs
  second-stand =
      map-numbers key (length ks) qs
      (λ x h.
      key-stands (ks ++ qs) store room (length ks + x) (omega (arith, length-append ks qs))
      ∙ get_or-append-add ks qs x [])

-- ---- one list after the other

pub long-both : (ks qs : List (List ℕ)) → length (joined (ks ++ qs)) ≡ length (joined ks) + length (joined qs)
long-both ks qs = ap length (each_append (λ k. k) ks qs) ∙ length-append (joined ks) (joined qs)

pub both-put : (ks qs : List (List ℕ)) (store ends : List ℕ) {middle last : ℕ} {store₁ ends₁ store₂ ends₂ : List ℕ}
    → PutsKeys ks 0 store 0 ends middle store₁ ends₁
    → PutsKeys qs middle store₁ (length ks) ends₁ last store₂ ends₂
    → length (joined (ks ++ qs)) ≤ length store
    → length ks + length qs ≤ length ends
    → PutsAll (ks ++ qs) store ends store₂ ends₂
both-put ks qs store ends {middle} {last} {store₁} {ends₁} {store₂} {ends₂} one two room fits =
    let all = each_append (λ k. k) ks qs in
    let sum = long-both ks qs in
    record {
      stored =
          two.stored
          ∙ ap₂ (λ (n : ℕ) (s : List ℕ). put_at n (joined qs) s) one.upto one.stored
          ∙ put_at-append 0 (joined ks) store (omega (arith, sum)) (joined qs)
          ∙ ap (λ (t : List ℕ). over t store) (sym all);
      ended =
          let place : length ks ≡ 0 + length (ends_from 0 ks) = omega (arith, length-ends_from 0 ks) in
          two.ended
          ∙ ap₂ (λ (n : ℕ) (s : List ℕ). put_at n (ends_from middle qs) s) place one.ended
          ∙ put_at-append 0 (ends_from 0 ks) ends (omega (arith, length-ends_from 0 ks)) (ends_from middle qs)
          ∙ ap (λ (n : ℕ). over (ends_from 0 ks ++ ends_from n qs) ends) one.upto
          ∙ ap (λ (t : List ℕ). over t ends) (sym (ends_from-append 0 ks qs));
    }

-- the row of ends, as much as is lent
pub ends-taken : {ks : List (List ℕ)} {store ends storeAfter endsAfter : List ℕ} (n : ℕ)
    → PutsAll ks store ends storeAfter endsAfter
    → n ≡ length ks
    → take n endsAfter ≡ ends_from 0 ks
ends-taken {ks} {store} {ends} {storeAfter} {endsAfter} n p e =
    ap (take n) p.ended ∙ take_at (ends_from 0 ks) (drop (length (ends_from 0 ks)) ends) n (length-ends_from 0 ks ∙ sym e)

-- what the core finds of the keys in the store
pub reports-found : {ks qs : List
    (List ℕ)} {store ends storeAfter endsAfter partners positions partnersAfter positionsAfter : List ℕ}
    {t : Totals} (middle : ℕ)
    → PutsAll (ks ++ qs) store ends storeAfter endsAfter
    → length (joined (ks ++ qs)) ≤ length store
    → middle ≡ length ks
    → FindsIn storeAfter (ends_from 0 (ks ++ qs)) middle partners positions t partnersAfter positionsAfter
    → Reports ks qs store partners positions t storeAfter partnersAfter positionsAfter
reports-found {ks} {qs} {store} {ends} {storeAfter} {endsAfter} {partners} {positions} {partnersAfter} {positionsAfter} {t} middle p room
    e f =
    let left : length (ends_from 0 (ks ++ qs)) - length ks ≡ length qs =
    omega (arith, length-ends_from 0 (ks ++ qs), length-append ks qs)
    in
    let found : FindsIn (over (joined (ks ++ qs)) store) (ends_from 0 (ks ++ qs)) (length ks) partners positions t partnersAfter
    positionsAfter = rw (p.stored, e) at f
    in
    record { stored = p.stored; found = rw (left, first-stand ks qs store room, second-stand ks qs store room) at found }
