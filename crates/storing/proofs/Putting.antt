-- Keys put into a store one after another, and their ends into a row: what is put and what is left to put are all.
-- Assumes nothing.
use mathlib.Core.Path.{◌≡◌, refl, sym, ap, ap₂, ◌∙◌}
use Prim.Native.Nat.{ℕ, suc, ◌+◌, ◌≤◌, ◌<◌}
use native.Mathlib.Omega.{arith}
use mathlib.Core.List.{List, [], ◌∷◌, ◌++◌}
use lib.ListN.{length, take, drop, set, length-append, length-set}
use lib.Seq.{set_split, drop-drop}
use Rattle.terms.specs.Lists.{each, put_at}
use Rattle.terms.proofs.PutAt.{length-put_at, put_at-none, put_at-append}
use Rattle.octets.specs.Put.{Puts}
use Rattle.storing.specs.Stored.{joined, ends_from, PutsKeys}

-- a number put after those that were
pub set-put_at : (i x : ℕ) (s : List ℕ) → i < length s → set s i x ≡ put_at i (x ∷ []) s
set-put_at i x s h =
    let one : i + 1 ≡ suc i = omega arith in
    set_split s i x h ∙ ap (λ (t : List ℕ). take i s ++ x ∷ t) (sym (drop-drop 1 i s ∙ ap (λ (n : ℕ). drop n s) one))

-- some of all keys are put, and with the rest all are
pub record Putting (all : List (List ℕ)) (from : ℕ) (store₀ : List ℕ) (index : ℕ) (ends₀ : List ℕ) (rest : List (List ℕ))
    (last i : ℕ) (store ends : List ℕ) : Type 0 where
  pub upto : last + length (joined rest) ≡ from + length (joined all)
  pub count : i + length rest ≡ index + length all
  pub stored : put_at last (joined rest) store ≡ put_at from (joined all) store₀
  pub ended : put_at i (ends_from last rest) ends ≡ put_at index (ends_from from all) ends₀
  pub long_store : length store ≡ length store₀
  pub long_ends : length ends ≡ length ends₀

pub putting-start : (all : List (List ℕ)) (from : ℕ) (store : List ℕ) (index : ℕ) (ends : List ℕ)
    → Putting all from store index ends all from index store ends
putting-start all from store index ends = record {
  upto = refl;
  count = refl;
  stored = refl;
  ended = refl;
  long_store = refl;
  long_ends = refl;
}

module _ {all : List (List ℕ)} {from index last i : ℕ} {store₀ ends₀ : List ℕ} {rest : List (List ℕ)} {store ends : List ℕ}
    (w : Putting all from store₀ index ends₀ rest last i store ends)
    (fits : from + length (joined all) ≤ length store₀)
    (room : index + length all ≤ length ends₀) where
  module _ (k : List ℕ) (ks : List (List ℕ)) (next : rest ≡ k ∷ ks) where
    joined-next : joined rest ≡ k ++ joined ks
    unfolding each
    joined-next = ap joined next

    pub long-next : length (joined rest) ≡ length k + length (joined ks)
    long-next = ap length joined-next ∙ length-append k (joined ks)

    -- there is room for the key, and for where it ends
    pub putting-room : last + length k ≤ length store
    putting-room = omega (arith, w.upto, w.long_store, long-next)

    pub putting-place : i < length ends
    putting-place = omega (arith, w.count, w.long_ends, ap length next)

    pub putting-more : (long : ℕ) (part : List ℕ) → Puts k (drop last store) long part
        → Putting all from store₀ index ends₀ ks (last + long) (i + 1) (take last store ++ part) (set ends i (last + long))
    unfolding ends_from
    putting-more long part put =
        let put-there : take last store ++ part ≡ put_at last k store = ap (λ (t : List ℕ). take last store ++ t)
        put.left in
        let end-there : set ends i (last + long) ≡ put_at i ((last + length k) ∷ []) ends =
        set-put_at i (last + long) ends putting-place
        ∙ ap (λ (m : ℕ). put_at i ((last + m) ∷ []) ends) put.count
        in
        record {
          upto = omega (arith, w.upto, long-next, put.count);
          count = omega (arith, w.count, ap length next);
          stored =
              ap₂ (λ (m : ℕ) (s : List ℕ). put_at (last + m) (joined ks) s) put.count put-there
              ∙ put_at-append last k store putting-room (joined ks)
              ∙ ap (λ (t : List ℕ). put_at last t store) (sym joined-next)
              ∙ w.stored;
          ended =
              ap₂ (λ (m : ℕ) (s : List ℕ). put_at (i + 1) (ends_from (last + m) ks) s) put.count end-there
              ∙ put_at-append i ((last + length k) ∷ []) ends (omega (arith, putting-place)) (ends_from (last + length k) ks)
              ∙ ap (λ (t : List (List ℕ)). put_at i (ends_from last t) ends) (sym next)
              ∙ w.ended;
          long_store =
              ap length put-there ∙ length-put_at last k store putting-room ∙ w.long_store;
          long_ends = length-set ends i (last + long) ∙ w.long_ends;
        }

  -- all are put
  pub putting-done : rest ≡ [] → PutsKeys all from store₀ index ends₀ last store ends
  unfolding each ends_from
  putting-done none_left = record {
    upto = omega (arith, w.upto, ap (λ (ks : List (List ℕ)). length (joined ks)) none_left);
    stored =
        sym (ap (λ (ks : List (List ℕ)). put_at last (joined ks) store) none_left ∙ put_at-none last store)
        ∙ w.stored;
    ended =
        sym (ap (λ (ks : List (List ℕ)). put_at i (ends_from last ks) ends) none_left ∙ put_at-none i ends)
        ∙ w.ended;
  }
