-- Keys in a store one after another, by where they end: each is where its number says.
-- Assumes nothing.
use mathlib.Core.Path.{◌≡◌, refl, sym, ap, ap₂, ◌∙◌}
use Prim.Native.Nat.{ℕ, zero, suc, ◌+◌, ◌*◌, ◌-◌, ◌≤◌, ◌<◌}
use native.Mathlib.Omega.{arith}
use mathlib.Core.List.{List, [], ◌∷◌, ◌++◌, map, append_assoc}
use lib.ListN.{length, take, drop, get_or, length-append}
use lib.Seq.{drop_at, take-append_seam}
use Rattle.terms.specs.Lists.{each, over, total}
use Rattle.terms.specs.Refusals.{expansion_most}
use Rattle.sorting.specs.Sorted.{numbers}
use Rattle.sorting.specs.KeyOrder.{start_of, key_in, Ends}
use Rattle.storing.specs.Stored.{joined, ends_from, strings_in}

-- ---- ends

pub length-ends_from : (at : ℕ) (ks : List (List ℕ)) → length (ends_from at ks) ≡ length ks
unfolding ends_from
length-ends_from at [] = refl
length-ends_from at (k ∷ ks) = ap suc (length-ends_from (at + length k) ks)

pub long-joined : (k : List ℕ) (ks : List (List ℕ)) → length (joined (k ∷ ks)) ≡ length k + length (joined ks)
unfolding each
long-joined k ks = length-append k (joined ks)

pub ends_from-append : (at : ℕ) (ks qs : List (List ℕ))
    → ends_from at (ks ++ qs) ≡ ends_from at ks ++ ends_from (at + length (joined ks)) qs
unfolding ends_from each
ends_from-append at [] qs = let same : at ≡ at + 0 = omega arith in ap (λ (n : ℕ). ends_from n qs) same
ends_from-append at (k ∷ ks) qs =
    let more : at + length k + length (joined ks) ≡ at + length (joined (k ∷ ks)) = omega (arith, long-joined k ks) in
    ap (λ (t : List ℕ). (at + length k) ∷ t)
    (ends_from-append (at + length k) ks qs ∙ ap (λ (n : ℕ). ends_from (at + length k) ks ++ ends_from n qs) more)

-- where a key ends, and where it begins
end-at : (at : ℕ) (ks : List (List ℕ)) (x : ℕ) → x < length ks
    → get_or (ends_from at ks) x 0 ≡ at + (length (joined (take x ks)) + length (get_or ks x []))
unfolding ends_from each
end-at at [] x h = absurd (omega arith)
end-at at (k ∷ ks) zero h = omega arith
end-at at (k ∷ ks) (suc x) h =
    end-at (at + length k) ks x (omega arith)
    ∙ (let n = long-joined k (take x ks) in omega (arith, n))

long-take : (ks : List (List ℕ)) (x : ℕ) → x < length ks
    → length (joined (take (suc x) ks)) ≡ length (joined (take x ks)) + length (get_or ks x [])
unfolding each
long-take [] x h = absurd (omega arith)
long-take (k ∷ ks) zero h = omega (arith, length-append k [])
long-take (k ∷ ks) (suc x) h =
    omega (arith, long-joined k (take (suc x) ks), long-joined k (take x ks), long-take ks x (omega arith))

start-at : (ks : List (List ℕ)) (x : ℕ) → x < length ks → start_of (ends_from 0 ks) x ≡ length (joined (take x ks))
unfolding each
start-at ks zero h = refl
start-at ks (suc x) h =
    omega (arith, end-at 0 ks x (omega arith), long-take ks x (omega arith))

-- the keys before one, the key, and those after it
parted : (ks : List (List ℕ)) (x : ℕ) → x < length ks
    → joined ks ≡ joined (take x ks) ++ (get_or ks x [] ++ joined (drop (suc x) ks))
unfolding each
parted [] x h = absurd (omega arith)
parted (k ∷ ks) zero h = refl
parted (k ∷ ks) (suc x) h =
    ap (λ (t : List ℕ). k ++ t) (parted ks x (omega arith))
    ∙ sym (append_assoc k (joined (take x ks)) (get_or ks x [] ++ joined (drop (suc x) ks)))

-- ---- the store

module _ (ks : List (List ℕ)) (store : List ℕ) (room : length (joined ks) ≤ length store) where
  -- a key is what stands there
  pub key-stands : (x : ℕ) → x < length ks → key_in (over (joined ks) store) (ends_from 0 ks) x ≡ get_or ks x []
  unfolding key_in
  key-stands x h =
      let k = get_or ks x [] in
      let before = joined (take x ks) in
      let after = joined (drop (suc x) ks) ++ drop (length (joined ks)) store in
      let long : get_or (ends_from 0 ks) x 0 - start_of (ends_from 0 ks) x ≡ length k =
      omega (arith, end-at 0 ks x h, start-at ks x h)
      in
      let whole : over (joined ks) store ≡ before ++ (k ++ after) =
      ap (λ (t : List ℕ). t ++ drop (length (joined ks)) store) (parted ks x h) ∙ simp append_assoc
      in
      ap₂ (λ (n : ℕ) (t : List ℕ). take n t) long
      (ap₂ (λ (n : ℕ) (t : List ℕ). drop n t) (start-at ks x h) whole ∙ drop_at before (k ++ after) (length before) refl)
      ∙ take-append_seam k after

  pub ends-stand : Ends (over (joined ks) store) (ends_from 0 ks)
  ends-stand = record {
    forward = λ x h.
        let i : x < length ks = omega (arith, length-ends_from 0 ks) in
        omega (arith, end-at 0 ks x i, start-at ks x i);
    within = λ x h.
        let i : x < length ks = omega (arith, length-ends_from 0 ks) in
        omega (
          arith,
          end-at 0 ks x i,
          ap length (parted ks x i),
          length-append (joined (take x ks)) (get_or ks x [] ++ joined (drop (suc x) ks)),
          length-append (get_or ks x []) (joined (drop (suc x) ks)),
          length-append (joined ks) (drop (length (joined ks)) store),
        );
  }

-- a list by its elements
pub map-numbers : (f : ℕ → List ℕ) (a : ℕ) (xs : List (List ℕ)) → ((x : ℕ) → x < length xs → f (a + x) ≡ get_or xs x [])
    → map f (numbers a (length xs)) ≡ xs
unfolding numbers
map-numbers f a [] h = refl
map-numbers f a (x ∷ xs) h =
    let here : f a ≡ x = (let same : a ≡ a + 0 = omega arith in ap f same) ∙ h 0 (omega arith) in
    ap₂ (λ (y : List ℕ) (ys : List (List ℕ)). y ∷ ys) here
    (map-numbers f (suc a) xs
    (λ i l. (let next : suc a + i ≡ a + suc i = omega arith in ap f next) ∙ h (suc i) (omega arith)))

-- the keys that were put are those that stand there
pub strings-stand : (ks : List (List ℕ)) (store : List ℕ) → length (joined ks) ≤ length store
    → strings_in (over (joined ks) store) (ends_from 0 ks) ≡ ks
strings-stand ks store room =
    let key = key_in (over (joined ks) store) (ends_from 0 ks) in
    ap (λ (n : ℕ). map key (numbers 0 n)) (length-ends_from 0 ks)
    ∙ map-numbers key 0 ks (λ x h. let from : 0 + x ≡ x = omega arith in ap key from ∙ key-stands ks store room x h)

-- ---- how many octets

-- keys of texts have at most 128 octets for each of the texts'
pub joined-most : (key : List ℕ → List ℕ) → ((t : List ℕ) → length (key t) ≤ expansion_most * length t) → (ts : List (List ℕ))
    → length (joined (map key ts)) ≤ expansion_most * total (λ t. length t) ts
unfolding each total
joined-most key h [] = omega arith
joined-most key h (t ∷ ts) = omega (arith, long-joined (key t) (map key ts), h t, joined-most key h ts)
