-- Words of bits and counts, by a test of numbers: the bits of a word, the ones below a bit, and a word with one bit more.
-- Assumes nothing.
use mathlib.Core.Path.{◌≡◌, refl, sym, ap, ap₂, ◌∙◌}
use Prim.Native.Nat.{ℕ, zero, suc, ◌+◌, ◌*◌, ◌/◌, ◌%◌, ◌^◌, ◌≤◌, ◌<◌}
use native.Mathlib.Nat.{pow-suc, zero-lt-suc}
use native.Mathlib.Omega.{arith}
use native.Mathlib.Decide.{ℕ_discrete}
use mathlib.Core.Bool.{Bool, true, false}
use lib.Pow.{low, high, field, mod-mod-pow}
use lib.Count.{ones, ones_cat}
use Rattle.pages.specs.Pages.{digit, word_of, counted}

-- ---- counts

-- those from a number on are counted after those below it
pub counted-add : (test : ℕ → Bool) (n k : ℕ) → counted test (n + k) ≡ counted test n + counted (λ x. test (n + x)) k
unfolding counted
counted-add test n zero = let all : n + 0 ≡ n = omega arith in ap (counted test) all ∙ omega arith
counted-add test n (suc k) =
    let next : n + suc k ≡ suc (n + k) = omega arith in
    ap (counted test) next ∙ omega (arith, counted-add test n k)

-- no more pass than there are
digit-most : (b : Bool) → digit b ≤ 1
digit-most true = omega arith
digit-most false = omega arith

pub counted-most : (test : ℕ → Bool) (n : ℕ) → counted test n ≤ n
unfolding counted
counted-most test zero = omega arith
counted-most test (suc n) = omega (arith, counted-most test n, digit-most (test n))

-- where the first i pass and no others, there are i
pub counted-first : (test : ℕ → Bool) (n i : ℕ) → i ≤ n
    → ((k : ℕ) → k < i → test k ≡ true) → ((k : ℕ) → i ≤ k → k < n → test k ≡ false) → counted test n ≡ i
unfolding counted
counted-first test zero i h pass fail = omega arith
counted-first test (suc n) i h pass fail =
    go (ℕ_discrete i (suc n)) (counted-first test n)
  where
    go : Dec (i ≡ suc n)
        → ((j : ℕ) → j ≤ n → ((k : ℕ) → k < j → test k ≡ true) → ((k : ℕ) → j ≤ k → k < n → test k ≡ false)
        → counted test n ≡ j)
        → digit (test n) + counted test n ≡ i
    go (yes e) rest =
        let all = rest n (omega arith) (λ k l. pass k (omega arith)) (λ k l m. absurd (omega arith)) in
        rw (pass n (omega arith)) (omega (arith, all))
    go (no ne) rest =
        let fewer = rest i (omega arith) pass (λ k l m. fail k l (omega arith)) in
        rw (fail n (omega arith) (omega arith)) (omega (arith, fewer))

-- ---- words

-- a word of k bits is below 2 ^ k
digit-below : (b : Bool) (k w : ℕ) → w < 2 ^ k → digit b * 2 ^ k + w < 2 ^ suc k
digit-below true k w h = omega (arith, pow-suc 2 k, h)
digit-below false k w h = omega (arith, pow-suc 2 k, h)

pub word_lt : (test : ℕ → Bool) (k : ℕ) → word_of test k < 2 ^ k
unfolding word_of
word_lt test zero = zero-lt-suc 0
word_lt test (suc k) = digit-below (test k) k (word_of test k) (word_lt test k)

-- its lowest b bits are the word of b bits
pub word_low : (test : ℕ → Bool) (b j : ℕ) → word_of test (b + j) % 2 ^ b ≡ word_of test b
unfolding word_of
word_low test b zero =
    let all : b + 0 ≡ b = omega arith in
    let word : word_of test (b + 0) ≡ 0 * 2 ^ b + word_of test b = ap (word_of test) all ∙ omega arith in
    ap (λ (x : ℕ). x % 2 ^ b) word ∙ low 0 b (word_lt test b)
word_low test b (suc j) =
    let next : b + suc j ≡ suc (b + j) = omega arith in
    let swap : j + b ≡ b + j = omega arith in
    let word = word_of test (suc (b + j)) in
    ap (λ (k : ℕ). word_of test k % 2 ^ b) next
    ∙ sym (mod-mod-pow word j b)
    ∙ ap (λ (k : ℕ). word % 2 ^ k % 2 ^ b) swap
    ∙ ap (λ (x : ℕ). x % 2 ^ b) (low (digit (test (b + j))) (b + j) (word_lt test (b + j)))
    ∙ word_low test b j

-- its bit b says whether b passes
pub word-bit : (test : ℕ → Bool) (b j : ℕ) → word_of test (suc b + j) / 2 ^ b % 2 ≡ digit (test b)
unfolding word_of
word-bit test b j =
    let word = word_of test (suc b + j) in
    let next : 1 + b ≡ suc b = omega arith in
    sym (field word 1 b)
    ∙ ap (λ (k : ℕ). word % 2 ^ k / 2 ^ b) next
    ∙ ap (λ (x : ℕ). x / 2 ^ b) (word_low test (suc b) j)
    ∙ high (digit (test b)) b (word_lt test b)

-- its ones are those that pass
ones-digit : (b : Bool) → ones (digit b) ≡ digit b
unfolding ones lib.Count.ones_in
ones-digit true = refl
ones-digit false = refl

pub ones-word : (test : ℕ → Bool) (k : ℕ) → ones (word_of test k) ≡ counted test k
unfolding word_of counted ones lib.Count.ones_in
ones-word test zero = refl
ones-word test (suc k) =
    ones_cat k (digit (test k)) (word_of test k) (word_lt test k)
    ∙ ap₂ (λ (x y : ℕ). x + y) (ones-digit (test k)) (ones-word test k)

-- tests that agree below k have the same word
pub word_same : (f g : ℕ → Bool) (k : ℕ) → ((x : ℕ) → x < k → f x ≡ g x) → word_of f k ≡ word_of g k
unfolding word_of
word_same f g zero same = refl
word_same f g (suc k) same =
    ap₂ (λ (b : Bool) (w : ℕ). digit b * 2 ^ k + w) (same k (omega arith)) (word_same f g k (λ x l. same x (omega arith)))

-- where none passes the word is 0
pub word_none : (f : ℕ → Bool) (k : ℕ) → ((x : ℕ) → x < k → f x ≡ false) → word_of f k ≡ 0
unfolding word_of
word_none f zero fail = refl
word_none f (suc k) fail =
    let rest = word_none f k (λ x l. fail x (omega arith)) in
    rw (fail k (omega arith)) (omega (arith, rest))

-- one more that passes is one bit more
pub word_more : (f g : ℕ → Bool) (e : ℕ) → f e ≡ false → g e ≡ true → ((x : ℕ) → (x ≡ e → ⊥) → f x ≡ g x)
    → (k : ℕ) → e < k → word_of g k ≡ word_of f k + 2 ^ e
unfolding word_of
word_more f g e without with same zero h = absurd (omega arith)
word_more f g e without with same (suc k) h = go (ℕ_discrete k e) (word_more f g e without with same k)
  where
    go : Dec (k ≡ e) → (e < k → word_of g k ≡ word_of f k + 2 ^ e)
        → digit (g k) * 2 ^ k + word_of g k ≡ digit (f k) * 2 ^ k + word_of f k + 2 ^ e
    go (yes q) rest =
        let alike = word_same f g e (λ x l. same x (λ p. omega arith)) in
        rw (q, without, with) (omega (arith, alike))
    go (no ne) rest = rw (same k ne) (omega (arith, rest (omega arith)))
