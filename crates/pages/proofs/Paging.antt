-- Pages answer as the old lookup does, for every code point; filled slices hold the pages.
-- Assumes nothing.
use mathlib.Core.Path.{◌≡◌, refl, sym, ap, ap₂, ◌∙◌}
use Prim.Native.Nat.{ℕ, zero, suc, ◌+◌, ◌-◌, ◌*◌, ◌/◌, ◌%◌, ◌^◌, ◌≤◌, ◌<◌}
use native.Mathlib.Omega.{arith}
use native.Mathlib.Decide.{ℕ_discrete}
use mathlib.Core.Bool.{Bool, true, false, true≢false}
use mathlib.Core.Logic.{◌↔◌}
use mathlib.Core.List.{List, [], ◌∷◌, ◌++◌}
use lib.Count.{ones}
use Rattle.std.specs.Prelude.{Option, None, Some}
use lib.Dec.{eqb, ltb}
use lib.ListN.{length, get_or, length-append, get_or-append}
use lib.Seq.{get_or_at}
use Rattle.terms.specs.Lists.{there, when, over}
use Rattle.terms.specs.Refusals.{pages_most}
use Rattle.terms.proofs.Parts.{length_over}
use Rattle.table.specs.Layout.{entry_count, code_at}
use Rattle.table.specs.Table.{entry_of}
use Rattle.table.specs.Promises.{Ascending}
use Rattle.table.proofs.Form.{entry_of-some, entry_of-gone}
use Rattle.pages.specs.Pages.{digit, word_of, counted, page_size, presence_word, rank_of, up_to, Pages, filled, paged_place}
use Rattle.pages.specs.Promises.{Paged}
use Rattle.pages.proofs.Words.{counted-most, word-bit, word_low, ones-word}
use Rattle.pages.proofs.Ranks.{listed, entry_of-ranked}

-- ---- a word of presence bits

module _ (es : List ℕ) (page bit : ℕ) (h : bit < page_size) where
  -- the bit of a code point says whether it has an entry
  pub presence-bit : presence_word es page / 2 ^ bit % 2 ≡ digit (listed es (page * page_size + bit))
  unfolding presence_word
  presence-bit =
      let size : page_size ≡ suc bit + (page_size - suc bit) = omega arith in
      ap (λ (k : ℕ). word_of (λ x. listed es (page * page_size + x)) k / 2 ^ bit % 2) size
      ∙ word-bit (λ x. listed es (page * page_size + x)) bit (page_size - suc bit)

  -- the ones below it are the code points below it that have one
  pub presence-ones : ones (presence_word es page % 2 ^ bit) ≡ counted (λ x. listed es (page * page_size + x)) bit
  unfolding presence_word
  presence-ones =
      let test : ℕ → Bool = λ x. listed es (page * page_size + x) in
      let size : page_size ≡ bit + (page_size - bit) = omega arith in
      ap (λ (k : ℕ). ones (word_of test k % 2 ^ bit)) size
      ∙ ap ones (word_low test bit (page_size - bit))
      ∙ ones-word test bit

-- a code point has an entry exactly when it is one's
pub listed-exactly : (es : List ℕ) (c : ℕ) → (listed es c ≡ true) ↔ ((i : ℕ) × (i < entry_count es) × (code_at es i ≡ c))
listed-exactly es c = (λ e. found (entry_of es c) refl e, λ h. there-is (entry_of es c) refl h)
  where
    found : (o : Option ℕ) → entry_of es c ≡ o → there o ≡ true → (i : ℕ) × (i < entry_count es) × (code_at es i ≡ c)
    found None e f = absurd (true≢false (sym f))
    found (Some i) e f = let is = entry_of-some es c i e in (i, is.0, is.1)

    there-is : (o : Option ℕ) → entry_of es c ≡ o → ((i : ℕ) × (i < entry_count es) × (code_at es i ≡ c)) → there o ≡ true
    there-is (Some i) e h = refl
    there-is None e h = absurd (entry_of-gone es c e h.0 h.1 h.2)

-- a digit is 1 exactly when the test holds
pub digit-exactly : (b : Bool) → (digit b ≡ 1) ↔ (b ≡ true)
digit-exactly true = (λ e. refl, λ e. refl)
digit-exactly false = (λ e. absurd (omega arith), λ e. absurd (true≢false (sym e)))

-- ---- a place by pages

-- a digit is 1 where the test holds
eqb-digit : (b : Bool) → eqb (digit b) 1 ≡ b
eqb-digit true = refl
eqb-digit false = refl

-- "it answers as the old lookup for every accepted table and code point"
pub paged-place : (es : List ℕ) {p : Pages} → Ascending es → Paged es p → (c : ℕ) → c < pages_most * page_size
    → paged_place p c ≡ entry_of es c
unfolding paged_place
paged-place es {p} up paged c h =
    let page = c / page_size in
    let bit = c % page_size in
    let small : bit < page_size = omega arith in
    let within : page < pages_most = omega arith in
    let whole : page * page_size + bit ≡ c = omega arith in
    let test = listed es (page * page_size + bit) in
    ap₂ (λ (word rank : ℕ). when (eqb (word / 2 ^ bit % 2) 1) (rank + ones (word % 2 ^ bit)))
    (paged.words page within) (paged.numbers page within)
    ∙ ap₂ (λ (d n : ℕ). when (eqb d 1) (rank_of es page + n)) (presence-bit es page bit small) (presence-ones es page bit small)
    ∙ ap (λ (b : Bool). when b (rank_of es page + counted (λ x. listed es (page * page_size + x)) bit)) (eqb-digit test)
    ∙ sym (entry_of-ranked es up page bit)
    ∙ ap (entry_of es) whole

-- where the bit is set it is the rank, and where not it is none
pub paged_place-yes : (p : Pages) (c : ℕ) → eqb (get_or p.presence (c / page_size) 0 / 2 ^ (c % page_size) % 2) 1 ≡ true
    → paged_place p c ≡ Some (get_or p.ranks (c / page_size) 0 + ones (get_or p.presence (c / page_size) 0 % 2 ^ (c % page_size)))
unfolding paged_place
paged_place-yes p c e = rw e refl

pub paged_place-no : (p : Pages) (c : ℕ) → eqb (get_or p.presence (c / page_size) 0 / 2 ^ (c % page_size) % 2) 1 ≡ false
    → paged_place p c ≡ None
unfolding paged_place
paged_place-no p c e = rw e refl

-- a page's number is at most that of all entries
pub rank_of-most : (es : List ℕ) (page : ℕ) → rank_of es page ≤ entry_count es
unfolding rank_of
rank_of-most es page = counted-most (λ i. ltb (code_at es i) (page * page_size)) (entry_count es)

-- ---- filled slices

pub length-up_to : (f : ℕ → ℕ) (n : ℕ) → length (up_to f n) ≡ n
unfolding up_to
length-up_to f zero = refl
length-up_to f (suc n) = length-append (up_to f n) _ ∙ omega (arith, length-up_to f n)

pub get_d-up_to : (f : ℕ → ℕ) (n i : ℕ) → i < n → get_or (up_to f n) i 0 ≡ f i
unfolding up_to
get_d-up_to f zero i h = absurd (omega arith)
get_d-up_to f (suc n) i h = go (ℕ_discrete i n) (get_d-up_to f n i)
  where
    go : Dec (i ≡ n) → (i < n → get_or (up_to f n) i 0 ≡ f i) → get_or (up_to f n ++ f n ∷ []) i 0 ≡ f i
    go (yes e) rest =
        ap (λ (k : ℕ). get_or (up_to f n ++ f n ∷ []) k 0) e ∙ get_or_at (up_to f n) (f n) [] 0 n (length-up_to f n) ∙ ap f (sym e)
    go (no ne) rest = get_or-append (up_to f n) _ 0 i (omega (arith, length-up_to f n)) ∙ rest (omega arith)

-- a number of a slice that was filled
pub get_d-filled : (f : ℕ → ℕ) (row : List ℕ) (page : ℕ) → page < pages_most → get_or (over (up_to f pages_most) row) page 0 ≡ f page
get_d-filled f row page h =
    get_or-append (up_to f pages_most) _ 0 page (omega (arith, length-up_to f pages_most)) ∙ get_d-up_to f pages_most page h

-- slices of the length asked for hold the pages once they were filled
pub filled-paged : (es : List ℕ) (p : Pages) → pages_most ≤ length p.presence → pages_most ≤ length p.ranks
    → Paged es (filled es p)
filled-paged es p a b = record {
  presence-long = long (presence_word es) p.presence a;
  ranks-long = long (rank_of es) p.ranks b;
  words = get_d-filled (presence_word es) p.presence;
  numbers = get_d-filled (rank_of es) p.ranks;
}
  where
    -- a slice is as long as before
    long : (f : ℕ → ℕ) (row : List ℕ) → pages_most ≤ length row → pages_most ≤ length (over (up_to f pages_most) row)
    long f row h =
        let size = length-up_to f pages_most in
        omega (arith, length_over (up_to f pages_most) row (omega (arith, size)))
