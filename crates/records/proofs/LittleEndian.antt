-- Numbers in octets, over any width: each of `little_endian` and `number_in` undoes the other.
-- Assumes nothing.
use mathlib.Core.Path.{◌≡◌, refl, ap, ap₂, ◌∙◌}
use Prim.Native.Nat.{ℕ, zero, suc, ◌+◌, ◌*◌, ◌^◌, ◌<◌, ◌%◌, ◌/◌}
use native.Mathlib.Nat.{pow-zero, pow-suc}
use native.Mathlib.Omega.{arith}
use mathlib.Core.List.{List, [], ◌∷◌}
use lib.ListN.{length, get_or, take, drop}
use lib.Seq.{get_or-drop}
use Rattle.std.specs.Int.{w16, w32, from_le_bytes, to_le_bytes}
use Rattle.records.specs.Numbers.{little_endian, number_in, Octets}

-- as long as the width says
pub length-little_endian : (width n : ℕ) → length (little_endian width n) ≡ width
unfolding little_endian
length-little_endian zero n = refl
length-little_endian (suc width) n = ap suc (length-little_endian width (n / 256))

-- a number that the width can hold comes back
pub number_in-little_endian : (width n : ℕ) → n < 256 ^ width → number_in (little_endian width n) ≡ n
unfolding little_endian number_in
number_in-little_endian zero n h = omega (arith, pow-zero 256)
number_in-little_endian (suc width) n h =
    let rest : number_in (little_endian width (n / 256)) ≡ n / 256 =
    number_in-little_endian width (n / 256) (omega (arith, pow-suc 256 width))
    in
    omega arith

-- octets come back
pub little_endian-number_in : (xs : List ℕ) → Octets xs → little_endian (length xs) (number_in xs) ≡ xs
unfolding little_endian number_in
little_endian-number_in [] octets = refl
little_endian-number_in (x ∷ xs) octets =
    let low : (x + 256 * number_in xs) % 256 ≡ x = omega (arith, octets 0) in
    let high : (x + 256 * number_in xs) / 256 ≡ number_in xs = omega (arith, octets 0) in
    ap₂ ◌∷◌ low (ap (little_endian (length xs)) high ∙ little_endian-number_in xs (λ i. octets (suc i)))

-- octets are a number that their width can hold
pub number_in-below : (xs : List ℕ) → Octets xs → number_in xs < 256 ^ length xs
unfolding number_in
number_in-below [] octets = omega (arith, pow-zero 256)
number_in-below (x ∷ xs) octets =
    let rest : number_in xs < 256 ^ length xs = number_in-below xs (λ i. octets (suc i)) in
    omega (arith, octets 0, pow-suc 256 (length xs))

-- one octet is its own number
pub number_in-one : (i : ℕ) (xs : List ℕ) → number_in (take 1 (drop i xs)) ≡ get_or xs i 0
unfolding number_in
number_in-one zero [] = refl
number_in-one (suc i) [] = refl
number_in-one zero (x ∷ xs) = omega arith
number_in-one (suc i) (x ∷ xs) = number_in-one i xs

-- parts of octets are octets
pub octets-drop : (n : ℕ) (xs : List ℕ) → Octets xs → Octets (drop n xs)
octets-drop n xs octets i = rw (get_or-drop n xs i 0) (octets (n + i))

pub octets-take : (n : ℕ) (xs : List ℕ) → Octets xs → Octets (take n xs)
octets-take zero xs octets i = omega arith
octets-take (suc n) [] octets i = octets i
octets-take (suc n) (x ∷ xs) octets zero = octets 0
octets-take (suc n) (x ∷ xs) octets (suc i) = octets-take n xs (λ j. octets (suc j)) i

-- two octets
pub number_in-two : (i : ℕ) (xs : List ℕ) → number_in (take 2 (drop i xs)) ≡ get_or xs i 0 + 256 * get_or xs (suc i) 0
unfolding number_in
number_in-two zero [] = refl
number_in-two (suc i) [] = refl
number_in-two zero (x ∷ []) = omega arith
number_in-two zero (x ∷ y ∷ xs) = omega arith
number_in-two (suc i) (x ∷ xs) = number_in-two i xs

-- ---- as std reads and writes them

-- four octets
read-four : (xs : List ℕ) → from_le_bytes w32 (take 4 xs) ≡ number_in (take 4 xs)
unfolding number_in
read-four [] = refl
read-four (a ∷ []) = omega arith
read-four (a ∷ b ∷ []) = omega arith
read-four (a ∷ b ∷ c ∷ []) = omega arith
read-four (a ∷ b ∷ c ∷ d ∷ xs) = omega arith

pub number_in-four : (xs block : List ℕ) (n : ℕ) → block ≡ take 4 xs → n ≡ from_le_bytes w32 block → n ≡ number_in (take 4 xs)
number_in-four xs block n b e = rw b at e ∙ read-four xs

-- a number in two octets, and in four
pub le_bytes-two : (n : ℕ) → to_le_bytes w16 n ≡ little_endian 2 n
unfolding little_endian
le_bytes-two n = refl

pub le_bytes-four : (n : ℕ) → to_le_bytes w32 n ≡ little_endian 4 n
unfolding little_endian
le_bytes-four n =
    let two : n / 65536 % 256 ≡ n / 256 / 256 % 256 = omega arith in
    let three : n / 16777216 % 256 ≡ n / 256 / 256 / 256 % 256 = omega arith in
    ap₂ (λ (x y : ℕ). n % 256 ∷ n / 256 % 256 ∷ x ∷ y ∷ []) two three
