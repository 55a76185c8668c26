-- The octets of a code point: by its width, how many there are, and over every width at once: a first octet with the high bits,
-- and octets that trail with six bits each.
-- Assumes nothing.
use mathlib.Core.Path.{◌≡◌, refl, ◌∙◌, ap}
use mathlib.Core.List.{List, [], ◌∷◌}
use Prim.Native.Nat.{ℕ, zero, suc, ◌+◌, ◌/◌, ◌%◌, ◌≤◌, ◌<◌}
use native.Mathlib.Decide.{dec_lt}
use native.Mathlib.Omega.{arith}
use lib.ListN.{length}
use borrow.Author.Tests.{lt-ltb, le-ltb}
use Rattle.utf8.specs.Utf8.{encode}

-- ---- by its width

-- a code point below 80 is its own octet
pub encode_one : (c : ℕ) → c < 0x80 → encode c ≡ c ∷ []
unfolding encode
encode_one c h = simp (lt-ltb c 0x80 h)

-- a code point 80 to 7FF has two octets
pub encode-two : (c : ℕ) → 0x80 ≤ c → c < 0x800 → encode c ≡ (0xC0 + c / 64) ∷ (0x80 + c % 64) ∷ []
unfolding encode
encode-two c l h = simp (le-ltb c 0x80 l, lt-ltb c 0x800 h)

-- a code point 800 to FFFF has three octets
pub encode-three : (c : ℕ)
    → 0x800 ≤ c
    → c < 0x10000
    → encode c ≡ (0xE0 + c / 4096) ∷ (0x80 + c / 64 % 64) ∷ (0x80 + c % 64) ∷ []
unfolding encode
encode-three c l h = simp (le-ltb c 0x80 (omega arith), le-ltb c 0x800 l, lt-ltb c 0x10000 h)

-- a code point from 10000 on has four octets
pub encode-four : (c : ℕ)
    → 0x10000 ≤ c
    → encode c ≡ (0xF0 + c / 262144) ∷ (0x80 + c / 4096 % 64) ∷ (0x80 + c / 64 % 64) ∷ (0x80 + c % 64) ∷ []
unfolding encode
encode-four c l = simp (le-ltb c 0x80 (omega arith), le-ltb c 0x800 (omega arith), le-ltb c 0x10000 l)

-- a code point has one to four octets
pub encode-width : (c : ℕ) → (1 ≤ length (encode c)) × (length (encode c) ≤ 4)
encode-width c = by (dec_lt c 0x80) (dec_lt c 0x800) (dec_lt c 0x10000)
  where
    by : Dec (c < 0x80) → Dec (c < 0x800) → Dec (c < 0x10000) → (1 ≤ length (encode c)) × (length (encode c) ≤ 4)
    by (yes h) q r = omega (arith, ap length (encode_one c h))
    by (no l) (yes h) r = omega (arith, ap length (encode-two c (omega arith) h))
    by (no l) (no m) (yes h) = omega (arith, ap length (encode-three c (omega arith) h))
    by (no l) (no m) (no n) = omega (arith, ap length (encode-four c (omega arith)))

-- ---- over every width

-- the bits of a number above its lowest 6 n
abbrev pub high_bits : ℕ → ℕ → ℕ
high_bits zero c = c
high_bits (suc n) c = high_bits n c / 64

-- n octets that trail, with the lowest 6 n bits of a number
abbrev pub trailing : ℕ → ℕ → List ℕ
trailing zero c = []
trailing (suc n) c = (0x80 + high_bits n c % 64) ∷ trailing n c

pub length-trailing : (n c : ℕ) → length (trailing n c) ≡ n
length-trailing zero c = refl
length-trailing (suc n) c = ap suc (length-trailing n c)

-- what a first octet a from C0 to F7 says: it carries the bits x, n octets trail, and least is the lowest code point that
-- needs them
pub data Lead (a x : ℕ) : ℕ → ℕ → Type 0 where
  leads_two : a ≡ 0xC0 + x → x < 0x20 → Lead a x 1 0x80
  leads_three : a ≡ 0xE0 + x → x < 0x10 → Lead a x 2 0x800
  leads_four : a ≡ 0xF0 + x → x < 0x8 → Lead a x 3 0x10000

-- a code point whose high bits a first octet carries, and which needs the octets that it says
pub encode-longer : (a x n least c : ℕ) → Lead a x n least → high_bits n c ≡ x → least ≤ c → encode c ≡ a ∷ trailing n c
encode-longer a x n least c (leads_two e h) high l =
    let first : 0xC0 + c / 64 ≡ a = omega arith in
    encode-two c l (omega arith) ∙ rw first
encode-longer a x n least c (leads_three e h) high l =
    let first : 0xE0 + c / 4096 ≡ a = omega arith in
    encode-three c l (omega arith) ∙ rw first
encode-longer a x n least c (leads_four e h) high l =
    let first : 0xF0 + c / 262144 ≡ a = omega arith in
    let second : c / 4096 ≡ c / 64 / 64 = omega arith in
    encode-four c l ∙ rw (first, second)

-- the first octet of a code point that needs more than one, and what it says
pub record Longer (c : ℕ) : Type 0 where
  pub first : ℕ
  pub count : ℕ
  pub least : ℕ
  pub lead : Lead first (high_bits count c) count least
  pub enough : least ≤ c

pub longer : (c : ℕ) → 0x80 ≤ c → c ≤ 0x10FFFF → Longer c
longer c l m = by (dec_lt c 0x800) (dec_lt c 0x10000)
  where
    by : Dec (c < 0x800) → Dec (c < 0x10000) → Longer c
    by (yes h) q = record { first = 0xC0 + c / 64; count = 1; least = 0x80; lead = leads_two refl (omega arith); enough = l }
    by (no k) (yes h) =
        record { first = 0xE0 + c / 64 / 64; count = 2; least = 0x800; lead = leads_three refl (omega arith); enough = omega arith }
    by (no k) (no h) =
        let top = 0xF0 + c / 64 / 64 / 64 in
        record { first = top; count = 3; least = 0x10000; lead = leads_four refl (omega arith); enough = omega arith }
