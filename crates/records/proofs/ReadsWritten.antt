-- Reading what was written: a record that stands in front of anything is read as its item.
-- Assumes nothing.
use mathlib.Core.Path.{◌≡◌, refl, ap, ap₂, ◌∙◌}
use Prim.Native.Nat.{ℕ, ◌+◌, ◌-◌, ◌≤◌, ◌<◌}
use native.Mathlib.Omega.{arith}
use mathlib.Core.Bool.{true, false, cond}
use mathlib.Core.List.{List, ◌++◌, append_assoc}
use Rattle.std.specs.Prelude.{Some}
use lib.ListN.{length, take, drop, length-append, length-drop}
use lib.Seq.{take_at, drop_at}
use borrow.Author.Tests.{le-ltb, le-leb, leb-true}
use Rattle.terms.specs.Refusals.{refusal}
use Rattle.records.specs.Numbers.{little_endian, number_in}
use Rattle.records.specs.Items.{Rules, rules, Item, of_text, of_key, among, fits, field_octets, kind_of, body_of, framed}
use Rattle.records.specs.Items.{record_of}
use Rattle.records.specs.Reading.{stopped, item, said_length, short, following, kind_in, body_in, fields_in, item_in}
use Rattle.records.specs.Reading.{judged, read_following, read_rest, read_at}
use Rattle.records.specs.declared.KeyFields.{KeyFields}
use Rattle.records.proofs.LittleEndian.{length-little_endian, number_in-little_endian}
use Rattle.records.proofs.Fitting.{Small, key_fits-small, key_fits-most}
use Rattle.records.proofs.Injective.{fields-same}
use Rattle.records.proofs.Framing.{read_rest-whole, read_at-rest}
use Rattle.records.proofs.Lengths.{length-field_octets, length-kind-body, length-framed}

-- ---- octets in front of others

module _ (kind : ℕ) (body rest : List ℕ) (small : 2 + length body < 4294967296) where
  abbrev follows : List ℕ
  follows = little_endian 2 kind ++ body

  abbrev front : List ℕ
  front = little_endian 4 (length follows)

  abbrev all : List ℕ
  all = framed kind body ++ rest

  all-is : all ≡ front ++ (follows ++ rest)
  unfolding framed
  all-is = append_assoc front follows rest

  said : said_length all ≡ length follows
  said =
      ap number_in (ap (take 4) all-is ∙ take_at front (follows ++ rest) 4 (length-little_endian 4 (length follows)))
      ∙ number_in-little_endian 4 (length follows) (omega (arith, length-kind-body kind body))

  after : drop 4 all ≡ follows ++ rest
  after = ap (drop 4) all-is ∙ drop_at front (follows ++ rest) 4 (length-little_endian 4 (length follows))

  following-is : following all ≡ follows
  following-is = rw (said, after) (take_at follows rest (length follows) refl)

  whole : short all ≡ false
  unfolding short
  whole =
      let long = length-append (framed kind body) rest in
      let n = length-framed kind body in
      let k = length-kind-body kind body in
      rw (
        le-ltb (length all) 4 (omega arith),
        said,
        le-ltb (length all - 4) (length follows) (omega arith),
        le-ltb (length follows) 2 (omega arith),
      )

  -- a record in front of others is read by its kind and its body
  pub read_rest-framed : (r : Rules) (p : ℕ) → kind < 65536
      → read_rest r p all
      ≡ cond (among kind r.kinds) (judged r (p + length (framed kind body)) (item_in kind body)) (stopped (refusal 12 0 0))
  unfolding read_following
  read_rest-framed r p k =
      let kind-is : kind_in follows ≡ kind =
      ap number_in (take_at (little_endian 2 kind) body 2 (length-little_endian 2 kind)) ∙ number_in-little_endian 2 kind k
      in
      let body_is : body_in follows ≡ body = drop_at (little_endian 2 kind) body 2 (length-little_endian 2 kind) in
      let next : p + 4 + said_length all ≡ p + length (framed kind body) =
      omega (arith, said, length-framed kind body, length-kind-body kind body)
      in
      read_rest-whole r p all whole
      ∙ ap₂ (read_following r) next following-is
      ∙ rw (kind-is, body_is)

-- ---- the items

-- the fields of a key come back
fields_back : (f : KeyFields) (key : List ℕ) → Small f → fields_in (field_octets f ++ key) ≡ f
unfolding fields_in field_octets little_endian
fields_back f key s =
    fields-same _ f
    (number_in-little_endian 1 f.collation s.collation)
    (number_in-little_endian 1 f.valid s.flag)
    (number_in-little_endian 2 f.text_length s.length)

-- an item comes back from its kind and body
item_back : (i : Item) → fits rules i ≡ true → item_in (kind_of i) (body_of i) ≡ Some i
item_back (of_text t) e = refl
item_back (of_key f k) e =
    let four : 4 ≤ length (field_octets f ++ k) = omega (arith, length-append (field_octets f) k, length-field_octets f) in
    rw (
      le-leb 4 (length (field_octets f ++ k)) four,
      fields_back f k (key_fits-small f (length k) e),
      drop_at (field_octets f) k 4 (length-field_octets f),
    )

-- its kind is known, and its record is not too long for its length
known : (i : Item) → among (kind_of i) rules.kinds ≡ true
known (of_text t) = refl
known (of_key f k) = refl

kind-small : (i : Item) → kind_of i < 65536
kind-small (of_text t) = omega arith
kind-small (of_key f k) = omega arith

pub length-body : (i : Item) → fits rules i ≡ true → length (body_of i) ≤ 524292
length-body (of_text t) e = omega (arith, leb-true (length t) 4096 e)
length-body (of_key f k) e =
    omega (
      arith,
      length-append (field_octets f) k,
      length-field_octets f,
      key_fits-most rules f (length k) e,
    )

-- an item that fits is read where its record stands, with the position after it
pub read_rest-written : (i : Item) (p : ℕ) (rest : List ℕ) → fits rules i ≡ true
    → read_rest rules p (record_of i ++ rest) ≡ item i (p + length (record_of i))
read_rest-written i p rest e =
    read_rest-framed (kind_of i) (body_of i) rest (omega (arith, length-body i e)) rules p (kind-small i)
    ∙ rw (known i, item_back i e, e)

-- the same at a position of a slice
pub read_at-written : (i : Item) (slice : List ℕ) (p : ℕ) (rest : List ℕ) → fits rules i ≡ true → drop p slice ≡ record_of i ++ rest
    → read_at rules slice p ≡ item i (p + length (record_of i))
read_at-written i slice p rest e here =
    let some_left : 6 ≤ length slice - p =
    omega (
      arith,
      length-drop p slice,
      ap length here,
      length-append (record_of i) rest,
      length-framed (kind_of i) (body_of i),
    )
    in
    read_at-rest rules slice p (λ end. omega arith) ∙ ap (read_rest rules p) here ∙ read_rest-written i p rest e
