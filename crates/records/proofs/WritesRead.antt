-- Writing what was read: the record of an item that was read is the octets that it was read from.
-- Assumes nothing.
use mathlib.Core.Path.{◌≡◌, refl, sym, ap, ◌∙◌}
use Prim.Native.Nat.{ℕ, ◌+◌, ◌-◌, ◌≤◌}
use native.Mathlib.Omega.{arith}
use mathlib.Core.Bool.{Bool, true, false, ◌&&◌}
use mathlib.Core.List.{List, [], ◌∷◌, ◌++◌}
use Rattle.std.specs.Prelude.{Option, None, Some}
use lib.Dec.{eqb, leb}
use lib.ListN.{length, take, drop, take-append-drop}
use lib.Seq.{length-take-le, take-add}
use borrow.Author.Tests.{eqb-true, leb-true}
use Rattle.terms.specs.declared.Refusal.{Refusal}
use Rattle.terms.proofs.Tests.{both, none-some}
use Rattle.records.specs.Numbers.{little_endian, Octets}
use Rattle.records.specs.Items.{Rules, Item, of_text, of_key, among, fits, field_octets, kind_of, body_of, framed, record_of}
use Rattle.records.specs.Reading.{end, stopped, item, said_length, short, following, kind_in, body_in, fields_in, item_in}
use Rattle.records.specs.Reading.{judged, read_following, read_rest, read_at}
use Rattle.records.proofs.LittleEndian.{little_endian-number_in, octets-take, octets-drop}
use Rattle.records.proofs.Judging.{reads_known, reads-unknown}
use Rattle.records.proofs.Framing.{Whole, short-false, length-following}

-- ---- what reading an item says

-- an item was read at a position: a whole record stands there, of its kind, which is known, and its body, and it fits
pub record Found (r : Rules) (slice : List ℕ) (p : ℕ) (i : Item) (next : ℕ) : Type 0 where
  pub whole : Whole (drop p slice)
  pub known : among (kind_in (following (drop p slice))) r.kinds ≡ true
  pub held : item_in (kind_in (following (drop p slice))) (body_in (following (drop p slice))) ≡ Some i
  pub fit : fits r i ≡ true
  pub after : next ≡ p + 4 + said_length (drop p slice)

-- an item is neither the end nor a refusal
end-item : {A : Type 0} {i : Item} {n : ℕ} → end ≡ item i n → A
end-item e = absurd (let z : ◌≡◌ {A = ℕ} 0 1 = cc in omega arith)

stopped-item : {A : Type 0} {x : Refusal} {i : Item} {n : ℕ} → stopped x ≡ item i n → A
stopped-item e = absurd (let z : ◌≡◌ {A = ℕ} 0 1 = cc in omega arith)

judged-item : (r : Rules) (m : ℕ) (o : Option Item) (i : Item) (n : ℕ) → judged r m o ≡ item i n
    → (o ≡ Some i) × (fits r i ≡ true) × (n ≡ m)
judged-item r m None i n e = stopped-item e
judged-item r m (Some j) i n e = go (fits r j) refl
  where
    go : (b : Bool) → fits r j ≡ b → (Some j ≡ Some i) × (fits r i ≡ true) × (n ≡ m)
    go true f =
        let same : item j m ≡ item i n = rw f at e in
        let is : j ≡ i = cc in
        (ap Some is, rw is at f, cc)
    go false f = stopped-item (rw f at e)

following-item : (r : Rules) (m : ℕ) (octets : List ℕ) (i : Item) (n : ℕ) → read_following r m octets ≡ item i n
    → (among (kind_in octets) r.kinds ≡ true) × (judged r m (item_in (kind_in octets) (body_in octets)) ≡ item i n)
following-item r m octets i n e = go (among (kind_in octets) r.kinds) refl
  where
    go : (b : Bool) → among (kind_in octets) r.kinds ≡ b
        → (among (kind_in octets) r.kinds ≡ true) × (judged r m (item_in (kind_in octets) (body_in octets)) ≡ item i n)
    go true f = (f, sym (reads_known r m octets (kind_in octets) f refl) ∙ e)
    go false f = stopped-item (sym (reads-unknown r m octets f) ∙ e)

rest-item : (r : Rules) (p : ℕ) (rest : List ℕ) (i : Item) (n : ℕ) → read_rest r p rest ≡ item i n
    → (short rest ≡ false) × (read_following r (p + 4 + said_length rest) (following rest) ≡ item i n)
unfolding read_rest
rest-item r p rest i n e = go (short rest) refl
  where
    go : (b : Bool) → short rest ≡ b
        → (short rest ≡ false) × (read_following r (p + 4 + said_length rest) (following rest) ≡ item i n)
    go true f = stopped-item (rw f at e)
    go false f = (f, rw f at e)

pub read_at-found : (r : Rules) (slice : List ℕ) (p : ℕ) (i : Item) (n : ℕ) → read_at r slice p ≡ item i n → Found r slice p i n
unfolding read_at
read_at-found r slice p i n e = go (eqb p (length slice)) refl
  where
    go : (b : Bool) → eqb p (length slice) ≡ b → Found r slice p i n
    go true f = end-item (rw f at e)
    go false f =
        let rest = rest-item r p (drop p slice) i n (rw f at e) in
        let follows = following-item r _ (following (drop p slice)) i n rest.1 in
        let judges = judged-item r _ _ i n follows.1 in
        record {
          whole = short-false (drop p slice) rest.0;
          known = follows.0;
          held = judges.0;
          fit = judges.1;
          after = judges.2;
        }

-- ---- the item has the kind and the body that it was read from

-- the fields of a body of four octets, written again
fields-again : (body : List ℕ) → 4 ≤ length body → Octets body → field_octets (fields_in body) ++ drop 4 body ≡ body
unfolding field_octets fields_in
fields-again [] h octets = absurd (omega arith)
fields-again (a ∷ []) h octets = absurd (omega arith)
fields-again (a ∷ b ∷ []) h octets = absurd (omega arith)
fields-again (a ∷ b ∷ c ∷ []) h octets = absurd (omega arith)
fields-again (a ∷ b ∷ c ∷ d ∷ key) h octets =
    rw (
      little_endian-number_in (a ∷ []) (octets-take 1 (a ∷ b ∷ c ∷ d ∷ key) octets),
      little_endian-number_in (b ∷ []) (octets-take 1 (b ∷ c ∷ d ∷ key) (octets-drop 1 (a ∷ b ∷ c ∷ d ∷ key) octets)),
      little_endian-number_in (c ∷ d ∷ []) (octets-take 2 (c ∷ d ∷ key) (octets-drop 2 (a ∷ b ∷ c ∷ d ∷ key) octets)),
    )

module _ (kind : ℕ) (body : List ℕ) (i : Item) (e : item_in kind body ≡ Some i) where
  -- a text, or a key of at least four octets
  pub item_in-cases : {A : Type 0}
      → (kind ≡ 1 → i ≡ of_text body → A)
      → (kind ≡ 2 → 4 ≤ length body → i ≡ of_key (fields_in body) (drop 4 body) → A)
      → A
  item_in-cases {A} text key = go (eqb kind 1) refl (eqb kind 2 && leb 4 (length body)) refl
    where
      go : (a : Bool) → eqb kind 1 ≡ a → (b : Bool) → eqb kind 2 && leb 4 (length body) ≡ b → A
      go true f b g =
          let same : Some (of_text body) ≡ Some i = rw f at e in
          text (eqb-true kind 1 f) (cc)
      go false f true g =
          let same : Some (of_key (fields_in body) (drop 4 body)) ≡ Some i = rw (f, g) at e in
          let each = both (eqb kind 2) (leb 4 (length body)) g in
          key (eqb-true kind 2 each.0) (leb-true 4 (length body) each.1) (cc)
      go false f false g = absurd (none-some i (rw (f, g) at e))

  pub item_in-kind : kind_of i ≡ kind
  item_in-kind = item_in-cases (λ k s. rw (s, k)) (λ k four s. rw (s, k))

  item_in-body : Octets body → body_of i ≡ body
  item_in-body octets = item_in-cases (λ k s. rw s) (λ k four s. rw s (fields-again body four octets))

-- ---- so its record is those octets

-- what follows the length, written again with its length
framed-again : (rest : List ℕ) → Whole rest → Octets rest
    → framed (kind_in (following rest)) (body_in (following rest)) ≡ take (4 + said_length rest) rest
unfolding framed
framed-again rest w octets =
    let octets-after = octets-take (said_length rest) (drop 4 rest) (octets-drop 4 rest octets) in
    let n = length-following rest w in
    let kind : little_endian 2 (kind_in (following rest)) ≡ take 2 (following rest) =
    rw (length-take-le 2 (following rest) (omega (arith, n, w.kind))) at
    (little_endian-number_in (take 2 (following rest)) (octets-take 2 (following rest) octets-after))
    in
    let follows : little_endian 2 (kind_in (following rest)) ++ body_in (following rest) ≡ following rest =
    rw kind (take-append-drop 2 (following rest))
    in
    let length-is : little_endian 4 (said_length rest) ≡ take 4 rest =
    rw (length-take-le 4 rest w.four) at (little_endian-number_in (take 4 rest) (octets-take 4 rest octets))
    in
    rw (follows, n, length-is) (sym (take-add 4 (said_length rest) rest))

-- "writing what was read": the record of an item is the octets from its position up to the next
pub record-again : (r : Rules) (slice : List ℕ) (p : ℕ) (i : Item) (next : ℕ) → Octets slice → Found r slice p i next
    → record_of i ≡ take (next - p) (drop p slice)
record-again r slice p i next octets f =
    let rest = drop p slice in
    let here = octets-drop p slice octets in
    let body = body_in (following rest) in
    let n : next - p ≡ 4 + said_length rest = omega (arith, f.after) in
    rw (
      item_in-kind (kind_in (following rest)) body i f.held,
      item_in-body (kind_in (following rest)) body i f.held
          (octets-drop 2 (following rest) (octets-take (said_length rest) (drop 4 rest) (octets-drop 4 rest here))),
      n,
    )
    (framed-again rest f.whole here)
