-- What an answer of `read_name` says of the list, and counting the names.
-- Assumes nothing.
use Rattle.std.specs.Prelude.{Result, Ok, Err}
use mathlib.Core.Path.{◌≡◌, refl, sym, ap, ap₂, ◌∙◌}
use Prim.Native.Nat.{ℕ, ◌+◌, ◌-◌, ◌≤◌}
use native.Mathlib.Omega.{arith}
use mathlib.Core.List.{List}
use lib.ListN.{length, take, drop, length-drop}
use lib.Seq.{length-take-le}
use Rattle.terms.specs.Lists.{total}
use Rattle.terms.specs.declared.Refusal.{Refusal}
use Rattle.terms.specs.declared.RecordPosition.{RecordPosition}
use Rattle.records.specs.Items.{list_rules, of_text, of_key}
use Rattle.records.specs.Reading.{Reading, end, stopped, item, read_at, reading_outcome, record_outcome}
use Rattle.records.specs.declared.KeyFields.{KeyFields}
use Rattle.records.specs.declared.Record.{Record}
use Rattle.records.specs.declared.Record.TheVariants.{End, Text, Key}
use Rattle.records.proofs.Injective.{record_outcome-inj}
use Rattle.records.proofs.Framing.{read_at-ends}
use Rattle.records.proofs.Octets.{take_part}
use Rattle.records.proofs.Steps.{read_at-next, read_at-text, read_at-long, listed-key}
use Rattle.lists.specs.Names.{names_in, names_from, fault_from, list_fault}
use Rattle.lists.specs.Promises.{name_octets, NameRead, Counted, Lists}
use Rattle.lists.specs.declared.names.NameCount.{NameCount}
use Rattle.lists.specs.declared.names.NamePlace.{NamePlace}
use Rattle.lists.proofs.Steps.{names-end, fault-end, names-name, fault-name, fault-stopped}

-- ---- one record

-- no answer is two
end-text : {a b : RecordPosition} → ◌≡◌ {A = Result Record Refusal} (Ok (Text a b)) (Ok End) → ⊥
end-text e = let z : ◌≡◌ {A = ℕ} 0 1 = cc in omega arith

refused-text : {a b : RecordPosition} {y : Refusal} → Ok (Text a b) ≡ Err y → ⊥
refused-text e = let z : ◌≡◌ {A = ℕ} 0 1 = cc in omega arith

end_refused : {y : Refusal} → Ok End ≡ Err y → ⊥
end_refused e = let z : ◌≡◌ {A = ℕ} 0 1 = cc in omega arith

key-end : {f : KeyFields} {a b : RecordPosition} → ◌≡◌ {A = Result Record Refusal} (Ok (Key f a b)) (Ok End) → ⊥
key-end e = let z : ◌≡◌ {A = ℕ} 0 1 = cc in omega arith

key-refused : {f : KeyFields} {a b : RecordPosition} {y : Refusal} → Ok (Key f a b) ≡ Err y → ⊥
key-refused e = let z : ◌≡◌ {A = ℕ} 0 1 = cc in omega arith

key-text : {f : KeyFields} {a b c d : RecordPosition} → ◌≡◌ {A = Result Record Refusal} (Ok (Key f a b)) (Ok (Text c d)) → ⊥
key-text e = let z : ◌≡◌ {A = ℕ} 0 1 = cc in omega arith

module _ (list : List ℕ) (p : ℕ) (x : Result Record Refusal) (call : record_outcome x ≡ reading_outcome (read_at list_rules list p)) where
  -- the answer to what is there
  told-end : read_at list_rules list p ≡ end → x ≡ Ok End
  told-end e = record_outcome-inj x (Ok End) (call ∙ ap reading_outcome e)

  told-stopped : (y : Refusal) → read_at list_rules list p ≡ stopped y → x ≡ Err y
  told-stopped y e = record_outcome-inj x (Err y) (call ∙ ap reading_outcome e)

  told_text : (t : List ℕ) (next : ℕ) → read_at list_rules list p ≡ item (of_text t) next
      → x ≡ Ok (Text (record { 0 = next - length t }) (record { 0 = next }))
  told_text t next e = record_outcome-inj x (Ok (Text (record { 0 = next - length t }) (record { 0 = next })))
      (call ∙ ap reading_outcome e)

  -- a name
  pub name-read : (a b : RecordPosition) → x ≡ Ok (Text a b) → NameRead list p (record { start = a; end = b })
  name-read a b e = go (read_at list_rules list p) refl
    where
      go : (v : Reading) → read_at list_rules list p ≡ v → NameRead list p (record { start = a; end = b })
      go end f = absurd (end-text (sym e ∙ told-end f))
      go (stopped y) f = absurd (refused-text (sym e ∙ told-stopped y f))
      go (item (of_key k t) next) f = absurd (listed-key list p next k t f)
      go (item (of_text t) next) f =
          let same : ◌≡◌ {A = Result Record Refusal} (Ok (Text a b)) (Ok (Text (record { 0 = next - length t }) (record { 0 = next }))) =
          sym e ∙ told_text t next f
          in
          let from : a.0 ≡ next - length t = cc in
          let upto : b.0 ≡ next = cc in
          let s = read_at-text list_rules list p next t f in
          let n = read_at-next list_rules list p next (of_text t) f in
          let long : b.0 - a.0 ≡ length t = omega (arith, s.0) in
          let part : take (b.0 - a.0) (drop a.0 list) ≡ t =
          ap₂ (λ (i j : ℕ). take i (drop j list)) long from ∙ whole t next s.0 s.1 n.1
          in
          record {
            read = f ∙ ap₂ (λ (u : List ℕ) (m : ℕ). item (of_text u) m) (sym part) (sym upto);
            forward = omega (arith, from, upto);
            within = omega (arith, n.1, upto);
            short = omega (arith, long, s.2);
          }
        where
          whole : (t : List ℕ) (next : ℕ) → length t ≤ next → t ≡ drop (next - length t) (take next list) → next ≤ length list
              → take (length t) (drop (next - length t) list) ≡ t
          whole t next h g w =
              let back : next - length t + length t ≡ next = omega arith in
              take_part (next - length t) (length t) list (omega arith)
              ∙ ap (λ (m : ℕ). drop (next - length t) (take m list)) back
              ∙ sym g

  -- the end
  pub end_read : x ≡ Ok End → p ≡ length list
  end_read e = go (read_at list_rules list p) refl
    where
      go : (v : Reading) → read_at list_rules list p ≡ v → p ≡ length list
      go end f = read_at-ends list_rules list p f
      go (stopped y) f = absurd (end_refused (sym e ∙ told-stopped y f))
      go (item (of_key k t) next) f = absurd (listed-key list p next k t f)
      go (item (of_text t) next) f = absurd (end-text (sym (told_text t next f) ∙ e))

  -- a refusal
  pub stopped-read : (y : Refusal) → x ≡ Err y → read_at list_rules list p ≡ stopped y
  stopped-read y e = go (read_at list_rules list p) refl
    where
      go : (v : Reading) → read_at list_rules list p ≡ v → read_at list_rules list p ≡ stopped y
      go end f = absurd (end_refused (sym (told-end f) ∙ e))
      go (stopped z) f = let same : ◌≡◌ {A = Result Record Refusal} (Err y) (Err z) = sym e ∙ told-stopped z f in f ∙ (let w : z ≡ y = cc in ap stopped w)
      go (item (of_key k t) next) f = absurd (listed-key list p next k t f)
      go (item (of_text t) next) f = absurd (refused-text (sym (told_text t next f) ∙ e))

  -- never a key
  pub no_key : (f : KeyFields) (a b : RecordPosition) → x ≡ Ok (Key f a b) → ⊥
  no_key k a b e = go (read_at list_rules list p) refl
    where
      go : (v : Reading) → read_at list_rules list p ≡ v → ⊥
      go end f = key-end (sym e ∙ told-end f)
      go (stopped y) f = key-refused (sym e ∙ told-stopped y f)
      go (item (of_key g t) next) f = listed-key list p next g t f
      go (item (of_text t) next) f = key-text (sym e ∙ told_text t next f)

  -- what is no text and not refused is the end
  pub other-end : (r : Record) → x ≡ Ok r → ((a b : RecordPosition) → r ≡ Text a b → ⊥) → p ≡ length list
  other-end End e other = end_read e
  other-end (Text a b) e other = absurd (other a b refl)
  other-end (Key f a b) e other = absurd (no_key f a b e)

-- ---- counting

-- the names before a position were counted, and their octets
pub record Counting (list : List ℕ) (p names octets : ℕ) : Type 0 where
  pub inside : p ≤ length list
  pub few : names ≤ p
  pub less : octets ≤ p
  pub named : names + length (names_from list p) ≡ length (names_in list)
  pub summed : octets + total (λ t. length t) (names_from list p) ≡ name_octets list
  pub fault : fault_from list p ≡ list_fault list

pub counting-start : (list : List ℕ) → Counting list 0 0 0
counting-start list = record {
  inside = omega arith;
  few = omega arith;
  less = omega arith;
  named = omega arith;
  summed = omega arith;
  fault = refl;
}

module _ {list : List ℕ} {p names octets : ℕ} (c : Counting list p names octets) where
  module _ (r : NamePlace) (n : NameRead list p r) where
    abbrev part : List ℕ
    part = take (r.end.0 - r.start.0) (drop r.start.0 list)

    long : length part ≡ r.end.0 - r.start.0
    long =
        length-take-le (r.end.0 - r.start.0) (drop r.start.0 list)
        (omega (arith, length-drop r.start.0 list, n.forward, n.within))

    -- the next position is past the name
    pub counting-onward : p + 6 + (r.end.0 - r.start.0) ≡ r.end.0
    counting-onward = omega (arith, read_at-long list_rules list p r.end.0 part n.read, long)

    pub counting_more : Counting list r.end.0 (names + 1) (octets + (r.end.0 - r.start.0))
    unfolding total
    counting_more =
        let here = names-name list p c.inside part r.end.0 n.read in
        record {
          inside = n.within;
          few = omega (arith, c.few, counting-onward);
          less = omega (arith, c.less, counting-onward);
          named = omega (arith, c.named, ap length here);
          summed = omega (arith, c.summed, ap (total (λ t. length t)) here, long);
          fault = sym (fault-name list p c.inside (of_text part) r.end.0 n.read) ∙ c.fault;
        }

  -- at the end all were counted
  pub counting-done : p ≡ length list → Lists list (Ok (record { names = names; octets = octets }))
  unfolding total
  counting-done e =
      let none_left = names-end list p e in
      record {
        refusal = sym (fault-end list p e) ∙ c.fault;
        counted = λ m same. counted_same same (record {
          names = omega (arith, c.named, ap length none_left);
          octets = omega (arith, c.summed, ap (total (λ t. length t)) none_left);
        });
      }
    where
      counted_same : {m n : NameCount} → ◌≡◌ {A = Result NameCount Refusal} (Ok n) (Ok m) → Counted list n → Counted list m
      counted_same {m} {n} same k = let z : n ≡ m = cc in rw (← z) k

  -- a record that is refused
  pub counting-stopped : (y : Refusal) → read_at list_rules list p ≡ stopped y → Lists list (Err y)
  counting-stopped y e = record {
    refusal = sym (fault-stopped list p c.inside y e) ∙ c.fault;
    counted = λ m same. absurd (let z : ◌≡◌ {A = ℕ} 0 1 = cc in omega arith);
  }
