-- Demand 2, each sentence with the theorems that render it.
-- Theorems are about the public calls. One takes what a call's contract says, which `rt check` proves of the code and
-- Contracts.antt takes from the contract itself: of a call on texts `Prepares` or `Called` with the call's outcome and
-- values, which speak of one value c, the call; of `add_line` `Added`; of `check_table` the equation `check_outcome r ≡
-- table_answer t`. It says the sentence of the answer r and of the slices afterwards. The `_accepted` calls have the same
-- `ensures` under a `requires`, an accepted table: where that holds, so does the theorem. Where a theorem has `call (some k)
-- ..`, the call's number names the collation k.
-- Assumes nothing.
use Rattle.std.specs.declared.cmp.Ordering.TheVariants.{Less, Equal, Greater}
use Rattle.search.specs.Substring.{Sought}
use mathlib.Core.Bool.{true}
use Rattle.std.specs.Prelude.{Ok}
use Rattle.demands.specs.Demands.{hit_at}
use mathlib.Core.Path.{◌≡◌, refl}
use Prim.Native.Nat.{ℕ, ◌≤◌, ◌<◌}
use mathlib.Core.Logic.{◌⊎◌, ◌↔◌}
use Rattle.std.specs.Prelude.{None, Some}
use mathlib.Core.List.{List, [], ◌∷◌, map}
use lib.ListN.{length}
use Rattle.terms.specs.Lists.{there, In}
use Rattle.terms.specs.Refusals.{Outcome, refused, gives, Given}
use Rattle.terms.specs.declared.Collation.{Collation}
use Rattle.terms.specs.declared.Collation.TheVariants.{Octet, AsciiCasemap, UnicodeCasemap}
use Rattle.terms.specs.declared.KeyPosition.{KeyPosition}
use Rattle.terms.specs.declared.TextPosition.{TextPosition}
use Rattle.utf8.specs.Utf8.{Character, characters}
use Rattle.hangul.specs.Hangul.{syllable, syllable_parts}
use Rattle.table.specs.Mapping.{Mapping}
use Rattle.table.specs.Table.{Table, form_refusal, entry_mapping, mapping_of}
use Rattle.table.proofs.Form.{parts_of-syllable, parts_of-other, formed-title-syllable}
use Rattle.decompose.specs.Steps.{StepsGive, steps_key, steps_lookups}
use Rattle.decompose.specs.TableCheck.{table_refusal}
use Rattle.decompose.proofs.Demand3.{accepted-steps}
use Rattle.keys.specs.Keys.{PreparedText, upper, prepared, key_of}
use Rattle.keys.specs.declared.Summary.{Summary}
use Rattle.keys.proofs.Validity.{key-valid, key-invalid}
use Rattle.pages.specs.Pages.{Pages}
use Rattle.prepare.specs.Calls.{Lent, lent, call, Called}
use Rattle.prepare.specs.Preparing.{shown_key, Prepares}
use Rattle.prepare.specs.Preparing.{Preparation}
use Rattle.prepare.proofs.Answering.{answered-gives}
use Rattle.compare.specs.Compare.{equality_outcome, order_outcome, equality_values, order_values, OrderSays, EqualSays, flipped}
use Rattle.compare.specs.Compare.{Equality}
use Rattle.compare.specs.Compare.{Ordered}
use Rattle.compare.proofs.Says.{says}
use Rattle.compare.proofs.Preorder.{matches-tie, matches-valid, answers-tie, answers-match, answers-refl, answers-flip}
use Rattle.compare.proofs.Preorder.{answers-trans, answers-total, answers-valid}
use Rattle.search.specs.Covering.{Span, span, Covers}
use Rattle.search.specs.Substring.{substring_outcome, substring_values, sought_values}
use Rattle.ucd.specs.Fields.{semicolons, field, code_point}
use Rattle.ucd.specs.Lines.{Properties, LineSays}
use Rattle.ucd.proofs.Lines.{line_properties-exactly}
use Rattle.builder.specs.Builder.{Built}
use Rattle.builder.specs.Built.{start_of, cut, accepted_of}
use Rattle.builder.proofs.BuiltForm.{built-form}
use Rattle.builder.proofs.BuiltMapping.{entry_mapping-built, built-line, built-other}
use Rattle.demands.specs.Demands.{Precedes, OccursAt, Hit, Grows, HoldsSaid}
use Rattle.demands.specs.Faults.{Syllable}
use Rattle.demands.proofs.Ordering.{less-exactly, greater-exactly}
use Rattle.demands.proofs.Hits.{match-exactly, none-exactly, match-empty, run-same, run-covers, run-least}
use Rattle.demands.proofs.Growing.{grows-is, grows-says, in-accepted, accepted-in, in_whole, in-says}
use Rattle.demands.proofs.Preparing.{shows}
use Rattle.demands.proofs.Reflect.{false-exactly}
use Rattle.demands.proofs.TableFaults.{syllable-exactly}

-- ---- "Keys, equality, order and substring are RFC 4790's and RFC 5051's over the lent table."

-- keys: what is shown of a prepared text is its key
pub prepare-key : {k : Collation} {t : Table} {pg : Pages} {l : Lent} {r : Preparation} {after : List ℕ}
    → Prepares (call (Some k) t pg (l ∷ [])) r after
    → (s : Summary) → r ≡ Ok s → shown_key r l.text after ≡ key_of k (mapping_of t) l.text
prepare-key h s e = shows h e

-- i;octet: the text
pub key-octet : (m : Mapping) (t : List ℕ) → key_of Octet m t ≡ t
key-octet m t = refl

-- i;ascii-casemap: the text with small letters a to z raised
pub key-ascii : (m : Mapping) (t : List ℕ) → key_of AsciiCasemap m t ≡ map upper t
key-ascii m t = refl

-- i;unicode-casemap, of a text that is UTF-8: over an accepted table the key of the published steps
pub key-published : (t : Table) → table_refusal t ≡ None → (text : List ℕ) (chs : List Character) → characters text ≡ Some chs
    → (n : ℕ) × StepsGive (mapping_of t) chs (key_of UnicodeCasemap (mapping_of t) text) n
key-published t ok text chs valid =
    (steps_lookups (mapping_of t) chs, rw (key-valid (mapping_of t) text chs valid) (accepted-steps t ok chs))

-- over any mapping what computes that key
pub key-unicode : (m : Mapping) (t : List ℕ) (chs : List Character) → characters t ≡ Some chs
    → key_of UnicodeCasemap m t ≡ steps_key m chs
key-unicode = key-valid

-- and the text itself where it is not
pub key-broken : (m : Mapping) (t : List ℕ) → characters t ≡ None → key_of UnicodeCasemap m t ≡ t
key-broken = key-invalid

-- the texts of calls of `equal` and `order`, each prepared by itself, whatever the other is
module _ {p q : PreparedText} where
  -- equality is equality of keys
  pub equal-keys : {r : Equality} → EqualSays p q r → (r ≡ Ok true) ↔ (p.key ≡ q.key)
  equal-keys = matches-tie

  -- order compares keys: less is to precede, octet by octet
  pub order-less : {r : Ordered} → OrderSays p q r → (r ≡ Ok Less) ↔ Precedes p.key q.key
  order-less = less-exactly

  -- and greater where the second key precedes the first
  pub order-greater : {r : Ordered} → OrderSays p q r → (r ≡ Ok Greater) ↔ Precedes q.key p.key
  order-greater = greater-exactly

  -- its ties are exactly the texts with one key
  pub order-ties : {r : Ordered} → OrderSays p q r → (r ≡ Ok Equal) ↔ (p.key ≡ q.key)
  order-ties = answers-tie

  -- which are exactly the equal pairs
  pub order-equal : {r : Ordered} {x : Equality} → OrderSays p q r → EqualSays p q x → (r ≡ Ok Equal) ↔ (x ≡ Ok true)
  order-equal = answers-match

  -- it turns round with the texts
  pub order-turned : {r x : Ordered} → OrderSays p q r → OrderSays q p x → x ≡ flipped r
  order-turned = answers-flip

  -- it is total
  pub order-total : {r x : Ordered} → OrderSays p q r → OrderSays q p x → (r ≡ Ok Greater → ⊥) ⊎ (x ≡ Ok Greater → ⊥)
  order-total = answers-total

-- it is reflexive
pub order-reflexive : {p : PreparedText} {r : Ordered} → OrderSays p p r → r ≡ Ok Equal
order-reflexive = answers-refl

-- and transitive
pub order-transitive : {p q s : PreparedText} {r x y : Ordered} → OrderSays p q r → OrderSays q s x → OrderSays p s y
    → (r ≡ Ok Greater → ⊥) → (x ≡ Ok Greater → ⊥) → y ≡ Ok Greater → ⊥
order-transitive = answers-trans

-- of a call of `equal` or `order` on two texts these are the texts prepared, where it is not refused
pub equal-says : {k : Collation} {t : Table} {pg : Pages} {l m : Lent} {r : Equality} {after : List (List ℕ)}
    → Called equality_outcome equality_values (call (Some k) t pg (l ∷ m ∷ [])) r after → Given (equality_outcome r)
    → EqualSays (prepared k (mapping_of t) l.text) (prepared k (mapping_of t) m.text) r
equal-says = says

pub order-says : {k : Collation} {t : Table} {pg : Pages} {l m : Lent} {r : Ordered} {after : List (List ℕ)}
    → Called order_outcome order_values (call (Some k) t pg (l ∷ m ∷ [])) r after → Given (order_outcome r)
    → OrderSays (prepared k (mapping_of t) l.text) (prepared k (mapping_of t) m.text) r
order-says = says

module _ {t : Table} {pg : Pages} {l m : Lent} {after : List (List ℕ)}
    (apart : there (characters l.text) ≡ there (characters m.text) → ⊥) where
  -- under collation 3 a valid and an invalid text never match
  pub never-match : {r : Equality} → Called equality_outcome equality_values (call (Some UnicodeCasemap) t pg (l ∷ m ∷ [])) r after
      → r ≡ Ok true → ⊥
  never-match h e = apart (matches-valid (rw e at h))

  -- nor tie
  pub never-tie : {r : Ordered} → Called order_outcome order_values (call (Some UnicodeCasemap) t pg (l ∷ m ∷ [])) r after
      → r ≡ Ok Equal → ⊥
  never-tie h e = apart (answers-valid (rw e at h))

-- substring, where it is not refused: the text s of l sought in the text u of n
module _ {k : Collation} {t : Table} {pg : Pages} {l n : Lent} {r : Sought} {after : List (List ℕ)}
    (h : Called substring_outcome sought_values (call (Some k) t pg (l ∷ n ∷ [])) r after) (answers : Given (substring_outcome r)) where
  told : substring_outcome r ≡ gives (substring_values k (mapping_of t) l.text n.text)
  told = go (substring_outcome r) refl answers
    where
      go : (o : Outcome) → substring_outcome r ≡ o → Given o → o ≡ gives (substring_values k (mapping_of t) l.text n.text)
      go (refused x) e g = absurd g
      go (gives vs) e g = let is = (answered-gives h vs e).1 in cc

  -- there is no match exactly when the first text's key occurs nowhere in the second's
  pub substring-none : 0 < length l.text
      → (r ≡ Ok None) ↔ ((i : ℕ) → OccursAt (key_of k (mapping_of t) l.text) (key_of k (mapping_of t) n.text) i → ⊥)
  substring-none text = none-exactly k (mapping_of t) l.text n.text r text told

  -- ---- "A hit reports the first occurrence in the key, and the smallest run of whole characters of the text that covers it
  -- (octets, where the text is compared octet by octet)."

  -- a hit at these four positions is reported exactly when the first occurrence, with its run, is there
  pub substring-hit : 0 < length l.text → (a b : KeyPosition) (c d : TextPosition)
      → (r ≡ hit_at a b c d) ↔ Hit k (mapping_of t) l.text n.text a.0 b.0 c.0 d.0
  substring-hit text = match-exactly k (mapping_of t) l.text n.text r text told

  -- both pairs are the same under collations 1 and 2, and under 3 where the second text is invalid
  pub substring-same : 0 < length l.text → (a b : KeyPosition) (c d : TextPosition) → r ≡ hit_at a b c d
      → (k ≡ UnicodeCasemap → characters n.text ≡ None) → span c.0 d.0 ≡ span a.0 b.0
  substring-same text a b c d e = run-same ((substring-hit text a b c d).0 e)

-- an empty first text is found at 0, 0, 0, 0
pub substring-empty : {k : Collation} {t : Table} {pg : Pages} {buffer : List ℕ} {n : Lent} {r : Sought} {after : List (List ℕ)}
    → Called substring_outcome sought_values (call (Some k) t pg (lent [] buffer ∷ n ∷ [])) r after → Given (substring_outcome r)
    → r ≡ hit_at (record { 0 = 0 }) (record { 0 = 0 }) (record { 0 = 0 }) (record { 0 = 0 })
substring-empty {k} {t} {n} {r} h answers = match-empty k (mapping_of t) n.text r (told h answers)

-- under collation 3, in a valid text
module _ {t : Table} {pg : Pages} {l n : Lent} {r : Sought} {after : List (List ℕ)}
    (h : Called substring_outcome sought_values (call (Some UnicodeCasemap) t pg (l ∷ n ∷ [])) r after)
    (answers : Given (substring_outcome r))
    (text : 0 < length l.text) {a b : KeyPosition} {c d : TextPosition} (e : r ≡ hit_at a b c d)
    {chs : List Character} (valid : characters n.text ≡ Some chs) where
  -- the run is one of whole characters, and covers the occurrence
  pub substring-covers : Covers (mapping_of t) chs a.0 b.0 (span c.0 d.0)
  substring-covers = run-covers ((substring-hit h answers text a b c d).0 e) text valid

  -- it is the smallest: every run of whole characters that covers the occurrence contains it
  pub substring-smallest : (run : Span) → Covers (mapping_of t) chs a.0 b.0 run
      → (run.start ≤ c.0) × (d.0 ≤ run.end)
  substring-smallest = run-least ((substring-hit h answers text a b c d).0 e) text valid

-- ---- "Tables built from data lines hold exactly the mappings of the lines accepted."

-- The sentence speaks of a table's entries; the syllables map by rule, whatever the lines are: `built-syllable`.

-- calls of `add_line` have grown a table from the fresh state, over any two slices; `accepted` are the lines that they
-- answered Taken
module _ {t : Table} {lines accepted : List (List ℕ)} {b : Built} (g : Grows (start_of t) lines accepted b) where
  -- cut to what is used, its entries have the mapping of what the accepted lines say
  pub built-holds : HoldsSaid (entry_mapping (cut b)) accepted
  built-holds = record {
    said = accepted_of (start_of t) lines;
    says = grows-says g;
    holds = rw (grows-is g) (entry_mapping-built t lines);
  }

  -- every accepted line has its 15 fields, so that `field` says what stands there
  pub built-whole : (line : List ℕ) → In line accepted → semicolons line ≡ 14
  built-whole = in_whole g

  -- and says something
  pub built-says : (line : List ℕ) → In line accepted → (p : Properties) × LineSays line p
  built-says = in-says g

  -- of the code point of an accepted line they have that line's titlecase and decomposition
  pub built-gives : (line : List ℕ) (p : Properties) → In line accepted → LineSays line p
      → ((entry_mapping (cut b)).title p.code ≡ p.title) × ((entry_mapping (cut b)).parts p.code ≡ p.parts)
  built-gives line p i s =
      rw (grows-is g) (built-line t lines line p (in-accepted ((line_properties-exactly line p).1 s) g i))

  -- and of a code point that no accepted line has in field 0, nothing
  pub built-nothing-else : (c : ℕ) → ((line : List ℕ) → In line accepted → code_point (field 0 line) ≡ Some c → ⊥)
      → ((entry_mapping (cut b)).title c ≡ c) × ((entry_mapping (cut b)).parts c ≡ [])
  built-nothing-else c none_has =
      rw (grows-is g)
      (built-other t lines c
      (λ line p a e. none_has line (accepted-in g a) (rw e at ((line_properties-exactly line p).0 a.given).code)))

  -- it passes checks 3 to 6
  pub built-formed : form_refusal (cut b) ≡ None
  built-formed = rw (grows-is g) (built-form t lines)

  -- what it means of a code point that is no syllable is what its entries say
  pub built-entries : (c : ℕ) → (Syllable c → ⊥)
      → ((mapping_of (cut b)).title c ≡ (entry_mapping (cut b)).title c)
      × ((mapping_of (cut b)).parts c ≡ (entry_mapping (cut b)).parts c)
  built-entries c other = (refl, parts_of-other (cut b) c ((false-exactly (syllable c) (syllable-exactly c)).1 other))

  -- a syllable, of which they say nothing, maps by rule: it is its own titlecase, and its parts are its jamo (request 4)
  pub built-syllable : (c : ℕ) → Syllable c → ((mapping_of (cut b)).title c ≡ c) × ((mapping_of (cut b)).parts c ≡ syllable_parts c)
  built-syllable c s =
      let is = (syllable-exactly c).1 s in (formed-title-syllable (cut b) built-formed c is, parts_of-syllable (cut b) c is)
