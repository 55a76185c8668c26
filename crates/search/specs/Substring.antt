-- What the substring call answers, in the paper's numbers. `Called` of the crate prepare says the rest of such a call.
-- Assumes nothing.
use Rattle.std.specs.Prelude.{ℕ, ◌+◌, cond, List, [], ◌∷◌, length, Option, None, Some, Result}
use Rattle.terms.specs.Lists.{empty}
use Rattle.terms.specs.Refusals.{Outcome, outcome}
use Rattle.terms.specs.declared.Collation.{Collation}
use Rattle.terms.specs.declared.Refusal.{Refusal}
use Rattle.terms.specs.declared.Collation.TheVariants.{Octet, AsciiCasemap, UnicodeCasemap}
use Rattle.table.specs.Mapping.{Mapping}
use Rattle.utf8.specs.Utf8.{Character, characters}
use Rattle.table.specs.Table.{mapping_of}
use Rattle.keys.specs.Keys.{key_of}
use Rattle.prepare.specs.Calls.{Lent, Call}
use Rattle.occurrence.specs.Occurrence.{occurrence}
use Rattle.search.specs.Covering.{Span, span, covering}
use Rattle.search.specs.declared.Hit.{Hit}

-- what the substring call answers: the hit if there is one, or the refusal
abbrev pub Sought : Type 0
Sought = Result (Option Hit) Refusal

-- the numbers of a hit: 1 match, 2 no-match; start and end in the key, start and end in the text
abbrev pub hit_numbers : Option Hit → List ℕ
hit_numbers (Some h) = 1 ∷ h.key_start.0 ∷ h.key_end.0 ∷ h.text_start.0 ∷ h.text_end.0 ∷ []
hit_numbers None = 2 ∷ 0 ∷ 0 ∷ 0 ∷ 0 ∷ []

-- the answer in the paper's numbers
abbrev pub substring_outcome : Sought → Outcome
substring_outcome r = outcome hit_numbers r

-- the run of a text for a part of its key, by the characters of the text; "Where the second text is invalid .. both pairs are the
-- same"
abbrev pub run_in : Mapping → Option (List Character) → Span → Span
run_in m None s = s
run_in m (Some chs) s = covering m chs s

-- the same by the collation: "or under collations 1 and 2, both pairs are the same"
abbrev pub text_run : Collation → Mapping → List ℕ → Span → Span
text_run Octet m t s = s
text_run AsciiCasemap m t s = s
text_run UnicodeCasemap m t s = run_in m (characters t) s

-- the values of a hit at a part of the key
abbrev pub hit_values : Span → Span → List ℕ
hit_values key text = 1 ∷ key.start ∷ key.end ∷ text.start ∷ text.end ∷ []

-- the values for an occurrence of n octets: "no match gives four zeros"
abbrev pub found_values : Collation → Mapping → List ℕ → ℕ → Option ℕ → List ℕ
found_values k m t n None = 2 ∷ 0 ∷ 0 ∷ 0 ∷ 0 ∷ []
found_values k m t n (Some i) = hit_values (span i (i + n)) (text_run k m t (span i (i + n)))

-- the values of seeking the text s in the text t: "An empty first text matches with 0, 0, 0, 0"
unfoldable pub substring_values : Collation → Mapping → List ℕ → List ℕ → List ℕ
substring_values k m s t =
    cond (empty s)
    (1 ∷ 0 ∷ 0 ∷ 0 ∷ 0 ∷ [])
    (found_values k m t (length (key_of k m s)) (occurrence (key_of k m s) (key_of k m t)))

-- the values of a call that seeks its first text in its second; nothing where the texts are not two, or no collation is named
abbrev pub sought_in : Option Collation → Mapping → List Lent → Option (List ℕ)
sought_in None m ls = None
sought_in (Some k) m [] = None
sought_in (Some k) m (l ∷ []) = None
sought_in (Some k) m (l ∷ n ∷ []) = Some (substring_values k m l.text n.text)
sought_in (Some k) m (l ∷ n ∷ o ∷ ls) = None

abbrev pub sought_values : Call → Option (List ℕ)
sought_values c = sought_in c.collation (mapping_of c.table) c.lents
