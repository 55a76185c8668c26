-- What the contracts of the bulk calls say, as Contracts.antt and ContractsC.antt have it of the others: the theorems of Bulk.antt
-- take just that, and no call asks for anything.
-- Assumes nothing.
use mathlib.Core.List.{[], ◌∷◌}
use contract.Lifetimes.{Lfts}
use denote.Triple.Clauses.{AtExit}
use borrow.Fn.Kinds.{Dens, ended_of, res_t}
use Rattle.terms.specs.Collations.{collation_of}
use Rattle.pages.specs.Pages.{pages}
use Rattle.many.specs.Many.{many_call, PreparesManyPaging}
use Rattle.many.proofs.prepare_many.Kinds as prepare-many-kinds
use Rattle.many.proofs.prepare_many.Reads as prepare-many
use Rattle.matching.specs.Matching.{KeysCall, keys_call, Matches}
use Rattle.matching.proofs.match_keys.Kinds as match-keys-kinds
use Rattle.matching.proofs.match_keys.Reads as match-keys
use Rattle.mz_many.specs.Promises.{PreparesManyRowPaging, MatchesRow}
use Rattle.mz_many.proofs.mz_prepare_many.Kinds as mz-prepare-many-kinds
use Rattle.mz_many.proofs.mz_prepare_many.Reads as mz-prepare-many
use Rattle.mz_many.proofs.mz_match_keys.Kinds as mz-match-keys-kinds
use Rattle.mz_many.proofs.mz_match_keys.Reads as mz-match-keys

-- `prepare_many(collation, octets, ends, entries, pool, presence, ranks, store, key_ends, valid)`
module _ (κs : Lfts 9) (a : Dens κs prepare-many-kinds.ps) where
  pub prepare-many-asks-nothing : prepare-many.Asked κs a
  prepare-many-asks-nothing = tt

  pub prepare-many-contract : (r : (res_t prepare-many-kinds.r κs).Denot)
      (s : AtExit (ended_of 9 prepare-many-kinds.ps prepare-many-kinds.r) κs)
      → prepare-many.Learnt κs a r s
      → PreparesManyPaging
      (many_call (collation_of a.0) a.1.0.now a.1.1.0.now a.1.1.1.0.now a.1.1.1.1.0.now
      a.1.1.1.1.1.0.now a.1.1.1.1.1.1.0.now a.1.1.1.1.1.1.1.0.now
      a.1.1.1.1.1.1.1.1.0.now a.1.1.1.1.1.1.1.1.1.0.now) r
      (s.1.1.1.1.1.1.1.0.now ∷ s.1.1.1.1.1.1.1.1.0.now ∷ s.1.1.1.1.1.1.1.1.1.0.now ∷ [])
      (pages s.1.1.1.1.1.0.now s.1.1.1.1.1.1.0.now)
  prepare-many-contract r s h = h

-- `match_keys(store, ends, first_names, row, repeats, partners)`
module _ (κs : Lfts 5) (a : Dens κs match-keys-kinds.ps) where
  abbrev keys : KeysCall
  keys =
      keys_call a.0.now a.1.0.now a.1.1.0 a.1.1.1.0.now a.1.1.1.1.0.now a.1.1.1.1.1.0.now

  pub match-keys-asks-nothing : match-keys.Asked κs a
  match-keys-asks-nothing = tt

  pub match-keys-contract : (r : (res_t match-keys-kinds.r κs).Denot)
      (s : AtExit (ended_of 5 match-keys-kinds.ps match-keys-kinds.r) κs)
      → match-keys.Learnt κs a r s
      → Matches keys r (s.1.1.1.0.now ∷ s.1.1.1.1.0.now ∷ s.1.1.1.1.1.0.now ∷ [])
  match-keys-contract r s h = h

-- `mz_prepare_many(collation, octets, ends, entries, pool, presence, ranks, store, key_ends, valid, answer)`
module _ (κs : Lfts 10) (a : Dens κs mz-prepare-many-kinds.ps) where
  pub mz-prepare-many-asks-nothing : mz-prepare-many.Asked κs a
  mz-prepare-many-asks-nothing = tt

  pub mz-prepare-many-contract : (r : (res_t mz-prepare-many-kinds.r κs).Denot)
      (s : AtExit (ended_of 10 mz-prepare-many-kinds.ps mz-prepare-many-kinds.r) κs)
      → mz-prepare-many.Learnt κs a r s
      → PreparesManyRowPaging
      (many_call (collation_of a.0) a.1.0.now a.1.1.0.now a.1.1.1.0.now a.1.1.1.1.0.now
      a.1.1.1.1.1.0.now a.1.1.1.1.1.1.0.now a.1.1.1.1.1.1.1.0.now
      a.1.1.1.1.1.1.1.1.0.now a.1.1.1.1.1.1.1.1.1.0.now) s.1.1.1.1.1.1.1.1.1.1.0.now
      (s.1.1.1.1.1.1.1.0.now ∷ s.1.1.1.1.1.1.1.1.0.now ∷ s.1.1.1.1.1.1.1.1.1.0.now ∷ [])
      (pages s.1.1.1.1.1.0.now s.1.1.1.1.1.1.0.now)
  mz-prepare-many-contract r s h = h

-- `mz_match_keys(store, ends, first_names, row, repeats, partners, answer)`
module _ (κs : Lfts 6) (a : Dens κs mz-match-keys-kinds.ps) where
  pub mz-match-keys-asks-nothing : mz-match-keys.Asked κs a
  mz-match-keys-asks-nothing = tt

  pub mz-match-keys-contract : (r : (res_t mz-match-keys-kinds.r κs).Denot)
      (s : AtExit (ended_of 6 mz-match-keys-kinds.ps mz-match-keys-kinds.r) κs)
      → mz-match-keys.Learnt κs a r s
      → MatchesRow
      (keys_call a.0.now a.1.0.now a.1.1.0 a.1.1.1.0.now a.1.1.1.1.0.now a.1.1.1.1.1.0.now)
      s.1.1.1.1.1.1.0.now
      (s.1.1.1.0.now ∷ s.1.1.1.1.0.now ∷ s.1.1.1.1.1.0.now ∷ [])
  mz-match-keys-contract r s h = h
