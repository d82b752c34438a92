use Rattle.std.proofs.Common.{◌≡◌, [], take}
use Rattle.std.specs.List.{flat_map}
use Rattle.indexmap.specs.IndexSet.{insert_all}
use Rattle.resolver_clause_store.specs.Caches.{IsTrueCache, KeepsAnswers}
use Rattle.resolver_clause_store.specs.Candidates.{sorted_candidates}
use Rattle.resolver_clause_store.proofs.requirements.union_candidates.Given as goal

abbrev pub invariant-loop-version_set : goal.invariant-loop-version_set
invariant-loop-version_set g l =
    let u = g.D.Interner.universe l.provider in
    record {
      is_true : IsTrueCache u l.cache;
      keeps : KeepsAnswers l.fn.cache l.cache;
      taken : l.candidates.keys ≡ insert_all g.D.SolvableId.PartialEq.eq [] (flat_map (sorted_candidates u) (take l.version_set-index l.version_set-items));
    }
