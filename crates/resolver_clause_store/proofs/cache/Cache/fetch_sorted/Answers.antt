use Rattle.std.proofs.Common.{◌≡◌, sym, ap}
use Rattle.std.proofs.lemmas.Map.Views.{Contains-keys_from_lookup}
use Rattle.std.specs.Map.{keys_of}
use Rattle.resolver_clause_store.specs.Candidates.{sorted_candidates}
use Rattle.resolver_clause_store.proofs.CacheLemmas.{sorted_at}
use Rattle.resolver_clause_store.proofs.TableLemmas.{IsWithin-same, put_all, put_keys, put_has}
use Rattle.resolver_clause_store.proofs.VersionSetLemmas.{same_version_set, version_sets_are_values}
use Rattle.resolver_clause_store.proofs.cache.Cache.fetch_sorted.Goals as goal

pub returns-then-contains_key-clause-has : goal.returns-then-contains_key-clause-has
returns-then-contains_key-clause-has g c = Contains-keys_from_lookup version_sets_are_values.alone _ _ (sym c.if-contains_key.ensures)

pub returns-in_err-insert-clause-keeps : goal.returns-in_err-insert-clause-keeps
returns-in_err-insert-clause-keeps g c =
    let kept = c.fetch_candidates.ensures.keeps in
    record {
      packages = kept.packages;
      matching = kept.matching;
      non_matching = kept.non_matching;
      sorted = λ v h. IsWithin-same _ _ (ap keys_of c.in_err-insert.ensures.err) v (kept.sorted v h);
      dependencies = kept.dependencies;
    }

pub returns : goal.returns
returns g c =
    let u = g.D.Interner.universe c.args.provider.now in
    let held = c.fetch_candidates.ensures.is_true in
    let kept = c.fetch_candidates.ensures.keeps in
    let first = sorted_at u c.args.version_set c.candidates-listing.result.now _ _ (c.candidates-listing.ensures u held) c.version_set_name-name.ensures
    c.in_ok-sorted.ensures.value in
    record {
      is_true = record {
        packages = held.packages;
        matching = held.matching;
        non_matching = held.non_matching;
        sorted = put_all same_version_set version_sets_are_values (λ e.
            e.1.items ≡ sorted_candidates u e.0) _ _ _ _ _ c.in_ok-insert.ensures.entries first held.sorted;
        dependencies = held.dependencies;
      };
      keeps = record {
        packages = kept.packages;
        matching = kept.matching;
        non_matching = kept.non_matching;
        sorted = λ v h. put_keys same_version_set _ _ _ _ _ c.in_ok-insert.ensures.entries v (kept.sorted v h);
        dependencies = kept.dependencies;
      };
      has = put_has same_version_set version_sets_are_values _ _ _ _ _ c.in_ok-insert.ensures.entries c.in_ok-insert.ensures.old;
      refusal = tt;
    }
