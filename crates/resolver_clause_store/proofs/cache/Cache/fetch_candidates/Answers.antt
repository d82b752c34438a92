use Rattle.std.proofs.Common.{◌≡◌, sym}
use Rattle.std.specs.Prelude.{Some}
use Rattle.resolver_clause_store.specs.Universe.{package_of}
use Rattle.std.proofs.lemmas.Map.Views.{Contains-keys_from_lookup}
use Rattle.resolver_clause_store.proofs.TableLemmas.{put_all, put_keys, put_has}
use Rattle.resolver_clause_store.proofs.cache.Cache.fetch_candidates.Goals as goal

pub returns-then-contains_key-clause-has : goal.returns-then-contains_key-clause-has
returns-then-contains_key-clause-has g c = Contains-keys_from_lookup g.met.D.Interner.names_are_values.alone _ _ (sym c.if-contains_key.ensures)

pub returns : goal.returns
returns g c =
    let u = g.D.Interner.universe c.args.provider.now in
    record {
      is_true = record {
        packages = put_all g.N.PartialEq.eq g.met.D.Interner.names_are_values (λ e.
            package_of (Some e.1) ≡ u.package_named e.0) _ _ _ _ _ c.in_ok-insert.ensures.entries c.in_ok-package.ensures.value c.requires.packages;
        matching = c.requires.matching;
        non_matching = c.requires.non_matching;
        sorted = c.requires.sorted;
        dependencies = c.requires.dependencies;
      };
      keeps = record {
        packages = put_keys g.N.PartialEq.eq _ _ _ _ _ c.in_ok-insert.ensures.entries;
        matching = λ q h. h;
        non_matching = λ q h. h;
        sorted = λ q h. h;
        dependencies = λ q h. h;
      };
      has = put_has g.N.PartialEq.eq g.met.D.Interner.names_are_values _ _ _ _ _ c.in_ok-insert.ensures.entries c.in_ok-insert.ensures.old;
      refusal = tt;
    }
