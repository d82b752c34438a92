use Rattle.std.proofs.Common.{◌≡◌, take, cond}
use Rattle.resolve.specs.Catalogs.{taken, left_out}
use Rattle.resolve.proofs.catalog.provider.CatalogDependencyProvider.filter_candidates.Given as goal

abbrev pub invariant-loop-candidate : goal.invariant-loop-candidate
invariant-loop-candidate l = l.kept.items ≡ cond l.inverse (left_out l.self.packages.versions.keys l.range (take l.candidate-index l.candidates))
    (taken l.self.packages.versions.keys l.range (take l.candidate-index l.candidates))
