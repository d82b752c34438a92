use Rattle.resolve.proofs.InputLawLemmas.{specs_law}
use Rattle.resolve.proofs.laws.version_sets_are_specs.Goals as goal

pub returns : goal.returns
returns c = specs_law
