use Rattle.resolve.proofs.InputLawLemmas.{found_law}
use Rattle.resolve.proofs.laws.declared_solvables_are_found.Goals as goal

pub returns : goal.returns
returns c = found_law
