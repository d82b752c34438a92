use Rattle.resolve.proofs.InputLawLemmas.{declared_law}
use Rattle.resolve.proofs.laws.solvables_are_declared.Goals as goal

pub returns : goal.returns
returns c = declared_law
