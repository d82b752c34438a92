use Rattle.resolve.proofs.InputLawLemmas.{required_law}
use Rattle.resolve.proofs.laws.requirements_are_those_of_lines.Goals as goal

pub returns : goal.returns
returns c = required_law
