use Rattle.resolve.proofs.InputLawLemmas.{demanded_law}
use Rattle.resolve.proofs.laws.demands_are_those_of_lines.Goals as goal

pub returns : goal.returns
returns c = demanded_law
