use Rattle.resolve.proofs.InputLawLemmas.{alone_law}
use Rattle.resolve.proofs.laws.equal_specs_have_one_id.Goals as goal

pub returns : goal.returns
returns c = alone_law
