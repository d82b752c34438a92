use Rattle.resolver_encoding.proofs.TrailLemmas.{follows_still}
use Rattle.resolver_encoding.proofs.laws.chosen_lists_stay.Goals as goal

pub returns : goal.returns
returns g c = λ chosen origins more old new count keeps size stay. follows_still origins more old new count keeps size stay chosen
