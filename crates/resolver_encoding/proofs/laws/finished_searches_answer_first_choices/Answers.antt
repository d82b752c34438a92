use Rattle.resolver_encoding.proofs.PromiseLemmas.{finished_is_first}
use Rattle.resolver_encoding.proofs.laws.finished_searches_answer_first_choices.Goals as goal

pub returns : goal.returns
returns g c = finished_is_first
