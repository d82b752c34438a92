use Rattle.resolver_encoding.proofs.Bridge.{chosen_once, finished_is_valid}
use Rattle.resolver_encoding.proofs.laws.finished_searches_are_answers.Goals as goal

pub returns-clause-answer : goal.returns-clause-answer
returns-clause-answer g c = finished_is_valid

pub returns-clause-once : goal.returns-clause-once
returns-clause-once g c = λ origins trail distinct size. chosen_once origins trail distinct size
