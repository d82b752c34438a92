use Rattle.resolver_report.proofs.ChoiceLemmas.{start}
use Rattle.resolver_report.proofs.plain.search.Goals as goal

pub enter-requires-clause-chosen : goal.enter-requires-clause-chosen
enter-requires-clause-chosen g c = rw (c.requires.nothing_chosen, c.requires.nothing_left) (start g.S.PartialEq.eq c.args.rules.now)
