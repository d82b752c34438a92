use Rattle.resolver_report.proofs.SearchLemmas.{BreaksSome-refuted, HasTwo-refuted, Obeys-from_tests}
use Rattle.resolver_report.proofs.plain.examine.Goals as goal

pub returns-then-breaks_some : goal.returns-then-breaks_some
returns-then-breaks_some g c = BreaksSome-refuted _ _ c.if-breaks_some.ensures

pub returns-then-has_two : goal.returns-then-has_two
returns-then-has_two g c = HasTwo-refuted _ _ c.if-has_two.ensures

pub returns-in-None : goal.returns-in-None
returns-in-None g c = Obeys-from_tests c.args.set.now c.args.rules.now c.if-breaks_some.ensures c.if-has_two.ensures c.in-None.ensures
