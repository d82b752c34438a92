use Rattle.resolver_report.proofs.ReachedRuleLemmas.{IsRefuted-kept}
use Rattle.resolver_report.proofs.laws.kept_rules_stay_refuted.Goals as goal

pub returns : goal.returns
returns g c = IsRefuted-kept
