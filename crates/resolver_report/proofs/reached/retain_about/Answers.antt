use Rattle.std.proofs.Common.{rules}
use Rattle.resolver_report.specs.Reaching.{IsAbout}
use Rattle.resolver_report.proofs.ReachingLemmas.{LeavesJust-from_retain}
use Rattle.resolver_report.proofs.reached.retain_about.Goals as goal

pub returns : goal.returns
returns g c = LeavesJust-from_retain _ (IsAbout c.args.set.now.keys) _ (λ x b f' k. search rules) _ _ c.retain.ensures.filtered
