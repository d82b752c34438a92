use Rattle.resolver_report.specs.ReachedRules.{LeavesKept}
use Rattle.resolver_report.proofs.ReachedRuleLemmas.{AllKept-kept, IsRefuted-kept}
use Rattle.resolver_report.proofs.ReachingLemmas.{LeavesKept-about}
use Rattle.resolver_report.proofs.reached.keep_reached.Goals as goal

pub returns : goal.returns
returns g c =
    let kept : LeavesKept c.args.rules.items c.retain_about.new.rules.items =
    LeavesKept-about c.args.rules.items c.in_ok-set.set.keys
    (rw c.deref.ensures.value at c.in_ok-set.ensures.reached) c.args.rules.items c.retain_about.new.rules.items c.retain_about.ensures in
    record {
      left = kept;
      again = AllKept-kept c.args.rules.items c.retain_about.new.rules.items kept;
      refuted = IsRefuted-kept c.args.rules.items c.retain_about.new.rules.items kept;
      memory = tt;
    }
