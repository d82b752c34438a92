use Rattle.resolver_report.specs.Marks.{can_be_installed, must_be_missing}
use Rattle.resolver_report.proofs.LeastLemmas.{marked_least}
use Rattle.resolver_report.proofs.MonotoneLemmas.{installable_monotone, missing_monotone}
use Rattle.resolver_report.proofs.marks.marks_are_least_closed.Goals as goal

pub returns-clause-installable : goal.returns-clause-installable
returns-clause-installable _ _ graph = marked_least graph.shape (can_be_installed graph) (installable_monotone graph)

pub returns-clause-missing : goal.returns-clause-missing
returns-clause-missing _ _ graph = marked_least graph.shape (must_be_missing graph) (missing_monotone graph)
