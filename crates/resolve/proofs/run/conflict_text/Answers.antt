use Rattle.std.proofs.Common.{◌∙◌, ap}
use Rattle.resolver_report.specs.Graphs.{graph_of}
use Rattle.resolver_report.specs.Messages.{message}
use Rattle.resolvo.specs.Conflicts.{rules_in}
use Rattle.resolvo.specs.Solvers.{provider_in}
use Rattle.resolve.specs.Catalogs.{catalog_universe, same_solvable_ids}
use Rattle.resolve.specs.Runs.{same_name_ids}
use Rattle.resolve.proofs.UniverseLemmas.{catalog_universe_is}
use Rattle.resolve.proofs.run.conflict_text.Goals as goal

pub returns : goal.returns
returns c = record {
  text = c.in_ok-text.ensures.value ∙ (λ i. message (catalog_universe (c.in_ok-message.ensures.provider i)) (c.in_ok-message.ensures.graph i)) ∙
      ap (λ u. message u (graph_of same_name_ids same_solvable_ids (rules_in c.args.conflict.now))) (catalog_universe_is (provider_in c.args.solver.now));
  fault = λ bytes. tt;
}
