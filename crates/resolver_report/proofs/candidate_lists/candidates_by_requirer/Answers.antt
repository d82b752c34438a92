use Rattle.std.proofs.Common.{◌∙◌, ap, arith}
use Rattle.std.proofs.lemmas.List.{take_all}
use Rattle.std.specs.List.{flat_map}
use Rattle.resolver_report.specs.CandidateLists.{candidates_for, root_candidates_of}
use Rattle.resolver_report.proofs.CandidateListLemmas.{flat_map_next}
use Rattle.resolver_report.proofs.candidate_lists.candidates_by_requirer.Goals as goal

pub loop-rule-preserved : goal.loop-rule-preserved
loop-rule-preserved g c = record {
  root = c.in_ok-add_candidates.ensures.root ∙
      flat_map_next root_candidates_of c.args.rules.now c.loop-rule.by_root.items c.loop-rule.rule-index c.rule-item.result
      (omega arith) c.rule-item.is c.loop-rule.invariant.root;
  solvables = λ s. c.in_ok-add_candidates.ensures.solvables s ∙
      flat_map_next (candidates_for g.S.PartialEq.eq s) c.args.rules.now _ c.loop-rule.rule-index c.rule-item.result (omega arith) c.rule-item.is
      (c.loop-rule.invariant.solvables s);
}

pub returns-clause-value : goal.returns-clause-value
returns-clause-value g c = record {
  root = c.loop-rule.invariant.root ∙ ap (flat_map root_candidates_of) (take_all c.loop-rule.rule-index c.args.rules.now (omega arith));
  solvables = λ s. c.loop-rule.invariant.solvables s ∙
      ap (flat_map (candidates_for g.S.PartialEq.eq s)) (take_all c.loop-rule.rule-index c.args.rules.now (omega arith));
}
