use Rattle.std.proofs.Common.{◌≡◌, take}
use Rattle.std.specs.HashMap.{get}
use Rattle.std.specs.List.{flat_map}
use Rattle.resolver_report.specs.CandidateLists.{candidates_for, root_candidates_of}
use Rattle.resolver_report.specs.Listed.{optional_items}
use Rattle.resolver_report.proofs.candidate_lists.candidates_by_requirer.Given as goal

abbrev pub invariant-loop-rule : goal.invariant-loop-rule
invariant-loop-rule g l = record {
  root : l.by_root.items ≡ flat_map root_candidates_of (take l.rule-index l.rules);
  solvables : ((s : _) → optional_items (get g.S.PartialEq.eq l.by_solvable s) ≡ flat_map (candidates_for g.S.PartialEq.eq s) (take l.rule-index l.rules));
}
