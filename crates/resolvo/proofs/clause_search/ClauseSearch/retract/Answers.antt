use Rattle.std.proofs.Common.{ap, arith}
use Rattle.resolvo.proofs.TurnLemmas.{consistent-cut, cut-free, first-cut, loaded-turn}
use Rattle.resolver_clause_store.specs.declared.Watches.{Watches}
use Rattle.resolver_clause_store.specs.WatchesView.{pairs_of}
use Rattle.resolvo.proofs.WatchedLemmas.{in_lists-same}
use Rattle.resolvo.proofs.clause_search.ClauseSearch.retract.Goals as goal

pub returns-clause-consistent : goal.returns-clause-consistent
returns-clause-consistent c =
    let turn = c.requires.consistent.turn in
    consistent-cut c.args.self.now _ _ _ _ _ _ _ c.requires.consistent c.cut.ensures
    (omega (arith, turn.some c.requires.turn)) c.min-self.ensures c.level-self.ensures.top c.level-self.ensures.bound
    (c.in_ok-return_to.ensures.propagator _ _ _
    (omega (arith, turn.some c.requires.turn, turn.inside)) c.begins_level-began.ensures c.cut.ensures c.requires.consistent.propagator) c.cut-2.ensures

pub returns-clause-loaded : goal.returns-clause-loaded
returns-clause-loaded c = λ given numbers loaded. loaded-turn c.args.self.now _ _ _ _ _ _ _ given numbers loaded

pub returns-clause-free : goal.returns-clause-free
returns-clause-free c =
    let turn = c.requires.consistent.turn in
    cut-free _ _ _ c.cut.ensures (omega (arith, turn.some c.requires.turn, turn.inside))

pub returns-clause-count : goal.returns-clause-count
returns-clause-count c =
    let turn = c.requires.consistent.turn in
    omega (arith, c.min-self.ensures, turn.some c.requires.turn, turn.bookmarked, c.cut.ensures.length)

pub returns-clause-kept : goal.returns-clause-kept
returns-clause-kept c =
    let turn = c.requires.consistent.turn in
    first-cut _ _ _ _ _ c.cut.ensures (omega (arith, turn.some c.requires.turn, turn.inside)) c.min-self.ensures

pub begins_level-began-requires : goal.begins_level-began-requires
begins_level-began-requires c =
    let turn = c.requires.consistent.turn in
    omega (arith, turn.some c.requires.turn, turn.inside)

pub invariant_of-self : goal.invariant_of-self
invariant_of-self c = record {
  in_lists = in_lists-same _ _ _ _ c.requires.consistent.propagator
      (ap (λ (w : Watches). pairs_of w) c.return_to.ensures.watches);
}

pub invariant_of-self-2 : goal.invariant_of-self-2
invariant_of-self-2 c = record {
  in_lists = in_lists-same _ _ _ _ c.requires.consistent.propagator
      (ap (λ (w : Watches). pairs_of w) c.return_to.ensures.watches);
}
