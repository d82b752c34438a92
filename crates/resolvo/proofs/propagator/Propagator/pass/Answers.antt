use Rattle.std.proofs.Common.{◌≡◌, ◌++◌, ◌∷◌, [], subst}
use Rattle.resolver_clause_store.specs.declared.WatchedPair.{WatchedPair}
use Rattle.resolver_clause_store.specs.Watches.{HasLiteral}
use Rattle.resolvo.specs.Attaching.{IsHighPair}
use Rattle.resolvo.specs.Propagators.{pending_of}
use Rattle.resolvo.proofs.AttachingLemmas.{ends-with, passed-high, passed-late}
use Rattle.resolvo.proofs.propagator.Propagator.pass.Goals as goal

pub are_high-requires : goal.are_high-requires
are_high-requires c = λ literal watching. c.requires.below literal
    (subst (λ (p : WatchedPair). HasLiteral p literal) c.pair-pair.ensures watching)

pub returns-then-are_high-clause-propagator : goal.returns-then-are_high-clause-propagator
returns-then-are_high-clause-propagator c = λ table satisfied it.
    let ends : pending_of c.args.self.now ≡ c.pop.new.self ++ c.args.number ∷ [] =
    rw c.pop.ensures (ends-with (pending_of c.args.self.now) c.args.number c.requires.last) in
    passed-high table c.args.trail.now c.args.self.now _ c.args.number ends
    (subst (λ (p : WatchedPair). IsHighPair c.args.trail.now p) c.pair-pair.ensures (c.are_high.ensures c.if-are_high.true)) satisfied it

pub returns-clause-propagator : goal.returns-clause-propagator
returns-clause-propagator c = λ table satisfied it.
    let ends : pending_of c.args.self.now ≡ c.pop.new.self ++ c.args.number ∷ [] =
    rw c.pop.ensures (ends-with (pending_of c.args.self.now) c.args.number c.requires.last) in
    passed-late table c.args.trail.now c.args.self.now _ _ c.args.number ends
    (rw (c.in_ok-number.ensures, c.in_ok-length.ensures, c.len.ensures) at c.in_ok-push.ensures.items) satisfied it
