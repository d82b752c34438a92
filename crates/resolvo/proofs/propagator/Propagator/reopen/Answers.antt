use Rattle.std.proofs.Common.{◌≡◌, ◌++◌, ◌∷◌, [], ◌∙◌, inl, inr, refl, subst, sym, true≢false}
use Rattle.resolver_clause_store.specs.declared.WatchedPair.{WatchedPair}
use Rattle.resolver_clause_store.specs.Watches.{HasLiteral, WatchesNothing}
use Rattle.resolver_clause_store.proofs.WatchListLemmas.{is_literal-same, is_literal-true}
use Rattle.resolvo.specs.Propagators.{pending_of}
use Rattle.resolvo.proofs.AttachingLemmas.{ends-with, reopened}
use Rattle.resolvo.proofs.propagator.Propagator.reopen.Goals as goal

pub returns-then-eq-clause-propagator : goal.returns-then-eq-clause-propagator
returns-then-eq-clause-propagator c = λ table free it.
    let same : c.pair-pair.result.first ≡ c.pair-pair.result.second = is_literal-true _ _ (sym c.eq.ensures ∙ c.if-eq.true) in
    let none = subst (λ (p : WatchedPair). WatchesNothing p) c.pair-pair.ensures same in
    absurd (free.differ (it.watched.constant c.args.number c.requires.inside none free.first free.second free.has_first free.has_second))

pub false_place-first-requires : goal.false_place-first-requires
false_place-first-requires c =
    let first = c.pair-pair.result.first in
    let has : HasLiteral c.pair-pair.result first = record {
      differ = λ e. true≢false (sym (is_literal-same _ _ e) ∙ sym c.eq.ensures ∙ c.if-eq.false);
      is = inl refl;
    } in
    c.requires.below first (subst (λ (p : WatchedPair). HasLiteral p first) c.pair-pair.ensures has)

pub false_place-second-requires : goal.false_place-second-requires
false_place-second-requires c =
    let second = c.pair-pair.result.second in
    let has : HasLiteral c.pair-pair.result second = record {
      differ = λ e. true≢false (sym (is_literal-same _ _ e) ∙ sym c.eq.ensures ∙ c.if-eq.false);
      is = inr refl;
    } in
    c.requires.below second (subst (λ (p : WatchedPair). HasLiteral p second) c.pair-pair.ensures has)

pub returns-clause-propagator : goal.returns-clause-propagator
returns-clause-propagator c = λ table free it.
    let ends : pending_of c.args.self.now ≡ c.pop.new.self ++ c.args.number ∷ [] =
    rw c.pop.ensures (ends-with (pending_of c.args.self.now) c.args.number c.requires.last) in
    let first = rw c.pair-pair.ensures at c.false_place-first.ensures in
    let second = rw c.pair-pair.ensures at c.false_place-second.ensures in
    reopened table c.args.trail.now c.args.self.now _ c.args.number _ _ _ ends (rw c.min.ensures at c.min-self.ensures) first second free it
