use Rattle.std.proofs.Common.{◌≡◌, ◌≢◌, ◌∙◌, length, rules, sym, true≢false}
use Rattle.std.specs.Vec.{vec_len}
use Rattle.resolver_clause_store.specs.WatchesView.{pairs_of}
use Rattle.resolver_clause_store.proofs.WatchListLemmas.{fit-both, is_literal-same, is_literal-true, popped, watched-both, watched-lists, watched-none}
use Rattle.resolver_clause_store.proofs.watches.Watches.add.Goals as goal

pub invariant_of-self-then-eq : goal.invariant_of-self-then-eq
invariant_of-self-then-eq c =
    let same : c.args.pair.first ≡ c.args.pair.second = is_literal-true _ _ (sym c.eq.ensures ∙ c.if-eq.true) in
    record { watched = watched-none _ _ _ c.args.pair c.in_ok-push.ensures.items same c.args.self.now.watched }

pub invariant_of-self-in-Ok : goal.invariant_of-self-in-Ok
invariant_of-self-in-Ok c =
    let last : c.in_ok-number.number ≡ length (pairs_of c.args.self.now) = search rules in
    let differ : c.args.pair.first ≢ c.args.pair.second = λ e. true≢false (sym (is_literal-same _ _ e) ∙ sym c.eq.ensures ∙ c.if-eq.false) in
    record {
      watched = watched-both _ _ _ _ c.args.pair c.args.is_binary c.in_ok-push.ensures.items differ (rw last at c.in-Ok.ensures.pushed)
          c.args.self.now.watched;
    }

pub invariant_of-self-in-Err : goal.invariant_of-self-in-Err
invariant_of-self-in-Err c =
    let size : vec_len c.push.new.self ≡ length c.push.new.self.items = search rules in
    let back = popped _ _ _ c.args.pair c.in_ok-push.ensures.items (rw size at c.pop.ensures.rest) in
    record { watched = rw back (watched-lists _ _ _ c.in-Err.ensures.unchanged c.args.self.now.watched) }

pub returns-in-Ok-clause-fit : goal.returns-in-Ok-clause-fit
returns-in-Ok-clause-fit c = λ table has two fits.
    let last : c.in_ok-number.number ≡ length (pairs_of c.args.self.now) = search rules in
    let differ : c.args.pair.first ≢ c.args.pair.second = λ e. true≢false (sym (is_literal-same _ _ e) ∙ sym c.eq.ensures ∙ c.if-eq.false) in
    fit-both table _ _ c.args.pair _ _ (rw last at c.in-Ok.ensures.pushed) (has differ) two fits
