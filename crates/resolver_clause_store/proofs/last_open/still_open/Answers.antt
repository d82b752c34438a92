use Rattle.std.proofs.Common.{IfSome, MatchOption, None, Option, Some, rules, true, ◌≡◌, ℕ}
use Rattle.resolver_clause_store.proofs.LastOpenLemmas.{open-still}
use Rattle.resolver_clause_store.proofs.last_open.still_open.Goals as goal

-- what follows of the place that is found
of_found : (o : Option ℕ) (P : Type 0) (Q R : ℕ → Type 0) → MatchOption o P Q → ((place : ℕ) → Q place → R place) → IfSome o R
of_found None P Q R found step = tt
of_found (Some place) P Q R found step = step place found

pub returns : goal.returns
returns c =
    let none : c.none_is_true_from.result ≡ true = search rules in
    of_found c.first_not_false.result _ _ _ c.first_not_false.ensures (λ place scan since.
    open-still c.args.trail.now c.args.clause.now c.args.last.now.first c.args.last.now.count since (rw none at c.none_is_true_from.ensures) place scan)
