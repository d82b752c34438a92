use Rattle.std.proofs.Common.{◌≡◌, ◌+◌, ◌-◌, ◌^◌, List, Option, ap, arith, length, rules, subst, sym}
use Rattle.std.specs.Prelude.{count_by, is_some, min}
use Rattle.resolver_clause_store.specs.Caches.{IsTrueCache}
use Rattle.resolver_clause_store.specs.declared.Cache.{Cache}
use Rattle.resolver_encoding.specs.ReadState.{Deferred}
use Rattle.resolvo.specs.ClauseSearches.{learnt_count_of}
use Rattle.resolvo.specs.RoundStates.{notes_of, search_of}
use Rattle.resolvo.proofs.solver.Solver.new.Goals as goal

pub returns-clause-sound : goal.returns-clause-sound
returns-clause-sound g c =
    let Known : Cache g.row.D-NameId.Denot g.row.D-SolvableId.Denot → Type 0 = λ cache. IsTrueCache (g.D.Interner.universe c.args.provider) cache in
    record { true_answers = subst Known (sym c.new-2.ensures.cache) (c.new.ensures (g.D.Interner.universe c.args.provider)); fits = search rules }

pub returns-clause-no_clauses : goal.returns-clause-no_clauses
returns-clause-no_clauses g c =
    let made = c.new-2.ensures in
    let rounds = c.new-2.result in
    let none : length (notes_of rounds).kinds + learnt_count_of (search_of rounds) ≡ 0 =
    omega (arith, ap length made.fresh.unread.no_kinds, made.none_learnt) in
    ap (λ n. min n (2 ^ 64 - 1)) none

pub returns-clause-none_deferred : goal.returns-clause-none_deferred
returns-clause-none_deferred g c =
    ap (λ (list : List (Option (Deferred g.row.D-SolvableId.Denot))). count_by is_some list) c.new-2.ensures.fresh.unread.none_deferred
