use Rattle.std.proofs.Common.{arith}
use Rattle.std.proofs.lemmas.Grind.{common_steps}
use Rattle.std.proofs.Common.{sym, subst, Bool, List}
use Rattle.resolver_clause_store.specs.declared.ClauseKind.{ClauseKind}
use Rattle.resolver_clause_store.specs.declared.Helper.{Helper}
use Rattle.resolver_encoding.specs.Core.{implied_in}
use Rattle.resolver_encoding.specs.Truth.{AreListed, AreStated}
use Rattle.resolver_encoding.specs.Values.{kinds_at}
use Rattle.resolvo.proofs.SolveLemmas.{explained}
use Rattle.resolver_encoding.proofs.SoFarLemmas.{lawful_solvables}
use Rattle.resolvo.proofs.solver.explain.Goals as goal

pub returns-clause-explained : goal.returns-clause-explained
returns-clause-explained g c = λ root notes kinds encoding core.
    let u = g.D.Interner.universe c.args.provider.now in
    let Implied : List (ClauseKind g.row.D-NameId.Denot g.row.D-SolvableId.Denot) → Helper g.row.D-NameId.Denot →
    g.row.D-SolvableId.Denot → Bool = λ ks h s. implied_in u g.D.NameId.PartialEq.eq (kinds_at ks c.args.core.now) h s in
    let Listed : List (ClauseKind g.row.D-NameId.Denot g.row.D-SolvableId.Denot) → Type 0 =
    λ ks. AreListed u (Implied ks) (kinds_at ks c.args.core.now) c.in_ok-stated.stated.items in
    let Stated : List (ClauseKind g.row.D-NameId.Denot g.row.D-SolvableId.Denot) → Type 0 =
    λ ks. AreStated u (Implied ks) (kinds_at ks c.args.core.now) c.in_ok-stated.stated.items in
    c.in_ok-conflict.ensures.explains u root
    (explained u g.D.NameId.PartialEq.eq root notes c.args.core.now c.in_ok-stated.stated.items c.in_ok-rules.rules.items
    (lawful_solvables u g.D.SolvableId.PartialEq.eq (g.met.D.Interner.lawful_ids c.args.provider.now)
    (g.met.D.Interner.solvables_compare c.args.provider.now) g.met.D.Interner.solvables_are_values) g.met.D.Interner.names_are_values encoding core
    (subst Listed (sym kinds) c.in_ok-stated.ensures.listed) (subst Stated (sym kinds) c.in_ok-stated.ensures.stated)
    c.in_ok-rules.ensures.left c.in_ok-rules.ensures.refuted c.in_ok-rules.ensures.again)

pub returns-clause-refusal : goal.returns-clause-refusal
returns-clause-refusal g c = grind (arith, common_steps)
