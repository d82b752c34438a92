use Rattle.std.proofs.Common.{◌≡◌, ◌++◌, refl, sym, subst, Contains}
use Rattle.std.specs.Prelude.{⊤, Some}
use Rattle.resolver_clause_store.specs.declared.ClauseKind.TheVariants.{Lock}
use Rattle.resolver_encoding.specs.Notes.{notes_in}
use Rattle.resolver_encoding.proofs.EncodingLemmas.{clause_listed}
use Rattle.resolver_encoding.proofs.NoteLemmas.{IsStep-kind, not_same}
use Rattle.resolver_encoding.proofs.TurnLemmas.{AddsPlainly-clause}
use Rattle.resolver_encoding.proofs.encoding.Encoding.lock_out.Goals as goal

pub returns-clause-step : goal.returns-clause-step
returns-clause-step g c =
    let u = g.D.Interner.universe c.args.provider.now in
    let Locked : g.row.N.Denot → Type 0 = λ n. (u.package_named n).locked ≡ Some c.args.locked in
    let Listed : g.row.N.Denot → Type 0 = λ n. Contains (u.package_named n).listed c.args.candidate in
    let apart = not_same g.S.PartialEq.eq g.met.D.Interner.solvables_are_values c.args.candidate c.args.locked c.eq.result c.eq.ensures c.if-eq.false in
    λ doing inside. let Asks : g.row.N.Denot → Type 0 = λ n. Contains (doing.asking ++ (notes_in c.args.self.now).asked) n in
    IsStep-kind u doing (λ root. ⊤) (notes_in c.args.self.now) _ (Lock c.args.locked c.args.candidate) (c.in_ok-add.ensures.added u refl)
    (λ root _ _ codes _. (subst Locked (sym c.requires.named) c.requires.lock, subst Listed (sym c.requires.named) c.requires.listed, apart))
    (subst Asks (sym c.requires.named) inside, c.if-is_among.ensures) tt

pub returns-clause-forbidden : goal.returns-clause-forbidden
returns-clause-forbidden g c =
    let u = g.D.Interner.universe c.args.provider.now in
    λ differ free. clause_listed u (notes_in c.args.self.now) _ _ (c.in_ok-add.ensures.added u refl)

pub returns-clause-plain : goal.returns-clause-plain
returns-clause-plain g c =
    let u = g.D.Interner.universe c.args.provider.now in
    AddsPlainly-clause u (notes_in c.args.self.now) _ (Lock c.args.locked c.args.candidate) (λ n. refl) (c.in_ok-add.ensures.added u refl)
