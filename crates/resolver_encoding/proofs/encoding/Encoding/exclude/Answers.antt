use Rattle.std.proofs.Common.{◌++◌, inl, refl, subst, sym, Contains}
use Rattle.std.specs.Prelude.{⊤}
use Rattle.resolver_clause_store.specs.declared.ClauseKind.TheVariants.{Excluded}
use Rattle.resolver_encoding.specs.Notes.{notes_in}
use Rattle.resolver_encoding.proofs.EncodingLemmas.{clause_listed}
use Rattle.resolver_encoding.proofs.NoteLemmas.{IsStep-kind}
use Rattle.resolver_encoding.proofs.TurnLemmas.{AddsPlainly-clause}
use Rattle.resolver_encoding.proofs.encoding.Encoding.exclude.Goals as goal

pub returns-clause-step : goal.returns-clause-step
returns-clause-step g c =
    let u = g.D.Interner.universe c.args.provider.now in
    let Names : g.row.N.Denot → Type 0 = λ n. Contains (u.package_named n).excluded (c.args.solvable, c.args.reason) in
    λ doing inside. let Asks : g.row.N.Denot → Type 0 = λ n. Contains (doing.asking ++ (notes_in c.args.self.now).asked) n in
    IsStep-kind u doing (λ root. ⊤) (notes_in c.args.self.now) _ (Excluded c.args.solvable c.args.reason) (c.in_ok-add.ensures.added u refl)
    (λ root _ _ codes _. inl (subst Names (sym c.requires.named) c.requires.excluded))
    (inl (subst Asks (sym c.requires.named) inside, c.if-is_among.ensures)) tt

pub returns-clause-forbidden : goal.returns-clause-forbidden
returns-clause-forbidden g c =
    let u = g.D.Interner.universe c.args.provider.now in
    λ free. clause_listed u (notes_in c.args.self.now) _ _ (c.in_ok-add.ensures.added u refl)

pub returns-clause-plain : goal.returns-clause-plain
returns-clause-plain g c =
    let u = g.D.Interner.universe c.args.provider.now in
    AddsPlainly-clause u (notes_in c.args.self.now) _ (Excluded c.args.solvable c.args.reason) (λ n. refl) (c.in_ok-add.ensures.added u refl)
