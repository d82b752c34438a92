use Rattle.std.proofs.Common.{inr, refl}
use Rattle.std.specs.Prelude.{⊤}
use Rattle.resolver_clause_store.specs.declared.ClauseKind.TheVariants.{Excluded}
use Rattle.resolver_encoding.specs.Encodings.{idle}
use Rattle.resolver_encoding.specs.Notes.{notes_in}
use Rattle.resolver_encoding.proofs.EncodingLemmas.{clause_listed}
use Rattle.resolver_encoding.proofs.NoteLemmas.{IsStep-kind}
use Rattle.resolver_encoding.proofs.encoding.Encoding.forbid_unknown.Goals as goal

pub returns-clause-step : goal.returns-clause-step
returns-clause-step g c =
    let u = g.D.Interner.universe c.args.provider.now in
    IsStep-kind u idle (λ root. ⊤) (notes_in c.args.self.now) _ (Excluded c.args.solvable c.args.reason) (c.in_ok-add.ensures.added u refl)
    (λ root _ _ codes _. inr c.requires.unknown) (inr c.requires.unknown) tt

pub returns-clause-forbidden : goal.returns-clause-forbidden
returns-clause-forbidden g c =
    let u = g.D.Interner.universe c.args.provider.now in
    clause_listed u (notes_in c.args.self.now) _ _ (c.in_ok-add.ensures.added u refl)
