use Rattle.std.proofs.Common.{refl}
use Rattle.resolver_clause_store.specs.declared.ClauseKind.TheVariants.{Constrains}
use Rattle.resolver_encoding.specs.Encodings.{HasConstraint, idle}
use Rattle.resolver_encoding.specs.Notes.{notes_in}
use Rattle.resolver_encoding.proofs.EncodingLemmas.{clause_listed}
use Rattle.resolver_encoding.proofs.NoteLemmas.{IsStep-kind, constraint_true}
use Rattle.resolver_encoding.proofs.encoding.Encoding.constrain.Goals as goal

pub returns-clause-step : goal.returns-clause-step
returns-clause-step g c =
    let u = g.D.Interner.universe c.args.provider.now in
    IsStep-kind u idle (HasConstraint u c.args.by c.args.version_set) (notes_in c.args.self.now) _
    (Constrains c.args.by c.args.version_set c.args.candidate) (c.in_ok-add.ensures.added u refl)
    (λ root asks _ codes _. constraint_true u codes root c.args.by c.args.version_set c.args.candidate asks c.requires.other) tt tt

pub returns-clause-forbidden : goal.returns-clause-forbidden
returns-clause-forbidden g c =
    let u = g.D.Interner.universe c.args.provider.now in
    clause_listed u (notes_in c.args.self.now) _ _ (c.in_ok-add.ensures.added u refl)
