use Rattle.std.proofs.Common.{refl, true}
use Rattle.std.specs.Prelude.{None}
use Rattle.resolver_clause_store.specs.declared.By.TheVariants.{Solvable as BySolvable}
use Rattle.resolver_clause_store.specs.declared.ClauseKind.TheVariants.{Implies}
use Rattle.resolver_clause_store.specs.declared.Helper.TheVariants.{Gate}
use Rattle.resolver_encoding.specs.Encodings.{HasRequirement, idle}
use Rattle.resolver_encoding.specs.Notes.{notes_in}
use Rattle.resolver_encoding.proofs.EncodingLemmas.{clause_listed}
use Rattle.resolver_encoding.proofs.NoteLemmas.{IsStep-kind}
use Rattle.resolver_encoding.proofs.RequirementLemmas.{gate_follows}
use Rattle.resolver_encoding.proofs.encoding.Encoding.imply_gate.Goals as goal

pub returns-clause-step : goal.returns-clause-step
returns-clause-step g c =
    let u = g.D.Interner.universe c.args.provider.now in
    let s = c.args.requirer in
    let r = c.args.requirement in
    IsStep-kind u idle (HasRequirement u (BySolvable s) (record { condition = None; requirement = r })) (notes_in c.args.self.now) (notes_in c.add.new.self)
    (Implies s (Gate r) true) (c.in_ok-add.ensures.added u refl)
    (λ root asks _ codes _. (refl, gate_follows u codes s r asks)) tt tt

pub returns-clause-implied : goal.returns-clause-implied
returns-clause-implied g c =
    let u = g.D.Interner.universe c.args.provider.now in
    clause_listed u (notes_in c.args.self.now) _ _ (c.in_ok-add.ensures.added u refl)
