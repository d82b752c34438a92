use Rattle.std.specs.Prelude.{⊤}
use Rattle.resolver_clause_store.specs.Candidates.{version_sets}
use Rattle.resolver_encoding.specs.Called.{IsNamedBy, IsPlainlyNamed}
use Rattle.resolver_encoding.specs.Notes.{notes_in}
use Rattle.resolver_encoding.proofs.EncodingLemmas.{IsAskStep-same, IsAskStep-weaker}
use Rattle.resolver_encoding.proofs.encoding.Encoding.ask_plain.Goals as goal

pub returns-in-Some-clause-step : goal.returns-in-Some-clause-step
returns-in-Some-clause-step g c = let u = g.D.Interner.universe c.args.provider.now in
    IsAskStep-same u (IsPlainlyNamed u c.args.requirement) (λ root. ⊤) (notes_in c.args.self.now)

pub returns-in_ok-ask_named-in-None-clause-step : goal.returns-in_ok-ask_named-in-None-clause-step
returns-in_ok-ask_named-in-None-clause-step g c =
    let u = g.D.Interner.universe c.args.provider.now in
    IsAskStep-weaker u (IsNamedBy u (version_sets u c.args.requirement.requirement)) (IsPlainlyNamed u c.args.requirement) (λ n named.
    (c.in-None.is, named)) (λ root. ⊤) (λ root. ⊤) (λ root _. tt) _ _ c.in_ok-ask_named-in-None.ensures.step
