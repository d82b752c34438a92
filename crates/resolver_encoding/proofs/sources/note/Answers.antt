use Rattle.std.proofs.Common.{◌≡◌, ◌∙◌, Bool, ap, sym, true}
use Rattle.std.proofs.lemmas.Bool.{false≢true}
use Rattle.resolver_clause_store.specs.declared.ClauseKind.{ClauseKind}
use Rattle.resolver_clause_store.specs.declared.ClauseKind.TheVariants.{Implies}
use Rattle.resolver_encoding.proofs.SourceLemmas.{source_noted, sources_same}
use Rattle.resolver_encoding.proofs.sources.note.Goals as goal

pub returns-in_ok-add-in-Implies-clause-noted : goal.returns-in_ok-add-in-Implies-clause-noted
returns-in_ok-add-in-Implies-clause-noted g c = λ kinds are.
    let it = c.in-Implies in
    let Of : Bool → ClauseKind g.row.N.Denot g.row.S.Denot = λ b. Implies it.candidate it.helper b in
    source_noted kinds c.args.kind.now c.args.sources.now _ it.helper it.candidate (it.is ∙ ap Of c.if-value.true)
    c.in_ok-add-in-Implies.ensures.added are

pub returns-else-value-clause-noted : goal.returns-else-value-clause-noted
returns-else-value-clause-noted g c = λ kinds are.
    let it = c.in-Implies in
    sources_same kinds c.args.kind.now c.args.sources.now (λ h s e.
    let same : Implies it.candidate it.helper it.value ≡ Implies s h true = sym it.is ∙ e in
    let on : it.value ≡ true = cc in
    false≢true (sym c.if-value.false ∙ on)) are

pub returns-in_default : goal.returns-in_default
returns-in_default g c = record {
  noted = λ kinds are. sources_same kinds c.args.kind.now c.args.sources.now (λ h s. c.in_default.not-Implies s h true) are;
  memory = tt;
}
