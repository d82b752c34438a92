use Rattle.std.proofs.Common.{ap}
use Rattle.resolver_clause_store.specs.declared.Watches.{Watches}
use Rattle.resolver_clause_store.specs.WatchesView.{pairs_of}
use Rattle.resolvo.proofs.VisitLemmas.{passes}
use Rattle.resolver_clause_store.proofs.ResultLemmas.{refused-any}
use Rattle.resolvo.proofs.WatchedLemmas.{owned-of, owned-same}
use Rattle.resolvo.proofs.propagator.Propagator.pass_by.Goals as goal

pub returns-clause-outcome : goal.returns-clause-outcome
returns-clause-outcome c = passes _ _ _ _ _ _ _ c.requires.visiting c.requires.stands c.requires.inside c.requires.satisfied c.note.ensures.watches
    c.note.ensures.pending c.note.ensures.head c.in_ok-note.ensures.late

pub returns-in_err-note-clause-refused : goal.returns-in_err-note-clause-refused
returns-in_err-note-clause-refused c =
    refused-any _ _ (owned-same _ _ _ (ap (λ (w : Watches). pairs_of w) c.note.ensures.watches) (owned-of _ _ _ c.requires.visiting.propagator))
