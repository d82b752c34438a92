use Rattle.std.proofs.Common.{refl}
use Rattle.std.specs.Prelude.{⊤}
use Rattle.resolver_encoding.proofs.RoomLemmas.{KeepsTrue-trans}
use Rattle.resolver_encoding.specs.Called.{IsWantedBy}
use Rattle.resolver_encoding.specs.Encodings.{IsTrueUnder}
use Rattle.resolver_encoding.specs.Notes.{entry_of}
use Rattle.resolver_encoding.specs.ReadState.{has_direct}
use Rattle.resolver_encoding.proofs.EncodingLemmas.{IsAskStep-of, IsAskStep-trans, IsAskStep-weaker}
use Rattle.resolver_encoding.proofs.encoding.Encoding.encode_disjunct.Goals as goal

pub returns-clause-step : goal.returns-clause-step
returns-clause-step g c =
    let u = g.D.Interner.universe c.args.provider.now in
    let e = entry_of c.args.entry in
    let Called = IsWantedBy u e.requirement in
    let Premise = IsTrueUnder u e in
    IsAskStep-trans u Called Premise _ _ _ (IsAskStep-weaker u Called Called (λ n h. h) (λ root. ⊤) Premise (λ root _. tt) _ _ c.in_ok-choices.ensures.step)
    (IsAskStep-of u Called Premise _ _ c.in_ok-encode_choices.ensures.step)

pub returns-clause-read : goal.returns-clause-read
returns-clause-read g c = has_direct c.args.entry.disjunct refl c.in_ok-encode_choices.ensures.read

pub returns-clause-room : goal.returns-clause-room
returns-clause-room g c =
    let it = KeepsTrue-trans _ _ _ c.choose.ensures.room c.encode_choices.ensures.room in
    record { variables = it.variables; clauses = it.clauses; answers = it.answers }

pub returns-clause-refusal : goal.returns-clause-refusal
returns-clause-refusal g c = tt

pub choose-requires : goal.choose-requires
choose-requires g c = record { is_true = c.requires.is_true }

pub encode_choices-requires-clause-is_true : goal.encode_choices-requires-clause-is_true
encode_choices-requires-clause-is_true g c = c.choose.ensures.room.answers c.requires.is_true

pub encode_choices-requires-clause-candidates : goal.encode_choices-requires-clause-candidates
encode_choices-requires-clause-candidates g c = c.in_ok-choices.ensures.candidates

pub encode_choices-requires-clause-small : goal.encode_choices-requires-clause-small
encode_choices-requires-clause-small g c = c.in_ok-choices.ensures.small

pub encode_choices-requires-clause-asked : goal.encode_choices-requires-clause-asked
encode_choices-requires-clause-asked g c = c.in_ok-choices.ensures.asked

pub encode_choices-requires-clause-seen : goal.encode_choices-requires-clause-seen
encode_choices-requires-clause-seen g c = c.in_ok-choices.ensures.seen

pub encode_choices-requires-clause-once : goal.encode_choices-requires-clause-once
encode_choices-requires-clause-once g c = c.requires.once
