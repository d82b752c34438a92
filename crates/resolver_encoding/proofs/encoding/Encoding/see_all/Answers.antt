use Rattle.std.proofs.Common.{arith, refl, Contains}
use Rattle.std.specs.Prelude.{⊤}
use Rattle.std.proofs.lemmas.List.Elements.{All-nil}
use Rattle.resolver_encoding.specs.Called.{IsSeeing, IsSeeingEach}
use Rattle.resolver_encoding.specs.Notes.{notes_in}
use Rattle.resolver_clause_store.proofs.SetLemmas.{All-done}
use Rattle.resolver_encoding.proofs.EncodingLemmas.{Extends-within, IsAskStep-trans, IsAskStep-weaker}
use Rattle.resolver_encoding.proofs.NoteLemmas.{All-grown, seen_here}
use Rattle.resolver_encoding.proofs.RoomLemmas.{KeepsRoom-trans}
use Rattle.resolver_encoding.proofs.VariableLemmas.{made_step}
use Rattle.resolver_encoding.proofs.encoding.Encoding.see_all.Goals as goal

pub loop-candidate-init : goal.loop-candidate-init
loop-candidate-init g c = record {
  room = record { variables = c.make_variables.ensures.limit; clauses = refl; cache = refl };
  step = made_step (g.D.Interner.universe c.args.provider.now) c.args.candidates.now (notes_in c.args.self.now) _ _ _ c.make_variables.ensures.grows
      c.make_variables.ensures.limit refl;
  seen = All-nil (Contains (notes_in c.args.self.now).seen);
}

pub loop-candidate-preserved : goal.loop-candidate-preserved
loop-candidate-preserved g c =
    let u = g.D.Interner.universe c.args.provider.now in
    let before = c.loop-candidate.invariant in
    record {
      room = KeepsRoom-trans _ _ _ before.room c.see.ensures.room;
      step = IsAskStep-trans u (IsSeeingEach c.args.candidates.now) (λ root. ⊤) _ _ _ before.step
          (IsAskStep-weaker u (IsSeeing c.candidate-item.result) (IsSeeingEach c.args.candidates.now)
          (seen_here c.args.candidates.now c.loop-candidate.candidate-index c.candidate-item.result (omega arith) c.candidate-item.is) (λ root. ⊤) (λ root.
          ⊤) (λ root _. tt) _ _ c.in_ok-see.ensures.step);
      seen = All-grown (Contains c.loop-candidate.self.seen.keys)
          (Contains c.see.new.self.seen.keys) c.args.candidates.now c.loop-candidate.candidate-index c.candidate-item.result (λ y h.
          Extends-within _ _ c.in_ok-see.ensures.step.growth.seen y h) (omega arith) c.candidate-item.is before.seen c.in_ok-see.ensures.seen;
    }

pub returns-clause-seen : goal.returns-clause-seen
returns-clause-seen g c = All-done (Contains c.loop-candidate.self.seen.keys) c.args.candidates.now c.loop-candidate.candidate-index
    (omega arith) c.loop-candidate.invariant.seen
