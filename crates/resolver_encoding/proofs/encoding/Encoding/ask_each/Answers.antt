use Rattle.std.proofs.Common.{arith, Contains}
use Rattle.std.specs.Prelude.{⊤}
use Rattle.std.proofs.lemmas.List.Elements.{All-nil}
use Rattle.resolver_encoding.specs.Called.{IsAsking, IsNamedBy}
use Rattle.resolver_encoding.specs.Notes.{notes_in}
use Rattle.resolver_clause_store.proofs.SetLemmas.{All-done}
use Rattle.resolver_encoding.proofs.EncodingLemmas.{IsAskStep-same, IsAskStep-trans, IsAskStep-weaker}
use Rattle.resolver_encoding.proofs.NoteLemmas.{All-grown_at, named_here}
use Rattle.resolver_encoding.proofs.RoomLemmas.{KeepsTrue-same, KeepsTrue-trans}
use Rattle.resolver_encoding.proofs.encoding.Encoding.ask_each.Goals as goal

pub loop-version_set-init : goal.loop-version_set-init
loop-version_set-init g c =
    let u = g.D.Interner.universe c.args.provider.now in
    record {
      room = KeepsTrue-same _;
      step = IsAskStep-same u (IsNamedBy u c.args.named.now) (λ root. ⊤) (notes_in c.args.self.now);
      asked = All-nil (λ v. Contains (notes_in c.args.self.now).asked (u.version_set_name v));
    }

pub loop-version_set-preserved : goal.loop-version_set-preserved
loop-version_set-preserved g c =
    let u = g.D.Interner.universe c.args.provider.now in
    let before = c.loop-version_set.invariant in
    record {
      room = KeepsTrue-trans _ _ _ before.room c.ask.ensures.limits;
      step = IsAskStep-trans u (IsNamedBy u c.args.named.now) (λ root. ⊤) _ _ _ before.step
          (IsAskStep-weaker u (IsAsking c.version_set_name.result) (IsNamedBy u c.args.named.now) (λ call is.
          named_here u c.args.named.now c.loop-version_set.version_set-index _ _ call (omega arith) c.version_set_name.ensures is) (λ root. ⊤) (λ root.
          ⊤) (λ root _. tt) _ _ c.in_ok-ask.ensures.step);
      asked = All-grown_at (λ v. Contains c.loop-version_set.self.asked.keys (u.version_set_name v)) (λ v.
          Contains c.ask.new.self.asked.keys (u.version_set_name v)) c.args.named.now c.loop-version_set.version_set-index _ (λ y h.
          c.in_ok-ask.ensures.step.growth.asked _ h) (omega arith) before.asked (rw c.version_set_name.ensures at c.in_ok-ask.ensures.asked);
    }

pub returns-clause-asked : goal.returns-clause-asked
returns-clause-asked g c =
    let u = g.D.Interner.universe c.args.provider.now in
    All-done (λ v. Contains c.loop-version_set.self.asked.keys (u.version_set_name v)) c.args.named.now c.loop-version_set.version_set-index
    (omega arith) c.loop-version_set.invariant.asked
