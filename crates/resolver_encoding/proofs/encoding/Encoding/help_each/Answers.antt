use Rattle.std.proofs.Common.{arith, Contains}
use Rattle.std.specs.Prelude.{⊤}
use Rattle.std.proofs.lemmas.List.Elements.{All-nil}
use Rattle.resolver_encoding.specs.Encodings.{idle}
use Rattle.resolver_encoding.specs.Notes.{notes_in}
use Rattle.resolver_clause_store.proofs.SetLemmas.{All-done}
use Rattle.resolver_encoding.proofs.EncodingLemmas.{IsStep-same, IsStep-trans}
use Rattle.resolver_encoding.proofs.NoteLemmas.{All-grown_at}
use Rattle.resolver_encoding.proofs.RoomLemmas.{KeepsTrue-same, KeepsTrue-trans}
use Rattle.resolver_encoding.proofs.encoding.Encoding.help_each.Goals as goal

pub loop-version_set-init : goal.loop-version_set-init
loop-version_set-init g c =
    let u = g.D.Interner.universe c.args.provider.now in
    record {
      room = KeepsTrue-same _;
      step = IsStep-same u idle (λ root. ⊤) (notes_in c.args.self.now);
      helped = All-nil (Contains (notes_in c.args.self.now).helped);
    }

pub loop-version_set-preserved : goal.loop-version_set-preserved
loop-version_set-preserved g c =
    let u = g.D.Interner.universe c.args.provider.now in
    let before = c.loop-version_set.invariant in
    record {
      room = KeepsTrue-trans _ _ _ before.room c.help.ensures.room;
      step = IsStep-trans u idle (λ root. ⊤) _ _ _ before.step c.in_ok-help.ensures.step;
      helped = All-grown_at (Contains c.loop-version_set.self.helped.keys)
          (Contains c.help.new.self.helped.keys) c.args.disjunct.now c.loop-version_set.version_set-index _ (λ y h. c.in_ok-help.ensures.step.helped _ h)
          (omega arith) before.helped c.in_ok-help.ensures.helped;
    }

pub returns-clause-helped : goal.returns-clause-helped
returns-clause-helped g c = All-done (Contains c.loop-version_set.self.helped.keys) c.args.disjunct.now c.loop-version_set.version_set-index
    (omega arith) c.loop-version_set.invariant.helped
