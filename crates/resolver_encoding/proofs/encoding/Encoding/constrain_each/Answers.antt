use Rattle.std.proofs.Common.{sym, subst, arith, Contains, List}
use Rattle.std.proofs.lemmas.List.Elements.{All-nil, All-same}
use Rattle.resolver_encoding.specs.Encodings.{HasConstraint, idle}
use Rattle.resolver_encoding.specs.Notes.{notes_in}
use Rattle.resolver_encoding.specs.Read.{IsForbidden, forbidden_direct}
use Rattle.resolver_clause_store.proofs.SetLemmas.{All-done, Contains-item}
use Rattle.resolver_encoding.proofs.EncodingLemmas.{IsForbidden-within, IsStep-same, IsStep-trans}
use Rattle.resolver_encoding.proofs.NoteLemmas.{All-grown}
use Rattle.resolver_encoding.proofs.RoomLemmas.{KeepsRoom-same, KeepsRoom-trans}
use Rattle.resolver_encoding.proofs.encoding.Encoding.constrain_each.Goals as goal

pub loop-candidate-init : goal.loop-candidate-init
loop-candidate-init g c =
    let u = g.D.Interner.universe c.args.provider.now in
    record {
      room = KeepsRoom-same _;
      step = IsStep-same u idle (HasConstraint u c.args.by c.args.version_set) (notes_in c.args.self.now);
      read = All-nil (IsForbidden (notes_in c.args.self.now).kinds c.args.by c.args.version_set);
    }

pub constrain-requires : goal.constrain-requires
constrain-requires g c = record {
  other = let Has : List g.row.S.Denot → Type 0 = λ list. Contains list c.candidate-item.result in
      subst Has c.requires.forbidden
      (Contains-item c.args.forbidden.now c.loop-candidate.candidate-index c.candidate-item.result (omega arith) c.candidate-item.is);
}

pub loop-candidate-preserved : goal.loop-candidate-preserved
loop-candidate-preserved g c =
    let u = g.D.Interner.universe c.args.provider.now in
    let before = c.loop-candidate.invariant in
    let step = c.in_ok-constrain.ensures.step in
    record {
      room = KeepsRoom-trans _ _ _ before.room c.constrain.ensures.room;
      step = IsStep-trans u idle (HasConstraint u c.args.by c.args.version_set) _ _ _ before.step step;
      read = All-grown (IsForbidden (notes_in c.loop-candidate.self).kinds c.args.by c.args.version_set)
          (IsForbidden (notes_in c.constrain.new.self).kinds c.args.by c.args.version_set) c.args.forbidden.now c.loop-candidate.candidate-index
          c.candidate-item.result
          (λ y h. IsForbidden-within _ _ step.growth.kinds c.args.by c.args.version_set y h) (omega arith) c.candidate-item.is before.read
          (forbidden_direct c.in_ok-constrain.ensures.forbidden);
    }

pub returns-clause-read : goal.returns-clause-read
returns-clause-read g c =
    let Forbidden : g.row.S.Denot → Type 0 = IsForbidden (notes_in c.loop-candidate.self).kinds c.args.by c.args.version_set in
    All-same Forbidden _ c.args.forbidden.now (sym c.requires.forbidden)
    (All-done Forbidden c.args.forbidden.now c.loop-candidate.candidate-index (omega arith) c.loop-candidate.invariant.read)
