use Rattle.std.proofs.Common.{arith, refl, get_or, All, Contains}
use Rattle.std.proofs.Common.{◌<◌, length}
use Rattle.std.proofs.lemmas.List.Elements.{All-get_or, All-nil}
use Rattle.resolver_clause_store.specs.Universe.{Demands}
use Rattle.resolver_encoding.specs.Called.{IsAsking, IsNamedBy}
use Rattle.resolver_encoding.specs.Encodings.{HasConstraint, IsConstraintRead}
use Rattle.resolver_encoding.specs.Notes.{notes_in}
use Rattle.resolver_clause_store.proofs.SetLemmas.{All-done}
use Rattle.resolver_encoding.proofs.EncodingLemmas.{IsAskStep-same, IsAskStep-trans, IsAskStep-weaker, IsEncodingOf-asked, IsEncodingOf-weaker}
use Rattle.resolver_encoding.proofs.NoteLemmas.{All-grown_at, named_here}
use Rattle.resolver_encoding.proofs.ReadLemmas.{IsConstraintRead-within}
use Rattle.resolver_encoding.proofs.RoomLemmas.{KeepsTrue-same, KeepsTrue-trans}
use Rattle.resolver_encoding.proofs.encoding.Encoding.read_constraints.Goals as goal

pub loop-version_set-init : goal.loop-version_set-init
loop-version_set-init g c =
    let u = g.D.Interner.universe c.args.provider.now in
    record {
      room = KeepsTrue-same _;
      step = IsAskStep-same u (IsNamedBy u c.args.constraints.now) (λ root. All (λ v. HasConstraint u c.args.by v root) c.args.constraints.now)
          (notes_in c.args.self.now);
      read = All-nil (IsConstraintRead u (notes_in c.args.self.now).kinds c.args.by);
      asked = All-nil (λ v. Contains (notes_in c.args.self.now).asked (u.version_set_name v));
    }

pub read_constraint-requires-clause-encoding : goal.read_constraint-requires-clause-encoding
read_constraint-requires-clause-encoding g c =
    let u = g.D.Interner.universe c.args.provider.now in
    let xs = c.args.constraints.now in
    let i = c.loop-version_set.version_set-index in
    let below : i < length xs = omega arith in
    let AllAsk : Demands → Type 0 = λ root. All (λ v. HasConstraint u c.args.by v root) xs in
    IsEncodingOf-weaker u AllAsk (HasConstraint u c.args.by _) (λ root all. All-get_or (λ v. HasConstraint u c.args.by v root) xs i _ below all)
    (notes_in c.loop-version_set.self) (IsEncodingOf-asked u (IsNamedBy u xs) AllAsk _ _ c.requires.encoding c.loop-version_set.invariant.step)

pub loop-version_set-preserved : goal.loop-version_set-preserved
loop-version_set-preserved g c =
    let u = g.D.Interner.universe c.args.provider.now in
    let xs = c.args.constraints.now in
    let i = c.loop-version_set.version_set-index in
    let below : i < length xs = omega arith in
    let before = c.loop-version_set.invariant in
    let step = c.in_ok-read_constraint.ensures.step in
    record {
      room = KeepsTrue-trans _ _ _ before.room c.read_constraint.ensures.room;
      step = IsAskStep-trans u (IsNamedBy u xs) (λ root. All (λ v. HasConstraint u c.args.by v root) c.args.constraints.now) _ _ _ before.step
          (IsAskStep-weaker u (IsAsking (u.version_set_name (get_or xs i _))) (IsNamedBy u xs) (λ call is. named_here u xs i _ _ call below refl is)
          (HasConstraint u c.args.by _) (λ root. All (λ v. HasConstraint u c.args.by v root) c.args.constraints.now) (λ root all.
          All-get_or (λ v. HasConstraint u c.args.by v root) xs i _ below all) _ _ step);
      read = All-grown_at (IsConstraintRead u (notes_in c.loop-version_set.self).kinds c.args.by)
          (IsConstraintRead u (notes_in c.read_constraint.new.self).kinds c.args.by) xs i _ (λ v h.
          IsConstraintRead-within u _ _ step.growth.kinds c.args.by v h) below before.read c.in_ok-read_constraint.ensures.read;
      asked = All-grown_at (λ v. Contains (notes_in c.loop-version_set.self).asked (u.version_set_name v)) (λ v.
          Contains (notes_in c.read_constraint.new.self).asked (u.version_set_name v)) xs i _ (λ v h.
          step.growth.asked _ h) below before.asked c.in_ok-read_constraint.ensures.asked;
    }

pub returns-clause-read : goal.returns-clause-read
returns-clause-read g c = let u = g.D.Interner.universe c.args.provider.now in
    All-done (IsConstraintRead u (notes_in c.loop-version_set.self).kinds c.args.by) c.args.constraints.now c.loop-version_set.version_set-index
    (omega arith) c.loop-version_set.invariant.read

pub returns-clause-asked : goal.returns-clause-asked
returns-clause-asked g c = let u = g.D.Interner.universe c.args.provider.now in
    All-done (λ v. Contains (notes_in c.loop-version_set.self).asked (u.version_set_name v)) c.args.constraints.now c.loop-version_set.version_set-index
    (omega arith) c.loop-version_set.invariant.asked
