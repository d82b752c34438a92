use Rattle.std.proofs.Common.{arith, All, ◌<◌, length}
use Rattle.std.proofs.lemmas.List.Elements.{All-get_or, All-nil}
use Rattle.resolver_clause_store.specs.Universe.{Demands}
use Rattle.resolver_encoding.specs.Called.{IsCalledBy, IsCalledByEach}
use Rattle.resolver_encoding.specs.Encodings.{HasRequirement, IsLeft, IsUnmet}
use Rattle.resolver_encoding.specs.Notes.{notes_in}
use Rattle.resolver_encoding.specs.ReadState.{IsReadRequirement}
use Rattle.resolver_clause_store.proofs.SetLemmas.{All-done}
use Rattle.resolver_encoding.proofs.EncodingLemmas.{Extends-within, IsEncodingOf-read, IsEncodingOf-weaker, IsReadStep-same, IsReadStep-trans}
use Rattle.resolver_encoding.proofs.EncodingLemmas.{IsReadStep-weaker}
use Rattle.resolver_encoding.proofs.NoteLemmas.{All-grown_at}
use Rattle.resolver_encoding.proofs.ReadLemmas.{IsReadRequirement-within}
use Rattle.resolver_encoding.proofs.RequirementLemmas.{called_here}
use Rattle.resolver_encoding.proofs.RoomLemmas.{KeepsTrue-same, KeepsTrue-trans}
use Rattle.resolver_encoding.proofs.encoding.Encoding.read_requirements.Goals as goal

pub loop-requirement-init : goal.loop-requirement-init
loop-requirement-init g c =
    let u = g.D.Interner.universe c.args.provider.now in
    let set = c.args.chosen.now.keys in
    let old = notes_in c.args.self.now in
    record {
      room = KeepsTrue-same _;
      step = IsReadStep-same u (IsUnmet u set c.args.by) (IsCalledByEach u set c.args.requirements.now) (λ root.
          All (λ r. HasRequirement u c.args.by r root) c.args.requirements.now) old;
      read = All-nil (IsReadRequirement u old.kinds (IsLeft old) c.args.by);
    }

pub read_requirement-requires-clause-encoding : goal.read_requirement-requires-clause-encoding
read_requirement-requires-clause-encoding g c =
    let u = g.D.Interner.universe c.args.provider.now in
    let set = c.args.chosen.now.keys in
    let xs = c.args.requirements.now in
    let i = c.loop-requirement.requirement-index in
    let below : i < length xs = omega arith in
    let AllAsk : Demands → Type 0 = λ root. All (λ r. HasRequirement u c.args.by r root) xs in
    IsEncodingOf-weaker u AllAsk (HasRequirement u c.args.by _) (λ root all. All-get_or (λ r. HasRequirement u c.args.by r root) xs i _ below all)
    (notes_in c.loop-requirement.self)
    (IsEncodingOf-read u (IsUnmet u set c.args.by) (IsCalledByEach u set xs) AllAsk _ _ c.requires.encoding c.loop-requirement.invariant.step)

pub loop-requirement-preserved : goal.loop-requirement-preserved
loop-requirement-preserved g c =
    let u = g.D.Interner.universe c.args.provider.now in
    let by = c.args.by in
    let set = c.args.chosen.now.keys in
    let xs = c.args.requirements.now in
    let i = c.loop-requirement.requirement-index in
    let below : i < length xs = omega arith in
    let before = c.loop-requirement.invariant in
    let step = c.in_ok-read_requirement.ensures.step in
    let mid = notes_in c.loop-requirement.self in
    let new = notes_in c.read_requirement.new.self in
    let Premise : Demands → Type 0 = λ root. All (λ r. HasRequirement u by r root) xs in
    record {
      room = KeepsTrue-trans _ _ _ before.room c.read_requirement.ensures.room;
      step = IsReadStep-trans u (IsUnmet u set by) (IsCalledByEach u set xs) Premise _ _ _ before.step
          (IsReadStep-weaker u (IsUnmet u set by) (IsCalledBy u set _) (IsCalledByEach u set xs) (λ n called. called_here u set xs i _ n below called)
          (HasRequirement u by _) Premise (λ root all. All-get_or (λ v. HasRequirement u by v root) xs i _ below all) _ _ step);
      read = All-grown_at (IsReadRequirement u mid.kinds (IsLeft mid) by) (IsReadRequirement u new.kinds (IsLeft new) by) xs i _ (λ v h.
          IsReadRequirement-within u _ _ step.growth.kinds (IsLeft mid) (IsLeft new) (λ e k.
          Extends-within _ _ step.deferred _ k) by v h) below before.read c.in_ok-read_requirement.ensures.read;
    }

pub returns-clause-read : goal.returns-clause-read
returns-clause-read g c =
    let u = g.D.Interner.universe c.args.provider.now in
    let notes = notes_in c.loop-requirement.self in
    All-done (IsReadRequirement u notes.kinds (IsLeft notes) c.args.by) c.args.requirements.now c.loop-requirement.requirement-index
    (omega arith) c.loop-requirement.invariant.read
