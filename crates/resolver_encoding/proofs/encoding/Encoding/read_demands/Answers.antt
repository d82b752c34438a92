use Rattle.std.proofs.Common.{◌≡◌, inl, inr, sym, subst, All, Contains, List}
use Rattle.std.specs.Prelude.{Option, Some, ⊤}
use Rattle.std.proofs.lemmas.List.Elements.{All-contains_itself, All-weaker}
use Rattle.resolver_clause_store.specs.Universe.{Demands}
use Rattle.resolver_encoding.specs.DemandsView.{demands_in}
use Rattle.resolver_clause_store.specs.TrueRules.{demands_by}
use Rattle.resolver_encoding.specs.Called.{IsCalledByEach, IsDemanded, IsNamedBy, IsPlainlyNamedByEach}
use Rattle.resolver_encoding.specs.Encodings.{HasConstraints, HasRequirements, IsLeft, IsUnmet}
use Rattle.resolver_encoding.specs.Notes.{notes_in}
use Rattle.resolver_encoding.specs.ReadState.{Deferred, IsReadRequirement}
use Rattle.resolver_encoding.proofs.EncodingLemmas.{IsAskStep-trans, IsAskStep-weaker, IsEncodingOf-asked, IsEncodingOf-read, IsEncodingOf-weaker}
use Rattle.resolver_encoding.proofs.EncodingLemmas.{IsReadStep-of, IsReadStep-trans, IsReadStep-weaker}
use Rattle.resolver_encoding.proofs.ReadLemmas.{IsReadRequirement-within}
use Rattle.resolver_encoding.proofs.RequirementLemmas.{plainly_called}
use Rattle.resolver_encoding.proofs.RoomLemmas.{KeepsTrue-trans}
use Rattle.resolver_encoding.proofs.encoding.Encoding.read_demands.Goals as goal

pub read_requirements-requires-clause-encoding : goal.read_requirements-requires-clause-encoding
read_requirements-requires-clause-encoding g c = let u = g.D.Interner.universe c.args.provider.now in
    let by = c.args.by in
    let rs = c.args.demands.requirements.now in
    let vs = c.args.demands.constraints.now in
    let Premise : Demands → Type 0 = λ root. demands_by u root by ≡ demands_in c.args.demands in
    let AllAsk : Demands → Type 0 = λ d. All (λ r. Contains d.requirements r) rs in
    let Plainly = IsPlainlyNamedByEach u rs in
    let first = IsEncodingOf-asked u Plainly Premise _ _ c.requires.encoding
    (IsAskStep-weaker u Plainly Plainly (λ n h. h) (λ root. ⊤) Premise (λ root _. tt) _ _ c.in_ok-ask_plain_each.ensures.step) in
    let second = IsEncodingOf-asked u (IsNamedBy u vs) Premise _ _ first
    (IsAskStep-weaker u (IsNamedBy u vs) (IsNamedBy u vs) (λ n h. h) (λ root. ⊤) Premise (λ root _. tt) _ _ c.in_ok-ask_each.ensures.step) in
    IsEncodingOf-weaker u Premise (HasRequirements u by rs) (λ root same. subst AllAsk (sym same) (All-contains_itself rs))
    (notes_in c.ask_each.new.self) second

pub read_constraints-requires-clause-encoding : goal.read_constraints-requires-clause-encoding
read_constraints-requires-clause-encoding g c = let u = g.D.Interner.universe c.args.provider.now in
    let by = c.args.by in
    let set = c.args.chosen.now.keys in
    let rs = c.args.demands.requirements.now in
    let vs = c.args.demands.constraints.now in
    let Premise : Demands → Type 0 = λ root. demands_by u root by ≡ demands_in c.args.demands in
    let AllAsk : Demands → Type 0 = λ d. All (λ r. Contains d.requirements r) rs in
    let AllWithin : Demands → Type 0 = λ d. All (λ v. Contains d.constraints v) vs in
    let Plainly = IsPlainlyNamedByEach u rs in
    let first = IsEncodingOf-asked u Plainly Premise _ _ c.requires.encoding
    (IsAskStep-weaker u Plainly Plainly (λ n h. h) (λ root. ⊤) Premise (λ root _. tt) _ _ c.in_ok-ask_plain_each.ensures.step) in
    let second = IsEncodingOf-asked u (IsNamedBy u vs) Premise _ _ first
    (IsAskStep-weaker u (IsNamedBy u vs) (IsNamedBy u vs) (λ n h. h) (λ root. ⊤) Premise (λ root _. tt) _ _ c.in_ok-ask_each.ensures.step) in
    let third = IsEncodingOf-read u (IsUnmet u set by) (IsCalledByEach u set rs) Premise _ _ second
    (IsReadStep-weaker u (IsUnmet u set by) (IsCalledByEach u set rs) (IsCalledByEach u set rs) (λ n h. h) (HasRequirements u by rs) Premise (λ root same.
    subst AllAsk (sym same) (All-contains_itself rs)) _ _ c.in_ok-read_requirements.ensures.step) in
    IsEncodingOf-weaker u Premise (HasConstraints u by vs) (λ root same. subst AllWithin (sym same) (All-contains_itself vs))
    (notes_in c.read_requirements.new.self) third

pub returns : goal.returns
returns g c =
    record {
      step = let u = g.D.Interner.universe c.args.provider.now in
          let by = c.args.by in
          let set = c.args.chosen.now.keys in
          let rs = c.args.demands.requirements.now in
          let vs = c.args.demands.constraints.now in
          let Premise : Demands → Type 0 = λ root. demands_by u root by ≡ demands_in c.args.demands in
          let AllAsk : Demands → Type 0 = λ d. All (λ r. Contains d.requirements r) rs in
          let AllWithin : Demands → Type 0 = λ d. All (λ v. Contains d.constraints v) vs in
          let Plainly = IsPlainlyNamedByEach u rs in
          let Demanded = IsDemanded u set (demands_in c.args.demands) in
          let Defers = IsUnmet u set by in
          let asked = IsAskStep-trans u Demanded Premise _ _ _
          (IsAskStep-weaker u Plainly Demanded (λ n h. inl (plainly_called u set rs n h)) (λ root. ⊤) Premise (λ root _. tt) _ _
          c.in_ok-ask_plain_each.ensures.step)
          (IsAskStep-weaker u (IsNamedBy u vs) Demanded (λ n h. inr h) (λ root. ⊤) Premise (λ root _. tt) _ _ c.in_ok-ask_each.ensures.step) in
          let required = IsReadStep-trans u Defers Demanded Premise _ _ _ (IsReadStep-of u Defers Demanded Premise _ _ asked)
          (IsReadStep-weaker u Defers (IsCalledByEach u set rs) Demanded (λ n h. inl h) (HasRequirements u by rs) Premise (λ root same.
          subst AllAsk (sym same) (All-contains_itself rs)) _ _ c.in_ok-read_requirements.ensures.step) in
          IsReadStep-trans u Defers Demanded Premise _ _ _ required
          (IsReadStep-of u Defers Demanded Premise _ _
          (IsAskStep-weaker u (IsNamedBy u vs) Demanded (λ n h. inr h) (HasConstraints u by vs) Premise (λ root same.
          subst AllWithin (sym same) (All-contains_itself vs)) _ _ c.in_ok-read_constraints.ensures.step));
      read = let u = g.D.Interner.universe c.args.provider.now in
          let by = c.args.by in
          let mid = notes_in c.read_requirements.new.self in
          let new = notes_in c.read_constraints.new.self in
          let step = c.in_ok-read_constraints.ensures.step in
          let left : (e : Deferred g.row.S.Denot) → IsLeft mid e → IsLeft new e = λ e h. let Has : List (Option (Deferred g.row.S.Denot)) → Type 0 =
          λ list. Contains list (Some e) in subst Has (sym step.deferred) h in
          record {
            requirements = All-weaker (IsReadRequirement u mid.kinds (IsLeft mid) by) (IsReadRequirement u new.kinds (IsLeft new) by) (λ r h.
                IsReadRequirement-within u _ _ step.growth.kinds (IsLeft mid) (IsLeft new) left by r h) c.args.demands.requirements.now c.in_ok-read_requirements.ensures.read;
            constraints = c.in_ok-read_constraints.ensures.read;
            packages = c.in_ok-read_constraints.ensures.asked;
          };
      room = KeepsTrue-trans _ _ _ c.ask_plain_each.ensures.room (KeepsTrue-trans _ _ _ c.ask_each.ensures.room
          (KeepsTrue-trans _ _ _ c.read_requirements.ensures.room c.read_constraints.ensures.room));
      refusal = tt;
    }
