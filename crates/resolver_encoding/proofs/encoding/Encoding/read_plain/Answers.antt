use Rattle.std.specs.Prelude.{None, map, ⊤}
use Rattle.std.proofs.Common.{ap, refl}
use Rattle.resolver_clause_store.specs.Candidates.{matching}
use Rattle.resolver_clause_store.specs.declared.By.TheVariants.{Solvable as BySolvable}
use Rattle.resolver_encoding.specs.Called.{IsWantedBy}
use Rattle.resolver_encoding.specs.Encodings.{HasPlainRequirement, IsTrueUnder, idle}
use Rattle.resolver_encoding.specs.Notes.{notes_in}
use Rattle.resolver_encoding.specs.ReadState.{has_direct}
use Rattle.resolver_encoding.proofs.EncodingLemmas.{IsAskStep-of, IsAskStep-trans, IsAskStep-weaker, IsEncodingOf-asked, IsEncodingOf-step, IsStep-weaker}
use Rattle.resolver_encoding.proofs.RequirementLemmas.{gate_read}
use Rattle.resolver_encoding.proofs.RoomLemmas.{KeepsRoom-trans, KeepsTrue-of, KeepsTrue-trans}
use Rattle.resolver_encoding.proofs.encoding.Encoding.read_plain.Goals as goal

pub returns-then-is_among : goal.returns-then-is_among
returns-then-is_among g c =
    record {
      step = let u = g.D.Interner.universe c.args.provider.now in
          let Premise = HasPlainRequirement u c.args.requirer c.args.requirement in
          IsAskStep-of u (IsWantedBy u c.args.requirement) Premise _ _ c.in_ok-imply_gate.ensures.step;
      read = let u = g.D.Interner.universe c.args.provider.now in
          let Premise = HasPlainRequirement u c.args.requirer c.args.requirement in
          let step = c.in_ok-imply_gate.ensures.step in
          gate_read u Premise (notes_in c.args.self.now) (notes_in c.imply_gate.new.self) c.args.requirer c.args.requirement c.requires.encoding step
          (step.gates _ c.if-is_among.ensures) c.in_ok-imply_gate.ensures.implied;
      room = KeepsTrue-of _ _ c.imply_gate.ensures.room;
      refusal = tt;
    }

pub returns-then-len-lt-GATE_THRESHOLD : goal.returns-then-len-lt-GATE_THRESHOLD
returns-then-len-lt-GATE_THRESHOLD g c =
    record {
      step = let u = g.D.Interner.universe c.args.provider.now in
          let r = c.args.requirement in
          let by = BySolvable c.args.requirer in
          let Called = IsWantedBy u r in
          let Premise = HasPlainRequirement u c.args.requirer r in
          IsAskStep-trans u Called Premise _ _ _ (IsAskStep-weaker u Called Called (λ n h. h) (λ root. ⊤) Premise (λ root asks. tt) _ _
          c.in_ok-choices.ensures.step)
          (IsAskStep-of u Called Premise _ _
          (IsStep-weaker u idle (IsTrueUnder u (record { by = by; disjunct = _; requirement = r })) Premise (λ root asks.
          (record { condition = None; requirement = r }, asks, refl, ap (map (matching u)) c.new-none.ensures.items)) _ _ c.in_ok-encode_choices.ensures.step));
      read = has_direct _ c.new-none.ensures.items c.in_ok-encode_choices.ensures.read;
      room = (let it = KeepsTrue-trans _ _ _ c.choose.ensures.room c.encode_choices.ensures.room in
          record { variables = it.variables; clauses = it.clauses; answers = it.answers });
      refusal = tt;
    }

pub returns : goal.returns
returns g c =
    record {
      step = let u = g.D.Interner.universe c.args.provider.now in
          let r = c.args.requirement in
          let Called = IsWantedBy u r in
          let Premise = HasPlainRequirement u c.args.requirer r in
          let made = IsAskStep-trans u Called (λ root. ⊤) _ _ _ c.in_ok-choices.ensures.step (IsAskStep-of u Called (λ root. ⊤) _ _
          c.in_ok-make_gate.ensures.step) in
          IsAskStep-trans u Called Premise _ _ _ (IsAskStep-weaker u Called Called (λ n h. h) (λ root. ⊤) Premise (λ root asks. tt) _ _ made)
          (IsAskStep-of u Called Premise _ _ c.in_ok-imply_gate-2.ensures.step);
      read = let u = g.D.Interner.universe c.args.provider.now in
          let r = c.args.requirement in
          let Called = IsWantedBy u r in
          let Premise = HasPlainRequirement u c.args.requirer r in
          let chosen = IsEncodingOf-asked u Called Premise _ _ c.requires.encoding
          (IsAskStep-weaker u Called Called (λ n h. h) (λ root. ⊤) Premise (λ root asks. tt) _ _ c.in_ok-choices.ensures.step) in
          let before = IsEncodingOf-step u Premise _ _ chosen (IsStep-weaker u idle (λ root. ⊤) Premise (λ root asks. tt) _ _ c.in_ok-make_gate.ensures.step) in
          let step = c.in_ok-imply_gate-2.ensures.step in
          gate_read u Premise (notes_in c.make_gate.new.self) (notes_in c.imply_gate-2.new.self) c.args.requirer r before step
          (step.gates _ c.in_ok-make_gate.ensures.gate) c.in_ok-imply_gate-2.ensures.implied;
      room = (let it = KeepsTrue-trans _ _ _ c.choose.ensures.room (KeepsTrue-of _ _ (KeepsRoom-trans _ _ _ c.make_gate.ensures.room c.imply_gate-2.ensures.room)) in
          record { variables = it.variables; clauses = it.clauses; answers = it.answers });
      refusal = tt;
    }

pub encode_choices-requires-clause-candidates : goal.encode_choices-requires-clause-candidates
encode_choices-requires-clause-candidates g c = c.in_ok-choices.ensures.candidates

pub encode_choices-requires-clause-small : goal.encode_choices-requires-clause-small
encode_choices-requires-clause-small g c = c.in_ok-choices.ensures.small

pub encode_choices-requires-clause-asked : goal.encode_choices-requires-clause-asked
encode_choices-requires-clause-asked g c = c.in_ok-choices.ensures.asked

pub encode_choices-requires-clause-seen : goal.encode_choices-requires-clause-seen
encode_choices-requires-clause-seen g c = c.in_ok-choices.ensures.seen

pub make_gate-requires-clause-candidates : goal.make_gate-requires-clause-candidates
make_gate-requires-clause-candidates g c = c.in_ok-choices.ensures.candidates

pub make_gate-requires-clause-small : goal.make_gate-requires-clause-small
make_gate-requires-clause-small g c = c.in_ok-choices.ensures.small

pub make_gate-requires-clause-asked : goal.make_gate-requires-clause-asked
make_gate-requires-clause-asked g c = c.in_ok-choices.ensures.asked

pub make_gate-requires-clause-seen : goal.make_gate-requires-clause-seen
make_gate-requires-clause-seen g c = c.in_ok-choices.ensures.seen
