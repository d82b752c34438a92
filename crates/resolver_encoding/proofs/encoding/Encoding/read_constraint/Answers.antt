use Rattle.std.proofs.Common.{◌∙◌, sym, subst, Contains, List}
use Rattle.std.specs.Prelude.{⊤}
use Rattle.resolver_encoding.specs.Called.{IsAsking}
use Rattle.resolver_encoding.specs.Encodings.{HasConstraint}
use Rattle.resolver_encoding.specs.Notes.{notes_in}
use Rattle.resolver_encoding.proofs.EncodingLemmas.{IsAskStep-of, IsAskStep-trans, IsAskStep-weaker, IsEncodingOf-asked}
use Rattle.resolver_encoding.proofs.NoteLemmas.{asking_same}
use Rattle.resolver_encoding.proofs.RoomLemmas.{KeepsTrue-of}
use Rattle.resolver_encoding.proofs.encoding.Encoding.read_constraint.Goals as goal

pub constrain_by_helper-requires-clause-encoding : goal.constrain_by_helper-requires-clause-encoding
constrain_by_helper-requires-clause-encoding g c = let u = g.D.Interner.universe c.args.provider.now in
    let Premise = HasConstraint u c.args.by c.args.version_set in
    let Called = IsAsking c.version_set_name.result in
    IsEncodingOf-asked u Called Premise (notes_in c.args.self.now) _ c.requires.encoding
    (IsAskStep-weaker u Called Called (λ n h. h) (λ root. ⊤) Premise (λ root asks. tt) _ _ c.in_ok-ask.ensures.step)

pub returns-then-len-lt-CONSTRAINT_HELPER_THRESHOLD : goal.returns-then-len-lt-CONSTRAINT_HELPER_THRESHOLD
returns-then-len-lt-CONSTRAINT_HELPER_THRESHOLD g c =
    record {
      step = let u = g.D.Interner.universe c.args.provider.now in
          let Premise = HasConstraint u c.args.by c.args.version_set in
          let Named = IsAsking c.version_set_name.result in
          let Called = IsAsking (u.version_set_name c.args.version_set) in
          IsAskStep-trans u Called Premise _ _ _
          (IsAskStep-weaker u Named Called (asking_same _ _ c.version_set_name.ensures) (λ root. ⊤) Premise (λ root asks. tt) _ _ c.in_ok-ask.ensures.step)
          (IsAskStep-of u Called Premise _ _ c.in_ok-constrain_each.ensures.step);
      asked = let Has : List g.row.N.Denot → Type 0 = λ list. Contains list c.version_set_name.result in
          rw c.version_set_name.ensures at (subst Has (sym c.in_ok-constrain_each.ensures.step.asked) c.in_ok-ask.ensures.asked);
      room = (let one = c.ask.ensures.limits in let two = KeepsTrue-of _ _ c.constrain_each.ensures.room in
          record { variables = two.variables ∙ one.variables; clauses = two.clauses ∙ one.clauses; answers = λ _. two.answers c.fetch_non_matching.ensures.is_true });
      read = c.in_ok-constrain_each.ensures.read;
      refusal = tt;
    }

pub returns : goal.returns
returns g c =
    record {
      step = let u = g.D.Interner.universe c.args.provider.now in
          let Premise = HasConstraint u c.args.by c.args.version_set in
          let Named = IsAsking c.version_set_name.result in
          let Called = IsAsking (u.version_set_name c.args.version_set) in
          IsAskStep-trans u Called Premise _ _ _
          (IsAskStep-weaker u Named Called (asking_same _ _ c.version_set_name.ensures) (λ root. ⊤) Premise (λ root asks. tt) _ _ c.in_ok-ask.ensures.step)
          (IsAskStep-of u Called Premise _ _ c.in_ok-constrain_by_helper.ensures.step);
      asked = let Has : List g.row.N.Denot → Type 0 = λ list. Contains list c.version_set_name.result in
          rw c.version_set_name.ensures at (subst Has (sym c.in_ok-constrain_by_helper.ensures.step.asked) c.in_ok-ask.ensures.asked);
      room = (let one = c.ask.ensures.limits in let two = KeepsTrue-of _ _ c.constrain_by_helper.ensures.room in
          record { variables = two.variables ∙ one.variables; clauses = two.clauses ∙ one.clauses; answers = λ _. two.answers c.fetch_non_matching.ensures.is_true });
      read = c.in_ok-constrain_by_helper.ensures.read;
      refusal = tt;
    }

pub constrain_each-requires : goal.constrain_each-requires
constrain_each-requires g c = record { forbidden = c.deref.ensures.value ∙ c.in_ok-forbidden.ensures.items ∙ c.non_matching.ensures (g.D.Interner.universe c.args.provider.now) c.fetch_non_matching.ensures.is_true }

pub constrain_by_helper-requires-clause-forbidden : goal.constrain_by_helper-requires-clause-forbidden
constrain_by_helper-requires-clause-forbidden g c =
    c.deref-2.ensures.value ∙ c.in_ok-forbidden.ensures.items ∙ c.non_matching.ensures (g.D.Interner.universe c.args.provider.now) c.fetch_non_matching.ensures.is_true
