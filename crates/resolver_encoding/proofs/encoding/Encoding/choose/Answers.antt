use Rattle.std.proofs.Common.{◌∙◌, subst, All, Contains, List}
use Rattle.std.specs.Prelude.{⊤}
use Rattle.std.proofs.lemmas.List.Elements.{All-weaker}
use Rattle.resolver_clause_store.specs.Candidates.{version_sets}
use Rattle.resolver_encoding.specs.Called.{IsNamedBy, IsSeeingEach, IsWantedBy}
use Rattle.resolver_encoding.specs.Notes.{notes_in}
use Rattle.resolver_encoding.proofs.EncodingLemmas.{IsAskStep-trans, IsAskStep-weaker}
use Rattle.resolver_encoding.proofs.RequirementLemmas.{listed_wanted, named_wanted}
use Rattle.resolver_encoding.proofs.RoomLemmas.{KeepsTrue-of}
use Rattle.resolver_encoding.proofs.encoding.Encoding.choose.Goals as goal

pub returns : goal.returns
returns g c =
    record {
      step = let u = g.D.Interner.universe c.args.provider.now in
          let r = c.args.requirement in
          let list = c.deref.result.now in
          IsAskStep-trans u (IsWantedBy u r) (λ root. ⊤) _ _ _
          (IsAskStep-weaker u (IsNamedBy u (version_sets u r)) (IsWantedBy u r) (named_wanted u r) (λ root. ⊤) (λ root. ⊤) (λ root _.
          tt) _ _ c.in_ok-ask_named.ensures.step)
          (IsAskStep-weaker u (IsSeeingEach list) (IsWantedBy u r) (listed_wanted u r list (c.deref.ensures.value ∙ c.in_ok-choices.ensures.candidates))
          (λ root.
          ⊤) (λ root. ⊤) (λ root _. tt) _ _ c.in_ok-see_all.ensures.step);
      asked = let u = g.D.Interner.universe c.args.provider.now in
          All-weaker (λ v. Contains (notes_in c.ask_named.new.self).asked (u.version_set_name v)) (λ v.
          Contains (notes_in c.see_all.new.self).asked (u.version_set_name v)) (λ v h. c.in_ok-see_all.ensures.step.growth.asked (u.version_set_name v) h)
          (version_sets u c.args.requirement) c.in_ok-ask_named.ensures.asked;
      seen = let AllSeen : List g.row.S.Denot → Type 0 = λ list. All (Contains (notes_in c.see_all.new.self).seen) list in
          subst AllSeen c.deref.ensures.value c.in_ok-see_all.ensures.seen;
      room = (let one = c.ask_named.ensures.room in let two = KeepsTrue-of _ _ c.see_all.ensures.room in
          record { variables = two.variables ∙ one.variables; clauses = two.clauses ∙ one.clauses; answers = λ _. two.answers c.choices_of.ensures.is_true });
      candidates = c.in_ok-choices.ensures.candidates;
      small = c.in_ok-choices.ensures.small;
      refusal = tt;
    }
