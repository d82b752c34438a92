use Rattle.std.proofs.Common.{◌∙◌, sym, subst, All, Bool, Contains, List, true}
use Rattle.std.specs.Prelude.{⊤}
use Rattle.std.proofs.lemmas.List.Elements.{All-contains, Contains-push}
use Rattle.resolver_clause_store.specs.Candidates.{matching}
use Rattle.resolver_clause_store.specs.Laws.{IsIdentity}
use Rattle.resolver_clause_store.specs.declared.VersionSetId.{VersionSetId}
use Rattle.resolver_clause_store.specs.declared.ClauseKind.TheVariants.{Implies}
use Rattle.resolver_clause_store.specs.declared.Helper.TheVariants.{Condition}
use Rattle.resolver_encoding.specs.Encodings.{idle}
use Rattle.resolver_encoding.specs.Notes.{notes_in}
use Rattle.resolver_encoding.proofs.EncodingLemmas.{IsStep-trans}
use Rattle.resolver_encoding.proofs.NoteLemmas.{IsStep-helped, all_have}
use Rattle.resolver_encoding.proofs.EncodingLemmas.{IsStep-same}
use Rattle.resolver_encoding.proofs.RoomLemmas.{KeepsTrue-of, KeepsTrue-same}
use Rattle.resolver_encoding.proofs.encoding.Encoding.help.Goals as goal

pub imply_each-requires : goal.imply_each-requires
imply_each-requires g c =
    let u = g.D.Interner.universe c.args.provider.now in
    let Identity : (g.row.S.Denot → g.row.S.Denot → Bool) → Type 0 = λ same. IsIdentity same in
    let identity = subst Identity (sym (g.met.D.Interner.solvables_compare c.args.provider.now)) g.met.D.Interner.solvables_are_values in
    let have = all_have u identity c.deref.result.now (matching u c.args.version_set)
    (c.deref.ensures.value ∙ c.in_ok-candidates.ensures.items ∙ c.matching.ensures u c.fetch_matching.ensures.is_true) in
    record { no_bit = λ n i e. cc; follow = λ k d below codes. have k d below }

pub append-requires-clause-absent : goal.append-requires-clause-absent
append-requires-clause-absent g c = let Has : List VersionSetId → Type 0 = λ list. Contains list c.args.version_set in
    λ h. c.if-is_among.ensures (subst Has c.in_ok-imply_each.ensures.helped h)

pub returns-then-is_among : goal.returns-then-is_among
returns-then-is_among g c =
    record {
      room = KeepsTrue-same _;
      step = IsStep-same (g.D.Interner.universe c.args.provider.now) idle (λ root. ⊤) (notes_in c.args.self.now);
      helped = c.if-is_among.ensures;
      refusal = tt;
    }

pub returns : goal.returns
returns g c =
    record {
      step = let u = g.D.Interner.universe c.args.provider.now in
          let v = c.args.version_set in
          let mid = notes_in c.imply_each.new.self in
          let answer = c.deref.ensures.value ∙ c.in_ok-candidates.ensures.items ∙ c.matching.ensures u c.fetch_matching.ensures.is_true in
          let AllFollow : List g.row.S.Denot → Type 0 = λ list. All (λ s. Contains mid.kinds (Implies s (Condition v) true)) list in
          IsStep-trans u idle (λ root. ⊤) _ _ _ c.in_ok-imply_each.ensures.step
          (IsStep-helped u mid _ v (λ i. record mid { helped = c.in_ok-append.ensures.keys i }) (λ s h.
          All-contains (λ t. Contains mid.kinds (Implies t (Condition v) true)) (matching u v) s (subst AllFollow answer c.in_ok-imply_each.ensures.implied) h));
      helped = let Has : List VersionSetId → Type 0 = λ list. Contains list c.args.version_set in
          subst Has (sym c.in_ok-append.ensures.keys) (Contains-push c.imply_each.new.self.helped.keys c.args.version_set);
      room = (let it = KeepsTrue-of _ _ c.imply_each.ensures.room in record { variables = it.variables; clauses = it.clauses; answers = λ _. it.answers c.fetch_matching.ensures.is_true });
      refusal = tt;
    }
