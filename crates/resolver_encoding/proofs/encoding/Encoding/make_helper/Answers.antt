use Rattle.std.proofs.Common.{sym, subst, All, Bool, Contains, List, true}
use Rattle.std.specs.Prelude.{⊤}
use Rattle.std.proofs.lemmas.List.Elements.{All-contains, Contains-push}
use Rattle.resolver_clause_store.specs.Candidates.{others}
use Rattle.resolver_clause_store.specs.Laws.{IsIdentity}
use Rattle.resolver_clause_store.specs.declared.VersionSetId.{VersionSetId}
use Rattle.resolver_clause_store.specs.declared.ClauseKind.TheVariants.{Implies}
use Rattle.resolver_clause_store.specs.declared.Helper.TheVariants.{Constraint}
use Rattle.resolver_encoding.specs.Encodings.{idle}
use Rattle.resolver_encoding.specs.Notes.{notes_in}
use Rattle.resolver_encoding.proofs.EncodingLemmas.{IsStep-trans}
use Rattle.resolver_encoding.proofs.NoteLemmas.{IsStep-constrained, all_have}
use Rattle.resolver_encoding.proofs.encoding.Encoding.make_helper.Goals as goal

pub imply_each-requires : goal.imply_each-requires
imply_each-requires g c =
    let u = g.D.Interner.universe c.args.provider.now in
    let Identity : (g.row.S.Denot → g.row.S.Denot → Bool) → Type 0 = λ same. IsIdentity same in
    let identity = subst Identity (sym (g.met.D.Interner.solvables_compare c.args.provider.now)) g.met.D.Interner.solvables_are_values in
    let have = all_have u identity c.args.forbidden.now (others u c.args.version_set) c.requires.forbidden in
    record { no_bit = λ n i e. cc; follow = λ k d below codes. have k d below }

pub append-requires-clause-absent : goal.append-requires-clause-absent
append-requires-clause-absent g c =
    let Has : List VersionSetId → Type 0 = λ list. Contains list c.args.version_set in
    λ h. c.if-is_among.ensures (subst Has c.in_ok-imply_each.ensures.constrained h)

pub returns-clause-step : goal.returns-clause-step
returns-clause-step g c =
    let u = g.D.Interner.universe c.args.provider.now in
    let v = c.args.version_set in
    let mid = notes_in c.imply_each.new.self in
    let AllFollow : List g.row.S.Denot → Type 0 = λ list. All (λ s. Contains mid.kinds (Implies s (Constraint v) true)) list in
    IsStep-trans u idle (λ root. ⊤) _ _ _ c.in_ok-imply_each.ensures.step
    (IsStep-constrained u mid _ v (λ i. record mid { constrained = c.in_ok-append.ensures.keys i })
    (λ s h. All-contains (λ t. Contains mid.kinds (Implies t (Constraint v) true)) (others u v) s
    (subst AllFollow c.requires.forbidden c.in_ok-imply_each.ensures.implied) h))

pub returns-clause-constrained : goal.returns-clause-constrained
returns-clause-constrained g c =
    let Has : List VersionSetId → Type 0 = λ list. Contains list c.args.version_set in
    subst Has (sym c.in_ok-append.ensures.keys) (Contains-push c.imply_each.new.self.constrained.keys c.args.version_set)
