-- A valid set obeys every true rule.
use Rattle.std.proofs.Common.{List, [], sym, ◌∙◌, ap, subst, inl, inr, All}
use Rattle.std.proofs.lemmas.List.Elements.{All-contains}
use Rattle.resolver_clause_store.specs.Lists.{Meets}
use Rattle.resolver_clause_store.specs.Universe.{Universe, Demands}
use Rattle.resolver_clause_store.specs.Candidates.{requirement_candidates}
use Rattle.resolver_clause_store.specs.Valid.{IsValid}
use Rattle.resolver_clause_store.specs.declared.Rule.{Rule}
use Rattle.resolver_clause_store.specs.declared.Rule.TheVariants.{Requires, Constrains, Lock, Excluded, OnePerPackage}
use Rattle.resolver_clause_store.specs.Statements.{statement_of, ObeysAlone}
use Rattle.resolver_clause_store.specs.Rules.{Obeys}
use Rattle.resolver_clause_store.proofs.DemandLemmas.{active_by, constrains_by, not_unknown, requires_by}
use Rattle.resolver_clause_store.specs.TrueRules.{IsTrueRule}
use Rattle.resolver_clause_store.proofs.ListLemmas.{Contains-none}

obeys_alone : {N S : Type 0} (u : Universe N S) (root : Demands) (set : List S) → IsValid u root set [] → (rule : Rule N S) → IsTrueRule u root rule →
    ObeysAlone set (statement_of rule)
obeys_alone {N} {S} u root set ok (Requires by requirement candidates when) (r, stated, same, are, implied) = λ here meets.
    let met = ok.required r (requires_by u root set by r here stated) (active_by u set _ r.condition implied meets) in
    let HasMember : List S → Type 0 = λ xs. Meets xs set in
    subst HasMember (ap (requirement_candidates u) same ∙ sym are) met
obeys_alone u root set ok (Constrains by v candidate) (stated, other) =
    λ here inside. ok.constrained v (constrains_by u root set by v here stated) candidate inside other
obeys_alone u root set ok (Lock locked forbidden) (lock, listed, apart) =
    λ inside. ok.not_locked_out forbidden inside (λ none. Contains-none forbidden none) (locked, lock, listed, apart)
obeys_alone u root set ok (Excluded s reason) h = λ inside.
    elim h [ inl listed ↦ ok.not_excluded s inside (Contains-none s) (reason, listed) | inr none ↦ not_unknown _ reason (ok.known_needs s inside) none ]
obeys_alone u root set ok (OnePerPackage n s) h = tt

pub Obeys-true_rules : {N S : Type 0} (u : Universe N S) (root : Demands) (rules : List (Rule N S)) (set : List S) → All (IsTrueRule u root) rules →
    IsValid u root set [] → Obeys set rules
Obeys-true_rules u root rules set true_rules ok = record {
  each = λ r inside. obeys_alone u root set ok r (All-contains (IsTrueRule u root) rules r true_rules inside);
  one_each = λ n s t first second in_set in_set'. ok.one_each s t in_set in_set'
      (All-contains (IsTrueRule u root) rules (OnePerPackage n s) true_rules first ∙
      sym (All-contains (IsTrueRule u root) rules (OnePerPackage n t) true_rules second));
}
