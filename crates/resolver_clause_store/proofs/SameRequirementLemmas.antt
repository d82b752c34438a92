-- Requirements that are the same are equal.
use Rattle.std.proofs.Common.{◌≡◌, ℕ, true, ap, refl}
use Rattle.std.proofs.lemmas.Bool.{eqb-true, eq-eqb}
use Rattle.resolver_clause_store.specs.SameRequirements.{same_requirement}
use Rattle.resolver_clause_store.specs.declared.data.Requirement.{Requirement}
use Rattle.resolver_clause_store.specs.declared.data.Requirement.TheVariants.{Single, Union}

pub same_requirement-true : (r q : Requirement) → same_requirement r q ≡ true → r ≡ q
same_requirement-true (Single v) (Single w) e =
    let same : v.0 ≡ w.0 = eqb-true _ _ e in let Of : ℕ → Requirement = λ n. Single (record { 0 = n }) in ap Of same
same_requirement-true (Single v) (Union w) e = cc
same_requirement-true (Union v) (Single w) e = cc
same_requirement-true (Union v) (Union w) e =
    let same : v.0 ≡ w.0 = eqb-true _ _ e in let Of : ℕ → Requirement = λ n. Union (record { 0 = n }) in ap Of same

pub same_requirement-same : (r : Requirement) → same_requirement r r ≡ true
same_requirement-same (Single v) = eq-eqb v.0 v.0 refl
same_requirement-same (Union v) = eq-eqb v.0 v.0 refl
