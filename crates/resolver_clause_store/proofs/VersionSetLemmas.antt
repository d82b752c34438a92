-- The derived `==` of the ids of version sets.
use Rattle.std.proofs.Common.{ℕ, Bool, nat_eq, refl, ap}
use Rattle.std.specs.Cmp.{IsEquivalence, nat_eq_equiv, on_equiv}
use Rattle.std.proofs.lemmas.Bool.{eqb-true, eq-eqb}
use Rattle.resolver_clause_store.specs.Laws.{IsIdentity}
use Rattle.resolver_clause_store.specs.declared.ids.VersionSetId.{VersionSetId}

-- the test compares the numbers
abbrev pub same_version_set : VersionSetId → VersionSetId → Bool
same_version_set a b = nat_eq a.0 b.0

id_of : ℕ → VersionSetId
id_of n = record { 0 = n }

pub version_sets_are_values : IsIdentity same_version_set
version_sets_are_values = record { alone = λ a b e. unfold id_of in ap id_of (eqb-true a.0 b.0 e); itself = λ a. eq-eqb a.0 a.0 refl }

pub version_sets_compare : IsEquivalence same_version_set
version_sets_compare = on_equiv (λ (v : VersionSetId). v.0) nat_eq_equiv
