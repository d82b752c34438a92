-- An example of a promise that is kept: a provider that writes down its questions, and a root with a requirement for
-- one version set, whose first candidate is the favored one.
use Rattle.std.proofs.Common.{◌≡◌, ℕ, [], ◌∷◌, Some, None, Contains, inl, inr, refl, sym, ap, ◌∙◌, subst}
use Rattle.std.proofs.lemmas.Option.{none-some, same_Some}
use Rattle.std.proofs.lemmas.List.Elements.{All-contains, All-cons, All-nil}
use Rattle.resolver_clause_store.specs.Candidates.{first_choice, requirement_candidates}
use Rattle.resolver_clause_store.specs.FirstChoice.{IsFirst, IsFirstNext, IsPromised}
use Rattle.resolver_clause_store.specs.Lists.{Meets}
use Rattle.resolve.specs.NotingProvider.{test_universe}
use Rattle.resolver_clause_store.specs.Universe.{Demands}
use Rattle.resolver_clause_store.specs.Valid.{Constrains, IsExcluded, IsKnown, IsLockedOut, IsValid, Requires, demands_of}
use Rattle.resolver_clause_store.specs.declared.ConditionalRequirement.{ConditionalRequirement}
use Rattle.resolver_clause_store.specs.declared.Requirement.TheVariants.{Single, Union}
use Rattle.resolver_clause_store.specs.declared.VersionSetId.{VersionSetId}
use Rattle.resolver_clause_store.specs.declared.VersionSetUnionId.{VersionSetUnionId}
use Rattle.resolver_clause_store.proofs.ListLemmas.{Contains-here as first_in, Contains-none}
use Rattle.resolver_clause_store.proofs.FirstChoiceLemmas.{IsFirst-least}

abbrev wanted : VersionSetId
wanted = record { 0 = 12 }

abbrev asked : ConditionalRequirement
asked = record { condition = None; requirement = Single wanted }

abbrev root : Demands
root = record { requirements = asked ∷ []; constraints = [] }

-- the only element of a list
only : {X : Type 0} (x y : X) → Contains (x ∷ []) y → y ≡ x
only {X} x y h = All-contains (λ z. z ≡ x) (x ∷ []) y (All-cons (λ z. z ≡ x) x [] refl (All-nil (λ z. z ≡ x))) h

-- the chosen solvable has no requirements
one_requires : (s : ℕ) (r : ConditionalRequirement) → s ≡ 11 → Contains (demands_of ((test_universe []).needs s)).requirements r → ⊥
one_requires s r e h = let Asks : ℕ → Type 0 = λ t. Contains (demands_of ((test_universe []).needs t)).requirements r in Contains-none r (subst Asks e h)

requires_is : (r : ConditionalRequirement) → Requires (test_universe []) root (Contains (11 ∷ [])) r → r ≡ asked
requires_is r (inl h) = only asked r h
requires_is r (inr (s, inside, h)) = absurd (one_requires s r (only 11 s inside) h)

-- no other version set is wanted
named : (r : ConditionalRequirement) (v : VersionSetId) → r ≡ asked → r.requirement ≡ Single v → v ≡ wanted
named r v e single =
    let same : Single v ≡ Single wanted = sym single ∙ ap (λ (q : ConditionalRequirement). q.requirement) e in
    cc

next_in : (s : ℕ) → IsFirstNext (test_universe []) root (Contains (11 ∷ [])) s → Contains (11 ∷ []) s
next_in s (r, v, requires_it, active, single, choice) =
    let Chooses : VersionSetId → Type 0 = λ w. first_choice (test_universe []) w ≡ Some s in
    let In : ℕ → Type 0 = λ t. Contains (11 ∷ []) t in
    subst In (same_Some 11 s (subst Chooses (named r v (requires_is r requires_it) single) choice)) (first_in 11 [])

-- the solvable is among the first choices after one step
is_first : (s : ℕ) → s ≡ 11 → IsFirst (test_universe []) root s
is_first s e = let First : ℕ → Type 0 = λ t. IsFirst (test_universe []) root t in
    subst First (sym e) (1, inr (asked, wanted, inl (first_in asked []), tt, refl, refl))

met : (r : ConditionalRequirement) → r ≡ asked → Meets (requirement_candidates (test_universe []) r.requirement) (11 ∷ [])
met r e =
    let Met : ConditionalRequirement → Type 0 = λ q. Meets (requirement_candidates (test_universe []) q.requirement) (11 ∷ []) in
    subst Met (sym e) (record { shared = 11; in_first = first_in 11 (12 ∷ []); in_second = first_in 11 [] })

constrains_none : (v : VersionSetId) → Constrains (test_universe []) root (Contains (11 ∷ [])) v → ⊥
constrains_none v (inl h) = Contains-none v h
constrains_none v (inr (s, inside, h)) =
    let Asks : ℕ → Type 0 = λ t. Contains (demands_of ((test_universe []).needs t)).constraints v in
    Contains-none v (subst Asks (only 11 s inside) h)

answers : IsValid (test_universe []) root (11 ∷ []) []
answers = record {
  known_needs = λ s h. let Known : ℕ → Type 0 = λ t. IsKnown ((test_universe []).needs t) in subst Known (sym (only 11 s h)) tt;
  required = λ r requires_it active. met r (requires_is r requires_it);
  constrained = λ v named s h other. constrains_none v named;
  one_each = λ s t h k same. only 11 s h ∙ sym (only 11 t k);
  not_locked_out = λ s h free out. let Out : ℕ → Type 0 = λ t. IsLockedOut (test_universe []) t in none_locked (subst Out (only 11 s h) out);
  not_excluded = λ s h free out. let Out : ℕ → Type 0 = λ t. IsExcluded (test_universe []) t in none_excluded (subst Out (only 11 s h) out);
}
  where
    none_locked : IsLockedOut (test_universe []) 11 → ⊥
    none_locked (t, locked, listed, apart) = absurd (none-some t locked)

    none_excluded : IsExcluded (test_universe []) 11 → ⊥
    none_excluded (reason, h) = Contains-none (11, reason) h

no_unions : (r : ConditionalRequirement) (m : VersionSetUnionId) → r ≡ asked → r.requirement ≡ Union m → ⊥
no_unions r m e union =
    let same : Union m ≡ Single wanted = sym union ∙ ap (λ (q : ConditionalRequirement). q.requirement) e in
    absurd cc

pub example : IsPromised (test_universe []) root (11 ∷ [])
example = record {
  members = λ s. (λ h. is_first s (only 11 s h), IsFirst-least (test_universe []) root (Contains (11 ∷ [])) next_in s);
  valid = answers;
  no_union = λ r requires_it active m union. no_unions r m (requires_is r requires_it) union;
}
