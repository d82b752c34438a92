-- The numbers of the requirement clauses.
use Rattle.std.proofs.Common.{◌≡◌, ℕ, suc, zero, ◌+◌, List, [], ◌∷◌, ◌++◌, length, ap, ◌∙◌, sym, subst, ⊎_elim, arith, refl, append-nil, Contains}
use Rattle.std.specs.Prelude.{Option, Some, map, slice_get}
use Rattle.std.proofs.lemmas.List.{map-append}
use Rattle.std.proofs.lemmas.Option.{slice_get_within}
use Rattle.resolver_clause_store.specs.declared.By.{By}
use Rattle.resolver_clause_store.specs.declared.ClauseKind.{ClauseKind}
use Rattle.resolver_clause_store.specs.declared.ClauseKind.TheVariants.{Requires}
use Rattle.resolver_clause_store.specs.declared.Requirement.{Requirement}
use Rattle.resolver_clause_store.specs.declared.RequirementClause.{RequirementClause}
use Rattle.resolver_clause_store.proofs.ListLemmas.{Contains-cons_cases as cons_cases, Contains-here as here, Contains-none as none_in, Contains-there as there}
use Rattle.resolver_encoding.specs.Atoms.{Disjunct}
use Rattle.resolver_encoding.specs.Encodings.{Extends}
use Rattle.resolver_encoding.specs.Values.{numbers_from, requirement_numbers}

module _ {N S : Type 0} where
  pub numbers-append : (n : ℕ) (kinds more : List (ClauseKind N S)) → numbers_from n (kinds ++ more) ≡ numbers_from n kinds ++ numbers_from (length kinds + n) more
  numbers-append n [] more = let same : n ≡ 0 + n = omega arith in ap (λ k. numbers_from k more) same
  numbers-append n (Requires parent disjunct r ∷ kinds) more = ap (λ list. n ∷ list)
      (numbers-append (n + 1) kinds more ∙ ap (λ k. numbers_from (n + 1) kinds ++ numbers_from k more) (omega arith))
  numbers-append n (kind ∷ kinds) more =
      numbers-append (n + 1) kinds more ∙ ap (λ k. numbers_from (n + 1) kinds ++ numbers_from k more) (omega arith)

  pub Extends-numbers : (kinds more : List (ClauseKind N S)) → Extends kinds more → Extends (requirement_numbers kinds) (requirement_numbers more)
  Extends-numbers kinds more longer =
      record { more = numbers_from (length kinds + 0) longer.more; is = ap (numbers_from 0) longer.is ∙ numbers-append 0 kinds longer.more }

  -- a clause of another kind adds no number
  pub plain_added : (kinds : List (ClauseKind N S)) (kind : ClauseKind N S) → ((n : ℕ) → numbers_from n (kind ∷ []) ≡ []) →
      requirement_numbers (kinds ++ kind ∷ []) ≡ requirement_numbers kinds
  plain_added kinds kind plain =
      numbers-append 0 kinds (kind ∷ []) ∙ ap (λ list. requirement_numbers kinds ++ list) (plain _) ∙ append-nil (requirement_numbers kinds)

  -- the list of requirement clauses stays right when a clause is added
  pub plain_pushed : (kinds more : List (ClauseKind N S)) (kind : ClauseKind N S) (numbers : List ℕ) →
      ((parent : Option (By S)) (disjunct : Disjunct) (r : Requirement) → kind ≡ Requires parent disjunct r → ⊥) →
      numbers ≡ requirement_numbers kinds → more ≡ kinds ++ kind ∷ [] → numbers ≡ requirement_numbers more
  plain_pushed kinds more kind numbers plain are is_more = are ∙ sym (plain_added kinds kind (no_number kind plain)) ∙ ap (numbers_from 0) (sym is_more)
    where
      no_number : (kind : ClauseKind N S) → ((parent : Option (By S)) (disjunct : Disjunct) (r : Requirement) → kind ≡ Requires parent disjunct r → ⊥) →
          (n : ℕ) → numbers_from n (kind ∷ []) ≡ []
      no_number (Requires parent disjunct r) plain n = absurd (plain parent disjunct r refl)
      no_number kind plain n = refl

  pub numbers_pushed : (kinds more : List (ClauseKind N S)) (kind : ClauseKind N S) (old new : List RequirementClause) (clause : RequirementClause) →
      (parent : Option (By S)) × (disjunct : Disjunct) × (r : Requirement) × (kind ≡ Requires parent disjunct r) →
      map (λ (r : RequirementClause). r.number) old ≡ requirement_numbers kinds → new ≡ old ++ clause ∷ [] → more ≡ kinds ++ kind ∷ [] →
      clause.number ≡ length kinds → map (λ (r : RequirementClause). r.number) new ≡ requirement_numbers more
  numbers_pushed kinds more kind old new clause asks are is_new is_more last =
      let Kept : ClauseKind N S → Type 0 = λ k. map (λ (r : RequirementClause). r.number) old ++ clause.number ∷ [] ≡ requirement_numbers (kinds ++ k ∷ []) in
      let here : clause.number ≡ length kinds + 0 = omega (arith, last) in
      ap (map (λ (r : RequirementClause). r.number)) is_new ∙ map-append (λ (r : RequirementClause). r.number) old (clause ∷ []) ∙
      subst Kept (sym asks.3) ((λ i. are i ++ here i ∷ []) ∙ sym (numbers-append 0 kinds (Requires asks.0 asks.1 asks.2 ∷ []))) ∙ ap (numbers_from 0) (sym is_more)

  -- the clause with this number is a requirement clause
  abbrev pub IsRequirementAt : List (ClauseKind N S) → ℕ → Type 0
  IsRequirementAt kinds number = (parent : Option (By S)) × (disjunct : Disjunct) × (r : Requirement) × (slice_get kinds number ≡ Some (Requires parent disjunct r))

  requirement_from : (n : ℕ) (kinds : List (ClauseKind N S)) (number : ℕ) → Contains (numbers_from n kinds) number →
      (k : ℕ) × (k + n ≡ number) × IsRequirementAt kinds k
  requirement_from n [] number h = absurd (none_in number h)
  requirement_from n (Requires parent disjunct r ∷ kinds) number h = ⊎_elim
      (λ (is : n ≡ number). (0, omega (arith, is), (parent, disjunct, r, refl)))
      (λ later. let w = requirement_from (n + 1) kinds number later in (suc w.0, omega (arith, w.1), w.2))
      (cons_cases n (numbers_from (n + 1) kinds) number h)
  requirement_from n (kind ∷ kinds) number h = let w = requirement_from (n + 1) kinds number h in (suc w.0, omega (arith, w.1), w.2)

  pub requirement_at : (kinds : List (ClauseKind N S)) (number : ℕ) → Contains (requirement_numbers kinds) number → IsRequirementAt kinds number
  requirement_at kinds number h =
      let w = requirement_from 0 kinds number h in
      let At : ℕ → Type 0 = λ k. IsRequirementAt kinds k in
      let same : w.0 ≡ number = omega (arith, w.1) in
      subst At same w.2

  number_from : (n : ℕ) (kinds : List (ClauseKind N S)) (k number : ℕ) → number ≡ k + n → IsRequirementAt kinds k → Contains (numbers_from n kinds) number
  number_from n [] k number is at = absurd (omega (arith, slice_get_within [] k _ at.3))
  number_from n (Requires parent disjunct r ∷ kinds) zero number is at =
      let Has : ℕ → Type 0 = λ m. Contains (n ∷ numbers_from (n + 1) kinds) m in
      let same : n ≡ number = omega (arith, is) in
      subst Has same (here n (numbers_from (n + 1) kinds))
  number_from n (kind ∷ kinds) zero number is at = absurd cc
  number_from n (Requires parent disjunct r ∷ kinds) (suc k) number is at =
      there n (numbers_from (n + 1) kinds) number (number_from (n + 1) kinds k number (omega (arith, is)) at)
  number_from n (kind ∷ kinds) (suc k) number is at = number_from (n + 1) kinds k number (omega (arith, is)) at

  pub number_of_requirement : (kinds : List (ClauseKind N S)) (number : ℕ) → IsRequirementAt kinds number → Contains (requirement_numbers kinds) number
  number_of_requirement kinds number at = number_from 0 kinds number number (omega arith) at
