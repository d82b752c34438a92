-- The part of a set that is reached by need, as a list.
use Rattle.resolver_encoding.specs.Truth.{HasLawfulSolvables}
use Rattle.std.proofs.Common.{◌≡◌, ℕ, zero, suc, ◌+◌, ◌<◌, ◌≤◌, ◌⊎◌, List, [], ◌∷◌, length, arith, inl, inr, refl, sym, subst, ⊎_elim, Contains}
use Rattle.std.specs.Prelude.{Option, Some, None}
use Rattle.std.specs.List.{list_any}
use Rattle.std.proofs.lemmas.Bool.{cases_Bool, both_ways}
use Rattle.std.proofs.lemmas.Map.Views.{Contains-from_any}
use Rattle.resolver_clause_store.specs.Lists.{Meets, IsWithin}
use Rattle.resolver_clause_store.specs.Universe.{Universe, Demands}
use Rattle.resolver_clause_store.specs.Candidates.{matching, requirement_candidates}
use Rattle.resolver_clause_store.specs.Conditions.{ConditionHolds, both, left, right, OptionalConditionHolds, IsActive}
use Rattle.resolver_clause_store.specs.Reached.{IsReached, by_seed, by_root, by_reached}
use Rattle.resolver_clause_store.specs.Valid.{demands_of}
use Rattle.resolver_clause_store.specs.declared.ConditionId.{ConditionId}
use Rattle.resolver_clause_store.specs.declared.ConditionalRequirement.{ConditionalRequirement}
use Rattle.resolver_clause_store.specs.declared.Condition.{Condition}
use Rattle.resolver_clause_store.specs.declared.Condition.TheVariants.{Requirement as Matched, Binary}
use Rattle.resolver_clause_store.specs.declared.LogicalOperator.TheVariants.{And, Or}
use Rattle.resolver_clause_store.proofs.ListLemmas.{Contains-cons_cases as cons_cases, Contains-here as here, Contains-none as none_in, Contains-there as there}
use Rattle.resolver_clause_store.proofs.ListLemmas.{list_any-contains}
use Rattle.resolver_clause_store.proofs.ConditionLemmas.{holds_matched, matched_holds, both_hold, either_holds}

module _ {N S : Type 0} (u : Universe N S) (root : Demands) (lawful : HasLawfulSolvables u) (chosen seeds : List S) where
  contains_or : (xs : List S) (s : S) → Contains xs s ⊎ (Contains xs s → ⊥)
  contains_or xs s = ⊎_elim
      (λ e. inl (Contains-from_any {K = S} {eq = u.same_solvable} lawful.same_solvable.alone s xs e))
      (λ e. inr (λ inside. both_ways _ e (list_any-contains (u.same_solvable s) xs s inside (lawful.same_solvable.itself s))))
      (cases_Bool (list_any (u.same_solvable s) xs))

  meets_or : (xs : List S) → Meets xs chosen ⊎ (Meets xs chosen → ⊥)
  meets_or [] = inr (λ m. none_in m.shared m.in_first)
  meets_or (x ∷ xs) = ⊎_elim
      (λ inside. inl (record { shared = x; in_first = here x xs; in_second = inside }))
      (λ out. ⊎_elim
      (λ m. inl (record { shared = m.shared; in_first = there x xs m.shared m.in_first; in_second = m.in_second }))
      (λ none. inr (λ m. ⊎_elim
      (λ e. let In : S → Type 0 = λ y. Contains chosen y in out (subst In (sym e) m.in_second))
      (λ t. none (record { shared = m.shared; in_first = t; in_second = m.in_second }))
      (cons_cases x xs m.shared m.in_first)))
      (meets_or xs))
      (contains_or chosen x)

  abbrev Holds : ConditionId → Type 0
  Holds c = ConditionHolds u (Contains chosen) c

  by_kind : (n : ℕ) (c : ConditionId) (k : Condition) → u.condition c ≡ k →
      ((a : ConditionId) → u.condition_rank a < u.condition_rank c → Holds a ⊎ (Holds a → ⊥)) → Holds c ⊎ (Holds c → ⊥)
  by_kind n c (Matched v) is below = ⊎_elim
      (λ m. inl (holds_matched u chosen c v is m))
      (λ none. inr (λ h. none (matched_holds u chosen c v is h)))
      (meets_or (matching u v))
  by_kind n c (Binary And a b) is below = ⊎_elim
      (λ h. ⊎_elim
      (λ k. inl (both a b is h k))
      (λ none. inr (λ w. none (both_hold u (Contains chosen) c a b is w).1))
      (below b (lawful.ids.right_lower c a b And is)))
      (λ none. inr (λ w. none (both_hold u (Contains chosen) c a b is w).0))
      (below a (lawful.ids.left_lower c a b And is))
  by_kind n c (Binary Or a b) is below = ⊎_elim
      (λ h. inl (left a b is h))
      (λ none. ⊎_elim
      (λ k. inl (right a b is k))
      (λ neither. inr (λ w. ⊎_elim none neither (either_holds u (Contains chosen) c a b is w)))
      (below b (lawful.ids.right_lower c a b Or is)))
      (below a (lawful.ids.left_lower c a b Or is))

  holds_or : (n : ℕ) (c : ConditionId) → u.condition_rank c < n → Holds c ⊎ (Holds c → ⊥)
  holds_or zero c h = absurd (omega arith)
  holds_or (suc n) c h = by_kind n c (u.condition c) refl (λ a lower. holds_or n a (omega arith))

  abbrev Active : ConditionalRequirement → Type 0
  Active r = IsActive u (Contains chosen) r

  optional_or : (o : Option ConditionId) → OptionalConditionHolds u (Contains chosen) o ⊎ (OptionalConditionHolds u (Contains chosen) o → ⊥)
  optional_or None = inl tt
  optional_or (Some c) = holds_or (suc (u.condition_rank c)) c (omega arith)

  -- some active requirement of the list has the solvable among its candidates
  pub record ListsCandidate (rs : List ConditionalRequirement) (s : S) : Type 0 where
    pub r : ConditionalRequirement
    pub listed : Contains rs r
    pub active : Active r
    pub candidate : Contains (requirement_candidates u r.requirement) s

  lists_or : (rs : List ConditionalRequirement) (s : S) → ListsCandidate rs s ⊎ (ListsCandidate rs s → ⊥)
  lists_or [] s = inr (λ a. none_in a.r a.listed)
  lists_or (r ∷ rs) s = ⊎_elim
      (λ a. inl (record { r = a.r; listed = there r rs a.r a.listed; active = a.active; candidate = a.candidate }))
      (λ none.
      let only : ((Active r × Contains (requirement_candidates u r.requirement) s) → ⊥) → ListsCandidate (r ∷ rs) s → ⊥ = λ off a. ⊎_elim
      (λ e. let IsIt : ConditionalRequirement → Type 0 = λ q. Active q × Contains (requirement_candidates u q.requirement) s in
      off (subst IsIt (sym e) (a.active, a.candidate)))
      (λ t. none (record { r = a.r; listed = t; active = a.active; candidate = a.candidate }))
      (cons_cases r rs a.r a.listed) in
      ⊎_elim
      (λ active. ⊎_elim
      (λ candidate. inl (record { r = r; listed = here r rs; active = active; candidate = candidate }))
      (λ off. inr (only (λ w. off w.1)))
      (contains_or (requirement_candidates u r.requirement) s))
      (λ off. inr (only (λ w. off w.0)))
      (optional_or r.condition))
      (lists_or rs s)

  -- a requirement of one of these solvables lists the candidate
  pub record ListsFromOne (done : List S) (s : S) : Type 0 where
    pub by : S
    pub among : Contains done by
    pub lists_it : ListsCandidate (demands_of (u.needs by)).requirements s

  lists_one_or : (done : List S) (s : S) → ListsFromOne done s ⊎ (ListsFromOne done s → ⊥)
  lists_one_or [] s = inr (λ a. none_in a.by a.among)
  lists_one_or (t ∷ ts) s = ⊎_elim
      (λ a. inl (record { by = a.by; among = there t ts a.by a.among; lists_it = a.lists_it }))
      (λ none. ⊎_elim
      (λ a. inl (record { by = t; among = here t ts; lists_it = a }))
      (λ off. inr (λ a. ⊎_elim
      (λ e. let ListedBy : S → Type 0 = λ q. ListsCandidate (demands_of (u.needs q)).requirements s in off (subst ListedBy (sym e) a.lists_it))
      (λ among. none (record { by = a.by; among = among; lists_it = a.lists_it }))
      (cons_cases t ts a.by a.among)))
      (lists_or (demands_of (u.needs t)).requirements s))
      (lists_one_or ts s)

  abbrev pub Next : List S → S → Type 0
  Next done s = Contains seeds s ⊎ (ListsCandidate root.requirements s ⊎ ListsFromOne done s)

  next_or : (done : List S) (s : S) → Next done s ⊎ (Next done s → ⊥)
  next_or done s = ⊎_elim
      (λ a. inl (inl a))
      (λ no. ⊎_elim
      (λ b. inl (inr (inl b)))
      (λ nor. ⊎_elim
      (λ c. inl (inr (inr c)))
      (λ neither. inr (λ n. ⊎_elim no (λ m. ⊎_elim nor neither m) n))
      (lists_one_or done s))
      (lists_or root.requirements s))
      (contains_or seeds s)

  record Picked (done rest : List S) : Type 0 where
    s : S
    others : List S
    shorter : length others + 1 ≡ length rest
    from : Contains rest s
    next : Next done s
    kept : IsWithin others rest
    all : (x : S) → Contains rest x → (s ≡ x) ⊎ Contains others x

  pick : (done rest : List S) → Picked done rest ⊎ ((x : S) → Contains rest x → Next done x → ⊥)
  pick done [] = inr (λ x h. absurd (none_in x h))
  pick done (y ∷ ys) = ⊎_elim
      (λ n. inl (record { s = y; others = ys; shorter = omega arith; from = here y ys; next = n; kept = λ x h. there y ys x h; all = cons_cases y ys }))
      (λ off. ⊎_elim
      (λ p. inl (record {
        s = p.s;
        others = y ∷ p.others;
        shorter = omega (arith, p.shorter);
        from = there y ys p.s p.from;
        next = p.next;
        kept = λ x h. ⊎_elim (λ e. (0, omega arith, e)) (λ t. there y ys x (p.kept x t)) (cons_cases y p.others x h);
        all = λ x h. ⊎_elim (λ e. inr (0, omega arith, e)) (λ t. ⊎_elim (λ e. inl e) (λ k. inr (there y p.others x k)) (p.all x t)) (cons_cases y ys x h);
      }))
      (λ none. inr (λ x h n. ⊎_elim
      (λ e. let IsNextOne : S → Type 0 = λ q. Next done q in off (subst IsNextOne (sym e) n))
      (λ t. none x t n)
      (cons_cases y ys x h)))
      (pick done ys))
      (next_or done y)

  abbrev Reached : S → Type 0
  Reached s = IsReached u root chosen seeds s

  reached_next : (done : List S) → ((t : S) → Contains done t → Reached t) → (s : S) → Contains chosen s → Next done s → Reached s
  reached_next done before s inside n = ⊎_elim
      (λ seed. by_seed seed inside)
      (λ m. ⊎_elim
      (λ a. by_root a.r a.listed a.active a.candidate inside)
      (λ a. by_reached a.lists_it.r (before a.by a.among) a.lists_it.listed a.lists_it.active a.lists_it.candidate inside)
      m)
      n

  -- a part of the set that is reached by need, and leads to nothing else in the set
  pub record Closure : Type 0 where
    pub part : List S
    pub within : IsWithin part chosen
    pub reached : (s : S) → Contains part s → Reached s
    pub closed : (s : S) → Contains chosen s → Next part s → Contains part s

  close : (n : ℕ) (done rest : List S) → length rest ≤ n → ((x : S) → Contains chosen x → Contains done x ⊎ Contains rest x) → IsWithin done chosen →
      IsWithin rest chosen → ((t : S) → Contains done t → Reached t) → Closure
  close zero done rest short all in_done in_rest before = record {
    part = done;
    within = in_done;
    reached = before;
    closed = λ s inside n. ⊎_elim (λ d. d) (λ r. absurd (omega (arith, r.1))) (all s inside);
  }
  close (suc n) done rest short all in_done in_rest before = ⊎_elim
      (λ p. close n (p.s ∷ done) p.others (omega (arith, p.shorter))
      (λ x inside. ⊎_elim (λ d. inl (there p.s done x d)) (λ r. ⊎_elim (λ e. inl (0, omega arith, e)) (λ o. inr o) (p.all x r)) (all x inside))
      (λ x h. ⊎_elim (λ e. let In : S → Type 0 = λ q. Contains chosen q in subst In e (in_rest p.s p.from)) (λ t. in_done x t) (cons_cases p.s done x h))
      (λ x h. in_rest x (p.kept x h))
      (λ x h. ⊎_elim (λ e. let R : S → Type 0 = λ q. Reached q in subst R e (reached_next done before p.s (in_rest p.s p.from) p.next)) (λ t. before x t)
      (cons_cases p.s done x h)))
      (λ none. record {
        part = done;
        within = in_done;
        reached = before;
        closed = λ s inside nx. ⊎_elim (λ d. d) (λ r. absurd (none s r nx)) (all s inside);
      })
      (pick done rest)

  pub closure : Closure
  closure = close (length chosen) [] chosen (omega arith) (λ x inside. inr inside) (λ x h. absurd (none_in x h)) (λ x h. h) (λ t h. absurd (none_in t h))
