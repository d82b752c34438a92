-- A clause that watches two literals of its own is in the lists of both.
use Rattle.std.proofs.Common.{◌≡◌, ◌≢◌, ℕ, ◌<◌, ◌≤◌, List, [], ◌∷◌, ◌++◌, length, Option, Some, None, Result, Ok, Err, OnErr, OnOk, arith, inl, inr, refl, sym, ap}
use Rattle.std.proofs.Common.{◌∙◌, subst, ⊎_elim, length-append}
use Rattle.std.proofs.lemmas.Bool.{cases_lt}
use Rattle.std.proofs.lemmas.List.{get_or_push}
use Rattle.resolver_clause_store.specs.Literals.{Literal}
use Rattle.resolver_clause_store.specs.declared.Trail.{Trail}
use Rattle.resolver_clause_store.specs.declared.WatchedPair.{WatchedPair}
use Rattle.resolver_clause_store.specs.declared.Watches.{Watches}
use Rattle.resolver_clause_store.specs.Formula.{clause_at}
use Rattle.resolver_clause_store.specs.Watches.{pair_at, unwatched}
use Rattle.resolver_clause_store.specs.WatchesView.{pairs_of}
use Rattle.resolver_clause_store.proofs.FormulaLemmas.{clause_at-last, clause_at-push}
use Rattle.resolver_clause_store.proofs.WatchListLemmas.{cases_literal, pair-two}
use Rattle.resolvo.specs.declared.propagator.Propagator.{Propagator}
use Rattle.resolvo.specs.Attaching.{IsPairOf}
use Rattle.resolvo.specs.Propagators.{IsPropagator, attached_of}
use Rattle.resolvo.specs.WatchedClauses.{AreInLists, AreOwned, OwnsPair}

-- by the invariant of propagation, each clause watches literals of its own
pub owned-of : (table : List (List Literal)) (trail : Trail) (it : Propagator) → IsPropagator table trail it → AreOwned table (pairs_of it.watches)
owned-of table trail it is = λ number inside one other apart.
    let w = is.watched in
    let pair = pair_at (pairs_of it.watches) number in
    let attached : number < attached_of it = omega (arith, inside, w.attached) in
    ⊎_elim
    (λ (none : pair.first ≡ pair.second). absurd (apart.differ (w.constant number attached none one other apart.has_first apart.has_second)))
    (λ (differ : pair.first ≢ pair.second). record {
      has_first = w.own number pair.first (record { differ = differ; is = inl refl });
      has_second = w.own number pair.second (record { differ = differ; is = inr refl });
      differ = differ;
    })
    (cases_literal pair.first pair.second)

pub owned-same : (table : List (List Literal)) (old new : List WatchedPair) → new ≡ old → AreOwned table old → AreOwned table new
owned-same table old new same owned = subst (λ (pairs : List WatchedPair). AreOwned table pairs) (sym same) owned

pub owned-either : {A B : Type 0} (r : Result A B) (table : List (List Literal)) (trail : Trail) (it : Propagator) →
    OnOk r (IsPropagator table trail it) → OnErr r (AreOwned table (pairs_of it.watches)) → AreOwned table (pairs_of it.watches)
owned-either (Ok x) table trail it is refused = owned-of table trail it is
owned-either (Err e) table trail it is refused = refused

-- more pairs
pub owned-kept : (table : List (List Literal)) (old new : List WatchedPair) → length old ≡ length table →
    ((number : ℕ) → number < length old → pair_at new number ≡ pair_at old number) → AreOwned table old → AreOwned table new
owned-kept table old new size kept owned =
    λ number inside. subst (λ (pair : WatchedPair). OwnsPair (clause_at table number) pair) (sym (kept number (omega (arith, inside, size))))
    (owned number inside)

-- a clause after the others
pub owned-added : (table : List (List Literal)) (clause : List Literal) (old new : List WatchedPair) → length old ≡ length table →
    ((number : ℕ) → number < length old → pair_at new number ≡ pair_at old number) → OwnsPair clause (pair_at new (length old)) → AreOwned table old →
    AreOwned (table ++ clause ∷ []) new
owned-added table clause old new size kept own owned = λ number inside. ⊎_elim
    (λ (less : number < length table).
    subst (λ (c : List Literal). OwnsPair c (pair_at new number)) (sym (clause_at-push table clause number less))
    (owned-kept table old new size kept owned number less))
    (λ (past : length table ≤ number).
    let end : number ≡ length table = omega (arith, past, inside, length-append table (clause ∷ [])) in
    let more = table ++ clause ∷ [] in
    let last : clause_at more number ≡ clause = ap (λ (n : ℕ). clause_at more n) end ∙ clause_at-last table clause in
    let here : OwnsPair clause (pair_at new number) = subst (λ (n : ℕ). OwnsPair clause (pair_at new n)) (size ∙ sym end) own in
    subst (λ (c : List Literal). OwnsPair c (pair_at new number)) (sym last) here)
    (cases_lt number (length table))

owns-chosen : (clause : List Literal) (pair : WatchedPair) → IsPairOf clause pair → OwnsPair clause pair
owns-chosen clause pair is one other apart = ⊎_elim
    (λ (none : pair.first ≡ pair.second). absurd (apart.differ (is.constant none one other apart.has_first apart.has_second)))
    (λ (differ : pair.first ≢ pair.second). is.own differ)
    (cases_literal pair.first pair.second)

-- the watched pair of a clause that was attached
pub owns-push : (clause : List Literal) (old new : List WatchedPair) (pair : WatchedPair) → new ≡ old ++ pair ∷ [] → IsPairOf clause pair →
    OwnsPair clause (pair_at new (length old))
owns-push clause old new pair is chosen =
    let last : pair_at new (length old) ≡ pair = ap (λ (ps : List WatchedPair). pair_at ps (length old)) is ∙
    get_or_push old pair unwatched (length old) refl in
    subst (λ (p : WatchedPair). OwnsPair clause p) (sym last) (owns-chosen clause pair chosen)

-- a clause that watches two literals is in their lists
pub in_lists : (table : List (List Literal)) (watches : Watches) → AreOwned table (pairs_of watches) → AreInLists table watches
in_lists table watches owned = λ number inside one other apart.
    let pair = pair_at (pairs_of watches) number in
    let own = owned number inside one other apart in
    record {
      first = pair.first;
      second = pair.second;
      is = refl;
      apart = own;
      once = λ list. watches.watched list number ∙ pair-two pair list own.differ;
    }

pub in_lists-same : (table : List (List Literal)) (trail : Trail) (it : Propagator) (watches : Watches) → IsPropagator table trail it →
    pairs_of watches ≡ pairs_of it.watches → ∥ AreInLists table watches ∥₁
in_lists-same table trail it watches is same = ∣ in_lists table watches (owned-same table _ _ same (owned-of table trail it is)) ∣₁

pub in_lists-kept : (table : List (List Literal)) (trail : Trail) (it : Propagator) (watches : Watches) → IsPropagator table trail it →
    ((number : ℕ) → number < attached_of it → pair_at (pairs_of watches) number ≡ pair_at (pairs_of it.watches) number) → ∥ AreInLists table watches ∥₁
in_lists-kept table trail it watches is kept = ∣ in_lists table watches (owned-kept table _ _ is.watched.attached kept (owned-of table trail it is)) ∣₁

pub in_lists-added : (table : List (List Literal)) (clause : List Literal) (trail : Trail) (it : Propagator)
    (watches : Watches) → IsPropagator table trail it →
    ((number : ℕ) → number < attached_of it → pair_at (pairs_of watches) number ≡ pair_at (pairs_of it.watches) number) →
    OwnsPair clause (pair_at (pairs_of watches) (attached_of it)) → ∥ AreInLists (table ++ clause ∷ []) watches ∥₁
in_lists-added table clause trail it watches is kept own =
    ∣ in_lists (table ++ clause ∷ []) watches (owned-added table clause _ _ is.watched.attached kept own (owned-of table trail it is)) ∣₁

-- the same clauses, and the same watches
pub in_lists-equal : (old new : List (List Literal)) (before after : Watches) → new ≡ old → after ≡ before → ∥ AreInLists old before ∥₁ →
    ∥ AreInLists new after ∥₁
in_lists-equal old new before after table watches holds =
    subst (λ (clauses : List (List Literal)). ∥ AreInLists clauses after ∥₁) (sym table)
    (subst (λ (w : Watches). ∥ AreInLists old w ∥₁) (sym watches) holds)
