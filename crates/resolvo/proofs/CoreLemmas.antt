-- Marked clauses that contradict each other.
use Rattle.std.proofs.Common.{◌≡◌, ℕ, ◌+◌, ◌<◌, ◌≤◌, List, [], length, set, Bool, true, false, Some, None, arith, sym, ap, ◌∙◌, subst, ⊎_elim}
use Rattle.std.proofs.Common.{get_or-set_same, get_or-set_other, length-set}
use Rattle.std.specs.List.{All}
use Rattle.std.proofs.lemmas.Bool.{cases_Bool, cases_eq, both_ways, false≢true}
use Rattle.std.proofs.lemmas.List.Elements.{All-contains}
use Rattle.resolver_clause_store.specs.Literals.{Literal}
use Rattle.resolver_clause_store.specs.Formula.{clause_at, clause_true, FollowsFrom}
use Rattle.resolver_clause_store.specs.Outcomes.{IsCore}
use Rattle.resolvo.specs.Sources.{Source}
use Rattle.resolvo.specs.Resolvents.{is_marked}
use Rattle.resolvo.specs.Derivations.{AddsMarked, AreGiven, causes_at, given_at, IsDerived, ListsMarked, MarksNumbers, MarkedRefute, Replaces, Stands}
use Rattle.resolvo.proofs.SourceLemmas.{given_within, some_or_none}

pub marked-begin : (table : List (List Literal)) (sources : List Source) (old marks : List Bool) (start : List ℕ) → length old ≡ length table →
    ((k : ℕ) → is_marked old k ≡ false) → MarksNumbers old marks start → All (λ n. n < length table) start → FollowsFrom table start [] →
    MarkedRefute table sources marks (length table)
marked-begin table sources old marks start size unmarked so within refuted = record {
  size = so.size ∙ size;
  apart = λ values holds. false≢true (refuted values (λ k d below. holds _ (so.all k d below)));
  given = λ k past m. absurd (both_ways _ (so.only k (unmarked k) (λ i d below. λ e. absurd (omega (arith, within i d below)))) m);
}

-- the causes of a learnt clause take its place
replaced-learnt : (table : List (List Literal)) (sources : List Source) (old new : List Bool) (bound place : ℕ) → bound ≡ place + 1 →
    place < length table → IsDerived table sources → MarkedRefute table sources old bound → given_at sources place ≡ None →
    MarksNumbers (set old place false) new (causes_at sources place) → MarkedRefute table sources new place
replaced-learnt table sources old new bound place last inside derived refute learnt so = record {
  size = so.size ∙ length-set old place false ∙ refute.size;
  apart = λ values holds. refute.apart values (λ k m. ⊎_elim
      (λ e. subst (λ n. clause_true values (clause_at table n) ≡ true) (sym e)
      (derived.follows place inside learnt values (λ i d below. holds _ (so.all i d below))))
      (λ ne. holds k (so.kept k (get_or-set_other old place k false false ne ∙ m)))
      (cases_eq k place));
  given = λ k past m.
      let early : All (λ other. other ≡ k → ⊥) (causes_at sources place) = λ i d below. λ e. absurd (omega (arith, derived.earlier place inside i d below)) in
      ⊎_elim
      (λ (e : k ≡ place).
      let off : is_marked (set old place false) k ≡ false =
      subst (λ n. is_marked (set old place false) n ≡ false) (sym e) (get_or-set_same old place false false (omega (arith, refute.size))) in
      absurd (both_ways _ (so.only k off early) m))
      (λ (ne : k ≡ place → ⊥). ⊎_elim
      (λ was. refute.given k (omega (arith, ne)) was)
      (λ was. absurd (both_ways _ (so.only k (get_or-set_other old place k false false ne ∙ was) early) m))
      (cases_Bool (is_marked old k)))
      (cases_eq k place);
}

pub marked-replace : (table : List (List Literal)) (sources : List Source) (old new : List Bool) (bound place : ℕ) → bound ≡ place + 1 →
    place < length table → IsDerived table sources → MarkedRefute table sources old bound → Replaces old new sources place →
    MarkedRefute table sources new place
marked-replace table sources old new bound place last inside derived refute so = ⊎_elim
    (λ (w : (n : ℕ) × (given_at sources place ≡ Some n)). subst (λ marks. MarkedRefute table sources marks place) (sym (so.given w.0 w.1)) (record {
      size = refute.size;
      apart = refute.apart;
      given = λ k past m. ⊎_elim
          (λ (e : k ≡ place). (w.0, ap (λ p. given_at sources p) e ∙ w.1))
          (λ (ne : k ≡ place → ⊥). refute.given k (omega (arith, ne)) m)
          (cases_eq k place);
    }))
    (λ learnt. replaced-learnt table sources old new bound place last inside derived refute learnt (so.learnt learnt))
    (some_or_none (given_at sources place))

pub lists-more : (old new : List ℕ) (sources : List Source) (marks : List Bool) (place : ℕ) → AddsMarked old new sources marks place →
    ListsMarked sources marks old place → ListsMarked sources marks new (place + 1)
lists-more old new sources marks place adds lists = λ p n below m is. ⊎_elim
    (λ (e : p ≡ place). adds.added n (ap (λ q. is_marked marks q) (sym e) ∙ m) (ap (λ q. given_at sources q) (sym e) ∙ is))
    (λ (ne : p ≡ place → ⊥). adds.kept n (lists p n (omega (arith, ne)) m is))
    (cases_eq p place)

pub core-refuted : (given table : List (List Literal)) (sources : List Source) (marks : List Bool) (numbers : List ℕ) (bound : ℕ) →
    IsDerived table sources → MarkedRefute table sources marks bound → bound ≤ 0 → All (Stands sources) numbers →
    ListsMarked sources marks numbers (length sources) → AreGiven given table sources → IsCore given numbers
core-refuted given table sources marks numbers bound derived refute end stand lists are = record {
  within = λ k d below. let s = stand k d below in are.within s.place _ s.is;
  refuted = λ values holds. refute.apart values (λ p m.
      let w = refute.given p (omega arith) m in
      let inside = given_within sources p w.0 w.1 in
      let there = All-contains (λ n. clause_true values (clause_at given n) ≡ true) numbers w.0 holds (lists p w.0 inside m w.1) in
      subst (λ c. clause_true values c ≡ true) (sym (are.same p w.0 w.1)) there);
}
