-- The clauses of the marked rules with one more clause, and the marks of a core with one more number.
use Rattle.std.proofs.Common.{◌≡◌, ◌≢◌, ℕ, ◌+◌, ◌<◌, ◌≤◌, List, [], ◌∷◌, ◌++◌, length, get_or, set, take, replicate, arith, refl, sym, ap, ◌∙◌}
use Rattle.std.proofs.Common.{subst, length-append, length-set, get_or-set_same, get_or-set_other, Bool, true, false, Contains, All, ⊎_elim}
use Rattle.std.specs.List.{slice_index_or}
use Rattle.std.proofs.Math.Seq.{get_or-append_seam}
use Rattle.std.proofs.lemmas.Bool.{cases_eq, cases_lt, false≢true}
use Rattle.std.proofs.lemmas.List.{get_or_append_left, get_or_past, get_or-replicate, length-replicate, take_more}
use Rattle.std.proofs.lemmas.List.Elements.{All-append, All-cons, All-more, All-nil, All-weaker, Contains-append_left}
use Rattle.resolver_clause_store.specs.Lists.{IsWithin}
use Rattle.resolver_clause_store.specs.Literals.{Literal}
use Rattle.resolver_clause_store.proofs.FormulaLemmas.{clause_at-last, clause_at-push}
use Rattle.resolvo.specs.MarkedClauses.{AreMarkedClauses, AreMarksOf, IsMarkedClause, IsMarked, IsThere}
use Rattle.std.proofs.lemmas.List.Elements.{Contains-push as at_end}
use Rattle.resolvo.specs.declared.minimal.rule_clauses.RuleClause.{RuleClause}

-- no clauses yet
pub no_clauses : (marks : List Bool) → AreMarkedClauses marks [] [] [] []
no_clauses marks = record {
  size = refl;
  each = λ number below. absurd (omega (arith, below));
  all = All-nil _;
  inside = All-nil _;
}

-- a clause of a rule without a mark
pub passed : (marks : List Bool) (from : List RuleClause) (clauses : List (List Literal)) (places numbers : List ℕ) (clause : RuleClause) →
    slice_index_or marks clause.rule false ≡ false → AreMarkedClauses marks from clauses places numbers →
    AreMarkedClauses marks (from ++ clause ∷ []) clauses places numbers
passed marks from clauses places numbers clause unmarked so = record {
  size = so.size;
  each = λ number below. let it = so.each number below in
      record {
        clause = it.clause;
        among = Contains-append_left from (clause ∷ []) it.clause it.among;
        marked = it.marked;
        literals = it.literals;
        place = it.place;
      };
  all = All-append (λ (c : RuleClause). IsMarked marks c → IsThere clauses numbers c) from (clause ∷ []) so.all
      (All-cons (λ (c : RuleClause). IsMarked marks c → IsThere clauses numbers c) clause [] (λ marked. absurd (false≢true (sym unmarked ∙ marked)))
      (All-nil _));
  inside = so.inside;
}

module _ (marks : List Bool) (from : List RuleClause) (clauses : List (List Literal)) (places numbers more : List ℕ) (clause : RuleClause)
    (marked : IsMarked marks clause) (so : AreMarkedClauses marks from clauses places numbers) where
  abbrev now_clauses : List (List Literal)
  now_clauses = clauses ++ clause.literals.items ∷ []

  abbrev now_places : List ℕ
  now_places = places ++ clause.rule ∷ []

  count : length now_clauses ≡ length clauses + 1
  count = length-append clauses (clause.literals.items ∷ [])

  earlier : (number : ℕ) → number < length clauses → IsMarkedClause marks (from ++ clause ∷ []) now_clauses now_places number
  earlier number below = let it = so.each number below in record {
    clause = it.clause;
    among = Contains-append_left from (clause ∷ []) it.clause it.among;
    marked = it.marked;
    literals = clause_at-push clauses clause.literals.items number below ∙ it.literals;
    place = get_or_append_left places (clause.rule ∷ []) 0 number (omega (arith, below, so.size)) ∙ it.place;
  }

  last : IsMarkedClause marks (from ++ clause ∷ []) now_clauses now_places (length clauses)
  last = record {
    clause = clause;
    among = at_end from clause;
    marked = marked;
    literals = clause_at-last clauses clause.literals.items;
    place = let P : ℕ → Type 0 = λ n. slice_index_or now_places n 0 ≡ clause.rule in subst P so.size (get_or-append_seam places clause.rule [] 0);
  }

  all_marked : (number : ℕ) → number < length now_clauses → IsMarkedClause marks (from ++ clause ∷ []) now_clauses now_places number
  all_marked number below = ⊎_elim
      (λ (less : number < length clauses). earlier number less)
      (λ (more : length clauses ≤ number).
      let P : ℕ → Type 0 = λ n. IsMarkedClause marks (from ++ clause ∷ []) now_clauses now_places n in let at : length clauses ≡ number =
      omega (arith, count, below, more) in subst P at last)
      (cases_lt number (length clauses))

  module _ (within : IsWithin numbers more) (listed : clause.is_requirement ≡ true → Contains more (length clauses))
      (inside : All (λ number. number < length clauses + 1) more) where
    still : (c : RuleClause) → (IsMarked marks c → IsThere clauses numbers c) → IsMarked marks c → IsThere now_clauses more c
    still c there m = let it = there m in record {
      number = it.number;
      inside = omega (arith, count, it.inside);
      literals = clause_at-push clauses clause.literals.items it.number it.inside ∙ it.literals;
      listed = λ is_requirement. within it.number (it.listed is_requirement);
    }

    pub added : AreMarkedClauses marks (from ++ clause ∷ []) now_clauses now_places more
    added = record {
      size = length-append places (clause.rule ∷ []) ∙ ap (λ n. n + 1) so.size ∙ sym count;
      each = all_marked;
      all = All-append (λ (c : RuleClause). IsMarked marks c → IsThere now_clauses more c) from (clause ∷ [])
          (All-weaker (λ (c : RuleClause). IsMarked marks c → IsThere clauses numbers c) (λ (c : RuleClause).
          IsMarked marks c → IsThere now_clauses more c) still from so.all)
          (All-cons (λ (c : RuleClause). IsMarked marks c → IsThere now_clauses more c) clause [] (λ m.
          record { number = length clauses; inside = omega (arith, count); literals = clause_at-last clauses clause.literals.items; listed = listed })
          (All-nil _));
      inside = All-weaker (λ number. number < length clauses + 1) (λ number. number < length now_clauses) (λ n below. omega (arith, count, below)) more inside;
    }

pub added_plain : (marks : List Bool) (from : List RuleClause) (clauses : List (List Literal)) (places numbers : List ℕ) (clause : RuleClause) →
    clause.is_requirement ≡ false → IsMarked marks clause →
    AreMarkedClauses marks from clauses places numbers →
    AreMarkedClauses marks (from ++ clause ∷ []) (clauses ++ clause.literals.items ∷ []) (places ++ clause.rule ∷ []) numbers
added_plain marks from clauses places numbers clause plain marked so =
    added marks from clauses places numbers numbers clause marked so (λ x inside. inside)
    (λ is_requirement. absurd (false≢true (sym plain ∙ is_requirement)))
    (All-weaker (λ number. number < length clauses) (λ number. number < length clauses + 1) (λ n below. omega (arith, below)) numbers so.inside)

pub added_requirement : (marks : List Bool) (from : List RuleClause) (clauses : List (List Literal)) (places numbers : List ℕ) (clause : RuleClause)
    (number : ℕ) → number ≡ length clauses → IsMarked marks clause →
    AreMarkedClauses marks from clauses places numbers →
    AreMarkedClauses marks (from ++ clause ∷ []) (clauses ++ clause.literals.items ∷ []) (places ++ clause.rule ∷ []) (numbers ++ number ∷ [])
added_requirement marks from clauses places numbers clause number is marked so =
    let P : ℕ → Type 0 = λ n. Contains (numbers ++ number ∷ []) n in
    added marks from clauses places numbers (numbers ++ number ∷ []) clause marked so
    (λ x inside. Contains-append_left numbers (number ∷ []) x inside)
    (λ is_requirement. subst P is (at_end numbers number))
    (All-append (λ n. n < length clauses + 1) numbers (number ∷ [])
    (All-weaker (λ n. n < length clauses) (λ n. n < length clauses + 1) (λ n below. omega (arith, below)) numbers so.inside)
    (All-cons (λ n. n < length clauses + 1) number [] (omega (arith, is)) (All-nil _)))

-- the clauses up to one clause, and that clause
pub next_clause : (marks : List Bool) (from : List RuleClause) (clauses : List (List Literal)) (places numbers : List ℕ) (index : ℕ)
    (clause : RuleClause) → index < length from → clause ≡ get_or from index clause →
    AreMarkedClauses marks (take index from ++ clause ∷ []) clauses places numbers → AreMarkedClauses marks (take (index + 1) from) clauses places numbers
next_clause marks from clauses places numbers index clause below is so =
    let P : List RuleClause → Type 0 = λ xs. AreMarkedClauses marks xs clauses places numbers in
    let same : take (index + 1) from ≡ take index from ++ clause ∷ [] = take_more from index clause below ∙ ap (λ z. take index from ++ z ∷ []) (sym is) in
    subst P (sym same) so

-- no numbers yet
unmarked : (count place : ℕ) (marks : List Bool) → marks ≡ replicate count false → get_or marks place false ≡ false
unmarked count place marks is = ap (λ xs. get_or xs place false) is ∙ ⊎_elim
    (λ (less : place < count). get_or-replicate count place false false less)
    (λ (more : count ≤ place). get_or_past (replicate count false) place false (rw length-replicate more))
    (cases_lt place count)

pub no_numbers : (places : List ℕ) (count : ℕ) (marks : List Bool) → marks ≡ replicate count false → AreMarksOf places [] count marks
no_numbers places count marks is = record {
  size = ap length is ∙ length-replicate count false;
  all = All-nil _;
  only = λ place marked. absurd (false≢true (sym (unmarked count place marks is) ∙ marked));
}

module _ (places numbers : List ℕ) (count index : ℕ) (marks : List Bool) (below : index < length numbers)
    (inside : All (λ number. number < length places) numbers) (small : All (λ place. place < count) places)
    (so : AreMarksOf places (take index numbers) count marks) where
  abbrev number : ℕ
  number = slice_index_or numbers index 0

  abbrev place : ℕ
  place = slice_index_or places number 0

  abbrev later : List Bool
  later = set marks place true

  fits : place < length marks
  fits = omega (arith, small number 0 (inside index 0 below), so.size)

  kept : (at : ℕ) → slice_index_or marks at false ≡ true → slice_index_or later at false ≡ true
  kept at m = ⊎_elim
      (λ (same : at ≡ place). let P : ℕ → Type 0 = λ k. slice_index_or later k false ≡ true in subst P (sym same) (get_or-set_same marks place true false fits))
      (λ (other : at ≢ place). get_or-set_other marks place at true false other ∙ m)
      (cases_eq at place)

  more : take (index + 1) numbers ≡ take index numbers ++ number ∷ []
  more = take_more numbers index 0 below

  inside_more : (n : ℕ) → Contains (take index numbers) n → Contains (take (index + 1) numbers) n
  inside_more n there = let P : List ℕ → Type 0 = λ xs. Contains xs n in subst P (sym more) (Contains-append_left (take index numbers) (number ∷ []) n there)

  here : Contains (take (index + 1) numbers) number
  here = let P : List ℕ → Type 0 = λ xs. Contains xs number in subst P (sym more) (at_end (take index numbers) number)

  abbrev Marks : ℕ → Type 0
  Marks p = (n : ℕ) × Contains (take (index + 1) numbers) n × (slice_index_or places n 0 ≡ p)

  only_these : (p : ℕ) → slice_index_or later p false ≡ true → Marks p
  only_these p m = ⊎_elim
      (λ (same : p ≡ place). (number, here, sym same))
      (λ (other : p ≢ place). let w = so.only p (sym (get_or-set_other marks place p true false other) ∙ m) in (w.0, inside_more w.0 w.1, w.2))
      (cases_eq p place)

  pub next_number : AreMarksOf places (take (index + 1) numbers) count (set marks (slice_index_or places (slice_index_or numbers index 0) 0) true)
  next_number = record {
    size = length-set marks place true ∙ so.size;
    all = All-more (λ n. slice_index_or later (slice_index_or places n 0) false ≡ true) numbers index 0 below
        (All-weaker (λ n. slice_index_or marks (slice_index_or places n 0) false ≡ true) (λ n.
        slice_index_or later (slice_index_or places n 0) false ≡ true) (λ n m. kept (slice_index_or places n 0) m) (take index numbers) so.all)
        (get_or-set_same marks place true false fits);
    only = only_these;
  }
