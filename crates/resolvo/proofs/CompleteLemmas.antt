-- Values that make the clauses of marked rules true give a set that obeys these rules.
use Rattle.std.proofs.Common.{◌≡◌, ℕ, zero, suc, ◌<◌, ◌^◌, ◌⊎◌, inl, inr, List, [], ◌∷◌, ◌++◌, length, Bool, true, false, cond, arith, sym, ap, ◌∙◌, subst}
use Rattle.std.proofs.Common.{⊎_elim, Contains, Vec, Global}
use Rattle.std.specs.Prelude.{Some, slice_get, slice_index_or, not}
use Rattle.std.specs.List.{AllZip}
use Rattle.std.proofs.lemmas.Bool.{cases_order, false≢true, or_cases}
use Rattle.std.proofs.lemmas.Option.{none-some, same_Some, slice_get_within}
use Rattle.std.proofs.lemmas.List.Elements.{All-contains}
use Rattle.resolver_clause_store.specs.Formula.{clause_true, literal_true}
use Rattle.resolver_clause_store.specs.Lists.{Meets}
use Rattle.resolver_clause_store.specs.Statements.{statement_of, IsPresent, AllMeet, ObeysAlone}
use Rattle.resolver_clause_store.specs.Rules.{Obeys}
use Rattle.resolver_clause_store.specs.Variables.{AreDistinct}
use Rattle.resolver_clause_store.specs.declared.By.{By}
use Rattle.resolver_clause_store.specs.declared.By.TheVariants.{Root, Solvable}
use Rattle.resolver_clause_store.specs.Literals.{Literal}
use Rattle.resolver_clause_store.specs.declared.Rule.{Rule}
use Rattle.resolver_clause_store.specs.declared.Rule.TheVariants.{Requires, Constrains, Lock, Excluded, OnePerPackage}
use Rattle.resolver_encoding.proofs.CodeLemmas.{digit_apart, pow_under}
use Rattle.resolvo.proofs.LineLemmas.{some_at, kept_here, kept_there, kept_cases, in_marked, zip_at, bit_line}
use Rattle.resolvo.proofs.LineLemmas.{bit_line_in, member_line, member_line_in, line_in, rule_of_line}
use Rattle.resolver_encoding.specs.Codes.{bit}
use Rattle.resolvo.specs.Minimal.{only_marked}
use Rattle.resolvo.specs.RuleClauses.{Line, line_atom, plain, requirement_line, requirer_atoms, list_atoms, candidate_atoms, condition_lines, rule_lines}
use Rattle.resolvo.specs.RuleClauses.{all_lines, IsLiteralOf, IsClauseOfLine, HasCode, AreClausesOf, MakesMarkedTrue}
use Rattle.resolvo.specs.declared.minimal.rule_clauses.Atom.{Atom}
use Rattle.resolvo.specs.declared.minimal.rule_clauses.Proposition.{Proposition}
use Rattle.resolvo.specs.declared.minimal.rule_clauses.Proposition.TheVariants.{Member, Listed, Bit}
use Rattle.resolver_clause_store.proofs.BoolLemmas.{beq-true}
use Rattle.resolver_clause_store.proofs.ListLemmas.{Contains-at, Contains-here as here, Contains-map, Contains-none as none_in, Contains-there as there}
use Rattle.resolvo.specs.declared.minimal.rule_clauses.RuleClause.{RuleClause}
use Rattle.resolver_clause_store.proofs.ListLemmas.{AllZip-right}
use Rattle.resolver_clause_store.specs.NumberedLists.{items_of}

-- a variable stands for the proposition, and has this value
pub record Holds {N S : Type 0} (propositions : List (Proposition N S)) (values : ℕ → Bool) (p : Proposition N S) (b : Bool) : Type 0 where
  pub variable : ℕ
  pub stands : slice_get propositions variable ≡ Some p
  pub value : values variable ≡ b

-- one of the atoms is true
abbrev pub SomeHolds : {N S : Type 0} → List (Proposition N S) → (ℕ → Bool) → List (Atom N S) → Type 0
SomeHolds propositions values [] = ⊥
SomeHolds propositions values (a ∷ atoms) = Holds propositions values a.proposition a.positive ⊎ SomeHolds propositions values atoms

-- the solvables that the values put into the set
abbrev pub members : {N S : Type 0} → (ℕ → Bool) → List (Proposition N S) → List S
members values [] = []
members values (Member s ∷ rest) = cond (values 0) (s ∷ members (λ i. values (suc i)) rest) (members (λ i. values (suc i)) rest)
members values (Listed rule list ∷ rest) = members (λ i. values (suc i)) rest
members values (Bit name index ∷ rest) = members (λ i. values (suc i)) rest

member_in : {N S : Type 0} (values : ℕ → Bool) (propositions : List (Proposition N S)) (v : ℕ) (s : S) → slice_get propositions v ≡ Some (Member s) →
    values v ≡ true → Contains (members values propositions) s
member_in values [] v s at on = absurd (none-some _ at)
member_in {N} {S} values (Member t ∷ rest) zero s at on =
    let same : t ≡ s = cc in
    let first : Proposition N S = Member t in
    subst (Contains (members values (first ∷ rest))) same (kept_here (values 0) t (members (λ i. values (suc i)) rest) on)
member_in values (Member t ∷ rest) (suc v) s at on =
    kept_there (values 0) t (members (λ i. values (suc i)) rest) s (member_in (λ i. values (suc i)) rest v s at on)
member_in values (Listed rule list ∷ rest) zero s at on = absurd cc
member_in values (Listed rule list ∷ rest) (suc v) s at on = member_in (λ i. values (suc i)) rest v s at on
member_in values (Bit name index ∷ rest) zero s at on = absurd cc
member_in values (Bit name index ∷ rest) (suc v) s at on = member_in (λ i. values (suc i)) rest v s at on

later_holds : {N S : Type 0} (first p : Proposition N S) (rest : List (Proposition N S)) (values : ℕ → Bool) (b : Bool) → Holds rest (λ i. values (suc i)) p b →
    Holds (first ∷ rest) values p b
later_holds first p rest values b h = record { variable = suc h.variable; stands = h.stands; value = h.value }

member_from : {N S : Type 0} (values : ℕ → Bool) (propositions : List (Proposition N S)) (s : S) → Contains (members values propositions) s →
    Holds propositions values (Member s) true
member_from values [] s h = absurd (none_in s h)
member_from {N} {S} values (Member t ∷ rest) s h = ⊎_elim
    (λ (now : (values 0 ≡ true) × (t ≡ s)).
    let Of : S → Proposition N S = λ u. Member u in record { variable = 0; stands = ap (λ u. Some (Of u)) now.1; value = now.0 })
    (λ (later : Contains (members (λ i. values (suc i)) rest) s). later_holds (Member t) (Member s) rest values true
    (member_from (λ i. values (suc i)) rest s later))
    (kept_cases (values 0) t (members (λ i. values (suc i)) rest) s h)
member_from values (Listed rule list ∷ rest) s h = later_holds (Listed rule list) (Member s) rest values true (member_from (λ i. values (suc i)) rest s h)
member_from values (Bit name index ∷ rest) s h = later_holds (Bit name index) (Member s) rest values true (member_from (λ i. values (suc i)) rest s h)

never_not : (b : Bool) → not b ≡ b → ⊥
never_not true e = absurd cc
never_not false e = absurd cc

module _ {N S : Type 0} (propositions : List (Proposition N S)) (values : ℕ → Bool) where
  abbrev Some_of : List (Atom N S) → Type 0
  Some_of atoms = SomeHolds propositions values atoms

  abbrev Is : Proposition N S → Bool → Type 0
  Is p b = Holds propositions values p b

  one_value : AreDistinct propositions → (p : Proposition N S) (b c : Bool) → Is p b → Is p c → b ≡ c
  one_value distinct p b c first second = sym first.value ∙
      (ap values (distinct.same first.variable second.variable p first.stands second.stands) ∙ second.value)

  some_holds : (literals : List Literal) (atoms : List (Atom N S)) → AllZip (IsLiteralOf propositions) literals atoms → clause_true values literals ≡ true →
      Some_of atoms
  some_holds [] [] zip e = absurd (false≢true e)
  some_holds [] (a ∷ atoms) zip e = absurd zip
  some_holds (l ∷ literals) [] zip e = absurd zip
  some_holds (l ∷ literals) (a ∷ atoms) (first, rest) e = ⊎_elim
      (λ (now : literal_true values l ≡ true).
      inl (record { variable = l.variable; stands = first.stands; value = beq-true (values l.variable) l.positive now ∙ first.sign }))
      (λ (later : clause_true values literals ≡ true). inr (some_holds literals atoms rest later))
      (or_cases (literal_true values l) (clause_true values literals) e)

  some_in_parts : (xs ys : List (Atom N S)) → Some_of (xs ++ ys) → Some_of xs ⊎ Some_of ys
  some_in_parts [] ys h = inr h
  some_in_parts (x ∷ xs) ys h = ⊎_elim
      (λ (now : Is x.proposition x.positive). inl (inl now))
      (λ (later : Some_of (xs ++ ys)). ⊎_elim
      (λ (left : Some_of xs). inl (inr left))
      (λ (right : Some_of ys). inr right)
      (some_in_parts xs ys later))
      h

  some_list : (rule n : ℕ) → Some_of (list_atoms rule n) → (j : ℕ) × (j < n) × Is (Listed rule j) false
  some_list rule zero h = absurd h
  some_list rule (suc n) h = ⊎_elim
      (λ (before : Some_of (list_atoms rule n)). let w = some_list rule n before in (w.0, omega (arith, w.1), w.2))
      (λ (last : Some_of (line_atom (Listed rule n) false ∷ [])). ⊎_elim
      (λ (it : Is (Listed rule n) false). (n, omega arith, it))
      (λ (none : ⊥). absurd none)
      last)
      (some_in_parts (list_atoms rule n) (line_atom (Listed rule n) false ∷ []) h)

  some_candidate : (candidates : List S) → Some_of (candidate_atoms candidates) → (s : S) × Contains candidates s × Is (Member s) true
  some_candidate [] h = absurd h
  some_candidate (s ∷ candidates) h = ⊎_elim
      (λ (now : Is (Member s) true). (s, here s candidates, now))
      (λ (later : Some_of (candidate_atoms candidates)). let w = some_candidate candidates later in (w.0, there s candidates w.0 w.1, w.2))
      h

  module _ (distinct : AreDistinct propositions) where
    abbrev chosen : List S
    chosen = members values propositions

    -- a member of the set has a variable that is not false
    not_left_out : (s : S) → Contains chosen s → Is (Member s) false → ⊥
    not_left_out s inside out = false≢true (one_value distinct (Member s) false true out (member_from values propositions s inside))

    is_chosen : (s : S) → Is (Member s) true → Contains chosen s
    is_chosen s is = member_in values propositions is.variable s is.stands is.value

    not_absent : (by : By S) → IsPresent by chosen → Some_of (requirer_atoms by) → ⊥
    not_absent Root present absent = absent
    not_absent (Solvable s) present absent = ⊎_elim
        (λ (out : Is (Member s) false). not_left_out s present out)
        (λ (none : ⊥). none)
        absent

    -- a line with this atom alone leaves the solvable out
    out_alone : (s : S) → Some_of (line_atom (Member s) false ∷ []) → Contains chosen s → ⊥
    out_alone s some inside = ⊎_elim
        (λ (out : Is (Member s) false). not_left_out s inside out)
        (λ (none : ⊥). none)
        some

    -- each line of the rule at a place is true
    abbrev AreTrue : ℕ → ℕ → ℕ → Rule N S → Type 0
    AreTrue width place code rule = (line : Line N S) → Contains (rule_lines width place code rule) line → Some_of line.atoms

    -- the variable of a list with a member in the set is true
    list_met : (place j : ℕ) (lists : List (Vec S Global)) → ((line : Line N S) → Contains (condition_lines place 0 lists) line → Some_of line.atoms) →
        AllMeet chosen (items_of lists) → j < length lists → Is (Listed place j) false → ⊥
    list_met place j lists are_true meet below out =
        let at = some_at lists j below in
        let met : Meets at.0.items chosen =
        All-contains (λ xs. Meets xs chosen) (items_of lists) at.0.items meet
        (Contains-map (λ (list : Vec S Global). list.items) lists at.0 (Contains-at lists j at.0 at.1)) in
        ⊎_elim
        (λ (absent : Is (Member met.shared) false). not_left_out met.shared met.in_second absent)
        (λ (rest : Some_of (line_atom (Listed place j) true ∷ [])). ⊎_elim
        (λ (on : Is (Listed place j) true). false≢true (one_value distinct (Listed place j) false true out on))
        (λ (none : ⊥). none)
        rest)
        (are_true (member_line place j met.shared) (member_line_in place 0 lists j j at.0 met.shared (omega arith) at.1 met.in_first))

    alone : (width place code : ℕ) (rule : Rule N S) → AreTrue width place code rule → ObeysAlone chosen (statement_of rule)
    alone width place code (Requires by requirement candidates when) are_true = λ present meet.
        let first : Line N S = requirement_line place (requirer_atoms by ++ (list_atoms place (length when.items) ++ candidate_atoms candidates.items)) in
        ⊎_elim
        (λ (absent : Some_of (requirer_atoms by)). absurd (not_absent by present absent))
        (λ (rest : Some_of (list_atoms place (length when.items) ++ candidate_atoms candidates.items)). ⊎_elim
        (λ (unmet : Some_of (list_atoms place (length when.items))).
        let w = some_list place (length when.items) unmet in
        absurd (list_met place w.0 when.items (λ line inside. are_true line (there first (condition_lines place 0 when.items) line inside)) meet w.1 w.2))
        (λ (met : Some_of (candidate_atoms candidates.items)).
        let w = some_candidate candidates.items met in
        record { shared = w.0; in_first = w.1; in_second = is_chosen w.0 w.2 })
        (some_in_parts (list_atoms place (length when.items)) (candidate_atoms candidates.items) rest))
        (some_in_parts (requirer_atoms by) (list_atoms place (length when.items) ++ candidate_atoms candidates.items)
        (are_true first (here first (condition_lines place 0 when.items))))
    alone width place code (Constrains by version_set candidate) are_true = λ present inside.
        let only : Line N S = plain place (requirer_atoms by ++ line_atom (Member candidate) false ∷ []) in
        ⊎_elim
        (λ (absent : Some_of (requirer_atoms by)). not_absent by present absent)
        (λ (rest : Some_of (line_atom (Member candidate) false ∷ [])). out_alone candidate rest inside)
        (some_in_parts (requirer_atoms by) (line_atom (Member candidate) false ∷ []) (are_true only (here only [])))
    alone width place code (Lock locked forbidden) are_true = λ inside. let only : Line N S = plain place (line_atom (Member forbidden) false ∷ []) in
        out_alone forbidden (are_true only (here only [])) inside
    alone width place code (Excluded solvable reason) are_true = λ inside. let only : Line N S = plain place (line_atom (Member solvable) false ∷ []) in
        out_alone solvable (are_true only (here only [])) inside
    alone width place code (OnePerPackage name instance) are_true = tt

    -- the name has the bits of the code of a chosen instance
    bits_hold : (width place code : ℕ) (n : N) (s : S) → AreTrue width place code (OnePerPackage n s) → Contains chosen s → (i : ℕ) → i < width →
        Is (Bit n i) (bit code i)
    bits_hold width place code n s are_true inside i below = ⊎_elim
        (λ (out : Is (Member s) false). absurd (not_left_out s inside out))
        (λ (rest : Some_of (line_atom (Bit n i) (bit code i) ∷ [])). ⊎_elim
        (λ (on : Is (Bit n i) (bit code i)). on)
        (λ (none : ⊥). absurd none)
        rest)
        (are_true (bit_line place n s code i) (bit_line_in place n s code width i below))

    -- codes with the same bits are equal
    less_apart : (width j k : ℕ) (n : N) → ((i : ℕ) → i < width → Is (Bit n i) (bit j i)) → ((i : ℕ) → i < width → Is (Bit n i) (bit k i)) → k < 2 ^ width →
        j < k → ⊥
    less_apart width j k n first second short less =
        let w = digit_apart j k k less (omega arith) in
        let below : w.0 < width = pow_under w.0 width (omega (arith, w.1, short)) in
        never_not (bit j w.0) (sym w.2 ∙ one_value distinct (Bit n w.0) (bit k w.0) (bit j w.0) (second w.0 below) (first w.0 below))

module _ {N S : Type 0} (rules : List (Rule N S)) (propositions : List (Proposition N S)) (clauses : List RuleClause)
    (are : AreClausesOf rules propositions clauses) (marks : List Bool) (values : ℕ → Bool) (makes : MakesMarkedTrue values marks clauses) where
  -- the lines of a marked rule are true
  lines_true : (place : ℕ) (rule : Rule N S) (code : ℕ) → slice_index_or marks place false ≡ true → slice_get rules place ≡ Some rule →
      slice_get are.codes place ≡ Some code → AreTrue propositions values are.distinct are.width place code rule
  lines_true place rule code mark at coded = λ line inside.
      let w = AllZip-right (IsClauseOfLine propositions) clauses (all_lines are.width 0 rules are.codes) are.lines line
      (line_in are.width 0 rules are.codes place place rule code (omega arith) at coded line inside) in
      let same : w.0.rule ≡ place = w.2.rule ∙ rule_of_line are.width place code rule line inside in
      let Marked : ℕ → Type 0 = λ k. slice_index_or marks k false ≡ true in
      let truth : Marked w.0.rule → clause_true values w.0.literals.items ≡ true =
      All-contains (λ (clause : RuleClause).
      slice_index_or marks clause.rule false ≡ true → clause_true values clause.literals.items ≡ true) clauses w.0 makes w.1 in
      some_holds propositions values w.0.literals.items line.atoms w.2.literals (truth (subst Marked (sym same) mark))

  pub chosen_obeys : Obeys (members values propositions) (only_marked marks rules)
  chosen_obeys = record {
    each = λ rule inside.
        let w = in_marked marks rules rule inside in
        let c = zip_at (HasCode are.instances) rules are.codes are.coded w.place rule w.at in
        alone propositions values are.distinct are.width w.place c.0 rule (lines_true w.place rule c.0 w.mark w.at c.1);
    one_each = λ n s t first second in_set in_set'.
        let v = in_marked marks rules (OnePerPackage n s) first in
        let w = in_marked marks rules (OnePerPackage n t) second in
        let c = zip_at (HasCode are.instances) rules are.codes are.coded v.place (OnePerPackage n s) v.at in
        let d = zip_at (HasCode are.instances) rules are.codes are.coded w.place (OnePerPackage n t) w.at in
        let of_s : slice_get are.instances c.0 ≡ Some s = c.2 in
        let of_t : slice_get are.instances d.0 ≡ Some t = d.2 in
        let bits_s = bits_hold propositions values are.distinct are.width v.place c.0 n s (lines_true v.place (OnePerPackage n s) c.0 v.mark v.at c.1) in_set in
        let bits_t = bits_hold propositions values are.distinct are.width w.place d.0 n t
        (lines_true w.place (OnePerPackage n t) d.0 w.mark w.at d.1) in_set' in
        let short_s : c.0 < 2 ^ are.width = omega (arith, slice_get_within are.instances c.0 s of_s, are.short) in
        let short_t : d.0 < 2 ^ are.width = omega (arith, slice_get_within are.instances d.0 t of_t, are.short) in
        ⊎_elim
        (λ (same : c.0 ≡ d.0). same_Some s t (sym of_s ∙ (ap (slice_get are.instances) same ∙ of_t)))
        (λ (apart : (c.0 < d.0) ⊎ (d.0 < c.0)). ⊎_elim
        (λ (less : c.0 < d.0). absurd (less_apart propositions values are.distinct are.width c.0 d.0 n bits_s bits_t short_t less))
        (λ (more : d.0 < c.0). absurd (less_apart propositions values are.distinct are.width d.0 c.0 n bits_t bits_s short_s more))
        apart)
        (cases_order c.0 d.0);
  }
