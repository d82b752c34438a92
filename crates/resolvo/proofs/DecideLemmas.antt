-- The clauses of rules decide which of these a set obeys.
use Rattle.std.proofs.Common.{◌≡◌, ℕ, ◌+◌, ◌<◌, List, [], ◌∷◌, ◌++◌, length, Bool, false, arith, refl, sym, ap, ◌∙◌, subst, ⊎_elim, Contains}
use Rattle.std.specs.List.{AllZip}
use Rattle.std.proofs.lemmas.Bool.{false≢true}
use Rattle.std.proofs.lemmas.Option.{slice_get_within}
use Rattle.resolver_clause_store.specs.Formula.{IsBelow}
use Rattle.resolver_clause_store.specs.Laws.{IsIdentity}
use Rattle.resolver_clause_store.specs.declared.By.{By}
use Rattle.resolver_clause_store.specs.declared.By.TheVariants.{Root, Solvable}
use Rattle.resolver_clause_store.specs.Literals.{Literal}
use Rattle.resolver_clause_store.specs.declared.Rule.{Rule}
use Rattle.resolver_clause_store.specs.declared.Rule.TheVariants.{Requires, Constrains, Lock, Excluded, OnePerPackage}
use Rattle.resolvo.proofs.CompleteLemmas.{members, chosen_obeys}
use Rattle.resolvo.proofs.LineLemmas.{All-each, bit_line_from, member_line_from, line_from, rule_of_line}
use Rattle.resolvo.proofs.SoundLemmas.{values_true}
use Rattle.resolvo.specs.RuleClauses.{Line, line_atom, plain, requirement_line, requirer_atoms, list_atoms, candidate_atoms, condition_lines, rule_lines}
use Rattle.resolvo.specs.RuleClauses.{all_lines, IsLiteralOf, IsClauseOfLine, AreClausesOf, IsGuarded, DecideRules}
use Rattle.resolvo.specs.declared.minimal.rule_clauses.Atom.{Atom}
use Rattle.resolvo.specs.declared.minimal.rule_clauses.Proposition.{Proposition}
use Rattle.resolvo.specs.declared.minimal.rule_clauses.Proposition.TheVariants.{Member}
use Rattle.resolver_clause_store.proofs.ListLemmas.{Contains-cons_cases as cons_cases, Contains-none as none_in, AllZip-left}
use Rattle.resolvo.specs.declared.minimal.rule_clauses.RuleClause.{RuleClause}

-- an atom or two, of which the first is negative
abbrev pub AreGuarded : {N S : Type 0} → List (Atom N S) → Type 0
AreGuarded [] = ⊥
AreGuarded (first ∷ []) = first.positive ≡ false
AreGuarded (first ∷ second ∷ []) = first.positive ≡ false
AreGuarded (first ∷ second ∷ third ∷ rest) = ⊥

requirer_guarded : (N : Type 0) {S : Type 0} (by : By S) (s : S) → AreGuarded {N = N} (requirer_atoms by ++ line_atom (Member s) false ∷ [])
requirer_guarded N Root s = refl
requirer_guarded N (Solvable t) s = refl

module _ {N S : Type 0} where
  -- the line belongs to a requirement, or is guarded
  abbrev IsOrderly : Line N S → Type 0
  IsOrderly line = line.is_requirement ≡ false → AreGuarded line.atoms

  only_guarded : (only line : Line N S) → AreGuarded only.atoms → Contains (only ∷ []) line → IsOrderly line
  only_guarded only line guarded inside = λ plain_one. ⊎_elim
      (λ (same : only ≡ line). let Guarded : Line N S → Type 0 = λ (l : Line N S). AreGuarded l.atoms in subst Guarded same guarded)
      (λ (none : Contains [] line). absurd (none_in line none))
      (cons_cases only [] line inside)

  line_orderly : (width place code : ℕ) (rule : Rule N S) (line : Line N S) → Contains (rule_lines width place code rule) line → IsOrderly line
  line_orderly width place code (Requires by requirement candidates when) line inside = λ plain_one.
      let first : Line N S = requirement_line place (requirer_atoms by ++ (list_atoms place (length when.items) ++ candidate_atoms candidates.items)) in
      let IsRequirement : Line N S → Bool = λ (l : Line N S). l.is_requirement in
      let Guarded : Line N S → Type 0 = λ (l : Line N S). AreGuarded l.atoms in
      ⊎_elim
      (λ (same : first ≡ line). absurd (false≢true (sym plain_one ∙ sym (ap IsRequirement same))))
      (λ (later : Contains (condition_lines place 0 when.items) line). let w = member_line_from place 0 when.items line later in subst Guarded w.is refl)
      (cons_cases first (condition_lines place 0 when.items) line inside)
  line_orderly width place code (Constrains by version_set candidate) line inside =
      only_guarded (plain place (requirer_atoms by ++ line_atom (Member candidate) false ∷ [])) line (requirer_guarded N by candidate) inside
  line_orderly width place code (Lock locked forbidden) line inside = only_guarded (plain place (line_atom (Member forbidden) false ∷ [])) line refl inside
  line_orderly width place code (Excluded solvable reason) line inside = only_guarded (plain place (line_atom (Member solvable) false ∷ [])) line refl inside
  line_orderly width place code (OnePerPackage name instance) line inside = λ plain_one.
      let w = bit_line_from place name instance code width line inside in
      let Guarded : Line N S → Type 0 = λ (l : Line N S). AreGuarded l.atoms in
      subst Guarded w.2 refl

  guarded_literals : (propositions : List (Proposition N S)) (literals : List Literal) (atoms : List (Atom N S)) →
      AllZip (IsLiteralOf propositions) literals atoms → AreGuarded atoms → IsGuarded literals
  guarded_literals propositions literals [] zip h = absurd h
  guarded_literals propositions [] (a ∷ atoms) zip h = absurd zip
  guarded_literals propositions (l ∷ []) (a ∷ []) zip h = zip.0.sign ∙ h
  guarded_literals propositions (l ∷ []) (a ∷ b ∷ atoms) zip h = absurd zip.1
  guarded_literals propositions (l ∷ m ∷ literals) (a ∷ []) zip h = absurd zip.1
  guarded_literals propositions (l ∷ m ∷ []) (a ∷ b ∷ []) zip h = zip.0.sign ∙ h
  guarded_literals propositions (l ∷ m ∷ []) (a ∷ b ∷ c ∷ atoms) zip h = absurd h
  guarded_literals propositions (l ∷ m ∷ n ∷ literals) (a ∷ b ∷ []) zip h = absurd zip.1.1
  guarded_literals propositions (l ∷ m ∷ n ∷ literals) (a ∷ b ∷ c ∷ atoms) zip h = absurd h

  literals_below : (propositions : List (Proposition N S)) (literals : List Literal) (atoms : List (Atom N S)) →
      AllZip (IsLiteralOf propositions) literals atoms → IsBelow (length propositions) literals
  literals_below propositions literals atoms zip = All-each (λ (l : Literal). l.variable < length propositions) literals (λ l inside.
      let w = AllZip-left (IsLiteralOf propositions) literals atoms zip l inside in
      slice_get_within propositions l.variable w.0.proposition w.2.stands)

pub clauses_decide : {N S : Type 0} (names : N → N → Bool) (solvables : S → S → Bool) → IsIdentity names → IsIdentity solvables →
    (rules : List (Rule N S)) (propositions : List (Proposition N S)) (clauses : List RuleClause) → AreClausesOf rules propositions clauses →
    DecideRules rules (length propositions) clauses
clauses_decide names solvables same_names same_solvables rules propositions clauses are = record {
  sound = λ marks set size obeys. values_true names solvables same_names same_solvables rules propositions clauses are marks set obeys;
  complete = λ marks values size makes refuted. refuted (members values propositions) (chosen_obeys rules propositions clauses are marks values makes);
  guarded = All-each (λ (clause : RuleClause). clause.is_requirement ≡ false → IsGuarded clause.literals.items) clauses (λ clause inside plain_one.
      let w = AllZip-left (IsClauseOfLine propositions) clauses (all_lines are.width 0 rules are.codes) are.lines clause inside in
      let at = line_from are.width 0 rules are.codes w.0 w.1 in
      guarded_literals propositions clause.literals.items w.0.atoms w.2.literals
      (line_orderly are.width (0 + at.index) at.code at.rule w.0 at.inside (sym w.2.is_requirement ∙ plain_one)));
  places = All-each (λ (clause : RuleClause). clause.rule < length rules) clauses (λ clause inside.
      let w = AllZip-left (IsClauseOfLine propositions) clauses (all_lines are.width 0 rules are.codes) are.lines clause inside in
      let at = line_from are.width 0 rules are.codes w.0 w.1 in
      let is_rule : clause.rule ≡ 0 + at.index = w.2.rule ∙ rule_of_line are.width (0 + at.index) at.code at.rule w.0 at.inside in
      omega (arith, is_rule, slice_get_within rules at.index at.rule at.at));
  below = All-each (λ (clause : RuleClause). IsBelow (length propositions) clause.literals.items) clauses (λ clause inside.
      let w = AllZip-left (IsClauseOfLine propositions) clauses (all_lines are.width 0 rules are.codes) are.lines clause inside in
      literals_below propositions clause.literals.items w.0.atoms w.2.literals);
}
