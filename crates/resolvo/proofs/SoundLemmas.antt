-- A set that obeys marked rules gives values that make their clauses true.
use Rattle.std.proofs.Common.{◌≡◌, ℕ, zero, suc, ◌+◌, ◌<◌, ◌≤◌, List, [], ◌∷◌, ◌++◌, length, get_or, Bool, true, false, arith, refl, sym, ap, ◌∙◌, subst}
use Rattle.std.proofs.Common.{⊎_elim, Contains, Vec, Global}
use Rattle.std.specs.Prelude.{Option, Some, slice_get, slice_index_or, not, ◌&&◌, ◌||◌, ⊤}
use Rattle.std.specs.Bool.{beq}
use Rattle.std.specs.List.{AllZip, list_any}
use Rattle.std.specs.Option.{option_map_or}
use Rattle.std.proofs.lemmas.Bool.{and_from, and_parts, both_ways, cases_Bool, cases_lt, false≢true, or_cases, or_left, or_parts, or_right, true_from_ne_false}
use Rattle.std.proofs.lemmas.List.Elements.{All-map}
use Rattle.std.proofs.lemmas.Map.Views.{Contains-from_any}
use Rattle.std.proofs.lemmas.Option.{none-some, same_Some, slice_get-get_or}
use Rattle.resolver_clause_store.specs.Formula.{clause_true, literal_true}
use Rattle.resolver_clause_store.specs.Laws.{IsIdentity}
use Rattle.resolver_clause_store.specs.Lists.{Meets}
use Rattle.resolver_clause_store.specs.Statements.{statement_of, IsPresent, AllMeet, ObeysAlone}
use Rattle.resolver_clause_store.specs.Rules.{Obeys}
use Rattle.resolver_clause_store.specs.declared.By.{By}
use Rattle.resolver_clause_store.specs.declared.By.TheVariants.{Root, Solvable}
use Rattle.resolver_clause_store.specs.Literals.{Literal}
use Rattle.resolver_clause_store.specs.declared.Rule.{Rule}
use Rattle.resolver_clause_store.specs.declared.Rule.TheVariants.{Requires, Constrains, Lock, Excluded, OnePerPackage}
use Rattle.resolvo.proofs.LineLemmas.{All-each, marked_in, zip_both, bit_line_from, member_line_from, line_from, rule_of_line}
use Rattle.resolver_encoding.specs.Codes.{bit}
use Rattle.resolvo.specs.Minimal.{only_marked}
use Rattle.resolvo.specs.RuleClauses.{Line, line_atom, plain, requirement_line, requirer_atoms, list_atoms, candidate_atoms, condition_lines, rule_lines}
use Rattle.resolvo.specs.RuleClauses.{all_lines, IsLiteralOf, IsClauseOfLine, HasCode, AreClausesOf, MakesMarkedTrue}
use Rattle.resolvo.specs.declared.minimal.rule_clauses.Atom.{Atom}
use Rattle.resolvo.specs.declared.minimal.rule_clauses.Proposition.{Proposition}
use Rattle.resolvo.specs.declared.minimal.rule_clauses.Proposition.TheVariants.{Member, Listed, Bit}
use Rattle.resolver_clause_store.proofs.BoolLemmas.{beq-false as other_value}
use Rattle.resolver_clause_store.proofs.ListLemmas.{Contains-cons_cases as cons_cases, Contains-none as none_in, list_any-contains as any_of, AllZip-left}
use Rattle.resolver_clause_store.proofs.ListLemmas.{list_any-witness as any_from}
use Rattle.resolver_clause_store.specs.NumberedLists.{items_of}
use Rattle.resolvo.specs.declared.minimal.rule_clauses.RuleClause.{RuleClause}

-- whether the list of the rule with this number has a member that passes
abbrev pub list_passes : {N S : Type 0} → (S → Bool) → ℕ → Rule N S → Bool
list_passes has list (Requires by requirement candidates when) =
    option_map_or (λ (one : Vec _ Global). list_any has one.items) (slice_get when.items list) false
list_passes has list (Constrains by version_set candidate) = false
list_passes has list (Lock locked forbidden) = false
list_passes has list (Excluded solvable reason) = false
list_passes has list (OnePerPackage name instance) = false

-- whether the rule marks an instance that passes, under a name that passes, and its code has the bit
abbrev pub gives_bit : {N S : Type 0} → (N → Bool) → (S → Bool) → ℕ → Rule N S → ℕ → Bool
gives_bit named has i (Requires by requirement candidates when) code = false
gives_bit named has i (Constrains by version_set candidate) code = false
gives_bit named has i (Lock locked forbidden) code = false
gives_bit named has i (Excluded solvable reason) code = false
gives_bit named has i (OnePerPackage name instance) code = named name && (has instance && bit code i)

-- whether a marked rule gives the bit
abbrev pub some_bit : {N S : Type 0} → (N → Bool) → (S → Bool) → ℕ → List Bool → List (Rule N S) → List ℕ → Bool
some_bit named has i [] rules codes = false
some_bit named has i (b ∷ marks) [] codes = false
some_bit named has i (b ∷ marks) (rule ∷ rules) [] = false
some_bit named has i (b ∷ marks) (rule ∷ rules) (code ∷ codes) = (b && gives_bit named has i rule code) || some_bit named has i marks rules codes

some_bit_at : {N S : Type 0} (named : N → Bool) (has : S → Bool) (i : ℕ) (marks : List Bool) (rules : List (Rule N S)) (codes : List ℕ) (k : ℕ)
    (rule : Rule N S) (code : ℕ) → slice_index_or marks k false ≡ true → slice_get rules k ≡ Some rule → slice_get codes k ≡ Some code →
    gives_bit named has i rule code ≡ true → some_bit named has i marks rules codes ≡ true
some_bit_at named has i [] rules codes k rule code mark at coded gives = absurd (false≢true mark)
some_bit_at named has i (b ∷ marks) [] codes k rule code mark at coded gives = absurd (none-some rule at)
some_bit_at named has i (b ∷ marks) (r ∷ rules) [] k rule code mark at coded gives = absurd (none-some code coded)
some_bit_at {N} {S} named has i (b ∷ marks) (r ∷ rules) (c ∷ codes) zero rule code mark at coded gives =
    let Gives : Rule N S → ℕ → Type 0 = λ q d. gives_bit named has i q d ≡ true in
    let with_code : Gives rule c = subst (Gives rule) (sym (same_Some c code coded)) gives in
    let with_rule : Gives r c = subst (λ q. Gives q c) (sym (same_Some r rule at)) with_code in
    or_left (b && gives_bit named has i r c) (some_bit named has i marks rules codes) (and_from b (gives_bit named has i r c) mark with_rule)
some_bit_at named has i (b ∷ marks) (r ∷ rules) (c ∷ codes) (suc k) rule code mark at coded gives =
    or_right (b && gives_bit named has i r c) (some_bit named has i marks rules codes)
    (some_bit_at named has i marks rules codes k rule code mark at coded gives)

-- a marked rule that gives the bit
pub record GivesBit {N S : Type 0} (named : N → Bool) (has : S → Bool) (i : ℕ) (marks : List Bool) (rules : List (Rule N S)) (codes : List ℕ) : Type 0 where
  pub place : ℕ
  pub name : N
  pub instance : S
  pub code : ℕ
  pub mark : slice_index_or marks place false ≡ true
  pub at : slice_get rules place ≡ Some (OnePerPackage name instance)
  pub coded : slice_get codes place ≡ Some code
  pub is_named : named name ≡ true
  pub there : has instance ≡ true
  pub on : bit code i ≡ true

first_gives : {N S : Type 0} (named : N → Bool) (has : S → Bool) (i : ℕ) (b : Bool) (marks : List Bool) (rule : Rule N S) (rules : List (Rule N S)) (code : ℕ)
    (codes : List ℕ) → b ≡ true → gives_bit named has i rule code ≡ true → GivesBit named has i (b ∷ marks) (rule ∷ rules) (code ∷ codes)
first_gives named has i b marks (Requires by requirement candidates when) rules code codes mark e = absurd (false≢true e)
first_gives named has i b marks (Constrains by version_set candidate) rules code codes mark e = absurd (false≢true e)
first_gives named has i b marks (Lock locked forbidden) rules code codes mark e = absurd (false≢true e)
first_gives named has i b marks (Excluded solvable reason) rules code codes mark e = absurd (false≢true e)
first_gives named has i b marks (OnePerPackage name instance) rules code codes mark e =
    let first = and_parts (named name) (has instance && bit code i) e in
    let second = and_parts (has instance) (bit code i) first.1 in
    record {
      place = 0;
      name = name;
      instance = instance;
      code = code;
      mark = mark;
      at = refl;
      coded = refl;
      is_named = first.0;
      there = second.0;
      on = second.1;
    }

some_bit_from : {N S : Type 0} (named : N → Bool) (has : S → Bool) (i : ℕ) (marks : List Bool) (rules : List (Rule N S)) (codes : List ℕ) →
    some_bit named has i marks rules codes ≡ true → GivesBit named has i marks rules codes
some_bit_from named has i [] rules codes e = absurd (false≢true e)
some_bit_from named has i (b ∷ marks) [] codes e = absurd (false≢true e)
some_bit_from named has i (b ∷ marks) (rule ∷ rules) [] e = absurd (false≢true e)
some_bit_from named has i (b ∷ marks) (rule ∷ rules) (code ∷ codes) e = ⊎_elim
    (λ (now : (b && gives_bit named has i rule code) ≡ true).
    let parts = and_parts b (gives_bit named has i rule code) now in first_gives named has i b marks rule rules code codes parts.0 parts.1)
    (λ (later : some_bit named has i marks rules codes ≡ true).
    let w = some_bit_from named has i marks rules codes later in
    record {
      place = suc w.place;
      name = w.name;
      instance = w.instance;
      code = w.code;
      mark = w.mark;
      at = w.at;
      coded = w.coded;
      is_named = w.is_named;
      there = w.there;
      on = w.on;
    })
    (or_cases (b && gives_bit named has i rule code) (some_bit named has i marks rules codes) e)

-- each of the atoms is false
abbrev pub AllFalse : {N S : Type 0} → (Proposition N S → Bool) → List (Atom N S) → Type 0
AllFalse value [] = ⊤
AllFalse value (a ∷ atoms) = (value a.proposition ≡ not a.positive) × AllFalse value atoms

module _ {N S : Type 0} (value : Proposition N S → Bool) where
  abbrev None_of : List (Atom N S) → Type 0
  None_of atoms = AllFalse value atoms

  abbrev some_true : List (Atom N S) → Bool
  some_true atoms = list_any (λ (a : Atom N S). beq (value a.proposition) a.positive) atoms

  all_false : (atoms : List (Atom N S)) → some_true atoms ≡ false → None_of atoms
  all_false [] e = tt
  all_false (a ∷ atoms) e = let parts = or_parts (beq (value a.proposition) a.positive) (some_true atoms) e in
      (other_value (value a.proposition) a.positive parts.0, all_false atoms parts.1)

  some_true_unless : (atoms : List (Atom N S)) → (None_of atoms → ⊥) → some_true atoms ≡ true
  some_true_unless atoms h = true_from_ne_false (some_true atoms) (λ wrong. h (all_false atoms wrong))

  false_parts : (xs ys : List (Atom N S)) → None_of (xs ++ ys) → None_of xs × None_of ys
  false_parts [] ys h = (tt, h)
  false_parts (x ∷ xs) ys (first, rest) = let parts = false_parts xs ys rest in ((first, parts.0), parts.1)

  false_lists : (rule n : ℕ) → None_of (list_atoms rule n) → (j : ℕ) → j < n → value (Listed rule j) ≡ true
  false_lists rule zero h j below = absurd (omega (arith, below))
  false_lists rule (suc n) h j below =
      let parts = false_parts (list_atoms rule n) (line_atom (Listed rule n) false ∷ []) h in
      let On : ℕ → Type 0 = λ k. value (Listed rule k) ≡ true in
      ⊎_elim
      (λ (less : j < n). false_lists rule n parts.0 j less)
      (λ (not_less : n ≤ j). let last : n ≡ j = omega (arith, below, not_less) in subst On last parts.1.0)
      (cases_lt j n)

  false_candidates : (candidates : List S) → None_of (candidate_atoms candidates) → (s : S) → Contains candidates s → value (Member s) ≡ false
  false_candidates [] h s inside = absurd (none_in s inside)
  false_candidates (t ∷ candidates) (first, rest) s inside =
      let Out : S → Type 0 = λ u. value (Member u) ≡ false in
      ⊎_elim
      (λ (same : t ≡ s). subst Out same first)
      (λ (later : Contains candidates s). false_candidates candidates rest s later)
      (cons_cases t candidates s inside)

  -- the values of variables
  abbrev values_of : List (Proposition N S) → ℕ → Bool
  values_of propositions v = option_map_or value (slice_get propositions v) false

  clause_as_atoms : (propositions : List (Proposition N S)) (literals : List Literal) (atoms : List (Atom N S)) →
      AllZip (IsLiteralOf propositions) literals atoms → clause_true (values_of propositions) literals ≡ some_true atoms
  clause_as_atoms propositions [] [] zip = refl
  clause_as_atoms propositions [] (a ∷ atoms) zip = absurd zip
  clause_as_atoms propositions (l ∷ literals) [] zip = absurd zip
  clause_as_atoms propositions (l ∷ literals) (a ∷ atoms) (first, rest) =
      let one : literal_true (values_of propositions) l ≡ beq (value a.proposition) a.positive =
      ap (λ (o : Option (Proposition N S)). beq (option_map_or value o false) l.positive) first.stands ∙ ap (beq (value a.proposition)) first.sign in
      ap (λ b. b || clause_true (values_of propositions) literals) one ∙
      ap (λ b. beq (value a.proposition) a.positive || b) (clause_as_atoms propositions literals atoms rest)

-- the value of a proposition, for a set and the marked rules
abbrev pub value_in : {N S : Type 0} → (N → N → Bool) → (S → S → Bool) → List S → List Bool → List (Rule N S) → List ℕ → Proposition N S → Bool
value_in names solvables set marks rules codes (Member s) = list_any (solvables s) set
value_in names solvables set marks rules codes (Listed rule list) =
    option_map_or (list_passes (λ s. list_any (solvables s) set) list) (slice_get rules rule) false
value_in names solvables set marks rules codes (Bit name index) = some_bit (names name) (λ s. list_any (solvables s) set) index marks rules codes

module _ {N S : Type 0} (names : N → N → Bool) (solvables : S → S → Bool) (same_names : IsIdentity names) (same_solvables : IsIdentity solvables)
    (rules : List (Rule N S)) (propositions : List (Proposition N S)) (clauses : List RuleClause) (are : AreClausesOf rules propositions clauses)
    (marks : List Bool) (set : List S) (obeys : Obeys set (only_marked marks rules)) where
  abbrev value : Proposition N S → Bool
  value p = value_in names solvables set marks rules are.codes p

  abbrev has : S → Bool
  has s = list_any (solvables s) set

  abbrev None_true : List (Atom N S) → Type 0
  None_true atoms = AllFalse value atoms

  has_it : (s : S) → Contains set s → has s ≡ true
  has_it s inside = any_of (solvables s) set s inside (same_solvables.itself s)

  in_set : (s : S) → has s ≡ true → Contains set s
  in_set s e = Contains-from_any {K = S} {eq = solvables} same_solvables.alone s set e

  present : (by : By S) → None_true (requirer_atoms by) → IsPresent by set
  present Root h = tt
  present (Solvable s) h = in_set s h.0

  -- a list of a rule at its place
  listed_is : (place j : ℕ) (rule : Rule N S) → slice_get rules place ≡ Some rule → value (Listed place j) ≡ list_passes has j rule
  listed_is place j rule at = ap (λ (o : Option (Rule N S)). option_map_or (list_passes has j) o false) at

  abbrev passes : Option (Vec S Global) → Bool
  passes o = option_map_or (λ (one : Vec S Global). list_any has one.items) o false

  -- lists with true variables have members in the set
  lists_meet : (lists : List (Vec S Global)) → ((j : ℕ) → j < length lists → passes (slice_get lists j) ≡ true) → AllMeet set (items_of lists)
  lists_meet lists on = All-map (λ xs. Meets xs set) (λ (list : Vec S Global). list.items) lists (λ k d below.
      let one : Vec S Global = get_or lists k d in
      let is : passes (slice_get lists k) ≡ list_any has one.items = ap passes (slice_get-get_or lists k d below) in
      let w = any_from has one.items (sym is ∙ on k below) in
      record { shared = w.0; in_first = w.1; in_second = in_set w.0 w.2 })

  module _ (place code : ℕ) (mark : slice_index_or marks place false ≡ true) where
    obeyed : (rule : Rule N S) → slice_get rules place ≡ Some rule → ObeysAlone set (statement_of rule)
    obeyed rule at = obeys.each rule (marked_in marks rules place rule mark at)

    -- no line of a marked rule is false
    only_line : (only line : Line N S) → (None_true only.atoms → ⊥) → Contains (only ∷ []) line → None_true line.atoms → ⊥
    only_line only line h inside wrong = ⊎_elim
        (λ (same : only ≡ line). let Wrong : Line N S → Type 0 = λ (l : Line N S). None_true l.atoms in h (subst Wrong (sym same) wrong))
        (λ (none : Contains [] line). none_in line none)
        (cons_cases only [] line inside)

    requirement_line_is : (by : By S) (candidates : Vec S Global) (lists : List (Vec S Global)) →
        ((j : ℕ) → value (Listed place j) ≡ passes (slice_get lists j)) →
        (IsPresent by set → AllMeet set (items_of lists) → Meets candidates.items set) →
        None_true (requirer_atoms by ++ (list_atoms place (length lists) ++ candidate_atoms candidates.items)) → ⊥
    requirement_line_is by candidates lists is alone wrong =
        let first = false_parts value (requirer_atoms by) (list_atoms place (length lists) ++ candidate_atoms candidates.items) wrong in
        let second = false_parts value (list_atoms place (length lists)) (candidate_atoms candidates.items) first.1 in
        let met = alone (present by first.0) (lists_meet lists (λ j below. sym (is j) ∙ false_lists value place (length lists) second.0 j below)) in
        both_ways (has met.shared) (false_candidates value candidates.items second.1 met.shared met.in_first) (has_it met.shared met.in_second)

    member_line_true : (lists : List (Vec S Global)) → ((j : ℕ) → value (Listed place j) ≡ passes (slice_get lists j)) → (line : Line N S) →
        Contains (condition_lines place 0 lists) line → None_true line.atoms → ⊥
    member_line_true lists is line inside wrong =
        let w = member_line_from place 0 lists line inside in
        let Wrong : Line N S → Type 0 = λ (l : Line N S). None_true l.atoms in
        let At : ℕ → Type 0 = λ j. value (Listed place j) ≡ false in
        let same : 0 + w.index ≡ w.index = omega arith in
        let parts : (has w.member ≡ true) × ((value (Listed place (0 + w.index)) ≡ false) × ⊤) = subst Wrong (sym w.is) wrong in
        let on : list_any has w.members.items ≡ true = any_of has w.members.items w.member w.inside parts.0 in
        both_ways (value (Listed place w.index)) (subst At same parts.1.0) (is w.index ∙ (ap passes w.at ∙ on))

    bit_true : (name : N) (instance : S) → slice_get rules place ≡ Some (OnePerPackage name instance) → slice_get are.codes place ≡ Some code → (i : ℕ) →
        has instance ≡ true → value (Bit name i) ≡ not (bit code i) → ⊥
    bit_true name instance at coded i there_it is =
        let Value : Bool → Type 0 = λ b. value (Bit name i) ≡ not b in
        ⊎_elim
        (λ (on : bit code i ≡ true).
        both_ways (value (Bit name i)) (subst Value on is)
        (some_bit_at (names name) has i marks rules are.codes place (OnePerPackage name instance) code mark at coded
        (and_from (names name name) (has instance && bit code i) (same_names.itself name) (and_from (has instance) (bit code i) there_it on))))
        (λ (off : bit code i ≡ false).
        let w = some_bit_from (names name) has i marks rules are.codes (subst Value off is) in
        let same_name : name ≡ w.name = same_names.alone name w.name w.is_named in
        let At : N → Type 0 = λ n. Contains (only_marked marks rules) (OnePerPackage n w.instance) in
        let other : At name = subst At (sym same_name) (marked_in marks rules w.place (OnePerPackage w.name w.instance) w.mark w.at) in
        let same : instance ≡ w.instance =
        obeys.one_each name instance w.instance (marked_in marks rules place (OnePerPackage name instance) mark at) other (in_set instance there_it)
        (in_set w.instance w.there) in
        let of_one : slice_get are.instances code ≡ Some instance =
        zip_both (HasCode are.instances) rules are.codes are.coded place (OnePerPackage name instance) code at coded in
        let of_other : slice_get are.instances w.code ≡ Some w.instance =
        zip_both (HasCode are.instances) rules are.codes are.coded w.place (OnePerPackage w.name w.instance) w.code w.at w.coded in
        let same_code : code ≡ w.code = are.apart.same code w.code w.instance (of_one ∙ ap Some same) of_other in
        both_ways (bit code i) off (ap (λ c. bit c i) same_code ∙ w.on))
        (cases_Bool (bit code i))

    line_true : (rule : Rule N S) → slice_get rules place ≡ Some rule → slice_get are.codes place ≡ Some code → (line : Line N S) →
        Contains (rule_lines are.width place code rule) line → None_true line.atoms → ⊥
    line_true (Requires by requirement candidates when) at coded line inside wrong =
        let first : Line N S = requirement_line place (requirer_atoms by ++ (list_atoms place (length when.items) ++ candidate_atoms candidates.items)) in
        let Wrong : Line N S → Type 0 = λ (l : Line N S). None_true l.atoms in
        let rule : Rule N S = Requires by requirement candidates when in
        ⊎_elim
        (λ (same : first ≡ line). requirement_line_is by candidates when.items (λ j. listed_is place j rule at) (obeyed rule at) (subst Wrong (sym same) wrong))
        (λ (later : Contains (condition_lines place 0 when.items) line). member_line_true when.items (λ j. listed_is place j rule at) line later wrong)
        (cons_cases first (condition_lines place 0 when.items) line inside)
    line_true (Constrains by version_set candidate) at coded line inside wrong =
        only_line (plain place (requirer_atoms by ++ line_atom (Member candidate) false ∷ [])) line
        (λ h. let parts = false_parts value (requirer_atoms by) (line_atom (Member candidate) false ∷ []) h in
        obeyed (Constrains by version_set candidate) at (present by parts.0) (in_set candidate parts.1.0))
        inside wrong
    line_true (Lock locked forbidden) at coded line inside wrong =
        only_line (plain place (line_atom (Member forbidden) false ∷ [])) line (λ h. obeyed (Lock locked forbidden) at (in_set forbidden h.0)) inside wrong
    line_true (Excluded solvable reason) at coded line inside wrong =
        only_line (plain place (line_atom (Member solvable) false ∷ [])) line (λ h. obeyed (Excluded solvable reason) at (in_set solvable h.0)) inside wrong
    line_true (OnePerPackage name instance) at coded line inside wrong =
        let w = bit_line_from place name instance code are.width line inside in
        let Wrong : Line N S → Type 0 = λ (l : Line N S). None_true l.atoms in
        let parts : (has instance ≡ true) × ((value (Bit name w.0) ≡ not (bit code w.0)) × ⊤) = subst Wrong (sym w.2) wrong in
        bit_true name instance at coded w.0 parts.0 parts.1.0

  pub values_true : (values : ℕ → Bool) × MakesMarkedTrue values marks clauses
  values_true = (
    values_of value propositions,
    All-each (λ (clause : RuleClause).
        slice_index_or marks clause.rule false ≡ true → clause_true (values_of value propositions) clause.literals.items ≡ true) clauses (λ clause inside mark.
        let w = AllZip-left (IsClauseOfLine propositions) clauses (all_lines are.width 0 rules are.codes) are.lines clause inside in
        let at = line_from are.width 0 rules are.codes w.0 w.1 in
        let same : 0 + at.index ≡ at.index = omega arith in
        let Has : ℕ → Type 0 = λ p. Contains (rule_lines are.width p at.code at.rule) w.0 in
        let line : Has at.index = subst Has same at.inside in
        let is_rule : clause.rule ≡ at.index = w.2.rule ∙ rule_of_line are.width at.index at.code at.rule w.0 line in
        let Marked : ℕ → Type 0 = λ p. slice_index_or marks p false ≡ true in
        clause_as_atoms value propositions clause.literals.items w.0.atoms w.2.literals ∙
        some_true_unless value w.0.atoms (line_true at.index at.code (subst Marked is_rule mark) at.rule at.at at.coded w.0 line)),
  )
