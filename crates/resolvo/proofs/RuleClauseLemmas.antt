-- The clauses of rules, added one after another.
use Rattle.std.proofs.Common.{◌≡◌, Bool, ℕ, ◌+◌, ◌<◌, ◌≤◌, suc, List, [], ◌∷◌, ◌++◌, length, get_or, take, refl, sym, ap, ◌∙◌, subst, arith, Vec, Global}
use Rattle.std.proofs.Common.{append_assoc, append-nil, map, true, false, ◌^◌, ⊎_elim}
use Rattle.std.specs.List.{AllZip}
use Rattle.std.proofs.lemmas.Bool.{cases_lt}
use Rattle.std.proofs.lemmas.List.{length-take-le, take_more, map-append}
use Rattle.resolver_clause_store.specs.Variables.{Keeps}
use Rattle.resolver_clause_store.specs.Literals.{Literal}
use Rattle.resolver_clause_store.specs.declared.Rule.{Rule}
use Rattle.resolver_clause_store.specs.declared.Rule.TheVariants.{Requires, Constrains, Lock, Excluded, OnePerPackage}
use Rattle.resolver_clause_store.proofs.PlaceLemmas.{Keeps-same, Keeps-trans}
use Rattle.resolvo.specs.AddedLines.{AppendsLines}
use Rattle.resolver_encoding.specs.Codes.{bit}
use Rattle.resolvo.specs.RuleClauses.{HasCode, IsClauseOfLine, IsLiteralOf, Line, all_lines, bit_lines, condition_lines, line_atom, list_atoms, rule_lines}
use Rattle.resolvo.specs.RuleClauses.{member_lines}
use Rattle.resolvo.specs.RuleClauses.{plain}
use Rattle.resolvo.specs.declared.minimal.rule_clauses.Atom.{Atom}
use Rattle.resolvo.specs.declared.minimal.rule_clauses.Proposition.{Proposition}
use Rattle.resolvo.specs.declared.minimal.rule_clauses.Proposition.TheVariants.{Bit, Listed, Member}
use Rattle.resolver_clause_store.proofs.ListLemmas.{AllZip-append as zip_append}
use Rattle.resolvo.specs.declared.minimal.rule_clauses.RuleClause.{RuleClause}

-- a relation between two lists implies a weaker one
zip_weaker : {A B : Type 0} (R Q : A → B → Type 0) → ((x : A) (y : B) → R x y → Q x y) → (xs : List A) (ys : List B) → AllZip R xs ys → AllZip Q xs ys
zip_weaker R Q weaker [] [] h = tt
zip_weaker R Q weaker [] (y ∷ ys) h = h
zip_weaker R Q weaker (x ∷ xs) [] h = h
zip_weaker R Q weaker (x ∷ xs) (y ∷ ys) h = (weaker x y h.0, zip_weaker R Q weaker xs ys h.1)

-- a number is at most two to the power of its digit count
pub fits_width : (n width : ℕ) → ((i : ℕ) → 2 ^ i ≤ n → i < width) → n ≤ 2 ^ width
fits_width n width every = ⊎_elim
    (λ (less : n < 2 ^ width). omega (arith, less))
    (λ (more : 2 ^ width ≤ n). absurd (omega (arith, every width more)))
    (cases_lt n (2 ^ width))

HasCode-keeps : {N S : Type 0} (old new : List S) → Keeps old new → (rule : Rule N S) (code : ℕ) → HasCode old rule code → HasCode new rule code
HasCode-keeps old new keeps (OnePerPackage name instance) code h = keeps.kept code instance h
HasCode-keeps old new keeps (Requires by requirement candidates when) code h = tt
HasCode-keeps old new keeps (Constrains by version_set candidate) code h = tt
HasCode-keeps old new keeps (Lock locked forbidden) code h = tt
HasCode-keeps old new keeps (Excluded solvable reason) code h = tt

-- the code of one more rule
pub codes_next : {N S : Type 0} (old new : List S) (rules : List (Rule N S)) (codes : List ℕ) (i : ℕ) (rule : Rule N S) (code : ℕ) →
    AllZip (HasCode old) (take i rules) codes → Keeps old new → i < length rules → rule ≡ get_or rules i rule → HasCode new rule code →
    AllZip (HasCode new) (take (i + 1) rules) (codes ++ code ∷ [])
codes_next {N} {S} old new rules codes i rule code before keeps below is has =
    let Zip : List (Rule N S) → Type 0 = λ rs. AllZip (HasCode new) rs (codes ++ code ∷ []) in
    let taken : take (i + 1) rules ≡ take i rules ++ rule ∷ [] = take_more rules i rule below ∙ ap (λ r. take i rules ++ r ∷ []) (sym is) in
    subst Zip (sym taken) (zip_append (HasCode new) (take i rules) (rule ∷ []) codes (code ∷ [])
    (zip_weaker (HasCode old) (HasCode new) (HasCode-keeps old new keeps) (take i rules) codes before) (has, tt))

IsLiteralOf-keeps : {N S : Type 0} (old new : List (Proposition N S)) → Keeps old new → (l : Literal) (a : Atom N S) → IsLiteralOf old l a → IsLiteralOf new l a
IsLiteralOf-keeps old new keeps l a is = record { stands = keeps.kept _ _ is.stands; sign = is.sign }

-- the literal of one more atom
pub literals_next : {N S : Type 0} (old new : List (Proposition N S)) (atoms : List (Atom N S)) (literals : List Literal) (i : ℕ) (a : Atom N S) (l : Literal) →
    AllZip (IsLiteralOf old) literals (take i atoms) → Keeps old new → i < length atoms → a ≡ get_or atoms i a → IsLiteralOf new l a →
    AllZip (IsLiteralOf new) (literals ++ l ∷ []) (take (i + 1) atoms)
literals_next {N} {S} old new atoms literals i a l before keeps below is has =
    let Zip : List (Atom N S) → Type 0 = λ as'. AllZip (IsLiteralOf new) (literals ++ l ∷ []) as' in
    let taken : take (i + 1) atoms ≡ take i atoms ++ a ∷ [] = take_more atoms i a below ∙ ap (λ r. take i atoms ++ r ∷ []) (sym is) in
    subst Zip (sym taken) (zip_append (IsLiteralOf new) literals (l ∷ []) (take i atoms) (a ∷ [])
    (zip_weaker (IsLiteralOf old) (IsLiteralOf new) (IsLiteralOf-keeps old new keeps) literals (take i atoms) before) (has, tt))

IsClauseOfLine-keeps : {N S : Type 0} (old new : List (Proposition N S)) → Keeps old new → (c : RuleClause) (l : Line N S) → IsClauseOfLine old c l →
    IsClauseOfLine new c l
IsClauseOfLine-keeps old new keeps c l is = record {
  rule = is.rule;
  literals = zip_weaker (IsLiteralOf old) (IsLiteralOf new) (IsLiteralOf-keeps old new keeps) c.literals.items l.atoms is.literals;
  is_requirement = is.is_requirement;
}

pub AppendsLines-none : {N S : Type 0} (propositions : List (Proposition N S)) (clauses : List RuleClause) →
    AppendsLines propositions propositions clauses clauses []
AppendsLines-none propositions clauses = record { keeps = Keeps-same propositions; added = []; is = sym (append-nil clauses); are = tt }

pub AppendsLines-trans : {N S : Type 0} (old mid new : List (Proposition N S)) (one two three : List RuleClause) (ls ms : List (Line N S)) →
    AppendsLines old mid one two ls → AppendsLines mid new two three ms → AppendsLines old new one three (ls ++ ms)
AppendsLines-trans {N} {S} old mid new one two three ls ms first second = record {
  keeps = Keeps-trans old mid new first.keeps second.keeps;
  added = first.added ++ second.added;
  is = second.is ∙ ap (λ cs. cs ++ second.added) first.is ∙ append_assoc one first.added second.added;
  are = zip_append (IsClauseOfLine new) first.added second.added ls ms
      (zip_weaker (IsClauseOfLine mid) (IsClauseOfLine new) (IsClauseOfLine-keeps mid new second.keeps) first.added ls first.are) second.are;
}

-- the clauses of one more element
AppendsLines-next : {N S X : Type 0} (f : X → Line N S) (old mid new : List (Proposition N S)) (one two three : List RuleClause) (xs : List X) (i : ℕ) (x : X)
    (l : Line N S) →
    AppendsLines old mid one two (map f (take i xs)) → i < length xs → x ≡ get_or xs i x → l ≡ f x → AppendsLines mid new two three (l ∷ []) →
    AppendsLines old new one three (map f (take (i + 1) xs))
AppendsLines-next {N} {S} {X} f old mid new one two three xs i x l before below is same more =
    let P : List (Line N S) → Type 0 = λ ls. AppendsLines old new one three ls in
    let taken : map f (take (i + 1) xs) ≡ map f (take i xs) ++ l ∷ [] = ap (map f) (take_more xs i x below) ∙ map-append f (take i xs) (get_or xs i x ∷ []) ∙
    ap (λ y. map f (take i xs) ++ y ∷ []) (sym (same ∙ ap f is)) in
    subst P (sym taken) (AppendsLines-trans old mid new one two three (map f (take i xs)) (l ∷ []) before more)

-- the clauses of one more member
pub members_next : {N S : Type 0} (old mid new : List (Proposition N S)) (one two three : List RuleClause) (rule list : ℕ) (xs : List S) (i : ℕ) (x : S) →
    AppendsLines old mid one two (member_lines rule list (take i xs)) → i < length xs → x ≡ get_or xs i x →
    AppendsLines mid new two three (plain rule (line_atom (Member x) false ∷ line_atom (Listed rule list) true ∷ []) ∷ []) →
    AppendsLines old new one three (member_lines rule list (take (i + 1) xs))
members_next old mid new one two three rule list xs i x before below is more =
    AppendsLines-next (λ s. plain rule (line_atom (Member s) false ∷ line_atom (Listed rule list) true ∷ [])) old mid new one two three xs i x
    (plain rule (line_atom (Member x) false ∷ line_atom (Listed rule list) true ∷ [])) before below is refl more

condition_lines-append : {N S : Type 0} (rule list : ℕ) (xs ys : List (Vec S Global)) →
    condition_lines {N = N} rule list (xs ++ ys) ≡ condition_lines rule list xs ++ condition_lines rule (list + length xs) ys
condition_lines-append {N} {S} rule list [] ys = ap (λ n. condition_lines {N = N} rule n ys) (omega arith)
condition_lines-append {N} {S} rule list (x ∷ xs) ys =
    ap (λ ls. member_lines {N = N} rule list x.items ++ ls)
    (condition_lines-append {N = N} rule (suc list) xs ys ∙
    ap (λ n. condition_lines {N = N} rule (suc list) xs ++ condition_lines {N = N} rule n ys) (omega arith))
    ∙ sym (append_assoc (member_lines {N = N} rule list x.items) (condition_lines {N = N} rule (suc list) xs)
    (condition_lines {N = N} rule (list + length (x ∷ xs)) ys))

-- the clauses of one more list
pub condition_next : {N S : Type 0} (old mid new : List (Proposition N S)) (one two three : List RuleClause) (rule : ℕ) (xs : List (Vec S Global)) (i : ℕ)
    (x : Vec S Global) →
    AppendsLines old mid one two (condition_lines rule 0 (take i xs)) → i < length xs → x ≡ get_or xs i x →
    AppendsLines mid new two three (member_lines rule i x.items) →
    AppendsLines old new one three (condition_lines rule 0 (take (i + 1) xs))
condition_next {N} {S} old mid new one two three rule xs i x before below is more =
    let P : List (Line N S) → Type 0 = λ ls. AppendsLines old new one three ls in
    let one_more : take (i + 1) xs ≡ take i xs ++ x ∷ [] = take_more xs i x below ∙ ap (λ r. take i xs ++ r ∷ []) (sym is) in
    let size : length (take i xs) ≡ i = length-take-le i xs (omega (arith, below)) in
    let taken : condition_lines {N = N} rule 0 (take (i + 1) xs) ≡ condition_lines rule 0 (take i xs) ++ member_lines rule i x.items =
    ap (λ ls. condition_lines {N = N} rule 0 ls) one_more ∙ condition_lines-append rule 0 (take i xs) (x ∷ []) ∙
    ap (λ n. condition_lines {N = N} rule 0 (take i xs) ++ condition_lines {N = N} rule n (x ∷ [])) (omega (arith, size)) ∙
    ap (λ ls. condition_lines {N = N} rule 0 (take i xs) ++ ls) (append-nil (member_lines {N = N} rule i x.items)) in
    subst P (sym taken) (AppendsLines-trans old mid new one two three (condition_lines rule 0 (take i xs)) (member_lines rule i x.items) before more)

all_lines-append : {N S : Type 0} (width place : ℕ) (rules more : List (Rule N S)) (codes others : List ℕ) → length rules ≡ length codes →
    all_lines width place (rules ++ more) (codes ++ others) ≡ all_lines width place rules codes ++ all_lines width (place + length rules) more others
all_lines-append width place [] more [] others same = ap (λ n. all_lines width n more others) (omega arith)
all_lines-append width place [] more (code ∷ codes) others same = absurd (omega (arith, same))
all_lines-append width place (rule ∷ rules) more [] others same = absurd (omega (arith, same))
all_lines-append width place (rule ∷ rules) more (code ∷ codes) others same =
    ap (λ ls. rule_lines width place code rule ++ ls)
    (all_lines-append width (suc place) rules more codes others (omega (arith, same)) ∙
    ap (λ n. all_lines width (suc place) rules codes ++ all_lines width n more others) (omega arith))
    ∙ sym (append_assoc (rule_lines width place code rule) (all_lines width (suc place) rules codes)
    (all_lines width (place + length (rule ∷ rules)) more others))

-- the clauses of one more rule
pub rules_next : {N S : Type 0} (old mid new : List (Proposition N S)) (one two three : List RuleClause) (width : ℕ) (rules : List (Rule N S)) (codes : List ℕ)
    (i : ℕ) (rule : Rule N S) (d : ℕ) →
    length rules ≡ length codes → AppendsLines old mid one two (all_lines width 0 (take i rules) (take i codes)) → i < length rules →
    rule ≡ get_or rules i rule →
    AppendsLines mid new two three (rule_lines width i (get_or codes i d) rule) →
    AppendsLines old new one three (all_lines width 0 (take (i + 1) rules) (take (i + 1) codes))
rules_next {N} {S} old mid new one two three width rules codes i rule d same before below is more =
    let P : List (Line N S) → Type 0 = λ ls. AppendsLines old new one three ls in
    let code : ℕ = get_or codes i d in
    let rule_more : take (i + 1) rules ≡ take i rules ++ rule ∷ [] = take_more rules i rule below ∙ ap (λ r. take i rules ++ r ∷ []) (sym is) in
    let code_more : take (i + 1) codes ≡ take i codes ++ code ∷ [] = take_more codes i d (omega (arith, same, below)) in
    let size : length (take i rules) ≡ i = length-take-le i rules (omega (arith, below)) in
    let size_codes : length (take i codes) ≡ i = length-take-le i codes (omega (arith, same, below)) in
    let taken : all_lines width 0 (take (i + 1) rules) (take (i + 1) codes) ≡ all_lines width 0 (take i rules) (take i codes) ++ rule_lines width i code rule =
    ap (λ rs. all_lines width 0 rs (take (i + 1) codes)) rule_more ∙ ap (λ cs. all_lines width 0 (take i rules ++ rule ∷ []) cs) code_more ∙
    all_lines-append width 0 (take i rules) (rule ∷ []) (take i codes) (code ∷ []) (size ∙ sym size_codes)
    ∙ ap (λ n. all_lines width 0 (take i rules) (take i codes) ++ all_lines width n (rule ∷ []) (code ∷ [])) (omega (arith, size)) ∙
    ap (λ ls. all_lines width 0 (take i rules) (take i codes) ++ ls) (append-nil (rule_lines width i code rule)) in
    subst P (sym taken) (AppendsLines-trans old mid new one two three (all_lines width 0 (take i rules) (take i codes))
    (rule_lines width i code rule) before more)

-- the clause of one more bit
pub bits_next : {N S : Type 0} (old mid new : List (Proposition N S)) (one two three : List RuleClause) (rule : ℕ) (name : N) (instance : S) (code i : ℕ)
    (digit : Bool) →
    AppendsLines old mid one two (bit_lines rule name instance code i) → digit ≡ bit code i →
    AppendsLines mid new two three (plain rule (line_atom (Member instance) false ∷ line_atom (Bit name i) digit ∷ []) ∷ []) →
    AppendsLines old new one three (bit_lines rule name instance code (i + 1))
bits_next {N} {S} old mid new one two three rule name instance code i digit before is more =
    let P : Bool → Type 0 = λ b. AppendsLines mid new two three (plain rule (line_atom (Member instance) false ∷ line_atom (Bit name i) b ∷ []) ∷ []) in
    let Q : ℕ → Type 0 = λ n. AppendsLines old new one three (bit_lines rule name instance code n) in
    let next : suc i ≡ i + 1 = omega arith in
    subst Q next (AppendsLines-trans old mid new one two three (bit_lines rule name instance code i)
    (plain rule (line_atom (Member instance) false ∷ line_atom (Bit name i) (bit code i) ∷ []) ∷ []) before (subst P is more))

-- the atom of one more list
pub lists_next : {N S : Type 0} (start now next : List (Atom N S)) (rule i : ℕ) → now ≡ start ++ list_atoms rule i →
    next ≡ now ++ line_atom (Listed rule i) false ∷
    [] → next ≡ start ++ list_atoms rule (i + 1)
lists_next {N} {S} start now next rule i before is =
    let last : List (Atom N S) = line_atom (Listed rule i) false ∷ [] in
    let more : suc i ≡ i + 1 = omega arith in
    is ∙ ap (λ as'. as' ++ last) before ∙ append_assoc start (list_atoms rule i) last ∙ ap (λ n. start ++ list_atoms rule n) more

-- an empty list of clauses to which these were added
pub AppendsLines-zip : {N S : Type 0} (old new : List (Proposition N S)) (before after : List RuleClause) (lines : List (Line N S)) → before ≡ [] →
    AppendsLines old new before after lines → AllZip (IsClauseOfLine new) after lines
AppendsLines-zip {N} {S} old new before after lines none adds =
    let Zip : List RuleClause → Type 0 = λ cs. AllZip (IsClauseOfLine new) cs lines in
    subst Zip (sym (adds.is ∙ ap (λ cs. cs ++ adds.added) none)) adds.are
