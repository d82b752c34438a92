-- Members of lists, marks, and the lines of rules.
use Rattle.std.proofs.Common.{◌≡◌, ℕ, zero, suc, ◌+◌, ◌<◌, ◌≤◌, ◌⊎◌, inl, inr, List, [], ◌∷◌, ◌++◌, length, get_or, Bool, true, false, cond, arith, refl, sym}
use Rattle.std.proofs.Common.{ap, ◌∙◌, subst, ⊎_elim, Contains, All, Vec, Global}
use Rattle.std.specs.Prelude.{Some, slice_get, slice_index_or}
use Rattle.std.specs.List.{AllZip}
use Rattle.std.proofs.lemmas.Bool.{cases_lt, false≢true}
use Rattle.std.proofs.lemmas.Option.{none-some, same_Some}
use Rattle.std.proofs.lemmas.List.Elements.{Contains-append_left, Contains-append_right, Contains-append_cases, Contains-get_or, Contains-push}
use Rattle.std.proofs.lemmas.List.Elements.{Contains-push_cases}
use Rattle.resolver_clause_store.specs.declared.Rule.{Rule}
use Rattle.resolver_clause_store.specs.declared.Rule.TheVariants.{Requires, Constrains, Lock, Excluded, OnePerPackage}
use Rattle.resolver_encoding.specs.Codes.{bit}
use Rattle.resolvo.specs.Minimal.{only_marked}
use Rattle.resolvo.specs.RuleClauses.{Line, line_atom, plain, requirement_line, requirer_atoms, list_atoms, candidate_atoms, member_lines, condition_lines}
use Rattle.resolvo.specs.RuleClauses.{bit_lines, rule_lines, all_lines}
use Rattle.resolver_clause_store.proofs.ListLemmas.{Contains-cons_cases as cons_cases, Contains-here as here, Contains-map, Contains-map_back}
use Rattle.resolver_clause_store.proofs.ListLemmas.{Contains-none as none_in, Contains-there as there}
use Rattle.resolvo.specs.declared.minimal.rule_clauses.Proposition.TheVariants.{Member, Listed, Bit}

pub All-each : {X : Type 0} (P : X → Type 0) (xs : List X) → ((x : X) → Contains xs x → P x) → All P xs
All-each P xs h = λ k d below. h (get_or xs k d) (Contains-get_or xs k d below)

pub some_at : {X : Type 0} (xs : List X) (k : ℕ) → k < length xs → (x : X) × (slice_get xs k ≡ Some x)
some_at [] k below = absurd (omega (arith, below))
some_at (x ∷ xs) zero below = (x, refl)
some_at (x ∷ xs) (suc k) below = some_at xs k (omega (arith, below))

-- an element that is in the list if a test passes
pub kept_here : {X : Type 0} (b : Bool) (x : X) (xs : List X) → b ≡ true → Contains (cond b (x ∷ xs) xs) x
kept_here true x xs e = here x xs
kept_here false x xs e = absurd (false≢true e)

pub kept_there : {X : Type 0} (b : Bool) (y : X) (xs : List X) (x : X) → Contains xs x → Contains (cond b (y ∷ xs) xs) x
kept_there true y xs x h = there y xs x h
kept_there false y xs x h = h

pub kept_cases : {X : Type 0} (b : Bool) (y : X) (xs : List X) (x : X) → Contains (cond b (y ∷ xs) xs) x → ((b ≡ true) × (y ≡ x)) ⊎ Contains xs x
kept_cases true y xs x h = ⊎_elim (λ (same : y ≡ x). inl (refl, same)) (λ (later : Contains xs x). inr later) (cons_cases y xs x h)
kept_cases false y xs x h = inr h

-- an element with a mark
pub record StandsMarked {X : Type 0} (marks : List Bool) (xs : List X) (x : X) : Type 0 where
  pub place : ℕ
  pub mark : slice_index_or marks place false ≡ true
  pub at : slice_get xs place ≡ Some x

pub marked_in : {X : Type 0} (marks : List Bool) (xs : List X) (k : ℕ) (x : X) → slice_index_or marks k false ≡ true → slice_get xs k ≡ Some x →
    Contains (only_marked marks xs) x
marked_in [] xs k x mark at = absurd (false≢true mark)
marked_in (b ∷ marks) [] k x mark at = absurd (none-some x at)
marked_in (b ∷ marks) (y ∷ xs) zero x mark at = subst (Contains (only_marked (b ∷ marks) (y ∷ xs))) (same_Some y x at)
    (kept_here b y (only_marked marks xs) mark)
marked_in (b ∷ marks) (y ∷ xs) (suc k) x mark at = kept_there b y (only_marked marks xs) x (marked_in marks xs k x mark at)

pub in_marked : {X : Type 0} (marks : List Bool) (xs : List X) (x : X) → Contains (only_marked marks xs) x → StandsMarked marks xs x
in_marked [] xs x h = absurd (none_in x h)
in_marked (b ∷ marks) [] x h = absurd (none_in x h)
in_marked (b ∷ marks) (y ∷ xs) x h = ⊎_elim
    (λ (first : (b ≡ true) × (y ≡ x)). record { place = zero; mark = first.0; at = ap Some first.1 })
    (λ (later : Contains (only_marked marks xs) x). let w = in_marked marks xs x later in record { place = suc w.place; mark = w.mark; at = w.at })
    (kept_cases b y (only_marked marks xs) x h)

pub zip_at : {A B : Type 0} (R : A → B → Type 0) (xs : List A) (ys : List B) → AllZip R xs ys → (k : ℕ) (x : A) → slice_get xs k ≡ Some x → (y : B) ×
    (slice_get ys k ≡ Some y) × R x y
zip_at R [] ys h k x at = absurd (none-some x at)
zip_at R (x ∷ xs) [] h k z at = absurd h
zip_at {A} {B} R (x ∷ xs) (y ∷ ys) (first, rest) zero z at = let At : A → Type 0 = λ q. R q y in (y, refl, subst At (same_Some x z at) first)
zip_at R (x ∷ xs) (y ∷ ys) (first, rest) (suc k) z at = zip_at R xs ys rest k z at

pub zip_both : {A B : Type 0} (R : A → B → Type 0) (xs : List A) (ys : List B) → AllZip R xs ys → (k : ℕ) (x : A) (y : B) → slice_get xs k ≡ Some x →
    slice_get ys k ≡ Some y → R x y
zip_both R xs ys h k x y at to = let w = zip_at R xs ys h k x at in subst (R x) (same_Some w.0 y (sym w.1 ∙ to)) w.2

-- the line of a bit, and of a member of a list
abbrev pub bit_line : {N S : Type 0} → ℕ → N → S → ℕ → ℕ → Line N S
bit_line rule name instance code i = plain rule (line_atom (Member instance) false ∷ line_atom (Bit name i) (bit code i) ∷ [])

abbrev pub member_line : {N S : Type 0} → ℕ → ℕ → S → Line N S
member_line rule list s = plain rule (line_atom (Member s) false ∷ line_atom (Listed rule list) true ∷ [])

pub bit_line_in : {N S : Type 0} (rule : ℕ) (name : N) (instance : S) (code n i : ℕ) → i < n →
    Contains (bit_lines rule name instance code n) (bit_line rule name instance code i)
bit_line_in rule name instance code zero i below = absurd (omega (arith, below))
bit_line_in {N} {S} rule name instance code (suc n) i below = ⊎_elim
    (λ (less : i < n). Contains-append_left (bit_lines rule name instance code n) (bit_line rule name instance code n ∷ []) (bit_line rule name instance code i)
    (bit_line_in rule name instance code n i less))
    (λ (not_less : n ≤ i).
    let last : n ≡ i = omega (arith, below, not_less) in
    let Has : ℕ → Type 0 = λ j. Contains (bit_lines rule name instance code (suc n)) (bit_line rule name instance code j) in
    subst Has last (Contains-push (bit_lines rule name instance code n) (bit_line rule name instance code n)))
    (cases_lt i n)

pub bit_line_from : {N S : Type 0} (rule : ℕ) (name : N) (instance : S) (code n : ℕ) (line : Line N S) → Contains (bit_lines rule name instance code n) line →
    (i : ℕ) × (i < n) × (bit_line rule name instance code i ≡ line)
bit_line_from rule name instance code zero line h = absurd (none_in line h)
bit_line_from {N} {S} rule name instance code (suc n) line h = ⊎_elim
    (λ (before : Contains (bit_lines rule name instance code n) line).
    let w = bit_line_from rule name instance code n line before in (w.0, omega (arith, w.1), w.2))
    (λ (last : bit_line rule name instance code n ≡ line). (n, omega arith, last))
    (Contains-push_cases (bit_lines rule name instance code n) (bit_line rule name instance code n) line h)

-- the line of a member of a list at a place
pub record IsMemberLine {N S : Type 0} (rule from : ℕ) (lists : List (Vec S Global)) (line : Line N S) : Type 0 where
  pub index : ℕ
  pub members : Vec S Global
  pub at : slice_get lists index ≡ Some members
  pub member : S
  pub inside : Contains members.items member
  pub is : member_line rule (from + index) member ≡ line

pub member_line_in : {N S : Type 0} (rule from : ℕ) (lists : List (Vec S Global)) (k list : ℕ) (members : Vec S Global) (s : S) → list ≡ from + k →
    slice_get lists k ≡ Some members → Contains members.items s → Contains (condition_lines {N = N} rule from lists) (member_line rule list s)
member_line_in rule from [] k list members s is at inside = absurd (none-some members at)
member_line_in {N} {S} rule from (first ∷ lists) zero list members s is at inside =
    let same : list ≡ from = omega (arith, is) in
    let Has : Vec S Global → Type 0 = λ (v : Vec S Global). Contains v.items s in
    let Here : ℕ → Type 0 = λ l. Contains (condition_lines {N = N} rule from (first ∷ lists)) (member_line rule l s) in
    subst Here (sym same)
    (Contains-append_left (member_lines {N = N} rule from first.items) (condition_lines rule (suc from) lists) (member_line rule from s)
    (Contains-map (λ t. member_line rule from t) first.items s (subst Has (sym (same_Some first members at)) inside)))
member_line_in {N} {S} rule from (first ∷ lists) (suc k) list members s is at inside =
    Contains-append_right (member_lines {N = N} rule from first.items) (condition_lines rule (suc from) lists) (member_line rule list s)
    (member_line_in rule (suc from) lists k list members s (omega (arith, is)) at inside)

pub member_line_from : {N S : Type 0} (rule from : ℕ) (lists : List (Vec S Global)) (line : Line N S) → Contains (condition_lines rule from lists) line →
    IsMemberLine rule from lists line
member_line_from rule from [] line h = absurd (none_in line h)
member_line_from {N} {S} rule from (first ∷ lists) line h =
    let Is : ℕ → S → Type 0 = λ l s. member_line rule l s ≡ line in
    ⊎_elim
    (λ (now : Contains (member_lines rule from first.items) line).
    let w = Contains-map_back (λ t. member_line rule from t) first.items line now in
    let same : from ≡ from + zero = omega arith in
    record { index = zero; members = first; at = refl; member = w.0; inside = w.1; is = subst (λ l. Is l w.0) same w.2 })
    (λ (later : Contains (condition_lines rule (suc from) lists) line).
    let w = member_line_from rule (suc from) lists line later in
    let same : suc from + w.index ≡ from + suc w.index = omega arith in
    record { index = suc w.index; members = w.members; at = w.at; member = w.member; inside = w.inside; is = subst (λ l. Is l w.member) same w.is })
    (Contains-append_cases (member_lines rule from first.items) (condition_lines rule (suc from) lists) line h)

-- the line belongs to one of the rules, with the code of that rule
pub record IsLineAt {N S : Type 0} (width from : ℕ) (rules : List (Rule N S)) (codes : List ℕ) (line : Line N S) : Type 0 where
  pub index : ℕ
  pub rule : Rule N S
  pub code : ℕ
  pub at : slice_get rules index ≡ Some rule
  pub coded : slice_get codes index ≡ Some code
  pub inside : Contains (rule_lines width (from + index) code rule) line

pub line_in : {N S : Type 0} (width from : ℕ) (rules : List (Rule N S)) (codes : List ℕ) (k place : ℕ) (rule : Rule N S) (code : ℕ) → place ≡ from + k →
    slice_get rules k ≡ Some rule → slice_get codes k ≡ Some code → (line : Line N S) → Contains (rule_lines width place code rule) line →
    Contains (all_lines width from rules codes) line
line_in width from [] codes k place rule code is at coded line h = absurd (none-some rule at)
line_in width from (r ∷ rules) [] k place rule code is at coded line h = absurd (none-some code coded)
line_in {N} {S} width from (r ∷ rules) (c ∷ codes) zero place rule code is at coded line h =
    let same : place ≡ from = omega (arith, is) in
    let Has : ℕ → ℕ → Rule N S → Type 0 = λ p d q. Contains (rule_lines width p d q) line in
    let with_place : Has from code rule = subst (λ p. Has p code rule) same h in
    let with_code : Has from c rule = subst (λ d. Has from d rule) (sym (same_Some c code coded)) with_place in
    Contains-append_left (rule_lines width from c r) (all_lines width (suc from) rules codes) line (subst (Has from c) (sym (same_Some r rule at)) with_code)
line_in width from (r ∷ rules) (c ∷ codes) (suc k) place rule code is at coded line h =
    Contains-append_right (rule_lines width from c r) (all_lines width (suc from) rules codes) line
    (line_in width (suc from) rules codes k place rule code (omega (arith, is)) at coded line h)

pub line_from : {N S : Type 0} (width from : ℕ) (rules : List (Rule N S)) (codes : List ℕ) (line : Line N S) →
    Contains (all_lines width from rules codes) line → IsLineAt width from rules codes line
line_from width from [] codes line h = absurd (none_in line h)
line_from width from (r ∷ rules) [] line h = absurd (none_in line h)
line_from {N} {S} width from (r ∷ rules) (c ∷ codes) line h =
    let Has : ℕ → ℕ → Rule N S → Type 0 = λ p d q. Contains (rule_lines width p d q) line in
    ⊎_elim
    (λ (now : Contains (rule_lines width from c r) line).
    let same : from ≡ from + zero = omega arith in
    record { index = zero; rule = r; code = c; at = refl; coded = refl; inside = subst (λ p. Has p c r) same now })
    (λ (later : Contains (all_lines width (suc from) rules codes) line).
    let w = line_from width (suc from) rules codes line later in
    let same : suc from + w.index ≡ from + suc w.index = omega arith in
    record { index = suc w.index; rule = w.rule; code = w.code; at = w.at; coded = w.coded; inside = subst (λ p. Has p w.code w.rule) same w.inside })
    (Contains-append_cases (rule_lines width from c r) (all_lines width (suc from) rules codes) line h)

-- the line belongs to the rule at the place
only_one : {N S : Type 0} (place : ℕ) (only line : Line N S) → only.rule ≡ place → Contains (only ∷ []) line → line.rule ≡ place
only_one {N} {S} place only line is h = ⊎_elim
    (λ (same : only ≡ line). let Of : Line N S → ℕ = λ (l : Line N S). l.rule in sym (ap Of same) ∙ is)
    (λ (none : Contains [] line). absurd (none_in line none))
    (cons_cases only [] line h)

pub rule_of_line : {N S : Type 0} (width place code : ℕ) (rule : Rule N S) (line : Line N S) → Contains (rule_lines width place code rule) line →
    line.rule ≡ place
rule_of_line {N} {S} width place code (Requires by requirement candidates when) line h =
    let Of : Line N S → ℕ = λ (l : Line N S). l.rule in
    let first : Line N S = requirement_line place (requirer_atoms by ++ (list_atoms place (length when.items) ++ candidate_atoms candidates.items)) in
    ⊎_elim
    (λ (same : first ≡ line). sym (ap Of same))
    (λ (later : Contains (condition_lines place 0 when.items) line). sym (ap Of (member_line_from place 0 when.items line later).is))
    (cons_cases first (condition_lines place 0 when.items) line h)
rule_of_line width place code (Constrains by version_set candidate) line h =
    only_one place (plain place (requirer_atoms by ++ line_atom (Member candidate) false ∷ [])) line refl h
rule_of_line width place code (Lock locked forbidden) line h = only_one place (plain place (line_atom (Member forbidden) false ∷ [])) line refl h
rule_of_line width place code (Excluded solvable reason) line h = only_one place (plain place (line_atom (Member solvable) false ∷ [])) line refl h
rule_of_line {N} {S} width place code (OnePerPackage name instance) line h = let Of : Line N S → ℕ = λ (l : Line N S). l.rule in
    sym (ap Of (bit_line_from place name instance code width line h).2)
