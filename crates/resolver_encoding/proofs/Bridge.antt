-- A finished search over variables is a finished trail of the atoms that they stand for.
use Rattle.std.proofs.Common.{◌≡◌, ◌≢◌, ℕ, zero, suc, ◌<◌, ◌≤◌, ◌⊎◌, List, [], ◌∷◌, ◌++◌, length, get_or, Option, Some, None, Bool, true, false, arith, inl}
use Rattle.std.proofs.Common.{inr, refl, sym, ap, ◌∙◌, subst, ⊎_elim, Contains, All}
use Rattle.std.specs.Prelude.{not, map, slice_get, Any}
use Rattle.std.specs.List.{AllZip}
use Rattle.std.specs.Option.{option_map, option_map_or}
use Rattle.std.specs.Bool.{beq}
use Rattle.std.proofs.lemmas.Bool.{cases_Bool, cases_lt, false≢true}
use Rattle.std.proofs.lemmas.Option.{same_Some, slice_get-get_or}
use Rattle.std.proofs.lemmas.List.Elements.{All-contains, Contains-get_or, Contains-append_cases, Contains-append_left, Contains-append_right}
use Rattle.resolver_clause_store.specs.Candidates.{others, requirement_candidates}
use Rattle.resolver_clause_store.specs.Formula.{clause_at}
use Rattle.resolver_clause_store.specs.Laws.{HasLawfulPackages}
use Rattle.resolver_clause_store.specs.Lists.{HasNoRepeats}
use Rattle.resolver_clause_store.specs.Outcomes.{IsFalseBefore, IsImplied, IsChosen, IsForced, IsMet, IsFinished}
use Rattle.resolver_clause_store.specs.TrailView.{slot_of, variable_at, variable_count, length_of, literal_value}
use Rattle.resolver_clause_store.specs.Universe.{Universe, Demands}
use Rattle.resolver_clause_store.specs.Variables.{AreDistinct}
use Rattle.resolver_clause_store.specs.declared.By.{By}
use Rattle.resolver_clause_store.specs.declared.ClauseKind.{ClauseKind}
use Rattle.resolver_clause_store.specs.declared.ClauseKind.TheVariants.{InstallRoot, Requires}
use Rattle.resolver_clause_store.specs.declared.Helper.TheVariants.{Condition}
use Rattle.resolver_clause_store.specs.declared.Origin.TheVariants.{Root, Solvable, Helper}
use Rattle.resolver_clause_store.specs.Literals.{Literal}
use Rattle.resolver_clause_store.specs.declared.Origin.{Origin}
use Rattle.resolver_clause_store.specs.declared.Requirement.{Requirement}
use Rattle.resolver_clause_store.specs.declared.RequirementClause.{RequirementClause}
use Rattle.resolver_clause_store.specs.declared.Reason.TheVariants.{Assumed}
use Rattle.resolver_clause_store.specs.declared.Slot.{Slot}
use Rattle.resolver_clause_store.specs.declared.Trail.{Trail}
use Rattle.resolver_clause_store.specs.declared.VersionSetId.{VersionSetId}
use Rattle.resolver_clause_store.proofs.SlotLemmas.{slot-within}
use Rattle.resolver_encoding.specs.Atoms.{Atom, Disjunct, atom, atoms_of, parent_of}
use Rattle.resolver_encoding.specs.Encodings.{IsEncoding, IsLeft, Notes}
use Rattle.resolver_encoding.specs.Read.{AreValuesSettled}
use Rattle.resolver_encoding.specs.ReadState.{AreSeeds}
use Rattle.resolver_encoding.specs.SoFar.{IsReadSoFar}
use Rattle.resolver_encoding.specs.Truth.{HasLawfulSolvables}
use Rattle.resolver_encoding.specs.TrailAtoms.{CoversReached, IsAnswerBy, IsChosenBy, Takes, IsEntailed, IsFirstOpen, IsBecause, needed}
use Rattle.resolver_encoding.specs.TrailAtoms.{seeded, left_out, forced, IsTrail, begun, went_on}
use Rattle.resolver_encoding.specs.Trails.{AreAssumed, solvable_if, solvables_before, origin_at, value_of, entry_at, atoms_before, atoms_by}
use Rattle.resolver_encoding.specs.Values.{IsAtom, requirement_numbers}
use Rattle.resolver_encoding.proofs.NumberLemmas.{IsRequirementAt, number_of_requirement, requirement_at}
use Rattle.std.proofs.lemmas.List.{get_or_default}
use Rattle.std.proofs.lemmas.List.Quantifiers.{all_pairs_push}
use Rattle.std.proofs.Common.{append-nil}
use Rattle.resolver_encoding.proofs.Reached.{finished_is_answer}
use Rattle.resolver_encoding.proofs.Reading.{covers_reached}
use Rattle.resolver_encoding.proofs.Spared.{Spares-further}
use Rattle.resolver_encoding.proofs.Extended.{values_by, values_by-origin, table_by_kinds}
use Rattle.resolver_clause_store.proofs.BoolLemmas.{beq-false, beq-true}
use Rattle.resolver_clause_store.proofs.KeptLemmas.{slot_at}
use Rattle.resolver_clause_store.proofs.ListLemmas.{Contains-cons_cases as cons_cases, Contains-here as here, Contains-map, Contains-map_back, Contains-at}
use Rattle.resolver_clause_store.proofs.ListLemmas.{Contains-none as none_in, Contains-there as there, list_any-contains, list_any-witness, AllZip-right}
use Rattle.resolver_clause_store.proofs.WatchListLemmas.{literal-same}
use Rattle.resolver_encoding.proofs.ReadLemmas.{so_far_read}

pub below_or : (n k : ℕ) → k ≤ n → (k < n) ⊎ (k ≡ n)
below_or n k h = ⊎_elim (λ (l : k < n). inl l) (λ (g : n ≤ k). inr (omega arith)) (cases_lt k n)

pub any-witness : {X : Type 0} (P : X → Type 0) (xs : List X) → Any P xs → (x : X) × Contains xs x × P x
any-witness P xs w = (w.1, (w.0, w.2, w.3), w.4)

literal_false : (o : Option Slot) (slot : Slot) (p q : Bool) → o ≡ Some slot → slot.value ≡ not p → q ≡ p →
    option_map (λ (s : Slot). beq s.value q) o ≡ Some false
literal_false o slot true q at v e = rw (at, v, e) refl
literal_false o slot false q at v e = rw (at, v, e) refl

literal_has : (o : Option Slot) (q b : Bool) → option_map (λ (s : Slot). beq s.value q) o ≡ Some b → (slot : Slot) × (o ≡ Some slot) × (beq slot.value q ≡ b)
literal_has None q b e = absurd cc
literal_has (Some slot) q b e = (slot, refl, same_Some _ _ e)

literal_open : (o : Option Slot) (slot : Slot) (q : Bool) → option_map (λ (s : Slot). beq s.value q) o ≡ None → o ≡ Some slot → ⊥
literal_open None slot q e at = absurd cc
literal_open (Some s) slot q e at = absurd cc

-- two lists that agree element by element, each split at an element
record Halves {A B : Type 0} (R : A → B → Type 0) (before : List A) (x : A) (ys : List B) : Type 0 where
  first : List B
  middle : B
  last : List B
  is : ys ≡ first ++ middle ∷ last
  front : AllZip R before first
  at : R x middle

halves : {A B : Type 0} (R : A → B → Type 0) (before : List A) (x : A) (after : List A) (ys : List B) → AllZip R (before ++ x ∷ after) ys → Halves R before x ys
halves R [] x after [] h = absurd h
halves R [] x after (y ∷ ys) h = record { first = []; middle = y; last = ys; is = refl; front = tt; at = h.0 }
halves R (b ∷ bs) x after [] h = absurd h
halves R (b ∷ bs) x after (y ∷ ys) h = let w = halves R bs x after ys h.1 in
    record { first = y ∷ w.first; middle = w.middle; last = w.last; is = ap (λ q. y ∷ q) w.is; front = (h.0, w.front); at = w.at }

-- a positive atom behind negative atoms and other positive atoms
record Cut {N S : Type 0} (vs : List VersionSetId) (candidates : List S) (first : List (Atom N S)) (middle : Atom N S) : Type 0 where
  s : S
  before : List S
  after : List S
  is : candidates ≡ before ++ s ∷ after
  first_is : first ≡ map (λ v. atom (Helper (Condition v)) false) vs ++ map (λ x. atom (Solvable x) true) before
  middle_is : middle ≡ atom (Solvable s) true

abbrev list_head : {X : Type 0} (x : X) → List X → X
list_head x [] = x
list_head x (y ∷ ys) = y

abbrev list_rest : {X : Type 0} → List X → List X
list_rest [] = []
list_rest (y ∷ ys) = ys

cut_candidates : {N S : Type 0} (candidates : List S) (first : List (Atom N S)) (middle : Atom N S) (last : List (Atom N S)) →
    map (λ x. atom (Solvable x) true) candidates ≡ first ++ middle ∷ last → Cut [] candidates first middle
cut_candidates [] [] middle last e = absurd cc
cut_candidates [] (a ∷ first) middle last e = absurd cc
cut_candidates {N} {S} (c ∷ cs) [] middle last e =
    record { s = c; before = []; after = cs; is = refl; first_is = refl; middle_is = sym (ap (list_head middle) e) }
cut_candidates {N} {S} (c ∷ cs) (a ∷ first) middle last e =
    let w = cut_candidates cs first middle last (ap list_rest e) in
    let head : atom (Solvable c) true ≡ a = ap (list_head a) e in
    record {
      s = w.s;
      before = c ∷ w.before;
      after = w.after;
      is = ap (λ q. c ∷ q) w.is;
      first_is = ap (λ q. q ∷ first) (sym head) ∙ ap (λ q. atom (Solvable c) true ∷ q) w.first_is;
      middle_is = w.middle_is;
    }

cut_helpers : {N S : Type 0} (vs : List VersionSetId) (candidates : List S) (first : List (Atom N S)) (middle : Atom N S) (last : List (Atom N S)) →
    middle.positive ≡ true →
    map (λ v. atom (Helper (Condition v)) false) vs ++ map (λ x. atom (Solvable x) true) candidates ≡ first ++ middle ∷ last → Cut vs candidates first middle
cut_helpers [] candidates first middle last positive e = cut_candidates candidates first middle last e
cut_helpers {N} {S} (v ∷ vs) candidates [] middle last positive e =
    let head : atom (Helper (Condition v)) false ≡ middle = ap (list_head middle) e in
    absurd (false≢true (ap (λ (a : Atom N S). a.positive) head ∙ positive))
cut_helpers {N} {S} (v ∷ vs) candidates (a ∷ first) middle last positive e =
    let w = cut_helpers vs candidates first middle last positive (ap list_rest e) in
    let head : atom (Helper (Condition v)) false ≡ a = ap (list_head a) e in
    record {
      s = w.s;
      before = w.before;
      after = w.after;
      is = w.is;
      first_is = ap (λ q. q ∷ first) (sym head) ∙ ap (λ q. atom (Helper (Condition v)) false ∷ q) w.first_is;
      middle_is = w.middle_is;
    }

-- the same, behind the atom of the requirer or the gate
record CutBehind {N S : Type 0} (parent : Origin N S) (vs : List VersionSetId) (candidates : List S) (first : List (Atom N S))
    (middle : Atom N S) : Type 0 where
  s : S
  before : List S
  after : List S
  is : candidates ≡ before ++ s ∷ after
  first_is : first ≡ atom parent false ∷ (map (λ v. atom (Helper (Condition v)) false) vs ++ map (λ x. atom (Solvable x) true) before)
  middle_is : middle ≡ atom (Solvable s) true

cut_parent : {N S : Type 0} (parent : Origin N S) (vs : List VersionSetId) (candidates : List S) (first : List (Atom N S)) (middle : Atom N S)
    (last : List (Atom N S)) → middle.positive ≡ true →
    atom parent false ∷ (map (λ v. atom (Helper (Condition v)) false) vs ++ map (λ x. atom (Solvable x) true) candidates) ≡ first ++ middle ∷ last →
    CutBehind parent vs candidates first middle
cut_parent {N} {S} parent vs candidates [] middle last positive e =
    let head : atom parent false ≡ middle = ap (list_head middle) e in
    absurd (false≢true (ap (λ (a : Atom N S). a.positive) head ∙ positive))
cut_parent {N} {S} parent vs candidates (a ∷ first) middle last positive e =
    let w = cut_helpers vs candidates first middle last positive (ap list_rest e) in
    let head : atom parent false ≡ a = ap (list_head a) e in
    record {
      s = w.s;
      before = w.before;
      after = w.after;
      is = w.is;
      first_is = ap (λ q. q ∷ first) (sym head) ∙ ap (λ q. atom parent false ∷ q) w.first_is;
      middle_is = w.middle_is;
    }

module _ {N S : Type 0} (origins : List (Origin N S)) (trail : Trail) (size : variable_count trail ≡ length origins) where
  in_range : (x : ℕ) (slot : Slot) → slot_of trail x ≡ Some slot → x < length origins
  in_range x slot at = let inside : x < variable_count trail = slot-within _ x slot.place (ap (option_map (λ (s : Slot). s.place)) at) in omega (arith, size)

  pub stands : (x : ℕ) → x < length origins → slice_get origins x ≡ Some (origin_at origins x)
  stands x below = slice_get-get_or origins x Root below

  origin_is : (x : ℕ) (o : Origin N S) → slice_get origins x ≡ Some o → x < length origins → origin_at origins x ≡ o
  origin_is x o e below = same_Some _ _ (sym (stands x below) ∙ e)

  pub entry_is : (x : ℕ) (slot : Slot) → slot_of trail x ≡ Some slot → entry_at origins trail slot.place ≡ atom (origin_at origins x) slot.value
  entry_is x slot at =
      let Entry : ℕ → Atom N S = λ y. atom (origin_at origins y) (value_of trail y) in
      let Valued : Bool → Atom N S = λ b. atom (origin_at origins x) b in
      ap Entry (trail.listed x slot at).1 ∙ ap Valued (ap (λ o. option_map_or (λ (s : Slot). s.value) o false) at)

  pub Contains-before : (n k : ℕ) → k < n → Contains (atoms_before origins trail n) (entry_at origins trail k)
  Contains-before zero k below = absurd (omega arith)
  Contains-before (suc n) k below = ⊎_elim
      (λ less. there (entry_at origins trail n) (atoms_before origins trail n) (entry_at origins trail k) (Contains-before n k less))
      (λ e. let P : ℕ → Type 0 = λ j. Contains (atoms_before origins trail (suc n)) (entry_at origins trail j) in
      subst P (sym e) (here (entry_at origins trail n) (atoms_before origins trail n)))
      (below_or n k (omega arith))

  pub before-back : (n : ℕ) (a : Atom N S) → Contains (atoms_before origins trail n) a → (k : ℕ) × (k < n) × (entry_at origins trail k ≡ a)
  before-back zero a h = absurd (none_in a h)
  before-back (suc n) a h = ⊎_elim
      (λ e. (n, omega arith, e))
      (λ t. let w = before-back n a t in (w.0, omega (arith, w.1), w.2))
      (cons_cases (entry_at origins trail n) (atoms_before origins trail n) a h)

  -- a variable with a value is on the trail of atoms
  pub has_value : (n x : ℕ) (slot : Slot) → slot_of trail x ≡ Some slot → slot.place < n →
      Contains (atoms_before origins trail n) (atom (origin_at origins x) slot.value)
  has_value n x slot at below = let P : Atom N S → Type 0 = λ a. Contains (atoms_before origins trail n) a in
      subst P (entry_is x slot at) (Contains-before n slot.place below)

  -- the negation of a false literal is on the trail of atoms
  pub has_negation : (n : ℕ) (l : Literal) → IsFalseBefore trail n l →
      Contains (atoms_before origins trail n) (atom (origin_at origins l.variable) (not l.positive))
  has_negation n l f =
      let P : Bool → Type 0 = λ b. Contains (atoms_before origins trail n) (atom (origin_at origins l.variable) b) in
      subst P (beq-false f.slot.value l.positive f.false_there) (has_value n l.variable f.slot f.is f.earlier)

  false_in_range : (n : ℕ) (l : Literal) → IsFalseBefore trail n l → l.variable < length origins
  false_in_range n l f = in_range l.variable f.slot f.is

  -- the negations of the atoms of false literals are on the trail
  zip_negation : (n : ℕ) (before : List Literal) (first : List (Atom N S)) → AllZip (IsAtom origins) before first → All (IsFalseBefore trail n) before →
      (a : Atom N S) → Contains first a → Contains (atoms_before origins trail n) (atom a.origin (not a.positive))
  zip_negation n before first zip falses a inside =
      let w = AllZip-right (IsAtom origins) before first zip a inside in
      let f = All-contains (IsFalseBefore trail n) before w.0 falses w.1 in
      let o : origin_at origins w.0.variable ≡ a.origin = origin_is w.0.variable a.origin w.2.origin (false_in_range n w.0 f) in
      let P : Origin N S → Bool → Type 0 = λ x b. Contains (atoms_before origins trail n) (atom x (not b)) in
      let Q : Origin N S → Type 0 = λ x. P x w.0.positive in
      subst (P a.origin) w.2.positive (subst Q o (has_negation n w.0 f))

-- the clauses of an encoding, and a finished search over them
module _ {N S : Type 0} (u : Universe N S) (root : Demands) (notes : Notes N S) (encoding : IsEncoding u root notes) (requirements : List RequirementClause)
    (numbers : map (λ (r : RequirementClause). r.number) requirements ≡ requirement_numbers notes.kinds)
    (trail : Trail) (size : variable_count trail ≡ length notes.origins) (finished : IsFinished notes.table requirements trail) (seeds refused : List S)
    (assumed : AreAssumed notes.origins seeds refused trail) where
  abbrev before : ℕ → List (Atom N S)
  before n = atoms_before notes.origins trail n

  -- each clause that the table implies is entailed
  entailed : (clause : List Literal) → IsImplied notes.table clause → ((l : Literal) → Contains clause l → l.variable < length notes.origins) →
      IsEntailed u notes.kinds (atoms_by notes.origins clause)
  entailed clause implied ranged = record {
    holds = λ value all.
        let w = list_any-witness (λ (l : Literal). beq (values_by notes.origins value l.variable) l.positive) clause
        (implied (values_by notes.origins value) (table_by_kinds u notes.origins notes.table notes.kinds encoding.encoded value all)) in
        let l : Literal = w.0 in
        let same : values_by notes.origins value l.variable ≡ value (origin_at notes.origins l.variable) =
        values_by-origin notes.origins value l.variable (origin_at notes.origins l.variable) (stands notes.origins trail size l.variable (ranged l w.1)) in
        let Holds : Bool → Type 0 = λ b. beq b l.positive ≡ true in
        list_any-contains (λ (a : Atom N S). beq (value a.origin) a.positive) (atoms_by notes.origins clause)
        (atom (origin_at notes.origins l.variable) l.positive)
        (Contains-map (λ (m : Literal). atom (origin_at notes.origins m.variable) m.positive) clause l w.1) (subst Holds same w.2);
  }

  because_forced : (x : ℕ) (slot : Slot) → slot_of trail x ≡ Some slot → IsForced notes.table trail x slot →
      IsBecause u notes.kinds seeds refused (before slot.place) (atom (origin_at notes.origins x) slot.value)
  because_forced x slot at f =
      let it : Literal = record { variable = x; positive = slot.value } in
      let Forcing : Literal → Type 0 = λ other. (other ≡ it) ⊎ IsFalseBefore trail slot.place other in
      let each : (l : Literal) → Contains f.clause l → Forcing l = λ l inside. All-contains Forcing f.clause l f.forcing inside in
      let Below : Literal → Type 0 = λ l. l.variable < length notes.origins in
      let ranged : (l : Literal) → Contains f.clause l → Below l = λ l inside. ⊎_elim
      (λ e. subst Below (sym e) (in_range notes.origins trail size x slot at))
      (λ w. false_in_range notes.origins trail size slot.place l w)
      (each l inside) in
      forced (atoms_by notes.origins f.clause) (atom (origin_at notes.origins x) slot.value) (entailed f.clause f.implied ranged) (λ b inside.
      let w = Contains-map_back (λ (m : Literal). atom (origin_at notes.origins m.variable) m.positive) f.clause b inside in
      ⊎_elim
      (λ e. inl (sym w.2 ∙ ap (λ (m : Literal). atom (origin_at notes.origins m.variable) m.positive) e))
      (λ off. let P : Atom N S → Type 0 = λ a. Contains (before slot.place) (atom a.origin (not a.positive)) in
      inr (subst P w.2 (has_negation notes.origins trail size slot.place w.0 off)))
      (each w.0 w.1))

  -- the first candidate that is not false in a clause whose other literals are negative
  record IsFirstLeft (x : ℕ) (slot : Slot) (parent : Origin N S) (vs : List VersionSetId) (r : Requirement) : Type 0 where
    s : S
    is_solvable : origin_at notes.origins x ≡ Solvable s
    is_true : slot.value ≡ true
    parent_true : Contains (before slot.place) (atom parent true)
    helpers_true : All (λ v. Contains (before slot.place) (atom (Helper (Condition v)) true)) vs
    first_open : IsFirstOpen u (before slot.place) r s

  first_left : (x : ℕ) (slot : Slot) → slot_of trail x ≡ Some slot → (chosen : IsChosen notes.table requirements trail x slot) →
      (parent : Origin N S) (vs : List VersionSetId) (r : Requirement) →
      AllZip (IsAtom notes.origins) (clause_at notes.table chosen.requirement.number)
      (atom parent false ∷ (map (λ v. atom (Helper (Condition v)) false) vs ++ map (λ s. atom (Solvable s) true) (requirement_candidates u r))) →
      IsFirstLeft x slot parent vs r
  first_left x slot at chosen parent vs r zip =
      let atoms : List (Atom N S) = atom parent false ∷
      (map (λ v. atom (Helper (Condition v)) false) vs ++ map (λ s. atom (Solvable s) true) (requirement_candidates u r)) in
      let it : Literal = record { variable = x; positive = true } in
      let Zip : List Literal → Type 0 = λ ls. AllZip (IsAtom notes.origins) ls atoms in
      let w = halves (IsAtom notes.origins) chosen.before it chosen.after atoms (subst Zip chosen.clause zip) in
      let behind = cut_parent parent vs (requirement_candidates u r) w.first w.middle w.last (sym w.at.positive) w.is in
      let negation : (a : Atom N S) → Contains w.first a → Contains (before slot.place) (atom a.origin (not a.positive)) =
      zip_negation notes.origins trail size slot.place chosen.before w.first w.front chosen.false_before in
      let among : (a : Atom N S) → Contains
      (atom parent false ∷ (map (λ v. atom (Helper (Condition v)) false) vs ++ map (λ s. atom (Solvable s) true) behind.before)) a → Contains w.first a =
      λ a inside. let At : List (Atom N S) → Type 0 = λ list. Contains list a in subst At (sym behind.first_is) inside in
      record {
        s = behind.s;
        is_solvable = origin_is notes.origins trail size x w.middle.origin w.at.origin (in_range notes.origins trail size x slot at) ∙
            ap (λ (a : Atom N S). a.origin) behind.middle_is;
        is_true = chosen.value;
        parent_true = negation (atom parent false) (among _ (here _ _));
        helpers_true = λ k d below. negation (atom (Helper (Condition (get_or vs k d))) false)
            (among _ (there _ _ _ (Contains-append_left (map (λ v. atom (Helper (Condition v)) false) vs) (map (λ s. atom (Solvable s) true) behind.before) _
            (Contains-map (λ v. atom (Helper (Condition v)) false) vs _ (Contains-get_or vs k d below)))));
        first_open = record {
          before = behind.before;
          after = behind.after;
          is = behind.is;
          closed = λ s inside_s. negation (atom (Solvable s) true)
              (among _ (there _ _ _ (Contains-append_right (map (λ v. atom (Helper (Condition v)) false) vs) (map (λ s. atom (Solvable s) true) behind.before) _
              (Contains-map (λ s. atom (Solvable s) true) behind.before s inside_s))));
        };
      }

  abbrev Because : ℕ → Slot → Atom N S → Type 0
  Because x slot a = IsBecause u notes.kinds seeds refused (before slot.place) a

  because_left : (x : ℕ) (slot : Slot) (parent : Origin N S) (vs : List VersionSetId) (r : Requirement) (left : IsFirstLeft x slot parent vs r) →
      Because x slot (atom (Solvable left.s) true) → Because x slot (atom (origin_at notes.origins x) slot.value)
  because_left x slot parent vs r left it =
      let WithValue : Bool → Type 0 = λ b. Because x slot (atom (Solvable left.s) b) in
      let WithOrigin : Origin N S → Type 0 = λ p. Because x slot (atom p slot.value) in
      subst WithOrigin (sym left.is_solvable) (subst WithValue (sym left.is_true) it)

  because_chosen : (x : ℕ) (slot : Slot) → slot_of trail x ≡ Some slot → (chosen : IsChosen notes.table requirements trail x slot) →
      IsRequirementAt notes.kinds chosen.requirement.number → Because x slot (atom (origin_at notes.origins x) slot.value)
  because_chosen x slot at chosen asks =
      let parent = parent_of asks.0 asks.2 in
      let left = first_left x slot at chosen parent asks.1.items asks.2 (encoding.encoded.each chosen.requirement.number _ asks.3).in_order in
      because_left x slot parent asks.1.items asks.2 left (needed asks.0 asks.1 asks.2 left.s
      (Contains-at notes.kinds chosen.requirement.number _ asks.3) left.parent_true left.helpers_true left.first_open)

  because_assumed : (x : ℕ) (slot : Slot) → slot_of trail x ≡ Some slot → slot.reason ≡ Assumed → Because x slot (atom (origin_at notes.origins x) slot.value)
  because_assumed x slot at reason =
      let Entry : Origin N S → Bool → Type 0 = λ o b. Because x slot (atom o b) in
      let OfOrigin : Bool → Origin N S → Type 0 = λ b o. Because x slot (atom o b) in
      ⊎_elim
      (λ (e : slot.value ≡ true).
      let w = assumed.taken x slot at reason e in
      subst (Entry (origin_at notes.origins x)) (sym e) (subst (OfOrigin true) (sym w.1) (seeded w.0 w.2)))
      (λ (e : slot.value ≡ false).
      let w = assumed.left_out x slot at reason e in
      subst (Entry (origin_at notes.origins x)) (sym e) (subst (OfOrigin false) (sym w.1) (left_out w.0 w.2)))
      (cases_Bool slot.value)

  abbrev all : List (Atom N S)
  all = before (length_of trail)

  because : (x : ℕ) (slot : Slot) → slot_of trail x ≡ Some slot →
      IsBecause u notes.kinds seeds refused (before slot.place) (atom (origin_at notes.origins x) slot.value)
  because x slot at = ⊎_elim
      (λ (chosen : IsChosen notes.table requirements trail x slot).
      let Among : List ℕ → Type 0 = λ ns. Contains ns chosen.requirement.number in
      because_chosen x slot at chosen (requirement_at notes.kinds chosen.requirement.number
      (subst Among numbers (Contains-map (λ (r : RequirementClause). r.number) requirements chosen.requirement chosen.listed))))
      (λ rest. ⊎_elim (λ f. because_forced x slot at f) (λ a. because_assumed x slot at a) rest)
      (finished.reasons x slot at)

  because_at : (k : ℕ) → k < length_of trail → IsBecause u notes.kinds seeds refused (before k) (entry_at notes.origins trail k)
  because_at k below =
      let w = slot_at trail k below in
      let x : ℕ = variable_at trail k in
      let At : ℕ → Type 0 = λ n. IsBecause u notes.kinds seeds refused (before n) (atom (origin_at notes.origins x) w.0.value) in
      let Entry : Bool → Type 0 = λ b. IsBecause u notes.kinds seeds refused (before k) (atom (origin_at notes.origins x) b) in
      subst Entry (sym (ap (λ o. option_map_or (λ (s : Slot). s.value) o false) w.1)) (subst At w.2 (because x w.0 w.1))

  trail_before : (n : ℕ) → n ≤ length_of trail → IsTrail u notes.kinds seeds refused (before n)
  trail_before zero h = begun
  trail_before (suc n) h = went_on (entry_at notes.origins trail n) (trail_before n (omega arith)) (because_at n (omega arith))

  pub is_trail : IsTrail u notes.kinds seeds refused all
  is_trail = trail_before (length_of trail) (omega arith)

  -- the variable of an atom on the trail
  pub variable_of : (n : ℕ) (o : Origin N S) (b : Bool) → n ≤ length_of trail → Contains (before n) (atom o b) → (x : ℕ) × (slot : Slot) ×
      (slot_of trail x ≡ Some slot) × (slice_get notes.origins x ≡ Some o) × (slot.value ≡ b) × (slot.place < n)
  variable_of n o b h inside =
      let w = before-back notes.origins trail size n (atom o b) inside in
      let s = slot_at trail w.0 (omega (arith, w.1)) in
      let x : ℕ = variable_at trail w.0 in
      let origin : origin_at notes.origins x ≡ o = ap (λ (a : Atom N S). a.origin) w.2 in
      let value : value_of trail x ≡ b = ap (λ (a : Atom N S). a.positive) w.2 in (
        x,
        s.0,
        s.1,
        stands notes.origins trail size x (in_range notes.origins trail size x s.0 s.1) ∙ ap Some origin,
        sym (ap (λ p. option_map_or (λ (q : Slot). q.value) p false) s.1) ∙ value,
        omega (arith, w.1, s.2),
      )

  same_slot : (x y : ℕ) (s t : Slot) → x ≡ y → slot_of trail x ≡ Some s → slot_of trail y ≡ Some t → s ≡ t
  same_slot x y s t e a b = same_Some _ _ (sym a ∙ ap (slot_of trail) e ∙ b)

  pub apart : (o : Origin N S) → Contains all (atom o true) → Contains all (atom o false) → ⊥
  apart o on off =
      let a = variable_of (length_of trail) o true (omega arith) on in
      let b = variable_of (length_of trail) o false (omega arith) off in
      let e = same_slot a.0 b.0 a.1 b.1 (encoding.distinct.same a.0 b.0 o a.3 b.3) a.2 b.2 in
      false≢true (sym b.4 ∙ ap (λ (s : Slot). s.value) (sym e) ∙ a.4)

  -- a literal is false if the negation of its atom is on the trail
  false_literal : (l : Literal) (a : Atom N S) → IsAtom notes.origins l a → Contains all (atom a.origin (not a.positive)) → literal_value trail l ≡ Some false
  false_literal l a is off =
      let w = variable_of (length_of trail) a.origin (not a.positive) (omega arith) off in
      let same : l.variable ≡ w.0 = encoding.distinct.same l.variable w.0 a.origin is.origin w.3 in
      literal_false _ w.1 a.positive l.positive (ap (slot_of trail) same ∙ w.2) w.4 is.positive

  -- the atom of a true literal is on the trail
  true_literal : (l : Literal) (a : Atom N S) → IsAtom notes.origins l a → literal_value trail l ≡ Some true → Contains all (atom a.origin a.positive)
  true_literal l a is holds =
      let w = literal_has _ l.positive true holds in
      let ranged = in_range notes.origins trail size l.variable w.0 w.1 in
      let o : origin_at notes.origins l.variable ≡ a.origin = origin_is notes.origins trail size l.variable a.origin is.origin ranged in
      let value : w.0.value ≡ a.positive = beq-true w.0.value l.positive w.2 ∙ is.positive in
      let P : Origin N S → Bool → Type 0 = λ p b. Contains all (atom p b) in
      let Q : Origin N S → Type 0 = λ p. P p w.0.value in
      subst (P a.origin) value (subst Q o (has_value notes.origins trail size (length_of trail) l.variable w.0 w.1 (trail.listed l.variable w.0 w.1).0))

  -- a clause of this kind has a number
  number_of : (kind : ClauseKind N S) → Contains notes.kinds kind → (n : ℕ) × (n < length notes.table) × (slice_get notes.kinds n ≡ Some kind)
  number_of kind (n, below, is) = (n, omega (arith, below, encoding.encoded.count), slice_get-get_or notes.kinds n kind below ∙ ap Some is)

  pub unit : (k : ClauseKind N S) (a : Atom N S) → Contains notes.kinds k → Contains (atoms_of u k) a →
      ((b : Atom N S) → Contains (atoms_of u k) b → (b ≡ a) ⊎ Contains all (atom b.origin (not b.positive))) → Contains all (atom a.origin a.positive)
  unit k a inside among others =
      let n = number_of k inside in
      let are = (encoding.encoded.each n.0 k n.2).atoms in
      let l = are.each_atom a among in
      true_literal l.0 a l.2 ((finished.propagated n.0 n.1).last l.0 l.1 (λ m inside_m.
      let b = are.each_literal m inside_m in
      ⊎_elim
      (λ e.
      let Atom_of_m : Atom N S → Type 0 = λ q. IsAtom notes.origins m q in
      let as_a = subst Atom_of_m e b.2 in
      inl (literal-same m l.0 (encoding.distinct.same m.variable l.0.variable a.origin as_a.origin l.2.origin) (as_a.positive ∙ sym l.2.positive)))
      (λ off. inr (false_literal m b.0 b.2 off))
      (others b.0 b.1)))

  pub no_false : (k : ClauseKind N S) → Contains notes.kinds k → ((b : Atom N S) → Contains (atoms_of u k) b → Contains all (atom b.origin (not b.positive))) →
      ⊥
  no_false k inside wrong =
      let n = number_of k inside in
      let are = (encoding.encoded.each n.0 k n.2).atoms in
      (finished.propagated n.0 n.1).not_false (λ i d below.
      let l : Literal = get_or (clause_at notes.table n.0) i d in
      let a = are.each_literal l (Contains-get_or (clause_at notes.table n.0) i d below) in
      false_literal l a.0 a.2 (wrong a.0 a.1))

  -- the atoms of a requirement clause with these helpers
  abbrev asking_atoms : Origin N S → List VersionSetId → Requirement → List (Atom N S)
  asking_atoms parent vs r = atom parent false ∷
      (map (λ v. atom (Helper (Condition v)) false) vs ++ map (λ s. atom (Solvable s) true) (requirement_candidates u r))

  atom_cases : (parent : Origin N S) (vs : List VersionSetId) (r : Requirement) → Contains all (atom parent true) →
      All (λ v. Contains all (atom (Helper (Condition v)) true)) vs →
      (a : Atom N S) → Contains (asking_atoms parent vs r) a → ((a.positive ≡ false) × Contains all (atom a.origin true)) ⊎
      ((s : S) × Contains (requirement_candidates u r) s × (a ≡ atom (Solvable s) true))
  atom_cases parent vs r on helpers a among =
      let Negative : Atom N S → Type 0 = λ q. (q.positive ≡ false) × Contains all (atom q.origin true) in
      ⊎_elim
      (λ e. inl (subst Negative e (refl, on)))
      (λ t. ⊎_elim
      (λ h. let w = Contains-map_back (λ v. atom (Helper (Condition v)) false) vs a h in
      inl (subst Negative w.2 (refl, All-contains (λ v. Contains all (atom (Helper (Condition v)) true)) vs w.0 helpers w.1)))
      (λ h. let w = Contains-map_back (λ s. atom (Solvable s) true) (requirement_candidates u r) a h in inr (w.0, w.1, sym w.2))
      (Contains-append_cases (map (λ v. atom (Helper (Condition v)) false) vs) (map (λ s. atom (Solvable s) true) (requirement_candidates u r)) a t))
      (cons_cases (atom parent false) (map (λ v. atom (Helper (Condition v)) false) vs ++ map (λ s. atom (Solvable s) true) (requirement_candidates u r)) a among)

  pub decided : (who : Option (By S)) (disjunct : Disjunct) (r : Requirement) → Contains notes.kinds (Requires who disjunct r) →
      Contains all (atom (parent_of who r) true) →
      All (λ v. Contains all (atom (Helper (Condition v)) true)) disjunct.items → (s : S) × Contains (requirement_candidates u r) s ×
      Contains all (atom (Solvable s) true)
  decided who disjunct r inside on helpers =
      let kind : ClauseKind N S = Requires who disjunct r in
      let parent : Origin N S = parent_of who r in
      let vs = disjunct.items in
      let n = number_of kind inside in
      let are = (encoding.encoded.each n.0 kind n.2).atoms in
      let listed = number_of_requirement notes.kinds n.0 (who, disjunct, r, n.2) in
      let Among : List ℕ → Type 0 = λ ns. Contains ns n.0 in
      let w = Contains-map_back (λ (q : RequirementClause). q.number) requirements n.0 (subst Among (sym numbers) listed) in
      let Met : ℕ → Type 0 = λ m. IsMet trail (clause_at notes.table m) in
      let met : Met n.0 = subst Met w.2
      (All-contains (λ (q : RequirementClause). IsMet trail (clause_at notes.table q.number)) requirements w.0 finished.met w.1) in
      ⊎_elim
      (λ satisfied.
      let l = any-witness (λ literal. literal_value trail literal ≡ Some true) (clause_at notes.table n.0) satisfied in
      let a = are.each_literal l.0 l.1 in
      ⊎_elim
      (λ negative.
      let P : Bool → Type 0 = λ b. Contains all (atom a.0.origin b) in
      absurd (apart a.0.origin negative.1 (subst P negative.0 (true_literal l.0 a.0 a.2 l.2))))
      (λ c.
      let Taken : Atom N S → Type 0 = λ q. Contains all (atom q.origin q.positive) in
      (c.0, c.1, subst Taken c.2 (true_literal l.0 a.0 a.2 l.2)))
      (atom_cases parent vs r on helpers a.0 a.1))
      (λ still.
      let l = any-witness (λ (literal : Literal). (literal_value trail literal ≡ None) × (literal.positive ≡ false)) (clause_at notes.table n.0) still in
      let a = are.each_literal l.0 l.1 in
      ⊎_elim
      (λ negative.
      let v = variable_of (length_of trail) a.0.origin true (omega arith) negative.1 in
      let same : l.0.variable ≡ v.0 = encoding.distinct.same l.0.variable v.0 a.0.origin a.2.origin v.3 in
      absurd (literal_open _ v.1 l.0.positive l.2.0 (ap (slot_of trail) same ∙ v.2)))
      (λ c. absurd (false≢true (sym l.2.1 ∙ a.2.positive ∙ ap (λ (q : Atom N S). q.positive) c.2)))
      (atom_cases parent vs r on helpers a.0 a.1))
      met

  pub settled : AreValuesSettled u notes.kinds (Takes all)
  settled = record {
    apart = apart;
    root_taken = unit InstallRoot (atom Root true) encoding.installs (here (atom Root true) []) (λ b inside.
        ⊎_elim (λ e. inl (sym e)) (λ none. absurd (none_in b none)) (cons_cases (atom Root true) [] b inside));
    no_false = no_false;
    unit = λ k h value inside among others. unit k (atom (Helper h) value) inside among others;
    decided = decided;
  }

-- the chosen solvables are those that the trail makes true
module _ {N S : Type 0} (origins : List (Origin N S)) (trail : Trail) where
  pub solvable_of : (o : Origin N S) (b : Bool) (s : S) → Contains (solvable_if o b) s → atom o b ≡ atom (Solvable s) true
  solvable_of (Solvable t) true s h = ⊎_elim (λ e. ap (λ x. atom (Solvable x) true) e) (λ n. absurd (none_in s n)) (cons_cases t [] s h)
  solvable_of o b s h = absurd (none_in s h)

  solvable_back : (o : Origin N S) (b : Bool) (s : S) → atom o b ≡ atom (Solvable s) true → Contains (solvable_if o b) s
  solvable_back o b s e = let P : Atom N S → Type 0 = λ a. Contains (solvable_if a.origin a.positive) s in subst P (sym e) (here s [])

  pub true_before : (n : ℕ) (s : S) → Contains (solvables_before origins trail n) s → Contains (atoms_before origins trail n) (atom (Solvable s) true)
  true_before zero s h = absurd (none_in s h)
  true_before (suc n) s h = ⊎_elim
      (λ old. there (entry_at origins trail n) (atoms_before origins trail n) (atom (Solvable s) true) (true_before n s old))
      (λ last. let P : Atom N S → Type 0 = λ a. Contains (entry_at origins trail n ∷ atoms_before origins trail n) a in
      subst P (solvable_of (origin_at origins (variable_at trail n)) (value_of trail (variable_at trail n)) s last)
      (here (entry_at origins trail n) (atoms_before origins trail n)))
      (Contains-append_cases (solvables_before origins trail n)
      (solvable_if (origin_at origins (variable_at trail n)) (value_of trail (variable_at trail n))) s h)

  chosen_before : (n : ℕ) (s : S) → Contains (atoms_before origins trail n) (atom (Solvable s) true) → Contains (solvables_before origins trail n) s
  chosen_before zero s h = absurd (none_in (atom (Solvable s) true) h)
  chosen_before (suc n) s h = ⊎_elim
      (λ e. Contains-append_right (solvables_before origins trail n)
      (solvable_if (origin_at origins (variable_at trail n)) (value_of trail (variable_at trail n))) s
      (solvable_back (origin_at origins (variable_at trail n)) (value_of trail (variable_at trail n)) s e))
      (λ t. Contains-append_left (solvables_before origins trail n)
      (solvable_if (origin_at origins (variable_at trail n)) (value_of trail (variable_at trail n))) s (chosen_before n s t))
      (cons_cases (entry_at origins trail n) (atoms_before origins trail n) (atom (Solvable s) true) h)

  pub is_chosen : IsChosenBy (atoms_before origins trail (length_of trail)) (solvables_before origins trail (length_of trail))
  is_chosen = record { each_true = true_before (length_of trail); each_chosen = chosen_before (length_of trail) }

  module _ (distinct : AreDistinct origins) (size : variable_count trail ≡ length origins) where
    -- a solvable has only one place on the trail
    one_place : (j k : ℕ) (s : S) → j < length_of trail → k < length_of trail → entry_at origins trail j ≡ atom (Solvable s) true →
        entry_at origins trail k ≡ atom (Solvable s) true → j ≡ k
    one_place j k s below_j below_k ej ek =
        let a = slot_at trail j below_j in
        let b = slot_at trail k below_k in
        let x : ℕ = variable_at trail j in
        let y : ℕ = variable_at trail k in
        let ox : slice_get origins x ≡ Some (Solvable s) = stands origins trail size x (in_range origins trail size x a.0 a.1) ∙
        ap (λ (q : Atom N S). Some q.origin) ej in
        let oy : slice_get origins y ≡ Some (Solvable s) = stands origins trail size y (in_range origins trail size y b.0 b.1) ∙
        ap (λ (q : Atom N S). Some q.origin) ek in
        let same : x ≡ y = distinct.same x y (Solvable s) ox oy in
        let slots : a.0 ≡ b.0 = same_Some _ _ (sym a.1 ∙ ap (slot_of trail) same ∙ b.1) in
        sym a.2 ∙ ap (λ (q : Slot). q.place) slots ∙ b.2

    pub not_before : (n : ℕ) (s : S) → n < length_of trail → entry_at origins trail n ≡ atom (Solvable s) true → Contains (solvables_before origins trail n) s →
        ⊥
    not_before n s below is inside =
        let w = before-back origins trail size n (atom (Solvable s) true) (true_before n s inside) in
        let e : w.0 ≡ n = one_place w.0 n s (omega (arith, w.1)) below w.2 is in omega (arith, w.1, e)

    once_more : (xs : List S) (o : Origin N S) (b : Bool) → HasNoRepeats xs → ((s : S) → atom o b ≡ atom (Solvable s) true → Contains xs s → ⊥) →
        HasNoRepeats (xs ++ solvable_if o b)
    once_more xs (Solvable t) true once new = all_pairs_push ◌≢◌ xs t once (λ k d below same. new t refl (k, below, get_or_default xs k t d below ∙ same))
    once_more xs o b once new = let P : List S → Type 0 = λ ys. HasNoRepeats ys in subst P (sym (append-nil xs)) once

    once_before : (n : ℕ) → n ≤ length_of trail → HasNoRepeats (solvables_before origins trail n)
    once_before zero h = λ i j d below inside. absurd (omega arith)
    once_before (suc n) h = once_more (solvables_before origins trail n) (origin_at origins (variable_at trail n)) (value_of trail (variable_at trail n))
        (once_before n (omega arith)) (λ s is inside. not_before n s (omega arith) is inside)

    pub chosen_once : HasNoRepeats (solvables_before origins trail (length_of trail))
    chosen_once = once_before (length_of trail) (omega arith)

-- a finished search is an answer if each solvable that it chose was read
pub finished_is_valid : {N S : Type 0} (u : Universe N S) (root : Demands) (notes : Notes N S) (requirements : List RequirementClause) (trail : Trail)
    (seeds refused : List S) →
    HasLawfulSolvables u → HasLawfulPackages u → IsReadSoFar u root (solvables_before notes.origins trail (length_of trail)) notes →
    AreAssumed notes.origins seeds refused trail →
    AreSeeds u seeds (solvables_before notes.origins trail (length_of trail)) notes.asked notes.seen notes.exempt →
    map (λ (r : RequirementClause). r.number) requirements ≡ requirement_numbers notes.kinds → variable_count trail ≡ length notes.origins →
    IsFinished notes.table requirements trail →
    IsAnswerBy u root (solvables_before notes.origins trail (length_of trail)) seeds notes.exempt
finished_is_valid {N} {S} u root notes requirements trail seeds refused lawful packages so_far assumed seeded_by numbers size finished =
    let encoding = so_far.half.encoding in
    let atoms : List (Atom N S) = atoms_before notes.origins trail (length_of trail) in
    let chosen : List S = solvables_before notes.origins trail (length_of trail) in
    let covers : CoversReached u root notes.kinds chosen seeds notes.exempt =
    covers_reached u lawful packages root notes.kinds (IsLeft notes) notes.read notes.asked notes.seen notes.exempt
    (so_far_read u root notes so_far.half) chosen seeds seeded_by
    (λ s inside registered. so_far.set_read s inside) so_far.none in
    finished_is_answer u encoding.codes root notes.kinds atoms chosen seeds refused notes.exempt lawful encoding.own_codes encoding.each_true
    (Spares-further u notes.asked notes.exempt notes.exempt notes.kinds encoding.due (λ s h. inl h))
    (is_trail u root notes encoding requirements numbers trail size finished seeds refused assumed)
    (settled u root notes encoding requirements numbers trail size finished seeds refused assumed)
    (is_chosen notes.origins trail) covers
