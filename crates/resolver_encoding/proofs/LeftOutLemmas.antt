-- A solvable that is left out fits into no answer.
use Rattle.std.proofs.Common.{◌≡◌, ℕ, List, [], ◌∷◌, ◌++◌, arith, length-append, Bool, true, false, inl, inr, refl, sym, ap, ◌∙◌, subst, ⊎_elim, Contains}
use Rattle.std.proofs.Common.{Some}
use Rattle.std.specs.Prelude.{Option, map, slice_get}
use Rattle.std.specs.Option.{option_map_or}
use Rattle.std.proofs.Math.ListN.{get_or-append}
use Rattle.std.proofs.lemmas.Bool.{both_ways, false≢true}
use Rattle.std.proofs.lemmas.List.Elements.{Contains-append_cases, Contains-push_cases}
use Rattle.resolver_clause_store.specs.Candidates.{requirement_candidates}
use Rattle.resolver_clause_store.specs.Formula.{Satisfies, clause_at, clause_true}
use Rattle.resolver_clause_store.specs.Lists.{IsWithin}
use Rattle.resolver_clause_store.specs.SoftRun.{Exempts, FitsNowhere, asked_before, not_asked}
use Rattle.resolver_clause_store.specs.Universe.{Universe, Demands}
use Rattle.resolver_clause_store.specs.Variables.{Keeps}
use Rattle.resolver_clause_store.specs.declared.By.{By}
use Rattle.resolver_clause_store.specs.declared.ClauseKind.{ClauseKind}
use Rattle.resolver_clause_store.specs.declared.ClauseKind.TheVariants.{Requires}
use Rattle.resolver_clause_store.specs.declared.Requirement.{Requirement}
use Rattle.resolver_clause_store.specs.declared.Helper.TheVariants.{Condition}
use Rattle.resolver_clause_store.specs.declared.Origin.TheVariants.{Solvable, Helper}
use Rattle.resolver_clause_store.specs.Literals.{Literal}
use Rattle.resolver_clause_store.specs.declared.Origin.{Origin}
use Rattle.resolver_encoding.specs.Atoms.{Atom, Disjunct, atom, atoms_of, is_on, parent_of}
use Rattle.resolver_encoding.specs.Encodings.{Extends, IsEncoding, Notes}
use Rattle.resolver_encoding.specs.LeftOut.{IsLeftOut}
use Rattle.resolver_encoding.specs.Truth.{AreDue, HasLawfulSolvables, Spares, follows}
use Rattle.resolver_encoding.specs.Values.{extension, requirement_numbers}
use Rattle.resolver_encoding.proofs.NumberLemmas.{requirement_at}
use Rattle.resolver_encoding.proofs.Extended.{valid_satisfies}
use Rattle.resolver_encoding.proofs.Satisfied.{has-contains}
use Rattle.resolver_clause_store.proofs.ListLemmas.{Contains-cons_cases as cons_cases, Contains-map_back}
use Rattle.resolver_encoding.proofs.Spared.{Spares-further}

-- values that satisfy more clauses satisfy fewer
pub satisfies_fewer : (values : ℕ → Bool) (table more : List (List Literal)) → Extends table more → Satisfies values more → Satisfies values table
satisfies_fewer values table more extends holds =
    let True : List Literal → Type 0 = λ clause. clause_true values clause ≡ true in
    let Holds : List (List Literal) → Type 0 = λ list. Satisfies values list in
    let all : Holds (table ++ extends.more) = subst Holds extends.is holds in
    λ k d below. subst True (get_or-append table extends.more d k below) (all k d (omega (arith, below, length-append table extends.more)))

-- a solvable that is left out stays left out
pub left_out_more : {N S : Type 0} (origins more : List (Origin N S)) (table longer : List (List Literal)) (set larger : List S) (s : S) →
    Keeps origins more → Extends table longer → IsWithin set larger → IsLeftOut origins table set s → IsLeftOut more longer larger s
left_out_more origins more table longer set larger s keeps extends within out = record {
  variable = out.variable;
  stands = keeps.kept out.variable _ out.stands;
  never = λ values holds are. out.never values (satisfies_fewer values table longer extends holds) (λ x t h is. are x t (within t h) (keeps.kept x _ is));
}

module _ {N S : Type 0} (u : Universe N S) where
  -- the atom of a candidate stands for a solvable
  candidate_in : (candidates : List S) (a : Atom N S) → Contains (map (λ s. atom (Solvable s) true) candidates) a → (s : S) × (a.origin ≡ Solvable s)
  candidate_in candidates a h = let w = Contains-map_back (λ s. atom (Solvable s) true) candidates a h in (w.0, ap (λ (b : Atom N S). b.origin) (sym w.2))

  negative : (a b : Atom N S) → b.positive ≡ false → b ≡ a → a.positive ≡ true → ⊥
  negative a b off same on = false≢true (sym off ∙ ap (λ (c : Atom N S). c.positive) same ∙ on)

  candidate_of : (parent : Option (By S)) (disjunct : Disjunct) (r : Requirement) (a : Atom N S) → Contains (atoms_of u (Requires parent disjunct r)) a →
      a.positive ≡ true → (s : S) × (a.origin ≡ Solvable s)
  candidate_of parent disjunct r a inside on =
      let helpers : List (Atom N S) = map (λ v. atom (Helper (Condition v)) false) disjunct.items in
      let candidates : List (Atom N S) = map (λ s. atom (Solvable s) true) (requirement_candidates u r) in
      let from : Atom N S = atom (parent_of parent r) false in
      ⊎_elim
      (λ e. absurd (negative a from refl e on))
      (λ rest. ⊎_elim
      (λ helper. let v = Contains-map_back (λ v. atom (Helper (Condition v)) false) disjunct.items a helper in
      absurd (negative a (atom (Helper (Condition v.0)) false) refl v.2 on))
      (λ candidate. candidate_in (requirement_candidates u r) a candidate)
      (Contains-append_cases helpers candidates a rest))
      (cons_cases from (helpers ++ candidates) a inside)

  module _ (root : Demands) (notes : Notes N S) (encoding : IsEncoding u root notes) where
    -- a positive literal of a requirement clause stands for a candidate
    pub asked_candidate : (number : ℕ) → Contains (requirement_numbers notes.kinds) number → (l : Literal) → Contains (clause_at notes.table number) l → l.positive ≡ true →
        (s : S) × (slice_get notes.origins l.variable ≡ Some (Solvable s))
    asked_candidate number listed l stands on =
        let at = requirement_at notes.kinds number listed in
        let a = (encoding.encoded.each number _ at.3).atoms.each_literal l stands in
        let w = candidate_of at.0 at.1 at.2 a.0 a.1 (sym a.2.positive ∙ on) in
        (w.0, a.2.origin ∙ ap Some w.1)

    -- a solvable that is left out fits into no answer with exemptions that the clauses spare
    pub left_out_nowhere : HasLawfulSolvables u → (set exempt : List S) (s : S) → Spares u exempt notes.kinds → IsLeftOut notes.origins notes.table set s →
        FitsNowhere u root set exempt s
    left_out_nowhere lawful set exempt s spares out = λ larger within inside ok.
        let on : (x : ℕ) (t : S) → Contains larger t → slice_get notes.origins x ≡ Some (Solvable t) →
        extension u (follows u encoding.codes) notes.origins larger x ≡ true =
        λ x t h is. ap (λ o. option_map_or (is_on u (follows u encoding.codes) larger) o false) is ∙
        has-contains u (follows u encoding.codes) lawful.same_solvable larger t h in
        let holds = valid_satisfies u encoding.codes root notes.origins notes.table notes.kinds larger exempt lawful encoding.own_codes encoding.encoded
        encoding.each_true spares ok in
        both_ways _ (out.never (extension u (follows u encoding.codes) notes.origins larger) holds (λ x t h is. on x t (within t h) is))
        (on out.variable s inside out.stands)

  -- the clauses spare the exempt solvables, and those of packages that were not asked
  pub spares_present : (asked : List N) (exempt : List S) (kinds : List (ClauseKind N S)) → AreDue u asked exempt kinds → Spares u exempt kinds
  spares_present asked exempt kinds due = Spares-further u asked exempt exempt kinds due (λ s h. inl h)

  pub spares_exempting : (asked : List N) (exempt : List S) (s : S) (more : List S) (kinds : List (ClauseKind N S)) → AreDue u asked exempt kinds →
      Exempts u asked exempt s more → Spares u more kinds
  spares_exempting asked exempt s more kinds due (asked_before was) = spares_present asked exempt kinds due
  spares_exempting asked exempt s more kinds due (not_asked free) = Spares-further u asked exempt (exempt ++ s ∷ []) kinds due (λ t h. ⊎_elim
      (λ was. inl was)
      (λ e. let Asked : S → Type 0 = λ x. Contains asked (u.name x) → ⊥ in inr (subst Asked e free))
      (Contains-push_cases exempt s t h))
