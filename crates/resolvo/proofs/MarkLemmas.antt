-- Marks of variables.
use Rattle.std.proofs.Common.{◌≡◌, ◌≢◌, ℕ, ◌+◌, ◌<◌, ◌≤◌, List, length, get_or, set, take, Bool, true, false, arith, sym, ◌∙◌, subst, ⊎_elim, length-set}
use Rattle.std.proofs.Common.{get_or-set_same, get_or-set_other, length-append, [], ◌∷◌, ◌++◌}
use Rattle.std.proofs.Math.ListN.{get_or-append}
use Rattle.std.proofs.Math.Seq.{get_or-append_seam}
use Rattle.std.proofs.lemmas.List.{take_more, get_or_past, get_or_default}
use Rattle.std.specs.List.{All}
use Rattle.std.proofs.lemmas.Grind.{elements}
use Rattle.std.proofs.lemmas.Bool.{cases_eq, cases_lt}
use Rattle.std.proofs.lemmas.List.Elements.{All-more, All-weaker}
use Rattle.resolver_clause_store.specs.Literals.{Literal}
use Rattle.resolvo.specs.Resolvents.{is_marked, MarksAlso}

-- setting a mark leaves the other marks
pub marked-set : (marks : List Bool) (at variable : ℕ) → at < length marks → is_marked marks variable ≡ true → is_marked (set marks at true) variable ≡ true
marked-set marks at variable inside m = grind (arith, elements, cases_eq at variable)

pub marks-more : (old mid : List Bool) (clause : List Literal) (i : ℕ) (d : Literal) → MarksAlso old mid (take i clause) → i < length clause →
    (get_or clause i d).variable < length mid → MarksAlso old (set mid (get_or clause i d).variable true) (take (i + 1) clause)
marks-more old mid clause i d so within inside = record {
  size = simp length-set so.size;
  kept = λ v m. marked-set mid _ v inside (so.kept v m);
  all = All-more (λ (literal : Literal). is_marked (set mid (get_or clause i d).variable true) literal.variable ≡ true) clause i d within
      (All-weaker (λ (literal : Literal). is_marked mid literal.variable ≡ true) (λ (literal : Literal).
      is_marked (set mid (get_or clause i d).variable true) literal.variable ≡ true) (λ l m. marked-set mid _ l.variable inside m) _ so.all)
      (rw get_or-set_same);
  only = λ v unmarked none.
      let t : All (λ (literal : Literal). literal.variable ≢ v) (take i clause ++ get_or clause i d ∷ []) =
      subst (λ xs. All (λ (literal : Literal). literal.variable ≢ v) xs) (take_more clause i d within) none in
      let before : All (λ (literal : Literal). literal.variable ≢ v) (take i clause) =
      λ k e b. subst (λ (literal : Literal). literal.variable ≢ v) (get_or-append (take i clause) (get_or clause i d ∷ []) e k b)
      (t k e (simp length-append (omega arith))) in
      let last : (get_or clause i d).variable ≢ v =
      subst (λ (literal : Literal). literal.variable ≢ v) (get_or-append_seam (take i clause) (get_or clause i d) [] d)
      (t (length (take i clause)) d (simp length-append (omega arith))) in
      get_or-set_other mid (get_or clause i d).variable v true false (λ e. last (sym e)) ∙ so.only v unmarked before;
}

-- a mark that was cleared
pub unmarked-set : (marks : List Bool) (at : ℕ) → is_marked (set marks at false) at ≡ false
unmarked-set marks at = ⊎_elim
    (λ (less : at < length marks). get_or-set_same marks at false false less)
    (λ (more : length marks ≤ at). get_or_past (set marks at false) at false (rw length-set more))
    (cases_lt at (length marks))

-- the mark that indexing read, if `is_marked` has this default
pub marked-read : (marks : List Bool) (at : ℕ) (read value : Bool) → at < length marks → read ≡ get_or marks at read → read ≡ value → is_marked marks at ≡ value
marked-read marks at read value inside is e = get_or_default marks at false read inside ∙ sym is ∙ e
