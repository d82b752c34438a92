-- Another literal to watch, looked for in the two parts of a clause.
use Rattle.std.proofs.Common.{◌≡◌, ℕ, ◌+◌, ◌<◌, ◌≤◌, ◌⊎◌, List, length, get_or, take, drop, Option, Some, None, false, arith, subst, sym}
use Rattle.std.specs.Prelude.{All, MatchOption}
use Rattle.std.proofs.lemmas.List.{get_or-drop, get_or-take, length-drop, length-take-le, take-append-drop}
use Rattle.std.proofs.lemmas.List.Elements.{All-append, Contains-get_or}
use Rattle.resolver_clause_store.specs.Literals.{Literal}
use Rattle.resolver_clause_store.specs.declared.Trail.{Trail}
use Rattle.resolver_clause_store.specs.TrailView.{literal_value}
use Rattle.resolvo.specs.Propagation.{IsUnit}
use Rattle.resolvo.specs.Visits.{IsReplacement, ReplacesAt}

-- the literal at such a place
pub replaces-at : (trail : Trail) (clause : List Literal) (other to : Literal) (place : ℕ) → ReplacesAt trail clause other place →
    to ≡ get_or clause place to → IsReplacement trail clause other to
replaces-at trail clause other to place found is = subst (λ (l : Literal). IsReplacement trail clause other l) (sym is) (found.replaces to)

module _ (trail : Trail) (clause : List Literal) (other : Literal) (start : ℕ) (within : start ≤ length clause) where
  -- there is none in either part
  pub unit-parts : IsUnit trail other (take start clause) → IsUnit trail other (drop start clause) → IsUnit trail other clause
  unit-parts first last =
      let P : Literal → Type 0 = λ one. (one ≡ other) ⊎ (literal_value trail one ≡ Some false) in
      subst (λ (ls : List Literal). All P ls) (take-append-drop start clause) (All-append P (take start clause) (drop start clause) first last)

  -- a literal of a part, at its place in the clause
  replaces-here : (part : List Literal) (one d : Literal) (place : ℕ) → place < length clause → IsReplacement trail part other one →
      one ≡ get_or clause place d → IsReplacement trail clause other (get_or clause place d)
  replaces-here part one d place inside found here =
      record {
        inside = Contains-get_or clause place d inside;
        differ = subst (λ (l : Literal). other ≡ l → ⊥) here found.differ;
        not_false = subst (λ (l : Literal). literal_value trail l ≡ Some false → ⊥) here found.not_false;
      }

  -- there is one from `start` on
  pub replaces-after : (place : ℕ) → ReplacesAt trail (drop start clause) other place → ReplacesAt trail clause other (start + place)
  replaces-after place found =
      let inside : start + place < length clause = omega (arith, found.inside, length-drop start clause, within) in
      record {
        inside = inside;
        replaces = λ d. replaces-here (drop start clause) _ d (start + place) inside (found.replaces d) (get_or-drop start clause place d);
      }

  -- there is one before
  pub replaces-before : (place : ℕ) → ReplacesAt trail (take start clause) other place → ReplacesAt trail clause other place
  replaces-before place found =
      let less : place < start = omega (arith, found.inside, length-take-le start clause within) in
      let inside : place < length clause = omega (arith, less, within) in
      record {
        inside = inside;
        replaces = λ d. replaces-here (take start clause) _ d place inside (found.replaces d) (get_or-take start clause place d less);
      }

  -- there is one before, or none in either part
  pub found-before : (found : Option ℕ) → IsUnit trail other (drop start clause) →
      MatchOption found (IsUnit trail other (take start clause)) (ReplacesAt trail (take start clause) other) →
      MatchOption found (IsUnit trail other clause) (ReplacesAt trail clause other)
  found-before None last first = unit-parts first last
  found-before (Some place) last at = replaces-before place at
