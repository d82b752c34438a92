-- The sources of the clauses of a table.
use Rattle.std.proofs.Common.{◌≡◌, ℕ, ◌<◌, ◌≤◌, ◌⊎◌, List, [], ◌∷◌, ◌++◌, length, get_or, Option, Some, None, arith, inl, inr, refl, sym, ap, ◌∙◌, ⊎_elim}
use Rattle.std.proofs.Common.{length-append}
use Rattle.std.specs.Option.{option_map_or}
use Rattle.std.proofs.Math.ListN.{get_or-append}
use Rattle.std.proofs.Math.Seq.{get_or-append_seam}
use Rattle.std.proofs.lemmas.Bool.{cases_lt}
use Rattle.std.proofs.lemmas.Option.{none-some, slice_get-get_or, slice_get_past}
use Rattle.resolvo.specs.Sources.{Source}
use Rattle.resolvo.specs.Derivations.{causes_at, causes_of, given_at, number_of}

pub some_or_none : (o : Option ℕ) → ((n : ℕ) × (o ≡ Some n)) ⊎ (o ≡ None)
some_or_none (Some n) = inl (n, refl)
some_or_none None = inr refl

pub given_at-get_or : (sources : List Source) (place : ℕ) (d : Source) → place < length sources → given_at sources place ≡ number_of (get_or sources place d)
given_at-get_or sources place d within = ap (λ o. option_map_or number_of o None) (slice_get-get_or sources place d within)

pub causes_at-get_or : (sources : List Source) (place : ℕ) (d : Source) → place < length sources → causes_at sources place ≡ causes_of (get_or sources place d)
causes_at-get_or sources place d within = ap (λ o. option_map_or causes_of o []) (slice_get-get_or sources place d within)

pub given_at-past : (sources : List Source) (place : ℕ) → length sources ≤ place → given_at sources place ≡ None
given_at-past sources place past = ap (λ o. option_map_or number_of o None) (slice_get_past sources place past)

-- a given clause is in the table
pub given_within : (sources : List Source) (place number : ℕ) → given_at sources place ≡ Some number → place < length sources
given_within sources place number is = ⊎_elim
    (λ less. less)
    (λ (past : length sources ≤ place). absurd (none-some _ (sym (given_at-past sources place past) ∙ is)))
    (cases_lt place (length sources))

pub given_at-push : (sources : List Source) (source : Source) (place : ℕ) → place < length sources →
    given_at (sources ++ source ∷ []) place ≡ given_at sources place
given_at-push sources source place within = given_at-get_or (sources ++ source ∷ []) place source (simp length-append (omega arith)) ∙
    ap number_of (get_or-append sources (source ∷ []) source place within) ∙ sym (given_at-get_or sources place source within)

pub given_at-last : (sources : List Source) (source : Source) → given_at (sources ++ source ∷ []) (length sources) ≡ number_of source
given_at-last sources source = given_at-get_or (sources ++ source ∷ []) (length sources) source (simp length-append (omega arith)) ∙
    ap number_of (get_or-append_seam sources source [] source)

pub causes_at-push : (sources : List Source) (source : Source) (place : ℕ) → place < length sources →
    causes_at (sources ++ source ∷ []) place ≡ causes_at sources place
causes_at-push sources source place within = causes_at-get_or (sources ++ source ∷ []) place source (simp length-append (omega arith)) ∙
    ap causes_of (get_or-append sources (source ∷ []) source place within) ∙ sym (causes_at-get_or sources place source within)

pub causes_at-last : (sources : List Source) (source : Source) → causes_at (sources ++ source ∷ []) (length sources) ≡ causes_of source
causes_at-last sources source = causes_at-get_or (sources ++ source ∷ []) (length sources) source (simp length-append (omega arith)) ∙
    ap causes_of (get_or-append_seam sources source [] source)

-- a clause of the longer table is in the old table, or is the last one
pub given_at-cases : (sources : List Source) (source : Source) (place number : ℕ) → given_at (sources ++ source ∷ []) place ≡ Some number →
    ((place < length sources) × (given_at sources place ≡ Some number)) ⊎ ((place ≡ length sources) × (number_of source ≡ Some number))
given_at-cases sources source place number is = ⊎_elim
    (λ (less : place < length sources). inl (less, sym (given_at-push sources source place less) ∙ is))
    (λ (more : length sources ≤ place).
    let within = given_within (sources ++ source ∷ []) place number is in
    let last : place ≡ length sources = omega (arith, within, length-append sources (source ∷ [])) in
    inr (last, sym (given_at-last sources source) ∙ ap (λ p. given_at (sources ++ source ∷ []) p) (sym last) ∙ is))
    (cases_lt place (length sources))
