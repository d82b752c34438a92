-- The last instances, with one more rule.
use Rattle.std.proofs.Common.{◌≡◌, ℕ, ◌+◌, ◌<◌, Bool, List, [], ◌∷◌, ◌++◌, length, reverse, refl, sym, ◌∙◌, ap, get_or, take}
use Rattle.std.specs.Prelude.{Option}
use Rattle.std.proofs.lemmas.List.{reverse-append, take_more}
use Rattle.resolver_report.specs.declared.graph.Link.{Link}
use Rattle.resolver_clause_store.specs.declared.Rule.{Rule}
use Rattle.resolver_clause_store.specs.declared.Rule.TheVariants.{Requires, Constrains, Lock, Excluded, OnePerPackage}
use Rattle.resolver_report.specs.Graphs.{links, links_of, last_instance}
use Rattle.resolver_report.specs.LastInstances.{links_with_last, last_after}
use Rattle.resolver_report.proofs.GraphLemmas.{links-push}

module _ {N S : Type 0} (same : N → N → Bool) where
  of_marked : (earlier : List (Rule N S)) (rule : Rule N S) → links_of same earlier rule ≡ links_with_last (λ n. last_instance same n earlier) rule
  of_marked earlier (Requires by requirement candidates when) = refl
  of_marked earlier (Constrains by version_set candidate) = refl
  of_marked earlier (Lock locked forbidden) = refl
  of_marked earlier (Excluded solvable reason) = refl
  of_marked earlier (OnePerPackage name instance) = refl

  after_marked : (earlier : List (Rule N S)) (rule : Rule N S) (n : N) →
      last_instance same n (rule ∷ earlier) ≡ last_after same rule n (last_instance same n earlier)
  after_marked earlier (Requires by requirement candidates when) n = refl
  after_marked earlier (Constrains by version_set candidate) n = refl
  after_marked earlier (Lock locked forbidden) n = refl
  after_marked earlier (Excluded solvable reason) n = refl
  after_marked earlier (OnePerPackage name instance) n = refl

  module _ (rules : List (Rule N S)) (i : ℕ) (rule : Rule N S) (h : i < length rules) (is : rule ≡ get_or rules i rule) (last : N → Option S)
      (are : (n : N) → last n ≡ last_instance same n (reverse (take i rules))) where
    next : take (i + 1) rules ≡ take i rules ++ rule ∷ []
    next = take_more rules i rule h ∙ ap (λ z. take i rules ++ z ∷ []) (sym is)

    pub links_next : (found made : List (Link S)) → found ≡ links same (take i rules) → made ≡ found ++ links_with_last last rule →
        made ≡ links same (take (i + 1) rules)
    links_next found made e f =
        let told : links_of same (reverse (take i rules)) rule ≡ links_with_last last rule = of_marked (reverse (take i rules)) rule ∙
        sym (ap (λ l. links_with_last l rule) (λ k n. are n k)) in
        f ∙ ap (λ xs. xs ++ links_with_last last rule) e ∙ ap (λ xs. links same (take i rules) ++ xs) (sym told) ∙ sym (links-push same (take i rules) rule) ∙
        ap (links same) (sym next)

    pub marks_next : (later : N → Option S) → ((n : N) → later n ≡ last_after same rule n (last n)) → (n : N) →
        later n ≡ last_instance same n (reverse (take (i + 1) rules))
    marks_next later told n =
        told n ∙ ap (last_after same rule n) (are n) ∙ sym (after_marked (reverse (take i rules)) rule n) ∙
        ap (last_instance same n) (sym (reverse-append (take i rules) (rule ∷ []))) ∙ ap (λ xs. last_instance same n (reverse xs)) (sym next)
