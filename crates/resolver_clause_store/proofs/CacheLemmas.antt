-- Look-ups in a table of true entries, and the entries of a table after an answer is put in.
use Rattle.std.proofs.Common.{◌≡◌, ◌∙◌, ap, Bool, List, [], All}
use Rattle.std.specs.Prelude.{Some}
use Rattle.std.specs.Map.{lookup}
use Rattle.std.proofs.lemmas.List.Elements.{All-contains, All-nil, All-same}
use Rattle.std.proofs.lemmas.Map.Views.{Contains-from_lookup}
use Rattle.resolver_clause_store.specs.Caches.{IsTrueCache, KeepsAnswers}
use Rattle.resolver_clause_store.specs.Candidates.{matching as matching_in, others, favored_first, sorted_candidates}
use Rattle.resolver_clause_store.specs.Laws.{IsIdentity}
use Rattle.resolver_clause_store.specs.Universe.{Universe, Package, package_of, needs_of}
use Rattle.resolver_clause_store.specs.declared.ids.VersionSetId.{VersionSetId}
use Rattle.resolver_clause_store.specs.declared.data.Candidates.{Candidates}
use Rattle.resolver_clause_store.specs.declared.cache.Cache.{Cache}

-- a property of each entry is one of the key and the value that a look-up finds
pub found : {K X : Type 0} {same : K → K → Bool} → IsIdentity same → (P : K × X → Type 0) (k : K) (v : X) (es : List (K × X)) → All P es →
    lookup (same k) es ≡ Some v → P (k, v)
found identity P k v es all is = All-contains P es (k, v) all (Contains-from_lookup identity.alone k v es is)

-- a cache whose tables are empty
pub IsTrueCache-empty : {N S : Type 0} (u : Universe N S) (c : Cache N S) → c.packages.entries ≡ [] → c.matching.entries ≡ [] → c.non_matching.entries ≡ [] →
    c.sorted.entries ≡ [] → c.dependencies.entries ≡ [] → IsTrueCache u c
IsTrueCache-empty u c packages matching non_matching sorted dependencies = record {
  packages = All-same (λ e. package_of (Some e.1) ≡ u.package_named e.0) _ _ packages (All-nil _);
  matching = All-same (λ e. e.1.items ≡ matching_in u e.0) _ _ matching (All-nil _);
  non_matching = All-same (λ e. e.1.items ≡ others u e.0) _ _ non_matching (All-nil _);
  sorted = All-same (λ e. e.1.items ≡ sorted_candidates u e.0) _ _ sorted (All-nil _);
  dependencies = All-same (λ e. needs_of e.1 ≡ u.needs e.0) _ _ dependencies (All-nil _);
}

-- the candidates of a package, under another name of the same package
module _ {N S : Type 0} (u : Universe N S) (answer : Candidates S) (n m : N) (is : package_of (Some answer) ≡ u.package_named n) (same : n ≡ m) where
  package_at : package_of (Some answer) ≡ u.package_named m
  package_at = is ∙ ap u.package_named same

  pub listed_at : (xs : List S) → xs ≡ answer.candidates.items → xs ≡ (u.package_named m).listed
  listed_at xs held = held ∙ ap (λ (p : Package S). p.listed) package_at

-- the candidates of a package that match a version set, sorted and with the favored one first
pub sorted_at : {N S : Type 0} (u : Universe N S) (v : VersionSetId) (listing : Candidates S) (n : N) (items : List S) →
    package_of (Some listing) ≡ u.package_named n → n ≡ u.version_set_name v →
    items ≡ favored_first u listing.favored (u.sorted_of (u.matching_of listing.candidates.items v)) → items ≡ sorted_candidates u v
sorted_at {S = S} u v listing n items answered named is =
    is ∙ ap (λ (p : Package S). favored_first u p.favored (u.sorted_of (u.matching_of p.listed v))) (package_at u listing n _ answered named)

-- answers stay over two steps, and over none
pub KeepsAnswers-trans : {N S : Type 0} (before between after : Cache N S) → KeepsAnswers before between → KeepsAnswers between after →
    KeepsAnswers before after
KeepsAnswers-trans before between after first then = record {
  packages = λ k h. then.packages k (first.packages k h);
  matching = λ k h. then.matching k (first.matching k h);
  non_matching = λ k h. then.non_matching k (first.non_matching k h);
  sorted = λ k h. then.sorted k (first.sorted k h);
  dependencies = λ k h. then.dependencies k (first.dependencies k h);
}
