-- Sources of helpers after one more clause.
use Rattle.std.proofs.Common.{◌≡◌, ℕ, ◌<◌, ◌+◌, length, get_or, take, List, [], ◌∷◌, ◌++◌, true, sym, ap, ◌∙◌, subst, ⊎_elim, Contains}
use Rattle.std.specs.Prelude.{slice_index_or}
use Rattle.std.proofs.lemmas.List.{take_more, map-append}
use Rattle.std.proofs.lemmas.List.Elements.{Contains-append_left, Contains-push, Contains-push_cases}
use Rattle.resolver_clause_store.specs.declared.Helper.{Helper as HelperOf}
use Rattle.resolver_clause_store.specs.declared.ClauseKind.{ClauseKind}
use Rattle.resolver_clause_store.specs.declared.ClauseKind.TheVariants.{InstallRoot, Implies}
use Rattle.resolver_encoding.specs.Groups.{AddsNamed, Groups, IsInGroup}
use Rattle.resolver_encoding.specs.Sources.{AreSources}
use Rattle.resolver_clause_store.proofs.ListLemmas.{Contains-none as none_in}
use Rattle.resolver_encoding.proofs.GroupLemmas.{earlier_in, only_in}
use Rattle.resolver_encoding.specs.Values.{kinds_at}

module _ {N S : Type 0} (kinds : List (ClauseKind N S)) (k : ClauseKind N S) where
  -- a clause that gives no source
  pub sources_same : (sources : Groups (HelperOf N) S) → ((h : HelperOf N) (s : S) → k ≡ Implies s h true → ⊥) → AreSources kinds sources →
      AreSources (kinds ++ k ∷ []) sources
  sources_same sources none are = record {
    only = λ h s n. Contains-append_left kinds (k ∷ []) _ (are.only h s n);
    every = λ h s i. ⊎_elim (λ a. are.every h s a) (λ e. absurd (none h s e)) (Contains-push_cases kinds k (Implies s h true) i);
  }

  -- one more solvable that implies a helper
  pub source_noted : (old new : Groups (HelperOf N) S) (h : HelperOf N) (s : S) → k ≡ Implies s h true → AddsNamed old new h s → AreSources kinds old →
      AreSources (kinds ++ k ∷ []) new
  source_noted old new h s is adds are =
      let New : HelperOf N → S → Type 0 = λ g t. IsInGroup new g t in
      let Has : ClauseKind N S → Type 0 = λ q. Contains (kinds ++ k ∷ []) q in
      let Of : HelperOf N → S → ClauseKind N S = λ g t. Implies t g true in
      record {
        only = λ g t n. ⊎_elim
            (λ a. Contains-append_left kinds (k ∷ []) _ (are.only g t a))
            (λ (e : (g ≡ h) × (t ≡ s)). let same : k ≡ Of g t = cc in subst Has same (Contains-push kinds k))
            (only_in adds g t n);
        every = λ g t i. ⊎_elim
            (λ a. earlier_in adds g t (are.every g t a))
            (λ (e : k ≡ Implies t g true). let key : h ≡ g = cc in let one : s ≡ t = cc in subst (λ x. New x t) key (subst (λ x. New h x) one (adds.number, adds.here)))
            (Contains-push_cases kinds k (Implies t g true) i);
      }

-- one more clause of those with these numbers
pub kinds_next : {N S : Type 0} (kinds : List (ClauseKind N S)) (numbers : List ℕ) (i n : ℕ) (kind : ClauseKind N S) → i < length numbers →
    n ≡ get_or numbers i n → kind ≡ slice_index_or kinds n InstallRoot →
    kinds_at kinds (take (i + 1) numbers) ≡ kinds_at kinds (take i numbers) ++ kind ∷ []
kinds_next {N} {S} kinds numbers i n kind below is kind_is =
    let At : ℕ → ClauseKind N S = λ m. slice_index_or kinds m InstallRoot in
    let more : take (i + 1) numbers ≡ take i numbers ++ n ∷ [] = take_more numbers i n below ∙ ap (λ m. take i numbers ++ m ∷ []) (sym is) in
    ap (kinds_at kinds) more ∙ map-append At (take i numbers) (n ∷ []) ∙ ap (λ k. kinds_at kinds (take i numbers) ++ k ∷ []) (sym kind_is)

pub sources_next : {N S : Type 0} (kinds : List (ClauseKind N S)) (numbers : List ℕ) (i n : ℕ) (k : ClauseKind N S) (sources : Groups (HelperOf N) S) → i < length numbers →
    n ≡ get_or numbers i n → k ≡ slice_index_or kinds n InstallRoot →
    AreSources (kinds_at kinds (take i numbers) ++ k ∷ []) sources → AreSources (kinds_at kinds (take (i + 1) numbers)) sources
sources_next {N} {S} kinds numbers i n k sources below is kind_is are =
    let Are : List (ClauseKind N S) → Type 0 = λ ks. AreSources ks sources in
    subst Are (sym (kinds_next kinds numbers i n k below is kind_is)) are

-- without clauses there are no sources
pub no_sources : {N S : Type 0} (sources : Groups (HelperOf N) S) → ((h : HelperOf N) (s : S) → IsInGroup sources h s → ⊥) → AreSources [] sources
no_sources sources none = record {
  only = λ h s n. absurd (none h s n);
  every = λ h s i. absurd (none_in (Implies s h true) i);
}
