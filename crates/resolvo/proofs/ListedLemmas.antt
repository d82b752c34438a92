-- Marked variables that are listed.
use Rattle.std.proofs.Common.{◌≡◌, ◌≢◌, ℕ, ◌+◌, ◌<◌, List, length, get_or, set, take, Some, Bool, true, false, sym, ap}
use Rattle.std.proofs.Common.{◌∙◌, subst, ⊎_elim, length-set, get_or-set_other}
use Rattle.std.specs.List.{All, Contains}
use Rattle.std.proofs.lemmas.Bool.{both_ways, cases_eq}
use Rattle.std.specs.List.Sorted.{IsPermutation}
use Rattle.std.proofs.lemmas.List.Elements.{All-contains, All-more, All-weaker}
use Rattle.std.proofs.lemmas.List.Sorted.{All-permutation, Contains-permutation}
use Rattle.resolver_clause_store.specs.Literals.{Literal}
use Rattle.resolver_clause_store.specs.declared.Slot.{Slot}
use Rattle.resolver_clause_store.specs.declared.Trail.{Trail}
use Rattle.resolver_clause_store.specs.TrailView.{literal_value, slot_of}
use Rattle.resolver_clause_store.specs.Outcomes.{IsFalsified}
use Rattle.resolvo.specs.Resolvents.{AddsNegation, ListsMarks, Negates, is_marked}
use Rattle.resolvo.proofs.NegationLemmas.{negation}

-- the list of marked variables after a mark is cleared
pub lists-fewer : (marks : List Bool) (marked : List ℕ) (variable : ℕ) → is_marked (set marks variable false) variable ≡ false → ListsMarks marks marked →
    ListsMarks (set marks variable false) marked
lists-fewer marks marked variable gone lists = record {
  within = rw length-set lists.within;
  all = λ w m. ⊎_elim
      (λ (e : w ≡ variable). absurd (both_ways _ gone (ap (λ v. is_marked (set marks variable false) v) (sym e) ∙ m)))
      (λ (ne : w ≢ variable). lists.all w (sym (get_or-set_other marks variable w false false ne) ∙ m))
      (cases_eq w variable);
}

-- the marks of these variables are cleared, and no other mark is set
pub record Unmarks (old new : List Bool) (gone : List ℕ) : Type 0 where
  pub size : length new ≡ length old
  pub left : (variable : ℕ) → is_marked new variable ≡ true → (is_marked old variable ≡ true) × All (λ other. other ≢ variable) gone

-- the literals of these variables, if they are marked and have a value
pub record NegatesListed (trail : Trail) (marks : List Bool) (literals : List Literal) (listed : List ℕ) : Type 0 where
  pub falsified : IsFalsified trail literals
  pub only : All (λ (literal : Literal). is_marked marks literal.variable ≡ true) literals
  pub each : All (λ variable. (slot : Slot) → is_marked marks variable ≡ true → slot_of trail variable ≡ Some slot →
      Contains literals (negation variable slot)) listed

pub listed-more : (trail : Trail) (marks : List Bool) (old new : List Literal) (marked : List ℕ) (i d : ℕ) → NegatesListed trail marks old (take i marked) →
    i < length marked → AddsNegation trail marks (get_or marked i d) old new → NegatesListed trail marks new (take (i + 1) marked)
listed-more trail marks old new marked i d so within adds =
    let Held : List Literal → ℕ → Type 0 = λ literals variable. (slot : Slot) → is_marked marks variable ≡ true → slot_of trail variable ≡ Some slot →
    Contains literals (negation variable slot) in
    record {
      falsified = adds.falsified so.falsified;
      only = adds.only so.only;
      each = All-more (Held new) marked i d within (All-weaker (Held old) (Held new) (λ v h s m at. adds.kept _ (h s m at)) _ so.each) adds.added;
    }

pub listed-all : (trail : Trail) (marks : List Bool) (literals : List Literal) (marked listed : List ℕ) → ListsMarks marks marked → listed ≡ marked →
    NegatesListed trail marks literals listed → Negates trail marks literals
listed-all trail marks literals marked listed lists is so =
    let Held : ℕ → Type 0 = λ variable. (slot : Slot) → is_marked marks variable ≡ true → slot_of trail variable ≡ Some slot →
    Contains literals (negation variable slot) in
    record {
      falsified = so.falsified;
      only = so.only;
      each = λ v s m at. All-contains Held listed v so.each (subst (λ xs. Contains xs v) (sym is) (lists.all v m)) s m at;
    }

-- literals in another order
pub negates-permuted : (trail : Trail) (marks : List Bool) (old new : List Literal) → IsPermutation old new → Negates trail marks old → Negates trail marks new
negates-permuted trail marks old new same negates = record {
  falsified = All-permutation (λ literal. literal_value trail literal ≡ Some false) old new same negates.falsified;
  only = All-permutation (λ (literal : Literal). is_marked marks literal.variable ≡ true) old new same negates.only;
  each = λ v s m at. Contains-permutation old new _ same (negates.each v s m at);
}
