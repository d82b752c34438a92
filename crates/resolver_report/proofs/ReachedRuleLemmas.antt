-- Rules about anything that is not reached can be left out.
use Rattle.std.proofs.Common.{zero, suc, ◌⊎◌, List, [], ◌∷◌, sym, subst, inl, inr, arith, Contains, All, Vec, Global}
use Rattle.std.proofs.lemmas.List.Elements.{All-cons, All-head, All-tail, All-weaker, All-contains, Contains-append_right}
use Rattle.resolver_clause_store.specs.Lists.{IsInterleaving, interleave_none, interleave_left, interleave_right, IsWithin, Meets}
use Rattle.resolver_clause_store.specs.declared.By.{By}
use Rattle.resolver_clause_store.specs.declared.By.TheVariants.{Root, Solvable}
use Rattle.resolver_clause_store.specs.declared.Requirement.{Requirement}
use Rattle.resolver_clause_store.specs.declared.Rule.{Rule}
use Rattle.resolver_clause_store.specs.declared.Rule.TheVariants.{Requires, Constrains, Lock, Excluded, OnePerPackage}
use Rattle.resolver_report.specs.ReachedRules.{IsReachedBy, by_root, by_reached, IsRequirerReached, IsKept, LeavesKept}
use Rattle.resolver_clause_store.specs.Statements.{statement_of, IsPresent, ObeysAlone}
use Rattle.resolver_clause_store.specs.Rules.{IsRefuted, Obeys}
use Rattle.resolver_clause_store.specs.NumberedLists.{items_of}
use Rattle.resolver_report.proofs.SearchLemmas.{AllMeet-within}

-- each element of a list that was cut is in one of the parts
in_part : {X : Type 0} {xs ys zs : List X} → IsInterleaving xs ys zs → (x : X) → Contains xs x → Contains ys x ⊎ Contains zs x
in_part interleave_none x h = inl h
in_part (interleave_left {x = y} {ys = ys} rest) x (zero, below, is) = inl (zero, omega arith, is)
in_part (interleave_left {x = y} {ys = ys} rest) x (suc k, below, is) =
    elim (in_part rest x (k, omega (arith, below), is)) [ inl h ↦ inl (Contains-append_right (y ∷ []) ys x h) | inr h ↦ inr h ]
in_part (interleave_right {x = y} {zs = zs} rest) x (zero, below, is) = inr (zero, omega arith, is)
in_part (interleave_right {x = y} {zs = zs} rest) x (suc k, below, is) =
    elim (in_part rest x (k, omega (arith, below), is)) [ inl h ↦ inl h | inr h ↦ inr (Contains-append_right (y ∷ []) zs x h) ]

-- a kept rule of the list stays in it
Contains-kept : {N S : Type 0} (rules kept : List (Rule N S)) → LeavesKept rules kept → (rule : Rule N S) → Contains rules rule → IsKept rules rule →
    Contains kept rule
Contains-kept rules kept left rule listed is =
    elim (in_part left.cut rule listed) [ inl h ↦ h | inr h ↦ absurd (All-contains (λ r. IsKept rules r → ⊥) left.dropped rule left.none_dropped h is) ]

-- The reached part of a set. Whether a solvable is reached is not decided, but each proof of a contradiction may assume it to be decided.
pub record IsReachedPart {N S : Type 0} (rules : List (Rule N S)) (set part : List S) : Type 0 where
  pub within : IsWithin part set
  pub reached : (s : S) → Contains part s → IsReachedBy rules s
  pub all : (s : S) → Contains set s → IsReachedBy rules s → Contains part s

module _ {N S : Type 0} (rules : List (Rule N S)) where
  with_reached : (x : S) (xs part : List S) → IsReachedPart rules xs part → IsReachedBy rules x → IsReachedPart rules (x ∷ xs) (x ∷ part)
  with_reached x xs part h is = record {
    within = within;
    reached = reached;
    all = all;
  }
    where
      within : (s : S) → Contains (x ∷ part) s → Contains (x ∷ xs) s
      within s (zero, below, same) = (zero, omega arith, same)
      within s (suc k, below, same) = Contains-append_right (x ∷ []) xs s (h.within s (k, omega (arith, below), same))

      reached : (s : S) → Contains (x ∷ part) s → IsReachedBy rules s
      reached s (zero, below, same) = subst (IsReachedBy rules) same is
      reached s (suc k, below, same) = h.reached s (k, omega (arith, below), same)

      all : (s : S) → Contains (x ∷ xs) s → IsReachedBy rules s → Contains (x ∷ part) s
      all s (zero, below, same) r = (zero, omega arith, same)
      all s (suc k, below, same) r = Contains-append_right (x ∷ []) part s (h.all s (k, omega (arith, below), same) r)

  with_unreached : (x : S) (xs part : List S) → IsReachedPart rules xs part → (IsReachedBy rules x → ⊥) → IsReachedPart rules (x ∷ xs) part
  with_unreached x xs part h not_reached = record {
    within = λ s inside. Contains-append_right (x ∷ []) xs s (h.within s inside);
    reached = h.reached;
    all = all;
  }
    where
      all : (s : S) → Contains (x ∷ xs) s → IsReachedBy rules s → Contains part s
      all s (zero, below, same) r = absurd (not_reached (subst (IsReachedBy rules) (sym same) r))
      all s (suc k, below, same) r = h.all s (k, omega (arith, below), same) r

  reached_part : (set : List S) → ((part : List S) → IsReachedPart rules set part → ⊥) → ⊥
  reached_part [] none = none [] (record { within = λ s h. h; reached = λ s h. absurd (omega (arith, h.1)); all = λ s h r. h })
  reached_part (x ∷ xs) none = reached_part xs (λ part h. none part (with_unreached x xs part h (λ is. none (x ∷ part) (with_reached x xs part h is))))

module _ {N S : Type 0} (rules kept : List (Rule N S)) (left : LeavesKept rules kept) (set part : List S) (obeys : Obeys set kept)
    (is : IsReachedPart rules set part) where
  requirer_reached : (by : By S) → IsPresent by part → IsRequirerReached rules by
  requirer_reached Root here = tt
  requirer_reached (Solvable s) here = is.reached s here

  requirer_present : (by : By S) → IsPresent by part → IsPresent by set
  requirer_present Root here = tt
  requirer_present (Solvable s) here = is.within s here

  candidate_reached : (by : By S) (requirement : Requirement) (candidates : Vec S Global) (when : Vec (Vec S Global) Global) (s : S) → IsPresent by part →
      Contains rules (Requires by requirement candidates when) → Contains candidates.items s → IsReachedBy rules s
  candidate_reached Root requirement candidates when s here listed inside = by_root listed inside
  candidate_reached (Solvable t) requirement candidates when s here listed inside = by_reached (is.reached t here) listed inside

  part_obeys : (rule : Rule N S) → Contains rules rule → ObeysAlone part (statement_of rule)
  part_obeys (Requires by requirement candidates when) listed = λ here meet.
      let met : Meets candidates.items set =
      obeys.each (Requires by requirement candidates when)
      (Contains-kept rules kept left (Requires by requirement candidates when) listed (requirer_reached by here)) (requirer_present by here)
      (AllMeet-within (items_of when.items) part set is.within meet) in
      record {
        shared = met.shared;
        in_first = met.in_first;
        in_second = is.all met.shared met.in_second (candidate_reached by requirement candidates when met.shared here listed met.in_first);
      }
  part_obeys (Constrains by version_set candidate) listed = λ here inside.
      obeys.each (Constrains by version_set candidate)
      (Contains-kept rules kept left (Constrains by version_set candidate) listed (requirer_reached by here, is.reached candidate inside))
      (requirer_present by here) (is.within candidate inside)
  part_obeys (Lock locked forbidden) listed =
      λ inside. obeys.each (Lock locked forbidden) (Contains-kept rules kept left (Lock locked forbidden) listed (is.reached forbidden inside))
      (is.within forbidden inside)
  part_obeys (Excluded solvable reason) listed =
      λ inside. obeys.each (Excluded solvable reason) (Contains-kept rules kept left (Excluded solvable reason) listed (is.reached solvable inside))
      (is.within solvable inside)
  part_obeys (OnePerPackage name instance) listed = tt

  Obeys-part : Obeys part rules
  Obeys-part = record {
    each = part_obeys;
    one_each = λ n s t first second inside also.
        obeys.one_each n s t (Contains-kept rules kept left (OnePerPackage n s) first (is.reached s inside))
        (Contains-kept rules kept left (OnePerPackage n t) second (is.reached t also)) (is.within s inside) (is.within t also);
  }

-- the kept rules of refuted rules are refuted
pub IsRefuted-kept : {N S : Type 0} (rules kept : List (Rule N S)) → LeavesKept rules kept → IsRefuted rules → IsRefuted kept
IsRefuted-kept rules kept left refuted set obeys = reached_part rules set (λ part is. refuted part (Obeys-part rules kept left set part obeys is))

-- a property of each rule is one of each kept rule
pub All-left : {X : Type 0} {xs ys zs : List X} (P : X → Type 0) → IsInterleaving xs ys zs → All P xs → All P ys
All-left P interleave_none all = all
All-left P (interleave_left {x = x} {xs = xs} {ys = ys} rest) all = All-cons P x ys (All-head P x xs all) (All-left P rest (All-tail P x xs all))
All-left P (interleave_right {x = x} {xs = xs} rest) all = All-left P rest (All-tail P x xs all)

-- the kept rules reach what all rules reach
IsReachedBy-kept : {N S : Type 0} (rules kept : List (Rule N S)) → LeavesKept rules kept → (s : S) → IsReachedBy rules s → IsReachedBy kept s
IsReachedBy-kept rules kept left s (by_root {requirement = requirement} {candidates = candidates} {when = when} listed inside) =
    by_root (Contains-kept rules kept left (Requires Root requirement candidates when) listed tt) inside
IsReachedBy-kept rules kept left s (by_reached {t = t} {requirement = requirement} {candidates = candidates} {when = when} r listed inside) =
    by_reached (IsReachedBy-kept rules kept left t r) (Contains-kept rules kept left (Requires (Solvable t) requirement candidates when) listed r) inside

requirer_kept : {N S : Type 0} (rules kept : List (Rule N S)) → LeavesKept rules kept → (by : By S) → IsRequirerReached rules by → IsRequirerReached kept by
requirer_kept rules kept left Root h = tt
requirer_kept rules kept left (Solvable s) h = IsReachedBy-kept rules kept left s h

IsKept-kept : {N S : Type 0} (rules kept : List (Rule N S)) → LeavesKept rules kept → (rule : Rule N S) → IsKept rules rule → IsKept kept rule
IsKept-kept rules kept left (Requires by requirement candidates when) h = requirer_kept rules kept left by h
IsKept-kept rules kept left (Constrains by version_set candidate) (requirer, h) =
    (requirer_kept rules kept left by requirer, IsReachedBy-kept rules kept left candidate h)
IsKept-kept rules kept left (Lock locked forbidden) h = IsReachedBy-kept rules kept left forbidden h
IsKept-kept rules kept left (Excluded solvable reason) h = IsReachedBy-kept rules kept left solvable h
IsKept-kept rules kept left (OnePerPackage name instance) h = IsReachedBy-kept rules kept left instance h

-- each kept rule would be kept again
pub AllKept-kept : {N S : Type 0} (rules kept : List (Rule N S)) → LeavesKept rules kept → All (IsKept kept) kept
AllKept-kept rules kept left = All-weaker (IsKept rules) (IsKept kept) (λ rule h. IsKept-kept rules kept left rule h) kept left.all_left
