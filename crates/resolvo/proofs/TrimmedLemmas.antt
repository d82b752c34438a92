-- The rules that are left after new searches over them alone.
use Rattle.std.proofs.Common.{◌≡◌, List, [], ◌∷◌, Bool, true, false, All, length, replicate, ap, sym, subst, ◌∙◌}
use Rattle.std.specs.List.{AllZip}
use Rattle.resolver_clause_store.specs.Lists.{IsInterleaving, interleave_none, interleave_left, interleave_right}
use Rattle.resolver_clause_store.specs.Statements.{StatesTheSame}
use Rattle.resolver_clause_store.specs.Rules.{IsRefuted}
use Rattle.resolver_clause_store.specs.TrueRules.{IsTrueRule}
use Rattle.resolver_clause_store.specs.declared.Rule.{Rule}
use Rattle.resolver_clause_store.specs.Universe.{Demands, Universe}
use Rattle.resolver_report.proofs.ReachedRuleLemmas.{All-left}
use Rattle.resolver_report.specs.ReachedRules.{IsKept, LeavesKept}
use Rattle.resolvo.proofs.MinimalLemmas.{all_marked, cut_again, cut_zip}
use Rattle.resolvo.proofs.SameLemmas.{AllTrue-same, IsRefuted-same}
use Rattle.resolvo.specs.Explanations.{Explains}
use Rattle.resolvo.specs.Minimal.{CopiesPart, only_marked}

-- the marked elements are a part, in order
marked_cut : {X : Type 0} (marks : List Bool) (xs : List X) → (dropped : List X) × IsInterleaving xs (only_marked marks xs) dropped
marked_cut [] [] = ([], interleave_none)
marked_cut [] (x ∷ xs) = let w = marked_cut [] xs in (x ∷ w.0, interleave_right w.1)
marked_cut (b ∷ marks) [] = ([], interleave_none)
marked_cut (true ∷ marks) (x ∷ xs) = let w = marked_cut marks xs in (w.0, interleave_left w.1)
marked_cut (false ∷ marks) (x ∷ xs) = let w = marked_cut marks xs in (x ∷ w.0, interleave_right w.1)

-- all elements are marked
pub all_used : {N S : Type 0} (rules : List (Rule N S)) (marks : List Bool) → marks ≡ replicate (length rules) true → IsRefuted rules →
    IsRefuted (only_marked marks rules)
all_used {N} {S} rules marks is refuted = let P : List (Rule N S) → Type 0 = λ q. IsRefuted q in
    subst P (sym (ap (λ q. only_marked q rules) is ∙ all_marked rules)) refuted

-- copies of the marked rules, without those about anything that is not reached
module _ {N S : Type 0} (rules : List (Rule N S)) (marks : List Bool) (copies kept : List (Rule N S))
    (same : AllZip StatesTheSame (only_marked marks rules) copies) (leaves : LeavesKept copies kept) where
  pub trimmed_part : CopiesPart rules kept
  trimmed_part =
      let first = marked_cut marks rules in
      let second = cut_zip StatesTheSame (only_marked marks rules) leaves.cut same in
      let whole = cut_again first.1 second.2 in
      record { left = second.0; dropped = whole.0; cut = whole.1; same = second.3 }

  pub trimmed_refuted : (IsRefuted rules → IsRefuted (only_marked marks rules)) → (IsRefuted copies → IsRefuted kept) → IsRefuted rules → IsRefuted kept
  trimmed_refuted used stays refuted = stays (IsRefuted-same (only_marked marks rules) copies same (used refuted))

  pub trimmed_explains : (IsRefuted rules → IsRefuted (only_marked marks rules)) → (IsRefuted copies → IsRefuted kept) → All (IsKept kept) kept →
      (u : Universe N S) (root : Demands) → Explains u root rules → Explains u root kept
  trimmed_explains used stays again u root explains = record {
    each_true = AllTrue-same u root trimmed_part.left kept trimmed_part.same (All-left (IsTrueRule u root) trimmed_part.cut explains.each_true);
    refuted = trimmed_refuted used stays explains.refuted;
    each_reached = again;
  }
