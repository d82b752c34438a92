-- The exemptions that the clauses spare.
use Rattle.std.proofs.Common.{◌⊎◌, List, ⊎_elim, Contains}
use Rattle.resolver_clause_store.specs.Universe.{Universe}
use Rattle.resolver_clause_store.specs.declared.ClauseKind.{ClauseKind}
use Rattle.resolver_encoding.specs.Truth.{Spares, AreDue}

-- the present exemptions, and further ones in packages that were not asked
pub Spares-further : {N S : Type 0} (u : Universe N S) (asked : List N) (exempt more : List S) (kinds : List (ClauseKind N S)) → AreDue u asked exempt kinds →
    ((s : S) → Contains more s → Contains exempt s ⊎ (Contains asked (u.name s) → ⊥)) → Spares u more kinds
Spares-further u asked exempt more kinds due further = record {
  locks = λ s t clause free. let d = due.locks s t clause in ⊎_elim d.1 (λ not_asked. not_asked d.0) (further t free);
  exclusions = λ s reason clause free. ⊎_elim
      (λ d. absurd (⊎_elim d.1 (λ not_asked. not_asked d.0) (further s free)))
      (λ e. e)
      (due.exclusions s reason clause);
}
