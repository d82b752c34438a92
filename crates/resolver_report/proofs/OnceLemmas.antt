-- The first one of each run of equal neighbours.
use Rattle.std.proofs.Common.{◌≡◌, ◌∙◌, Bool, true, false, cond, List, [], ◌∷◌, ap, refl}
use Rattle.std.specs.Prelude.{◌==◌}
use Rattle.std.specs.List.{dedup_from}
use Rattle.itertools.specs.List.{dedup}
use Rattle.resolver_clause_store.specs.declared.ids.VersionSetId.{VersionSetId}
use Rattle.resolver_report.specs.Messages.{once_each}
use Rattle.resolver_report.proofs.AlikeLemmas.{same_numbers}

module _ (eq : VersionSetId → VersionSetId → Bool) (same : (v w : VersionSetId) → eq v w ≡ (v.0 == w.0)) where
  abbrev once_from : VersionSetId → List VersionSetId → List VersionSetId
  once_from v ws = dedup_from (λ w kept. eq kept w) v ws

  once_behind : (v w : VersionSetId) (ws : List VersionSetId) (b : Bool) → (v.0 == w.0) ≡ b → once_from v ws ≡ once_each (v ∷ ws) →
      once_from w ws ≡ once_each (w ∷ ws)
      → cond b (once_from v ws) (v ∷ once_from w ws) ≡ cond b (once_each (w ∷ ws)) (v ∷ once_each (w ∷ ws))
  once_behind v w ws true is first second =
      let number : v.0 ≡ w.0 = same_numbers v.0 w.0 is in
      let alike : v ≡ w = λ i. record { 0 = number i } in
      first ∙ ap (λ u. once_each (u ∷ ws)) alike
  once_behind v w ws false is first second = ap (λ us. v ∷ us) second

  dedup_from_once : (v : VersionSetId) (ws : List VersionSetId) → once_from v ws ≡ once_each (v ∷ ws)
  dedup_from_once v [] = refl
  dedup_from_once v (w ∷ ws) = ap (λ b. cond b (once_from v ws) (v ∷ once_from w ws)) (same v w) ∙
      once_behind v w ws (v.0 == w.0) refl (dedup_from_once v ws) (dedup_from_once w ws)

  pub dedup_once : (vs : List VersionSetId) → dedup eq vs ≡ once_each vs
  dedup_once [] = refl
  dedup_once (v ∷ vs) = dedup_from_once v vs
