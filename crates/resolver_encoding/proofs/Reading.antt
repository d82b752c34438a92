-- The clauses of the solvables that were read cover everything that is reached by need.
use Rattle.resolver_encoding.specs.Truth.{HasLawfulSolvables}
use Rattle.std.proofs.Common.{◌⊎◌, List, inr, sym, subst, ⊎_elim, Contains}
use Rattle.std.specs.Prelude.{map}
use Rattle.std.proofs.lemmas.List.Elements.{All-weaker}
use Rattle.resolver_clause_store.specs.Laws.{HasLawfulPackages}
use Rattle.resolver_clause_store.specs.Lists.{Meets, IsWithin}
use Rattle.resolver_clause_store.specs.Universe.{Universe, Demands}
use Rattle.resolver_clause_store.specs.Candidates.{matching, requirement_candidates}
use Rattle.resolver_clause_store.specs.Conditions.{IsActive}
use Rattle.resolver_clause_store.specs.Reached.{IsReached, by_seed, by_root, by_reached}
use Rattle.resolver_clause_store.specs.declared.ConditionalRequirement.{ConditionalRequirement}
use Rattle.resolver_clause_store.specs.declared.Requirement.{Requirement}
use Rattle.resolver_clause_store.specs.declared.VersionSetId.{VersionSetId}
use Rattle.resolver_clause_store.specs.declared.By.{By}
use Rattle.resolver_clause_store.specs.declared.By.TheVariants.{Root as ByRoot, Solvable as BySolvable}
use Rattle.resolver_clause_store.specs.Statements.{IsPresent, AllMeet}
use Rattle.resolver_clause_store.specs.TrueRules.{demands_by}
use Rattle.resolver_clause_store.specs.declared.ClauseKind.{ClauseKind}
use Rattle.resolver_encoding.specs.Read.{IsMade, made_direct, made_gated}
use Rattle.resolver_encoding.specs.ReadState.{Deferred, HasClause, has_direct, has_gate, IsRead, AreSeeds, NoneFires}
use Rattle.resolver_clause_store.proofs.RequirementLemmas.{candidate_matches, matching_named}
use Rattle.resolver_encoding.specs.TrailAtoms.{CoversReached}

module _ {N S : Type 0} (u : Universe N S) (ids : HasLawfulSolvables u) (packages : HasLawfulPackages u) where
  module _ (root : Demands) (kinds : List (ClauseKind N S)) (IsLeft : Deferred S → Type 0) (read : List S) (asked : List N) (registered exempt : List S)
      (state : IsRead u root kinds IsLeft read asked registered exempt)
      (chosen seeds : List S) (seeded : AreSeeds u seeds chosen asked registered exempt)
      (all_read : (s : S) → Contains chosen s → Contains registered s → Contains read s) (quiet : NoneFires u IsLeft chosen) where
    -- an active requirement has its clauses under a disjunct that is met
    has_clause : (part : List S) → IsWithin part chosen → (by : By S) (r : ConditionalRequirement) → IsPresent by read →
        Contains (demands_by u root by).requirements r → IsActive u (Contains part) r →
        (list : List VersionSetId) × AllMeet part (map (matching u) list) × HasClause kinds by list r.requirement
    has_clause part within by r present asks active =
        let it = state.requirements by r present asks in
        let w = it.complete part active in
        ⊎_elim
        (λ clause. (w.0, w.2, clause))
        (λ waits. absurd (quiet.none (record { by = by; disjunct = w.0; requirement = r.requirement }) waits
        (All-weaker (λ xs. Meets xs part) (λ xs. Meets xs chosen) (λ xs m.
        record { shared = m.shared; in_first = m.in_first; in_second = within m.shared m.in_second }) (map (matching u) w.0) w.2)))
        (it.each w.0 w.1)

    abbrev Reached : S → Type 0
    Reached s = IsReached u root chosen seeds s

    of_clause : (by : By S) (r : ConditionalRequirement) (s : S) → IsPresent by read → Contains (demands_by u root by).requirements r →
        IsActive u (Contains chosen) r → Contains (requirement_candidates u r.requirement) s →
        Contains registered s × Contains asked (u.name s)
    of_clause by r s present asks active candidate =
        let w = has_clause chosen (λ x h. h) by r present asks active in
        let m = candidate_matches u packages ids.same_solvable r.requirement s candidate in
        let Asked : N → Type 0 = λ n. Contains asked n in (
          state.candidates by w.0 r.requirement w.2 s candidate,
          subst Asked (sym (matching_named u packages m.0 s m.2))
              (state.packages by w.0 r.requirement w.2 m.0 m.1),
        )

    is_chosen : {s : S} → Reached s → Contains chosen s
    is_chosen {s} (by_seed seed inside) = seeded.seed_chosen s seed
    is_chosen (by_root r listed active candidate inside) = inside
    is_chosen (by_reached r before listed active candidate inside) = inside

    reached_is : (s : S) → Reached s → Contains registered s × (Contains exempt s ⊎ Contains asked (u.name s))
    reached_is s (by_seed seed inside) = (seeded.seed_registered s seed, seeded.seed_free s seed)
    reached_is s (by_root r listed active candidate inside) =
        let w = of_clause ByRoot r s tt listed active candidate in (w.0, inr w.1)
    reached_is s (by_reached {t = t} r before listed active candidate inside) =
        let w = of_clause (BySolvable t) r s (all_read t (is_chosen before) (reached_is t before).0) listed active candidate in (w.0, inr w.1)

    free_or_asked : (s : S) → Reached s → (Contains exempt s → ⊥) → Contains asked (u.name s)
    free_or_asked s h free = ⊎_elim (λ e. absurd (free e)) (λ a. a) (reached_is s h).1

    present_read : (part : List S) → IsWithin part chosen → ((s : S) → Contains part s → Reached s) → (by : By S) → IsPresent by part → IsPresent by read
    present_read part within reached ByRoot h = tt
    present_read part within reached (BySolvable s) h = all_read s (within s h) (reached_is s (reached s h)).0

    is_made : (part : List S) (by : By S) (r : Requirement) (list : List VersionSetId) → AllMeet part (map (matching u) list) → HasClause kinds by list r →
        IsMade u kinds part by r
    is_made part by r list meets (has_direct disjunct is clause) =
        let Meet : List VersionSetId → Type 0 = λ vs. AllMeet part (map (matching u) vs) in made_direct disjunct (subst Meet (sym is) meets) clause
    is_made part by r list meets (has_gate s is none implied gate) = made_gated s is implied gate

    pub covers_reached : CoversReached u root kinds chosen seeds exempt
    covers_reached part within reached = record {
      installs = state.installs;
      requirements = λ by r present asks active.
          let w = has_clause part within by r (present_read part within reached by present) asks active in is_made part by r.requirement w.0 w.1 w.2;
      helpers = state.helpers;
      constraints = λ by v s present asks other inside. state.constraints by v s (present_read part within reached by present) asks other;
      instances = λ s t first second name differ. state.instances s t (reached_is s (reached s first)).0 (reached_is t (reached t second)).0 name differ;
      locks = λ s inside free out. (out.0, state.locks s out.0 (free_or_asked s (reached s inside) free) free out.1 out.2 out.3);
      exclusions = λ s reason inside free listed. state.exclusions s reason (free_or_asked s (reached s inside) free) free listed;
      unknowns = λ s reason inside e. state.unknowns s reason (all_read s (within s inside) (reached_is s (reached s inside)).0) e;
    }
