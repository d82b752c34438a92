-- The outcome of a search gives an answer or a conflict that explains.
use Rattle.std.proofs.Common.{ℕ, List, All, Bool}
use Rattle.resolver_clause_store.specs.Laws.{IsIdentity}
use Rattle.resolver_clause_store.specs.Outcomes.{IsCore}
use Rattle.resolver_clause_store.specs.Universe.{Universe, Demands}
use Rattle.resolver_clause_store.specs.declared.Exhausted.TheVariants.{Memory, Ids}
use Rattle.resolver_clause_store.specs.declared.Exhausted.{Exhausted as Shortage}
use Rattle.resolver_encoding.specs.Encodings.{IsEncoding, Notes}
use Rattle.resolver_encoding.specs.Refusals.{IsShortage}
use Rattle.resolver_encoding.specs.Core.{implied_in}
use Rattle.resolver_encoding.specs.Truth.{AreListed, AreStated, HasLawfulSolvables}
use Rattle.resolver_encoding.specs.Values.{kinds_at}
use Rattle.resolver_encoding.proofs.StatedLemmas.{encoding_core_explained}
use Rattle.resolver_report.specs.ReachedRules.{IsKept, LeavesKept}
use Rattle.resolver_clause_store.specs.Rules.{IsRefuted}
use Rattle.resolver_clause_store.specs.TrueRules.{IsTrueRule}
use Rattle.resolver_clause_store.specs.declared.Rule.{Rule}
use Rattle.resolver_report.proofs.ReachedRuleLemmas.{All-left}
use Rattle.resolvo.specs.Explanations.{Explains}

-- a core of an encoding explains
pub explained : {N S : Type 0} (u : Universe N S) (same_name : N → N → Bool) (root : Demands) (notes : Notes N S) (core : List ℕ)
    (rules kept : List (Rule N S)) →
    HasLawfulSolvables u → IsIdentity same_name → IsEncoding u root notes → IsCore notes.table core →
    AreListed u (implied_in u same_name (kinds_at notes.kinds core)) (kinds_at notes.kinds core) rules →
    AreStated u (implied_in u same_name (kinds_at notes.kinds core)) (kinds_at notes.kinds core) rules →
    LeavesKept rules kept → (IsRefuted rules → IsRefuted kept) → All (IsKept kept) kept → Explains u root kept
explained u same_name root notes core rules kept lawful names encoding is_core listed stated left still again =
    let it = encoding_core_explained u same_name root notes core rules lawful names encoding is_core listed stated in
    record { each_true = All-left (IsTrueRule u root) left.cut it.each_true; refuted = still it.refuted; each_reached = again }

pub shortage_weaker : (at_limit other : Type 0) → (at_limit → other) → (e : Shortage) → IsShortage at_limit e → IsShortage other e
shortage_weaker at_limit other follows Memory h = tt
shortage_weaker at_limit other follows Ids h = follows h
