use Rattle.std.proofs.Common.{List, [], ◌∷◌, ◌∙◌, arith, append-nil, false, refl, true, ap, map, subst, sym}
use Rattle.std.proofs.lemmas.List.{take_all}
use Rattle.resolver_clause_store.specs.Variables.{origins_in}
use Rattle.resolver_clause_store.specs.declared.Helper.TheVariants.{Condition}
use Rattle.resolver_clause_store.specs.declared.Origin.TheVariants.{Helper, Solvable}
use Rattle.resolver_clause_store.specs.declared.VersionSetId.{VersionSetId}
use Rattle.resolver_encoding.specs.Atoms.{Atom, atom}
use Rattle.resolver_encoding.specs.Encodings.{Adds}
use Rattle.resolver_encoding.proofs.ClauseLemmas.{Adds-next, Grows-trans}
use Rattle.resolver_encoding.proofs.literals.push_requirement.Goals as goal

pub loop-version_set-init : goal.loop-version_set-init
loop-version_set-init g c = record {
  limit = c.push_literal.ensures.limit;
  grows = c.push_literal.ensures.grows;
  added = c.in_ok-push_literal.ensures.added;
}

pub loop-version_set-preserved : goal.loop-version_set-preserved
loop-version_set-preserved g c =
    let before = c.loop-version_set.invariant in
    record {
      limit = c.push_literal-in-loop-version_set.ensures.limit ∙ before.limit;
      grows = Grows-trans _ _ _ before.grows c.push_literal-in-loop-version_set.ensures.grows;
      added = Adds-next (atom c.args.parent false ∷ []) (λ v. atom (Helper (Condition v)) false) _ _ _ _ _ c.args.disjunct.now
          c.loop-version_set.version_set-index _ _ c.push_literal-in-loop-version_set.ensures.grows before.added (omega arith) refl c.in_ok-push_literal-2.ensures.added;
    }

pub loop-candidate-init : goal.loop-candidate-init
loop-candidate-init g c =
    let before = c.loop-version_set.invariant in
    let disjunct = c.args.disjunct.now in
    let helpers : List VersionSetId → List (Atom g.row.N.Denot g.row.S.Denot) = λ vs. map (λ v. atom (Helper (Condition v)) false) vs in
    let Made : List (Atom g.row.N.Denot g.row.S.Denot) → Type 0 =
    λ as'. Adds (origins_in c.loop-version_set.variables) c.args.literals.now.items c.loop-version_set.literals.items (atom c.args.parent false ∷ as') in
    record {
      limit = before.limit;
      grows = before.grows;
      added = subst Made (ap helpers (take_all c.loop-version_set.version_set-index disjunct (omega arith)) ∙ sym (append-nil (helpers disjunct))) before.added;
    }

pub loop-candidate-preserved : goal.loop-candidate-preserved
loop-candidate-preserved g c =
    let before = c.loop-candidate.invariant in
    record {
      limit = c.push_literal-in-loop-candidate.ensures.limit ∙ before.limit;
      grows = Grows-trans _ _ _ before.grows c.push_literal-in-loop-candidate.ensures.grows;
      added = Adds-next (atom c.args.parent false ∷ map (λ v. atom (Helper (Condition v)) false) c.args.disjunct.now) (λ s. atom (Solvable s) true) _ _ _ _ _
          c.args.candidates.now c.loop-candidate.candidate-index c.candidate-item.result _ c.push_literal-in-loop-candidate.ensures.grows before.added (omega arith)
          (ap (λ s. atom (Solvable s) true) (sym c.candidate-item.is)) c.in_ok-push_literal-3.ensures.added;
    }

pub returns-clause-added : goal.returns-clause-added
returns-clause-added g c = rw (take_all c.loop-candidate.candidate-index c.args.candidates.now (omega arith)) at c.loop-candidate.invariant.added
