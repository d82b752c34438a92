use Rattle.std.proofs.Common.{◌≡◌, List, [], ap, subst, sym}
use Rattle.std.specs.Prelude.{OnOk, Result}
use Rattle.std.proofs.lemmas.Result.{on_ok_weaker}
use Rattle.resolver_clause_store.specs.Literals.{Literal}
use Rattle.resolver_clause_store.specs.Universe.{Universe}
use Rattle.resolver_clause_store.specs.declared.ClauseKind.{ClauseKind}
use Rattle.resolver_clause_store.specs.declared.Exhausted.{Exhausted}
use Rattle.resolver_clause_store.specs.declared.Origin.{Origin}
use Rattle.resolver_encoding.specs.Atoms.{Atom, atoms_of, wanted}
use Rattle.resolver_encoding.specs.Encodings.{Adds}
use Rattle.resolver_encoding.specs.Values.{IsClauseOf}
use Rattle.resolver_encoding.proofs.ClauseLemmas.{Adds-trans, Adds-zip}
use Rattle.resolver_encoding.proofs.EncodingLemmas.{IsClauseOf-zip}
use Rattle.resolver_encoding.proofs.literals.push_atoms.Goals as goal

-- a list that was empty has the literals of the kind's atoms
clause_of_added : {T N S : Type 0} (r : Result T Exhausted) (origins : List (Origin N S)) (old new : List Literal) (candidates : List S) (kind : ClauseKind N S)
    (atoms : List (Atom N S)) → old ≡ [] → ((u : Universe N S) → candidates ≡ wanted u kind → atoms ≡ atoms_of u kind) → OnOk r (Adds origins old new atoms) →
    OnOk r ((u : Universe N S) → candidates ≡ wanted u kind → IsClauseOf u origins new kind)
clause_of_added {T} {N} {S} r origins old new candidates kind atoms empty same =
    let made : Adds origins old new atoms → (u : Universe N S) → candidates ≡ wanted u kind → IsClauseOf u origins new kind =
    λ added u are. let Made : List (Atom N S) → Type 0 = λ as'. Adds origins old new as' in
    IsClauseOf-zip u origins new kind (Adds-zip _ _ _ _ empty (subst Made (same u are) added)) in
    on_ok_weaker r made

pub returns-in-InstallRoot-clause-clause : goal.returns-in-InstallRoot-clause-clause
returns-in-InstallRoot-clause-clause g c =
    clause_of_added _ _ _ _ _ _ _ c.requires.empty (λ u are. ap (atoms_of u) (sym c.in-InstallRoot.is)) c.push_literal.ensures.added

pub returns-in-Requires-clause-clause : goal.returns-in-Requires-clause-clause
returns-in-Requires-clause-clause g c =
    let it = c.in-Requires in
    clause_of_added _ _ _ _ _ _ _ c.requires.empty
    (λ u are. rw (c.parent_of-parent.ensures, c.deref.ensures.value, are, it.is))
    c.push_requirement.ensures.added

pub returns-in_ok-push_literal-in-Implies-clause-clause : goal.returns-in_ok-push_literal-in-Implies-clause-clause
returns-in_ok-push_literal-in-Implies-clause-clause g c =
    let r = c.push_literal-in-Implies-2 in
    clause_of_added _ _ _ _ _ _ _ c.requires.empty (λ u are. ap (atoms_of u) (sym c.in-Implies.is))
    (on_ok_weaker r.result (Adds-trans _ _ _ _ _ _ _ r.ensures.grows c.in_ok-push_literal-in-Implies.ensures.added) r.ensures.added)

pub returns-in-Excluded-clause-clause : goal.returns-in-Excluded-clause-clause
returns-in-Excluded-clause-clause g c =
    clause_of_added _ _ _ _ _ _ _ c.requires.empty (λ u are. ap (atoms_of u) (sym c.in-Excluded.is)) c.push_literal-in-Excluded.ensures.added
