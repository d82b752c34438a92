-- Runs of edges, one edge after another.
use Rattle.std.proofs.Common.{◌≡◌, ℕ, ◌+◌, ◌<◌, Bool, true, false, cond, List, [], ◌∷◌, ◌++◌, length, map, take, refl, sym, ◌∙◌, ap, get_or}
use Rattle.std.proofs.lemmas.List.{take_more, map-append}
use Rattle.resolver_clause_store.specs.declared.Requirement.{Requirement}
use Rattle.resolver_report.specs.declared.graph.NodeId.{NodeId}
use Rattle.resolver_report.specs.declared.graph.ConflictEdge.{ConflictEdge}
use Rattle.resolver_report.specs.declared.graph.ConflictEdge.TheVariants.{Requires, Conflict}
use Rattle.resolver_report.specs.declared.graph.Edge.{Edge}
use Rattle.resolver_report.specs.declared.runs.EdgeRun.{EdgeRun}
use Rattle.resolver_clause_store.specs.SameRequirements.{same_requirement}
use Rattle.resolver_report.specs.Runs.{Run, with_target, with_edge, runs_of}
use Rattle.resolver_report.specs.EdgeRuns.{run_view, and_then, new_run}
use Rattle.resolver_clause_store.proofs.SameRequirementLemmas.{same_requirement-true}

-- an edge is put in front and another at the end
joined_and_then : (q : Requirement) (m : NodeId) (r : Requirement) (n : NodeId) (runs : List Run) →
    with_target q m (and_then r n runs) ≡ and_then r n (with_target q m runs)
joined_and_then q m r n [] = elim (same_requirement q r) as (λ b.
    cond b (new_run q (m ∷ n ∷ []) ∷ []) (new_run q (m ∷ []) ∷ new_run r (n ∷ []) ∷ []) ≡ cond b (new_run q (m ∷ n ∷ []) ∷ [])
    (new_run q (m ∷ []) ∷ new_run r (n ∷ []) ∷ [])) [ true ↦ refl | false ↦ refl ]
joined_and_then q m r n (run ∷ []) = one (same_requirement q run.requirement) (same_requirement run.requirement r) refl refl
  where
    one : (a b : Bool) → same_requirement q run.requirement ≡ a → same_requirement run.requirement r ≡ b →
        with_target q m (cond b (new_run run.requirement (run.targets ++ n ∷ []) ∷ []) (run ∷ new_run r (n ∷ []) ∷ [])) ≡ and_then r n
        (cond a (new_run q (m ∷ run.targets) ∷ []) (new_run q (m ∷ []) ∷ run ∷ []))
    one true true e f = let same : same_requirement q r ≡ true = rw (same_requirement-true q run.requirement e) f in rw (e, same) refl
    one true false e f = let same : same_requirement q r ≡ false = rw (same_requirement-true q run.requirement e) f in rw (e, same) refl
    one false true e f = rw (e, f) refl
    one false false e f = rw (e, f) refl
joined_and_then q m r n (run ∷ next ∷ runs) =
    elim (same_requirement q run.requirement) as (λ a.
    cond a (new_run q (m ∷ run.targets) ∷ and_then r n (next ∷ runs)) (new_run q (m ∷ []) ∷ run ∷ and_then r n (next ∷ runs)) ≡ and_then r n
    (cond a (new_run q (m ∷ run.targets) ∷ next ∷ runs) (new_run q (m ∷ []) ∷ run ∷ next ∷ runs))) [ true ↦ refl | false ↦ refl ]

abbrev pub and_edge : {S : Type 0} → ConflictEdge S → NodeId → List Run → List Run
and_edge (Requires r) n runs = and_then r n runs
and_edge (Conflict c) n runs = runs

with_and_edge : {S : Type 0} (w : ConflictEdge S) (m : NodeId) (v : ConflictEdge S) (n : NodeId) (runs : List Run) →
    with_edge w m (and_edge v n runs) ≡ and_edge v n (with_edge w m runs)
with_and_edge (Requires q) m (Requires r) n runs = joined_and_then q m r n runs
with_and_edge (Requires q) m (Conflict c) n runs = refl
with_and_edge (Conflict c) m v n runs = refl

pub runs_of-push : {S : Type 0} (es : List (Edge S)) (e : Edge S) → runs_of (es ++ e ∷ []) ≡ and_edge e.weight e.target (runs_of es)
runs_of-push [] e = alone e.weight e.target
  where
    alone : {S : Type 0} (w : ConflictEdge S) (n : NodeId) → with_edge w n [] ≡ and_edge w n []
    alone (Requires r) n = refl
    alone (Conflict c) n = refl
runs_of-push (x ∷ es) e = ap (with_edge x.weight x.target) (runs_of-push es e) ∙ with_and_edge x.weight x.target e.weight e.target (runs_of es)

pub runs_of_next : {S : Type 0} (es : List (Edge S)) (i : ℕ) (e : Edge S) → i < length es → e ≡ get_or es i e →
    runs_of (take (i + 1) es) ≡ and_edge e.weight e.target (runs_of (take i es))
runs_of_next es i e h same = ap runs_of (take_more es i e h ∙ ap (λ x. take i es ++ x ∷ []) (sym same)) ∙ runs_of-push (take i es) e

-- the last run takes the edge, or a new run does
pub and_then-same : (r : Requirement) (n : NodeId) (runs : List Run) (last : Run) → same_requirement last.requirement r ≡ true →
    and_then r n (runs ++ last ∷ []) ≡ runs ++ new_run last.requirement (last.targets ++ n ∷ []) ∷ []
and_then-same r n [] last e = rw e refl
and_then-same r n (run ∷ []) last e = ap (λ rs. run ∷ rs) (rw e refl)
and_then-same r n (run ∷ next ∷ runs) last e = ap (λ rs. run ∷ rs) (and_then-same r n (next ∷ runs) last e)

pub and_then-other : (r : Requirement) (n : NodeId) (runs : List Run) (last : Run) → same_requirement last.requirement r ≡ false →
    and_then r n (runs ++ last ∷ []) ≡ (runs ++ last ∷ []) ++ new_run r (n ∷ []) ∷ []
and_then-other r n [] last e = rw e refl
and_then-other r n (run ∷ []) last e = ap (λ rs. run ∷ rs) (rw e refl)
and_then-other r n (run ∷ next ∷ runs) last e = ap (λ rs. run ∷ rs) (and_then-other r n (next ∷ runs) last e)

-- in the lists of the code, the last run is removed, changed and put back
pub add_same : (r : Requirement) (n : NodeId) (old rest new : List EdgeRun) (last last' : EdgeRun) → old ≡ rest ++ last ∷ [] →
    same_requirement last.requirement r ≡ true → last'.requirement ≡ last.requirement → last'.targets.items ≡ last.targets.items ++ n ∷ [] → new ≡ rest ++
    last' ∷ [] → map run_view new ≡ and_then r n (map run_view old)
add_same r n old rest new last last' e same req tgt f =
    let before : map run_view old ≡ map run_view rest ++ run_view last ∷ [] = rw e (map-append run_view rest (last ∷ [])) in
    let after : map run_view new ≡ map run_view rest ++ new_run last.requirement (last.targets.items ++ n ∷ []) ∷ [] =
    rw f (map-append run_view rest (last' ∷ []) ∙ rw (req, tgt) refl) in
    after ∙ sym (rw before (and_then-same r n (map run_view rest) (run_view last) same))

pub add_other : (r : Requirement) (n : NodeId) (old rest new : List EdgeRun) (last : EdgeRun) → old ≡ rest ++ last ∷ [] →
    same_requirement last.requirement r ≡ false → map run_view new ≡ map run_view (rest ++ last ∷ []) ++ new_run r (n ∷ []) ∷ [] →
    map run_view new ≡ and_then r n (map run_view old)
add_other r n old rest new last e same f =
    let before : map run_view old ≡ map run_view rest ++ run_view last ∷ [] = rw e (map-append run_view rest (last ∷ [])) in
    let again : map run_view (rest ++ last ∷ []) ≡ map run_view rest ++ run_view last ∷ [] = map-append run_view rest (last ∷ []) in
    f ∙ rw again (sym (rw before (and_then-other r n (map run_view rest) (run_view last) same)))
