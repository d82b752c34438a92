-- What was declared of each version.
use Rattle.std.proofs.Common.{◌≡◌, ℕ, suc, ◌+◌, ◌<◌, ◌≤◌, List, [], ◌∷◌, ◌++◌, length, get_or, map, arith, refl, sym, ap, ◌∙◌}
use Rattle.std.specs.Prelude.{All, Bool, Some, true, slice_index_or, slice_set}
use Rattle.resolver_clause_store.specs.declared.ids.StringId.{StringId}
use Rattle.std.proofs.lemmas.List.{get_or-map, get_or_push, length-map, map-set}
use Rattle.resolver_clause_store.specs.declared.ids.VersionSetId.{VersionSetId}
use Rattle.resolver_clause_store.specs.declared.data.ConditionalRequirement.{ConditionalRequirement}
use Rattle.resolve.specs.declared.catalog.solvables.Row.{Row}
use Rattle.resolve.specs.declared.catalog.solvables.State.{State}
use Rattle.resolve.specs.declared.catalog.solvables.State.TheVariants.{Unknown}
use Rattle.resolve.specs.Links.{up_to}
use Rattle.resolve.specs.Solvables.{IsRowWithin, Solvable, excluded_in, no_needs, solvable_of_row, unknown_reason, with_constraint, with_requirement}
use Rattle.resolve.proofs.LinkLemmas.{up_to-kept}

-- what stands at a place
pub read : (requirements : List (List ConditionalRequirement)) (constraints : List (List VersionSetId)) (rows : List Row) (place : ℕ) (d : Row) →
    place < length rows →
    slice_index_or (map (solvable_of_row requirements constraints) rows) place no_needs ≡ solvable_of_row requirements constraints (get_or rows place d)
read requirements constraints rows place d within = get_or-map (solvable_of_row requirements constraints) rows place d no_needs within

-- what rows say stays, where their lists do
same_rows : (rs rs' : List (List ConditionalRequirement)) (cs cs' : List (List VersionSetId)) (rows : List Row) →
    ((n : ℕ) → n ≤ length rs → up_to rs' n ≡ up_to rs n) → ((n : ℕ) → n ≤ length cs → up_to cs' n ≡ up_to cs n) →
    All (IsRowWithin (length rs) (length cs)) rows → map (solvable_of_row rs' cs') rows ≡ map (solvable_of_row rs cs) rows
same_rows rs rs' cs cs' [] kept held all = refl
same_rows rs rs' cs cs' (row ∷ rows) kept held all =
    let first : IsRowWithin (length rs) (length cs) row = all 0 row (omega arith) in
    let rest : All (IsRowWithin (length rs) (length cs)) rows = λ k d less. all (suc k) d (omega (arith, less)) in
    let one = kept row.requirements first.required in
    let other = held row.constraints first.constrained in
    let others = same_rows rs rs' cs cs' rows kept held rest in
    λ i. record { requirements = one i; constraints = other i; unknown = unknown_reason row.state; is_excluded = excluded_in row.state } ∷ others i

-- the list that was made last
up_to-last : {T : Type 0} (lists : List (List T)) (made : List T) (n : ℕ) → n ≡ length lists + 1 → up_to (lists ++ made ∷ []) n ≡ made
up_to-last lists made n is =
    let place : n ≡ suc (length lists) = omega (arith, is) in
    ap (up_to (lists ++ made ∷ [])) place ∙ get_or_push lists made [] (length lists) refl

-- one more requirement
pub required : (rs : List (List ConditionalRequirement)) (cs : List (List VersionSetId)) (rows : List Row) (place : ℕ) (row : Row)
    (longer : ℕ) (item : ConditionalRequirement) → All (IsRowWithin (length rs) (length cs)) rows → row ≡ get_or rows place row → place < length rows →
    longer ≡ length rs + 1 →
    map (solvable_of_row (rs ++ (up_to rs row.requirements ++ item ∷ []) ∷ []) cs) (slice_set rows place (record row { requirements = longer })) ≡
    slice_set (map (solvable_of_row rs cs) rows) place
    (with_requirement (slice_index_or (map (solvable_of_row rs cs) rows) place no_needs) item)
required rs cs rows place row longer item all is within last =
    let made = up_to rs row.requirements ++ item ∷ [] in
    let same = same_rows rs (rs ++ made ∷ []) cs cs rows (up_to-kept rs (made ∷ [])) (λ n few. refl) all in
    let stood = read rs cs rows place row within ∙ ap (solvable_of_row rs cs) (sym is) in
    let ends = up_to-last rs made longer last in
    map-set (solvable_of_row (rs ++ made ∷ []) cs) rows place (record row { requirements = longer }) ∙
    (λ i. slice_set (same i) place (record (solvable_of_row rs cs row) { requirements = ends i })) ∙
    ap (λ s. slice_set (map (solvable_of_row rs cs) rows) place (with_requirement s item)) (sym stood)

-- one more constraint
pub constrained : (rs : List (List ConditionalRequirement)) (cs : List (List VersionSetId)) (rows : List Row) (place : ℕ) (row : Row)
    (longer : ℕ) (item : VersionSetId) → All (IsRowWithin (length rs) (length cs)) rows → row ≡ get_or rows place row → place < length rows →
    longer ≡ length cs + 1 →
    map (solvable_of_row rs (cs ++ (up_to cs row.constraints ++ item ∷ []) ∷ [])) (slice_set rows place (record row { constraints = longer })) ≡
    slice_set (map (solvable_of_row rs cs) rows) place
    (with_constraint (slice_index_or (map (solvable_of_row rs cs) rows) place no_needs) item)
constrained rs cs rows place row longer item all is within last =
    let made = up_to cs row.constraints ++ item ∷ [] in
    let same = same_rows rs rs cs (cs ++ made ∷ []) rows (λ n few. refl) (up_to-kept cs (made ∷ [])) all in
    let stood = read rs cs rows place row within ∙ ap (solvable_of_row rs cs) (sym is) in
    let ends = up_to-last cs made longer last in
    map-set (solvable_of_row rs (cs ++ made ∷ [])) rows place (record row { constraints = longer }) ∙
    (λ i. slice_set (same i) place (record (solvable_of_row rs cs row) { constraints = ends i })) ∙
    ap (λ s. slice_set (map (solvable_of_row rs cs) rows) place (with_constraint s item)) (sym stood)

-- a mark
pub marked : (rs : List (List ConditionalRequirement)) (cs : List (List VersionSetId)) (rows : List Row) (place : ℕ) (row new : Row)
    (mark : Solvable → Solvable) → row ≡ get_or rows place row → place < length rows → solvable_of_row rs cs new ≡ mark (solvable_of_row rs cs row) →
    map (solvable_of_row rs cs) (slice_set rows place new) ≡
    slice_set (map (solvable_of_row rs cs) rows) place (mark (slice_index_or (map (solvable_of_row rs cs) rows) place no_needs))
marked rs cs rows place row new mark is within says =
    let stood = read rs cs rows place row within ∙ ap (solvable_of_row rs cs) (sym is) in
    map-set (solvable_of_row rs cs) rows place new ∙ ap (slice_set (map (solvable_of_row rs cs) rows) place) (says ∙ ap mark (sym stood))

-- a place of the table is one of the rows
pub inside : (rs : List (List ConditionalRequirement)) (cs : List (List VersionSetId)) (rows : List Row) (place : ℕ) (value : List Solvable) →
    map (solvable_of_row rs cs) rows ≡ value → place < length value → place < length rows
inside rs cs rows place value view within =
    omega (arith, within, ap length view, length-map rows (solvable_of_row rs cs))

pub excluded_says : (rs : List (List ConditionalRequirement)) (cs : List (List VersionSetId)) (row : Row) (state : State) →
    unknown_reason state ≡ unknown_reason row.state → excluded_in state ≡ true →
    solvable_of_row rs cs (record row { state = state }) ≡ record (solvable_of_row rs cs row) { is_excluded = true }
excluded_says rs cs row state reason excluded =
    λ i. record { requirements = up_to rs row.requirements; constraints = up_to cs row.constraints; unknown = reason i; is_excluded = excluded i }

pub unknown_says : (rs : List (List ConditionalRequirement)) (cs : List (List VersionSetId)) (row : Row) (is_excluded : Bool) (reason : StringId) →
    is_excluded ≡ excluded_in row.state →
    solvable_of_row rs cs (record row { state = Unknown is_excluded reason }) ≡ record (solvable_of_row rs cs row) { unknown = Some reason }
unknown_says rs cs row is_excluded reason same =
    λ i. record { requirements = up_to rs row.requirements; constraints = up_to cs row.constraints; unknown = Some reason; is_excluded = same i }
