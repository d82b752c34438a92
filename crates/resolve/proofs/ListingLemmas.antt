-- What was declared of each package.
use Rattle.std.proofs.Common.{◌≡◌, ℕ, suc, ◌+◌, ◌<◌, ◌≤◌, List, [], ◌∷◌, ◌++◌, length, get_or, map, arith, refl, sym, ap, ◌∙◌}
use Rattle.std.specs.Prelude.{All, slice_index_or, slice_set}
use Rattle.std.proofs.lemmas.List.{get_or-map, get_or_push, length-map, map-set}
use Rattle.resolver_clause_store.specs.declared.ids.StringId.{StringId}
use Rattle.resolve.specs.declared.ids.SolvableId.{SolvableId}
use Rattle.resolve.specs.declared.catalog.packages.Listing.{Listing}
use Rattle.resolve.specs.Links.{up_to}
use Rattle.resolve.specs.Listings.{IsListedWithin, ListedPackage, no_versions, package_in, with_candidate, with_excluded}
use Rattle.resolve.proofs.LinkLemmas.{up_to-kept}

-- what stands at a place
pub read : (candidates : List (List SolvableId)) (excluded : List (List (SolvableId × StringId))) (rows : List Listing) (place : ℕ) (d : Listing) →
    place < length rows →
    slice_index_or (map (package_in candidates excluded) rows) place no_versions ≡ package_in candidates excluded (get_or rows place d)
read candidates excluded rows place d within = get_or-map (package_in candidates excluded) rows place d no_versions within

-- what rows say stays, where their lists do
same_rows : (rs rs' : List (List SolvableId)) (cs cs' : List (List (SolvableId × StringId))) (rows : List Listing) →
    ((n : ℕ) → n ≤ length rs → up_to rs' n ≡ up_to rs n) → ((n : ℕ) → n ≤ length cs → up_to cs' n ≡ up_to cs n) →
    All (IsListedWithin (length rs) (length cs)) rows → map (package_in rs' cs') rows ≡ map (package_in rs cs) rows
same_rows rs rs' cs cs' [] kept held all = refl
same_rows rs rs' cs cs' (row ∷ rows) kept held all =
    let first : IsListedWithin (length rs) (length cs) row = all 0 row (omega arith) in
    let rest : All (IsListedWithin (length rs) (length cs)) rows = λ k d less. all (suc k) d (omega (arith, less)) in
    let one = kept row.candidates first.listed in
    let other = held row.excluded first.barred in
    let others = same_rows rs rs' cs cs' rows kept held rest in
    λ i. record { candidates = one i; favored = row.favored; locked = row.locked; excluded = other i } ∷ others i

-- the list that was made last
up_to-last : {T : Type 0} (lists : List (List T)) (made : List T) (n : ℕ) → n ≡ length lists + 1 → up_to (lists ++ made ∷ []) n ≡ made
up_to-last lists made n is =
    let place : n ≡ suc (length lists) = omega (arith, is) in
    ap (up_to (lists ++ made ∷ [])) place ∙ get_or_push lists made [] (length lists) refl

-- one more candidate
pub listed : (rs : List (List SolvableId)) (cs : List (List (SolvableId × StringId))) (rows : List Listing) (place : ℕ) (row : Listing)
    (longer : ℕ) (item : SolvableId) → All (IsListedWithin (length rs) (length cs)) rows → row ≡ get_or rows place row → place < length rows →
    longer ≡ length rs + 1 →
    map (package_in (rs ++ (up_to rs row.candidates ++ item ∷ []) ∷ []) cs) (slice_set rows place (record row { candidates = longer })) ≡
    slice_set (map (package_in rs cs) rows) place
    (with_candidate (slice_index_or (map (package_in rs cs) rows) place no_versions) item)
listed rs cs rows place row longer item all is within last =
    let made = up_to rs row.candidates ++ item ∷ [] in
    let same = same_rows rs (rs ++ made ∷ []) cs cs rows (up_to-kept rs (made ∷ [])) (λ n few. refl) all in
    let stood = read rs cs rows place row within ∙ ap (package_in rs cs) (sym is) in
    let ends = up_to-last rs made longer last in
    map-set (package_in (rs ++ made ∷ []) cs) rows place (record row { candidates = longer }) ∙
    (λ i. slice_set (same i) place (record (package_in rs cs row) { candidates = ends i })) ∙
    ap (λ s. slice_set (map (package_in rs cs) rows) place (with_candidate s item)) (sym stood)

-- one more excluded solvable
pub barred : (rs : List (List SolvableId)) (cs : List (List (SolvableId × StringId))) (rows : List Listing) (place : ℕ) (row : Listing)
    (longer : ℕ) (item : SolvableId × StringId) → All (IsListedWithin (length rs) (length cs)) rows → row ≡ get_or rows place row → place < length rows →
    longer ≡ length cs + 1 →
    map (package_in rs (cs ++ (up_to cs row.excluded ++ item ∷ []) ∷ [])) (slice_set rows place (record row { excluded = longer })) ≡
    slice_set (map (package_in rs cs) rows) place
    (with_excluded (slice_index_or (map (package_in rs cs) rows) place no_versions) item)
barred rs cs rows place row longer item all is within last =
    let made = up_to cs row.excluded ++ item ∷ [] in
    let same = same_rows rs rs cs (cs ++ made ∷ []) rows (λ n few. refl) (up_to-kept cs (made ∷ [])) all in
    let stood = read rs cs rows place row within ∙ ap (package_in rs cs) (sym is) in
    let ends = up_to-last cs made longer last in
    map-set (package_in rs (cs ++ made ∷ [])) rows place (record row { excluded = longer }) ∙
    (λ i. slice_set (same i) place (record (package_in rs cs row) { excluded = ends i })) ∙
    ap (λ s. slice_set (map (package_in rs cs) rows) place (with_excluded s item)) (sym stood)

-- a mark
pub marked : (rs : List (List SolvableId)) (cs : List (List (SolvableId × StringId))) (rows : List Listing) (place : ℕ) (row new : Listing)
    (mark : ListedPackage → ListedPackage) → row ≡ get_or rows place row → place < length rows → package_in rs cs new ≡ mark (package_in rs cs row) →
    map (package_in rs cs) (slice_set rows place new) ≡
    slice_set (map (package_in rs cs) rows) place (mark (slice_index_or (map (package_in rs cs) rows) place no_versions))
marked rs cs rows place row new mark is within says =
    let stood = read rs cs rows place row within ∙ ap (package_in rs cs) (sym is) in
    map-set (package_in rs cs) rows place new ∙ ap (slice_set (map (package_in rs cs) rows) place) (says ∙ ap mark (sym stood))

-- a place of the table is one of the rows
pub inside : (rs : List (List SolvableId)) (cs : List (List (SolvableId × StringId))) (rows : List Listing) (place : ℕ) (value : List ListedPackage) →
    map (package_in rs cs) rows ≡ value → place < length value → place < length rows
inside rs cs rows place value view within =
    omega (arith, within, ap length view, length-map rows (package_in rs cs))
