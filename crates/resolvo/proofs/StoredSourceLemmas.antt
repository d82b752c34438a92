-- How sources are stored.
use Rattle.std.proofs.Common.{◌≡◌, suc, ℕ, List, [], ◌∷◌, ◌++◌, length, map, arith, refl, ap, ◌∙◌, Vec}
use Rattle.std.specs.List.{All}
use Rattle.std.specs.Option.{option_map_or}
use Rattle.std.specs.declared.alloc.Global.{Global}
use Rattle.std.proofs.lemmas.List.{map-append}
use Rattle.resolver_clause_store.proofs.ListLemmas.{slice_get-append_left, slice_get-last}
use Rattle.resolvo.specs.declared.sources.StoredSource.{StoredSource}
use Rattle.resolvo.specs.declared.sources.StoredSource.TheVariants.{Given, Learnt}
use Rattle.resolvo.specs.Sources.{HasCauses, learnt_from, source_in}

-- a stored source says the same once there are more causes
kept-source : (causes more : List (Vec ℕ Global)) (one : StoredSource) → HasCauses (length causes) one → source_in (causes ++ more) one ≡ source_in causes one
kept-source causes more (Given number) has = refl
kept-source causes more (Learnt list) has =
    ap (λ found. learnt_from (option_map_or (λ (one : Vec ℕ Global). one.items) found [])) (slice_get-append_left causes more list has)

kept-sources : (causes more : List (Vec ℕ Global)) (stored : List StoredSource) → All (HasCauses (length causes)) stored →
    map (source_in (causes ++ more)) stored ≡ map (source_in causes) stored
kept-sources causes more [] has = refl
kept-sources causes more (one ∷ stored) has =
    ap (λ first. first ∷ map (source_in (causes ++ more)) stored) (kept-source causes more one (has 0 one (omega arith))) ∙
    ap (λ rest. source_in causes one ∷ rest) (kept-sources causes more stored (λ k d below. has (suc k) d (omega (arith, below))))

pub pushed-learnt : (causes : List (Vec ℕ Global)) (stored : List StoredSource) (more : Vec ℕ Global) → All (HasCauses (length causes)) stored →
    map (source_in (causes ++ more ∷ [])) (stored ++ Learnt (length causes) ∷ []) ≡ map (source_in causes) stored ++ learnt_from more.items ∷ []
pushed-learnt causes stored more has = map-append (source_in (causes ++ more ∷ [])) stored (Learnt (length causes) ∷ []) ∙
    ap (λ first. first ++ source_in (causes ++ more ∷ []) (Learnt (length causes)) ∷ []) (kept-sources causes (more ∷ []) stored has) ∙
    ap (λ found. map (source_in causes) stored ++ learnt_from (option_map_or (λ (one : Vec ℕ Global). one.items) found []) ∷ []) (slice_get-last causes more)

-- the call is refused once there are more causes
pub refused-learnt : (causes longer : List (Vec ℕ Global)) (stored new : List StoredSource) (more : Vec ℕ Global) → All (HasCauses (length causes)) stored →
    longer ≡ causes ++ more ∷ [] → new ≡ stored → map (source_in longer) new ≡ map (source_in causes) stored
refused-learnt causes longer stored new more has grown same = ap (λ list. map (source_in longer) list) same ∙
    ap (λ list. map (source_in list) stored) grown ∙ kept-sources causes (more ∷ []) stored has
