-- The places of the edges at each node.
use Rattle.std.specs.Prelude.{◌≡◌, ℕ, ◌<◌, ◌==◌, Bool, false, List, [], ◌∷◌, ◌++◌, length, filter, map, Option, Some, None, slice_get, slice_index_or}
use Rattle.std.specs.Prelude.{slice_set, Vec}
use Rattle.std.proofs.Common.{Global}
use Rattle.std.specs.List.{range_with_len}
use Rattle.resolver_report.specs.declared.graph.EdgePlaces.{EdgePlaces}
use Rattle.resolver_report.specs.declared.graph.Edge.{Edge}

abbrev pub lists_in : {X : Type 0} → List (Vec X Global) → List (List X)
lists_in vs = map (λ v. v.items) vs

-- the lists, with x appended to the one at i
abbrev pub appended : {X : Type 0} → List (List X) → ℕ → X → List (List X)
appended xss i x = slice_set xss i (slice_index_or xss i [] ++ x ∷ [])

-- `count` empty lists
pub record AreEmpty {X : Type 0} (count : ℕ) (xss : List (List X)) : Type 0 where
  pub long : length xss ≡ count
  pub empty : (n : ℕ) → n < count → slice_index_or xss n [] ≡ []

-- the edge leaves the node, or enters it
abbrev pub leaves : {S : Type 0} → ℕ → Edge S → Bool
leaves n e = e.source.0 == n

abbrev pub enters : {S : Type 0} → ℕ → Edge S → Bool
enters n e = e.target.0 == n

abbrev pub passes : {X : Type 0} → (X → Bool) → Option X → Bool
passes p None = false
passes p (Some x) = p x

-- of the first `count` places, those whose element passes the test
abbrev pub places_passing : {X : Type 0} → (X → Bool) → List X → ℕ → List ℕ
places_passing p xs count = filter (λ k. passes p (slice_get xs k)) (range_with_len 0 count)

-- for each of `count` nodes, the places below `limit` of the edges that pass its test
pub record ArePlaces {S : Type 0} (count : ℕ) (test : ℕ → Edge S → Bool) (edges : List (Edge S)) (limit : ℕ) (lists : List (List ℕ)) : Type 0 where
  pub long : length lists ≡ count
  pub each : (n : ℕ) → n < count → slice_index_or lists n [] ≡ places_passing (test n) edges limit

pub record HasPlacesBefore {S : Type 0} (count : ℕ) (edges : List (Edge S)) (limit : ℕ) (out into : List (Vec ℕ Global)) : Type 0 where
  pub from : ArePlaces count leaves edges limit (lists_in out)
  pub to : ArePlaces count enters edges limit (lists_in into)

-- each node has the places of its outgoing and of its incoming edges
abbrev pub HasPlacesOfEdges : {S : Type 0} → ℕ → List (Edge S) → EdgePlaces → Type 0
HasPlacesOfEdges count edges p = HasPlacesBefore count edges (length edges) p.from.items p.to.items
