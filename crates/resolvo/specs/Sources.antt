-- Where the clauses of a search's table come from.
use Rattle.std.specs.Prelude.{ℕ, ◌<◌, ⊤, List, [], Vec, map, slice_get}
use Rattle.std.specs.Option.{option_map_or}
use Rattle.std.specs.declared.alloc.Global.{Global}
use Rattle.resolvo.specs.declared.sources.StoredSource.{StoredSource}
use Rattle.resolvo.specs.declared.sources.StoredSource.TheVariants.{Given, Learnt}

-- a given clause with its number, or a learnt one with the places of the clauses that it follows from
pub data Source : Type 0 where
  given_as : ℕ → Source
  learnt_from : List ℕ → Source

-- what a stored source says, where these are the causes of the learnt clauses
abbrev pub source_in : List (Vec ℕ Global) → StoredSource → Source
source_in causes (Given number) = given_as number
source_in causes (Learnt list) = learnt_from (option_map_or (λ (one : Vec ℕ Global). one.items) (slice_get causes list) [])

-- there are causes for a stored source of a learnt clause
abbrev pub HasCauses : ℕ → StoredSource → Type 0
HasCauses count (Given number) = ⊤
HasCauses count (Learnt list) = list < count
