-- Where the candidates of each version set of a union end.
use Rattle.std.specs.Prelude.{ℕ, List, [], Vec, nat_eq}
use Rattle.std.specs.Option.{option_map_or}
use Rattle.std.specs.HashMap.{get}
use Rattle.std.specs.declared.alloc.Global.{Global}
use Rattle.resolver_clause_store.specs.declared.union_ends.UnionEnds.{UnionEnds}

-- the places after the candidates of each version set of a requirement, none if it is no union
abbrev pub ends_in : UnionEnds → ℕ → List ℕ
ends_in ends requirement = option_map_or (λ (places : Vec ℕ Global). places.items) (get nat_eq ends.places requirement) []
