-- Lists that grow at their ends, all in one vector.
use Rattle.std.specs.Prelude.{◌≤◌, ℕ, zero, suc, ⊤, List, [], ◌∷◌, ◌++◌, slice_index_or}
use Rattle.resolve.specs.declared.catalog.links.Link.{Link}

-- the list that ends with the link before this place; at 0 it is empty
abbrev pub up_to : {T : Type 0} → List (List T) → ℕ → List T
up_to lists zero = []
up_to lists (suc place) = slice_index_or lists place []

-- the lists that end with each link: these, and those of further links
abbrev pub lists_after : {T : Type 0} → List (List T) → List (Link T) → List (List T)
lists_after lists [] = lists
lists_after lists (link ∷ links) = lists_after (lists ++ (up_to lists link.before ++ link.item ∷ []) ∷ []) links

-- each of these links, the first of which has this index, follows one before it or none
abbrev pub LeadBack : {T : Type 0} → ℕ → List (Link T) → Type 0
LeadBack index [] = ⊤
LeadBack index (link ∷ links) = (link.before ≤ index) × LeadBack (suc index) links
