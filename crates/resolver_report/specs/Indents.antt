-- What the levels of an `Indenter` are.
use Rattle.std.specs.Prelude.{◌≡◌, ◌++◌, ◌∷◌, [], ℕ, Bool, true, false, List, String, map, string_bytes}
use Rattle.std.specs.Global.{Global}
use Rattle.resolver_report.specs.Forests.{Forest, indent, indent_from, text_of}
use Rattle.resolver_report.specs.declared.indenter.ChildOrder.{ChildOrder}
use Rattle.resolver_report.specs.declared.indenter.ChildOrder.TheVariants.{HasRemainingSiblings, Last}
use Rattle.resolver_report.specs.declared.indenter.Indenter.{Indenter}

abbrev pub is_last_child : ChildOrder → Bool
is_last_child Last = true
is_last_child HasRemainingSiblings = false

abbrev pub levels_in : Indenter → List Bool
levels_in it = map is_last_child it.levels.items

-- the text is written after what was there
abbrev pub Writes : String Global → String Global → List ℕ → Type 0
Writes old new text = string_bytes new ≡ string_bytes old ++ text

-- of the text of a list, the part of the first element is written
abbrev pub WritesFirst : {X : Type 0} → (List X → List ℕ) → String Global → String Global → X → List X → Type 0
WritesFirst text old new x xs = string_bytes new ++ text xs ≡ string_bytes old ++ text (x ∷ xs)

abbrev pub indent_of : List ChildOrder → List ℕ
indent_of orders = indent (map is_last_child orders)

-- a line at these levels
abbrev pub line_at : Indenter → List ℕ → List ℕ
line_at it text = indent_from it.top_level_indent (levels_in it) ++ text ++ 10 ∷ []

-- the text of a forest below these levels
abbrev pub text_below : Indenter → Forest → List ℕ
text_below it forest = text_of it.top_level_indent (levels_in it) forest
