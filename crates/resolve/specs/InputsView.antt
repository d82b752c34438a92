-- A request as an input, and what a statement adds to it.
use Rattle.std.specs.Prelude.{◌≡◌, ℕ, ◌⊎◌, ⊤, Bool, List, Some, None, MatchBool}
use Rattle.resolve.specs.declared.request.Request.{Request}
use Rattle.resolve.specs.Catalogs.{tables_in}
use Rattle.resolve.specs.Meaning.{Input, after_one}
use Rattle.resolve.specs.Said.{Said}
use Rattle.resolve.specs.Spelling.{Says}
use Rattle.resolve.specs.Statements.{StatesNothing}
use Rattle.resolve.specs.declared.request.InputError.{InputError}
use Rattle.resolve.specs.declared.request.InputError.TheVariants.{BadStatement, Exhausted}

abbrev pub input_in : Request → Input
input_in it = record {
  tables = tables_in it.catalog;
  requirements = it.requirements.items;
  constraints = it.constraints.items;
  soft = it.soft_requirements.items;
}

-- the statement was added, or it is bad here
abbrev pub AddsStatement : Request → Request → Said → Bool → Type 0
AddsStatement old new said added = MatchBool added (after_one (input_in old) said ≡ Some (input_in new)) (after_one (input_in old) said ≡ None)

-- the line is skipped, or it says a statement that is added
abbrev pub ReadsLine : List ℕ → Input → Input → Type 0
ReadsLine line old new = (StatesNothing line × (new ≡ old)) ⊎ ((said : Said) × Says line said × (after_one old said ≡ Some new))

-- the line with this number is bad here
pub record IsBadLine (line : List ℕ) (old : Input) : Type 0 where
  pub not_skipped : StatesNothing line → ⊥
  pub bad : (it : Said) → Says line it → after_one old it ≡ None

abbrev pub RefusesLine : List ℕ → ℕ → Input → InputError → Type 0
RefusesLine line number old (BadStatement n) = (n ≡ number) × IsBadLine line old
RefusesLine line number old (Exhausted e) = ⊤
