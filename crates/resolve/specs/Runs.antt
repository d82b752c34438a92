-- What the program makes of an input.
use Rattle.std.specs.Prelude.{◌≡◌, ◌==◌, ℕ, Bool, ◌++◌, List, Option, codes}
use Rattle.std.specs.Fmt.{decimal}
use Rattle.std.specs.Io.KnownBytes.{Appends}
use Rattle.resolver_clause_store.specs.declared.Rule.{Rule}
use Rattle.resolver_report.specs.Graphs.{graph_of}
use Rattle.resolver_report.specs.Messages.{message}
use Rattle.resolvo.specs.Answers.{IsSoftAnswer}
use Rattle.resolvo.specs.Explanations.{Explains}
use Rattle.resolve.specs.declared.ids.NameId.{NameId}
use Rattle.resolve.specs.declared.ids.SolvableId.{SolvableId}
use Rattle.resolve.specs.Answers.{listing}
use Rattle.resolve.specs.Catalogs.{Tables, same_solvable_ids}
use Rattle.resolve.specs.Inputs.{IsFirstBad, IsInput}
use Rattle.resolve.specs.Meaning.{Input}
use Rattle.resolve.specs.Universes.{input_demands, universe_in}

abbrev pub same_name_ids : NameId → NameId → Bool
same_name_ids a b = a.0 == b.0

-- the message of the graph of some rules
abbrev pub told : Tables → List (Rule NameId SolvableId) → List ℕ
told t rules = message (universe_in t) (graph_of same_name_ids same_solvable_ids rules)

-- the text lists the versions of an answer
pub record IsAnswer (input : Input) (text : List ℕ) : Type 0 where
  pub chosen : List SolvableId
  pub exempt : List SolvableId
  pub answer : IsSoftAnswer (universe_in input.tables) (input_demands input) input.soft chosen exempt
  pub is : text ≡ listing input.tables chosen

-- the text is the message of rules that explain why there is no answer
pub record IsMessage (input : Input) (text : List ℕ) : Type 0 where
  pub rules : List (Rule NameId SolvableId)
  pub explain : Explains (universe_in input.tables) (input_demands input) rules
  pub is : text ≡ told input.tables rules

abbrev pub IsAnswerToBytes : List ℕ → List ℕ → Type 0
IsAnswerToBytes bytes text = (input : Input) × IsInput bytes input × IsAnswer input text

abbrev pub IsMessageTo : List ℕ → List ℕ → Type 0
IsMessageTo bytes text = (input : Input) × IsInput bytes input × IsMessage input text

abbrev pub bad_text : ℕ → List ℕ
bad_text number = codes "resolve: line " ++ (decimal number ++ codes ": bad statement\n")

-- a front of the text was written
abbrev pub AppendsFront : Option (List ℕ) → Option (List ℕ) → List ℕ → Type 0
AppendsFront old new text = (front : List ℕ) × (rest : List ℕ) × (text ≡ front ++ rest) × Appends old new front

-- what a run on these bytes ends with and writes
pub record IsRun (bytes : List ℕ) (status : ℕ) (output output' errors errors' : Option (List ℕ)) : Type 0 where
  pub answered : status ≡ 0 → (text : List ℕ) × IsAnswerToBytes bytes text × Appends output output' text
  pub refused : status ≡ 1 → (text : List ℕ) × IsMessageTo bytes text × Appends output output' text
  pub bad : status ≡ 2 → (number : ℕ) × IsFirstBad bytes number × AppendsFront errors errors' (bad_text number)
