-- What the code's statements say.
use Rattle.std.specs.Prelude.{◌≡◌, ℕ, ◌<◌, List, [], ◌∷◌, Option, Some, None, Result, Ok, Err, MatchOption, codes, length, take, ⊤}
use Rattle.std.specs.Str.{IsUtf8}
use denote.Ref.{Bor}
use Rattle.resolve.specs.declared.condition.ConditionStep.{ConditionStep}
use Rattle.resolve.specs.declared.words.Spec.{Spec}
use Rattle.resolve.specs.declared.words.SolvableText.{SolvableText}
use Rattle.resolve.specs.declared.statement.Statement.{Statement}
use Rattle.resolve.specs.declared.statement.Statement.TheVariants.{Package, Requires, Constrains, Unknown, Favor, Lock, Exclude, Require, Constrain, Soft}
use Rattle.resolve.specs.declared.statement.Statement.TheVariants.{SoftMatching}
use Rattle.resolve.specs.declared.statement.LineError.{LineError}
use Rattle.resolve.specs.declared.statement.LineError.TheVariants.{Bad, Exhausted}
use Rattle.resolve.specs.declared.statement.Keyword.{Keyword}
use Rattle.resolve.specs.declared.statement.Keyword.TheVariants.{Package as for_package, Requires as for_requires, Constrains as for_constrains}
use Rattle.resolve.specs.declared.statement.Keyword.TheVariants.{Unknown as for_unknown, Favor as for_favor, Lock as for_lock, Exclude as for_exclude}
use Rattle.resolve.specs.declared.statement.Keyword.TheVariants.{Require as for_require, Constrain as for_constrain, Soft as for_soft}
use Rattle.resolve.specs.Guards.{AreNeed, ReadsGuard, RefusesGuard}
use Rattle.resolve.specs.LineWords.{after_word, from_word, words_of}
use Rattle.resolve.specs.Said.{Named, Need, Said}
use Rattle.resolve.specs.Said.{declares, requires_for, constrains_for, unknown_for, favors, locks, excludes, requires_any, constrains_all, soft_one, soft_of}
use Rattle.resolve.specs.Spelling.{Names, Says, SpellsNeed, without_end}
use Rattle.resolve.specs.Unions.{wanted_of}

-- a solvable as the code has it
abbrev pub named_of : SolvableText → Named
named_of solvable = record { name = solvable.name.now; version = solvable.version }

-- the statement says this
abbrev pub IsStatementOf : Statement → Said → Type 0
IsStatementOf (Package s) said = said ≡ declares (named_of s)
IsStatementOf (Requires s union steps) said = (need : Need) × (said ≡ requires_for (named_of s) need) × AreNeed union.items steps.items need
IsStatementOf (Constrains s spec) said = said ≡ constrains_for (named_of s) (wanted_of spec)
IsStatementOf (Unknown s reason) said = said ≡ unknown_for (named_of s) reason.now
IsStatementOf (Favor s) said = said ≡ favors (named_of s)
IsStatementOf (Lock s) said = said ≡ locks (named_of s)
IsStatementOf (Exclude s reason) said = said ≡ excludes (named_of s) reason.now
IsStatementOf (Require union steps) said = (need : Need) × (said ≡ requires_any need) × AreNeed union.items steps.items need
IsStatementOf (Constrain spec) said = said ≡ constrains_all (wanted_of spec)
IsStatementOf (Soft s) said = said ≡ soft_one (named_of s)
IsStatementOf (SoftMatching spec) said = said ≡ soft_of (wanted_of spec)

-- the line says what the statement says
pub record Reads (line : List ℕ) (statement : Statement) : Type 0 where
  pub said : Said
  pub says : Says line said
  pub is : IsStatementOf statement said

-- if the line is bad, it says nothing
abbrev pub Refuses : List ℕ → LineError → Type 0
Refuses line Bad = (it : Said) → Says line it → ⊥
Refuses line (Exhausted e) = ⊤

abbrev pub SaysNothing : List ℕ → Type 0
SaysNothing line = (it : Said) → Says line it → ⊥

-- how a keyword is spelled
abbrev pub spelled : Keyword → List ℕ
spelled for_package = codes "package"
spelled for_requires = codes "requires"
spelled for_constrains = codes "constrains"
spelled for_unknown = codes "unknown"
spelled for_favor = codes "favor"
spelled for_lock = codes "lock"
spelled for_exclude = codes "exclude"
spelled for_require = codes "require"
spelled for_constrain = codes "constrain"
spelled for_soft = codes "soft"

-- the line is this keyword, and then the rest
pub record Begins (line keyword rest : List ℕ) : Type 0 where
  pub words : words_of line ≡ keyword ∷ words_of rest
  pub after : after_word line ≡ rest

-- a line of this keyword and this rest says what the statement says, and nothing if there is none
abbrev pub StatesAs : List ℕ → List ℕ → Option Statement → Type 0
StatesAs keyword rest result = (line : List ℕ) → Begins line keyword rest → MatchOption result (SaysNothing line) (Reads line)

abbrev pub ReadsAs : List ℕ → List ℕ → Result Statement LineError → Type 0
ReadsAs keyword rest (Ok statement) = (line : List ℕ) → Begins line keyword rest → Reads line statement
ReadsAs keyword rest (Err e) = (line : List ℕ) → Begins line keyword rest → Refuses line e

-- the text is a solvable and a reason
pub record IsSolvableWithReason (text : List ℕ) (it : Named) (reason : List ℕ) : Type 0 where
  pub word : List ℕ
  pub front : take 1 (words_of text) ≡ word ∷ []
  pub names : Names word it
  pub is : reason ≡ without_end (from_word (after_word text))
  pub nonempty : 0 < length reason
  pub utf8 : IsUtf8 reason

-- the words were read as these specs and steps
abbrev pub ReadsNeed : List (List ℕ) → List Spec → List ConditionStep → Type 0
ReadsNeed words union steps = (need : Need) × SpellsNeed words need × AreNeed union steps need

-- if the words are bad, they are no need
abbrev pub RefusesNeed : List (List ℕ) → LineError → Type 0
RefusesNeed words Bad = (need : Need) → SpellsNeed words need → ⊥
RefusesNeed words (Exhausted e) = ⊤

-- a union ends with the line, or where there is no bar
abbrev pub UnionEnds : Option (Bor (List ℕ)) → List (List ℕ) → Type 0
UnionEnds None words = words ≡ []
UnionEnds (Some word) words = word.now ≡ codes "|" → ⊥

-- no word, or `if` and a guard
abbrev pub ReadsIf : Option (Bor (List ℕ)) → List (List ℕ) → List ConditionStep → Type 0
ReadsIf None words steps = steps ≡ []
ReadsIf (Some word) words steps = (word.now ≡ codes "if") × ReadsGuard words steps

-- if the words are bad, they are neither
abbrev pub RefusesIf : Option (Bor (List ℕ)) → List (List ℕ) → LineError → Type 0
RefusesIf word words (Exhausted e) = ⊤
RefusesIf None words Bad = ⊥
RefusesIf (Some word) words Bad = word.now ≡ codes "if" → RefusesGuard words Bad
