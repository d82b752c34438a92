-- Words whose ids are known, and what short lines add.
use Rattle.std.specs.Prelude.{◌≡◌, ℕ, Bool, true, List, [], ◌∷◌, ◌++◌, Option, Some, None, All, IfSome, MatchBool}
use Rattle.std.specs.List.{list_any}
use Rattle.std.specs.Str.{bytes_eq}
use Rattle.resolver_clause_store.specs.declared.ids.VersionSetId.{VersionSetId}
use Rattle.resolve.specs.declared.ids.SolvableId.{SolvableId}
use Rattle.resolve.specs.declared.request.known.KnownWords.{KnownWords}
use Rattle.resolve.specs.Catalogs.{Tables}
use Rattle.resolve.specs.Meaning.{Input, after_one, same_set, set_id, set_of, solvable_in, with_set}
use Rattle.resolve.specs.Said.{Named, Said, Wanted, declares, requires_for}
use Rattle.resolve.specs.Spelling.{Names, Says, Wants}

-- the word is a spec, and its version set is in the tables, at this id
pub record IsKnownSpec (t : Tables) (word : List ℕ) (id : VersionSetId) : Type 0 where
  pub wanted : Wanted
  pub wants : Wants word wanted
  pub named : list_any (bytes_eq wanted.name) t.names ≡ true
  pub listed : list_any (same_set (set_of t wanted)) t.version_sets ≡ true
  pub is : id ≡ set_id t wanted

-- the word names a solvable, which is in the tables, at this id
pub record IsKnownSolvable (t : Tables) (word : List ℕ) (s : SolvableId) : Type 0 where
  pub it : Named
  pub names : Names word it
  pub named : list_any (bytes_eq it.name) t.names ≡ true
  pub found : solvable_in t it ≡ Some s

-- the known words are in the tables, at their ids
pub record AreKnown (known : KnownWords) (t : Tables) : Type 0 where
  pub specs : All (λ e. IsKnownSpec t e.0.now e.1) known.specs.entries
  pub last : IfSome known.last (λ e. IsKnownSolvable t e.0.now e.1)

-- the bytes are the word of a solvable, which is in the tables, a space and the rest
pub record NamesFirst (bytes : List ℕ) (t : Tables) (s : SolvableId) (rest : List ℕ) : Type 0 where
  pub word : List ℕ
  pub it : Named
  pub cut : bytes ≡ word ++ 32 ∷ rest
  pub names : Names word it
  pub found : solvable_in t it ≡ Some s

-- the word is a spec, whose version set was added and has this id; or nothing changed
abbrev pub WantsSet : Option VersionSetId → List ℕ → Tables → Tables → Type 0
WantsSet None word old new = new ≡ old
WantsSet (Some id) word old new = (wanted : Wanted) × Wants word wanted × (new ≡ with_set old wanted) × (id ≡ set_id old wanted)

-- the bytes are the words of a solvable and of a spec, with a space between them, and what is said of them was added
pub record AddsPair (say : Named → Wanted → Said) (bytes : List ℕ) (old new : Input) : Type 0 where
  pub word : List ℕ
  pub other : List ℕ
  pub it : Named
  pub wanted : Wanted
  pub cut : bytes ≡ word ++ 32 ∷ other
  pub names : Names word it
  pub wants : Wants other wanted
  pub adds : after_one old (say it wanted) ≡ Some new

-- the solvable requires the one spec
abbrev pub requires_one : Named → Wanted → Said
requires_one it wanted = requires_for it (record { union = wanted ∷ []; guard = None })

-- the word names a solvable, which was declared
abbrev pub Declares : List ℕ → Input → Input → Type 0
Declares word old new = (it : Named) × Names word it × (after_one old (declares it) ≡ Some new)

-- the line says a statement, which was added; or nothing changed
abbrev pub ReadsShort : Bool → List ℕ → Input → Input → Type 0
ReadsShort is_read line old new = MatchBool is_read ((said : Said) × Says line said × (after_one old said ≡ Some new)) (new ≡ old)
