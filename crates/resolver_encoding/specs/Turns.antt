-- What the turns of soft requirements change in the notes of an encoding.
use Rattle.std.specs.Prelude.{◌≡◌, ◌≢◌, ◌⊎◌, Contains, List, Some}
use Rattle.resolver_clause_store.specs.Lists.{IsWithin}
use Rattle.resolver_clause_store.specs.Universe.{Universe, Demands}
use Rattle.resolver_clause_store.specs.Variables.{Keeps}
use Rattle.resolver_clause_store.specs.declared.ClauseKind.TheVariants.{Lock, Excluded}
use Rattle.resolver_clause_store.specs.declared.StringId.{StringId}
use Rattle.resolver_encoding.specs.Called.{AreAsked}
use Rattle.resolver_encoding.specs.Encodings.{Extends, Notes}
use Rattle.resolver_encoding.specs.SoFar.{IsHalfRead, IsReadSoFar}
use Rattle.resolver_encoding.specs.Values.{requirement_numbers}

-- no requirement clause was added
abbrev pub AddsPlainly : {N S : Type 0} → Notes N S → Notes N S → Type 0
AddsPlainly old new = requirement_numbers new.kinds ≡ requirement_numbers old.kinds

-- whatever was read stays read, for every problem
pub record StaysRead {N S : Type 0} (u : Universe N S) (old new : Notes N S) : Type 0 where
  pub half : (root : Demands) → IsHalfRead u root old → IsHalfRead u root new
  pub so_far : (root : Demands) (set : List S) → IsReadSoFar u root set old → IsReadSoFar u root set new

-- Clauses were added, and maybe solvables registered or packages asked. Nothing was read or deferred, and whatever was
-- read stays read.
pub record IsAddition {N S : Type 0} (u : Universe N S) (old new : Notes N S) : Type 0 where
  pub origins : Keeps old.origins new.origins
  pub table : Extends old.table new.table
  pub kinds : IsWithin old.kinds new.kinds
  pub plainly : AddsPlainly old new
  pub seen : Extends old.seen new.seen
  pub asked : IsWithin old.asked new.asked
  pub read : new.read ≡ old.read
  pub deferred : new.deferred ≡ old.deferred
  pub deferred_by_name : new.deferred_by_name ≡ old.deferred_by_name
  pub stays : StaysRead u old new

-- the solvable is registered, and besides it only the solvables that were
pub record IsRegistered {N S : Type 0} (u : Universe N S) (s : S) (old new : Notes N S) : Type 0 where
  pub adds : IsAddition u old new
  pub here : Contains new.seen s
  pub only : (t : S) → Contains new.seen t → Contains old.seen t ⊎ (t ≡ s)
  pub asked : new.asked ≡ old.asked
  pub exempt : new.exempt ≡ old.exempt

-- Unless the solvable is exempt, it has the clauses of the lock and the exclusions of its package, if that was asked.
pub record IsRestored {N S : Type 0} (u : Universe N S) (s : S) (notes : Notes N S) : Type 0 where
  pub lock : (t : S) → Contains notes.asked (u.name s) → (Contains notes.exempt s → ⊥) → (u.package_named (u.name s)).locked ≡ Some t →
      Contains (u.package_named (u.name s)).listed s → s ≢ t → Contains notes.kinds (Lock t s)
  pub exclusions : (reason : StringId) → Contains notes.asked (u.name s) → (Contains notes.exempt s → ⊥) →
      Contains (u.package_named (u.name s)).excluded (s, reason) → Contains notes.kinds (Excluded s reason)

-- no solvable was registered and no package asked; exemptions may have changed
pub record IsTurnEnd {N S : Type 0} (u : Universe N S) (old new : Notes N S) : Type 0 where
  pub adds : IsAddition u old new
  pub seen : new.seen ≡ old.seen
  pub asked : new.asked ≡ old.asked

-- the package was asked and no other, and no solvable registered
pub record AsksOnly {N S : Type 0} (u : Universe N S) (n : N) (old new : Notes N S) : Type 0 where
  pub adds : IsAddition u old new
  pub asked : AreAsked (λ m. m ≡ n) old.asked new.asked
  pub seen : new.seen ≡ old.seen
  pub exempt : new.exempt ≡ old.exempt
