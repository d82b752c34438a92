-- Variables that are made for candidates before these are registered.
use Rattle.std.proofs.Common.{◌≡◌, ℕ, List}
use Rattle.std.specs.Prelude.{⊤}
use Rattle.resolver_clause_store.specs.Universe.{Universe}
use Rattle.resolver_clause_store.specs.declared.Origin.{Origin}
use Rattle.resolver_encoding.specs.Called.{IsSeeingEach}
use Rattle.resolver_encoding.specs.Encodings.{Grows, IsAskStep, Notes, idle}
use Rattle.resolver_encoding.proofs.EncodingLemmas.{IsAskStep-of}
use Rattle.resolver_encoding.proofs.NoteLemmas.{IsStep-origins}

module _ {N S : Type 0} (u : Universe N S) (candidates : List S) (old new : Notes N S) where
  -- only origins were added
  pub made_step : (origins : List (Origin N S)) (limit : ℕ) → Grows old.origins origins → limit ≡ old.variable_limit →
      new ≡ record old { origins = origins; variable_limit = limit } → IsAskStep u (IsSeeingEach candidates) (λ root. ⊤) old new
  made_step origins limit grows same is =
      IsAskStep-of u (IsSeeingEach candidates) (λ root. ⊤) old new (IsStep-origins u idle (λ root. ⊤) old new origins limit grows same is)
