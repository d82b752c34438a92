-- Room for variables and clauses, and true answers in the cache, over several steps.
use Rattle.std.proofs.Common.{refl, ◌∙◌, subst, sym}
use Rattle.resolver_clause_store.specs.Caches.{IsTrueCache}
use Rattle.resolver_clause_store.specs.Universe.{Universe}
use Rattle.resolver_encoding.specs.Notes.{KeepsRoom, KeepsTrue}
use Rattle.resolver_encoding.specs.declared.encoding.Encoding.{Encoding}

pub KeepsRoom-same : {N S : Type 0} (e : Encoding N S) → KeepsRoom e e
KeepsRoom-same e = record { variables = refl; clauses = refl; cache = refl }

pub KeepsRoom-trans : {N S : Type 0} (one two three : Encoding N S) → KeepsRoom one two → KeepsRoom two three → KeepsRoom one three
KeepsRoom-trans one two three first second =
    record { variables = second.variables ∙ first.variables; clauses = second.clauses ∙ first.clauses; cache = second.cache ∙ first.cache }

pub KeepsTrue-of : {N S : Type 0} {u : Universe N S} (old new : Encoding N S) → KeepsRoom old new → KeepsTrue u old new
KeepsTrue-of {N} {S} {u} old new room =
    record { variables = room.variables; clauses = room.clauses; answers = λ known. subst (IsTrueCache u) (sym room.cache) known }

pub KeepsTrue-same : {N S : Type 0} {u : Universe N S} (e : Encoding N S) → KeepsTrue u e e
KeepsTrue-same e = record { variables = refl; clauses = refl; answers = λ known. known }

pub KeepsTrue-trans : {N S : Type 0} {u : Universe N S} (one two three : Encoding N S) → KeepsTrue u one two → KeepsTrue u two three → KeepsTrue u one three
KeepsTrue-trans one two three first second =
    record { variables = second.variables ∙ first.variables; clauses = second.clauses ∙ first.clauses; answers = λ known. second.answers (first.answers known) }
