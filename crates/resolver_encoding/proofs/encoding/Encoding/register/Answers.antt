use Rattle.std.proofs.Common.{refl}
use Rattle.std.specs.Prelude.{⊤}
use Rattle.resolver_clause_store.specs.Variables.{limit_in, origins_in}
use Rattle.resolver_encoding.specs.Called.{IsSeeing}
use Rattle.resolver_encoding.specs.Encodings.{Grows, idle}
use Rattle.resolver_encoding.specs.Notes.{notes_in}
use Rattle.resolver_encoding.proofs.EncodingLemmas.{IsAskStep-of, IsAskStep-trans}
use Rattle.resolver_encoding.proofs.NoteLemmas.{IsStep-origins}
use Rattle.resolver_encoding.proofs.TurnLemmas.{IsRegistered-of}
use Rattle.resolver_encoding.proofs.encoding.Encoding.register.Goals as goal

pub returns-clause-registered : goal.returns-clause-registered
returns-clause-registered g c =
    let u = g.D.Interner.universe c.args.provider.now in
    let old = notes_in c.args.self.now in
    let grows : Grows old.origins (origins_in c.intern.new.self) = record { keeps = c.intern.ensures.kept; distinct = c.intern.ensures.distinct } in
    IsRegistered-of u c.args.solvable old (notes_in c.see.new.self)
    (IsAskStep-trans u (IsSeeing c.args.solvable) (λ root. ⊤) _ _ _
    (IsAskStep-of u (IsSeeing c.args.solvable) (λ root. ⊤) _ _
    (IsStep-origins u idle (λ root. ⊤) old _ (origins_in c.intern.new.self) (limit_in c.intern.new.self) grows c.intern.ensures.limit refl))
    c.in_ok-see.ensures.step)
    c.in_ok-see.ensures.seen c.in_ok-see.ensures.only c.in_ok-see.ensures.plain c.in_ok-see.ensures.asked
