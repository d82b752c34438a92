use Rattle.std.proofs.Common.{Contains, List, ℕ, subst, sym}
use Rattle.resolver_encoding.specs.Groups.{IsInGroup}
use Rattle.resolver_encoding.specs.Notes.{notes_in}
use Rattle.resolver_encoding.proofs.FiringLemmas.{IsQuietUnder-all}
use Rattle.resolver_encoding.proofs.GroupLemmas.{contains_in}
use Rattle.resolver_encoding.proofs.encoding.Encoding.fire_named.Goals as goal

pub returns-clause-quiet : goal.returns-clause-quiet
returns-clause-quiet g c =
    let u = g.D.Interner.universe c.args.provider.now in
    let Named : g.row.N.Denot → ℕ → Type 0 = λ n i. IsInGroup c.args.self.now.deferred_by_name n i in
    let Has : List ℕ → ℕ → Type 0 = λ xs i. Contains xs i in
    IsQuietUnder-all u c.args.chosen.now.keys (notes_in c.args.self.now) (notes_in c.fire_each.new.self) c.in_ok-any.ensures.firing
    (u.name c.args.solvable) c.in_ok-numbers.numbers.items
    (λ i named. subst (λ xs. Has xs i) (sym c.in_ok-numbers.ensures.items)
    (contains_in c.named.result.now _ i c.named.ensures.every (subst (λ n. Named n i) (sym c.solvable_name-name.ensures) named)))
    (rw c.deref.ensures.value at c.in_ok-any.ensures.quiet)
