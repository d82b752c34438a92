use Rattle.std.proofs.Common.{ℕ, arith, false, refl, subst, sym, get_or, length, ◌≡◌, ◌<◌}
use Rattle.std.proofs.lemmas.List.{get_or_default}
use Rattle.resolver_clause_store.specs.declared.clauses.StoredRequirement.{StoredRequirement}
use Rattle.resolver_clause_store.specs.Decisions.{IsFirstUnassigned}
use Rattle.resolver_clause_store.specs.Formula.{clause_at}
use Rattle.resolver_clause_store.specs.LastOpens.{IsOpenSince}
use Rattle.resolver_clause_store.proofs.QueueLemmas.{held-by_candidate, held-inactive, left-read, parked-more, queued-settled}
use Rattle.resolver_clause_store.proofs.queue.DecideQueue.consider.Goals as goal

pub returns-in_ok-add-in-Inactive-clause-queued : goal.returns-in_ok-add-in-Inactive-clause-queued
returns-in_ok-add-in-Inactive-clause-queued c =
    let none : StoredRequirement = record { number = 0; of_root = false } in
    let inside : c.index-number.result.now < length c.args.requirements.now = omega (arith, c.if-index-requirements.false) in
    let requirement : StoredRequirement = get_or c.args.requirements.now c.index-number.result.now none in
    let is : requirement ≡ get_or c.args.requirements.now c.index-number.result.now requirement =
    get_or_default c.args.requirements.now c.index-number.result.now none requirement inside in
    let it = c.args.self.now in
    let index = c.index-number.result.now in
    let left = c.swap_remove-in-Inactive in
    let here = rw c.index.ensures at c.in_ok-add-in-Inactive.ensures.here in
    let others = rw c.index.ensures at c.in_ok-add-in-Inactive.ensures.others in
    queued-settled it _ c.args.trail.now c.args.table.now c.args.requirements.now index refl refl
    (left-read it.active.items _ c.args.place index left.result c.requires.listed c.index-number.ensures left.ensures.value left.ensures.items)
    (parked-more it.inactive c.add.new.self c.in-Inactive.variable index here others)
    (λ v i there. there)
    (held-inactive _ it.inactive c.add.new.self it.met it.followed.items it.kept c.args.trail.now c.args.table.now c.args.requirements.now
    requirement c.clause-literals.result.now index c.in-Inactive.variable here is c.clause-literals.ensures
    c.in-Inactive.ensures)
    refl c.requires.queued

pub returns-in_ok-add-in-Met-clause-queued : goal.returns-in_ok-add-in-Met-clause-queued
returns-in_ok-add-in-Met-clause-queued c =
    let none : StoredRequirement = record { number = 0; of_root = false } in
    let inside : c.index-number.result.now < length c.args.requirements.now = omega (arith, c.if-index-requirements.false) in
    let requirement : StoredRequirement = get_or c.args.requirements.now c.index-number.result.now none in
    let is : requirement ≡ get_or c.args.requirements.now c.index-number.result.now requirement =
    get_or_default c.args.requirements.now c.index-number.result.now none requirement inside in
    let it = c.args.self.now in
    let index = c.index-number.result.now in
    let left = c.swap_remove-in-Met in
    let here = rw c.index-in-Met.ensures at c.in_ok-add-in-Met.ensures.here in
    let others = rw c.index-in-Met.ensures at c.in_ok-add-in-Met.ensures.others in
    queued-settled it _ c.args.trail.now c.args.table.now c.args.requirements.now index refl refl
    (left-read it.active.items _ c.args.place index left.result c.requires.listed c.index-number.ensures left.ensures.value left.ensures.items)
    (λ v i there. there)
    (parked-more it.met c.add-in-Met.new.self c.in-Met.variable index here others)
    (held-by_candidate _ it.inactive it.met c.add-in-Met.new.self it.followed.items it.kept c.args.trail.now c.args.table.now c.args.requirements.now
    requirement c.clause-literals.result.now index c.in-Met.variable c.requires.queued.following.same c.requires.followed.all
    c.requires.followed.none_else here is c.clause-literals.ensures c.in-Met.ensures)
    refl c.requires.queued

pub returns-in-Open-clause-some : goal.returns-in-Open-clause-some
returns-in-Open-clause-some c =
    let none : StoredRequirement = record { number = 0; of_root = false } in
    let inside : c.index-number.result.now < length c.args.requirements.now = omega (arith, c.if-index-requirements.false) in
    let requirement : StoredRequirement = get_or c.args.requirements.now c.index-number.result.now none in
    let is : requirement ≡ get_or c.args.requirements.now c.index-number.result.now requirement =
    get_or_default c.args.requirements.now c.index-number.result.now none requirement inside in
    record {
      requirement = requirement;
      listed = (c.index-number.result.now, inside, sym is);
      chosen = record {
        number_is = sym c.choose-in-Open.ensures.choice.0;
        first = rw (c.choose-in-Open.ensures.choice.0, c.choose-in-Open.ensures.choice.1, sym c.clause-literals.ensures) c.in-Open.ensures;
      };
    }

pub returns-in-Some-clause-queued : goal.returns-in-Some-clause-queued
returns-in-Some-clause-queued c =
    let none : StoredRequirement = record { number = 0; of_root = false } in
    let inside : c.index-number.result.now < length c.args.requirements.now = omega (arith, c.if-index-requirements.false) in
    let requirement : StoredRequirement = get_or c.args.requirements.now c.index-number.result.now none in
    let first : IsFirstUnassigned c.args.trail.now (clause_at c.args.table.now requirement.number) c.in-Some.first =
    rw c.clause-literals.ensures at (c.in-Some.ensures (λ last is same.
    let Since : ℕ → Type 0 = λ i. IsOpenSince c.args.trail.now (clause_at c.args.table.now (get_or c.args.requirements.now i none).number)
    last.first last.count in
    rw c.clause-literals.ensures (subst Since same ((c.requires.queued.last last is).is_open none)))) in
    c.choose.ensures.queued c.args.table.now c.args.requirements.now none inside first c.requires.followed c.requires.queued
