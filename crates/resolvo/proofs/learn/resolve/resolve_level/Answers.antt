use Rattle.std.proofs.lemmas.Grind.{common_steps}
use Rattle.std.proofs.Common.{rules, arith, ◌≡◌, ◌<◌, ◌-◌, ap, sym, ◌∙◌, true}
use Rattle.resolver_clause_store.specs.Slots.{is_decided}
use Rattle.resolvo.specs.Resolvents.{is_marked}
use Rattle.resolvo.proofs.MarkLemmas.{marked-read}
use Rattle.resolvo.proofs.LevelLemmas.{levelled-skip, single-found, never-decided}
use Rattle.resolver_clause_store.proofs.SlotLemmas.{placed-slot}
use Rattle.resolvo.proofs.learn.resolve.resolve_level.Goals as goal

pub returns-then-is_single : goal.returns-then-is_single
returns-then-is_single c =
    let so = c.places.invariant in
    record {
      resolvent = so.1;
      inside = λ some. omega arith;
      single = λ some. single-found _ _ c.places.place (c.places.place - 1) so.2 (omega arith) c.if-is_single.ensures.1 some;
      none = λ none. absurd (omega (arith, none, c.if-is_single.ensures.0));
    }

decided : (c : goal.In-Decided) → ⊥
decided c =
    let at = sym c.slot.ensures ∙ c.in-Some.is in
    let marked : is_marked c.places.resolvent.marks.items c.variable_at-variable.result ≡ true =
    marked-read c.places.resolvent.marks.items c.variable_at-variable.result _ _
    (omega (arith, c.variable_at-variable.ensures.inside, c.places.invariant.1.size)) (rw c.index.ensures at c.index-in-places.ensures) c.if-index.true in
    never-decided _ c.places.resolvent c.places.place (c.places.place - 1) c.variable_at-variable.result c.in-Some.slot c.places.invariant.2
    (omega arith) marked at (placed-slot _ _ _ c.variable_at-variable.ensures.placed at) c.if-is_single.ensures (ap is_decided c.in-Decided.is)

pub returns-in-Decided : goal.returns-in-Decided
returns-in-Decided c = absurd (decided c)

assumed : (c : goal.In-Assumed) → ⊥
assumed c =
    let at = sym c.slot.ensures ∙ c.in-Some.is in
    let marked : is_marked c.places.resolvent.marks.items c.variable_at-variable.result ≡ true =
    marked-read c.places.resolvent.marks.items c.variable_at-variable.result _ _
    (omega (arith, c.variable_at-variable.ensures.inside, c.places.invariant.1.size)) (rw c.index.ensures at c.index-in-places.ensures) c.if-index.true in
    never-decided _ c.places.resolvent c.places.place (c.places.place - 1) c.variable_at-variable.result c.in-Some.slot c.places.invariant.2
    (omega arith) marked at (placed-slot _ _ _ c.variable_at-variable.ensures.placed at) c.if-is_single.ensures (ap is_decided c.in-Assumed.is)

pub returns-in-Assumed : goal.returns-in-Assumed
returns-in-Assumed c = absurd (assumed c)

pub places-preserved : goal.places-preserved
places-preserved c = (
  omega arith,
  c.places.invariant.1,
  levelled-skip _ _ c.places.place _ c.variable_at-variable.result c.places.invariant.2 (omega arith) c.variable_at-variable.ensures.value (search rules),
)

pub places-preserved-in-Continue-1 : goal.places-preserved-in-Continue-1
places-preserved-in-Continue-1 c = grind (arith, common_steps)

pub returns : goal.returns
returns c =
    let so = c.places.invariant in
    let bottom : 0 < c.places.resolvent.level → ⊥ = λ some.
    let mark = so.2.mark some in
    omega (arith, so.2.before.before mark.variable mark.stands.slot mark.marked mark.stands.is, c.places-test.false) in
    record {
      resolvent = so.1;
      inside = λ some. absurd (bottom some);
      single = λ some. absurd (bottom some);
      none = λ none. record { before = λ variable slot marked at. omega (arith, so.2.before.before variable slot marked at, c.places-test.false) };
    }
