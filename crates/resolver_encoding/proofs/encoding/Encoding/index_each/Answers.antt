use Rattle.std.proofs.Common.{arith, refl, subst, List}
use Rattle.std.proofs.lemmas.List.{take_all}
use Rattle.resolver_clause_store.specs.declared.VersionSetId.{VersionSetId}
use Rattle.resolver_encoding.specs.Notes.{notes_in}
use Rattle.resolver_encoding.specs.SoFar.{IsIndexing}
use Rattle.resolver_encoding.proofs.FiringLemmas.{IsIndexing-more, IsIndexing-same}
use Rattle.resolver_encoding.proofs.RoomLemmas.{KeepsRoom-same}
use Rattle.resolver_encoding.proofs.encoding.Encoding.index_each.Goals as goal

pub loop-version_set-init : goal.loop-version_set-init
loop-version_set-init g c =
    let u = g.D.Interner.universe c.args.provider.now in
    record {
      origins = refl;
      still = refl;
      room = KeepsRoom-same _;
      indexed = IsIndexing-same u c.args.number (notes_in c.args.self.now);
    }

pub loop-version_set-preserved : goal.loop-version_set-preserved
loop-version_set-preserved g c =
    let u = g.D.Interner.universe c.args.provider.now in
    let before = c.loop-version_set.invariant in
    record {
      origins = before.origins;
      still = before.still;
      room = record { variables = before.room.variables; clauses = before.room.clauses; cache = before.room.cache };
      indexed = IsIndexing-more u c.args.number c.args.disjunct.now c.loop-version_set.version_set-index _ (notes_in c.args.self.now)
          (notes_in c.loop-version_set.self) _ _ c.version_set_name-name.ensures (omega arith) before.indexed c.in_ok-add.ensures.added refl;
    }

pub returns-clause-indexed : goal.returns-clause-indexed
returns-clause-indexed g c =
    let u = g.D.Interner.universe c.args.provider.now in
    let Indexed : List VersionSetId → Type 0 = λ list. IsIndexing u c.args.number list (notes_in c.args.self.now) (notes_in c.loop-version_set.self) in
    subst Indexed (take_all c.loop-version_set.version_set-index c.args.disjunct.now (omega arith)) c.loop-version_set.invariant.indexed
