use Rattle.std.proofs.Common.{◌≡◌, ◌<◌, ◌∙◌, ap, length, refl, rules}
use Rattle.std.proofs.lemmas.List.{get_or_read_under}
use Rattle.std.specs.Vec.{vec_len}
use Rattle.resolver_clause_store.specs.Literals.{list_number}
use Rattle.resolver_clause_store.specs.declared.pairs.WatchedPair.{WatchedPair}
use Rattle.resolver_clause_store.specs.Watches.{replaced, unwatched}
use Rattle.resolver_clause_store.proofs.WatchListLemmas.{listed-watching, watching-number, IsMove, move-watched, move-moves, move-fit}
use Rattle.resolver_clause_store.proofs.watches.Watches.move_watch.Goals as goal

pub invariant_of-self : goal.invariant_of-self
invariant_of-self c = record { watched = rw c.in_err-push.ensures.unchanged c.args.self.now.watched }

pub index_mut-requires : goal.index_mut-requires
index_mut-requires c =
    let size : vec_len c.args.self.now.pairs ≡ length c.args.self.now.pairs.items = search rules in
    rw size (watching-number _ _ c.args.from (listed-watching _ _ _ _ _ c.args.self.now.watched c.requires.placed))

-- the steps that were taken
moves : (c : goal.After-self-2-1) →
    IsMove c.args.self.now.lists c.push.new.self c.take.new.self c.args.self.now.pairs.items c.args.from c.args.to
    c.args.placed.now.place c.args.blocker c.args.start c.args.placed.now.watch c.replace.new.self
moves c =
    let inside : c.args.placed.now.watch.number < length c.args.self.now.pairs.items =
    watching-number _ _ c.args.from (listed-watching _ _ _ _ _ c.args.self.now.watched c.requires.placed) in
    record {
      value = c.requires.placed;
      inside = inside;
      free = c.requires.unwatched;
      watching = listed-watching _ _ _ _ _ c.args.self.now.watched c.requires.placed;
      pushed = rw c.list_number.ensures at c.in_ok-push.ensures.pushed;
      taken = rw c.list_number-2.ensures at c.take.ensures c.args.placed.now.watch;
      pair_is = c.replace.ensures ∙ ap (λ (p : WatchedPair). replaced p c.args.from c.args.to)
          (get_or_read_under c.args.self.now.pairs.items c.args.placed.now.watch.number _ _ unwatched c.index_mut.ensures.value inside refl);
    }

pub invariant_of-self-2 : goal.invariant_of-self-2
invariant_of-self-2 c = record { watched = move-watched _ _ _ _ _ _ _ _ _ _ _ (moves c) c.args.self.now.watched }

pub returns-clause-moved : goal.returns-clause-moved
returns-clause-moved c = move-moves _ _ _ _ _ _ _ _ _ _ _ (moves c.before) _ c.requires.placed

pub returns-clause-fit : goal.returns-clause-fit
returns-clause-fit c = λ table contains has. move-fit _ _ _ _ _ _ _ _ _ _ _ (moves c.before) table _ c.requires.placed contains has
