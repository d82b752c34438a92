use Rattle.std.proofs.Common.{◌∙◌, sym, subst, arith, Contains, List, ⊎_elim}
use Rattle.std.proofs.lemmas.List.Elements.{All-contains, All-nil, Contains-get_or}
use Rattle.std.proofs.lemmas.Option.{slice_get_within}
use Rattle.resolver_clause_store.specs.Lists.{HaveSameMembers}
use Rattle.resolver_clause_store.specs.Variables.{AreDistinct}
use Rattle.resolver_clause_store.specs.declared.VersionSetId.{VersionSetId}
use Rattle.resolver_clause_store.proofs.SetLemmas.{All-done}
use Rattle.resolver_encoding.proofs.NoteLemmas.{All-grown_at}
use Rattle.resolver_encoding.proofs.disjuncts.without_repeats.Goals as goal

pub loop-version_set-init : goal.loop-version_set-init
loop-version_set-init c =
    record {
      every = All-nil (Contains c.new-kept.result.keys);
      only = λ v h. absurd (omega (arith, h.1, c.new-kept.ensures.len));
      once = record { same = λ i k x one other. absurd (omega (arith, slice_get_within c.new-kept.result.keys i x one, c.new-kept.ensures.len)) };
    }

pub loop-version_set-preserved : goal.loop-version_set-preserved
loop-version_set-preserved c =
    let before = c.loop-version_set.invariant in
    record {
      every = All-grown_at (Contains c.loop-version_set.kept.keys)
          (Contains c.keep.new.kept.keys) c.args.list.now c.loop-version_set.version_set-index _ (λ y h. c.in_ok-keep.ensures.earlier y h)
          (omega arith) before.every c.in_ok-keep.ensures.here;
      only = λ v h. ⊎_elim (λ k. before.only v k) (λ e.
          let Has : VersionSetId → Type 0 = λ w. Contains c.args.list.now w in
          subst Has e (Contains-get_or c.args.list.now c.loop-version_set.version_set-index _ (omega arith))) (c.in_ok-keep.ensures.only v h);
      once = c.in_ok-keep.ensures.once before.once;
    }

pub returns-clause-same : goal.returns-clause-same
returns-clause-same c =
    let before = c.loop-version_set.invariant in
    let every = All-done (Contains c.loop-version_set.kept.keys) c.args.list.now c.loop-version_set.version_set-index (omega arith) before.every in
    let Same : List VersionSetId → Type 0 = λ list. HaveSameMembers list c.args.list.now in
    subst Same (sym (c.in_ok-from_slice.ensures.items ∙ c.as_slice.ensures.keys))
    (record { left_within = before.only; right_within = λ v h. All-contains (Contains c.loop-version_set.kept.keys) c.args.list.now v every h })

pub returns-clause-once : goal.returns-clause-once
returns-clause-once c =
    let Once : List VersionSetId → Type 0 = λ list. AreDistinct list in
    subst Once (sym (c.in_ok-from_slice.ensures.items ∙ c.as_slice.ensures.keys)) c.loop-version_set.invariant.once
