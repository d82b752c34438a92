use Rattle.std.proofs.Common.{◌∙◌}
use Rattle.resolver_clause_store.proofs.CacheLemmas.{KeepsAnswers-trans}
use Rattle.resolver_clause_store.proofs.UnionLemmas.{taken_more, taken_all}
use Rattle.resolver_clause_store.proofs.requirements.union_candidates.Goals as goal

pub loop-version_set-preserved : goal.loop-version_set-preserved
loop-version_set-preserved g c =
    let u = g.D.Interner.universe c.args.provider.now in
    let held = c.fetch_sorted.ensures.is_true in
    record {
      is_true = held;
      keeps = KeepsAnswers-trans _ _ _ c.loop-version_set.invariant.keeps c.fetch_sorted.ensures.keeps;
      taken = taken_more u _ _ _ _ _ _ _ c.loop-version_set-test.true c.loop-version_set.invariant.taken
          (c.sorted.ensures u held) c.in_ok-add_all.ensures.added;
    }

pub returns : goal.returns
returns g c =
    let u = g.D.Interner.universe c.args.provider.now in
    record {
      is_true = c.loop-version_set.invariant.is_true;
      keeps = c.loop-version_set.invariant.keeps;
      value = taken_all u _ g.met.D.Interner.solvables_are_values
          (g.met.D.Interner.solvables_compare c.args.provider.now) c.args.version_set_union _ _ _ _ c.loop-version_set-test.false
          c.version_sets_in_union-version_set-items.ensures (c.in_ok-from_slice.ensures.items ∙ c.as_slice.ensures.keys) c.loop-version_set.invariant.taken;
      refusal = tt;
    }

pub returns-in_err-fetch_sorted-clause-keeps : goal.returns-in_err-fetch_sorted-clause-keeps
returns-in_err-fetch_sorted-clause-keeps g c = KeepsAnswers-trans _ _ _ c.loop-version_set.invariant.keeps c.fetch_sorted.ensures.keeps

pub returns-in_err-add_all-clause-keeps : goal.returns-in_err-add_all-clause-keeps
returns-in_err-add_all-clause-keeps g c = KeepsAnswers-trans _ _ _ c.loop-version_set.invariant.keeps c.fetch_sorted.ensures.keeps

pub returns-in_err-from_slice-clause-keeps : goal.returns-in_err-from_slice-clause-keeps
returns-in_err-from_slice-clause-keeps g c = c.loop-version_set.invariant.keeps
