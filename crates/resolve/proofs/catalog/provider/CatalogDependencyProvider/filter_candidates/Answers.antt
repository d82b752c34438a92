use Rattle.std.proofs.Common.{ap, cond, not, refl, sym, ◌∙◌}
use Rattle.resolve.specs.Catalogs.{takes}
use Rattle.resolve.specs.Ranges.{range_takes}
use Rattle.resolve.proofs.RangeLemmas.{differs, sift_kept, sift_left}
use Rattle.resolve.proofs.catalog.provider.CatalogDependencyProvider.filter_candidates.Goals as goal
use Rattle.resolve.proofs.catalog.provider.CatalogDependencyProvider.filter_candidates.Goals.{then-takes-inverse+in_ok-push, else-takes-inverse}

pub loop-candidate-preserved : goal.loop-candidate-preserved
loop-candidate-preserved c =
    let at = takes c.args.self.now.packages.versions.keys c.version_set_of-range.result.range in
    let is = c.takes.ensures ∙ ap (range_takes c.version_set_of-range.result.range) c.version.ensures in
    elim c.if-takes-inverse.branch [
      | then-takes-inverse+in_ok-push w ↦ rw w.kept-is (sift_kept (λ s. not (at s)) at c.args.inverse c.args.candidates.now
          c.loop-candidate.candidate-index (record { 0 = 0 }) c.loop-candidate.kept.items _ c.loop-candidate-test.true
          (ap (λ taken. cond c.args.inverse (not taken) taken) (sym is) ∙ differs _ _ _ w.if-takes-inverse.true)
          c.loop-candidate.invariant w.in_ok-push.ensures.items)
      | else-takes-inverse w ↦ rw w.kept-is (sift_left (λ s. not (at s)) at c.args.inverse c.args.candidates.now
          c.loop-candidate.candidate-index (record { 0 = 0 }) c.loop-candidate.kept.items _ c.loop-candidate-test.true
          (ap (λ taken. cond c.args.inverse (not taken) taken) (sym is) ∙ differs _ _ _ w.if-takes-inverse.false)
          c.loop-candidate.invariant refl)
    ]
