use Rattle.resolver_encoding.proofs.choices.counts_behind.Goals as goal

pub loop-version_set-preserved : goal.loop-version_set-preserved
loop-version_set-preserved g c = record {
  small = c.in_ok-count_next.ensures.small;
  is_true = c.count_next.ensures.is_true;
}
