use Rattle.std.proofs.Common.{refl, ◌∙◌}
use Rattle.resolver_encoding.proofs.ClauseLemmas.{Grows-same, Grows-trans}
use Rattle.resolver_encoding.proofs.encoding.candidates.make_variables.Goals as goal

pub loop-candidate-init : goal.loop-candidate-init
loop-candidate-init g c = record { limit = refl; grows = Grows-same _ }

pub loop-candidate-preserved : goal.loop-candidate-preserved
loop-candidate-preserved g c =
    let before = c.loop-candidate.invariant in
    record {
      limit = c.intern.ensures.limit ∙ before.limit;
      grows = Grows-trans _ _ _ before.grows (record { keeps = c.intern.ensures.kept; distinct = c.intern.ensures.distinct });
    }
