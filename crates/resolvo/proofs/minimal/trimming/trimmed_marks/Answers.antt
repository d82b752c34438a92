use Rattle.resolvo.proofs.minimal.trimming.trimmed_marks.Goals as goal

pub returns : goal.returns
returns g c =
    record {
      size = c.in_ok-marks.ensures.size;
      refuted = c.in_ok-marks.ensures.refuted;
      memory = tt;
    }
