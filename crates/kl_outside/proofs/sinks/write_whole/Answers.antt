use Rattle.std.proofs.Common.{◌∙◌}
use Rattle.kl_outside.proofs.SinkLemmas.{takes_more}
use Rattle.kl_outside.proofs.sinks.write_whole.Goals as goal

pub loop-rest-preserved : goal.loop-rest-preserved
loop-rest-preserved g c =
    let part = c.loop-rest.invariant.part in
    record {
      part = takes_more _ part.0 _ _ _ _ _ c.in_ok-count.ensures.within part.1 part.2 c.in_ok-count.ensures.took;
      faults = c.in_ok-count.ensures.cause.counts ∙ c.loop-rest.invariant.faults;
      wants = c.in_ok-count.ensures.cause.counts_want ∙ c.loop-rest.invariant.wants;
    }
