use Rattle.kl_engine.proofs.FaultLemmas.{Wrote}
use Rattle.kl_engine.proofs.fault.write_parts.Given as goal

abbrev pub invariant-parts : goal.invariant-parts
invariant-parts g l = Wrote (λ part. part.now) l.parts l.part-index (g.E.Sink.state l.initial.err) (g.E.Sink.state l.err)
