use Rattle.std.proofs.Common.{drop}
use Rattle.kl_json.proofs.Telling.{Written}
use Rattle.kl_json.proofs.fault.write_parts.Given as goal

abbrev pub invariant-parts : goal.invariant-parts
invariant-parts g l = Written (λ part. part.now) l.parts (g.E.Sink.state l.initial.err) (drop l.part-index l.parts) (g.E.Sink.state l.err)
