use Rattle.std.proofs.Common.{Some, nat_eq, subst}
use Rattle.std.specs.Cmp.Lexicographic.{pointwise}
use Rattle.std.specs.HashMap.{Updates}
use Rattle.kl_flat.proofs.sources.put_source.Goals as goal

pub returns-clause-added : goal.returns-clause-added
returns-clause-added c = subst (λ k. Updates (pointwise nat_eq) c.args.sources.now c.insert.new.self k (Some c.args.source)) c.in_ok-dup.ensures c.in_ok-insert.ensures.updates
