use Rattle.std.proofs.Common.{refl, sym, ap, subst}
use Rattle.kl_type.specs.Ground.{IsGround}
use Rattle.kl_run.proofs.Sources.{told_is}
use Rattle.calls_plans.proofs.Scannable.{numbers_typed}
use Rattle.calls_plans.proofs.scans.attached.Goals as goal

pub attach-requires-clause-proper : goal.attach-requires-clause-proper
attach-requires-clause-proper c = subst IsGround (sym c.requires.ty) tt

pub attach-requires-clause-fresh : goal.attach-requires-clause-fresh
attach-requires-clause-fresh c = ap (λ s. s.attached c.args.name.now) c.new-driver.ensures

pub returns-in-Ok : goal.returns-in-Ok
returns-in-Ok c = (_, c.in-Ok.ensures.attached.1, refl, λ rows told. numbers_typed _ rows c.requires.ty (c.in-Ok.ensures.typed rows (told_is _ rows told)))
