use Rattle.std.proofs.Common.{◌<◌, sym, subst, arith}
use Rattle.kl_plan.specs.Nodes.{view}
use Rattle.kl_scans.specs.Right.{IsReadyRun}
use Rattle.kl_scans.specs.Scans.{CanScan}
use Rattle.calls_plans.proofs.Begun.{run_ready}
use Rattle.calls_plans.proofs.scans.read_by.Goals as goal

pub scans-requires-clause-can : goal.scans-requires-clause-can
scans-requires-clause-can g c = subst (λ w. CanScan w c.args.scan.now) (sym c.run_of-run.ensures) (c.in_ok-session.ensures.can (view c.args.plan.now))

pub scans-requires-clause-ready : goal.scans-requires-clause-ready
scans-requires-clause-ready g c =
    subst IsReadyRun (sym c.run_of-run.ensures)
    (run_ready (view c.args.plan.now) _ c.requires.plan c.in_ok-session.ensures.ready (subst (λ s. 0 < s.block) (sym c.in_ok-session.ensures.settings) (omega arith)))
