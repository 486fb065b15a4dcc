use Rattle.calls_plans.proofs.scans.read_of.Goals as goal

pub read_by-requires-clause-attached : goal.read_by-requires-clause-attached
read_by-requires-clause-attached c = rw c.in_ok-boxed.ensures c.in_ok-driver.ensures
