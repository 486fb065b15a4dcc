use Rattle.kl_eval.proofs.Pulling.{begins, goes_on, ends, stops, falls, still_open}
use Rattle.kl_eval.proofs.scans.drain.Goals as goal

pub pull_boxed-requires-clause-is_open : goal.pull_boxed-requires-clause-is_open
pull_boxed-requires-clause-is_open g c = still_open _ _ _ _ _ c.requires.is_open c.pulls.invariant

pub pulls-smaller : goal.pulls-smaller
pulls-smaller g c = falls _ _ _ _ _ _ _ _ _ c.in-Ok-true.field-0-test c.requires.is_open c.pulls.invariant c.in-Ok-true.ensures

pub pulls-preserved : goal.pulls-preserved
pulls-preserved g c = goes_on _ _ _ _ _ _ _ _ _ c.in-Ok-true.field-0-test c.requires.is_open c.pulls.invariant c.in-Ok-true.ensures

pub returns-in-Ok-false : goal.returns-in-Ok-false
returns-in-Ok-false g c = ends _ _ _ _ _ _ _ _ _ c.in-Ok-false.field-0-test c.requires.is_open c.pulls.invariant c.in-Ok-false.ensures

pub returns-in-Err : goal.returns-in-Err
returns-in-Err g c = stops _ _ _ _ _ _ _ _ _ c.requires.is_open c.pulls.invariant c.in-Err.ensures

pub pulls-init : goal.pulls-init
pulls-init g c = begins _ _ _
