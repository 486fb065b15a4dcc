use Rattle.std.proofs.Common.{sym, subst}
use Rattle.kl_ask.specs.Driver.{CanStart}
use Rattle.kl_eval.proofs.Scanning.{gathered, unscanned}
use Rattle.kl_eval.proofs.scans.scan_attached.Goals as goal

pub returns-in-Ok : goal.returns-in-Ok
returns-in-Ok g c = gathered _ _ _ _ _ _ _ _ c.in-Ok.ensures c.kind_in.ensures c.gather.ensures c.scan-rows.ensures

pub returns-in-Err : goal.returns-in-Err
returns-in-Err g c = unscanned _ _ _

pub scan-rows-requires-clause-can : goal.scan-rows-requires-clause-can
scan-rows-requires-clause-can g c = λ s is. subst (CanStart s) (sym c.in-Ok.ensures) (c.requires.can s is)
