use Rattle.kl_eval.proofs.Pulling.{still_open}
use Rattle.kl_eval.proofs.Scanning.{started, not_started, scanned, scan_stopped}
use Rattle.kl_eval.proofs.scans.scan_box.Goals as goal

pub drain-requires-clause-is_open : goal.drain-requires-clause-is_open
drain-requires-clause-is_open g c = started _ _ _ _ c.in-Ok.ensures

pub returns-in-Err : goal.returns-in-Err
returns-in-Err g c = not_started _ _ _ _ c.in-Err.ensures

pub finish_boxed-requires : goal.finish_boxed-requires
finish_boxed-requires g c = still_open _ _ _ _ _ (started _ _ _ _ c.in-Ok.ensures) c.in-Ok-drain.ensures.pulls

pub returns-in-Ok-drain : goal.returns-in-Ok-drain
returns-in-Ok-drain g c = scanned _ _ _ _ _ _ _ _ c.new-rows.ensures.items c.in-Ok.ensures c.in-Ok-drain.ensures c.finish_boxed.ensures

pub returns-in-Err-drain : goal.returns-in-Err-drain
returns-in-Err-drain g c = scan_stopped _ _ _ _ _ _ c.in-Ok.ensures c.in-Err-drain.ensures
