use Rattle.kl_eval.proofs.Scanning.{emptied}
use Rattle.kl_eval.proofs.scans.no_rows.Goals as goal

pub returns : goal.returns
returns c = emptied c.args.attached.now _ c.new.result _ c.kind_in.ensures c.new.ensures.items c.gather.ensures
