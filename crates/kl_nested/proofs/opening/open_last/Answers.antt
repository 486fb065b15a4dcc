use Rattle.kl_nested.proofs.Openings.{opened_last}
use Rattle.kl_nested.proofs.opening.open_last.Goals as goal

pub returns-in-Ok : goal.returns-in-Ok
returns-in-Ok g c = opened_last c.args.limit c.args.source.now c.args.ask.now c.in-Ok.cursor c.put_last.result c.args.cursors.now.items c.put_last.new.cursors.items (g.F.Files.state c.args.files.now) _ _ c.in-Ok.ensures c.put_last.ensures
