use Rattle.kl_nested.proofs.Throughs.{file_read, not_opened}
use Rattle.kl_nested.proofs.through.read_file.Goals as goal

pub returns-in-Err : goal.returns-in-Err
returns-in-Err g c = not_opened c.args.limit c.args.path.now c.args.item.now c.in-Err.stop c.stopped.result (g.F.Files.state c.args.files.now) (g.F.Files.state c.open_path.new.self) c.in-Err.ensures c.stopped.ensures

pub returns : goal.returns
returns g c = file_read c.args.limit c.args.path.now c.args.item.now c.in-Ok.file c.read_through-result.result (g.F.Files.state c.args.files.now) _ _ _ c.in-Ok.ensures c.read_through-result.ensures c.close.ensures
