use Rattle.std.proofs.Common.{Err, subst}
use Rattle.kl_outside.specs.Files.{OpensPath}
use Rattle.kl_columns.proofs.ItemsRead.{no_room, not_opened, values_read}
use Rattle.kl_columns.proofs.values.read_values.Goals as goal

pub returns-in-Err-Failed : goal.returns-in-Err-Failed
returns-in-Err-Failed g c =
    let old = g.F.Files.state c.args.files.now in
    let new = g.F.Files.state c.open_path.new.self in
    not_opened c.args.path.now old new (subst (λ why. OpensPath c.args.path.now (Err why) old new) c.in-Err-Failed.field-0-is c.in-Err-Failed.ensures)

pub returns-in-Err-NoMemory : goal.returns-in-Err-NoMemory
returns-in-Err-NoMemory g c =
    let old = g.F.Files.state c.args.files.now in
    let new = g.F.Files.state c.open_path.new.self in
    no_room c.args.path.now old new (subst (λ why. OpensPath c.args.path.now (Err why) old new) c.in-Err-NoMemory.field-0-is c.in-Err-NoMemory.ensures)

pub returns : goal.returns
returns g c = values_read c.args.path.now c.in-Ok.file c.read_open-result.result (g.F.Files.state c.args.files.now) _ _ _ c.in-Ok.ensures c.read_open-result.ensures c.close.ensures
