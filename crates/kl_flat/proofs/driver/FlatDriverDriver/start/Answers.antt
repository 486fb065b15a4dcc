use Rattle.std.proofs.Common.{◌≡◌, rules, length}
use Rattle.kl_flat.proofs.Cursors.{start_done}
use Rattle.kl_flat.proofs.driver.FlatDriverDriver.start.Goals as goal

pub returns-in-Ok : goal.returns-in-Ok
returns-in-Ok g c =
    let cursors = c.args.self.now.cursors.items in
    let last : c.len-cursor.result ≡ length cursors = search rules in
    start_done c.args.ask.now c.len-cursor.result (g.F.Files.state c.args.self.now.files) c.args.self.now.sources cursors _ _ _ _ _ c.requires last c.in_ok-open_cursor.ensures.opened c.in-Ok.ensures.counted
