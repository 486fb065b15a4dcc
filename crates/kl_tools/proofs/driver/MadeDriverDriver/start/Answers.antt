use Rattle.std.proofs.Common.{rules, ◌≡◌, length, Some, ◌++◌, ◌∷◌, []}
use Rattle.kl_tools.proofs.Driving.{start_done}
use Rattle.kl_tools.proofs.driver.MadeDriverDriver.start.Goals as goal

pub returns-in-Ok : goal.returns-in-Ok
returns-in-Ok c =
    let cursors = c.args.self.now.cursors.items in
    let last : c.len-cursor.result ≡ length cursors = search rules in
    let grown : c.push.new.self.items ≡ cursors ++ Some c.in_ok-open.open ∷ [] = search rules in
    start_done c.args.self.now.sources cursors _ _ _ _ _ c.len-cursor.result c.in_ok-open.open c.requires c.in_ok-open.ensures last grown c.in-Ok.ensures.counted
