use Rattle.std.proofs.Common.{rules, ◌≡◌, length, Some, ◌++◌, ◌∷◌, []}
use Rattle.kl_sqlserve.proofs.Starts.{can_open, start_done}
use Rattle.kl_sqlserve.proofs.driver.SqlServerDriver.start.Goals as goal

pub open_asked-requires : goal.open_asked-requires
open_asked-requires g c = can_open (g.F.Files.state c.args.self.now.files) c.args.self.now.sources c.args.self.now.cursors.items c.args.self.now.asked.items c.args.self.now.handed c.args.self.now.unread c.args.ask.now c.requires

pub returns-in-Ok : goal.returns-in-Ok
returns-in-Ok g c =
    let cursors = c.args.self.now.cursors.items in
    let last : c.len-cursor.result ≡ length cursors = search rules in
    let grown : c.push.new.self.items ≡ cursors ++ Some c.in_ok-open.open ∷ [] = search rules in
    start_done (g.F.Files.state c.args.self.now.files) c.args.self.now.sources cursors c.args.self.now.asked.items c.args.self.now.handed c.args.self.now.unread c.args.ask.now c.len-cursor.result c.in_ok-open.open _ _ c.in_ok-open.ensures last grown c.in-Ok.ensures.counted
