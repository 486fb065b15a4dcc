use Rattle.std.proofs.Common.{◌≡◌, ◌<◌, Some, rules, refl, length, slice_get}
use Rattle.std.proofs.lemmas.Option.{slice_get_read}
use Rattle.kl_ask.proofs.Opened.{is_within}
use Rattle.kl_flat.specs.Flat.{cursor_of}
use Rattle.kl_flat.proofs.Cursors.{pull_done, pull_stopped}
use Rattle.kl_flat.proofs.driver.FlatDriverDriver.pull.Goals as goal

pub returns-in-Ok : goal.returns-in-Ok
returns-in-Ok g c =
    let cursors = c.args.self.now.cursors.items in
    let within : c.args.cursor < length cursors = is_within (cursor_of (g.F.Files.state c.args.self.now.files).told) cursors _ c.requires.is_open in
    let there : slice_get cursors c.args.cursor ≡ Some (Some c.in-Some.open) = slice_get_read cursors (length cursors) c.args.cursor (Some c.in-Some.open) refl within (search rules) in
    pull_done c.args.cursor c.in-Some.open c.hand_next.new.cursor (g.F.Files.state c.args.self.now.files) c.args.self.now.sources cursors _ _ there refl c.args.most c.in-Ok.count _ _ c.in-Ok.ensures.handed _ _ _ c.saturating_add-self.ensures (search rules) c.requires.room

pub returns-in-Err : goal.returns-in-Err
returns-in-Err g c =
    pull_stopped c.args.cursor c.args.most _ _ (Some c.hand_next.new.cursor) (g.F.Files.state c.args.self.now.files) c.args.self.now.sources c.args.self.now.cursors.items _ _ _ _ c.close_cursor.ensures.closed c.close_cursor.ensures.others c.in-Err.ensures.refused
