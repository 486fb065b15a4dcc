use Rattle.std.proofs.Common.{◌≡◌, arith, length, rules}
use Rattle.kl_exchange.specs.FileItems.{most_read}
use Rattle.kl_nested.proofs.Steps.{can_ask, desk_not_opened, desk_now_opened, desk_reclosed, files_open, opened_there, starts_err, starts_ok, starts_uncounted}
use Rattle.kl_nested.proofs.driver.NestedDriverDriver.start.Goals as goal

pub open_asked-requires : goal.open_asked-requires
open_asked-requires g c = can_ask most_read (g.F.Files.state c.self.inside.files) c.self.inside.sources c.self.inside.cursors.items c.self.inside.asked.items c.self.inside.handed c.self.inside.drifts c.self.inside.unread c.args.ask.now (rw (← c.self.view_is) at c.requires)

pub invariant_of-self : goal.invariant_of-self
invariant_of-self g c = desk_not_opened most_read (g.F.Files.state c.self.inside.files) c.self.inside.sources c.self.inside.cursors.items c.self.invariant _ _ c.args.ask.now c.in-Err.error c.in-Err.ensures

pub returns-in-Err : goal.returns-in-Err
returns-in-Err g c = rw (← c.self.view_is) (starts_err most_read (g.F.Files.state c.self.inside.files) c.self.inside.sources c.self.inside.cursors.items c.self.inside.asked.items c.self.inside.handed c.self.inside.drifts c.self.inside.unread c.self.invariant _ _ c.args.ask.now (omega arith) c.in-Err.error c.in-Err.ensures)

pub invariant_of-self-in-Ok-count_ask : goal.invariant_of-self-in-Ok-count_ask
invariant_of-self-in-Ok-count_ask g c = desk_now_opened most_read (g.F.Files.state c.self.inside.files) c.self.inside.sources c.self.inside.cursors.items c.self.invariant _ _ c.args.ask.now c.in-Ok.ensures

pub close_open-requires-clause-is_open : goal.close_open-requires-clause-is_open
close_open-requires-clause-is_open g c =
    let last : c.len-cursor.result ≡ length c.self.inside.cursors.items = search rules in
    opened_there most_read (g.F.Files.state c.self.inside.files) c.self.inside.sources c.self.inside.cursors.items c.self.invariant _ _ c.args.ask.now c.in-Ok.ensures c.len-cursor.result last

pub close_open-requires-clause-file : goal.close_open-requires-clause-file
close_open-requires-clause-file g c =
    files_open most_read _ c.self.inside.sources _ (desk_now_opened most_read (g.F.Files.state c.self.inside.files) c.self.inside.sources c.self.inside.cursors.items c.self.invariant _ _ c.args.ask.now c.in-Ok.ensures) c.len-cursor.result

pub invariant_of-self-in-Err-count_ask : goal.invariant_of-self-in-Err-count_ask
invariant_of-self-in-Err-count_ask g c =
    let last : c.len-cursor.result ≡ length c.self.inside.cursors.items = search rules in
    desk_reclosed most_read (g.F.Files.state c.self.inside.files) c.self.inside.sources c.self.inside.cursors.items c.self.invariant _ _ c.args.ask.now c.in-Ok.ensures c.len-cursor.result last _ _ c.close_open.ensures

pub returns-in-Ok-count_ask : goal.returns-in-Ok-count_ask
returns-in-Ok-count_ask g c =
    let last : c.len-cursor.result ≡ length c.self.inside.cursors.items = search rules in
    rw (← c.self.view_is) (starts_ok most_read (g.F.Files.state c.self.inside.files) c.self.inside.sources c.self.inside.cursors.items c.self.inside.asked.items c.self.inside.handed c.self.inside.drifts c.self.inside.unread c.self.invariant _ _ c.args.ask.now (omega arith) _ c.len-cursor.result (rw (← c.self.view_is) at c.requires) last c.in-Ok.ensures c.in-Ok-count_ask.ensures.counted)

pub returns-in-Err-count_ask : goal.returns-in-Err-count_ask
returns-in-Err-count_ask g c =
    let last : c.len-cursor.result ≡ length c.self.inside.cursors.items = search rules in
    rw (← c.self.view_is) (starts_uncounted most_read (g.F.Files.state c.self.inside.files) c.self.inside.sources c.self.inside.cursors.items c.self.inside.asked.items c.self.inside.handed c.self.inside.drifts c.self.inside.unread c.self.invariant _ _ c.args.ask.now (omega arith) _ c.len-cursor.result last c.in-Ok.ensures _ _ c.close_open.ensures c.in-Err-count_ask.ensures.refused)
