use Rattle.std.proofs.Common.{Ok, Err, refl, sym, ◌∙◌}
use Rattle.kl_nested.proofs.Passing.{found_so, not_found, passed_before}
use Rattle.kl_nested.proofs.handing.pass_head.Goals as goal

pub returns-then-not-is_at_front : goal.returns-then-not-is_at_front
returns-then-not-is_at_front g c = passed_before c.args.limit c.args.source.now c.args.taken c.args.reader.now c.args.reader.now (g.F.Files.state c.args.files.now) (g.F.Files.state c.args.files.now) c.requires.kept c.requires.so_far (sym c.is_at_front.ensures ∙ c.if-not-is_at_front.true)

pub returns-in-Ok : goal.returns-in-Ok
returns-in-Ok g c = found_so c.args.limit c.args.source.now c.args.taken c.args.reader.now c.head.new.self (g.F.Files.state c.args.files.now) (g.F.Files.state c.head.new.files) c.requires.kept c.requires.so_far (sym c.is_at_front.ensures ∙ c.if-not-is_at_front.false) (Ok c.in-Ok.found) c.in-Ok.ensures c.in-Ok.found c.same_head.result refl c.same_head.ensures

pub returns-in-Err : goal.returns-in-Err
returns-in-Err g c = not_found c.args.limit c.args.source.now c.args.taken c.args.reader.now c.head.new.self (g.F.Files.state c.args.files.now) (g.F.Files.state c.head.new.files) c.requires.kept c.requires.so_far (sym c.is_at_front.ensures ∙ c.if-not-is_at_front.false) (Err c.in-Err.error) c.in-Err.ensures c.in-Err.error c.unread.result refl c.unread.ensures
