use Rattle.kl_nested.proofs.Takings.{meets_end, meets_fault, meets_misfit, meets_more}
use Rattle.kl_nested.proofs.handing.meet_end.Goals as goal

pub returns-in-Ok-true : goal.returns-in-Ok-true
returns-in-Ok-true g c = meets_more c.args.limit c.args.source.now c.args.reader.now c.skip_row.new.reader (g.F.Files.state c.args.files.now) (g.F.Files.state c.skip_row.new.files) c.requires.kept c.requires.so_far c.requires.behind (rw c.in-Ok-true.field-0-test at rw c.item_of.ensures at c.in-Ok-true.ensures)

pub returns-in-Err-Misfit : goal.returns-in-Err-Misfit
returns-in-Err-Misfit g c = meets_misfit c.args.limit c.args.source.now c.args.reader.now c.skip_row.new.reader (g.F.Files.state c.args.files.now) (g.F.Files.state c.skip_row.new.files) c.requires.kept c.requires.so_far c.requires.behind (rw c.in-Err-Misfit.field-0-is at rw c.item_of.ensures at c.in-Err-Misfit.ensures)

pub returns-in-Ok-false : goal.returns-in-Ok-false
returns-in-Ok-false g c = meets_end c.args.limit c.args.source.now c.args.reader.now c.skip_row.new.reader (g.F.Files.state c.args.files.now) (g.F.Files.state c.skip_row.new.files) c.requires.kept c.requires.so_far c.requires.behind c.same_bytes.result c.total.result (rw c.in-Ok-false.field-0-test at rw c.item_of.ensures at c.in-Ok-false.ensures) c.total.ensures c.same_bytes.ensures

pub returns-in-Err-Unread : goal.returns-in-Err-Unread
returns-in-Err-Unread g c = meets_fault c.args.limit c.args.source.now c.args.reader.now c.skip_row.new.reader (g.F.Files.state c.args.files.now) (g.F.Files.state c.skip_row.new.files) c.requires.kept c.requires.so_far c.requires.behind c.in-Err-Unread.error c.unread.result (rw c.in-Err-Unread.field-0-is at rw c.item_of.ensures at c.in-Err-Unread.ensures) c.unread.ensures
