use Rattle.std.proofs.Common.{refl}
use Rattle.kl_nested.proofs.Takings.{fewer, halted, pushed}
use Rattle.kl_nested.proofs.handing.take_row.Goals as goal

pub returns-in-Ok-Some : goal.returns-in-Ok-Some
returns-in-Ok-Some g c = pushed c.args.limit c.args.source.now c.args.number c.args.reader.now c.next_row.new.reader (g.F.Files.state c.args.files.now) (g.F.Files.state c.next_row.new.files) c.requires.kept c.requires.so_far c.requires.behind c.args.into.now.items c.push_row.new.into.items c.in-Ok-Some.row c.push_row.result (rw c.in-Ok-Some.field-0-is at rw c.item_of.ensures at c.in-Ok-Some.ensures) c.push_row.ensures

pub returns-in-Ok-None : goal.returns-in-Ok-None
returns-in-Ok-None g c = fewer c.args.limit c.args.source.now c.args.number c.args.reader.now c.next_row.new.reader (g.F.Files.state c.args.files.now) (g.F.Files.state c.next_row.new.files) c.requires.kept c.requires.so_far c.requires.behind c.args.into.now.items c.args.into.now.items (rw c.in-Ok-None.field-0-is at rw c.item_of.ensures at c.in-Ok-None.ensures) refl c.requires.within

pub returns-in-Err : goal.returns-in-Err
returns-in-Err g c = halted c.args.limit c.args.source.now c.args.number c.args.reader.now c.next_row.new.reader (g.F.Files.state c.args.files.now) (g.F.Files.state c.next_row.new.files) c.requires.kept c.requires.so_far c.requires.behind c.args.into.now.items c.args.into.now.items c.in-Err.halt c.changed.result (rw c.item_of.ensures at c.in-Err.ensures) refl c.requires.within c.changed.ensures
