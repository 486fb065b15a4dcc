use Rattle.std.proofs.Common.{ap, arith}
use Rattle.kl_nested.proofs.Throughs.{at_first, ended_so, head_passed, head_stopped, refused, small, stepped}
use Rattle.kl_nested.proofs.through.read_through.Goals as goal

pub returns-in-Err : goal.returns-in-Err
returns-in-Err g c = head_stopped c.args.limit c.args.item.now (g.F.Files.state c.args.files.now) c.args.file c.new-reader.result c.read_head.new.reader (g.F.Files.state c.read_head.new.files) (at_first c.args.limit c.args.item.now (g.F.Files.state c.args.files.now) c.args.file c.new-reader.result (ap (λ r. r.front) c.new-reader.ensures) (ap (λ r. r.head) c.new-reader.ensures) (ap (λ r. r.refused) c.new-reader.ensures) (ap (λ r. r.items.text) c.new-reader.ensures) (ap (λ r. r.items.past) c.new-reader.ensures) (ap (λ r. r.items.file) c.new-reader.ensures) (ap (λ r. r.items.limit) c.new-reader.ensures) c.requires.is_open) c.in-Err.error c.in-Err.ensures

pub items-init : goal.items-init
items-init g c = head_passed c.args.limit c.args.item.now (g.F.Files.state c.args.files.now) c.args.file c.new-reader.result c.read_head.new.reader (g.F.Files.state c.read_head.new.files) (at_first c.args.limit c.args.item.now (g.F.Files.state c.args.files.now) c.args.file c.new-reader.result (ap (λ r. r.front) c.new-reader.ensures) (ap (λ r. r.head) c.new-reader.ensures) (ap (λ r. r.refused) c.new-reader.ensures) (ap (λ r. r.items.text) c.new-reader.ensures) (ap (λ r. r.items.past) c.new-reader.ensures) (ap (λ r. r.items.file) c.new-reader.ensures) (ap (λ r. r.items.limit) c.new-reader.ensures) c.requires.is_open) c.in-Ok.stated c.in-Ok.ensures

pub items-preserved : goal.items-preserved
items-preserved g c = (stepped c.args.limit c.args.item.now (g.F.Files.state c.args.files.now) c.args.file c.in-Ok.stated c.items.reader c.skip_row.new.reader (g.F.Files.state c.items.files) (g.F.Files.state c.skip_row.new.files) c.items.count c.items.invariant (rw c.in-Ok-true.field-0-test at c.in-Ok-true.ensures)).0

pub items-smaller : goal.items-smaller
items-smaller g c = (stepped c.args.limit c.args.item.now (g.F.Files.state c.args.files.now) c.args.file c.in-Ok.stated c.items.reader c.skip_row.new.reader (g.F.Files.state c.items.files) (g.F.Files.state c.skip_row.new.files) c.items.count c.items.invariant (rw c.in-Ok-true.field-0-test at c.in-Ok-true.ensures)).1

pub overflow_add-count : goal.overflow_add-count
overflow_add-count g c = let k = small c.args.limit c.args.item.now c.args.file (g.F.Files.state c.args.files.now) c.in-Ok.stated c.items.reader (g.F.Files.state c.items.files) c.items.count c.items.invariant in omega (arith, k, c.requires.room)

pub returns-in-Err-skip_row : goal.returns-in-Err-skip_row
returns-in-Err-skip_row g c = refused c.args.limit c.args.item.now (g.F.Files.state c.args.files.now) c.args.file c.in-Ok.stated c.items.reader c.skip_row.new.reader (g.F.Files.state c.items.files) (g.F.Files.state c.skip_row.new.files) c.items.count c.items.invariant c.in-Err-skip_row.halt c.place-place.result c.unreadable.result c.in-Err-skip_row.ensures c.place-place.ensures c.unreadable.ensures

pub returns-in-Ok-false : goal.returns-in-Ok-false
returns-in-Ok-false g c = ended_so c.args.limit c.args.item.now (g.F.Files.state c.args.files.now) c.args.file c.in-Ok.stated c.items.reader c.skip_row.new.reader (g.F.Files.state c.items.files) (g.F.Files.state c.skip_row.new.files) c.items.count c.items.invariant _ (rw c.in-Ok-false.field-0-test at c.in-Ok-false.ensures) c.total.ensures
