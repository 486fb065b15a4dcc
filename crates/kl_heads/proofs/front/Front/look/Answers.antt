use Rattle.std.proofs.Common.{sym}
use Rattle.kl_heads.proofs.Looking.{all_taken, looks_head, looks_items, looks_bad, looks_deep, looks_unknown, looks_through, looks_cut}
use Rattle.kl_heads.proofs.front.Front.look.Goals as goal

pub returns-then-not-finished-clause-looks : goal.returns-then-not-finished-clause-looks
returns-then-not-finished-clause-looks c = let e = rw c.in-Ok-More.field-0-is at c.in-Ok-More.ensures in looks_unknown c.args.bytes.now c.args.self.now.scanned c.args.self.now.machine c.requires c.scan.new.machine e c.args.finished c.if-not-finished.true

pub returns-then-not-finished-clause-taken : goal.returns-then-not-finished-clause-taken
returns-then-not-finished-clause-taken c = let e = rw c.in-Ok-More.field-0-is at c.in-Ok-More.ensures in λ _. all_taken c.args.bytes.now c.args.self.now.scanned c.args.self.now.machine c.requires c.scan.new.machine e

pub returns-then-may_be_item-clause-looks : goal.returns-then-may_be_item-clause-looks
returns-then-may_be_item-clause-looks c = let e = rw c.in-Ok-More.field-0-is at c.in-Ok-More.ensures in looks_through c.args.bytes.now c.args.self.now.scanned c.args.self.now.machine c.requires c.scan.new.machine e c.args.finished c.if-not-finished.false (sym c.if-may_be_item.ensures)

pub returns-else-may_be_item-clause-looks : goal.returns-else-may_be_item-clause-looks
returns-else-may_be_item-clause-looks c = let e = rw c.in-Ok-More.field-0-is at c.in-Ok-More.ensures in looks_cut c.args.bytes.now c.args.self.now.scanned c.args.self.now.machine c.requires c.scan.new.machine e c.args.finished c.if-not-finished.false (sym c.if-may_be_item.ensures)

pub returns-in-Ok-Ends-clause-looks : goal.returns-in-Ok-Ends-clause-looks
returns-in-Ok-Ends-clause-looks c = let e = rw c.in-Ok-Ends.field-0-is at c.in-Ok-Ends.ensures in looks_head c.args.bytes.now c.args.self.now.scanned c.args.self.now.machine c.requires c.args.finished c.in-Ok-Ends.ty c.in-Ok-Ends.count e.0 e.1

pub returns-in-Ok-NoHead-clause-looks : goal.returns-in-Ok-NoHead-clause-looks
returns-in-Ok-NoHead-clause-looks c = let e = rw c.in-Ok-NoHead.field-0-is at c.in-Ok-NoHead.ensures in looks_items c.args.bytes.now c.args.self.now.scanned c.args.self.now.machine c.requires c.args.finished e

pub returns-in-Err-Bad-clause-looks : goal.returns-in-Err-Bad-clause-looks
returns-in-Err-Bad-clause-looks c = let e = rw c.in-Err-Bad.field-0-is at c.in-Err-Bad.ensures in looks_bad c.args.bytes.now c.args.self.now.scanned c.args.self.now.machine c.requires c.args.finished c.in-Err-Bad.count e.0 e.1

pub returns-in-Err-TooDeep-clause-looks : goal.returns-in-Err-TooDeep-clause-looks
returns-in-Err-TooDeep-clause-looks c = let e = rw c.in-Err-TooDeep.field-0-is at c.in-Err-TooDeep.ensures in looks_deep c.args.bytes.now c.args.self.now.scanned c.args.self.now.machine c.requires c.args.finished c.in-Err-TooDeep.count e.0 e.1
