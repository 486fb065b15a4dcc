use Rattle.std.proofs.Common.{Ok, Err, sym, ap, subst, ◌∙◌}
use Rattle.kl_heads.specs.FileReading.{AnswersHead, HandsOut}
use Rattle.kl_heads.proofs.FileItems.{held_head, held_items, held_refused}
use Rattle.kl_heads.proofs.file_reader.FileReader.next_held.Goals as goal

pub returns-in-Ok-Head : goal.returns-in-Ok-Head
returns-in-Ok-Head c =
    held_head c.args.self.now c.head_held.new.self c.in-Ok-Head.ty c.in-Ok-Head.field-0-1
    (subst (λ r. AnswersHead r c.args.self.now c.head_held.new.self) (c.in-Ok-Head.is ∙ ap Ok c.in-Ok-Head.field-0-is) c.head_held.ensures)

pub returns-in-Ok : goal.returns-in-Ok
returns-in-Ok c =
    let a = subst (λ r. AnswersHead r c.args.self.now c.head_held.new.self) (c.in-Ok-Items.is ∙ ap Ok c.in-Ok-Items.field-0-is) c.head_held.ensures in
    subst (λ i. HandsOut (Ok i) c.args.self.now c.item_held.new.self) (sym c.item_of.ensures)
    (held_items c.args.self.now c.head_held.new.self c.item_held.new.self (Ok c.in-Ok.item) a c.in-Ok.ensures)

pub returns-in-Err-item_held : goal.returns-in-Err-item_held
returns-in-Err-item_held c =
    let a = subst (λ r. AnswersHead r c.args.self.now c.head_held.new.self) (c.in-Ok-Items.is ∙ ap Ok c.in-Ok-Items.field-0-is) c.head_held.ensures in
    held_items c.args.self.now c.head_held.new.self c.item_held.new.self (Err c.in-Err-item_held.error) a c.in-Err-item_held.ensures

pub returns-in-Err : goal.returns-in-Err
returns-in-Err c = held_refused c.args.self.now c.head_held.new.self c.in-Err.error c.in-Err.ensures
