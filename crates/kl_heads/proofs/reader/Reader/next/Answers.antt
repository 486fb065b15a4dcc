use Rattle.std.proofs.Common.{false, None, Some, Ok, Err, refl, sym, ap, subst, ◌∙◌}
use Rattle.kl_heads.specs.Fronts.{HasTaken, IsHeaded, IsUnsaid}
use Rattle.kl_heads.specs.Reading.{ReadsNext, Waits, headed_of, lasting}
use Rattle.kl_heads.specs.declared.front.Look.TheVariants as look
use Rattle.kl_heads.specs.declared.reader.Item.TheVariants as item
use Rattle.kl_heads.proofs.Looks.{looked}
use Rattle.kl_heads.proofs.TextReading.{behind_none, gives_head, head_total, headed_head, headed_refused, headed_still, refuses_head, waits_head}
use Rattle.kl_heads.proofs.reader.Reader.next.Goals as goal

pub look-requires : goal.look-requires
look-requires c =
    let b = c.self.invariant.before c.in-Some-front.front c.in-Some-front.is c.in_default.is in
    subst (λ bs. HasTaken bs c.in-Some-front.front.scanned c.in-Some-front.front.machine) (sym c.left.ensures) b.taken

pub invariant_of-self-in-Ok-Head : goal.invariant_of-self-in-Ok-Head
invariant_of-self-in-Ok-Head c =
    let s = c.self.inside in
    let b = c.self.invariant.before c.in-Some-front.front c.in-Some-front.is c.in_default.is in
    let m = looked s.items.left c.left.result.now s.finished s.finished c.look.result (Ok (look.Head c.in-Ok-Head.ty c.in-Ok-Head.count)) c.left.ensures refl (c.in-Ok-Head.is ∙ ap Ok c.in-Ok-Head.field-0-is) c.look.ensures.looks in
    subst (λ r. IsHeaded None false c.in-Ok-Head.count s.finished c.cut.new.self r) (sym c.in_default.is)
    (headed_head s.first s.head s.finished s.items c.in-Some-front.front b c.self.invariant.same_end c.self.invariant.room c.in-Ok-Head.ty c.in-Ok-Head.count m c.cut.new.self c.cut.ensures)

pub next_item-requires-in-Ok-Items : goal.next_item-requires-in-Ok-Items
next_item-requires-in-Ok-Items c =
    let s = c.self.inside in
    let b = c.self.invariant.before c.in-Some-front.front c.in-Some-front.is c.in_default.is in
    let m = looked s.items.left c.left.result.now s.finished s.finished c.look.result (Ok look.Items) c.left.ensures refl (c.in-Ok-Items.is ∙ ap Ok c.in-Ok-Items.field-0-is) c.look.ensures.looks in
    behind_none s.first s.head s.finished s.items c.in-Some-front.front b c.self.invariant.same_end c.self.invariant.room m

pub invariant_of-self-in-Ok-Unknown : goal.invariant_of-self-in-Ok-Unknown
invariant_of-self-in-Ok-Unknown c =
    let s = c.self.inside in
    let b = c.self.invariant.before c.in-Some-front.front c.in-Some-front.is c.in_default.is in
    let taken = c.look.ensures.taken (subst IsUnsaid (sym (c.in-Ok-Unknown.is ∙ ap Ok c.in-Ok-Unknown.field-0-is)) tt) in
    subst (λ r. IsHeaded (Some c.look.new.self) s.first s.head s.finished s.items r) (sym c.in_default.is)
    (headed_still s.first s.head s.finished s.items c.in-Some-front.front b c.self.invariant.same_end c.self.invariant.room c.look.new.self
    (subst (λ bs. HasTaken bs c.look.new.self.scanned c.look.new.self.machine) c.left.ensures taken))

pub invariant_of-self-in-Err : goal.invariant_of-self-in-Err
invariant_of-self-in-Err c =
    let s = c.self.inside in
    let b = c.self.invariant.before c.in-Some-front.front c.in-Some-front.is c.in_default.is in
    subst (λ r. IsHeaded (Some c.look.new.self) s.first s.head s.finished s.items r) (sym (c.kept-self-inside.ensures ∙ ap lasting c.refusal-error.ensures))
    (headed_refused s.first s.head s.finished s.items c.in-Some-front.front b c.self.invariant.same_end c.self.invariant.room c.look.new.self c.in-Err.halt
    (λ is. subst (λ bs. HasTaken bs c.look.new.self.scanned c.look.new.self.machine) c.left.ensures (c.look.ensures.taken (subst IsUnsaid (sym (c.in-Err.is ∙ ap Err is)) tt))))

pub returns-in-Ok-Head-clause-reads : goal.returns-in-Ok-Head-clause-reads
returns-in-Ok-Head-clause-reads c =
    let s = c.self.inside in
    let b = c.self.invariant.before c.in-Some-front.front c.in-Some-front.is c.in_default.is in
    let m = looked s.items.left c.left.result.now s.finished s.finished c.look.result (Ok (look.Head c.in-Ok-Head.ty c.in-Ok-Head.count)) c.left.ensures refl (c.in-Ok-Head.is ∙ ap Ok c.in-Ok-Head.field-0-is) c.look.ensures.looks in
    subst (λ o. ReadsNext o (Ok (item.Head c.in-Ok-Head.ty)) (headed_of false c.in-Ok-Head.count c.cut.new.self s.refused)) c.self.view_is
    (subst (λ r. ReadsNext (headed_of s.first s.head s.items r) (Ok (item.Head c.in-Ok-Head.ty)) (headed_of false c.in-Ok-Head.count c.cut.new.self r)) (sym c.in_default.is)
    (gives_head s.first s.head s.finished s.items c.in-Some-front.front b c.self.invariant.same_end c.self.invariant.room c.in-Ok-Head.ty c.in-Ok-Head.count m c.cut.new.self c.cut.ensures))

pub returns-in-Ok-Head-clause-total : goal.returns-in-Ok-Head-clause-total
returns-in-Ok-Head-clause-total c = let g = returns-in-Ok-Head-clause-reads c in head_total _ _ c.in-Ok-Head.ty g.2

pub returns-in-Ok-Unknown-clause-reads : goal.returns-in-Ok-Unknown-clause-reads
returns-in-Ok-Unknown-clause-reads c =
    let s = c.self.inside in
    let b = c.self.invariant.before c.in-Some-front.front c.in-Some-front.is c.in_default.is in
    let m = looked s.items.left c.left.result.now s.finished s.finished c.look.result (Ok look.Unknown) c.left.ensures refl (c.in-Ok-Unknown.is ∙ ap Ok c.in-Ok-Unknown.field-0-is) c.look.ensures.looks in
    subst (λ o. Waits o (headed_of s.first s.head s.items s.refused)) c.self.view_is
    (subst (λ r. Waits (headed_of s.first s.head s.items r) (headed_of s.first s.head s.items r)) (sym c.in_default.is)
    (waits_head s.first s.head s.finished s.items c.in-Some-front.front b c.self.invariant.same_end c.self.invariant.room m))

pub returns-in-Err-clause-reads : goal.returns-in-Err-clause-reads
returns-in-Err-clause-reads c =
    let s = c.self.inside in
    let b = c.self.invariant.before c.in-Some-front.front c.in-Some-front.is c.in_default.is in
    let m = looked s.items.left c.left.result.now s.finished s.finished c.look.result (Err c.in-Err.halt) c.left.ensures refl c.in-Err.is c.look.ensures.looks in
    subst (λ o. ReadsNext o (Err c.refusal-error.result) (headed_of s.first s.head s.items c.kept-self-inside.result)) c.self.view_is
    (subst (λ r. ReadsNext (headed_of s.first s.head s.items r) (Err c.refusal-error.result) (headed_of s.first s.head s.items c.kept-self-inside.result)) (sym c.in_default.is)
    (subst (λ k. ReadsNext (headed_of s.first s.head s.items None) (Err c.refusal-error.result) (headed_of s.first s.head s.items k)) (sym c.kept-self-inside.ensures)
    (subst (λ e. ReadsNext (headed_of s.first s.head s.items None) (Err e) (headed_of s.first s.head s.items (lasting e))) (sym c.refusal-error.ensures)
    (refuses_head s.first s.head s.finished s.items c.in-Some-front.front b c.self.invariant.same_end c.self.invariant.room c.in-Err.halt m))))
