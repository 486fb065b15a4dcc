use Rattle.std.proofs.Common.{None, Some, Ok, Err, is_some, sym, ap, subst, ◌∙◌, arith}
use Rattle.kl_heads.specs.FileReading.{AnswersHead, IsBegun, headed_file}
use Rattle.kl_heads.specs.Fronts.{HasTaken, IsUnsaid}
use Rattle.kl_heads.specs.Reading.{lasting}
use Rattle.kl_heads.specs.declared.front.Look.TheVariants as look
use Rattle.kl_heads.proofs.FileItems.{begun_still, head_found, items_found, not_lasting, refusal_found, unknown_found}
use Rattle.kl_heads.proofs.Looks.{looked}
use Rattle.kl_heads.proofs.file_reader.FileReader.head_held.Goals as goal

pub look-requires : goal.look-requires
look-requires c =
    let b = c.self.invariant.before c.in-Some-front.front c.in-Some-front.is c.in_default.is in
    subst (λ bs. HasTaken bs c.in-Some-front.front.scanned c.in-Some-front.front.machine) (sym c.left.ensures.left) b.taken

pub cut-requires-clause-first : goal.cut-requires-clause-first
cut-requires-clause-first c =
    let b = c.self.invariant.before c.in-Some-front.front c.in-Some-front.is c.in_default.is in
    let none = b.none_read in
    omega arith

pub cut-requires-clause-fresh : goal.cut-requires-clause-fresh
cut-requires-clause-fresh c = let b = c.self.invariant.before c.in-Some-front.front c.in-Some-front.is c.in_default.is in b.fresh

pub invariant_of-self-in-Ok-Unknown : goal.invariant_of-self-in-Ok-Unknown
invariant_of-self-in-Ok-Unknown c =
    let s = c.self.inside in
    begun_still c.in-Some-front.front c.look.new.self s.head s.items s.refused s.refused (subst (λ f. IsBegun f s.head s.items s.refused) c.in-Some-front.is c.self.invariant) c.in_default.is
    (λ no. subst (λ bs. HasTaken bs c.look.new.self.scanned c.look.new.self.machine) c.left.ensures.left
    (c.look.ensures.taken (subst IsUnsaid (sym (c.in-Ok-Unknown.is ∙ ap Ok c.in-Ok-Unknown.field-0-is)) tt)))

pub invariant_of-self-in-Err : goal.invariant_of-self-in-Err
invariant_of-self-in-Err c =
    let s = c.self.inside in
    begun_still c.in-Some-front.front c.look.new.self s.head s.items s.refused c.kept-self-inside.result (subst (λ f. IsBegun f s.head s.items s.refused) c.in-Some-front.is c.self.invariant) c.in_default.is
    (λ no. subst (λ bs. HasTaken bs c.look.new.self.scanned c.look.new.self.machine) c.left.ensures.left
    (c.look.ensures.taken (subst IsUnsaid (sym (c.in-Err.is ∙ ap Err (not_lasting c.in-Err.halt (sym (c.kept-self-inside.ensures ∙ ap lasting c.refusal-error.ensures) ∙ no)))) tt)))

pub returns-in-Ok-Head : goal.returns-in-Ok-Head
returns-in-Ok-Head c =
    let s = c.self.inside in
    let b = c.self.invariant.before c.in-Some-front.front c.in-Some-front.is c.in_default.is in
    let m = looked s.items.text.left c.left.result.now s.items.text.finished c.has_ended.result c.look.result (Ok (look.Head c.in-Ok-Head.ty c.in-Ok-Head.count)) c.left.ensures.left c.has_ended.ensures (c.in-Ok-Head.is ∙ ap Ok c.in-Ok-Head.field-0-is) c.look.ensures.looks in
    subst (λ o. AnswersHead (Ok (look.Head c.in-Ok-Head.ty c.in-Ok-Head.count)) o (headed_file None c.in-Ok-Head.count c.cut.new.self s.refused)) c.self.view_is
    (subst (λ i. AnswersHead (Ok (look.Head c.in-Ok-Head.ty c.in-Ok-Head.count)) (headed_file s.front s.head s.items s.refused) (headed_file None c.in-Ok-Head.count i s.refused)) (sym c.cut.ensures)
    (head_found (headed_file s.front s.head s.items s.refused) (ap is_some c.in-Some-front.is) c.in_default.is b.fresh c.left.ensures.within b.none_read c.in-Ok-Head.ty c.in-Ok-Head.count m))

pub returns-in-Ok-Items : goal.returns-in-Ok-Items
returns-in-Ok-Items c =
    let s = c.self.inside in
    let b = c.self.invariant.before c.in-Some-front.front c.in-Some-front.is c.in_default.is in
    let m = looked s.items.text.left c.left.result.now s.items.text.finished c.has_ended.result c.look.result (Ok look.Items) c.left.ensures.left c.has_ended.ensures (c.in-Ok-Items.is ∙ ap Ok c.in-Ok-Items.field-0-is) c.look.ensures.looks in
    subst (λ o. AnswersHead (Ok look.Items) o (headed_file None s.head s.items s.refused)) c.self.view_is
    (items_found (headed_file s.front s.head s.items s.refused) (ap is_some c.in-Some-front.is) c.in_default.is b.fresh c.left.ensures.within b.none_read m)

pub returns-in-Ok-Unknown : goal.returns-in-Ok-Unknown
returns-in-Ok-Unknown c =
    let s = c.self.inside in
    let b = c.self.invariant.before c.in-Some-front.front c.in-Some-front.is c.in_default.is in
    let m = looked s.items.text.left c.left.result.now s.items.text.finished c.has_ended.result c.look.result (Ok look.Unknown) c.left.ensures.left c.has_ended.ensures (c.in-Ok-Unknown.is ∙ ap Ok c.in-Ok-Unknown.field-0-is) c.look.ensures.looks in
    subst (λ o. AnswersHead (Ok look.Unknown) o (headed_file (Some c.look.new.self) s.head s.items s.refused)) c.self.view_is
    (subst (λ f. AnswersHead (Ok look.Unknown) (headed_file s.front s.head s.items s.refused) (headed_file f s.head s.items s.refused)) c.in-Some-front.is
    (unknown_found (headed_file s.front s.head s.items s.refused) (ap is_some c.in-Some-front.is) c.in_default.is b.fresh c.left.ensures.within b.none_read m))

pub returns-in-Err : goal.returns-in-Err
returns-in-Err c =
    let s = c.self.inside in
    let b = c.self.invariant.before c.in-Some-front.front c.in-Some-front.is c.in_default.is in
    let m = looked s.items.text.left c.left.result.now s.items.text.finished c.has_ended.result c.look.result (Err c.in-Err.halt) c.left.ensures.left c.has_ended.ensures c.in-Err.is c.look.ensures.looks in
    subst (λ o. AnswersHead (Err c.refusal-error.result) o (headed_file (Some c.look.new.self) s.head s.items c.kept-self-inside.result)) c.self.view_is
    (subst (λ f. AnswersHead (Err c.refusal-error.result) (headed_file s.front s.head s.items s.refused) (headed_file f s.head s.items c.kept-self-inside.result)) c.in-Some-front.is
    (subst (λ k. AnswersHead (Err c.refusal-error.result) (headed_file s.front s.head s.items s.refused) (headed_file s.front s.head s.items k)) (sym c.kept-self-inside.ensures)
    (subst (λ e. AnswersHead (Err e) (headed_file s.front s.head s.items s.refused) (headed_file s.front s.head s.items (lasting e))) (sym c.refusal-error.ensures)
    (refusal_found (headed_file s.front s.head s.items s.refused) (ap is_some c.in-Some-front.is) c.in_default.is b.fresh c.left.ensures.within b.none_read c.in-Err.halt m))))
