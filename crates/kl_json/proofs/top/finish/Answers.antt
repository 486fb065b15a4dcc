use Rattle.std.proofs.Common.{Ok, Err, refl, sym, ap, subst}
use Rattle.kl_json.specs.Answers.{Finishes}
use Rattle.kl_json.proofs.top.finish.Goals as goal

pub returns-in-Ok-flush : goal.returns-in-Ok-flush
returns-in-Ok-flush g c =
    subst (λ r. Finishes r c.in-Ok.end c.args.page.now (g.S.Sink.state c.args.out.now) (g.S.Sink.state c.flush.new.sink)) (sym c.in-Ok.is)
    (Ok c.in-Ok-flush.field-0, c.in-Ok-flush.ensures.wrote, refl)

pub returns-in-Err-flush : goal.returns-in-Err-flush
returns-in-Err-flush g c =
    subst (λ r. Finishes r (Err c.print_fault.result) c.args.page.now (g.S.Sink.state c.args.out.now) (g.S.Sink.state c.flush.new.sink)) (sym c.in-Ok.is)
    (Err c.in-Err-flush.error, c.in-Err-flush.ensures.wrote, ap Err c.print_fault.ensures)

pub returns-in-Err : goal.returns-in-Err
returns-in-Err g c =
    subst (λ r. Finishes r (Err c.print_fault-in-Err.result) c.args.page.now (g.S.Sink.state c.args.out.now) (g.S.Sink.state c.args.out.now)) (sym c.in-Err.is)
    (ap Err c.print_fault-in-Err.ensures, refl)
