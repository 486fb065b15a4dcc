use Rattle.std.proofs.Common.{Ok, refl, subst, sym}
use Rattle.kl_columns.specs.Answering.{Ends}
use Rattle.kl_columns.proofs.top.end.Goals as goal

pub returns-in-Ok : goal.returns-in-Ok
returns-in-Ok g c =
    subst (λ ended. Ends ended c.args.notes.now 0 (g.E.Sink.state c.args.err.now) (g.E.Sink.state c.tell-told.new.err)) (sym c.in-Ok.is) (record {
      end = Ok tt;
      same = refl;
      status_is = refl;
      told = c.tell-told.result;
      tells = c.tell-told.ensures;
    })

pub returns-in-Err : goal.returns-in-Err
returns-in-Err g c =
    subst (λ ended. Ends ended c.args.notes.now c.refused.result (g.E.Sink.state c.args.err.now) (g.E.Sink.state c.refused.new.err)) (sym c.in-Err.is) c.refused.ensures
