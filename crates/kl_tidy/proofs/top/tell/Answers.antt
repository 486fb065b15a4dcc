use Rattle.std.proofs.Common.{◌∙◌, ◌++◌, Some, subst}
use Rattle.kl_outside.specs.Sinks.{WritesWhole}
use Rattle.kl_tidy.specs.declared.refusal.Refusal.TheVariants.{NoMemory}
use Rattle.kl_tidy.proofs.Answering.{told_itself, told_wanting}
use Rattle.kl_tidy.proofs.top.tell.Goals as goal

pub returns-in-Ok : goal.returns-in-Ok
returns-in-Ok g c = record {
  told = c.args.refusal.now;
  same = told_itself c.args.refusal.now;
  status_is = c.status_of.ensures;
  tells = (
    c.write_lines-told.result,
    subst (λ line. WritesWhole (c.args.notes.now ++ line) c.write_lines-told.result (g.E.Sink.state c.args.err.now) (g.E.Sink.state c.write_lines-told.new.err))
        (c.deref.ensures.value ∙ c.in-Ok.ensures.ok) c.write_lines-told.ensures,
  );
}

pub returns-in-Err : goal.returns-in-Err
returns-in-Err g c = record {
  told = Some NoMemory;
  same = told_wanting c.args.refusal.now c.in-Err.ensures.none;
  status_is = c.status.ensures;
  tells = (c.write_lines-told-in-Err.result, c.write_lines-told-in-Err.ensures);
}
