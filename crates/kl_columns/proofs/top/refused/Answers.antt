use Rattle.std.proofs.Common.{◌∙◌, ◌++◌, Err, inl, inr, refl, ap, subst}
use Rattle.kl_outside.specs.Sinks.{WritesWhole}
use Rattle.kl_columns.specs.Refusals.{refusal_line}
use Rattle.kl_columns.specs.declared.refusal.Refusal.TheVariants.{NoMemory}
use Rattle.kl_columns.proofs.top.refused.Goals as goal

pub returns-in-Ok : goal.returns-in-Ok
returns-in-Ok g c = record {
  end = Err c.args.refusal.now;
  same = inl refl;
  status_is = c.status.ensures;
  told = c.tell-told.result;
  tells = subst (λ line. WritesWhole (c.args.notes.now ++ line) c.tell-told.result (g.E.Sink.state c.args.err.now) (g.E.Sink.state c.tell-told.new.err))
      (c.deref.ensures.value ∙ c.in-Ok.ensures ∙ ap (λ before. before ++ refusal_line c.args.refusal.now) c.new-line.ensures.items) c.tell-told.ensures;
}

pub returns : goal.returns
returns g c = record {
  end = Err NoMemory;
  same = inr refl;
  status_is = c.status-in-Err.ensures;
  told = c.tell-told-in-Err.result;
  tells = c.tell-told-in-Err.ensures;
}
