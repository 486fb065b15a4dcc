use Rattle.kl_rows.proofs.Marking.{decided, never_solved}
use Rattle.kl_rows.proofs.finite.order_of.Goals as goal

pub returns : goal.returns
returns c = λ s. never_solved c.args.cells.now c.all_marked.result (decided _ _ _ _ _ c.requires c.in_ok-mark_all.ensures c.deref.ensures.value c.all_marked.ensures) c.if-all_marked.false s
