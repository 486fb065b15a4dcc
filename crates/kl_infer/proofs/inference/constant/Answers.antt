use Rattle.std.proofs.Common.{inl}
use Rattle.kl_rows.specs.Places.{a_type}
use Rattle.kl_infer.proofs.Leaving.{handed_on, ready_new}
use Rattle.kl_infer.proofs.Concluding.{constant_refused, constant_answer, ready_first}
use Rattle.kl_infer.proofs.inference.constant.Goals as goal

pub fresh-requires : goal.fresh-requires
fresh-requires c = let r = ready_first c.args.known.now _ c.new-typing.ensures c.requires in r.fine

pub check-requires : goal.check-requires
check-requires c = ready_new _ _ _ _ _ _ _ c.in_ok-t.ensures (ready_first c.args.known.now _ c.new-typing.ensures c.requires)

pub returns-in_err-check : goal.returns-in_err-check
returns-in_err-check c = handed_on _ _ _ _ c.from_residual-in_err-check.ensures.1 (constant_refused c.args.known.now _ _ _ _ c.new-typing.ensures c.requires c.in_ok-t.ensures _ c.in_err-check.ensures)

pub conclude-requires-clause-fine : goal.conclude-requires-clause-fine
conclude-requires-clause-fine c = c.in_ok-check.ensures.fine

pub conclude-requires-clause-on_root : goal.conclude-requires-clause-on_root
conclude-requires-clause-on_root c = inl (c.in_ok-check.ensures.keeps.sorts _ a_type c.in_ok-t.ensures.sort)

pub returns : goal.returns
returns c = constant_answer c.args.known.now _ _ _ _ c.new-typing.ensures c.requires c.in_ok-t.ensures c.conclude.result _ c.in_ok-check.ensures c.conclude.ensures
