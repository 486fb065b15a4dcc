use Rattle.kl_engine.proofs.LineLemmas.{scheme_at, step_lists, stop_lists, lists_done}
use Rattle.kl_engine.proofs.types.list_definitions.Goals as goal

pub returns-in-Err : goal.returns-in-Err
returns-in-Err g c = stop_lists _ _ _ _ _ _ _ c.min-i-end.ensures c.lines-test.true (scheme_at c.args.schemes.now c.lines.i _ _ c.index-schemes-i.is c.get.ensures) c.slice.ensures c.in-Err.fault _ _ _ c.lines.invariant c.in-Err.ensures

pub lines-preserved : goal.lines-preserved
lines-preserved g c = step_lists _ _ _ _ _ _ _ c.min-i-end.ensures c.lines-test.true (scheme_at c.args.schemes.now c.lines.i _ _ c.index-schemes-i.is c.get.ensures) c.slice.ensures c.in-Ok.field-0 _ _ _ c.lines.invariant c.in-Ok.ensures

pub returns : goal.returns
returns g c = lists_done _ _ _ _ _ _ c.min-i-end.ensures c.lines-test.false c.lines.invariant
