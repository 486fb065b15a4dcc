use Rattle.std.proofs.Common.{arith}
use Rattle.kl_nested.proofs.Handings.{taking_done, taking_more, taking_none, taking_stopped}
use Rattle.kl_nested.proofs.handing.take_rows.Goals as goal

pub overflow_add-number-end : goal.overflow_add-number-end
overflow_add-number-end g c = omega (arith, c.requires.within, c.requires.kept.few, c.requires.room)

pub rows-init : goal.rows-init
rows-init g c = taking_none c.args.limit c.args.source.now c.args.taken c.args.into.now.items c.args.reader.now (g.F.Files.state c.args.files.now) c.requires.kept c.requires.so_far c.requires.behind

pub take_row-requires-clause-kept : goal.take_row-requires-clause-kept
take_row-requires-clause-kept g c = c.rows.invariant.kept

pub take_row-requires-clause-within : goal.take_row-requires-clause-within
take_row-requires-clause-within g c = omega (arith, c.rows-test.true, c.requires.within)

pub take_row-requires-clause-so_far : goal.take_row-requires-clause-so_far
take_row-requires-clause-so_far g c = c.rows.invariant.so_far

pub take_row-requires-clause-behind : goal.take_row-requires-clause-behind
take_row-requires-clause-behind g c = c.rows.invariant.behind

pub returns-in-Err : goal.returns-in-Err
returns-in-Err g c = taking_stopped c.args.limit c.args.source.now c.args.taken c.args.into.now.items c.args.reader.now (g.F.Files.state c.args.files.now) c.rows.number c.rows.into.items c.take_row.new.into.items c.rows.reader c.take_row.new.reader (g.F.Files.state c.rows.files) (g.F.Files.state c.take_row.new.files) c.rows.invariant c.args.count c.in-Err.error (omega (arith, c.rows-test.true)) c.in-Err.ensures

pub rows-preserved : goal.rows-preserved
rows-preserved g c = taking_more c.args.limit c.args.source.now c.args.taken c.args.into.now.items c.args.reader.now (g.F.Files.state c.args.files.now) c.rows.number c.rows.into.items c.take_row.new.into.items c.rows.reader c.take_row.new.reader (g.F.Files.state c.rows.files) (g.F.Files.state c.take_row.new.files) c.rows.invariant c.in-Ok.ensures

pub returns : goal.returns
returns g c = taking_done c.args.limit c.args.source.now c.args.taken c.args.into.now.items c.args.reader.now (g.F.Files.state c.args.files.now) c.rows.number c.rows.into.items c.rows.into.items c.rows.reader c.rows.reader (g.F.Files.state c.rows.files) (g.F.Files.state c.rows.files) c.rows.invariant c.args.count (omega (arith, c.rows-test.false, c.rows.auto.number))
