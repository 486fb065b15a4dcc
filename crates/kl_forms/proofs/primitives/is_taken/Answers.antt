use Rattle.std.proofs.Common.{false}
use Rattle.kl_forms.proofs.Shapes.{takes_items, takes_none}
use Rattle.kl_forms.proofs.primitives.is_taken.Goals as goal

pub returns-then-not-takes : goal.returns-then-not-takes
returns-then-not-takes c = takes_none _ _ c.args.u.now.cells.items c.args.number c.args.all c.args.want _ false c.requires.all_there c.requires.there c.in_ok-takes.ensures c.if-not-takes.true

pub returns : goal.returns
returns c = takes_items _ _ _ c.args.number c.args.all c.args.want _ _ c.requires.all_there c.requires.there c.in_ok-takes.ensures c.if-not-takes.false c.in_ok-gives.ensures
