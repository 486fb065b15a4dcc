use Rattle.kl_forms.specs.Forms.{Operates}
use Rattle.kl_forms.proofs.Opening.{opens, refuses}
use Rattle.kl_forms.proofs.Shapes.{stable_op}
use Rattle.kl_forms.proofs.primitives.operated.Goals as goal

pub returns-then-not-holds : goal.returns-then-not-holds
returns-then-not-holds c = refuses _ _ _ _ (Operates c.args.op c.args.first c.args.second) c.requires.fine c.in_ok-result.ensures (stable_op _ c.args.first c.args.second c.requires.first_there c.requires.second_there c.args.op) _ c.if-not-holds.true c.in_ok-holds.ensures

pub returns : goal.returns
returns c = opens _ _ _ _ (Operates c.args.op c.args.first c.args.second) c.requires.fine c.in_ok-result.ensures (stable_op _ c.args.first c.args.second c.requires.first_there c.requires.second_there c.args.op) _ c.if-not-holds.false c.in_ok-holds.ensures
