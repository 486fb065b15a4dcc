use Rattle.kl_forms.proofs.Shapes.{appends, no_append}
use Rattle.kl_forms.proofs.primitives.is_appended.Goals as goal

pub returns-then-not-takes : goal.returns-then-not-takes
returns-then-not-takes c = no_append _ c.args.first c.args.second c.requires.first_there c.requires.second_there c.args.want c.requires.there _ _ c.if-not-takes.true c.in_ok-takes.ensures

pub returns : goal.returns
returns c = appends _ c.args.first c.args.second c.requires.first_there c.requires.second_there c.args.want c.requires.there _ _ _ _ c.if-not-takes.false c.in_ok-takes.ensures c.in_ok-gives.ensures
