use Rattle.std.proofs.Common.{sym, ◌∙◌}
use Rattle.kl_ho.proofs.Growing.{becomes_new, becomes_old}
use Rattle.kl_ho.proofs.expanding.becomes.Goals as goal

pub returns-then-is_among : goal.returns-then-is_among
returns-then-is_among c = becomes_new c.args.base.now c.args.vars.now c.args.name.now c.new_name.result (sym c.is_among.ensures ∙ c.if-is_among.true) c.new_name.ensures

pub returns-else-is_among : goal.returns-else-is_among
returns-else-is_among c = becomes_old c.args.base.now c.args.vars.now c.args.name.now c.kept.result (sym c.is_among.ensures ∙ c.if-is_among.false) c.kept.ensures.same c.kept.ensures.old
