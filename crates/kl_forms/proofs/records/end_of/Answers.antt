use Rattle.std.proofs.Common.{◌∙◌}
use Rattle.kl_forms.proofs.Fronts.{open_end, closed_end}
use Rattle.kl_forms.proofs.records.end_of.Goals as goal

pub returns-then-is_open : goal.returns-then-is_open
returns-then-is_open c = open_end c.args.is_open c.args.fields.now _ _ _ _ c.if-is_open.true (c.deref.ensures.value ∙ c.in_ok-labels.ensures) c.in_ok-row.ensures

pub returns : goal.returns
returns c = closed_end c.args.is_open c.args.fields.now _ _ _ c.if-is_open.false c.in_ok-row-2.ensures
