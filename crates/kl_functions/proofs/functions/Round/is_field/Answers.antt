use Rattle.std.proofs.Common.{◌∙◌}
use Rattle.kl_functions.proofs.Searching.{field_any}
use Rattle.kl_functions.proofs.functions.Round.is_field.Goals as goal

pub returns-in-Field : goal.returns-in-Field
returns-in-Field c = c.is_given.ensures ∙ field_any c.args.self.now c.args.head.now c.in-Field.h c.args.label.now c.in-Field.is
