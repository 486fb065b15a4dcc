use Rattle.std.proofs.Common.{◌∙◌, ◌||◌, ap, sym}
use Rattle.std.specs.Option.{is_some}
use Rattle.kl_scope.specs.Senses.{entry_named}
use Rattle.kl_columns.proofs.naming.is_taken.Goals as goal

pub returns-then-has_name : goal.returns-then-has_name
returns-then-has_name c = c.if-has_name.true ∙ ap (λ b. b || is_some (entry_named c.args.name.now)) (sym c.if-has_name.true ∙ c.has_name.ensures)

pub returns-else-has_name : goal.returns-else-has_name
returns-else-has_name c = c.is_primitive.ensures ∙ ap (λ b. b || is_some (entry_named c.args.name.now)) (sym c.if-has_name.false ∙ c.has_name.ensures)
