use Rattle.std.proofs.Common.{true, false, sym, ◌∙◌}
use Rattle.kl_functions.proofs.Beginning.{first_arity_is}
use Rattle.kl_functions.proofs.first.first_arity.Goals as goal

pub returns-then-is_label : goal.returns-then-is_label
returns-then-is_label c = sym (first_arity_is c.args.sources.now c.args.name.now true (sym c.if-is_label.true ∙ c.is_label.ensures))

pub returns-else-is_label : goal.returns-else-is_label
returns-else-is_label c = c.primitive_arity.ensures ∙ sym (first_arity_is c.args.sources.now c.args.name.now false (sym c.if-is_label.false ∙ c.is_label.ensures))
