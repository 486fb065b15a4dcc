use Rattle.kl_forms.proofs.Looking.{variant_row, in_variant}
use Rattle.kl_forms.proofs.records.variant_of.Goals as goal

pub in_row-requires-clause-there : goal.in_row-requires-clause-there
in_row-requires-clause-there c = variant_row _ _ _ _ c.node.ensures c.in-Var.is

pub returns-in_ok-found-in-Var : goal.returns-in_ok-found-in-Var
returns-in_ok-found-in-Var c = in_variant _ _ _ _ _ _ _ c.node.ensures c.in-Var.is c.in_ok-found-in-Var.ensures
