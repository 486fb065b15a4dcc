use Rattle.std.proofs.Common.{sym, ap, ◌∙◌}
use Rattle.kl_base.specs.Fields.{field}
use Rattle.kl_infer.specs.Names.{names}
use Rattle.kl_infer.specs.declared.scope.Scope.{Scope}
use Rattle.kl_infer.proofs.Naming.{innermost}
use Rattle.kl_infer.proofs.scope.+variable.Goals as goal

pub returns-in-Block : goal.returns-in-Block
returns-in-Block t c =
    innermost c.args.name.now c.in-Block.block.now (names c.in-Block.rest.now) _ _ c.variable.ensures c.last_from.ensures
    ∙ ap (λ (z : Scope). field c.args.name.now (names z)) (sym c.in-Block.is)
