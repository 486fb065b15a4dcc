use Rattle.std.proofs.Common.{sym, ap, subst, arith}
use Rattle.kl_meaning.specs.Codes.{IsCalled}
use Rattle.kl_infer.specs.Names.{IfCode, Meant, meant_over}
use Rattle.kl_infer.proofs.Naming.{meant_step, meant_end, least_of, hidden_called}
use Rattle.kl_infer.proofs.scope.stands_for.Goals as goal

pub defs-init : goal.defs-init
defs-init c = (ap (meant_over c.args.name.now c.args.known.now.defs.now c.args.known.now.schemes.now) c.first_sense-found.ensures.means, c.first_sense-found.ensures.called)

pub defs-preserved : goal.defs-preserved
defs-preserved c = (
  meant_step c.args.name.now _ _ c.defs.i _ _ _ _ _ (omega arith) (omega arith) c.index-defs-i.is c.index-schemes-i.is c.hiding-found.ensures c.defs.invariant.0,
  subst (λ (m : Meant). IfCode m IsCalled) (sym c.hiding-found.ensures) (hidden_called _ _ _ _ c.defs.invariant.1),
)

pub returns-clause-means : goal.returns-clause-means
returns-clause-means c = meant_end c.args.name.now c.args.known.now.defs.now c.args.known.now.schemes.now c.defs.i _ _ (least_of _ _ c.defs.i (omega arith)) c.defs.invariant.0

pub returns-clause-called : goal.returns-clause-called
returns-clause-called c = c.defs.invariant.1
