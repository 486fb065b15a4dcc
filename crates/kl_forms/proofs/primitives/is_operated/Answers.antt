use Rattle.std.proofs.Common.{sym, subst}
use Rattle.kl_meaning.specs.Codes.{IsCalled}
use Rattle.kl_meaning.proofs.Naming.{op_called}
use Rattle.kl_forms.specs.Checks.{Checks}
use Rattle.kl_forms.specs.Forms.{Operates}
use Rattle.kl_forms.proofs.Shapes.{op_alike, op_applied}
use Rattle.kl_forms.proofs.primitives.is_operated.Goals as goal

pub returns-in_ok-holds-in-And : goal.returns-in_ok-holds-in-And
returns-in_ok-holds-in-And c = op_alike c.args.op _ _ c.args.first c.args.second c.args.want _ c.in-And.is c.in_ok-holds-in-And.ensures

pub returns-in_ok-holds-in-Append : goal.returns-in_ok-holds-in-Append
returns-in_ok-holds-in-Append c =
    subst (λ o. Checks c.in_ok-holds-in-Append.holds c.args.u.now.cells.items c.is_appended.new.u.cells.items (λ s. Operates o c.args.first c.args.second (s.types c.args.want) s)) (sym c.in-Append.is) c.in_ok-holds-in-Append.ensures

pub returns-in_ok-holds-in_default : goal.returns-in_ok-holds-in_default
returns-in_ok-holds-in_default c = op_applied c.args.op _ _ c.args.first c.args.second c.args.want _ _ c.in_default.not-Or c.in_default.not-And c.in_default.not-Append c.code_of.ensures c.in_ok-holds-in_default.ensures

pub applied-requires-clause-called : goal.applied-requires-clause-called
applied-requires-clause-called c = subst IsCalled (sym c.code_of.ensures) (op_called c.args.op)
