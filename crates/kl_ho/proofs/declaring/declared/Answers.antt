use Rattle.std.proofs.Common.{None, Some, refl, sym, ap}
use Rattle.kl_syntax.specs.declared.tree.Word.{Word}
use Rattle.kl_ho.specs.Growing.{highers_of}
use Rattle.kl_ho.proofs.Reaching.{constant_made, function_made, constant_stopped, function_stopped}
use Rattle.kl_ho.proofs.declaring.declared.Goals as goal

pub returns-in_ok-body-in-None : goal.returns-in_ok-body-in-None
returns-in_ok-body-in-None c =
    constant_made c.args.t.now.base.now (highers_of c.args.t.now) c.args.decl.now (record { name = c.in_ok-name.name; param = None; body = c.in_ok-body-in-None.body }) _ _ c.in-None.is refl (ap (λ (w : Word). w.text) c.in_ok-name.ensures) refl c.in_ok-body-in-None.ensures.gives

pub returns-in_err-body-in-None : goal.returns-in_err-body-in-None
returns-in_err-body-in-None c =
    constant_stopped c.args.t.now.base.now (highers_of c.args.t.now) c.args.decl.now c.from_residual-in_err-body-in-None.result c.in_err-body-in-None.field-0.0 _ _ c.from_residual-in_err-body-in-None.ensures.1 refl c.in_err-body-in-None.ensures.gives

pub returns-in_ok-param-in-Some : goal.returns-in_ok-param-in-Some
returns-in_ok-param-in-Some c =
    function_made c.args.t.now.base.now (highers_of c.args.t.now) c.args.decl.now (record { name = c.in_ok-name.name; param = Some c.in_ok-param-in-Some.param; body = c.into_inner.result }) c.in-Some.param c.in_ok-param-in-Some.param _ _ c.in-Some.is refl (ap (λ (w : Word). w.text) c.in_ok-name.ensures) refl (rw (sym c.into_inner.ensures) at c.in_ok-param-in-Some.ensures.gives)

pub returns-in_err-param-in-Some : goal.returns-in_err-param-in-Some
returns-in_err-param-in-Some c =
    function_stopped c.args.t.now.base.now (highers_of c.args.t.now) c.args.decl.now c.from_residual-in_err-param-in-Some.result c.in_err-param-in-Some.field-0.0 _ _ _ c.from_residual-in_err-param-in-Some.ensures.1 refl c.in_err-param-in-Some.ensures.gives
