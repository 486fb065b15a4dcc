use Rattle.std.proofs.Common.{refl}
use Rattle.kl_scope.proofs.DeclLemmas.{function_is, constant_is}
use Rattle.kl_scope.proofs.walk.Walk.decl.Goals as goal

pub returns-in_ok-define-in-Some : goal.returns-in_ok-define-in-Some
returns-in_ok-define-in-Some c =
    function_is c.args.decl.now c.in-Some.pattern c.sure.new.pattern _ c.expr.new.e c.depth-depth.result c.args.self.now c.taken.new.self c.sure.new.self c.expr.new.self _ c.leave.new.self c.in-Some.is c.in-Some.pattern-is c.in_ok-taken.ensures.names c.in_ok-taken.ensures.found c.depth-depth.ensures
    c.in_ok-sure-in-Some.ensures c.in_ok-expr-in-Some.ensures c.in_ok-leave-in-Some.ensures c.in_ok-define-in-Some.ensures refl

pub returns-in_ok-define-in-None : goal.returns-in_ok-define-in-None
returns-in_ok-define-in-None c =
    constant_is c.args.decl.now c.expr-in-None.new.e c.args.self.now c.taken.new.self c.expr-in-None.new.self _ c.in-None.is c.in_ok-taken.ensures.names c.in_ok-taken.ensures.found c.in_ok-expr-in-None.ensures c.in_ok-define-in-None.ensures refl
