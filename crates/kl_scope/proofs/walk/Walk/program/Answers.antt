use Rattle.kl_scope.proofs.DeclLemmas.{program_is}
use Rattle.kl_scope.proofs.walk.Walk.program.Goals as goal

pub returns : goal.returns
returns c = program_is c.args.program.now c.slice_mut.result.now c.decls.new.decls c.expr.new.e c.args.self.now c.decls.new.self c.expr.new.self c.slice_mut.ensures.value c.decls.auto.decls c.in_ok-decls.ensures c.in_ok-expr.ensures
