use Rattle.kl_functions.specs.Known.{fields_in, functions_of}
use Rattle.kl_functions.proofs.Declaring.{function_is, constant_is}
use Rattle.kl_functions.proofs.programs.decl_copy.Goals as goal

pub returns-in-Some : goal.returns-in-Some
returns-in-Some c =
    function_is (fields_in c.args.all.now) (functions_of c.args.before.known.now c.args.before.sources.now) c.function_copy.result c.args.def.now c.in-Some.pattern c.in-Some.is c.function_copy.ensures.name
    c.function_copy.ensures.param c.function_copy.ensures.body

pub returns-in-None : goal.returns-in-None
returns-in-None c =
    constant_is (fields_in c.args.all.now) (functions_of c.args.before.known.now c.args.before.sources.now) c.constant_copy.result c.args.def.now c.in-None.is c.constant_copy.ensures.name c.constant_copy.ensures.param
    c.constant_copy.ensures.body
