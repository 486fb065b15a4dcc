use Rattle.std.proofs.Common.{arith}
use Rattle.kl_functions.specs.Occurrences.{names_of, roles_of}
use Rattle.kl_functions.proofs.Occurring.{argument_none}
use Rattle.kl_functions.proofs.occurrences.Parameter.argument.Goals as goal

pub returns-in-empty : goal.returns-in-empty
returns-in-empty c = argument_none (roles_of c.args.self.now) (names_of c.args.hiding.now) c.args.args.now (λ e. omega arith)

pub returns-in-len2-up : goal.returns-in-len2-up
returns-in-len2-up c = argument_none (roles_of c.args.self.now) (names_of c.args.hiding.now) c.args.args.now (λ e. omega arith)
