use Rattle.std.proofs.Common.{take}
use Rattle.kl_syntax.specs.View.{decls_of}
use Rattle.kl_meaning.specs.Typing.{types_at_first}
use Rattle.kl_infer.specs.Declaring.{AreMade}
use Rattle.kl_infer.specs.Inferred.{HaveSchemes, types_of}
use Rattle.kl_infer.proofs.inference.infer.Given as goal

abbrev pub invariant-defs : goal.invariant-defs
invariant-defs l = record { have : HaveSchemes (decls_of (take l.i l.defs)) (types_at_first (types_of l.sources)) l.schemes.items; made : AreMade l.sources l.made.items }
