-- What a refusal of inference says of a program.
use Rattle.std.specs.Prelude.{List, ⊤}
use Rattle.kl_type.specs.Ground.{Ground}
use Rattle.kl_outcome.specs.Outcome.{Name}
use Rattle.kl_syntax.specs.Syntax.{Exp, Decls}
use Rattle.kl_infer.specs.Inferred.{IsIllTyped}
use Rattle.kl_infer.specs.declared.inference.InferError.{InferError}
use Rattle.kl_infer.specs.declared.inference.InferError.TheVariants.{IllTyped, NoMemory}

abbrev pub IsRefusal : Decls → Exp → List (Name × Ground) → InferError → Type 0
IsRefusal ds e sources (IllTyped n) = IsIllTyped ds e sources n
IsRefusal ds e sources NoMemory = ⊤
