-- What inferring the types of a program answers, over sources of these types. No public contract cites this.
use Rattle.std.specs.Prelude.{◌≡◌, ◌⊎◌, ℕ, List, [], Some, None, Result, Ok, Err}
use Rattle.kl_type.specs.Ground.{Ground}
use Rattle.kl_outcome.specs.Outcome.{Name}
use Rattle.kl_syntax.specs.Syntax.{Decls, Exp}
use Rattle.kl_scope.specs.Sizes.{declared}
use Rattle.kl_scope.specs.declared.counting.SizeBreach.{SizeBreach}
use Rattle.kl_scope.specs.declared.counting.SizeBreach.TheVariants.{Nodes, Depth}
use Rattle.kl_infer.specs.Inferred.{Infers, IsIllTyped}
use Rattle.kl_infer.specs.declared.Typed.{Typed}
use Rattle.kl_engine.specs.Verdict.{size_fault}
use Rattle.kl_engine.specs.declared.fault.Fault.{Fault}
use Rattle.kl_engine.specs.declared.fault.Fault.TheVariants as fault

abbrev pub breach_fault : SizeBreach → Fault
breach_fault (Nodes decl) = fault.TermNodes
breach_fault (Depth decl) = fault.TermDepth

-- no term is too large
abbrev pub FitsSizes : Decls → Exp → Type 0
FitsSizes ds e = size_fault (declared ds e []) ≡ None

-- a term is too large; or a declaration has no type
abbrev pub IsTypingFault : List (Name × Ground) → Decls → Exp → Fault → Type 0
IsTypingFault grounds ds e f = (size_fault (declared ds e []) ≡ Some f)
    ⊎ (FitsSizes ds e × (n : ℕ) × IsIllTyped ds e grounds n × (f ≡ fault.IllTyped n))

-- its terms fit, and it has these types
pub record IsTyped (grounds : List (Name × Ground)) (ds : Decls) (e : Exp) (typed : Typed) : Type 0 where
  pub fits : FitsSizes ds e
  pub infers : Infers ds e grounds typed

-- what inferring the types of a program answers
abbrev pub AnswersTypes : List (Name × Ground) → Decls → Exp → Result Typed Fault → Type 0
AnswersTypes grounds ds e (Ok typed) = IsTyped grounds ds e typed
AnswersTypes grounds ds e (Err f) = (f ≡ fault.NoMemory) ⊎ IsTypingFault grounds ds e f

-- the same of terms of any size
abbrev pub TypesOfAny : List (Name × Ground) → Decls → Exp → Result Typed Fault → Type 0
TypesOfAny grounds ds e (Ok typed) = Infers ds e grounds typed
TypesOfAny grounds ds e (Err f) = (f ≡ fault.NoMemory) ⊎ ((n : ℕ) × IsIllTyped ds e grounds n × (f ≡ fault.IllTyped n))
