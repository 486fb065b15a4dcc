-- The term of a program makes sense.
use Rattle.std.specs.Prelude.{◌≡◌, List, [], map, slice_get}
use Rattle.kl_type.specs.Ground.{Ground}
use Rattle.kl_outcome.specs.Outcome.{Name}
use Rattle.kl_syntax.specs.Syntax.{Decls, Exp}
use Rattle.kl_meaning.specs.Tidy.{IsTidyProgram}
use Rattle.kl_meaning.specs.Typing.{AreGround, ProgramTypes}
use Rattle.kl_core.specs.Trees.{Tree}
use Rattle.kl_core.specs.Typing.{SourceTypes, CoreTypes}
use Rattle.kl_desugar.specs.Translation.{term_of}

-- the types of sources by their numbers
abbrev pub types_of : List (Name × Ground) → SourceTypes
types_of sources i = slice_get (map (λ s. s.1) sources) i

-- where the program is tidy and its sources have types of the language, its term has each type that the program has
abbrev pub MakesSense : Decls → Exp → List (Name × Ground) → Type 0
MakesSense ds e sources =
    (t : Ground) → AreGround sources → IsTidyProgram ds e → ProgramTypes ds e sources t
    → CoreTypes (types_of sources) [] (term_of ds e (map (λ s. s.0) sources)) t

-- the same of a term over any types of the sources with these names
abbrev pub HasSense : Decls → Exp → List Name → Tree → Type 0
HasSense ds e names t =
    (sources : List (Name × Ground)) (s : Ground) → map (λ s. s.0) sources ≡ names → AreGround sources
    → IsTidyProgram ds e → ProgramTypes ds e sources s → CoreTypes (types_of sources) [] t s
