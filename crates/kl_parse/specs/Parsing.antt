-- What a parser answers.
use Rattle.std.specs.Prelude.{ℕ, zero, List, Result, Ok, Err, ◌⊎◌}
use Rattle.kl_lex.specs.declared.token.Token.{Token}
use Rattle.kl_phrase.specs.Fronts.{IsSyntax, IsTooDeep, OneFront}
use Rattle.kl_parse.specs.declared.program.ParseError.{ParseError}
use Rattle.kl_parse.specs.declared.program.ParseError.TheVariants.{Syntax, TooDeep, NoMemory}
use Rattle.kl_syntax.specs.declared.tree.Program.{Program}
use Rattle.kl_parse.specs.Grammar.{ReadsProgram, BeginsProgram}

-- the tokens are this program
abbrev pub IsProgram : List Token → Program → Type 0
IsProgram ts p = ReadsProgram 256 zero p ts

-- so many tokens begin some program, and more of them begin none
abbrev pub IsSyntaxPlace : List Token → ℕ → Type 0
IsSyntaxPlace ts k = IsSyntax ReadsProgram BeginsProgram 256 ts k

-- so many tokens begin a program nested at most 256 deep; with the next one they begin a program, but none nested so little
abbrev pub IsDeepPlace : List Token → ℕ → Type 0
IsDeepPlace ts k = IsTooDeep ReadsProgram BeginsProgram 256 ts k

-- at the place of a refusal no program goes on, or none nested so little
abbrev pub RefusesProgram : List Token → Result Program ParseError → Type 0
RefusesProgram ts (Ok p) = Unit {0}
RefusesProgram ts (Err (Syntax k)) = IsSyntaxPlace ts k
RefusesProgram ts (Err (TooDeep k)) = IsDeepPlace ts k
RefusesProgram ts (Err NoMemory) = Unit {0}

-- of both kinds together at most one place, and none in a program
abbrev pub OnePlace : List Token → Type 0
OnePlace ts = OneFront ReadsProgram BeginsProgram 256 ts

-- the tokens are a program, or have a place where no program goes on, or one where none nested so little does
abbrev pub IsToldOf : List Token → Type 0
IsToldOf ts = ((p : Program) × IsProgram ts p) ⊎ (((k : ℕ) × IsSyntaxPlace ts k) ⊎ ((k : ℕ) × IsDeepPlace ts k))
