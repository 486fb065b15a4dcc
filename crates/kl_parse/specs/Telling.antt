-- What the parser makes of what its descent tells.
-- No public contract cites this.
use Rattle.std.specs.Prelude.{◌≡◌, ℕ, List, length, Result, Ok, Err}
use Rattle.kl_lex.specs.declared.token.Token.{Token}
use Rattle.kl_phrase.specs.Readers.{Out, ok, fail, ended}
use Rattle.kl_phrase.specs.Fronts.{Told, program, syntax, too_deep, again_told}
use Rattle.kl_parse.specs.declared.program.ParseError.{ParseError}
use Rattle.kl_parse.specs.declared.program.ParseError.TheVariants.{Syntax, TooDeep, NoMemory}
use Rattle.kl_syntax.specs.declared.tree.Program.{Program}
use Rattle.kl_parse.specs.Descent as d

-- unless memory ran out, what is told
abbrev pub SaysError : ParseError → Told Program → Type 0
SaysError (Syntax k) t = t ≡ syntax k
SaysError (TooDeep k) t = t ≡ too_deep k
SaysError NoMemory t = Unit {0}

abbrev pub Says : Result Program ParseError → Told Program → Type 0
Says (Ok p) t = t ≡ program p
Says (Err e) t = SaysError e t

-- of the tokens through a place, which are read again
abbrev pub SaysAgain : ℕ → List Token → ParseError → Type 0
SaysAgain k front e = SaysError e (again_told d.program k (ended (d.program (length front) (length front) front)))

abbrev pub rest_of : Out Token Program → List Token
rest_of (ok p r) = r
rest_of (fail w r) = r

-- where this is left of them
abbrev pub Through : ℕ → List Token → ParseError → Type 0
Through k rest e = (o : Out Token Program) → rest_of o ≡ rest → SaysError e (again_told d.program k (ended o))
