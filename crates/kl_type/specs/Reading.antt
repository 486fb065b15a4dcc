-- Which bytes are which type, and where those that are none go wrong.
use Rattle.std.specs.Prelude.{ℕ, List, Result, Ok, Err}
use Rattle.kl_lex.specs.declared.token.Placed.{Placed}
use Rattle.kl_type.specs.declared.ground.Ty.{Ty}
use Rattle.kl_type.specs.declared.reading.TypeError.{TypeError}
use Rattle.kl_type.specs.declared.reading.TypeError.TheVariants.{Bad, TooDeep, NoMemory}
use Rattle.kl_type.specs.Grammar.{Reads}
use Rattle.kl_type.specs.Texts.{Spells, IsTextOf, AtBad, AtDeep, BadText, DeepText}

-- the tokens are this type, nested at most 256 deep
abbrev pub SpellsType : List Placed → Ty → Type 0
SpellsType = Spells Reads

-- the bytes are this type
abbrev pub ReadsType : List ℕ → Ty → Type 0
ReadsType = IsTextOf Reads

-- for private functions alone: what is refused of these tokens, of a text of so many bytes
abbrev pub RefusesTokens : ℕ → List Placed → Result Ty TypeError → Type 0
RefusesTokens total ts (Ok t) = Unit {0}
RefusesTokens total ts (Err (Bad place)) = AtBad Reads total ts place
RefusesTokens total ts (Err (TooDeep place)) = AtDeep Reads total ts place
RefusesTokens total ts (Err NoMemory) = Unit {0}

-- what is refused of these bytes
abbrev pub RefusesType : List ℕ → Result Ty TypeError → Type 0
RefusesType bytes (Ok t) = Unit {0}
RefusesType bytes (Err (Bad place)) = BadText Reads bytes place
RefusesType bytes (Err (TooDeep place)) = DeepText Reads bytes place
RefusesType bytes (Err NoMemory) = Unit {0}
