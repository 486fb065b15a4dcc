-- Which bytes are which statement, and where those that are none go wrong.
use Rattle.std.specs.Prelude.{ℕ, List, Result, Ok, Err, ◌⊎◌}
use Rattle.kl_phrase.specs.Places.{IsPlace}
use Rattle.kl_sqltext.specs.declared.ast.Spj.{Spj}
use Rattle.kl_sqltext.specs.declared.reading.SqlError.{SqlError}
use Rattle.kl_sqltext.specs.declared.reading.SqlError.TheVariants.{Bad, NoMemory}
use Rattle.kl_sqltext.specs.Grammar.{Statement}

-- the bytes are this statement
abbrev pub SqlReads : List ℕ → Spj → Type 0
SqlReads bytes s = Statement 0 s bytes

-- so many bytes are the longest prefix that begins some statement, and the whole is none
abbrev pub IsBadSql : List ℕ → ℕ → Type 0
IsBadSql = IsPlace (λ depth. Statement)

-- what is refused of these bytes
abbrev pub RefusesSql : List ℕ → Result Spj SqlError → Type 0
RefusesSql bytes (Ok s) = Unit {0}
RefusesSql bytes (Err (Bad place)) = IsBadSql bytes place
RefusesSql bytes (Err NoMemory) = Unit {0}

-- the bytes are a statement, or have a place where no statement goes on
abbrev pub IsSqlOrBad : List ℕ → Type 0
IsSqlOrBad bytes = ((s : Spj) × SqlReads bytes s) ⊎ ((k : ℕ) × IsBadSql bytes k)
