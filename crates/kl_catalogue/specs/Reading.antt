-- Which bytes are which catalogue, and where those that are none go wrong.
use Rattle.std.specs.Prelude.{ℕ, List, Result, Ok, Err, ◌⊎◌}
use Rattle.kl_lex.specs.declared.token.Placed.{Placed}
use Rattle.kl_type.specs.Texts.{Spells, IsTextOf, IsBadAt, IsDeepAt, AtBad, AtDeep, BadText, DeepText}
use Rattle.kl_catalogue.specs.declared.reading.Entry.{Entry}
use Rattle.kl_catalogue.specs.declared.reading.CatalogueError.{CatalogueError}
use Rattle.kl_catalogue.specs.declared.reading.CatalogueError.TheVariants.{Bad, TooDeep, NoMemory}
use Rattle.kl_catalogue.specs.Grammar.{ReadsCatalogue}

-- the tokens are this catalogue, its types nested at most 256 deep
abbrev pub SpellsCatalogue : List Placed → List Entry → Type 0
SpellsCatalogue = Spells ReadsCatalogue

-- the bytes are this catalogue
abbrev pub IsCatalogue : List ℕ → List Entry → Type 0
IsCatalogue = IsTextOf ReadsCatalogue

-- the tokens are a catalogue, or have a place where no catalogue goes on, or a bracket that nests too deep
abbrev pub IsToldOf : List Placed → Type 0
IsToldOf ts = ((c : List Entry) × SpellsCatalogue ts c)
    ⊎ (((k : ℕ) × IsBadAt ReadsCatalogue ts k) ⊎ ((k : ℕ) × IsDeepAt ReadsCatalogue ts k))

-- for private functions alone: what is refused of these tokens, of a text of so many bytes
abbrev pub RefusesTokens : ℕ → List Placed → Result (List Entry) CatalogueError → Type 0
RefusesTokens total ts (Ok c) = Unit {0}
RefusesTokens total ts (Err (Bad byte)) = AtBad ReadsCatalogue total ts byte
RefusesTokens total ts (Err (TooDeep byte)) = AtDeep ReadsCatalogue total ts byte
RefusesTokens total ts (Err NoMemory) = Unit {0}

-- what is refused of these bytes
abbrev pub RefusesCatalogue : List ℕ → Result (List Entry) CatalogueError → Type 0
RefusesCatalogue bytes (Ok c) = Unit {0}
RefusesCatalogue bytes (Err (Bad byte)) = BadText ReadsCatalogue bytes byte
RefusesCatalogue bytes (Err (TooDeep byte)) = DeepText ReadsCatalogue bytes byte
RefusesCatalogue bytes (Err NoMemory) = Unit {0}
