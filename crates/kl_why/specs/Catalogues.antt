-- What is wrong with the text of a catalogue.
use Rattle.std.specs.Prelude.{◌≡◌, ◌⊎◌, ℕ, ◌+◌, List, [], length, take, Result, Ok, Err, Vec, ⊤}
use Rattle.std.specs.declared.alloc.Global.{Global}
use Rattle.kl_ask.specs.Driver.{DriverKind}
use Rattle.kl_catalogue.specs.Reading.{IsCatalogue, RefusesCatalogue}
use Rattle.kl_catalogue.specs.declared.reading.CatalogueError.TheVariants.{Bad, TooDeep}
use Rattle.kl_catalogue.specs.declared.reading.Entry.{Entry}
use Rattle.kl_lex.specs.Lexing.{Tokens}
use Rattle.kl_lex.specs.declared.token.Token.{Token}
use Rattle.kl_sources.specs.Sources.{ArePlaced, sources_of}
use Rattle.kl_sources.specs.declared.placing.PlaceError.{PlaceError}
use Rattle.kl_sources.specs.declared.placing.PlaceError.TheVariants as place
use Rattle.kl_sources.specs.declared.source.Source.{Source}
use Rattle.kl_why.specs.Tokens.{part_byte}
use Rattle.kl_why.specs.declared.wrong.Refusal.{Refusal}
use Rattle.kl_why.specs.declared.wrong.Refusal.TheVariants as refusal
use Rattle.kl_why.specs.declared.wrong.Wrong.{Wrong}
use Rattle.kl_why.specs.declared.wrong.Wrong.TheVariants as wrong

-- this is wrong with the entry of a number, and nothing with those before it
pub record IsFirstWrong (ks : List DriverKind) (entries : List Entry) (n : ℕ) (e : PlaceError) : Type 0 where
  pub before : (ss : List Source) × (sources_of ks [] (take n entries) ≡ Ok ss)
  pub wrong : sources_of ks [] (take (n + 1) entries) ≡ Err e

-- this is wrong with the first entry that is wrong, which begins at this byte
pub record Misnames (ks : List DriverKind) (bytes : List ℕ) (e : PlaceError) (byte : ℕ) : Type 0 where
  pub entries : List Entry
  pub catalogue : IsCatalogue bytes entries
  pub number : ℕ
  pub first : IsFirstWrong ks entries number e
  pub begins : (ts : List Token) → Tokens bytes ts → byte ≡ part_byte (length bytes) ts number

-- what is wrong with the text of a catalogue over drivers of these kinds, and at which byte
abbrev pub IsWrongCatalogue : List DriverKind → List ℕ → Wrong → ℕ → Type 0
IsWrongCatalogue ks bytes wrong.NoCatalogue byte = RefusesCatalogue bytes (Err (Bad byte))
IsWrongCatalogue ks bytes wrong.Nesting byte = RefusesCatalogue bytes (Err (TooDeep byte))
IsWrongCatalogue ks bytes (wrong.NameTwice name) byte = Misnames ks bytes (place.Twice name) byte
IsWrongCatalogue ks bytes (wrong.NoDriver name) byte = Misnames ks bytes (place.NoDriver name) byte
IsWrongCatalogue ks bytes (wrong.Unsuited name) byte = Misnames ks bytes (place.Unsuited name) byte
IsWrongCatalogue ks bytes w byte = ⊥

-- the bytes are a catalogue with these entries, whose sources are these
pub record IsCatalogueOf (ks : List DriverKind) (bytes : List ℕ) (entries : List Entry) (sources : List Source) : Type 0 where
  pub entries_are : IsCatalogue bytes entries
  pub sources_are : sources_of ks [] entries ≡ Ok sources
  pub placed : ArePlaced ks sources

-- ---- for private functions alone

abbrev pub Places : List DriverKind → List ℕ → Result (Vec Source Global) Refusal → Type 0
Places ks bytes (Ok sources) = (entries : List Entry) × IsCatalogueOf ks bytes entries sources.items
Places ks bytes (Err (refusal.Wrong w byte)) = IsWrongCatalogue ks bytes w byte
Places ks bytes (Err refusal.NoMemory) = ⊤

-- how what is wrong with an entry is told
abbrev pub entry_refusal : PlaceError → ℕ → Refusal
entry_refusal (place.Twice name) byte = refusal.Wrong (wrong.NameTwice name) byte
entry_refusal (place.NoDriver name) byte = refusal.Wrong (wrong.NoDriver name) byte
entry_refusal (place.Unsuited name) byte = refusal.Wrong (wrong.Unsuited name) byte
entry_refusal place.NoMemory byte = refusal.NoMemory

-- it is told that this is wrong with the entry of a number, or memory was wanting
abbrev pub TellsEntry : List ℕ → ℕ → PlaceError → Refusal → Type 0
TellsEntry bytes n e r = (r ≡ refusal.NoMemory)
    ⊎ ((byte : ℕ) × ((ts : List Token) → Tokens bytes ts → byte ≡ part_byte (length bytes) ts n) × (r ≡ entry_refusal e byte))
