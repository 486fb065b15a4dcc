-- What the bytes of a catalogue come to: sources at their drivers, or a fault.
use Rattle.std.specs.Prelude.{◌≡◌, ◌⊎◌, ℕ, List, [], Ok, Err}
use Rattle.kl_ask.specs.Driver.{DriverKind}
use Rattle.kl_catalogue.specs.Reading.{IsCatalogue, RefusesCatalogue}
use Rattle.kl_catalogue.specs.declared.reading.CatalogueError.TheVariants.{Bad, TooDeep}
use Rattle.kl_catalogue.specs.declared.reading.Entry.{Entry}
use Rattle.kl_sources.specs.Sources.{sources_of}
use Rattle.kl_sources.specs.declared.placing.PlaceError.{PlaceError}
use Rattle.kl_sources.specs.declared.placing.PlaceError.TheVariants as place
use Rattle.kl_sources.specs.declared.source.Source.{Source}
use Rattle.kl_engine.specs.declared.fault.Fault.{Fault}
use Rattle.kl_engine.specs.declared.fault.Fault.TheVariants as fault

abbrev pub place_fault : PlaceError → Fault
place_fault (place.Twice name) = fault.NameTwice name
place_fault (place.NoDriver name) = fault.NoDriver name
place_fault (place.Unsuited name) = fault.Unsuited name
place_fault place.NoMemory = fault.NoMemory

-- the bytes are no catalogue, or nest too deep; or of the first entry that is wrong its fault
abbrev pub IsCatalogueFault : List DriverKind → List ℕ → Fault → Type 0
IsCatalogueFault ks bytes f =
    ((byte : ℕ) × RefusesCatalogue bytes (Err (Bad byte)) × (f ≡ fault.Catalogue byte))
    ⊎ ((byte : ℕ) × RefusesCatalogue bytes (Err (TooDeep byte)) × (f ≡ fault.Nesting))
    ⊎ ((es : List Entry) × (e : PlaceError) × IsCatalogue bytes es × (sources_of ks [] es ≡ Err e) × (f ≡ place_fault e))

-- the bytes are a catalogue, and these are its sources
abbrev pub IsCatalogueOf : List DriverKind → List ℕ → List Source → Type 0
IsCatalogueOf ks bytes ss = (es : List Entry) × IsCatalogue bytes es × (sources_of ks [] es ≡ Ok ss)
