-- What is wrong with an entry of a catalogue.
use Rattle.std.proofs.Common.{◌≡◌, ℕ, List, [], take, Ok}
use Rattle.kl_ask.specs.Driver.{DriverKind}
use Rattle.kl_catalogue.specs.declared.reading.Entry.{Entry}
use Rattle.kl_sources.specs.Sources.{sources_of}
use Rattle.kl_sources.specs.declared.source.Source.{Source}

-- the first entries have sources
abbrev pub AreWell : List DriverKind → List Entry → ℕ → Type 0
AreWell ks entries n = (ss : List Source) × (sources_of ks [] (take n entries) ≡ Ok ss)
