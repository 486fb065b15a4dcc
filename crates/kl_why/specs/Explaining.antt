-- What the program does.
use Rattle.std.specs.Prelude.{◌≡◌, ◌⊎◌, ℕ, ◌<◌, ◌≤◌, List, [], length, Option, Some, None, Result, Ok, Err, Vec, ⊤}
use Rattle.std.specs.Io.KnownBytes.{append_known}
use Rattle.std.specs.declared.alloc.Global.{Global}
use Rattle.kl_ask.specs.Driver.{DriverKind, State}
use Rattle.kl_base.specs.Counts.{Rose}
use Rattle.kl_catalogue.specs.declared.reading.Entry.{Entry}
use Rattle.kl_outside.specs.Files.{FilesState, IsMissing}
use Rattle.kl_outside.specs.Sinks.{SinkState}
use Rattle.kl_sources.specs.Sources.{ArePlaced, kinds_of}
use Rattle.kl_sources.specs.declared.source.Source.{Source}
use Rattle.kl_why.specs.Catalogues.{IsCatalogueOf, IsWrongCatalogue}
use Rattle.kl_why.specs.Finding.{FindsIn}
use Rattle.kl_why.specs.Refused.{AreBytes, Told}
use Rattle.kl_why.specs.Whys.{Found, page_of, status_of}
use Rattle.kl_why.specs.declared.why.Why.{Why}
use Rattle.kl_why.specs.declared.why.Why.TheVariants as why
use Rattle.kl_why.specs.declared.words.Paths.{Paths}

abbrev pub IsLong : Told → List ℕ → Type 0
IsLong told path = (files : List ℕ → Option (List ℕ)) (held : List ℕ) → told ≡ Some files → files path ≡ Some held → 65536 < length held

-- the path is told to be missing, or a call of the files failed
abbrev pub IsUnread : List ℕ → FilesState → FilesState → Type 0
IsUnread path files files' = IsMissing files path ⊎ Rose files.faults files'.faults

-- the sources of a catalogue, none where there is no catalogue
abbrev pub AreSources : Told → List DriverKind → Option (List ℕ) → List Source → Type 0
AreSources told ks None ss = ss ≡ []
AreSources told ks (Some path) ss = (bytes : List ℕ) × (entries : List Entry) × AreBytes told path bytes × IsCatalogueOf ks bytes entries ss

-- the path is that of the program or of the catalogue
abbrev pub IsOneOf : Paths → List ℕ → Type 0
IsOneOf paths path = (path ≡ paths.program) ⊎ (paths.catalogue ≡ Some path)

-- the program of these paths and its sources, of which this is found
abbrev pub FindsAt : FilesState → List State → List State → Paths → Found → Type 0
FindsAt files ds ds' paths found =
    (bytes : List ℕ) × (ss : List Source)
    × AreBytes files.told paths.program bytes × AreSources files.told (kinds_of ds) paths.catalogue ss × FindsIn files.told ds ds' paths.program bytes ss found

-- what is found of the program of these paths, with the files and the drivers before and after
abbrev pub Finds : FilesState → FilesState → List State → List State → Paths → Found → Type 0
Finds files files' ds ds' paths (Err (why.Unread path)) = IsOneOf paths path × IsUnread path files files'
Finds files files' ds ds' paths (Err (why.TooLong path)) = IsOneOf paths path × IsLong files.told path
Finds files files' ds ds' paths (Err (why.Catalogue w s)) =
    (paths.catalogue ≡ Some s.path) × AreBytes files.told s.path s.bytes × IsWrongCatalogue (kinds_of ds) s.bytes w s.byte
Finds files files' ds ds' paths (Err why.NoMemory) = ⊤
Finds files files' ds ds' paths found = FindsAt files ds ds' paths found

-- the sink took the page of what was found, or it failed, or memory was wanting
abbrev pub Tells : Found → ℕ → SinkState → SinkState → Type 0
Tells found status out out' =
    ((status ≡ status_of found) × (out'.taken ≡ append_known out.taken (page_of found)))
    ⊎ ((status ≡ 8) × Rose out.faults out'.faults) ⊎ (status ≡ 9)

-- what is told of the program of these paths
pub record Explains (files files' : FilesState) (ds ds' : List State) (paths : Paths) (status : ℕ) (out out' : SinkState) : Type 0 where
  pub found : Found
  pub finds : Finds files files' ds ds' paths found
  pub tells : Tells found status out out'

-- ---- for private functions alone

abbrev pub ReadsText : FilesState → FilesState → List ℕ → Result (List ℕ) Why → Type 0
ReadsText files files' path (Ok bytes) = AreBytes files.told path bytes × (length bytes ≤ 65536)
ReadsText files files' path (Err (why.Unread it)) = (it ≡ path) × IsUnread path files files'
ReadsText files files' path (Err (why.TooLong it)) = (it ≡ path) × IsLong files.told path
ReadsText files files' path (Err why.NoMemory) = ⊤
ReadsText files files' path (Err w) = ⊥

-- the sources of a catalogue
abbrev pub FindsSources : FilesState → FilesState → List DriverKind → Option (List ℕ) → Result (Vec Source Global) Why → Type 0
FindsSources files files' ks catalogue (Ok ss) = AreSources files.told ks catalogue ss.items × ArePlaced ks ss.items
FindsSources files files' ks catalogue (Err (why.Unread it)) = (catalogue ≡ Some it) × IsUnread it files files'
FindsSources files files' ks catalogue (Err (why.TooLong it)) = (catalogue ≡ Some it) × IsLong files.told it
FindsSources files files' ks catalogue (Err (why.Catalogue w s)) = (catalogue ≡ Some s.path) × AreBytes files.told s.path s.bytes × IsWrongCatalogue ks s.bytes w s.byte
FindsSources files files' ks catalogue (Err why.NoMemory) = ⊤
FindsSources files files' ks catalogue (Err w) = ⊥

-- the sources of the text of a catalogue, which stands at a path
abbrev pub SourcesIn : List ℕ → List ℕ → List DriverKind → Result (Vec Source Global) Why → Type 0
SourcesIn path bytes ks (Ok ss) = (entries : List Entry) × IsCatalogueOf ks bytes entries ss.items
SourcesIn path bytes ks (Err (why.Catalogue w s)) = (s.path ≡ path) × (s.bytes ≡ bytes) × IsWrongCatalogue ks bytes w s.byte
SourcesIn path bytes ks (Err why.NoMemory) = ⊤
SourcesIn path bytes ks (Err w) = ⊥
