-- What is told of a source that its driver refuses.
use Rattle.std.specs.Prelude.{◌≡◌, ℕ, List, Option, Some}
use Rattle.kl_ask.specs.declared.ask.DriverError.{DriverError}
use Rattle.kl_ask.specs.declared.ask.DriverError.TheVariants as error
use Rattle.kl_sources.specs.declared.source.Source.{Source}
use Rattle.kl_why.specs.Sources.{Blames}
use Rattle.kl_why.specs.declared.unfit.Unfit.{Unfit}
use Rattle.kl_why.specs.declared.unfit.Unfit.TheVariants as unfit
use Rattle.kl_why.specs.declared.why.Why.{Why}
use Rattle.kl_why.specs.declared.why.Why.TheVariants as why

-- the bytes of each path, where files tell them, with none at a path that is missing
abbrev pub Told : Type 0
Told = Option (List ℕ → Option (List ℕ))

-- these are the bytes of the path, where files tell them
abbrev pub AreBytes : Told → List ℕ → List ℕ → Type 0
AreBytes told path bytes = (files : List ℕ → Option (List ℕ)) (held : List ℕ) → told ≡ Some files → files path ≡ Some held → bytes ≡ held

-- The byte is the place that the driver tells; of a table what is wrong with its bytes is said of these.
abbrev pub IsUnfit : Source → List ℕ → DriverError → Unfit → ℕ → Type 0
IsUnfit s bytes e (unfit.Item text) byte = e ≡ error.BadSource byte
IsUnfit s bytes e unfit.Deep byte = e ≡ error.TooDeep byte
IsUnfit s bytes e u byte = Blames s.ty bytes u

-- the same of a file that is not shown, where only the driver's place is told
abbrev pub IsUnfitAt : DriverError → Unfit → ℕ → Type 0
IsUnfitAt e unfit.Bad place = e ≡ error.BadSource place
IsUnfitAt e unfit.Deep place = e ≡ error.TooDeep place
IsUnfitAt e u place = ⊥

-- what is told of a source whose driver answers this error
abbrev pub BlamesSource : Told → Source → DriverError → Why → Type 0
BlamesSource told s e (why.Source name u spot) = (name ≡ s.name) × (spot.path ≡ s.locator) × AreBytes told spot.path spot.bytes × IsUnfit s spot.bytes e u spot.byte
BlamesSource told s e (why.SourceAt name u place) = (name ≡ s.name) × IsUnfitAt e u place
BlamesSource told s e (why.SourceUnread name path) = (name ≡ s.name) × (path ≡ s.locator) × (e ≡ error.Failed)
BlamesSource told s e (why.SourceLong name most) = (name ≡ s.name) × (e ≡ error.TooLong most)
BlamesSource told s e w = ⊥

-- ---- for private functions alone

-- the same of a place that the driver tells, where the file has these bytes
abbrev pub BlamesBytes : Source → List ℕ → ℕ → Why → Type 0
BlamesBytes s bytes place (why.Source name u spot) = (name ≡ s.name) × (spot.path ≡ s.locator) × (spot.bytes ≡ bytes) × IsUnfit s bytes (error.BadSource place) u spot.byte
BlamesBytes s bytes place (why.SourceAt name u at) = (name ≡ s.name) × IsUnfitAt (error.BadSource place) u at
BlamesBytes s bytes place w = ⊥
