-- What reading a command's files, or making its texts, answers. No public contract cites this.
use Rattle.std.specs.Prelude.{◌≡◌, ◌⊎◌, ℕ, ◌≤◌, List, length, Option, Some, None, Result, Vec, IfOk, IfErr, ⊤}
use Rattle.std.specs.declared.alloc.Global.{Global}
use Rattle.kl_outside.specs.Counts.{Rose}
use Rattle.kl_outside.specs.Files.{FilesState}
use Rattle.kl_ask.specs.Driver.{DriverKind}
use Rattle.kl_sources.specs.Sources.{ArePlaced}
use Rattle.kl_sources.specs.declared.source.Source.{Source}
use Rattle.kl_engine.specs.Catalogues.{IsCatalogueFault, IsCatalogueOf}
use Rattle.kl_engine.specs.Commands.{Origin, Files, Made, TellTo}
use Rattle.kl_engine.specs.Verdict.{most_bytes, IsSourcesFault, HasSources, IsInputsFault, HasInputs}
use Rattle.kl_engine.specs.declared.inputs.Inputs.{Inputs}
use Rattle.kl_engine.specs.declared.fault.Fault.{Fault}
use Rattle.kl_engine.specs.declared.fault.Fault.TheVariants as fault

-- the faults of a catalogue's text
abbrev pub IsCatalogueEnd : Fault → Type 0
IsCatalogueEnd fault.NoMemory = ⊤
IsCatalogueEnd (fault.Catalogue byte) = ⊤
IsCatalogueEnd fault.Nesting = ⊤
IsCatalogueEnd (fault.NameTwice name) = ⊤
IsCatalogueEnd (fault.NoDriver name) = ⊤
IsCatalogueEnd (fault.Unsuited name) = ⊤
IsCatalogueEnd f = ⊥

-- and those of its file
abbrev pub IsSourcesEnd : Fault → Type 0
IsSourcesEnd fault.Read = ⊤
IsSourcesEnd fault.CatalogueBytes = ⊤
IsSourcesEnd f = IsCatalogueEnd f

pub record PlacesCatalogue (ks : List DriverKind) (text : List ℕ) (result : Result (Vec Source Global) Fault) : Type 0 where
  pub sources : IfOk result (λ ss. IsCatalogueOf ks text ss.items)
  pub placed : IfOk result (λ ss. ArePlaced ks ss.items)
  pub refused : IfErr result (λ f. (f ≡ fault.NoMemory) ⊎ IsCatalogueFault ks text f)
  pub no_other : IfErr result IsCatalogueEnd

pub record ReadsSources (catalogue : Option (List ℕ)) (ks : List DriverKind) (result : Result (Vec Source Global) Fault)
    (files files' : FilesState)
    : Type 0 where
  pub left : files'.left ≡ files.left
  pub told : files'.told ≡ files.told
  pub later : files.faults ≤ files'.faults
  pub placed : IfOk result (λ ss. ArePlaced ks ss.items)
  pub sources : (told : _) → files.told ≡ Some told → IfOk result (λ ss. HasSources told ks catalogue ss.items)
  pub refused : (told : _) → files.told ≡ Some told
      → IfErr result (λ f. (f ≡ fault.NoMemory) ⊎ ((f ≡ fault.Read) × Rose files.faults files'.faults) ⊎ IsSourcesFault told ks catalogue f)
  pub no_other : IfErr result IsSourcesEnd
  pub read : (files.told ≡ None) → IfErr result (λ f. f ≡ fault.Read → Rose files.faults files'.faults)
  -- no read failed, unless that is told
  pub well : IfOk result (λ ss. files'.faults ≡ files.faults)
  pub unfailed : IfErr result (λ f. (f ≡ fault.Read → ⊥) → files'.faults ≡ files.faults)

-- the faults of both files
abbrev pub IsFilesEnd : Fault → Type 0
IsFilesEnd fault.ProgramBytes = ⊤
IsFilesEnd f = IsSourcesEnd f

-- and those of what a program and its sources come from
abbrev pub IsInputsEnd : Origin → Fault → Type 0
IsInputsEnd (Files path catalogue) f = IsFilesEnd f
IsInputsEnd (Made seed size) f = IsCatalogueEnd f

pub record ReadsInputs (from : Origin) (ks : List DriverKind) (result : Result Inputs Fault) (files files' : FilesState)
    : Type 0 where
  pub left : files'.left ≡ files.left
  pub told : files'.told ≡ files.told
  pub few : IfOk result (λ i. length i.text ≤ most_bytes)
  pub placed : IfOk result (λ i. ArePlaced ks i.sources)
  pub inputs : (told : _) → TellTo from files told → IfOk result (λ i. HasInputs told ks from i.text i.sources)
  pub refused : (told : _) → TellTo from files told
      → IfErr result (λ f. (f ≡ fault.NoMemory) ⊎ ((f ≡ fault.Read) × Rose files.faults files'.faults) ⊎ IsInputsFault told ks from f)
  pub no_other : IfErr result (IsInputsEnd from)
  pub read : files.told ≡ None → IfErr result (λ f. f ≡ fault.Read → Rose files.faults files'.faults)
  pub well : IfOk result (λ i. files'.faults ≡ files.faults)
  pub unfailed : IfErr result (λ f. (f ≡ fault.Read → ⊥) → files'.faults ≡ files.faults)
