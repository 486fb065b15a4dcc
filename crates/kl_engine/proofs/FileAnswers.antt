-- What reading the files of a command answers.
use Rattle.std.proofs.Common.{◌≡◌, inl, inr, ℕ, List, [], Option, Some, None, Result, Ok, Err, Vec, refl, sym, ap, subst, ◌∙◌, arith}
use Rattle.std.specs.declared.alloc.Global.{Global}
use Rattle.std.specs.List.{IsDistinct}
use Rattle.kl_outside.specs.Files.{FilesState, ReadsWhole}
use Rattle.kl_outside.specs.declared.files.Whole.TheVariants as whole
use Rattle.kl_base.proofs.Rises.{rose_after}
use Rattle.kl_outside.proofs.FileLemmas.{was_there}
use Rattle.kl_ask.specs.Driver.{DriverKind}
use Rattle.kl_sources.specs.Sources.{ArePlaced}
use Rattle.kl_sources.specs.declared.source.Source.{Source}
use Rattle.kl_engine.specs.Catalogues.{IsCatalogueFault}
use Rattle.kl_tools.specs.Texts.{catalogue_text}
use Rattle.kl_engine.specs.Commands.{Files, Made}
use Rattle.kl_engine.specs.Inputs.{IsCatalogueEnd, IsSourcesEnd, IsFilesEnd, PlacesCatalogue, ReadsSources, ReadsInputs}
use Rattle.kl_engine.specs.Verdict.{most_bytes, IsFileFault, IsSourcesFault}
use Rattle.kl_engine.specs.declared.fault.Fault.{Fault}
use Rattle.kl_engine.specs.declared.fault.Fault.TheVariants as fault

-- ---- a file

-- A file that was not read is missing, or a count rose.
module _ (long : Fault) (AreWrong : List ℕ → Fault → Type 0) (path : List ℕ) (f f' : FilesState) (told : List ℕ → Option (List ℕ)) (is : f.told ≡ Some told) where
  file_long : ReadsWhole path most_bytes (Ok whole.TooLong) f f' → IsFileFault long AreWrong (told path) long
  file_long reads =
      let there = was_there path most_bytes whole.TooLong f f' told reads is in
      subst (λ o. IsFileFault long AreWrong o long) (sym there.1) (inl (there.2, refl))

  file_wrong : (bytes : List ℕ) (g : Fault) → ReadsWhole path most_bytes (Ok (whole.Bytes bytes)) f f' → AreWrong bytes g → IsFileFault long AreWrong (told path) g
  file_wrong bytes g reads wrong =
      let there = was_there path most_bytes (whole.Bytes bytes) f f' told reads is in
      subst (λ o. IsFileFault long AreWrong o g) (sym there.1) (inr (there.2.1, subst (λ bs. AreWrong bs g) there.2.0 wrong))

  file_at : (bytes : List ℕ) → ReadsWhole path most_bytes (Ok (whole.Bytes bytes)) f f' → told path ≡ Some bytes
  file_at bytes reads = let there = was_there path most_bytes (whole.Bytes bytes) f f' told reads is in there.1 ∙ ap Some (sym there.2.0)

-- ---- the sources of a catalogue

none_placed : (ks : List DriverKind) → ArePlaced ks []
unfolding IsDistinct
none_placed ks = record { suited = tt; fit = tt; proper = tt; differ = tt }

pub no_sources : (ks : List DriverKind) (f : FilesState) (ss : Vec Source Global) → ss.items ≡ [] → ReadsSources None ks (Ok ss) f f
no_sources ks f ss none = record {
  left = refl;
  told = refl;
  later = omega arith;
  placed = subst (ArePlaced ks) (sym none) (none_placed ks);
  sources = λ told is. none;
  refused = λ told is. tt;
  no_other = tt;
  read = λ is. tt;
  well = refl;
  unfailed = tt;
}

-- the faults of a catalogue's text
catalogue_end : (g : Fault) → IsCatalogueEnd g → IsSourcesEnd g
catalogue_end fault.NoMemory has = tt
catalogue_end (fault.Catalogue byte) has = tt
catalogue_end fault.Nesting has = tt
catalogue_end (fault.NameTwice name) has = tt
catalogue_end (fault.NoDriver name) has = tt
catalogue_end (fault.Unsuited name) has = tt
catalogue_end fault.Read has = tt
catalogue_end fault.CatalogueBytes has = tt
catalogue_end fault.Usage has = has
catalogue_end (fault.Text w byte) has = has
catalogue_end (fault.IllTyped decl) has = has
catalogue_end (fault.BadFile place) has = has
catalogue_end (fault.NoType byte) has = has
catalogue_end (fault.BadSource name place) has = has
catalogue_end fault.Overflow has = has
catalogue_end fault.Write has = has
catalogue_end (fault.Changed name) has = has
catalogue_end fault.ProgramBytes has = has
catalogue_end fault.FileBytes has = has
catalogue_end fault.ItemNesting has = has
catalogue_end fault.TermNodes has = has
catalogue_end fault.TermDepth has = has
catalogue_end fault.SchemeBytes has = has

-- and those of both files
sources_end : (g : Fault) → IsSourcesEnd g → IsFilesEnd g
sources_end fault.NoMemory has = tt
sources_end (fault.Catalogue byte) has = tt
sources_end fault.Nesting has = tt
sources_end (fault.NameTwice name) has = tt
sources_end (fault.NoDriver name) has = tt
sources_end (fault.Unsuited name) has = tt
sources_end fault.Read has = tt
sources_end fault.CatalogueBytes has = tt
sources_end fault.ProgramBytes has = tt
sources_end fault.Usage has = has
sources_end (fault.Text w byte) has = has
sources_end (fault.IllTyped decl) has = has
sources_end (fault.BadFile place) has = has
sources_end (fault.NoType byte) has = has
sources_end (fault.BadSource name place) has = has
sources_end fault.Overflow has = has
sources_end fault.Write has = has
sources_end (fault.Changed name) has = has
sources_end fault.FileBytes has = has
sources_end fault.ItemNesting has = has
sources_end fault.TermNodes has = has
sources_end fault.TermDepth has = has
sources_end fault.SchemeBytes has = has

module _ (path : List ℕ) (ks : List DriverKind) (f f' : FilesState) where
  pub sources_long : ReadsWhole path most_bytes (Ok whole.TooLong) f f' → ReadsSources (Some path) ks (Err fault.CatalogueBytes) f f'
  sources_long reads = record {
    left = reads.left;
    told = reads.told;
    later = reads.later;
    placed = tt;
    sources = λ told is. tt;
    refused = λ told is. inr (inr (file_long fault.CatalogueBytes (IsCatalogueFault ks) path f f' told is reads));
    no_other = tt;
    read = λ none is. absurd cc;
    well = tt;
    unfailed = λ other. reads.counts;
  }

  module _ (text us : List ℕ) (reads : ReadsWhole path most_bytes (Ok (whole.Bytes text)) f f') (same : us ≡ text) where
    sources_of_text : (result : Result (Vec Source Global) Fault) → PlacesCatalogue ks text result → ReadsSources (Some path) ks result f f'
    sources_of_text (Ok ss) found = record {
      left = reads.left;
      told = reads.told;
      later = reads.later;
      placed = found.placed;
      sources = λ told is. (text, file_at fault.CatalogueBytes (IsCatalogueFault ks) path f f' told is text reads, reads.within, found.sources);
      refused = λ told is. tt;
      no_other = tt;
      read = λ none. tt;
      well = reads.counts;
      unfailed = tt;
    }
    sources_of_text (Err g) found = record {
      left = reads.left;
      told = reads.told;
      later = reads.later;
      placed = tt;
      sources = λ told is. tt;
      refused = λ told is. elim found.refused [ inl none ↦ inl none | inr wrong ↦ inr (inr (file_wrong fault.CatalogueBytes (IsCatalogueFault ks) path f f' told is text g reads wrong)) ];
      no_other = catalogue_end g found.no_other;
      read = λ none is. absurd (subst IsCatalogueEnd is found.no_other);
      well = tt;
      unfailed = λ other. reads.counts;
    }

    pub sources_read : (result : Result (Vec Source Global) Fault) → PlacesCatalogue ks us result → ReadsSources (Some path) ks result f f'
    sources_read result found = sources_of_text result (subst (λ bs. PlacesCatalogue ks bs result) same found)

-- ---- both files

-- the program was not read
module _ (path : List ℕ) (catalogue : Option (List ℕ)) (ks : List DriverKind) (f f' : FilesState) where
  pub inputs_long : ReadsWhole path most_bytes (Ok whole.TooLong) f f' → ReadsInputs (Files path catalogue) ks (Err fault.ProgramBytes) f f'
  inputs_long reads = record {
    left = reads.left;
    told = reads.told;
    few = tt;
    placed = tt;
    inputs = λ told is. tt;
    refused = λ told is. inr (inr (file_long fault.ProgramBytes (λ text. IsSourcesFault told ks catalogue) path f f' told is reads));
    no_other = tt;
    read = λ none is. absurd cc;
    well = tt;
    unfailed = λ other. reads.counts;
  }

-- the program was read, and then its sources
module _ (path : List ℕ) (catalogue : Option (List ℕ)) (ks : List DriverKind) (f f' f'' : FilesState) (text : List ℕ) (reads : ReadsWhole path most_bytes (Ok (whole.Bytes text)) f f') where
  told_still : (told : List ℕ → Option (List ℕ)) → f.told ≡ Some told → f'.told ≡ Some told
  told_still told is = reads.told ∙ is

  pub inputs_read : (ss : Vec Source Global) → ReadsSources catalogue ks (Ok ss) f' f'' → ReadsInputs (Files path catalogue) ks (Ok (record { text = text; sources = ss.items })) f f''
  inputs_read ss found = record {
    left = found.left ∙ reads.left;
    told = found.told ∙ reads.told;
    few = reads.within;
    placed = found.placed;
    inputs = λ told is. record {
      at = file_at fault.ProgramBytes (λ text. IsSourcesFault told ks catalogue) path f f' told is text reads;
      few = reads.within;
      sources = found.sources told (told_still told is);
    };
    refused = λ told is. tt;
    no_other = tt;
    read = λ none. tt;
    well = found.well ∙ reads.counts;
    unfailed = tt;
  }

  pub inputs_refused : (g : Fault) → ReadsSources catalogue ks (Err g) f' f'' → ReadsInputs (Files path catalogue) ks (Err g) f f''
  inputs_refused g found = record {
    left = found.left ∙ reads.left;
    told = found.told ∙ reads.told;
    few = tt;
    placed = tt;
    inputs = λ told is. tt;
    refused = λ told is. elim (found.refused told (told_still told is)) [
      | inl none ↦ inl none
      | inr (inl failed) ↦ inr (inl (failed.0, rose_after f.faults f'.faults f''.faults reads.later failed.1))
      | inr (inr wrong) ↦ inr (inr (file_wrong fault.ProgramBytes (λ text. IsSourcesFault told ks catalogue) path f f' told is text g reads wrong))
    ];
    no_other = sources_end g found.no_other;
    well = tt;
    unfailed = λ other. found.unfailed other ∙ reads.counts;
    read = λ none is. rose_after f.faults f'.faults f''.faults reads.later (found.read (reads.told ∙ none) is);
  }

-- ---- made rows

-- the catalogue over made rows was refused
pub made_refused : (seed size : ℕ) (ks : List DriverKind) (f : FilesState) (catalogue : List ℕ) (g : Fault) → catalogue ≡ catalogue_text seed size
    → PlacesCatalogue ks catalogue (Err g) → ReadsInputs (Made seed size) ks (Err g) f f
made_refused seed size ks f catalogue g same found = record {
  left = refl;
  told = refl;
  few = tt;
  placed = tt;
  inputs = λ told is. tt;
  refused = λ told is. elim found.refused [ inl none ↦ inl none | inr wrong ↦ inr (inr (subst (λ bs. IsCatalogueFault ks bs g) same wrong)) ];
  no_other = found.no_other;
  read = λ none is. absurd (subst IsCatalogueEnd is found.no_other);
  well = tt;
  unfailed = λ other. refl;
}
