-- What is found of a program and its catalogue.
use Rattle.std.proofs.Common.{◌≡◌, ◌≤◌, inl, inr, ℕ, List, [], length, Some, None, Result, Ok, Err, Vec, sym, ap, subst, ◌∙◌}
use Rattle.std.specs.List.{IsDistinct}
use Rattle.std.specs.declared.alloc.Global.{Global}
use Rattle.kl_ask.specs.Driver.{DriverKind, State}
use Rattle.kl_base.proofs.Rises.{rose_after}
use Rattle.kl_outside.specs.Files.{FilesState, ReadsWhole}
use Rattle.kl_outside.specs.declared.files.Whole.TheVariants.{Bytes, TooLong}
use Rattle.kl_sources.specs.Sources.{ArePlaced, kinds_of}
use Rattle.kl_sources.specs.declared.source.Source.{Source}
use Rattle.kl_why.specs.Catalogues.{IsWrongCatalogue}
use Rattle.kl_why.specs.Explaining.{AreSources, Finds, FindsAt, FindsSources, IsLong, IsUnread, SourcesIn}
use Rattle.kl_why.specs.Finding.{FindsIn}
use Rattle.kl_why.specs.Refused.{AreBytes, Told}
use Rattle.kl_why.specs.Whys.{Found}
use Rattle.kl_why.specs.declared.why.Why.{Why}
use Rattle.kl_why.specs.declared.why.Why.TheVariants as why
use Rattle.kl_why.specs.declared.words.Paths.{Paths}

pub bytes_there : (path text : List ℕ) (most : ℕ) (old new : FilesState) → ReadsWhole path most (Ok (Bytes text)) old new → AreBytes old.told path text
bytes_there path text most old new reads = λ files held told at. (reads.whole held (files, told, at)).0

pub text_there : (path text : List ℕ) (old new : FilesState) → ReadsWhole path 65536 (Ok (Bytes text)) old new → AreBytes old.told path text × (length text ≤ 65536)
text_there path text old new reads = (λ files held told at. (reads.whole held (files, told, at)).0, reads.within)

pub long_there : (path : List ℕ) (old new : FilesState) → ReadsWhole path 65536 (Ok TooLong) old new → IsLong old.told path
long_there path old new reads = λ files held told at. reads.whole held (files, told, at)

unread_after : (path : List ℕ) (old mid new : FilesState) → mid.told ≡ old.told → old.faults ≤ mid.faults → IsUnread path mid new → IsUnread path old new
unread_after path old mid new told later (inl (files, is, none)) = inl (files, sym told ∙ is, none)
unread_after path old mid new told later (inr rose) = inr (rose_after old.faults mid.faults new.faults later rose)

-- the catalogue is wrong
pub sources_wrong : (old files files' : FilesState) (ds ds' : List State) (paths : Paths) (w : Why) → files.told ≡ old.told → old.faults ≤ files.faults
    → FindsSources files files' (kinds_of ds) paths.catalogue (Err w) → Finds old files' ds ds' paths (Err w)
sources_wrong old files files' ds ds' paths (why.Unread it) told later (is, unread) = (inr is, unread_after it old files files' told later unread)
sources_wrong old files files' ds ds' paths (why.TooLong it) told later (is, long) = (inr is, subst (λ t. IsLong t it) told long)
sources_wrong old files files' ds ds' paths (why.Catalogue w s) told later (is, bytes, wrong) = (is, subst (λ t. AreBytes t s.path s.bytes) told bytes, wrong)
sources_wrong old files files' ds ds' paths why.NoMemory told later reads = tt
sources_wrong old files files' ds ds' paths (why.Program w s) told later reads = absurd reads
sources_wrong old files files' ds ds' paths (why.Untyped r s) told later reads = absurd reads
sources_wrong old files files' ds ds' paths (why.Source n u s) told later reads = absurd reads
sources_wrong old files files' ds ds' paths (why.SourceAt n u p) told later reads = absurd reads
sources_wrong old files files' ds ds' paths (why.SourceUnread n p) told later reads = absurd reads
sources_wrong old files files' ds ds' paths (why.SourceLong n m) told later reads = absurd reads

module _ (old files' : FilesState) (ds ds' : List State) (paths : Paths) where
  found_at : (found : Found) → FindsAt old ds ds' paths found → Finds old files' ds ds' paths found
  found_at (Ok done) at = at
  found_at (Err (why.Program w s)) at = at
  found_at (Err (why.Untyped r s)) at = at
  found_at (Err (why.Source n u s)) at = at
  found_at (Err (why.SourceAt n u p)) at = at
  found_at (Err (why.SourceUnread n p)) at = at
  found_at (Err (why.SourceLong n m)) at = at
  found_at (Err why.NoMemory) at = tt
  found_at (Err (why.Unread it)) (bytes, ss, are, sources, finds) = absurd finds
  found_at (Err (why.TooLong it)) (bytes, ss, are, sources, finds) = absurd finds
  found_at (Err (why.Catalogue w s)) (bytes, ss, are, sources, finds) = absurd finds

  -- both are well, and this is found of the program's text
  pub found_in : (mid last : FilesState) (bytes : List ℕ) (ss : List Source) (found : Found) → mid.told ≡ old.told → last.told ≡ mid.told → AreBytes old.told paths.program bytes
      → AreSources mid.told (kinds_of ds) paths.catalogue ss → FindsIn last.told ds ds' paths.program bytes ss found → Finds old files' ds ds' paths found
  found_in mid last bytes ss found told again are sources finds =
      found_at found (bytes, ss, are, subst (λ t. AreSources t (kinds_of ds) paths.catalogue ss) told sources, subst (λ t. FindsIn t ds ds' paths.program bytes ss found) (again ∙ told) finds)

-- ---- the catalogue

pub no_sources : (told : Told) (ks : List DriverKind) (ss : List Source) → ss ≡ [] → AreSources told ks None ss × ArePlaced ks ss
unfolding IsDistinct
no_sources told ks ss none = (none, subst (ArePlaced ks) (sym none) (record { suited = tt; fit = tt; proper = tt; differ = tt }))

-- the text of the catalogue was read
pub sources_found : (files files' : FilesState) (ks : List DriverKind) (path bytes : List ℕ) (result : Result (Vec Source Global) Why) → AreBytes files.told path bytes
    → SourcesIn path bytes ks result → FindsSources files files' ks (Some path) result
sources_found files files' ks path bytes (Ok ss) are (entries, is) = ((bytes, entries, are, is), is.placed)
sources_found files files' ks path bytes (Err (why.Catalogue w s)) are (at, same, wrong) = (
  ap Some (sym at),
  subst (λ p. AreBytes files.told p s.bytes) (sym at) (subst (AreBytes files.told path) (sym same) are),
  subst (λ b. IsWrongCatalogue ks b w s.byte) (sym same) wrong,
)
sources_found files files' ks path bytes (Err why.NoMemory) are reads = tt
sources_found files files' ks path bytes (Err (why.Unread it)) are reads = absurd reads
sources_found files files' ks path bytes (Err (why.TooLong it)) are reads = absurd reads
sources_found files files' ks path bytes (Err (why.Program w s)) are reads = absurd reads
sources_found files files' ks path bytes (Err (why.Untyped r s)) are reads = absurd reads
sources_found files files' ks path bytes (Err (why.Source n u s)) are reads = absurd reads
sources_found files files' ks path bytes (Err (why.SourceAt n u p)) are reads = absurd reads
sources_found files files' ks path bytes (Err (why.SourceUnread n p)) are reads = absurd reads
sources_found files files' ks path bytes (Err (why.SourceLong n m)) are reads = absurd reads
