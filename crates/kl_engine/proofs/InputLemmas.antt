-- The files of a command are one text and one list of sources, or go wrong in one way.
use Rattle.std.proofs.Common.{◌≡◌, inl, inr, ℕ, ◌≤◌, List, [], length, Option, Some, None, Result, Ok, Err, sym, ap, subst, ◌∙◌, arith}
use Rattle.kl_ask.specs.Driver.{DriverKind}
use Rattle.kl_catalogue.proofs.OneCatalogue.{one_catalogue, bad_none, deep_none, one_bad, bad_or_deep}
use Rattle.kl_sources.specs.Sources.{sources_of}
use Rattle.kl_sources.proofs.Reasons.{IsReason, sources_reason}
use Rattle.kl_sources.specs.declared.source.Source.{Source}
use Rattle.kl_sources.specs.declared.placing.PlaceError.{PlaceError}
use Rattle.kl_sources.specs.declared.placing.PlaceError.TheVariants as place
use Rattle.kl_engine.specs.Catalogues.{place_fault, IsCatalogueFault, IsCatalogueOf}
use Rattle.kl_tools.specs.Texts.{catalogue_text}
use Rattle.kl_engine.specs.Commands.{Origin, Files, Made}
use Rattle.kl_engine.specs.Verdict.{most_bytes, IsFileFault, IsSourcesFault, HasSources, IsFilesFault, HasFiles, IsInputsFault, HasInputs}
use Rattle.kl_engine.specs.declared.fault.Fault.{Fault}
use Rattle.kl_engine.specs.declared.fault.Fault.TheVariants as fault

-- ---- catalogues

same_err : (e d : PlaceError) (ss : Result (List Source) PlaceError) → ss ≡ Err e → ss ≡ Err d → e ≡ d
same_err e d ss this that = let both : Path (Result (List Source) PlaceError) (Err e) (Err d) = sym this ∙ that in cc

pub catalogue_well : (ks : List DriverKind) (bytes : List ℕ) (ss : List Source) (f : Fault) → IsCatalogueOf ks bytes ss → IsCatalogueFault ks bytes f → ⊥
catalogue_well ks bytes ss f (es, reads, is) (inl (byte, refused, eq)) = bad_none bytes es byte reads refused
catalogue_well ks bytes ss f (es, reads, is) (inr (inl (byte, refused, eq))) = deep_none bytes es byte reads refused
catalogue_well ks bytes ss f (es, reads, is) (inr (inr (ds, e, again, wrong, eq))) =
    let same : es ≡ ds = one_catalogue bytes es ds reads again in
    let both : Path (Result (List Source) PlaceError) (Ok ss) (Err e) = sym is ∙ (ap (sources_of ks []) same ∙ wrong) in cc

pub catalogue_one : (ks : List DriverKind) (bytes : List ℕ) (ss ts : List Source) → IsCatalogueOf ks bytes ss → IsCatalogueOf ks bytes ts → ss ≡ ts
catalogue_one ks bytes ss ts (es, reads, is) (ds, again, it) =
    let same : es ≡ ds = one_catalogue bytes es ds reads again in
    let both : Path (Result (List Source) PlaceError) (Ok ss) (Ok ts) = sym is ∙ (ap (sources_of ks []) same ∙ it) in cc

pub catalogue_fault_one : (ks : List DriverKind) (bytes : List ℕ) (f g : Fault) → IsCatalogueFault ks bytes f → IsCatalogueFault ks bytes g → f ≡ g
catalogue_fault_one ks bytes f g (inl (b, this, is)) (inl (d, that, it)) = is ∙ (ap fault.Catalogue (one_bad bytes b d this that) ∙ sym it)
catalogue_fault_one ks bytes f g (inl (b, this, is)) (inr (inl (d, that, it))) = absurd (bad_or_deep bytes b d this that)
catalogue_fault_one ks bytes f g (inl (b, this, is)) (inr (inr (es, e, reads, wrong, it))) = absurd (bad_none bytes es b reads this)
catalogue_fault_one ks bytes f g (inr (inl (b, this, is))) (inl (d, that, it)) = absurd (bad_or_deep bytes d b that this)
catalogue_fault_one ks bytes f g (inr (inl (b, this, is))) (inr (inl (d, that, it))) = is ∙ sym it
catalogue_fault_one ks bytes f g (inr (inl (b, this, is))) (inr (inr (es, e, reads, wrong, it))) = absurd (deep_none bytes es b reads this)
catalogue_fault_one ks bytes f g (inr (inr (es, e, reads, wrong, is))) (inl (d, that, it)) = absurd (bad_none bytes es d reads that)
catalogue_fault_one ks bytes f g (inr (inr (es, e, reads, wrong, is))) (inr (inl (d, that, it))) = absurd (deep_none bytes es d reads that)
catalogue_fault_one ks bytes f g (inr (inr (es, e, reads, wrong, is))) (inr (inr (ds, d, again, also, it))) =
    let same : es ≡ ds = one_catalogue bytes es ds reads again in
    is ∙ (ap place_fault (same_err e d (sources_of ks [] ds) (ap (sources_of ks []) (sym same) ∙ wrong) also) ∙ sym it)

-- want of memory is none of them
reason_fault : (e : PlaceError) → IsReason (Err e) → place_fault e ≡ fault.NoMemory → ⊥
reason_fault (place.Twice name) reason is = absurd cc
reason_fault (place.NoDriver name) reason is = absurd cc
reason_fault (place.Unsuited name) reason is = absurd cc
reason_fault place.NoMemory reason is = reason

catalogue_verdict : (ks : List DriverKind) (bytes : List ℕ) (f : Fault) → IsCatalogueFault ks bytes f → f ≡ fault.NoMemory → ⊥
catalogue_verdict ks bytes f (inl (b, this, is)) wants = let both : fault.Catalogue b ≡ fault.NoMemory = sym is ∙ wants in absurd cc
catalogue_verdict ks bytes f (inr (inl (b, this, is))) wants = let both : fault.Nesting ≡ fault.NoMemory = sym is ∙ wants in absurd cc
catalogue_verdict ks bytes f (inr (inr (es, e, reads, wrong, is))) wants = reason_fault e (subst IsReason wrong (sources_reason ks [] es)) (sym is ∙ wants)

-- ---- files

module _ (long : Fault) (AreWrong : List ℕ → Fault → Type 0) where
  file_one : ((bytes : List ℕ) (f g : Fault) → AreWrong bytes f → AreWrong bytes g → f ≡ g) → (file : Option (List ℕ)) (f g : Fault) → IsFileFault long AreWrong file f → IsFileFault long AreWrong file g → f ≡ g
  file_one same None f g this that = this ∙ sym that
  file_one same (Some bytes) f g (inl (many, is)) (inl (also, it)) = is ∙ sym it
  file_one same (Some bytes) f g (inl (many, is)) (inr (few, it)) = absurd (omega (arith, many, few))
  file_one same (Some bytes) f g (inr (few, is)) (inl (many, it)) = absurd (omega (arith, many, few))
  file_one same (Some bytes) f g (inr (few, is)) (inr (also, it)) = same bytes f g is it

  file_verdict : (long ≡ fault.NoMemory → ⊥) → ((bytes : List ℕ) (f : Fault) → AreWrong bytes f → f ≡ fault.NoMemory → ⊥) → (file : Option (List ℕ)) (f : Fault) → IsFileFault long AreWrong file f → f ≡ fault.NoMemory → ⊥
  file_verdict none never None f this wants = let both : fault.Read ≡ fault.NoMemory = sym this ∙ wants in absurd cc
  file_verdict none never (Some bytes) f (inl (many, is)) wants = none (sym is ∙ wants)
  file_verdict none never (Some bytes) f (inr (few, is)) wants = never bytes f is wants

  -- a file of few bytes that are well
  file_well : (file : Option (List ℕ)) (bytes : List ℕ) (f : Fault) → file ≡ Some bytes → length bytes ≤ most_bytes → (AreWrong bytes f → ⊥) → IsFileFault long AreWrong file f → ⊥
  file_well None bytes f at few well is = let none : None ≡ Some bytes = at in absurd cc
  file_well (Some found) bytes f at few well (inl (many, is)) = let same : found ≡ bytes = let both = at in cc in let sizes = ap length same in omega (arith, many, few, sizes)
  file_well (Some found) bytes f at few well (inr (less, is)) = let same : found ≡ bytes = let both = at in cc in well (subst (λ bs. AreWrong bs f) same is)

module _ (told : List ℕ → Option (List ℕ)) (ks : List DriverKind) where
  sources_one : (catalogue : Option (List ℕ)) (ss ts : List Source) → HasSources told ks catalogue ss → HasSources told ks catalogue ts → ss ≡ ts
  sources_one None ss ts this that = this ∙ sym that
  sources_one (Some path) ss ts (bytes, at, few, is) (others, there, also, it) =
      let same : bytes ≡ others = let both : Some bytes ≡ Some others = sym at ∙ there in cc in
      catalogue_one ks others ss ts (subst (λ bs. IsCatalogueOf ks bs ss) same is) it

  sources_well : (catalogue : Option (List ℕ)) (ss : List Source) (f : Fault) → HasSources told ks catalogue ss → IsSourcesFault told ks catalogue f → ⊥
  sources_well None ss f this that = that
  sources_well (Some path) ss f (bytes, at, few, is) that = file_well fault.CatalogueBytes (IsCatalogueFault ks) (told path) bytes f at few (catalogue_well ks bytes ss f is) that

  sources_fault_one : (catalogue : Option (List ℕ)) (f g : Fault) → IsSourcesFault told ks catalogue f → IsSourcesFault told ks catalogue g → f ≡ g
  sources_fault_one None f g this that = absurd this
  sources_fault_one (Some path) f g this that = file_one fault.CatalogueBytes (IsCatalogueFault ks) (catalogue_fault_one ks) (told path) f g this that

  sources_verdict : (catalogue : Option (List ℕ)) (f : Fault) → IsSourcesFault told ks catalogue f → f ≡ fault.NoMemory → ⊥
  sources_verdict None f this wants = this
  sources_verdict (Some path) f this wants = file_verdict fault.CatalogueBytes (IsCatalogueFault ks) (λ is. absurd cc) (catalogue_verdict ks) (told path) f this wants

  module _ (path : List ℕ) (catalogue : Option (List ℕ)) where
    files_one : (text others : List ℕ) (ss ts : List Source) → HasFiles told ks path catalogue text ss → HasFiles told ks path catalogue others ts → (text ≡ others) × (ss ≡ ts)
    files_one text others ss ts this that =
        (let both : Some text ≡ Some others = sym this.at ∙ that.at in cc, sources_one catalogue ss ts this.sources that.sources)

    files_well : (text : List ℕ) (ss : List Source) (f : Fault) → HasFiles told ks path catalogue text ss → IsFilesFault told ks path catalogue f → ⊥
    files_well text ss f has wrong = file_well fault.ProgramBytes (λ bytes. IsSourcesFault told ks catalogue) (told path) text f has.at has.few (sources_well catalogue ss f has.sources) wrong

    files_fault_one : (f g : Fault) → IsFilesFault told ks path catalogue f → IsFilesFault told ks path catalogue g → f ≡ g
    files_fault_one f g this that = file_one fault.ProgramBytes (λ bytes. IsSourcesFault told ks catalogue) (λ bytes. sources_fault_one catalogue) (told path) f g this that

    files_verdict : (f : Fault) → IsFilesFault told ks path catalogue f → f ≡ fault.NoMemory → ⊥
    files_verdict f this wants = file_verdict fault.ProgramBytes (λ bytes. IsSourcesFault told ks catalogue) (λ is. absurd cc) (λ bytes. sources_verdict catalogue) (told path) f this wants

  -- ---- a program's text and its sources, wherever they come from

  pub inputs_one : (from : Origin) (text others : List ℕ) (ss ts : List Source) → HasInputs told ks from text ss → HasInputs told ks from others ts → (text ≡ others) × (ss ≡ ts)
  inputs_one (Files path catalogue) text others ss ts this that = files_one path catalogue text others ss ts this that
  inputs_one (Made seed size) text others ss ts this that = (this.0 ∙ sym that.0, catalogue_one ks (catalogue_text seed size) ss ts this.1 that.1)

  pub inputs_well : (from : Origin) (text : List ℕ) (ss : List Source) (f : Fault) → HasInputs told ks from text ss → IsInputsFault told ks from f → ⊥
  inputs_well (Files path catalogue) text ss f has wrong = files_well path catalogue text ss f has wrong
  inputs_well (Made seed size) text ss f has wrong = catalogue_well ks (catalogue_text seed size) ss f has.1 wrong

  pub inputs_fault_one : (from : Origin) (f g : Fault) → IsInputsFault told ks from f → IsInputsFault told ks from g → f ≡ g
  inputs_fault_one (Files path catalogue) f g this that = files_fault_one path catalogue f g this that
  inputs_fault_one (Made seed size) f g this that = catalogue_fault_one ks (catalogue_text seed size) f g this that

  pub inputs_verdict : (from : Origin) (f : Fault) → IsInputsFault told ks from f → f ≡ fault.NoMemory → ⊥
  inputs_verdict (Files path catalogue) f this wants = files_verdict path catalogue f this wants
  inputs_verdict (Made seed size) f this wants = catalogue_verdict ks (catalogue_text seed size) f this wants
