-- What is done with a program, by what is done with its text.
use Rattle.std.proofs.Common.{◌≡◌, ◌⊎◌, inl, inr, ℕ, List, [], Option, Some, None, Ok, Err, refl, sym, ◌∙◌, ap, subst, arith}
use Rattle.std.specs.Prelude.{⊤}
use Rattle.std.specs.Io.KnownBytes.{append_known}
use Rattle.kl_outside.specs.Counts.{Rose}
use Rattle.kl_outside.specs.Files.{FilesState}
use Rattle.kl_outside.specs.Sinks.{SinkState}
use Rattle.kl_outside.proofs.SinkLemmas.{took_none, append_known-nil}
use Rattle.kl_outcome.specs.Outcome.{Name}
use Rattle.kl_ask.specs.Driver.{DriverKind, State}
use Rattle.kl_sources.specs.declared.source.Source.{Source}
use Rattle.kl_sources.specs.Sources.{kinds_of}
use Rattle.kl_engine.specs.Answering.{SomeRose, one, IsOutside, reading, writing, drifting, wanting, FollowsVerdict, DoesText, Does, IsDetermined, IsOneOf, HasTextFault, HasFault, IsMentionedIn, IsMentioned, EndsSilent, IsRun, IsUnreadFault, IsUnreadBy, SomeDrifted, OfRun, LacksFile, IsStoredFault, IsOfList}
use Rattle.kl_engine.specs.Commands.{Origin, Files, Made, Program, TellTo}
use Rattle.kl_engine.specs.Faults.{Ending}
use Rattle.kl_engine.specs.Outside.{Outside, outside_of}
use Rattle.kl_engine.specs.Inputs.{IsCatalogueEnd, IsFilesEnd, IsInputsEnd, ReadsInputs}
use Rattle.kl_engine.specs.Planned.{LacksInput}
use Rattle.kl_engine.specs.Verdict.{Verdict, refused, HasInputs, IsTextVerdict, IsInputsFault, IsProgramVerdict}
use Rattle.kl_engine.specs.declared.fault.Fault.{Fault}
use Rattle.kl_engine.specs.declared.fault.Fault.TheVariants as fault
use Rattle.kl_engine.specs.declared.inputs.Inputs.{Inputs}
use Rattle.kl_engine.specs.declared.top.Purpose.{Purpose}
use Rattle.kl_engine.specs.declared.top.Purpose.TheVariants as purpose
use Rattle.kl_engine.proofs.SilentLemmas.{unprinted_where}
use Rattle.kl_engine.proofs.DriverLemmas.{keeps_same, keeps_wider}
use Rattle.kl_engine.proofs.FairLemmas.{IsOfVerdict, fair_text}
use Rattle.kl_engine.proofs.InputLemmas.{inputs_one, inputs_well, inputs_fault_one, inputs_verdict}
use Rattle.kl_engine.proofs.UnreadLemmas.{unread_cases}

-- files of which nothing is told, for what is so of any
pub no_files : FilesState
no_files = record { told = None; left = λ k. None; log = None; faults = 0 }

-- what is done with a text is done with the same text
pub does_same : (ss us : List Source) (p : Purpose) (text other : List ℕ) (end : Ending) (o o' : Outside) → us ≡ ss → other ≡ text → DoesText us p other end o o' → DoesText ss p text end o o'
does_same ss us p text other end o o' same also does = subst (λ xs. DoesText xs p text end o o') same (subst (λ bs. DoesText us p bs end o o') also does)

-- a fault of the outside, where the files had been read before
module _ (f f' : FilesState) (v : Verdict) (end : Ending) (ds ds' : List State) (out out' : SinkState) where
  outside_also : IsOutside v end (outside_of f' ds out) (outside_of f' ds' out') → IsOutside v end (outside_of f ds out) (outside_of f' ds' out')
  outside_also (reading is (inl failed)) = reading is (inl (omega (arith, failed)))
  outside_also (reading is (inr rose)) = reading is (inr rose)
  outside_also (writing is rose page) = writing is rose page
  outside_also (drifting name is rose) = drifting name is rose
  outside_also (wanting is) = wanting is

  follows_also : FollowsVerdict v end (outside_of f' ds out) (outside_of f' ds' out') → FollowsVerdict v end (outside_of f ds out) (outside_of f' ds' out')
  follows_also follows = record {
    ends = elim follows.ends [ inl h ↦ inl h | inr h ↦ inr (outside_also h) ];
    whole = follows.whole;
    part = follows.part;
  }

-- A text's fault is a program's.
of_program : (p : Purpose) (from : Origin) (end : Ending) → IsOneOf (HasTextFault p) end → IsOneOf (HasFault (Program p from)) end
of_program p from None has = tt
of_program p from (Some fault.Usage) has = has
of_program p from (Some (fault.Text w byte)) has = has
of_program p from (Some (fault.IllTyped decl)) has = has
of_program p from (Some (fault.Catalogue byte)) has = tt
of_program p from (Some (fault.NameTwice name)) has = tt
of_program p from (Some (fault.NoDriver name)) has = tt
of_program p from (Some (fault.Unsuited name)) has = tt
of_program p from (Some (fault.BadFile place)) has = has
of_program p from (Some (fault.NoType byte)) has = has
of_program p from (Some (fault.BadSource name place)) has = has
of_program p from (Some fault.Overflow) has = has
of_program p from (Some fault.Read) has = tt
of_program p from (Some fault.Write) has = has
of_program p from (Some fault.NoMemory) has = has
of_program p from (Some (fault.Changed name)) has = has
of_program p from (Some fault.ProgramBytes) has = absurd has
of_program p from (Some fault.CatalogueBytes) has = absurd has
of_program p from (Some fault.FileBytes) has = has
of_program p from (Some fault.Nesting) has = has
of_program p from (Some fault.ItemNesting) has = has
of_program p from (Some fault.TermNodes) has = has
of_program p from (Some fault.TermDepth) has = has
of_program p from (Some fault.SchemeBytes) has = has

none_misuses : (p : Purpose) (end : Ending) → IsOneOf (HasTextFault p) end → end ≡ Some fault.Usage → ⊥
none_misuses p end has is = subst (IsOneOf (HasTextFault p)) is has

-- what holds of the inputs of a run
of_run : (p : Purpose) (from : Origin) (f : FilesState) (ks : List DriverKind) (P : List ℕ → List Source → Type 0) → IsRun p → (text : List ℕ) (ss : List Source) → ((told : _) → TellTo from f told → HasInputs told ks from text ss) → P text ss → OfRun (Program p from) f ks P
of_run (purpose.Run first) from f ks P is text ss inputs holds = (text, ss, inputs, holds)
of_run purpose.Check from f ks P is text ss inputs holds = absurd is
of_run purpose.Types from f ks P is text ss inputs holds = absurd is
of_run (purpose.Explain settings) from f ks P is text ss inputs holds = absurd is

unread_run : (p : Purpose) (f : Fault) → IsUnreadFault f → HasTextFault p f → IsRun p
unread_run p (fault.BadSource name place) is has = has
unread_run p fault.FileBytes is has = has
unread_run p fault.ItemNesting is has = has
unread_run p fault.Usage is has = absurd is
unread_run p (fault.Text w byte) is has = absurd is
unread_run p (fault.IllTyped decl) is has = absurd is
unread_run p (fault.Catalogue byte) is has = absurd is
unread_run p (fault.NameTwice name) is has = absurd is
unread_run p (fault.NoDriver name) is has = absurd is
unread_run p (fault.Unsuited name) is has = absurd is
unread_run p (fault.BadFile place) is has = absurd is
unread_run p (fault.NoType byte) is has = absurd is
unread_run p fault.Overflow is has = absurd is
unread_run p fault.Read is has = absurd is
unread_run p fault.Write is has = absurd is
unread_run p fault.NoMemory is has = absurd is
unread_run p (fault.Changed name) is has = absurd is
unread_run p fault.ProgramBytes is has = absurd is
unread_run p fault.CatalogueBytes is has = absurd is
unread_run p fault.Nesting is has = absurd is
unread_run p fault.TermNodes is has = absurd is
unread_run p fault.TermDepth is has = absurd is
unread_run p fault.SchemeBytes is has = absurd is

-- a fault of the files, and one of a catalogue, is a program's
files_has : (p : Purpose) (path : List ℕ) (catalogue : Option (List ℕ)) (f : Fault) → IsFilesEnd f → HasFault (Program p (Files path catalogue)) f
files_has p path catalogue fault.Usage has = has
files_has p path catalogue (fault.Text w byte) has = absurd has
files_has p path catalogue (fault.IllTyped decl) has = absurd has
files_has p path catalogue (fault.Catalogue byte) has = tt
files_has p path catalogue (fault.NameTwice name) has = tt
files_has p path catalogue (fault.NoDriver name) has = tt
files_has p path catalogue (fault.Unsuited name) has = tt
files_has p path catalogue (fault.BadFile place) has = has
files_has p path catalogue (fault.NoType byte) has = has
files_has p path catalogue (fault.BadSource name place) has = absurd has
files_has p path catalogue fault.Overflow has = absurd has
files_has p path catalogue fault.Read has = tt
files_has p path catalogue fault.Write has = tt
files_has p path catalogue fault.NoMemory has = tt
files_has p path catalogue (fault.Changed name) has = absurd has
files_has p path catalogue fault.ProgramBytes has = tt
files_has p path catalogue fault.CatalogueBytes has = tt
files_has p path catalogue fault.FileBytes has = absurd has
files_has p path catalogue fault.Nesting has = tt
files_has p path catalogue fault.ItemNesting has = absurd has
files_has p path catalogue fault.TermNodes has = absurd has
files_has p path catalogue fault.TermDepth has = absurd has
files_has p path catalogue fault.SchemeBytes has = absurd has

made_has : (p : Purpose) (seed size : ℕ) (f : Fault) → IsCatalogueEnd f → HasFault (Program p (Made seed size)) f
made_has p seed size fault.Usage has = has
made_has p seed size (fault.Text w byte) has = absurd has
made_has p seed size (fault.IllTyped decl) has = absurd has
made_has p seed size (fault.Catalogue byte) has = tt
made_has p seed size (fault.NameTwice name) has = tt
made_has p seed size (fault.NoDriver name) has = tt
made_has p seed size (fault.Unsuited name) has = tt
made_has p seed size (fault.BadFile place) has = has
made_has p seed size (fault.NoType byte) has = has
made_has p seed size (fault.BadSource name place) has = absurd has
made_has p seed size fault.Overflow has = absurd has
made_has p seed size fault.Read has = tt
made_has p seed size fault.Write has = tt
made_has p seed size fault.NoMemory has = tt
made_has p seed size (fault.Changed name) has = absurd has
made_has p seed size fault.ProgramBytes has = absurd has
made_has p seed size fault.CatalogueBytes has = absurd has
made_has p seed size fault.FileBytes has = absurd has
made_has p seed size fault.Nesting has = tt
made_has p seed size fault.ItemNesting has = absurd has
made_has p seed size fault.TermNodes has = absurd has
made_has p seed size fault.TermDepth has = absurd has
made_has p seed size fault.SchemeBytes has = absurd has

catalogue_own : (f : Fault) → IsCatalogueEnd f → IsFilesEnd f
catalogue_own fault.NoMemory has = tt
catalogue_own (fault.Catalogue byte) has = tt
catalogue_own fault.Nesting has = tt
catalogue_own (fault.NameTwice name) has = tt
catalogue_own (fault.NoDriver name) has = tt
catalogue_own (fault.Unsuited name) has = tt
catalogue_own fault.Usage has = absurd has
catalogue_own (fault.Text w byte) has = absurd has
catalogue_own (fault.IllTyped decl) has = absurd has
catalogue_own (fault.BadFile place) has = absurd has
catalogue_own (fault.NoType byte) has = absurd has
catalogue_own (fault.BadSource name place) has = absurd has
catalogue_own fault.Overflow has = absurd has
catalogue_own fault.Read has = absurd has
catalogue_own fault.Write has = absurd has
catalogue_own (fault.Changed name) has = absurd has
catalogue_own fault.ProgramBytes has = absurd has
catalogue_own fault.CatalogueBytes has = absurd has
catalogue_own fault.FileBytes has = absurd has
catalogue_own fault.ItemNesting has = absurd has
catalogue_own fault.TermNodes has = absurd has
catalogue_own fault.TermDepth has = absurd has
catalogue_own fault.SchemeBytes has = absurd has

inputs_has : (p : Purpose) (from : Origin) (f : Fault) → IsInputsEnd from f → HasFault (Program p from) f
inputs_has p (Files path catalogue) f has = files_has p path catalogue f has
inputs_has p (Made seed size) f has = made_has p seed size f has

inputs_own : (from : Origin) (f : Fault) → IsInputsEnd from f → IsFilesEnd f
inputs_own (Files path catalogue) f has = has
inputs_own (Made seed size) f has = catalogue_own f has

-- files that tell bytes tell them to each command
tells : (from : Origin) (f : FilesState) (told : List ℕ → Option (List ℕ)) → f.told ≡ Some told → TellTo from f told
tells (Files path catalogue) f told is = is
tells (Made seed size) f told is = tt

module _ (p : Purpose) (from : Origin) (f f' : FilesState) where
  pub program_does : (i : Inputs) (end : Ending) (ds ds' : List State) (out out' : SinkState) → ReadsInputs from (kinds_of ds) (Ok i) f f' → DoesText i.sources p i.text end (outside_of f' ds out) (outside_of f' ds' out') → Does (Program p from) end (outside_of f ds out) (outside_of f' ds' out')
  program_does i end ds ds' out out' reads does = record {
    told = λ told is v of. elim of [
      | inl h ↦ absurd (inputs_well told (kinds_of ds) from i.text i.sources h.0 (reads.inputs told is) h.1)
      | inr h ↦
          let same = inputs_one told (kinds_of ds) from h.0 i.text h.1 i.sources h.2 (reads.inputs told is) in
          let found = does.told v (subst (λ ss. IsTextVerdict (kinds_of ds) ss p i.text v) same.1 (subst (λ text. IsTextVerdict (kinds_of ds) h.1 p text v) same.0 h.3)) in
          (found.0, inr (i.text, i.sources, reads.inputs told is, found.1), found.2, follows_also f f' found.0 end ds ds' out out' found.3)
    ];
    meant = λ told is well needs. let found = does.meant well (λ need. needs need i.text i.sources (reads.inputs told is)) in (found.0, inr (i.text, i.sources, reads.inputs told is, found.1), found.2);
    caused = record {
      usage = λ is. absurd (none_misuses p end does.no_other is);
      no_usage = λ is. absurd cc;
      read = λ is. elim (does.read is) [
        | inl h ↦ inr (inl (of_run p from f (kinds_of ds) (λ text ss. IsStoredFault (kinds_of ds) ss (IsMentionedIn ss text) fault.Read) (subst (IsOneOf (HasTextFault p)) is does.no_other) i.text i.sources reads.inputs h))
        | inr h ↦ inr (inr (inr h))
      ];
      write = does.write;
      changed = λ name is. of_run p from f (kinds_of ds) (λ text ss. SomeDrifted ss (λ x. IsMentionedIn ss text x × (x ≡ name)) ds ds') (subst (IsOneOf (HasTextFault p)) is does.no_other) i.text i.sources reads.inputs (does.changed name is);
      no_other = of_program p from end does.no_other;
      unfailed = λ other. reads.well;
      nothing = λ silent. does.nothing (unprinted_where (IsOfList i.sources i.text) (OfRun (Program p from) f (kinds_of ds) (λ text ss. IsOfList ss text)) end
          (λ is lists. of_run p from f (kinds_of ds) (λ text ss. IsOfList ss text) (subst (IsOneOf (HasTextFault p)) is does.no_other) i.text i.sources reads.inputs lists)
          (λ name is lists. of_run p from f (kinds_of ds) (λ text ss. IsOfList ss text) (subst (IsOneOf (HasTextFault p)) is does.no_other) i.text i.sources reads.inputs lists) silent);
    };
    unread = λ g is un. of_run p from f (kinds_of ds) (λ text ss. IsUnreadBy ss (IsMentionedIn ss text) g ds ds') (unread_run p g un (subst (IsOneOf (HasTextFault p)) is does.no_other)) i.text i.sources reads.inputs (does.unread g is un);
    closed = record {
      left = reads.left;
      told = reads.told;
      drivers = keeps_wider (IsMentionedIn i.sources i.text) (λ name. ⊤) ds ds' (λ name is. tt) does.drivers;
      still = does.still;
      mentioned = λ told is. keeps_wider (IsMentionedIn i.sources i.text) (IsMentioned told (kinds_of ds) (Program p from)) ds ds' (λ name mentioned. (i.text, i.sources, reads.inputs told is, mentioned)) does.drivers;
    };
  }

  -- one of them is missing, or was not read
  pub read_missing : (g : Fault) (ks : List DriverKind) → ReadsInputs from ks (Err g) f f' → g ≡ fault.Read → LacksInput (Program p from) f ks ⊎ Rose f.faults f'.faults
  read_missing g ks reads is = pick f.told refl
    where
      pick : (found : Option (List ℕ → Option (List ℕ))) → f.told ≡ found → LacksInput (Program p from) f ks ⊎ Rose f.faults f'.faults
      pick None at = inr (reads.read at is)
      pick (Some told) at = elim (reads.refused told (tells from f told at)) [
        | inl none ↦ absurd (let two : fault.Read ≡ fault.NoMemory = sym is ∙ none in cc)
        | inr (inl failed) ↦ inr failed.1
        | inr (inr wrong) ↦ inl (told, at, subst (IsInputsFault told ks from) is wrong)
      ]

  -- The files were refused: nothing was printed, and no driver was asked.
  module _ (g : Fault) (ds : List State) (out : SinkState) (reads : ReadsInputs from (kinds_of ds) (Err g) f f') where
    not_usage : g ≡ fault.Usage → ⊥
    not_usage is = subst IsFilesEnd is (inputs_own from g reads.no_other)

    not_write : g ≡ fault.Write → ⊥
    not_write is = subst IsFilesEnd is (inputs_own from g reads.no_other)

    not_changed : (name : Name) → g ≡ fault.Changed name → ⊥
    not_changed name is = subst IsFilesEnd is (inputs_own from g reads.no_other)

    not_unread : (h : Fault) → g ≡ h → IsUnreadFault h → ⊥
    not_unread h is un = unread_cases (λ k. IsFilesEnd k → ⊥) (λ name place e. e) (λ e. e) (λ e. e) h un (subst IsFilesEnd is (inputs_own from g reads.no_other))

    -- nothing is printed of a verdict that ends as this
    follows_none : (v : Verdict) → (v.ending ≡ Some g → v.page ≡ []) → (Some g ≡ v.ending) ⊎ IsOutside v (Some g) (outside_of f ds out) (outside_of f' ds out) → FollowsVerdict v (Some g) (outside_of f ds out) (outside_of f' ds out)
    follows_none v empty ends = record {
      ends = ends;
      whole = λ is. sym (ap (append_known out.taken) (empty (sym is)) ∙ append_known-nil out.taken);
      part = took_none v.page out out refl;
    }

    told_refused : (told : List ℕ → Option (List ℕ)) → TellTo from f told → (v : Verdict) → IsProgramVerdict told (kinds_of ds) p from v → FollowsVerdict v (Some g) (outside_of f ds out) (outside_of f' ds out)
    told_refused told is v of = elim (reads.refused told is) [
      | inl none ↦ follows_none v (λ same. absurd (of_verdict v told of (same ∙ ap Some none))) (inr (wanting (ap Some none)))
      | inr (inl failed) ↦ follows_none v (λ same. read_empty v told of (same ∙ ap Some failed.0)) (inr (reading (ap Some failed.0) (inl failed.1)))
      | inr (inr wrong) ↦ elim of [
        | inl h ↦
            let same : v ≡ refused g = h.2 ∙ ap refused (inputs_fault_one told (kinds_of ds) from h.0 g h.1 wrong) in
            follows_none v (λ ends. ap (λ w. w.page) same) (inl (sym (ap (λ w. w.ending) same)))
        | inr h ↦ absurd (inputs_well told (kinds_of ds) from h.0 h.1 g h.2 wrong)
      ]
    ]
      where
        of_verdict : (v : Verdict) (told : List ℕ → Option (List ℕ)) → IsProgramVerdict told (kinds_of ds) p from v → v.ending ≡ Some fault.NoMemory → ⊥
        of_verdict v told (inl h) same = inputs_verdict told (kinds_of ds) from h.0 h.1 (let both : Some h.0 ≡ Some fault.NoMemory = ap (λ w. w.ending) (sym h.2) ∙ same in cc)
        of_verdict v told (inr h) same = subst IsOfVerdict same (fair_text (kinds_of ds) h.1 p h.0 v h.3).told

        read_empty : (v : Verdict) (told : List ℕ → Option (List ℕ)) → IsProgramVerdict told (kinds_of ds) p from v → v.ending ≡ Some fault.Read → v.page ≡ []
        read_empty v told (inl h) same = ap (λ w. w.page) h.2
        read_empty v told (inr h) same = (fair_text (kinds_of ds) h.1 p h.0 v h.3).empty (subst EndsSilent (sym same) tt)

    abbrev ReadCause : Type 0
    ReadCause = LacksFile (Program p from) f (kinds_of ds) ⊎ OfRun (Program p from) f (kinds_of ds) (λ text ss. IsStoredFault (kinds_of ds) ss (IsMentionedIn ss text) fault.Read) ⊎ Rose f.faults f'.faults ⊎ SomeRose (λ d. d.faults) ds ds

    pub program_refused : Does (Program p from) (Some g) (outside_of f ds out) (outside_of f' ds out)
    program_refused = record {
      told = λ told is v of. (v, of, one refl, told_refused told is v of);
      meant = λ told is well needs. elim (reads.refused told is) [
        | inl none ↦ absurd (subst (λ h. IsDetermined (Some h)) none well)
        | inr (inl failed) ↦ absurd (subst (λ h. IsDetermined (Some h)) failed.0 well)
        | inr (inr wrong) ↦ (refused g, inl (g, wrong, refl), refl)
      ];
      caused = record {
        usage = λ is. absurd (not_usage (some_one is));
        no_usage = λ is. absurd cc;
        read = λ is. read_cause (some_one is);
        write = λ is. absurd (not_write (some_one is));
        changed = λ name is. absurd (not_changed name (some_one is));
        no_other = inputs_has p from g reads.no_other;
        unfailed = λ other. reads.unfailed (λ is. other (ap Some is));
        nothing = λ is. refl;
      };
      unread = λ h is un. absurd (not_unread h (some_one is) un);
      closed = record {
        left = reads.left;
        told = reads.told;
        drivers = keeps_same (λ name. ⊤) ds;
        still = λ is. refl;
        mentioned = λ told is. keeps_same (IsMentioned told (kinds_of ds) (Program p from)) ds;
      };
    }
      where
        some_one : {x y : Fault} → Some x ≡ Some y → x ≡ y
        some_one is = cc

        read_cause : g ≡ fault.Read → ReadCause
        read_cause is = elim (read_missing g (kinds_of ds) reads is) [ inl lacks ↦ inl (lacks.0, lacks.1, inl (fault.Read, lacks.2, refl)) | inr rose ↦ inr (inr (inl rose)) ]
