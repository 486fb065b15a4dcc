-- How a call ends that does what is asked for.
use Rattle.std.proofs.Common.{◌≡◌, ◌⊎◌, inl, inr, ℕ, ◌<◌, nat_lt, if◌then◌else◌, Bool, true, false, List, [], ◌∷◌, codes, length, Option, Some, None, Result, Ok, Err, refl, sym, ap, subst, ◌∙◌}
use Rattle.std.proofs.lemmas.Option.{slice_get_within}
use Rattle.std.specs.Prelude.{⊤}
use Rattle.std.specs.Io.KnownBytes.{append_known}
use Rattle.kl_outside.specs.Counts.{Rose}
use Rattle.kl_outside.specs.Files.{FilesState}
use Rattle.kl_outside.specs.Sinks.{SinkState}
use Rattle.kl_outside.proofs.SinkLemmas.{took_none, append_known-nil}
use Rattle.kl_type.specs.Ground.{Ground}
use Rattle.kl_outcome.specs.Outcome.{Name}
use Rattle.kl_syntax.specs.Syntax.{Exp, Decls}
use Rattle.kl_syntax.specs.View.{view, decls_of}
use Rattle.kl_syntax.specs.declared.tree.Program.{Program}
use Rattle.kl_scope.specs.Breaches.{Resolves, is_marked}
use Rattle.kl_scope.specs.Limits.{Tells}
use Rattle.kl_scope.specs.Sizes.{declared}
use Rattle.kl_scope.specs.declared.counting.SizeBreach.{SizeBreach}
use Rattle.kl_scope.specs.declared.scoped.Scoped.{Scoped}
use Rattle.kl_infer.specs.Numbers.{limit}
use Rattle.kl_infer.specs.Printed.{scheme_text}
use Rattle.kl_infer.specs.declared.Typed.{Typed}
use Rattle.kl_meaning.specs.Typing.{HasTyping}
use Rattle.kl_rows.specs.declared.Scheme.{Scheme}
use Rattle.kl_ask.specs.Driver.{State}
use Rattle.kl_ask.specs.declared.settings.Settings.{Settings}
use Rattle.kl_engine.specs.Explaining.{IsExplanation}
use Rattle.kl_sources.specs.Sources.{names_of, grounds_of}
use Rattle.kl_sources.specs.declared.source.Source.{Source}
use Rattle.kl_sources.specs.Sources.{kinds_of}
use Rattle.kl_engine.specs.Answering.{IsStoredFault, AreTold, IsUnreadBy, SomeDrifted, Varies, SameVerdict, one, IsOutside, reading, writing, drifting, wanting, FollowsVerdict, PrintsPage, DoesText, IsDetermined, IsOneOf, HasTextFault, IsUnreadFault, NeedsDrivers, IsMentionedIn, IsOfList, EndsSilent}
use Rattle.kl_engine.specs.Faults.{Ending}
use Rattle.kl_engine.specs.Outside.{outside_of}
use Rattle.kl_engine.specs.Reading.{IsProgramOf, definitions, last, ReadsText}
use Rattle.kl_engine.specs.Running.{CameTo, before, followed, untold, IsNamed, Matter, DoneBy, DoneWith, DoneMeaning, program_matter, run_matter}
use Rattle.kl_engine.specs.Typing.{breach_fault, IsTypingFault, IsTyped, AnswersTypes, TypesOfAny}
use Rattle.kl_engine.specs.Verdict.{Verdict, well, refused, size_fault, AfterSizes, IsSized, IsUntyped, named_schemes, behind, scheme_lines, GivesList, IsExplained, IsListing, IsMeant, IsScopedVerdict, AreMarks, IsTextVerdict, scheme_line}
use Rattle.kl_engine.specs.declared.fault.Fault.{Fault}
use Rattle.kl_engine.specs.declared.fault.Fault.TheVariants as fault
use Rattle.kl_engine.specs.declared.top.Purpose.{Purpose}
use Rattle.kl_engine.specs.declared.top.Purpose.TheVariants as purpose
use Rattle.kl_engine.proofs.AlikeLemmas.{text_alike, marks_one}
use Rattle.kl_engine.proofs.DriverLemmas.{keeps_same, keeps_wider}
use Rattle.kl_engine.proofs.FairLemmas.{Fair, IsOfVerdict, fair_done, fair_text}
use Rattle.kl_engine.proofs.PageLemmas.{prints_refused}
use Rattle.kl_engine.proofs.ReadLemmas.{any_fault, no_fault, one_program}
use Rattle.kl_engine.proofs.SilentLemmas.{silent_of, unprinted_on}
use Rattle.kl_engine.proofs.SizeLemmas.{told_size, sized_faults}
use Rattle.kl_engine.proofs.UnreadLemmas.{unread_cases}

-- ---- faults that no source has

abbrev IsPlain : Fault → Type 0
IsPlain fault.Read = ⊥
IsPlain (fault.Changed name) = ⊥
IsPlain (fault.BadSource name place) = ⊥
IsPlain fault.FileBytes = ⊥
IsPlain fault.ItemNesting = ⊥
IsPlain f = ⊤

unread_plain : (f : Fault) → IsPlain f → IsUnreadFault f → ⊥
unread_plain f plain is = unread_cases (λ g. IsPlain g → ⊥) (λ name place h. h) (λ h. h) (λ h. h) f is plain

-- ---- what was printed of a verdict

-- the ends of a page that is printed
module _ (v : Verdict) (end : Ending) (out out' : SinkState) (prints : PrintsPage v end out out') where
  pub follows_prints : (files : FilesState) (ds ds' : List State) → FollowsVerdict v end (outside_of files ds out) (outside_of files ds' out')
  follows_prints files ds ds' = record {
    ends = elim prints.ends [ inl h ↦ inl h | inr (inl h) ↦ inr (writing h.0 h.1 h.2) | inr (inr h) ↦ inr (wanting h) ];
    whole = prints.whole;
    part = prints.part;
  }

  module _ (p : Purpose) (fair : Fair p v) where
    pub wrote : end ≡ Some fault.Write → Rose out.faults out'.faults
    wrote same = elim prints.ends [
      | inl h ↦ absurd (subst IsOfVerdict (sym h ∙ same) fair.told)
      | inr (inl h) ↦ h.1
      | inr (inr h) ↦ absurd (let one_end = sym h ∙ same in cc)
    ]

    pub has_fault : IsOneOf (HasTextFault p) end
    has_fault = elim prints.ends [
      | inl h ↦ subst (IsOneOf (HasTextFault p)) (sym h) fair.has
      | inr (inl h) ↦ subst (IsOneOf (HasTextFault p)) (sym h.0) tt
      | inr (inr h) ↦ subst (IsOneOf (HasTextFault p)) (sym h) tt
    ]

    pub printed_nothing : EndsSilent end → out' ≡ out
    printed_nothing is = elim prints.ends [
      | inl h ↦ prints.nothing (fair.empty (subst EndsSilent h is))
      | inr (inl h) ↦ absurd (subst EndsSilent h.0 is)
      | inr (inr h) ↦ absurd (subst EndsSilent h is)
    ]

  pub plain_end : (plain : IsOneOf IsPlain v.ending) → IsOneOf IsPlain end
  plain_end plain = elim prints.ends [
    | inl h ↦ subst (IsOneOf IsPlain) (sym h) plain
    | inr (inl h) ↦ subst (IsOneOf IsPlain) (sym h.0) tt
    | inr (inr h) ↦ subst (IsOneOf IsPlain) (sym h) tt
  ]

plain_no : (end : Ending) (f : Fault) → IsOneOf IsPlain end → end ≡ Some f → (IsPlain f → ⊥) → ⊥
plain_no end f plain is none = none (subst (IsOneOf IsPlain) is plain)

plain_line : (long : Bool) (d : Name × Scheme) (v : Verdict) → IsOneOf IsPlain v.ending → IsOneOf IsPlain (if long then refused fault.SchemeBytes else behind (scheme_line d) v).ending
plain_line true d v plain = tt
plain_line false d v plain = plain

plain_lines : (lines : List (Name × Scheme)) → IsOneOf IsPlain (scheme_lines lines).ending
plain_lines [] = tt
plain_lines (d ∷ ds) = plain_line (nat_lt limit (length (scheme_text d.1))) d (scheme_lines ds) (plain_lines ds)

-- a verdict of a program was printed, and no source was asked
pub printed_done : (ss : List Source) (marks : ℕ → Bool) (p : Purpose) (program : Decls) (e : Exp) (v : Verdict) (end : Ending) (files : FilesState) (ds : List State) (out out' : SinkState)
    → IsScopedVerdict (kinds_of ds) ss marks p program e v → IsOneOf IsPlain v.ending → PrintsPage v end out out' → DoneWith ss marks p program e end (outside_of files ds out) (outside_of files ds out')
printed_done ss marks p program e v end files ds out out' of plain prints =
    let fair = fair_done (kinds_of ds) ss marks program e p v of in
    let plain_too = plain_end v end out out' prints plain in record {
      ends = followed v of (follows_prints v end out out' prints files ds ds);
      read = λ is. absurd (plain_no end fault.Read plain_too is (λ h. h));
      write = wrote v end out out' prints p fair;
      unread = λ f is un. absurd (plain_no end f plain_too is (λ h. unread_plain f h un));
      changed = λ name is. absurd (plain_no end (fault.Changed name) plain_too is (λ h. h));
      no_other = has_fault v end out out' prints p fair;
      nothing = λ is. printed_nothing v end out out' prints p fair (silent_of _ end is);
      drivers = keeps_same (IsNamed ss marks) ds;
      still = λ is. refl;
    }

-- a front of nothing at all
follows_outside : (v : Verdict) (end : Ending) (files : FilesState) (ds ds' : List State) (out out' : SinkState) (p : Purpose) → Fair p v → out' ≡ out → (v.ending ≡ end → v.page ≡ []) → IsOutside v end (outside_of files ds out) (outside_of files ds' out') → FollowsVerdict v end (outside_of files ds out) (outside_of files ds' out')
follows_outside v end files ds ds' out out' p fair same empty outside = record {
  ends = inr outside;
  whole = λ is. ap (λ o. o.taken) same ∙ sym (ap (λ page. append_known out.taken page) (empty (sym is)) ∙ append_known-nil out.taken);
  part = took_none v.page out out' (ap (λ o. o.taken) same);
}

-- memory ran out first
pub wanted_done : (m : Matter) (files : FilesState) (ds : List State) (out : SinkState) → DoneBy m (Some fault.NoMemory) (outside_of files ds out) (outside_of files ds out)
wanted_done m files ds out = record {
  ends = before refl (λ is. is) (λ v. wanting refl);
  read = λ is. absurd cc;
  write = λ is. absurd cc;
  unread = λ f is un. absurd (plain_no (Some fault.NoMemory) f tt is (λ h. unread_plain f h un));
  changed = λ name is. absurd cc;
  no_other = tt;
  nothing = λ is. refl;
  drivers = keeps_same (IsNamed m.sources m.marks) ds;
  still = λ is. refl;
}

-- ---- texts

-- an end that is told is none of the outside
outside_untold : (v : Verdict) (end : Ending) (files : FilesState) (ds ds' : List State) (out out' : SinkState) → IsDetermined end → IsOutside v end (outside_of files ds out) (outside_of files ds' out') → ⊥
outside_untold v end files ds ds' out out' told (reading is rose) = subst IsDetermined is told
outside_untold v end files ds ds' out out' told (writing is rose page) = subst IsDetermined is told
outside_untold v end files ds ds' out out' told (drifting name is rose) = subst IsDetermined is told
outside_untold v end files ds ds' out out' told (wanting is) = subst IsDetermined is told

-- of a verdict that ends as an end that is not told nothing is printed
untold_empty : (p : Purpose) (v : Verdict) (end : Ending) → Fair p v → (IsDetermined end → ⊥) → v.ending ≡ end → v.page ≡ []
untold_empty p v None fair never is = absurd (never tt)
untold_empty p v (Some fault.Read) fair never is = fair.empty (subst EndsSilent (sym is) tt)
untold_empty p v (Some fault.Write) fair never is = absurd (subst IsOfVerdict is fair.told)
untold_empty p v (Some (fault.Changed name)) fair never is = absurd (subst IsOfVerdict is fair.told)
untold_empty p v (Some fault.NoMemory) fair never is = absurd (subst IsOfVerdict is fair.told)
untold_empty p v (Some fault.Usage) fair never is = absurd (never tt)
untold_empty p v (Some (fault.Text w byte)) fair never is = absurd (never tt)
untold_empty p v (Some (fault.IllTyped decl)) fair never is = absurd (never tt)
untold_empty p v (Some (fault.Catalogue byte)) fair never is = absurd (never tt)
untold_empty p v (Some (fault.NameTwice name)) fair never is = absurd (never tt)
untold_empty p v (Some (fault.NoDriver name)) fair never is = absurd (never tt)
untold_empty p v (Some (fault.Unsuited name)) fair never is = absurd (never tt)
untold_empty p v (Some (fault.BadFile place)) fair never is = absurd (never tt)
untold_empty p v (Some (fault.NoType byte)) fair never is = absurd (never tt)
untold_empty p v (Some (fault.BadSource name place)) fair never is = absurd (never tt)
untold_empty p v (Some fault.Overflow) fair never is = absurd (never tt)
untold_empty p v (Some fault.ProgramBytes) fair never is = absurd (never tt)
untold_empty p v (Some fault.CatalogueBytes) fair never is = absurd (never tt)
untold_empty p v (Some fault.FileBytes) fair never is = absurd (never tt)
untold_empty p v (Some fault.Nesting) fair never is = absurd (never tt)
untold_empty p v (Some fault.ItemNesting) fair never is = absurd (never tt)
untold_empty p v (Some fault.TermNodes) fair never is = absurd (never tt)
untold_empty p v (Some fault.TermDepth) fair never is = absurd (never tt)
untold_empty p v (Some fault.SchemeBytes) fair never is = absurd (never tt)

-- a verdict on the text was printed, and no source was asked
does_text : (ss : List Source) (p : Purpose) (text : List ℕ) (v : Verdict) (end : Ending) (files : FilesState) (ds : List State) (out out' : SinkState)
    → IsTextVerdict (kinds_of ds) ss p text v → IsOneOf IsPlain v.ending → PrintsPage v end out out' → DoesText ss p text end (outside_of files ds out) (outside_of files ds out')
does_text ss p text v end files ds out out' of plain prints =
    let fair = fair_text (kinds_of ds) ss p text v of in
    let plain_too = plain_end v end out out' prints plain in record {
      told = λ w is. (v, of, text_alike (kinds_of ds) ss p text w v is of, follows_prints v end out out' prints files ds ds);
      meant = λ told needs. (
        v,
        of,
        elim prints.ends [
          | inl h ↦ sym h
          | inr (inl h) ↦ absurd (subst IsDetermined h.0 told)
          | inr (inr h) ↦ absurd (subst IsDetermined h told)
        ],
      );
      read = λ is. absurd (plain_no end fault.Read plain_too is (λ h. h));
      write = wrote v end out out' prints p fair;
      unread = λ f is un. absurd (plain_no end f plain_too is (λ h. unread_plain f h un));
      changed = λ name is. absurd (plain_no end (fault.Changed name) plain_too is (λ h. h));
      no_other = has_fault v end out out' prints p fair;
      nothing = λ is. printed_nothing v end out out' prints p fair (silent_of _ end is);
      drivers = keeps_same (IsMentionedIn ss text) ds;
      still = λ is. refl;
    }

pub text_wanted : (ss : List Source) (p : Purpose) (text : List ℕ) (files : FilesState) (ds : List State) (out : SinkState) → DoesText ss p text (Some fault.NoMemory) (outside_of files ds out) (outside_of files ds out)
text_wanted ss p text files ds out = record {
  told = λ v of. let fair = fair_text (kinds_of ds) ss p text v of in (v, of, one refl, follows_outside v (Some fault.NoMemory) files ds ds out out p fair refl (untold_empty p v (Some fault.NoMemory) fair (λ is. is)) (wanting refl));
  meant = λ is needs. absurd is;
  read = λ is. absurd cc;
  write = λ is. absurd cc;
  unread = λ f is un. absurd (plain_no (Some fault.NoMemory) f tt is (λ h. unread_plain f h un));
  changed = λ name is. absurd cc;
  no_other = tt;
  nothing = λ is. refl;
  drivers = keeps_same (IsMentionedIn ss text) ds;
  still = λ is. refl;
}

-- what was inferred over the same sources
pub types_sources : (us ss : List Source) (program : Decls) (e : Exp) (r : Result Typed Fault) → us ≡ ss → AnswersTypes (grounds_of us) program e r → AnswersTypes (grounds_of ss) program e r
types_sources us ss program e r same types = subst (λ xs. AnswersTypes (grounds_of xs) program e r) same types

-- what was read over names that are those of the sources
pub reads_names : (us names : List Name) (ss : List Source) (text : List ℕ) (r : Result Scoped Fault) → us ≡ names → names ≡ names_of ss → ReadsText us text r → ReadsText (names_of ss) text r
reads_names us names ss text r same is reads = subst (λ ns. ReadsText ns text r) (same ∙ is) reads

-- what was read over the same sources
pub reads_sources : (us ss : List Source) (text : List ℕ) (r : Result Scoped Fault) → us ≡ ss → ReadsText (names_of us) text r → ReadsText (names_of ss) text r
reads_sources us ss text r same reads = subst (λ xs. ReadsText (names_of xs) text r) same reads

pub unread : (ss : List Source) (p : Purpose) (text : List ℕ) (f : Fault) (files : FilesState) (ds : List State) (out : SinkState) → ReadsText (names_of ss) text (Err f) → DoesText ss p text (Some f) (outside_of files ds out) (outside_of files ds out)
unread ss p text f files ds out (inl is) = subst (λ g. DoesText ss p text (Some g) (outside_of files ds out) (outside_of files ds out)) (sym is) (text_wanted ss p text files ds out)
unread ss p text f files ds out (inr of) = does_text ss p text (refused f) (Some f) files ds out out (inl (f, of, refl)) (any_fault IsPlain (λ w byte. tt) tt (names_of ss) text f of) (prints_refused f out)

-- what was done with a program in scope was done with its text
module _ (ss : List Source) (p : Purpose) (text : List ℕ) (end : Ending) (files : FilesState) (ds ds' : List State) (out out' : SinkState) (q : Program) (s : Scoped) (whole : IsProgramOf (names_of ss) text q) (resolves : Resolves q (names_of ss) s)
    (does : DoneWith ss (is_marked s) p (definitions (names_of ss) q) (last (names_of ss) q) end (outside_of files ds out) (outside_of files ds' out')) where
  marks_told : AreMarks q (names_of ss) (is_marked s)
  marks_told = resolves.marks

  as_text : (v : Verdict) → IsScopedVerdict (kinds_of ds) ss (is_marked s) p (definitions (names_of ss) q) (last (names_of ss) q) v → IsTextVerdict (kinds_of ds) ss p text v
  as_text v of = inr (q, is_marked s, whole, marks_told, of)

  no_verdict : ((others : ℕ → Bool) → ((i : ℕ) → i < length ss → is_marked s i ≡ others i) → (v : Verdict) → IsScopedVerdict (kinds_of ds) ss others p (definitions (names_of ss) q) (last (names_of ss) q) v → ⊥) → (v : Verdict) → IsTextVerdict (kinds_of ds) ss p text v → ⊥
  no_verdict none v (inl (f, of, is)) = no_fault (names_of ss) text f q whole of
  no_verdict none v (inr (r, others, also, again, is)) =
      let same : r ≡ q = one_program (names_of ss) text r q also whole in
      let again_too : AreMarks q (names_of ss) others = subst (λ x. AreMarks x (names_of ss) others) same again in
      none others (marks_one q ss (is_marked s) others marks_told again_too) v (subst (λ x. IsScopedVerdict (kinds_of ds) ss others p (definitions (names_of ss) x) (last (names_of ss) x) v) same is)

  named : (name : Name) → IsNamed ss (is_marked s) name → IsMentionedIn ss text name
  named name (i, at, marked) = (q, whole, i, at, (resolves.marks i (slice_get_within (names_of ss) i name at)).0 marked)

  told_by : CameTo (program_matter (kinds_of ds) ss (is_marked s) p (definitions (names_of ss) q) (last (names_of ss) q)) end (outside_of files ds out) (outside_of files ds' out') → (v : Verdict) → IsTextVerdict (kinds_of ds) ss p text v → (w : Verdict) × IsTextVerdict (kinds_of ds) ss p text w × SameVerdict (Varies p) v w × FollowsVerdict w end (outside_of files ds out) (outside_of files ds' out')
  told_by (before same none outside) v of = let fair = fair_text (kinds_of ds) ss p text v of in (v, of, one refl, follows_outside v end files ds ds' out out' p fair same (untold_empty p v end fair none) (outside v))
  told_by (followed w is follows) v of = (w, as_text w is, text_alike (kinds_of ds) ss p text v w of (as_text w is), follows)
  told_by (untold none all needs) v of = absurd (no_verdict none v of)

  meant_by : CameTo (program_matter (kinds_of ds) ss (is_marked s) p (definitions (names_of ss) q) (last (names_of ss) q)) end (outside_of files ds out) (outside_of files ds' out') → IsDetermined end → (NeedsDrivers p end → AreTold (kinds_of ds) ss (IsMentionedIn ss text)) → (v : Verdict) × IsTextVerdict (kinds_of ds) ss p text v × (v.ending ≡ end)
  meant_by (before same none outside) told needs = absurd (none told)
  meant_by (followed w is follows) told needs = (w, as_text w is, elim follows.ends [ inl h ↦ sym h | inr h ↦ absurd (outside_untold w end files ds ds' out out' told h) ])
  meant_by (untold none all must) told needs = absurd (all (λ i x at of. needs (must told) i x at (named x.name of)))

  -- what holds of marked sources holds of mentioned ones
  stored_wider : (f : Fault) → IsStoredFault (kinds_of ds) ss (IsNamed ss (is_marked s)) f → IsStoredFault (kinds_of ds) ss (IsMentionedIn ss text) f
  stored_wider f (i, x, w, at, of, told, is) = (i, x, w, at, named x.name of, told, is)

  unread_wider : (f : Fault) → IsUnreadBy ss (IsNamed ss (is_marked s)) f ds ds' → IsUnreadBy ss (IsMentionedIn ss text) f ds ds'
  unread_wider f (inl stored) = inl (stored_wider f stored)
  unread_wider f (inr (i, x, at, of, none, rose)) = inr (i, x, at, (named x.name of.0, of.1), none, rose)

  drifted_wider : (name : Name) → SomeDrifted ss (λ x. IsNamed ss (is_marked s) x × (x ≡ name)) ds ds' → SomeDrifted ss (λ x. IsMentionedIn ss text x × (x ≡ name)) ds ds'
  drifted_wider name (i, x, at, of, rose) = (i, x, at, (named x.name of.0, of.1), rose)

  pub program_done : DoesText ss p text end (outside_of files ds out) (outside_of files ds' out')
  program_done = record {
    told = told_by does.ends;
    meant = meant_by does.ends;
    read = λ is. elim (does.read is) [ inl h ↦ inl (stored_wider fault.Read h) | inr h ↦ inr h ];
    write = does.write;
    unread = λ f is un. unread_wider f (does.unread f is un);
    changed = λ name is. drifted_wider name (does.changed name is);
    no_other = does.no_other;
    nothing = λ is. does.nothing (unprinted_on (GivesList (grounds_of ss) (definitions (names_of ss) q) (last (names_of ss) q)) (IsOfList ss text) (λ gives. (q, whole, gives)) end is);
    drivers = keeps_wider (IsNamed ss (is_marked s)) (IsMentionedIn ss text) ds ds' named does.drivers;
    still = does.still;
  }

-- ---- the types of a program

after_none : (size : Option Fault) (Goes : Verdict → Type 0) (v : Verdict) → size ≡ None → Goes v → AfterSizes size Goes v
after_none size Goes v none goes = subst (λ s. AfterSizes s Goes v) (sym none) goes

typing_fault : (grounds : List (Name × Ground)) (program : Decls) (e : Exp) (f : Fault) (Goes : Verdict → Type 0) → IsTypingFault grounds program e f → IsSized program e (λ w. IsUntyped grounds program e w ⊎ Goes w) (refused f)
typing_fault grounds program e f Goes (inl past) = subst (λ s. AfterSizes s (λ w. IsUntyped grounds program e w ⊎ Goes w) (refused f)) (sym past) refl
typing_fault grounds program e f Goes (inr (fit, n, ill, is)) = after_none _ _ (refused f) fit (inl (n, ill, ap refused is))

plain_typing : (grounds : List (Name × Ground)) (program : Decls) (e : Exp) (f : Fault) → IsTypingFault grounds program e f → IsPlain f
plain_typing grounds program e f (inl past) = sized_faults IsPlain tt tt (declared program e []) f past
plain_typing grounds program e f (inr (fit, n, ill, is)) = subst IsPlain (sym is) tt

-- the trees of a program are those that its names were resolved in
module _ (P : Decls → Exp → Type 0) (names : List Name) (p : Program) (s : Scoped) (resolves : Resolves p names s) where
  pub as_resolved : P (decls_of s.program.defs) (view s.program.last) → P (definitions names p) (last names p)
  as_resolved h = subst (λ ds. P ds (last names p)) resolves.defs (subst (P (decls_of s.program.defs)) resolves.last h)

pub done_program : (ss : List Source) (p : Purpose) (text : List ℕ) (s : Scoped) (end : Ending) (files : FilesState) (ds ds' : List State) (out out' : SinkState) → ReadsText (names_of ss) text (Ok s)
    → DoneWith ss (is_marked s) p (decls_of s.program.defs) (view s.program.last) end (outside_of files ds out) (outside_of files ds' out') → DoesText ss p text end (outside_of files ds out) (outside_of files ds' out')
done_program ss p text s end files ds ds' out out' (q, whole, resolves) does =
    program_done ss p text end files ds ds' out out' q s whole resolves (as_resolved (λ program e. DoneWith ss (is_marked s) p program e end (outside_of files ds out) (outside_of files ds' out')) (names_of ss) q s resolves does)

pub checked : (ss : List Source) (text : List ℕ) (s : Scoped) (end : Ending) (files : FilesState) (ds : List State) (out out' : SinkState) → ReadsText (names_of ss) text (Ok s) → PrintsPage (well (codes "ok\n")) end out out' → DoesText ss purpose.Check text end (outside_of files ds out) (outside_of files ds out')
checked ss text s end files ds out out' (q, whole, resolves) prints = does_text ss purpose.Check text (well (codes "ok\n")) end files ds out out' (inr (q, is_marked s, whole, resolves.marks, refl)) tt prints

module _ (ss : List Source) (marks : ℕ → Bool) (program : Decls) (e : Exp) (files : FilesState) (ds : List State) where
  pub untyped_types : (f : Fault) (out : SinkState) → AnswersTypes (grounds_of ss) program e (Err f) → DoneWith ss marks purpose.Types program e (Some f) (outside_of files ds out) (outside_of files ds out)
  untyped_types f out (inl is) = subst (λ g. DoneWith ss marks purpose.Types program e (Some g) (outside_of files ds out) (outside_of files ds out)) (sym is) (wanted_done (program_matter (kinds_of ds) ss marks purpose.Types program e) files ds out)
  untyped_types f out (inr of) = printed_done ss marks purpose.Types program e (refused f) (Some f) files ds out out (typing_fault (grounds_of ss) program e f (IsListing (grounds_of ss) program e) of) (plain_typing (grounds_of ss) program e f of) (prints_refused f out)

  pub untyped_run : (first : Option ℕ) (f : Fault) (out : SinkState) → AnswersTypes (grounds_of ss) program e (Err f) → DoneWith ss marks (purpose.Run first) program e (Some f) (outside_of files ds out) (outside_of files ds out)
  untyped_run first f out (inl is) = subst (λ g. DoneWith ss marks (purpose.Run first) program e (Some g) (outside_of files ds out) (outside_of files ds out)) (sym is) (wanted_done (program_matter (kinds_of ds) ss marks (purpose.Run first) program e) files ds out)
  untyped_run first f out (inr of) = printed_done ss marks (purpose.Run first) program e (refused f) (Some f) files ds out out (typing_fault (grounds_of ss) program e f (λ w. HasTyping program e (grounds_of ss) × IsMeant (kinds_of ds) ss marks first program e w) of) (plain_typing (grounds_of ss) program e f of) (prints_refused f out)

  pub listed : (typed : Typed) (end : Ending) (out out' : SinkState) → IsTyped (grounds_of ss) program e typed → PrintsPage (scheme_lines (named_schemes program typed)) end out out' → DoneWith ss marks purpose.Types program e end (outside_of files ds out) (outside_of files ds out')
  listed typed end out out' types prints =
      printed_done ss marks purpose.Types program e (scheme_lines (named_schemes program typed)) end files ds out out'
      (after_none (size_fault (declared program e [])) (λ w. IsUntyped (grounds_of ss) program e w ⊎ IsListing (grounds_of ss) program e w) (scheme_lines (named_schemes program typed)) types.fits (inr (typed, types.infers, refl)))
      (plain_lines (named_schemes program typed)) prints

  pub untyped_explained : (settings : Settings) (f : Fault) (out : SinkState) → AnswersTypes (grounds_of ss) program e (Err f) → DoneWith ss marks (purpose.Explain settings) program e (Some f) (outside_of files ds out) (outside_of files ds out)
  untyped_explained settings f out (inl is) = subst (λ g. DoneWith ss marks (purpose.Explain settings) program e (Some g) (outside_of files ds out) (outside_of files ds out)) (sym is) (wanted_done (program_matter (kinds_of ds) ss marks (purpose.Explain settings) program e) files ds out)
  untyped_explained settings f out (inr of) = printed_done ss marks (purpose.Explain settings) program e (refused f) (Some f) files ds out out (typing_fault (grounds_of ss) program e f (λ w. HasTyping program e (grounds_of ss) × IsExplained (kinds_of ds) ss settings program e w) of) (plain_typing (grounds_of ss) program e f of) (prints_refused f out)

  pub explained_done : (settings : Settings) (typed : Typed) (page : List ℕ) (end : Ending) (out out' : SinkState) → IsTyped (grounds_of ss) program e typed → IsExplanation (kinds_of ds) ss settings program e page → PrintsPage (well page) end out out' → DoneWith ss marks (purpose.Explain settings) program e end (outside_of files ds out) (outside_of files ds out')
  explained_done settings typed page end out out' types of prints =
      printed_done ss marks (purpose.Explain settings) program e (well page) end files ds out out'
      (after_none (size_fault (declared program e [])) (λ w. IsUntyped (grounds_of ss) program e w ⊎ (HasTyping program e (grounds_of ss) × IsExplained (kinds_of ds) ss settings program e w)) (well page) types.fits (inr (types.infers.has_typing, (page, of, refl))))
      tt prints

  -- a program that has a typing comes to what it means
  pub answered : (first : Option ℕ) (typed : Typed) (end : Ending) (ds' : List State) (out out' : SinkState) → IsTyped (grounds_of ss) program e typed → DoneMeaning ss marks first program e end (outside_of files ds out) (outside_of files ds' out') → DoneWith ss marks (purpose.Run first) program e end (outside_of files ds out) (outside_of files ds' out')
  answered first typed end ds' out out' types does = record {
    ends = ends_typed does.ends;
    read = does.read;
    write = does.write;
    unread = does.unread;
    changed = does.changed;
    no_other = does.no_other;
    nothing = does.nothing;
    drivers = does.drivers;
    still = does.still;
  }
    where
      IsRunning : (ℕ → Bool) → Verdict → Type 0
      IsRunning others w = IsUntyped (grounds_of ss) program e w ⊎ (HasTyping program e (grounds_of ss) × IsMeant (kinds_of ds) ss others first program e w)

      not_meant : (others : ℕ → Bool) (v : Verdict) → (IsMeant (kinds_of ds) ss others first program e v → ⊥) → IsScopedVerdict (kinds_of ds) ss others (purpose.Run first) program e v → ⊥
      not_meant others v none of = elim (subst (λ s. AfterSizes s (IsRunning others) v) types.fits of) [ inl h ↦ h.1.none types.infers.has_typing | inr h ↦ none h.1 ]

      ends_typed : CameTo (run_matter (kinds_of ds) ss marks first program e) end (outside_of files ds out) (outside_of files ds' out') → CameTo (program_matter (kinds_of ds) ss marks (purpose.Run first) program e) end (outside_of files ds out) (outside_of files ds' out')
      ends_typed (before same none outside) = before same none outside
      ends_typed (followed v of follows) = followed v (after_none (size_fault (declared program e [])) (IsRunning marks) v types.fits (inr (types.infers.has_typing, of))) follows
      ends_typed (untold none all needs) = untold (λ others same v. not_meant others v (none others same v)) all needs

module _ (grounds : List (Name × Ground)) (program : Decls) (e : Exp) where
  -- ---- what inferring types answers

  pub sized_types : (result : Result Typed Fault) → Tells None (declared program e []) → TypesOfAny grounds program e result → AnswersTypes grounds program e result
  sized_types (Ok typed) tells infers = record { fits = told_size None (declared program e []) tells; infers = infers }
  sized_types (Err f) tells (inl is) = inl is
  sized_types (Err f) tells (inr (n, ill, is)) = inr (inr (told_size None (declared program e []) tells, n, ill, is))

  pub past_types : (found : SizeBreach) → Tells (Some found) (declared program e []) → AnswersTypes grounds program e (Err (breach_fault found))
  past_types found tells = inr (inl (told_size (Some found) (declared program e []) tells))
