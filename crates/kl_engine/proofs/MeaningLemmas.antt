-- What a run of a program with a typing comes to: what attaching its sources answers, and then the outcome of its term.
use Rattle.std.proofs.Common.{◌≡◌, ◌≢◌, ◌⊎◌, inl, inr, ℕ, zero, suc, ◌+◌, ◌<◌, ◌≤◌, Bool, true, false, List, [], ◌∷◌, length, map, Option, Some, None, IsSome, Result, Ok, Err, Vec, refl, sym, ap, subst, ◌∙◌, arith, slice_get, add-zero, zero-add}
use Rattle.std.specs.Prelude.{All, ⊤}
use Rattle.std.specs.List.{AllByRecursion}
use Rattle.std.proofs.lemmas.List.Elements.{All-head, All-tail}
use Rattle.std.proofs.lemmas.Option.{slice_get_within, same_Some}
use Rattle.kl_outside.specs.Files.{FilesState}
use Rattle.kl_outside.specs.Sinks.{SinkState}
use Rattle.kl_base.proofs.Rises.{rose_after}
use Rattle.kl_value.specs.Canon.{canonical}
use Rattle.kl_value.specs.declared.Value.{Value}
use Rattle.kl_value.specs.declared.Kind.TheVariants as kind
use Rattle.kl_type.specs.Ground as types
use Rattle.kl_type.specs.Ground.{Ground, IsProper, ground_of}
use Rattle.kl_outcome.specs.Outcome.{Name, Outcome, done, over, stuck}
use Rattle.kl_outcome.specs.Typed.{Inhabits}
use Rattle.kl_outcome.proofs.OutcomeTypes.{canonical_inhabits}
use Rattle.kl_syntax.specs.Syntax.{Exp, Decls}
use Rattle.kl_syntax.specs.View.{view, decls_of}
use Rattle.kl_scope.specs.Breaches.{is_marked}
use Rattle.kl_scope.specs.declared.scoped.Scoped.{Scoped}
use Rattle.kl_meaning.specs.Run.{meaning_of_program}
use Rattle.kl_meaning.specs.Tidy.{IsTidyProgram}
use Rattle.kl_meaning.specs.Typing.{AreGround, HaveTypesByName, ProgramTypes}
use Rattle.kl_meaning.proofs.Safety.{never_stuck}
use Rattle.kl_core.specs.Core.{core}
use Rattle.kl_core.specs.Trees.{Tree}
use Rattle.kl_core.specs.Typing.{CoreTypes, HaveSources}
use Rattle.kl_desugar.specs.Sense.{types_of as program_types}
use Rattle.kl_desugar.specs.Translation.{Means, term_of, tables_of}
use Rattle.kl_desugar.proofs.Sense.{makes_sense}
use Rattle.kl_desugar.proofs.Tidying.{resolved_tidy}
use Rattle.kl_infer.specs.Inferred.{Infers}
use Rattle.kl_infer.specs.declared.Typed.{Typed}
use Rattle.kl_ask.specs.Asks.{item_of, kind_of}
use Rattle.kl_ask.specs.Driver.{DriverKind, State, KeepsState, IsColl, Stored, Missing, Bad, Long, Deep, Rows}
use Rattle.kl_ask.specs.Lists.{EachSteps}
use Rattle.kl_ask.specs.World.{World, types_of, values_of}
use Rattle.std.specs.declared.alloc.Global.{Global}
use Rattle.std.proofs.Math.Path.{fun_ext}
use Rattle.kl_value.proofs.CanonLemmas.{canonical-nil}
use Rattle.kl_ask.specs.declared.session.Attached.{Attached}
use Rattle.kl_ask.specs.declared.settings.Settings.{Settings}
use Rattle.kl_ask.specs.declared.settings.Trace.{Trace}
use Rattle.kl_ask.specs.declared.ask.DriverError.{DriverError}
use Rattle.kl_ask.specs.declared.ask.DriverError.TheVariants as error
use Rattle.kl_ask.proofs.Whole.{collection_is}
use Rattle.kl_ask.proofs.Worlds.{there, keeps_then}
use Rattle.kl_desugar.specs.Mentioned.{ReadsMentioned}
use Rattle.kl_rules.specs.Preserving.{Preserves}
use Rattle.kl_ship.specs.Contents.{MakesSense}
use Rattle.kl_plan.specs.Nodes.{Node}
use Rattle.kl_run.specs.Planned.{IsPlanOf, ships_of}
use Rattle.kl_run.specs.Running.{Runs, fresh_run}
use Rattle.kl_run.proofs.Means.{plan_sense}
use Rattle.kl_run.proofs.Sessions.{session_runs}
use Rattle.kl_sources.specs.Attaching.{RoseAt, list_of, HaveNone, AttachesAll, world_of, IsErrorOf, IsUnreadable, NoVerdict, MayAttach, Causes, Serves, Stands, HasTyped}
use Rattle.kl_sources.specs.Sources.{ArePlaced, IsFit, names_of, grounds_of, contents, value_of, empty_of, IsValueAt, HaveValues, IsReadable, FirstWithout}
use Rattle.kl_sources.specs.declared.attaching.AttachError.{AttachError}
use Rattle.kl_sources.specs.declared.source.Source.{Source}
use Rattle.kl_sources.proofs.Agreement.{values_agree, first_agrees}
use Rattle.kl_sources.proofs.ListedSources.{listed_source}
use Rattle.kl_sources.proofs.Lists.{of_all}
use Rattle.kl_sources.specs.Sources.{kinds_of}
use Rattle.kl_engine.specs.Answering.{SomeRose, KeepsDrivers, IsIdle, IsStoredFault, AreTold, IsUnreadBy, SomeDrifted, IsOf, IsOutside, reading, writing, drifting, wanting, FollowsVerdict, IsDetermined, IsOneOf, HasTextFault, IsUnreadFault, NeedsDrivers}
use Rattle.kl_engine.specs.Faults.{Ending}
use Rattle.kl_engine.specs.Outside.{outside_of}
use Rattle.kl_engine.specs.Reading.{WasInScope}
use Rattle.kl_engine.specs.Running.{AnswersTerm, DriftsAt, HasRunFault, IsListScheme, IsListTerm, IsTermOutcome, fault_of, plan_over, CameTo, before, followed, untold, IsNamed, DoneMeaning, run_matter}
use Rattle.kl_engine.specs.Verdict.{Verdict, refused, GivesList, stored_fault, IsMeant}
use Rattle.kl_engine.specs.Verdict as verdict
use Rattle.kl_engine.specs.declared.fault.Fault.{Fault}
use Rattle.kl_engine.specs.declared.fault.Fault.TheVariants as fault
use Rattle.kl_engine.specs.declared.top.Purpose.TheVariants as purpose
use Rattle.kl_engine.proofs.DoneLemmas.{follows_prints, wanted_done}
use Rattle.kl_engine.proofs.PageLemmas.{prints_refused}
use Rattle.kl_base.proofs.Places.{get-map}
use Rattle.kl_engine.proofs.SilentLemmas.{unprinted_on}
use Rattle.kl_engine.proofs.UnreadLemmas.{unread_cases}

-- ---- lists

at_all : {T : Type 0} (P : T → Type 0) (xs : List T) (i : ℕ) (x : T) → All P xs → slice_get xs i ≡ Some x → P x
at_all P [] i x all is = absurd cc
at_all P (y ∷ ys) zero x all is = subst P (same_Some _ _ is) (All-head P y ys all)
at_all P (y ∷ ys) (suc i) x all is = at_all P ys i x (All-tail P y ys all) is

pub idle_none : (ds : List State) → All IsIdle ds → HaveNone ds
idle_none ds idle = λ i d at x. (at_all IsIdle ds i d idle at).0 x

-- ---- faults of sources

refusal_fault : (x : Name) (w : Stored) (e : DriverError) → IsErrorOf w e → stored_fault x w ≡ Some (fault_of x e)
refusal_fault x Missing e is = ap (λ d. Some (fault_of x d)) (sym is)
refusal_fault x (Bad place) e is = ap (λ d. Some (fault_of x d)) (sym is)
refusal_fault x (Long most) e is = ap (λ d. Some (fault_of x d)) (sym is)
refusal_fault x (Deep place) e is = ap (λ d. Some (fault_of x d)) (sym is)
refusal_fault x (Rows rows) e is = absurd is

unreadable_unread : (x : Name) (e : DriverError) → IsUnreadable e → IsUnreadFault (fault_of x e)
unreadable_unread x (error.BadSource place) is = tt
unreadable_unread x (error.TooLong most) is = tt
unreadable_unread x (error.TooDeep place) is = tt
unreadable_unread x error.Failed is = absurd is
unreadable_unread x (error.Changed d) is = absurd is
unreadable_unread x error.NoMemory is = absurd is

error_no_want : (w : Stored) (e : DriverError) → IsErrorOf w e → e ≢ error.NoMemory
error_no_want Missing e is want = let two : error.Failed ≡ error.NoMemory = sym is ∙ want in cc
error_no_want (Bad place) e is want = let two : error.BadSource place ≡ error.NoMemory = sym is ∙ want in cc
error_no_want (Long most) e is want = let two : error.TooLong most ≡ error.NoMemory = sym is ∙ want in cc
error_no_want (Deep place) e is want = let two : error.TooDeep place ≡ error.NoMemory = sym is ∙ want in cc
error_no_want (Rows rows) e is want = is

unreadable_no_want : (e : DriverError) → IsUnreadable e → e ≢ error.NoMemory
unreadable_no_want e is want = subst IsUnreadable want is

run_fault : (x : Name) (first : Option ℕ) (e : DriverError) → HasTextFault (purpose.Run first) (fault_of x e)
run_fault x first error.Failed = tt
run_fault x first (error.BadSource place) = tt
run_fault x first (error.TooLong most) = tt
run_fault x first (error.TooDeep place) = tt
run_fault x first (error.Changed d) = tt
run_fault x first error.NoMemory = tt

needs_drivers : (x : Name) (first : Option ℕ) (e : DriverError) → IsDetermined (Some (fault_of x e)) → NeedsDrivers (purpose.Run first) (Some (fault_of x e))
needs_drivers x first (error.BadSource place) told = tt
needs_drivers x first (error.TooLong most) told = tt
needs_drivers x first (error.TooDeep place) told = tt
needs_drivers x first error.Failed told = absurd told
needs_drivers x first (error.Changed d) told = absurd told
needs_drivers x first error.NoMemory told = absurd told

-- the faults with which attaching ends
abbrev IsRefused : Fault → Type 0
IsRefused fault.Read = ⊤
IsRefused fault.NoMemory = ⊤
IsRefused f = IsUnreadFault f

unread_refused : (f : Fault) → IsUnreadFault f → IsRefused f
unread_refused = unread_cases IsRefused (λ name place. tt) tt tt

error_refused : (x : Name) (w : Stored) (e : DriverError) → IsErrorOf w e → IsRefused (fault_of x e)
error_refused x Missing e is = subst (λ d. IsRefused (fault_of x d)) (sym is) tt
error_refused x (Bad place) e is = subst (λ d. IsRefused (fault_of x d)) (sym is) tt
error_refused x (Long most) e is = subst (λ d. IsRefused (fault_of x d)) (sym is) tt
error_refused x (Deep place) e is = subst (λ d. IsRefused (fault_of x d)) (sym is) tt
error_refused x (Rows rows) e is = absurd is

-- ---- what drivers keep

attach_keeps : (ss : List Source) (marks : ℕ → Bool) (ds mid : List State) → EachSteps (MayAttach marks ss) ds mid → KeepsDrivers (IsNamed ss marks) ds mid
attach_keeps ss marks ds mid steps = record {
  size = steps.size;
  each = λ i a b this that. let may = steps.each i a b this that in record {
    keeps = may.keeps;
    cursors = may.cursors;
    attached = λ name none. may.others name (λ marked. none (marked.0, get-map (λ (s : Source). s.name) ss marked.0 marked.1 marked.2 ∙ ap Some marked.4, marked.3));
  };
}

module _ (Named : Name → Type 0) (ds mid last : List State) (this : KeepsDrivers Named ds mid) where
  at_first : (i : ℕ) (b : State) → slice_get mid i ≡ Some b → (a : State) × (slice_get ds i ≡ Some a)
  at_first i b at = there ds i (let size = this.size in let less = slice_get_within mid i b at in omega (arith, size, less))

  at_mid : (i : ℕ) (a : State) → slice_get ds i ≡ Some a → (b : State) × (slice_get mid i ≡ Some b)
  at_mid i a at = there mid i (let size = this.size in let less = slice_get_within ds i a at in omega (arith, size, less))

  keeps_through : KeepsDrivers (λ name. ⊥) mid last → KeepsDrivers Named ds last
  keeps_through that = record {
    size = that.size ∙ this.size;
    each = λ i a c here then. let b = at_mid i a here in let m = this.each i a b.0 here b.1 in let n = that.each i b.0 c b.1 then in record {
      keeps = keeps_then a b.0 c m.keeps n.keeps;
      cursors = n.cursors ∙ m.cursors;
      attached = λ name none. n.attached name (λ h. h) ∙ m.attached name none;
    };
  }

  rose_at_since : (count : State → ℕ) → ((a b : State) → KeepsState a b → count a ≤ count b) → (i : ℕ) → RoseAt i count mid last → RoseAt i count ds last
  rose_at_since count later i (b, c, at, then, rose) =
      let a = at_first i b at in
      (a.0, c, a.1, then, rose_after (count a.0) (count b) (count c) (later a.0 b (this.each i a.0 b a.1 at).keeps) rose)

  rose_since : (count : State → ℕ) → ((a b : State) → KeepsState a b → count a ≤ count b) → SomeRose count mid last → SomeRose count ds last
  rose_since count later (i, rose) = (i, rose_at_since count later i rose)

  outside_since : (v : Verdict) (end : Ending) (files : FilesState) (out out' : SinkState) → IsOutside v end (outside_of files mid out) (outside_of files last out') → IsOutside v end (outside_of files ds out) (outside_of files last out')
  outside_since v end files out out' (reading is (inl failed)) = reading is (inl failed)
  outside_since v end files out out' (reading is (inr rose)) = reading is (inr (rose_since (λ d. d.faults) (λ a b keeps. keeps.faults) rose))
  outside_since v end files out out' (writing is rose page) = writing is rose page
  outside_since v end files out out' (drifting name is rose) = drifting name is (rose_since (λ d. d.drifts) (λ a b keeps. keeps.drifts) rose)
  outside_since v end files out out' (wanting is) = wanting is

  follows_since : (v : Verdict) (end : Ending) (files : FilesState) (out out' : SinkState) → FollowsVerdict v end (outside_of files mid out) (outside_of files last out') → FollowsVerdict v end (outside_of files ds out) (outside_of files last out')
  follows_since v end files out out' follows = record {
    ends = elim follows.ends [ inl h ↦ inl h | inr h ↦ inr (outside_since v end files out out' h) ];
    whole = follows.whole;
    part = follows.part;
  }

-- ---- sources that are told have values, or there is a first without rows

module _ (ks : List DriverKind) (marks : ℕ → Bool) where
  abbrev ComeTo : ℕ → List Source → Type 0
  ComeTo n ss = ((vs : List (Name × Value)) × HaveValues ks marks n ss vs) ⊎ ((s : Source) × (w : Stored) × FirstWithout ks marks n ss s w)

  module _ (n : ℕ) (s : Source) (ss : List Source) where
    come_unmarked : marks n ≡ false → ComeTo (suc n) ss → ComeTo n (s ∷ ss)
    come_unmarked is (inl (vs, have)) = inl ((s.name, empty_of s) ∷ vs, (empty_of s, vs, refl, subst (λ b. IsValueAt ks b s (empty_of s)) (sym is) refl, have))
    come_unmarked is (inr (t, w, first)) = inr (t, w, inr (subst (λ b. IsReadable ks b s) (sym is) tt, first))

    module _ (is : marks n ≡ true) where
      come_rows : (rows : List Value) → contents ks s ≡ Some (Rows rows) → ComeTo (suc n) ss → ComeTo n (s ∷ ss)
      come_rows rows at (inl (vs, have)) = inl ((s.name, value_of s rows) ∷ vs, (value_of s rows, vs, refl, subst (λ b. IsValueAt ks b s (value_of s rows)) (sym is) (rows, at, refl), have))
      come_rows rows at (inr (t, w, first)) = inr (t, w, inr (subst (λ b. IsReadable ks b s) (sym is) (rows, at), first))

      come_without : (w : Stored) → contents ks s ≡ Some w → ((rows : List Value) → w ≡ Rows rows → ⊥) → ComeTo n (s ∷ ss)
      come_without w at none = inr (s, w, inl (is, refl, at, λ has. none has.0 (same_Some _ _ (sym at ∙ has.1))))

      come_marked : (found : Option Stored) → contents ks s ≡ found → IsSome found → ComeTo (suc n) ss → ComeTo n (s ∷ ss)
      come_marked None at some rest = let none : IsSome {T = Stored} None = some in cc
      come_marked (Some (Rows rows)) at some rest = come_rows rows at rest
      come_marked (Some Missing) at some rest = come_without Missing at (λ rows same. cc)
      come_marked (Some (Bad place)) at some rest = come_without (Bad place) at (λ rows same. cc)
      come_marked (Some (Long most)) at some rest = come_without (Long most) at (λ rows same. cc)
      come_marked (Some (Deep place)) at some rest = come_without (Deep place) at (λ rows same. cc)

    come_next : (b : Bool) → marks n ≡ b → (marks n ≡ true → IsSome (contents ks s)) → ComeTo (suc n) ss → ComeTo n (s ∷ ss)
    come_next false is told rest = come_unmarked is rest
    come_next true is told rest = come_marked is (contents ks s) refl (told is) rest

  come_to : (n : ℕ) (ss : List Source) → ((i : ℕ) (s : Source) → slice_get ss i ≡ Some s → marks (n + i) ≡ true → IsSome (contents ks s)) → ComeTo n ss
  come_to n [] told = inl ([], refl)
  come_to n (s ∷ ss) told =
      come_next n s ss (marks n) refl (λ is. told 0 s refl (ap marks (add-zero n) ∙ is)) (come_to (suc n) ss (λ i x at marked. told (suc i) x at (ap marks (omega arith) ∙ marked)))

-- ---- a program whose sources are not told has no verdict

module _ (ss : List Source) (marks : ℕ → Bool) (first : Option ℕ) (program : Decls) (e : Exp) (ds : List State) (lacks : NoVerdict (kinds_of ds) marks ss) where
  none_meant : (others : ℕ → Bool) → ((i : ℕ) → i < length ss → marks i ≡ others i) → (v : Verdict) → IsMeant (kinds_of ds) ss others first program e v → ⊥
  none_meant others same v (inl (s, w, f, at, is, eq)) = lacks.no_first s w (first_agrees (kinds_of ds) marks others 0 ss s w (λ i less. sym (same i (omega (arith, less)))) at)
  none_meant others same v (inr (vs, values, is)) = lacks.no_values vs (values_agree (kinds_of ds) marks others 0 ss vs (λ i less. sym (same i (omega (arith, less)))) values)

  none_told : AreTold (kinds_of ds) ss (IsNamed ss marks) → ⊥
  none_told told =
      elim (come_to (kinds_of ds) marks 0 ss (λ i s at marked. told i s at (i, get-map (λ (x : Source). x.name) ss i s at, ap marks (sym (zero-add i)) ∙ marked))) [
        | inl h ↦ lacks.no_values h.0 h.1
        | inr h ↦ lacks.no_first h.0 h.1 h.2
      ]

-- ---- attaching was refused

module _ (ss : List Source) (marks : ℕ → Bool) (first : Option ℕ) (program : Decls) (exp : Exp) (files : FilesState) (ds mid : List State) (out : SinkState) (e : AttachError) (c : Causes marks ss ds mid e) where
  refused_by : (w : Stored) → IsErrorOf w e.error → stored_fault c.refused.name w ≡ Some (fault_of e.source e.error)
  refused_by w of = refusal_fault c.refused.name w e.error of ∙ ap (λ x. Some (fault_of x e.error)) c.named

  refused_named : e.error ≢ error.NoMemory → IsNamed ss marks c.refused.name
  refused_named other = (c.place, get-map (λ (s : Source). s.name) ss c.place c.refused c.there, c.marked other)

  refused_of : (d : DriverError) → IsOf (fault_of e.source d) c.refused.name
  refused_of error.Failed = tt
  refused_of (error.BadSource place) = c.named
  refused_of (error.TooLong most) = tt
  refused_of (error.TooDeep place) = tt
  refused_of (error.Changed drift) = c.named
  refused_of error.NoMemory = tt

  refused_ends : CameTo (run_matter (kinds_of ds) ss marks first program exp) (Some (fault_of e.source e.error)) (outside_of files ds out) (outside_of files mid out)
  refused_ends = elim c.cause [
    | inl (inl h) ↦ before refl (λ told. subst (λ d. IsDetermined (Some (fault_of e.source d))) h.0 told) (λ v. reading (ap (λ d. Some (fault_of e.source d)) h.0) (inr (c.refused.driver, h.1)))
    | inl (inr h) ↦ before refl (λ told. subst (λ d. IsDetermined (Some (fault_of e.source d))) h told) (λ v. wanting (ap (λ d. Some (fault_of e.source d)) h))
    | inr (inl (w, of, at, inl without)) ↦ followed (refused (fault_of e.source e.error)) (inl (c.refused, w, fault_of e.source e.error, without, refused_by w of, refl))
        (follows_prints (refused (fault_of e.source e.error)) (Some (fault_of e.source e.error)) out out (prints_refused (fault_of e.source e.error) out) files ds mid)
    | inr (inl (w, of, at, inr lacks)) ↦ untold (none_meant ss marks first program exp ds lacks) (none_told ss marks first program exp ds lacks) (needs_drivers e.source first e.error)
    | inr (inr (unreadable, at, lacks, rose)) ↦ untold (none_meant ss marks first program exp ds lacks) (none_told ss marks first program exp ds lacks) (needs_drivers e.source first e.error)
  ]

  refused_is : IsRefused (fault_of e.source e.error)
  refused_is = elim c.cause [
    | inl (inl h) ↦ subst (λ d. IsRefused (fault_of e.source d)) (sym h.0) tt
    | inl (inr h) ↦ subst (λ d. IsRefused (fault_of e.source d)) (sym h) tt
    | inr (inl (w, of, at, rest)) ↦ error_refused e.source w e.error of
    | inr (inr (unreadable, at, lacks, rose)) ↦ unread_refused (fault_of e.source e.error) (unreadable_unread e.source e.error unreadable)
  ]

  refused_never : (f : Fault) → Some (fault_of e.source e.error) ≡ Some f → (IsRefused f → ⊥) → ⊥
  refused_never f is none = none (subst IsRefused (same_Some _ _ is) refused_is)

  refused_read : Some (fault_of e.source e.error) ≡ Some fault.Read → IsStoredFault (kinds_of ds) ss (IsNamed ss marks) fault.Read ⊎ SomeRose (λ d. d.faults) ds mid
  refused_read is = elim c.cause [
    | inl (inl h) ↦ inr (c.refused.driver, h.1)
    | inl (inr h) ↦ absurd (let two : fault.NoMemory ≡ fault.Read = ap (fault_of e.source) (sym h) ∙ same_Some _ _ is in cc)
    | inr (inl (w, of, at, rest)) ↦ inl (c.place, c.refused, w, c.there, refused_named (error_no_want w e.error of), at, refused_by w of ∙ is)
    | inr (inr (unreadable, at, lacks, rose)) ↦ absurd (subst IsUnreadFault (same_Some _ _ is) (unreadable_unread e.source e.error unreadable))
  ]

  refused_unread : (f : Fault) → Some (fault_of e.source e.error) ≡ Some f → IsUnreadFault f → IsUnreadBy ss (IsNamed ss marks) f ds mid
  refused_unread f is un = elim c.cause [
    | inl (inl h) ↦ absurd (subst IsUnreadFault (sym (same_Some _ _ is) ∙ ap (fault_of e.source) h.0) un)
    | inl (inr h) ↦ absurd (subst IsUnreadFault (sym (same_Some _ _ is) ∙ ap (fault_of e.source) h) un)
    | inr (inl (w, of, at, rest)) ↦ inl (c.place, c.refused, w, c.there, refused_named (error_no_want w e.error of), at, refused_by w of ∙ is)
    | inr (inr (unreadable, at, lacks, rose)) ↦ inr (c.place, c.refused, c.there, (refused_named (unreadable_no_want e.error unreadable), subst (λ g. IsOf g c.refused.name) (same_Some _ _ is) (refused_of e.error)), at, rose)
  ]

  pub attach_refused : EachSteps (MayAttach marks ss) ds mid → DoneMeaning ss marks first program exp (Some (fault_of e.source e.error)) (outside_of files ds out) (outside_of files mid out)
  attach_refused steps = record {
    ends = refused_ends;
    read = refused_read;
    write = λ is. absurd (refused_never fault.Write is (λ h. h));
    unread = refused_unread;
    changed = λ name is. absurd (refused_never (fault.Changed name) is (λ h. h));
    no_other = run_fault e.source first e.error;
    nothing = λ is. refl;
    drivers = attach_keeps ss marks ds mid steps;
    still = λ none. absurd (none tt);
  }

-- ---- memory ran out before sources were attached

pub meaning_wanted : (ss : List Source) (marks : ℕ → Bool) (first : Option ℕ) (program : Decls) (e : Exp) (files : FilesState) (ds : List State) (out : SinkState) → DoneMeaning ss marks first program e (Some fault.NoMemory) (outside_of files ds out) (outside_of files ds out)
meaning_wanted ss marks first program e files ds out = wanted_done (run_matter (kinds_of ds) ss marks first program e) files ds out

-- ---- values of sources

rows_inhabit : (t : Ground) (rows : List Value) → IsColl t → AllByRecursion (Inhabits (item_of t)) rows → Inhabits t (canonical (kind_of t) rows)
rows_inhabit t rows coll typed = subst (λ q. Inhabits q (canonical (kind_of t) rows)) (sym (collection_is t coll)) (canonical_inhabits (kind_of t) (item_of t) rows typed)

module _ (ks : List DriverKind) (marks : ℕ → Bool) where
  value_inhabits : (b : Bool) (s : Source) (v : Value) → IsColl (ground_of s.ty) → (b ≡ true → HasTyped s (contents ks s)) → IsValueAt ks b s v → Inhabits (ground_of s.ty) v
  value_inhabits true s v coll typed (rows, at, is) = subst (Inhabits (ground_of s.ty)) (sym is) (rows_inhabit (ground_of s.ty) rows coll (subst (HasTyped s) at (typed refl)))
  value_inhabits false s v coll typed is = subst (Inhabits (ground_of s.ty)) (canonical-nil (kind_of (ground_of s.ty)) ∙ sym is) (rows_inhabit (ground_of s.ty) [] coll tt)

  values_typed : (n : ℕ) (ss : List Source) (vs : List (Name × Value)) → ((i : ℕ) (s : Source) → slice_get ss i ≡ Some s → IsColl (ground_of s.ty)) → ((i : ℕ) (s : Source) → slice_get ss i ≡ Some s → marks (n + i) ≡ true → HasTyped s (contents ks s))
      → HaveValues ks marks n ss vs → HaveTypesByName (grounds_of ss) vs
  values_typed n [] vs colls typed none = subst (HaveTypesByName []) (sym none) tt
  values_typed n (s ∷ ss) vs colls typed (v, rest, is, at, more) =
      subst (HaveTypesByName (grounds_of (s ∷ ss))) (sym is) (
        refl,
        value_inhabits (marks n) s v (colls 0 s refl) (λ marked. typed 0 s refl (ap marks (add-zero n) ∙ marked)) at,
        values_typed (suc n) ss rest (λ i x here. colls (suc i) x here) (λ i x here marked. typed (suc i) x here (ap marks (omega arith) ∙ marked)) more,
      )

  values_names : (n : ℕ) (ss : List Source) (vs : List (Name × Value)) → HaveValues ks marks n ss vs → map (λ s. s.0) vs ≡ names_of ss
  values_names n [] vs none = ap (map (λ s. s.0)) none
  values_names n (s ∷ ss) vs (v, rest, is, at, more) = ap (map (λ s. s.0)) is ∙ ap (λ names. s.name ∷ names) (values_names (suc n) ss rest more)

-- the types of sources are types of the language
are_ground : (ss : List Source) → AllByRecursion (λ s. IsProper s.ty) ss → AreGround (grounds_of ss)
are_ground [] all = tt
are_ground (s ∷ ss) all = (all.0, are_ground ss all.1)

grounds_names : (ss : List Source) → map (λ s. s.0) (grounds_of ss) ≡ names_of ss
grounds_names [] = refl
grounds_names (s ∷ ss) = ap (λ names. s.name ∷ names) (grounds_names ss)

by_place : (G : List (Name × Ground)) (vs : List (Name × Value)) → HaveTypesByName G vs → (i : ℕ) (t : Ground) → slice_get (map (λ p. p.1) G) i ≡ Some t → (v : Value) × (slice_get (map (λ p. p.1) vs) i ≡ Some v) × Inhabits t v
by_place [] [] have i t is = absurd cc
by_place [] (c ∷ vs) have i t is = absurd have
by_place (b ∷ G) [] have i t is = absurd have
by_place (b ∷ G) (c ∷ vs) have zero t is = (c.1, refl, subst (λ u. Inhabits u c.1) (same_Some _ _ is) have.1)
by_place (b ∷ G) (c ∷ vs) have (suc i) t is = by_place G vs have.2 i t is

-- ---- a program that has types

pub tidied : (names : List Name) (s : Scoped) → WasInScope names s → IsTidyProgram (decls_of s.program.defs) (view s.program.last)
tidied names s scope = resolved_tidy scope.0 names s scope.1

run_has : (first : Option ℕ) (end : Ending) → IsOneOf HasRunFault end → IsOneOf (HasTextFault (purpose.Run first)) end
run_has first None has = tt
run_has first (Some fault.Overflow) has = tt
run_has first (Some fault.Read) has = tt
run_has first (Some (fault.Changed name)) has = tt
run_has first (Some fault.Write) has = tt
run_has first (Some fault.NoMemory) has = tt
run_has first (Some fault.Usage) has = has
run_has first (Some (fault.Text w byte)) has = tt
run_has first (Some (fault.IllTyped decl)) has = tt
run_has first (Some (fault.Catalogue byte)) has = has
run_has first (Some (fault.NameTwice name)) has = has
run_has first (Some (fault.NoDriver name)) has = has
run_has first (Some (fault.Unsuited name)) has = has
run_has first (Some (fault.BadFile place)) has = has
run_has first (Some (fault.NoType byte)) has = has
run_has first (Some (fault.BadSource name place)) has = tt
run_has first (Some fault.ProgramBytes) has = has
run_has first (Some fault.CatalogueBytes) has = has
run_has first (Some fault.FileBytes) has = tt
run_has first (Some fault.Nesting) has = tt
run_has first (Some fault.ItemNesting) has = tt
run_has first (Some fault.TermNodes) has = tt
run_has first (Some fault.TermDepth) has = tt
run_has first (Some fault.SchemeBytes) has = absurd has

run_unread : (f : Fault) → HasRunFault f → IsUnreadFault f → ⊥
run_unread f has is = unread_cases (λ g. HasRunFault g → ⊥) (λ name place h. h) (λ h. h) (λ h. h) f is has

run_needs : (first : Option ℕ) (end : Ending) → IsOneOf HasRunFault end → IsDetermined end → NeedsDrivers (purpose.Run first) end
run_needs first None has told = tt
run_needs first (Some fault.Overflow) has told = tt
run_needs first (Some fault.Read) has told = absurd told
run_needs first (Some fault.Write) has told = absurd told
run_needs first (Some fault.NoMemory) has told = absurd told
run_needs first (Some (fault.Changed name)) has told = absurd told
run_needs first (Some fault.Usage) has told = absurd has
run_needs first (Some (fault.Text w byte)) has told = absurd has
run_needs first (Some (fault.IllTyped decl)) has told = absurd has
run_needs first (Some (fault.Catalogue byte)) has told = absurd has
run_needs first (Some (fault.NameTwice name)) has told = absurd has
run_needs first (Some (fault.NoDriver name)) has told = absurd has
run_needs first (Some (fault.Unsuited name)) has told = absurd has
run_needs first (Some (fault.BadFile place)) has told = absurd has
run_needs first (Some (fault.NoType byte)) has told = absurd has
run_needs first (Some (fault.BadSource name place)) has told = absurd has
run_needs first (Some fault.ProgramBytes) has told = absurd has
run_needs first (Some fault.CatalogueBytes) has told = absurd has
run_needs first (Some fault.FileBytes) has told = absurd has
run_needs first (Some fault.Nesting) has told = absurd has
run_needs first (Some fault.ItemNesting) has told = absurd has
run_needs first (Some fault.TermNodes) has told = absurd has
run_needs first (Some fault.TermDepth) has told = absurd has
run_needs first (Some fault.SchemeBytes) has told = absurd has

module _ (ss : List Source) (program : Decls) (e : Exp) (typed : Typed) (infers : Infers program e (grounds_of ss) typed) where
  gives : IsListScheme typed.result → GivesList (grounds_of ss) program e
  gives lists u of = lists u ((infers.result.instances u).1 of)

  lists : GivesList (grounds_of ss) program e → IsListScheme typed.result
  lists of u is = of u ((infers.result.instances u).0 is)

  -- a program that gives a list is found to
  pub given_list : (listed : Bool) → (listed ≡ false → IsListScheme typed.result → ⊥) → GivesList (grounds_of ss) program e → listed ≡ true
  given_list true other of = refl
  given_list false other of = absurd (other refl (lists of))

  outcome_is : (listed : Bool) → (listed ≡ true → IsListScheme typed.result) → (listed ≡ false → IsListScheme typed.result → ⊥) → (first : Option ℕ) (o : Outcome) (v : Verdict) → IsTermOutcome listed first o v → verdict.IsOutcome (grounds_of ss) first program e o v
  outcome_is true of other first (done x) v is = is
  outcome_is true of other first (over xs) v is = inl (gives (of refl), is)
  outcome_is true of other first stuck v is = is
  outcome_is false of other first (done x) v is = is
  outcome_is false of other first (over xs) v is = inr (λ given. other refl (lists given), is)
  outcome_is false of other first stuck v is = is

  -- the term, over a session of the sources
  module _ (tidy : IsTidyProgram program e) (proper : AllByRecursion (λ s. IsProper s.ty) ss) (names : List Name) (kept : names ≡ names_of ss) (t : Tree) (is : t ≡ term_of program e names) (ks : List DriverKind) (marks : ℕ → Bool) (w : World) (serves : Serves ks marks ss w) where
    types_same : types_of w ≡ program_types (grounds_of ss)
    types_same = fun_ext serves.types

    sense : (u : Ground) → ProgramTypes program e (grounds_of ss) u → CoreTypes (types_of w) [] t u
    sense u of =
        subst (λ S. CoreTypes S [] t u) (sym types_same)
        (subst (λ x. CoreTypes (program_types (grounds_of ss)) [] x u) (sym (is ∙ ap (term_of program e) (kept ∙ sym (grounds_names ss)))) (makes_sense program e (grounds_of ss) u (are_ground ss proper) tidy of))

    -- the result has types of lists alone where the term has
    pub scheme_lists : ((u : Ground) → CoreTypes (types_of w) [] t u → (s : Ground) × (u ≡ types.coll kind.List s)) → IsListScheme typed.result
    scheme_lists all u instance = all u (sense u ((infers.result.instances u).0 instance))

    pub value_sense : (s : Ground) × CoreTypes (types_of w) [] t s
    value_sense = (infers.result.has_one.0, sense infers.result.has_one.0 infers.result.has_one.1)

    pub list_sense : IsListScheme typed.result → IsListTerm (types_of w) t
    list_sense of =
        let list = gives of infers.result.has_one.0 infers.result.has_one.1 in
        (list.0, subst (CoreTypes (types_of w) [] t) list.1 (sense infers.result.has_one.0 infers.result.has_one.1))

    -- its sources have values
    module _ (means : Means program e names t) (vs : List (Name × Value)) (have : HaveValues ks marks 0 ss vs) (inhabit : HaveTypesByName (grounds_of ss) vs) where
      sources_have : HaveSources (types_of w) (values_of w)
      sources_have i u at =
          let found = by_place (grounds_of ss) vs inhabit i u (sym (serves.types i) ∙ at) in
          (found.0, serves.values vs have i ∙ found.1, found.2)

      core_is : core (values_of w) t [] ≡ meaning_of_program program e vs
      core_is =
          let values_same : values_of w ≡ tables_of vs = fun_ext (serves.values vs have) in
          ap (λ T. core T t []) values_same
          ∙ means vs (values_names ks marks 0 ss vs have ∙ sym kept) (never_stuck program e (grounds_of ss) vs infers.result.has_one.0 tidy inhabit infers.result.has_one.1)

-- What a term came to whose sources are attached is what the program comes to.
module _ (ss : List Source) (program : Decls) (e : Exp) (typed : Typed) (infers : Infers program e (grounds_of ss) typed) (tidy : IsTidyProgram program e) (names : List Name) (kept : names ≡ names_of ss) (t : Tree) (is : t ≡ term_of program e names)
    (means : Means program e names t) (ds : List State) (marks : ℕ → Bool) (w : World) (serves : Serves (kinds_of ds) marks ss w) (placed : ArePlaced (kinds_of ds) ss) (steps : EachSteps (MayAttach marks ss) ds w.drivers)
    (stand : (i : ℕ) (s : Source) → slice_get ss i ≡ Some s → marks i ≡ true → Stands (kinds_of ds) w.drivers s) (listed : Bool) (of : listed ≡ true → IsListScheme typed.result) (other : listed ≡ false → IsListScheme typed.result → ⊥)
    (first : Option ℕ) (end : Ending) (files : FilesState) (last : List State) (out out' : SinkState) (p : Node) (answers : AnswersTerm (listed ≡ true) (IsTermOutcome listed first (core (values_of w) t [])) (HaveSources (types_of w) (values_of w)) end (plan_over w p) (outside_of files w.drivers out) (outside_of files last out')) (list_is : w.sources ≡ list_of marks 0 ss) where
  kept_first : KeepsDrivers (IsNamed ss marks) ds w.drivers
  kept_first = attach_keeps ss marks ds w.drivers steps

  answered_ends : ((vs : List (Name × Value)) × HaveValues (kinds_of ds) marks 0 ss vs) ⊎ NoVerdict (kinds_of ds) marks ss → CameTo (run_matter (kinds_of ds) ss marks first program e) end (outside_of files ds out) (outside_of files last out')
  answered_ends (inl (vs, have)) =
      let inhabit : HaveTypesByName (grounds_of ss) vs =
      values_typed (kinds_of ds) marks 0 ss vs (λ i s at. (of_all (IsFit (kinds_of ds)) ss i s placed.fit at).2.collection) (λ i s at marked. (stand i s at (ap marks (sym (zero-add i)) ∙ marked)).typed) have in
      let found = answers.follows (sources_have ss program e typed infers tidy placed.proper names kept t is (kinds_of ds) marks w serves means vs have inhabit) in
      let meant : IsTermOutcome listed first (meaning_of_program program e vs) found.0 = subst (λ o. IsTermOutcome listed first o found.0) (core_is ss program e typed infers tidy placed.proper names kept t is (kinds_of ds) marks w serves means vs have inhabit) found.1 in
      followed found.0 (inr (vs, have, outcome_is ss program e typed infers listed of other first (meaning_of_program program e vs) found.0 meant))
      (follows_since (IsNamed ss marks) ds w.drivers last kept_first found.0 end files out out' found.2)
  answered_ends (inr lacks) = untold (none_meant ss marks first program e ds lacks) (none_told ss marks first program e ds lacks) (run_needs first end answers.no_other)

  drifted : (name : Name) → DriftsAt (plan_over w p) name w.drivers last → SomeDrifted ss (λ x. IsNamed ss marks x × (x ≡ name)) ds last
  drifted name (i, a, place, at, named, held, rose, scanned) =
      let s = listed_source marks 0 ss i a place (ap (λ l. slice_get l i) (sym list_is) ∙ at) held in
      let of : IsNamed ss marks s.0.name = (i, get-map (λ (s : Source). s.name) ss i s.0 s.1, ap marks (sym (zero-add i)) ∙ s.2) in
      let since : RoseAt place (λ d. d.drifts) ds last = rose_at_since (IsNamed ss marks) ds w.drivers last kept_first (λ d. d.drifts) (λ a b keeps. keeps.drifts) place rose in
      (i, s.0, s.1, (of, s.3 ∙ named), subst (λ p. RoseAt p (λ d. d.drifts) ds last) (sym s.4) since)

  pub term_done : ((vs : List (Name × Value)) × HaveValues (kinds_of ds) marks 0 ss vs) ⊎ NoVerdict (kinds_of ds) marks ss → DoneMeaning ss marks first program e end (outside_of files ds out) (outside_of files last out')
  term_done values = record {
    ends = answered_ends values;
    read = λ is. inr (rose_since (IsNamed ss marks) ds w.drivers last kept_first (λ d. d.faults) (λ a b keeps. keeps.faults) (answers.read is));
    write = answers.write;
    unread = λ f is un. absurd (run_unread f (subst (IsOneOf HasRunFault) is answers.no_other) un);
    changed = λ name is. drifted name (answers.changed name is);
    no_other = run_has first end answers.no_other;
    nothing = λ is. answers.nothing (unprinted_on (listed ≡ true) (GivesList (grounds_of ss) program e) (λ h. gives ss program e typed infers (of h)) end is);
    drivers = keeps_through (IsNamed ss marks) ds w.drivers last kept_first answers.drivers;
    still = λ none. absurd (none tt);
  }

-- ---- the plan of a program's term

-- what a program's term is rewritten to makes sense over the sources
pub planned_sense : (ss : List Source) (s : Scoped) (ks : List DriverKind) (scope : WasInScope (names_of ss) s) (typed : Typed) (infers : Infers (decls_of s.program.defs) (view s.program.last) (grounds_of ss) typed) (proper : AllByRecursion (λ s. IsProper s.ty) ss)
    (t u : Tree) → t ≡ term_of (decls_of s.program.defs) (view s.program.last) s.sources → Preserves t u → MakesSense (ships_of ks ss) u
planned_sense ss s ks scope typed infers proper t u is keeps =
    let one = infers.result.has_one in
    let names : s.sources ≡ names_of ss = scope.1.sources_kept in
    let types : CoreTypes (program_types (grounds_of ss)) [] t one.0 =
    subst (λ x. CoreTypes (program_types (grounds_of ss)) [] x one.0) (sym (is ∙ ap (term_of (decls_of s.program.defs) (view s.program.last)) (names ∙ sym (grounds_names ss))))
    (makes_sense (decls_of s.program.defs) (view s.program.last) (grounds_of ss) one.0 (are_ground ss proper) (tidied (names_of ss) s scope) one.1) in
    plan_sense ks ss (program_types (grounds_of ss)) t u (λ i. refl) keeps (one.0, types)

-- ---- a session of the sources

-- drivers that were taken out of a place are those that stood there
pub attaches_same : {A : Type 0} (f : A → State) (xs ys : Vec A Global) (marks : ℕ → Bool) (ss : List Source) (r : Result (List Attached) AttachError) (ds : List State) → xs ≡ ys → AttachesAll marks ss r ds (map f ys.items) → AttachesAll marks ss r ds (map f xs.items)
attaches_same f xs ys marks ss r ds same attaches = subst (λ zs. AttachesAll marks ss r ds (map f zs.items)) (sym same) attaches

module _ (ss : List Source) (s : Scoped) (scope : WasInScope (names_of ss) s) (typed : Typed) (infers : Infers (decls_of s.program.defs) (view s.program.last) (grounds_of ss) typed) (t : Tree) (is : t ≡ term_of (decls_of s.program.defs) (view s.program.last) s.sources)
    (ds mid : List State) (placed : ArePlaced (kinds_of ds) ss) (list : List Attached) (attaches : AttachesAll (is_marked s) ss (Ok list) ds mid) (settings : Settings) (trace : Trace) (fetch : 0 < settings.fetch) where
  session_serves : Serves (kinds_of ds) (is_marked s) ss (world_of mid list settings trace)
  session_serves = attaches.ready settings trace fetch

  session_sense : (u : Ground) × CoreTypes (types_of (world_of mid list settings trace)) [] t u
  session_sense = value_sense ss (decls_of s.program.defs) (view s.program.last) typed infers (tidied (names_of ss) s scope) placed.proper s.sources scope.1.sources_kept t is (kinds_of ds) (is_marked s) (world_of mid list settings trace) session_serves

  -- where the sources that it mentions are told, so are those of the session
  pub session_told : (means : Means (decls_of s.program.defs) (view s.program.last) s.sources t) (vs : List (Name × Value)) → HaveValues (kinds_of ds) (is_marked s) 0 ss vs
      → HaveSources (types_of (world_of mid list settings trace)) (values_of (world_of mid list settings trace))
  session_told means vs have =
      sources_have ss (decls_of s.program.defs) (view s.program.last) typed infers (tidied (names_of ss) s scope) placed.proper s.sources scope.1.sources_kept t is (kinds_of ds) (is_marked s) (world_of mid list settings trace) session_serves means vs have
      (values_typed (kinds_of ds) (is_marked s) 0 ss vs (λ i s at. (of_all (IsFit (kinds_of ds)) ss i s placed.fit at).2.collection) (λ i x at marked. (attaches.stand i x at (ap (is_marked s) (sym (zero-add i)) ∙ marked)).typed) have)

  -- the plan of what the term is rewritten to runs there
  pub plan_runs : (idle : All IsIdle ds) (mentioned : ReadsMentioned s t) (u : Tree) (p : Node) → Preserves t u → IsPlanOf settings (ships_of (kinds_of ds) ss) u p → 0 < settings.block → Runs (kinds_of ds) ss (is_marked s) t p (fresh_run p (world_of mid list settings trace))
  plan_runs idle mentioned u p keeps planned block =
      session_runs ds mid ss (is_marked s) settings trace (world_of mid list settings trace) t u p placed (idle_none ds idle) attaches.drivers attaches.stand session_serves
      (ap (λ l. world_of mid l settings trace) attaches.list) session_sense (mentioned scope.0 (names_of ss) scope.1) keeps planned block

  pub session_lists : (listed : Bool) → (listed ≡ false → IsListScheme typed.result → ⊥) → ((u : Ground) → CoreTypes (types_of (world_of mid list settings trace)) [] t u → (s : Ground) × (u ≡ types.coll kind.List s)) → listed ≡ true
  session_lists true other all = refl
  session_lists false other all =
      absurd (other refl (scheme_lists ss (decls_of s.program.defs) (view s.program.last) typed infers (tidied (names_of ss) s scope) placed.proper s.sources scope.1.sources_kept t is (kinds_of ds) (is_marked s) (world_of mid list settings trace) session_serves all))

  module _ (listed : Bool) (of : listed ≡ true → IsListScheme typed.result) where
    pub session_list : listed ≡ true → IsListTerm (types_of (world_of mid list settings trace)) t
    session_list true_is =
        list_sense ss (decls_of s.program.defs) (view s.program.last) typed infers (tidied (names_of ss) s scope) placed.proper s.sources scope.1.sources_kept t is (kinds_of ds) (is_marked s) (world_of mid list settings trace) session_serves (of true_is)

    pub session_done : (means : Means (decls_of s.program.defs) (view s.program.last) s.sources t) (other : listed ≡ false → IsListScheme typed.result → ⊥) (first : Option ℕ) (end : Ending) (files : FilesState) (last : List State) (out out' : SinkState) (p : Node)
        → AnswersTerm (listed ≡ true) (IsTermOutcome listed first (core (values_of (world_of mid list settings trace)) t [])) (HaveSources (types_of (world_of mid list settings trace)) (values_of (world_of mid list settings trace))) end (plan_over (world_of mid list settings trace) p) (outside_of files mid out) (outside_of files last out')
        → DoneMeaning ss (is_marked s) first (decls_of s.program.defs) (view s.program.last) end (outside_of files ds out) (outside_of files last out')
    session_done means other first end files last out out' p answers =
        term_done ss (decls_of s.program.defs) (view s.program.last) typed infers (tidied (names_of ss) s scope) s.sources scope.1.sources_kept t is means ds (is_marked s) (world_of mid list settings trace) session_serves placed attaches.drivers
        attaches.stand listed of other first end files last out out' p answers attaches.list attaches.values

-- no source changes where it is attached
pub attach_unchanged : (ss : List Source) (marks : ℕ → Bool) (first : Option ℕ) (program : Decls) (exp : Exp) (files : FilesState) (ds mid : List State) (out : SinkState) (e : AttachError) (f : Fault) (name : Name) → AttachesAll marks ss (Err e) ds mid → f ≡ fault_of e.source e.error → Some f ≡ Some (fault.Changed name) → ⊥
attach_unchanged ss marks first program exp files ds mid out e f name attaches same is =
    refused_never ss marks first program exp files ds mid out e attaches.cause (fault.Changed name) (ap Some (sym same) ∙ is) (λ h. h)

pub attach_failed : (ss : List Source) (marks : ℕ → Bool) (first : Option ℕ) (program : Decls) (exp : Exp) (files : FilesState) (ds mid : List State) (out : SinkState) (e : AttachError) (f : Fault) → AttachesAll marks ss (Err e) ds mid → f ≡ fault_of e.source e.error → DoneMeaning ss marks first program exp (Some f) (outside_of files ds out) (outside_of files mid out)
attach_failed ss marks first program exp files ds mid out e f attaches same =
    subst (λ g. DoneMeaning ss marks first program exp (Some g) (outside_of files ds out) (outside_of files mid out)) (sym same) (attach_refused ss marks first program exp files ds mid out e attaches.cause attaches.drivers)
