-- What the outcome of a program's term tells of the program.
use Rattle.std.proofs.Common.{◌≡◌, ◌≢◌, inl, inr, ℕ, Bool, true, false, if◌then◌else◌, List, [], Option, Some, None, refl, sym, subst, ◌∙◌}
use Rattle.std.specs.Bool.{⊤}
use Rattle.std.proofs.lemmas.Option.{same_Some}
use Rattle.kl_outside.specs.Files.{FilesState}
use Rattle.kl_outside.specs.Counts.{Rose}
use Rattle.kl_outside.specs.Sinks.{SinkState, TookPart}
use Rattle.kl_outside.proofs.SinkLemmas.{took_none}
use Rattle.kl_value.specs.declared.Value.{Value}
use Rattle.kl_value.specs.declared.Value.TheVariants as value
use Rattle.kl_value.specs.declared.Kind.{Kind}
use Rattle.kl_value.specs.declared.Kind.TheVariants as kind
use Rattle.kl_type.specs.Ground.{Ground}
use Rattle.kl_rows.specs.declared.Scheme.{Scheme}
use Rattle.kl_rows.specs.Schemes.{IsScheme, Instance}
use Rattle.kl_outcome.specs.Outcome.{Outcome, done, over, stuck}
use Rattle.kl_ask.specs.Driver.{State}
use Rattle.kl_infer.specs.Kinds.{HasOther}
use Rattle.kl_engine.specs.Answering.{SomeRose, KeepsDrivers, IsOutside, reading, writing, drifting, wanting, PrintsPage, IsOneOf, EndsSilent, Unprinted}
use Rattle.kl_engine.specs.Faults.{Ending}
use Rattle.kl_engine.specs.Outside.{outside_of}
use Rattle.kl_engine.specs.Running.{AnswersTerm, DriftsAt, HasRunFault, IsListScheme, IsValueOutcome, PlanOver}
use Rattle.kl_engine.specs.Verdict.{Verdict, value_page, refused, cut, first_of, overflowing}
use Rattle.kl_engine.specs.declared.fault.Fault.{Fault}
use Rattle.kl_engine.specs.declared.fault.Fault.TheVariants as fault
use Rattle.kl_engine.proofs.DoneLemmas.{follows_prints}
use Rattle.kl_engine.proofs.SilentLemmas.{silent_of}

-- ---- ends of a run

-- how a term's outcome may end: well, or with an overflow
abbrev pub IsRunEnd : Ending → Type 0
IsRunEnd None = ⊤
IsRunEnd (Some fault.Overflow) = ⊤
IsRunEnd (Some f) = ⊥

-- an end before which nothing is printed and that no outcome has
abbrev pub IsStopped : PlanOver → Fault → List State → List State → Type 0
IsStopped run fault.Read ds ds' = SomeRose (λ d. d.faults) ds ds'
IsStopped run (fault.Changed name) ds ds' = DriftsAt run name ds ds'
IsStopped run fault.NoMemory ds ds' = ⊤
IsStopped run f ds ds' = ⊥

module _ (run : PlanOver) (files : FilesState) (ds ds' : List State) (out out' : SinkState) where
  stopped_outside : (v : Verdict) (f : Fault) → IsStopped run f ds ds' → IsOutside v (Some f) (outside_of files ds out) (outside_of files ds' out')
  stopped_outside v fault.Read rose = reading refl (inr rose)
  stopped_outside v (fault.Changed name) (i, a, place, at, named, held, rose, scanned) = drifting name refl (place, rose)
  stopped_outside v fault.NoMemory rose = wanting refl
  stopped_outside v fault.Usage rose = absurd rose
  stopped_outside v (fault.Text w byte) rose = absurd rose
  stopped_outside v (fault.IllTyped decl) rose = absurd rose
  stopped_outside v (fault.Catalogue byte) rose = absurd rose
  stopped_outside v (fault.NameTwice name) rose = absurd rose
  stopped_outside v (fault.NoDriver name) rose = absurd rose
  stopped_outside v (fault.Unsuited name) rose = absurd rose
  stopped_outside v (fault.BadFile place) rose = absurd rose
  stopped_outside v (fault.NoType byte) rose = absurd rose
  stopped_outside v (fault.BadSource name place) rose = absurd rose
  stopped_outside v fault.Overflow rose = absurd rose
  stopped_outside v fault.Write rose = absurd rose
  stopped_outside v fault.ProgramBytes rose = absurd rose
  stopped_outside v fault.CatalogueBytes rose = absurd rose
  stopped_outside v fault.FileBytes rose = absurd rose
  stopped_outside v fault.Nesting rose = absurd rose
  stopped_outside v fault.ItemNesting rose = absurd rose
  stopped_outside v fault.TermNodes rose = absurd rose
  stopped_outside v fault.TermDepth rose = absurd rose
  stopped_outside v fault.SchemeBytes rose = absurd rose

  stopped_end : (f : Fault) → IsStopped run f ds ds' → IsRunEnd (Some f) → ⊥
  stopped_end fault.Overflow rose is = rose
  stopped_end fault.Read rose is = is
  stopped_end (fault.Changed name) rose is = is
  stopped_end fault.NoMemory rose is = is
  stopped_end fault.Usage rose is = is
  stopped_end (fault.Text w byte) rose is = is
  stopped_end (fault.IllTyped decl) rose is = is
  stopped_end (fault.Catalogue byte) rose is = is
  stopped_end (fault.NameTwice name) rose is = is
  stopped_end (fault.NoDriver name) rose is = is
  stopped_end (fault.Unsuited name) rose is = is
  stopped_end (fault.BadFile place) rose is = is
  stopped_end (fault.NoType byte) rose is = is
  stopped_end (fault.BadSource name place) rose is = is
  stopped_end fault.Write rose is = is
  stopped_end fault.ProgramBytes rose is = is
  stopped_end fault.CatalogueBytes rose is = is
  stopped_end fault.FileBytes rose is = is
  stopped_end fault.Nesting rose is = is
  stopped_end fault.ItemNesting rose is = is
  stopped_end fault.TermNodes rose is = is
  stopped_end fault.TermDepth rose is = is
  stopped_end fault.SchemeBytes rose is = is

  stopped_fault : (f : Fault) → IsStopped run f ds ds' → HasRunFault f
  stopped_fault fault.Read rose = tt
  stopped_fault (fault.Changed name) rose = tt
  stopped_fault fault.NoMemory rose = tt
  stopped_fault fault.Overflow rose = tt
  stopped_fault fault.Write rose = tt
  stopped_fault fault.Usage rose = rose
  stopped_fault (fault.Text w byte) rose = rose
  stopped_fault (fault.IllTyped decl) rose = rose
  stopped_fault (fault.Catalogue byte) rose = rose
  stopped_fault (fault.NameTwice name) rose = rose
  stopped_fault (fault.NoDriver name) rose = rose
  stopped_fault (fault.Unsuited name) rose = rose
  stopped_fault (fault.BadFile place) rose = rose
  stopped_fault (fault.NoType byte) rose = rose
  stopped_fault (fault.BadSource name place) rose = rose
  stopped_fault fault.ProgramBytes rose = rose
  stopped_fault fault.CatalogueBytes rose = rose
  stopped_fault fault.FileBytes rose = rose
  stopped_fault fault.Nesting rose = rose
  stopped_fault fault.ItemNesting rose = rose
  stopped_fault fault.TermNodes rose = rose
  stopped_fault fault.TermDepth rose = rose
  stopped_fault fault.SchemeBytes rose = rose

-- ---- a term's outcome, where it is printed or something came before

module _ (Lists : Type 0) (IsOut : Verdict → Type 0) (told : Type 0) (run : PlanOver) (files : FilesState) (ds ds' : List State) (keeps : KeepsDrivers (λ name. ⊥) ds ds') where
  -- a fault of the outside came, and nothing was printed
  pub term_stopped : (f : Fault) (out : SinkState) → IsStopped run f ds ds' → (told → (v : Verdict) × IsOut v × IsRunEnd v.ending) → AnswersTerm Lists IsOut told (Some f) run (outside_of files ds out) (outside_of files ds' out)
  term_stopped f out rose some = record {
    follows = λ is. let found = some is in (
      found.0,
      found.1,
      record {
        ends = inr (stopped_outside run files ds ds' out out found.0 f rose);
        whole = λ same. absurd (stopped_end run files ds ds' out out f rose (subst IsRunEnd (sym same) found.2));
        part = took_none found.0.page out out refl;
      },
    );
    read = λ is. subst (λ g. IsStopped run g ds ds') (same_Some f fault.Read is) rose;
    write = λ is. absurd (subst (λ g. IsStopped run g ds ds') (same_Some f fault.Write is) rose);
    changed = λ name is. subst (λ g. IsStopped run g ds ds') (same_Some f (fault.Changed name) is) rose;
    no_other = stopped_fault run files ds ds' out out f rose;
    nothing = λ is. refl;
    drivers = keeps;
  }

  -- a fault of the outside came behind items of a list
  stopped_speaks : Lists → (f : Fault) → IsStopped run f ds ds' → Unprinted Lists (Some f) → ⊥
  stopped_speaks lists fault.Usage rose is = rose
  stopped_speaks lists (fault.Text w byte) rose is = rose
  stopped_speaks lists (fault.IllTyped decl) rose is = rose
  stopped_speaks lists (fault.Catalogue byte) rose is = rose
  stopped_speaks lists (fault.NameTwice name) rose is = rose
  stopped_speaks lists (fault.NoDriver name) rose is = rose
  stopped_speaks lists (fault.Unsuited name) rose is = rose
  stopped_speaks lists (fault.BadFile place) rose is = rose
  stopped_speaks lists (fault.NoType byte) rose is = rose
  stopped_speaks lists (fault.BadSource name place) rose is = rose
  stopped_speaks lists fault.Overflow rose is = rose
  stopped_speaks lists fault.Read rose is = is lists
  stopped_speaks lists (fault.Changed name) rose is = is lists
  stopped_speaks lists fault.Write rose is = rose
  stopped_speaks lists fault.NoMemory rose is = is
  stopped_speaks lists fault.ProgramBytes rose is = rose
  stopped_speaks lists fault.CatalogueBytes rose is = rose
  stopped_speaks lists fault.FileBytes rose is = rose
  stopped_speaks lists fault.Nesting rose is = rose
  stopped_speaks lists fault.ItemNesting rose is = rose
  stopped_speaks lists fault.TermNodes rose is = rose
  stopped_speaks lists fault.TermDepth rose is = rose
  stopped_speaks lists fault.SchemeBytes rose is = rose

  pub term_behind : Lists → (f : Fault) (out out' : SinkState) → IsStopped run f ds ds' → (told → (v : Verdict) × IsOut v × IsRunEnd v.ending × TookPart v.page out out') → AnswersTerm Lists IsOut told (Some f) run (outside_of files ds out) (outside_of files ds' out')
  term_behind lists f out out' rose some = record {
    follows = λ is. let found = some is in (
      found.0,
      found.1,
      record {
        ends = inr (stopped_outside run files ds ds' out out' found.0 f rose);
        whole = λ same. absurd (stopped_end run files ds ds' out out' f rose (subst IsRunEnd (sym same) found.2));
        part = found.3;
      },
    );
    read = λ is. subst (λ g. IsStopped run g ds ds') (same_Some f fault.Read is) rose;
    write = λ is. absurd (subst (λ g. IsStopped run g ds ds') (same_Some f fault.Write is) rose);
    changed = λ name is. subst (λ g. IsStopped run g ds ds') (same_Some f (fault.Changed name) is) rose;
    no_other = stopped_fault run files ds ds' out out' f rose;
    nothing = λ is. absurd (stopped_speaks lists f rose is);
    drivers = keeps;
  }

  pub term_unwritten : (out out' : SinkState) → Rose out.faults out'.faults → (told → (v : Verdict) × IsOut v × IsRunEnd v.ending × (v.page ≢ []) × TookPart v.page out out') → AnswersTerm Lists IsOut told (Some fault.Write) run (outside_of files ds out) (outside_of files ds' out')
  term_unwritten out out' rose some = record {
    follows = λ is. let found = some is in (
      found.0,
      found.1,
      record {
        ends = inr (writing refl rose found.3);
        whole = λ same. absurd (subst IsRunEnd (sym same) found.2);
        part = found.4;
      },
    );
    read = λ is. absurd cc;
    write = λ is. rose;
    changed = λ name is. absurd cc;
    no_other = tt;
    nothing = λ is. absurd is;
    drivers = keeps;
  }

  run_end : (v : Verdict) (f : Fault) → IsRunEnd v.ending → v.ending ≡ Some f → (IsRunEnd (Some f) → ⊥) → ⊥
  run_end v f end is none = none (subst IsRunEnd is end)

  run_fault : (end : Ending) → IsRunEnd end → IsOneOf HasRunFault end
  run_fault None is = tt
  run_fault (Some fault.Overflow) is = tt
  run_fault (Some fault.Read) is = tt
  run_fault (Some fault.Write) is = tt
  run_fault (Some fault.NoMemory) is = tt
  run_fault (Some (fault.Changed name)) is = tt
  run_fault (Some fault.Usage) is = is
  run_fault (Some (fault.Text w byte)) is = is
  run_fault (Some (fault.IllTyped decl)) is = is
  run_fault (Some (fault.Catalogue byte)) is = is
  run_fault (Some (fault.NameTwice name)) is = is
  run_fault (Some (fault.NoDriver name)) is = is
  run_fault (Some (fault.Unsuited name)) is = is
  run_fault (Some (fault.BadFile place)) is = is
  run_fault (Some (fault.NoType byte)) is = is
  run_fault (Some (fault.BadSource name place)) is = is
  run_fault (Some fault.ProgramBytes) is = is
  run_fault (Some fault.CatalogueBytes) is = is
  run_fault (Some fault.FileBytes) is = is
  run_fault (Some fault.Nesting) is = is
  run_fault (Some fault.ItemNesting) is = is
  run_fault (Some fault.TermNodes) is = is
  run_fault (Some fault.TermDepth) is = is
  run_fault (Some fault.SchemeBytes) is = is

  never_before : (end : Ending) → IsRunEnd end → EndsSilent end → ⊥
  never_before None is nothing = nothing
  never_before (Some fault.Overflow) is nothing = nothing
  never_before (Some fault.Write) is nothing = nothing
  never_before (Some fault.NoMemory) is nothing = nothing
  never_before (Some fault.Read) is nothing = is
  never_before (Some (fault.Changed name)) is nothing = is
  never_before (Some fault.Usage) is nothing = is
  never_before (Some (fault.Text w byte)) is nothing = is
  never_before (Some (fault.IllTyped decl)) is nothing = is
  never_before (Some (fault.Catalogue byte)) is nothing = is
  never_before (Some (fault.NameTwice name)) is nothing = is
  never_before (Some (fault.NoDriver name)) is nothing = is
  never_before (Some (fault.Unsuited name)) is nothing = is
  never_before (Some (fault.BadFile place)) is nothing = is
  never_before (Some (fault.NoType byte)) is nothing = is
  never_before (Some (fault.BadSource name place)) is nothing = is
  never_before (Some fault.ProgramBytes) is nothing = is
  never_before (Some fault.CatalogueBytes) is nothing = is
  never_before (Some fault.FileBytes) is nothing = is
  never_before (Some fault.Nesting) is nothing = is
  never_before (Some fault.ItemNesting) is nothing = is
  never_before (Some fault.TermNodes) is nothing = is
  never_before (Some fault.TermDepth) is nothing = is
  never_before (Some fault.SchemeBytes) is nothing = is

  -- the outcome is printed
  pub term_printed : (v : Verdict) (end : Ending) (out out' : SinkState) → IsRunEnd v.ending → (told → IsOut v) → PrintsPage v end out out' → AnswersTerm Lists IsOut told end run (outside_of files ds out) (outside_of files ds' out')
  term_printed v end out out' ended of prints = record {
    follows = λ is. (v, of is, follows_prints v end out out' prints files ds ds');
    read = λ is. absurd (elim prints.ends [
      | inl h ↦ run_end v fault.Read ended (sym h ∙ is) (λ e. e)
      | inr (inl h) ↦ (let two : Some fault.Write ≡ Some fault.Read = sym h.0 ∙ is in cc)
      | inr (inr h) ↦ (let two : Some fault.NoMemory ≡ Some fault.Read = sym h ∙ is in cc)
    ]);
    write = λ is. elim prints.ends [
      | inl h ↦ absurd (run_end v fault.Write ended (sym h ∙ is) (λ e. e))
      | inr (inl h) ↦ h.1
      | inr (inr h) ↦ absurd (let two : Some fault.NoMemory ≡ Some fault.Write = sym h ∙ is in cc)
    ];
    changed = λ name is. absurd (elim prints.ends [
      | inl h ↦ run_end v (fault.Changed name) ended (sym h ∙ is) (λ e. e)
      | inr (inl h) ↦ (let two : Some fault.Write ≡ Some (fault.Changed name) = sym h.0 ∙ is in cc)
      | inr (inr h) ↦ (let two : Some fault.NoMemory ≡ Some (fault.Changed name) = sym h ∙ is in cc)
    ]);
    no_other = elim prints.ends [
      | inl h ↦ subst (IsOneOf HasRunFault) (sym h) (run_fault v.ending ended)
      | inr (inl h) ↦ subst (IsOneOf HasRunFault) (sym h.0) tt
      | inr (inr h) ↦ subst (IsOneOf HasRunFault) (sym h) tt
    ];
    nothing = λ is. absurd (elim prints.ends [
      | inl h ↦ never_before v.ending ended (subst EndsSilent h (silent_of Lists end is))
      | inr (inl h) ↦ subst EndsSilent h.0 (silent_of Lists end is)
      | inr (inr h) ↦ subst EndsSilent h (silent_of Lists end is)
    ]);
    drivers = keeps;
  }

-- ---- what an outcome comes to

pub cut_end : (first : Option ℕ) (enough : Bool) (vs : List Value) → IsRunEnd (if enough then value_page (value.List (first_of first vs)) else overflowing vs).ending
cut_end first true vs = tt
cut_end first false vs = tt

pub value_verdict : (first : Option ℕ) (o : Outcome) → o ≢ stuck → (v : Verdict) × IsValueOutcome first o v × IsRunEnd v.ending
value_verdict first (done x) makes = (value_page (cut first x), refl, tt)
value_verdict first (over vs) makes = (refused fault.Overflow, refl, tt)
value_verdict first stuck makes = absurd (makes refl)

-- the value of an outcome
pub value_is : (first : Option ℕ) (o : Outcome) (w : Value) → o ≡ done w → IsValueOutcome first o (value_page (cut first w))
value_is first o w is = subst (λ p. IsValueOutcome first p (value_page (cut first w))) (sym is) refl

pub value_past : (first : Option ℕ) (o : Outcome) (vs : List Value) → o ≡ over vs → IsValueOutcome first o (refused fault.Overflow)
value_past first o vs is = subst (λ p. IsValueOutcome first p (refused fault.Overflow)) (sym is) refl

-- ---- the kind of a result

pub other_told : (scheme : Scheme) (r : Option Kind) → (r ≡ Some kind.List → ⊥)
    → ((k : Kind) → IsScheme scheme → (t : Ground) → Instance scheme t → (r ≡ Some k → ⊥) → HasOther scheme k) → IsScheme scheme → (t : Ground) × Instance scheme t → IsListScheme scheme → ⊥
other_told scheme r differs others good some lists =
    let other = others kind.List good some.0 some.1 differs in
    let list = lists other.0 other.1 in
    other.2 list.0 list.1
