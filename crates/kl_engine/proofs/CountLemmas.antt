-- The plan of a program that is run, and what is counted.
use Rattle.std.proofs.Common.{◌≡◌, ◌⊎◌, inl, inr, ℕ, List, [], Option, Some, None, Ok, Err, refl, sym, ap, subst}
use Rattle.kl_outside.specs.Sinks.{SinkState}
use Rattle.kl_outside.specs.Counts.{Rose}
use Rattle.kl_outside.specs.Files.{FilesState}
use Rattle.kl_outcome.specs.Outcome.{Name}
use Rattle.kl_type.specs.Ground.{Ground}
use Rattle.kl_syntax.specs.Syntax.{Decls, Exp}
use Rattle.kl_syntax.specs.View.{view, decls_of}
use Rattle.kl_scope.specs.Breaches.{is_marked}
use Rattle.kl_scope.specs.Sizes.{declared}
use Rattle.kl_scope.specs.declared.scoped.Scoped.{Scoped}
use Rattle.kl_desugar.specs.Translation.{term_of}
use Rattle.kl_ask.specs.Driver.{DriverKind, State}
use Rattle.kl_ask.specs.Settings.{usual_settings}
use Rattle.kl_ask.specs.declared.settings.Settings.{Settings}
use Rattle.kl_ask.specs.declared.settings.Trace.{Trace}
use Rattle.kl_plan.specs.Nodes.{Node, view as plan_view}
use Rattle.kl_plan.specs.declared.plan.Plan.{Plan}
use Rattle.kl_run.specs.Planned.{ships_of}
use Rattle.kl_sources.specs.Sources.{grounds_of, kinds_of, names_of}
use Rattle.kl_sources.specs.declared.source.Source.{Source}
use Rattle.kl_words.specs.declared.command.Command.{Command as Read}
use Rattle.kl_words.specs.declared.command.Command.TheVariants as read
use Rattle.kl_words.specs.declared.command.Job.{Job}
use Rattle.kl_ask.specs.declared.ask.DriverError.{DriverError}
use Rattle.kl_ask.specs.declared.ask.DriverError.TheVariants as error
use Rattle.kl_engine.specs.Answering.{DoesText, IsOneOf}
use Rattle.kl_engine.specs.Commands.{Command, Origin, Files, Made, Program, asked}
use Rattle.kl_engine.specs.Faults.{Ending}
use Rattle.kl_engine.specs.Inputs.{IsInputsEnd, ReadsInputs}
use Rattle.kl_engine.specs.Outside.{outside_of}
use Rattle.kl_engine.specs.Reading.{ReadsText}
use Rattle.kl_engine.specs.Planned.{AsksOf, CountsPlan, Course, HasPlan, IsEarly, IsShown, IsUndone, IsUnrun, LacksInput, MayBeEarly, MayStop, PlanOf, PlansTerm, PlansText, Rests, RunsPlan, course_of, how_in, how_of, plan_in, usual_how}
use Rattle.kl_engine.specs.Verdict.{GivesList}
use Rattle.kl_engine.specs.declared.run.How.{How}
use Rattle.kl_engine.specs.declared.run.Ran.{Ran}
use Rattle.kl_engine.specs.Running.{HasRunFault, fault_of}
use Rattle.kl_engine.specs.Typing.{AnswersTypes}
use Rattle.kl_engine.specs.declared.fault.Fault.{Fault}
use Rattle.kl_engine.specs.declared.fault.Fault.TheVariants as fault
use Rattle.kl_engine.specs.declared.inputs.Inputs.{Inputs}
use Rattle.kl_engine.specs.declared.top.Purpose.TheVariants as purpose
use Rattle.kl_engine.proofs.DoneLemmas.{as_resolved}
use Rattle.kl_engine.proofs.ProgramLemmas.{no_files, read_missing}
use Rattle.kl_engine.proofs.ReadLemmas.{any_fault}
use Rattle.kl_engine.proofs.SizeLemmas.{sized_faults}

-- ---- ends before a term is rewritten

pub inputs_early : (command : Command) (from : Origin) (f : Fault) (files files' : FilesState) (ks : List DriverKind) → (f ≡ fault.Read → LacksInput command files ks ⊎ Rose files.faults files'.faults) → IsInputsEnd from f → MayBeEarly command (Some f) files files' ks
inputs_early command from fault.Read files files' ks read is = read refl
inputs_early command from fault.NoMemory files files' ks read is = tt
inputs_early command from fault.ProgramBytes files files' ks read is = tt
inputs_early command from fault.CatalogueBytes files files' ks read is = tt
inputs_early command from (fault.Catalogue byte) files files' ks read is = tt
inputs_early command from fault.Nesting files files' ks read is = tt
inputs_early command from (fault.NameTwice name) files files' ks read is = tt
inputs_early command from (fault.NoDriver name) files files' ks read is = tt
inputs_early command from (fault.Unsuited name) files files' ks read is = tt
inputs_early command from fault.Usage files files' ks read is = tt
inputs_early command from (fault.Text w byte) files files' ks read is = tt
inputs_early command from fault.TermNodes files files' ks read is = tt
inputs_early command from fault.TermDepth files files' ks read is = tt
inputs_early command from (fault.IllTyped decl) files files' ks read is = tt
inputs_early command (Files path catalogue) (fault.BadFile place) files files' ks read is = absurd is
inputs_early command (Files path catalogue) (fault.NoType byte) files files' ks read is = absurd is
inputs_early command (Made seed size) (fault.BadFile place) files files' ks read is = absurd is
inputs_early command (Made seed size) (fault.NoType byte) files files' ks read is = absurd is
inputs_early command (Files path catalogue) (fault.BadSource name place) files files' ks read is = absurd is
inputs_early command (Made seed size) (fault.BadSource name place) files files' ks read is = absurd is
inputs_early command (Files path catalogue) fault.Overflow files files' ks read is = absurd is
inputs_early command (Made seed size) fault.Overflow files files' ks read is = absurd is
inputs_early command (Files path catalogue) fault.Write files files' ks read is = absurd is
inputs_early command (Made seed size) fault.Write files files' ks read is = absurd is
inputs_early command (Files path catalogue) (fault.Changed name) files files' ks read is = absurd is
inputs_early command (Made seed size) (fault.Changed name) files files' ks read is = absurd is
inputs_early command (Files path catalogue) fault.FileBytes files files' ks read is = absurd is
inputs_early command (Made seed size) fault.FileBytes files files' ks read is = absurd is
inputs_early command (Files path catalogue) fault.ItemNesting files files' ks read is = absurd is
inputs_early command (Made seed size) fault.ItemNesting files files' ks read is = absurd is
inputs_early command (Files path catalogue) fault.SchemeBytes files files' ks read is = absurd is
inputs_early command (Made seed size) fault.SchemeBytes files files' ks read is = absurd is

abbrev Stops : Fault → Type 0
Stops f = MayStop (Some f)

text_stops : (names : List Name) (text : List ℕ) (f : Fault) → ReadsText names text (Err f) → Stops f
text_stops names text f (inl is) = subst Stops (sym is) tt
text_stops names text f (inr of) = any_fault Stops (λ w byte. tt) tt names text f of

typing_stops : (grounds : List (Name × Ground)) (ds : Decls) (e : Exp) (f : Fault) → AnswersTypes grounds ds e (Err f) → Stops f
typing_stops grounds ds e f (inl is) = subst Stops (sym is) tt
typing_stops grounds ds e f (inr (inl large)) = sized_faults Stops tt tt (declared ds e []) f large
typing_stops grounds ds e f (inr (inr (fits, n, none, is))) = subst Stops (sym is) tt

pub unread_plan : (Plans : Node → Type 0) (names : List Name) (text : List ℕ) (f : Fault) (ran : Ran) → IsUnrun ran → ReadsText names text (Err f) → PlanOf Plans (Some f) ran.trace.steps (plan_in ran.plan)
unread_plan Plans names text f ran none reads = inr (ap plan_in none.0, none.1.steps, text_stops names text f reads)

pub untyped_plan : (Plans : Node → Type 0) (grounds : List (Name × Ground)) (ds : Decls) (e : Exp) (f : Fault) (ran : Ran) → IsUnrun ran → AnswersTypes grounds ds e (Err f) → PlanOf Plans (Some f) ran.trace.steps (plan_in ran.plan)
untyped_plan Plans grounds ds e f ran none types = inr (ap plan_in none.0, none.1.steps, typing_stops grounds ds e f types)

pub wanted_plan : (Plans : Node → Type 0) (ran : Ran) → IsUnrun ran → PlanOf Plans (Some fault.NoMemory) ran.trace.steps (plan_in ran.plan)
wanted_plan Plans ran none = inr (ap plan_in none.0, none.1.steps, tt)

pub planned_some : (p : Plan) (Q : Type 0) → plan_in (Some p) ≡ None → Q
planned_some p Q is = let two : Some (plan_view p) ≡ None = is in absurd cc

-- where there is no plan, drivers are as they were and nothing is counted
pub unrun_asks : (ran : Ran) (ds : List State) → IsUnrun ran → AsksOf (plan_in ran.plan) ran.trace.starts ds ds
unrun_asks ran ds none = subst (λ o. AsksOf (plan_in o) ran.trace.starts ds ds) (sym none.0) refl

pub unrun_shown : (block : ℕ) (ran : Ran) → IsUnrun ran → IsShown block (plan_in ran.plan) ran.trace
unrun_shown block ran none = subst (λ o. IsShown block (plan_in o) ran.trace) (sym none.0) none.1

pub unrun_undone : (block : ℕ) (ran : Ran) → IsUnrun ran → IsUndone block (plan_in ran.plan) ran.trace
unrun_undone block ran none = subst (λ o. IsUndone block (plan_in o) ran.trace) (sym none.0) none.1

-- ---- ends behind it

run_late : (f : Fault) → HasRunFault f → IsEarly (Some f) → ⊥
run_late fault.Overflow has early = early
run_late fault.Read has early = early
run_late (fault.Changed name) has early = early
run_late fault.Write has early = early
run_late fault.NoMemory has early = early
run_late fault.Usage has early = has
run_late (fault.Text w byte) has early = has
run_late (fault.IllTyped decl) has early = has
run_late (fault.Catalogue byte) has early = has
run_late (fault.NameTwice name) has early = has
run_late (fault.NoDriver name) has early = has
run_late (fault.Unsuited name) has early = has
run_late (fault.BadFile place) has early = has
run_late (fault.NoType byte) has early = has
run_late (fault.BadSource name place) has early = has
run_late fault.ProgramBytes has early = has
run_late fault.CatalogueBytes has early = has
run_late fault.FileBytes has early = has
run_late fault.Nesting has early = has
run_late fault.ItemNesting has early = has
run_late fault.TermNodes has early = has
run_late fault.TermDepth has early = has
run_late fault.SchemeBytes has early = has

pub answers_late : (end : Ending) → IsOneOf HasRunFault end → IsEarly end → ⊥
answers_late None has early = early
answers_late (Some f) has early = run_late f has early

refused_late : (x : Name) (e : DriverError) → IsEarly (Some (fault_of x e)) → ⊥
refused_late x error.Failed early = early
refused_late x (error.BadSource place) early = early
refused_late x (error.TooLong most) early = early
refused_late x (error.TooDeep place) early = early
refused_late x (error.Changed drift) early = early
refused_late x error.NoMemory early = early

pub source_late : (x : Name) (e : DriverError) (f : Fault) → f ≡ fault_of x e → IsEarly (Some f) → ⊥
source_late x e f is early = refused_late x e (subst (λ g. IsEarly (Some g)) is early)

-- what stops a run where its files are read
pub stops_early : (command : Command) (end : Ending) (f f' : FilesState) (ks : List DriverKind) → MayStop end → MayBeEarly command end f f' ks
stops_early command (Some fault.NoMemory) f f' ks is = tt
stops_early command (Some fault.Usage) f f' ks is = tt
stops_early command (Some (fault.Text w byte)) f f' ks is = tt
stops_early command (Some fault.Nesting) f f' ks is = tt
stops_early command (Some fault.TermNodes) f f' ks is = tt
stops_early command (Some fault.TermDepth) f f' ks is = tt
stops_early command (Some (fault.IllTyped decl)) f f' ks is = tt
stops_early command (Some (fault.Catalogue byte)) f f' ks is = tt
stops_early command (Some (fault.NameTwice name)) f f' ks is = tt
stops_early command (Some (fault.NoDriver name)) f f' ks is = tt
stops_early command (Some (fault.Unsuited name)) f f' ks is = tt
stops_early command (Some fault.ProgramBytes) f f' ks is = tt
stops_early command (Some fault.CatalogueBytes) f f' ks is = tt
stops_early command None f f' ks is = absurd is
stops_early command (Some fault.Read) f f' ks is = absurd is
stops_early command (Some fault.Overflow) f f' ks is = absurd is
stops_early command (Some fault.Write) f f' ks is = absurd is
stops_early command (Some (fault.Changed name)) f f' ks is = absurd is
stops_early command (Some (fault.BadSource name place)) f f' ks is = absurd is
stops_early command (Some (fault.BadFile place)) f f' ks is = absurd is
stops_early command (Some (fault.NoType byte)) f f' ks is = absurd is
stops_early command (Some fault.FileBytes) f f' ks is = absurd is
stops_early command (Some fault.ItemNesting) f f' ks is = absurd is
stops_early command (Some fault.SchemeBytes) f f' ks is = absurd is

-- ---- from a term to a text, and from a text to a command

-- the term is that of the program which the text is
pub text_plan : (how : How) (ss : List Source) (text : List ℕ) (s : Scoped) (end : Ending) (steps : ℕ) (plan : Option Node) (course : Course) → ReadsText (names_of ss) text (Ok s)
    → PlanOf (RunsPlan how ss (is_marked s) (decls_of s.program.defs) (view s.program.last) s.sources course) end steps plan
    → PlanOf (PlansText how ss text course) end steps plan
text_plan how ss text s end steps plan course (q, of, resolves) (inr none) = inr none
text_plan how ss text s end steps plan course (q, of, resolves) (inl (p, is, runs, late)) =
    inl (
      p,
      is,
      (
        q,
        of,
        is_marked s,
        resolves.marks,
        as_resolved (λ program e. CountsPlan how ss (is_marked s) (GivesList (grounds_of ss) program e) course p) (names_of ss) q s resolves runs.0,
        subst (λ t. PlansTerm how.settings (ships_of (kinds_of course.old) ss) t course.trace.steps p) (λ i. term_of (resolves.defs i) (resolves.last i) (resolves.sources_kept i)) runs.1,
      ),
      late,
    )

module _ (ss : List Source) (text : List ℕ) (first : Option ℕ) (end : Ending) (trace : Trace) (files : FilesState) (old new : List State) (blank printed : SinkState) where
  abbrev Done : Type 0
  Done = DoesText ss (purpose.Run first) text end (outside_of files old blank) (outside_of files new printed)

  rests : Done → Rests ss text (course_of end trace old new blank printed)
  rests does = record { attached = does.drivers; unread = does.unread; changed = does.changed; nothing = does.nothing }

pub command_plan : (how : How) (from : Origin) (f f' : FilesState) (end : Ending) (trace : Trace) (old new : List State) (blank printed : SinkState) (plan : Option Node) (i : Inputs) (text : List ℕ) (ss : List Source) → text ≡ i.text → ss ≡ i.sources
    → ReadsInputs from (kinds_of old) (Ok i) f f' → DoesText ss (purpose.Run how.first) text end (outside_of no_files old blank) (outside_of no_files new printed)
    → PlanOf (PlansText how ss text (course_of end trace old new blank printed)) end trace.steps plan
    → HasPlan how (Program (purpose.Run how.first) from) plan (course_of end trace old new blank printed) f f'
command_plan how from f f' end trace old new blank printed plan i text ss is same reads does (inr none) =
    inr (none.0, none.1, inr (stops_early (Program (purpose.Run how.first) from) end f f' (kinds_of old) none.2))
command_plan how from f f' end trace old new blank printed plan i text ss is same reads does (inl (p, at, plans, late)) =
    inl (
      p,
      at,
      (
        i.text,
        i.sources,
        reads.inputs,
        subst (λ t. PlansText how i.sources t (course_of end trace old new blank printed) p × Rests i.sources t (course_of end trace old new blank printed)) is
            (subst (λ us. PlansText how us text (course_of end trace old new blank printed) p × Rests us text (course_of end trace old new blank printed)) same
            (plans, rests ss text how.first end trace no_files old new blank printed does)),
      ),
      late,
    )

pub refused_plan : (how : How) (from : Origin) (f f' : FilesState) (old new : List State) (blank printed : SinkState) (g : Fault) (ran : Ran) → IsUnrun ran → ReadsInputs from (kinds_of old) (Err g) f f'
    → HasPlan how (Program (purpose.Run how.first) from) (plan_in ran.plan) (course_of (Some g) ran.trace old new blank printed) f f'
refused_plan how from f f' old new blank printed g ran none reads =
    inr (ap plan_in none.0, none.1.steps, inr (inputs_early (Program (purpose.Run how.first) from) from g f f' (kinds_of old) (read_missing (purpose.Run how.first) from f f' g (kinds_of old) reads) reads.no_other))

-- ---- at the top

-- the usual settings
pub made_plan : (given : Settings) (seed size : ℕ) (f : FilesState) (end : Ending) (trace : Trace) (old new : List State) (blank printed : SinkState) (plan : Option Node) (i : Inputs) (text : List ℕ) (ss : List Source) → given ≡ usual_settings → text ≡ i.text → ss ≡ i.sources
    → ReadsInputs (Made seed size) (kinds_of old) (Ok i) f f → DoesText ss (purpose.Run None) text end (outside_of no_files old blank) (outside_of no_files new printed)
    → PlanOf (PlansText (record { settings = given; first = None }) ss text (course_of end trace old new blank printed)) end trace.steps plan
    → HasPlan usual_how (Program (purpose.Run None) (Made seed size)) plan (course_of end trace old new blank printed) f f
made_plan given seed size f end trace old new blank printed plan i text ss usual is same reads does plans =
    command_plan usual_how (Made seed size) f f end trace old new blank printed plan i text ss is same reads does
    (subst (λ z. PlanOf (PlansText (record { settings = z; first = None }) ss text (course_of end trace old new blank printed)) end trace.steps plan) usual plans)

module _ (found : Option Read) (end told : Ending) (ran : Ran) (answered : Option Plan) (trace : Trace) (f f' : FilesState) (same : told ≡ end) (planned : answered ≡ ran.plan) (same_trace : trace ≡ ran.trace) (old new : List State) (blank printed : SinkState) where
  told_plan : (how : How) (command : Command) → HasPlan how command (plan_in ran.plan) (course_of end ran.trace old new blank printed) f f' → HasPlan how command (plan_in answered) (course_of told trace old new blank printed) f f'
  told_plan how command h =
      subst (λ z. HasPlan how command (plan_in answered) (course_of told z old new blank printed) f f') (sym same_trace)
      (subst (λ z. HasPlan how command (plan_in z) (course_of told ran.trace old new blank printed) f f') (sym planned)
      (subst (λ z. HasPlan how command (plan_in ran.plan) (course_of z ran.trace old new blank printed) f f') (sym same) h))

  abbrev Found : Option Read → Type 0
  Found o = HasPlan (how_of o) (asked o) (plan_in answered) (course_of told trace old new blank printed) f f'

  pub run_plan : (job : Job) → found ≡ Some (read.Run job)
      → HasPlan (how_in job) (Program (purpose.Run job.first) (Files job.program job.catalogue)) (plan_in ran.plan) (course_of end ran.trace old new blank printed) f f'
      → Found found
  run_plan job is h = subst Found (sym is) (told_plan (how_in job) (Program (purpose.Run job.first) (Files job.program job.catalogue)) h)

  pub explain_plan : (job : Job) → found ≡ Some (read.Explain job)
      → HasPlan (how_in job) (Program (purpose.Explain job.settings) (Files job.program job.catalogue)) (plan_in ran.plan) (course_of end ran.trace old new blank printed) f f'
      → Found found
  explain_plan job is h = subst Found (sym is) (told_plan (how_in job) (Program (purpose.Explain job.settings) (Files job.program job.catalogue)) h)

  pub gen_plan : (seed size : ℕ) → found ≡ Some (read.Gen seed size)
      → HasPlan usual_how (Program (purpose.Run None) (Made seed size)) (plan_in ran.plan) (course_of end ran.trace old new blank printed) f f'
      → Found found
  gen_plan seed size is h = subst Found (sym is) (told_plan usual_how (Program (purpose.Run None) (Made seed size)) h)
