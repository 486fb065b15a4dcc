-- The plan of a program that is run, and what is counted of it.
use Rattle.std.specs.Prelude.{◌≡◌, ◌≤◌, ◌<◌, ◌^◌, ◌⊎◌, ℕ, ◌+◌, Bool, List, [], ◌++◌, length, take, Option, Some, None, slice_get, ⊤}
use Rattle.std.specs.List.{AllByRecursion, Contains}
use Rattle.std.specs.Option.{option_map}
use Rattle.kl_outside.specs.Counts.{Rose}
use Rattle.kl_outside.specs.Files.{FilesState}
use Rattle.kl_outside.specs.Sinks.{SinkState}
use Rattle.kl_outcome.specs.Outcome.{Name, items_in}
use Rattle.kl_value.specs.declared.Kind.TheVariants as kind
use Rattle.kl_value.specs.declared.Value.{Value}
use Rattle.kl_core.specs.Trees.{Tree}
use Rattle.kl_syntax.specs.Syntax.{Decls, Exp}
use Rattle.kl_syntax.specs.declared.tree.Program.{Program}
use Rattle.kl_desugar.specs.Translation.{term_of}
use Rattle.kl_ask.specs.Driver.{DriverKind, State}
use Rattle.kl_ask.specs.Lists.{EachSteps}
use Rattle.kl_ask.specs.Settings.{usual_settings}
use Rattle.kl_ask.specs.declared.settings.Settings.{Settings}
use Rattle.kl_ask.specs.Trace.{IsBlank}
use Rattle.kl_ask.specs.declared.settings.Trace.{Trace}
use Rattle.kl_plan.specs.Holding.{PartsIn}
use Rattle.kl_plan.specs.Meaning.{Readings, coming, plan}
use Rattle.kl_plan.specs.Nodes as node
use Rattle.kl_plan.specs.Nodes.{Node, view}
use Rattle.kl_plan.specs.Numbers.{scans_in}
use Rattle.kl_plan.specs.declared.plan.Plan.{Plan}
use Rattle.kl_plan.specs.declared.plan.Scan.{Scan}
use Rattle.kl_ship.specs.declared.source.ShipSource.{ShipSource}
use Rattle.kl_scans.specs.Log.{Event}
use Rattle.kl_scans.specs.Same.{same_subquery}
use Rattle.kl_counts.specs.Counts.{Counts}
use Rattle.kl_cursor.specs.Laziness.{ByTimes, Frugal, IsFront, empty_listing as no_parts}
use Rattle.kl_run.specs.Counted.{AsksCounted, ReadsMarked, Shows}
use Rattle.kl_run.specs.Planned.{IsPlanOf, MeansTerm, ships_of}
use Rattle.kl_sources.specs.Sources.{grounds_of, kinds_of, names_of, HaveValues}
use Rattle.kl_sources.specs.declared.source.Source.{Source}
use Rattle.kl_engine.specs.Answering.{IsMentionedIn, IsOfList, IsRunning, IsUnreadBy, IsUnreadFault, OfRun, PrintsPage, SomeDrifted}
use Rattle.kl_engine.specs.Answering.{KeepsDrivers, Unprinted}
use Rattle.kl_engine.specs.Commands.{Command, Origin, TellTo, Program as AProgram}
use Rattle.kl_engine.specs.Explaining.{plan_lines}
use Rattle.kl_engine.specs.Faults.{Ending}
use Rattle.kl_words.specs.declared.command.Command.{Command as Read}
use Rattle.kl_words.specs.declared.command.Command.TheVariants as read
use Rattle.kl_words.specs.declared.command.Job.{Job}
use Rattle.kl_engine.specs.Reading.{IsProgramOf, definitions, last}
use Rattle.kl_engine.specs.Rewritten.{IsRewrittenTo, term_in}
use Rattle.kl_engine.specs.Verdict.{AreMarks, GivesList, HasInputs, IsInputsFault, list_front, well}
use Rattle.kl_engine.specs.declared.fault.Fault.{Fault}
use Rattle.kl_engine.specs.declared.fault.Fault.TheVariants as fault
use Rattle.kl_engine.specs.declared.run.How.{How}
use Rattle.kl_engine.specs.declared.top.Purpose.TheVariants as purpose
use Rattle.kl_engine.specs.declared.run.Ran.{Ran}

abbrev pub plan_in : Option Plan → Option Node
plan_in plan = option_map view plan

-- there is no plan, and nothing is counted
abbrev pub IsUnrun : Ran → Type 0
IsUnrun ran = (ran.plan ≡ None) × IsBlank ran.trace

-- What was done while the plan was run is counted, with blocks of so many rows; without a plan nothing is.
abbrev pub IsShown : ℕ → Option Node → Trace → Type 0
IsShown block (Some p) trace = (es : List Event) × Shows block p es trace
IsShown block None trace = IsBlank trace

-- nothing was done with the plan
abbrev pub IsUndone : ℕ → Option Node → Trace → Type 0
IsUndone block (Some p) trace = Shows block p [] trace
IsUndone block None trace = IsBlank trace

-- Drivers were asked what the plan's scans ask, as often as these were started; without a plan the drivers are as they were: no source
-- was attached, and no count rose.
abbrev pub AsksOf : Option Node → List (ℕ × ℕ) → List State → List State → Type 0
AsksOf (Some p) starts old new = AsksCounted p starts old new
AsksOf None starts old new = new ≡ old

-- ---- how few rows are handed

-- a loop over one scan that makes a list, in whose body neither scans nor subqueries stand
abbrev pub IsLine : Node → Node → Scan → Type 0
IsLine p b c = (p ≡ node.Ext kind.List b (node.Scan c)) × (c.kind ≡ kind.List) × PartsIn no_parts b

-- Where so many first items are wanted of such a loop, and it means as many, its driver handed no more rows than these take, and what
-- was fetched with the last of them; and none where none is wanted.
abbrev pub HandsFew : Readings → ℕ → Node → Option ℕ → (Scan → ℕ → Type 0) → Type 0
HandsFew R fetch p first WereHanded =
    (b : Node) (c : Scan) (all : List Value) (items : ℕ) → IsLine p b c → R c ≡ Some all → first ≡ Some items
    → items ≤ length (items_in (coming (plan R p [])))
    → (rows : ℕ) × WereHanded c rows × (items ≡ 0 → rows ≡ 0) × Frugal R fetch [] b all items rows

-- a sink that tells its bytes took fewer of a list than so many first items come to
abbrev pub LacksItem : List Value → ℕ → SinkState → SinkState → Type 0
LacksItem vs items old new = (was taken : List ℕ) × (old.taken ≡ Some was) × (new.taken ≡ Some (was ++ taken))
    × (length taken < length (list_front (take items vs)))

-- Where the last of so many first items of such a loop was not written whole, its driver handed fewer rows than these take and are
-- fetched at once.
abbrev pub HandsWritten : Readings → ℕ → Node → SinkState → SinkState → (Scan → ℕ → Type 0) → Type 0
HandsWritten R fetch p old new WereHanded =
    (b : Node) (c : Scan) (all : List Value) (items : ℕ) → IsLine p b c → R c ≡ Some all → 0 < items
    → items ≤ length (items_in (coming (plan R p [])))
    → LacksItem (items_in (coming (plan R p []))) items old new
    → (rows : ℕ) × WereHanded c rows × ((front : ℕ) → IsFront R [] b all items front → rows < front + fetch) × ByTimes fetch all rows

-- a driver's count of rows rose by so many, where it does not come to its greatest value
abbrev pub RowsHanded : List State → List State → Scan → ℕ → Type 0
RowsHanded old new c rows = (x y : State) → slice_get old c.driver ≡ Some x → slice_get new c.driver ≡ Some y
    → x.handed + rows < 2 ^ 64 → y.handed ≡ x.handed + rows

-- a source of this name is read by a scan of a plan
abbrev pub IsScanned : Node → Name → Type 0
IsScanned p name = (c : Scan) × Contains (scans_in p) c × (c.source ≡ name)

-- the scan of a number was never started
abbrev pub IsUnstarted : ℕ × ℕ → Type 0
IsUnstarted e = e.1 ≡ 0

-- no scan was started, and no driver handed a row
abbrev pub DrawsNone : List (ℕ × ℕ) → List State → List State → Type 0
DrawsNone starts old new = AllByRecursion IsUnstarted starts × EachSteps (λ a b. b.handed ≡ a.handed) old new

-- How a run went: how it ended, what was counted, and what it found and left of the drivers and of the output.
pub record Course : Type 0 where
  pub ending : Ending
  pub trace : Trace
  pub old : List State
  pub new : List State
  pub blank : SinkState
  pub printed : SinkState

abbrev pub course_of : Ending → Trace → List State → List State → SinkState → SinkState → Course
course_of end trace old new blank printed = record {
  ending = end;
  trace = trace;
  old = old;
  new = new;
  blank = blank;
  printed = printed;
}

-- ---- the plan of a program

-- The plan of a term t: that of the term to which so many steps of rewriting lead from t, where rewriting is on. Its loops are
-- joined and its values kept as the settings say, and where delegation is on, no work is left in it that the drivers could do.
pub record PlansTerm (settings : Settings) (ships : List ShipSource) (t : Tree) (steps : ℕ) (p : Node) : Type 0 where
  pub term : Tree
  pub rewritten : IsRewrittenTo settings.rewrite t steps term
  pub planned : IsPlanOf settings ships term p
  pub means : MeansTerm ships t p

-- What is counted of a plan that was run over these sources, of which the marked ones are mentioned, where Lists says that the program
-- gives a list.
pub record CountsPlan (how : How) (ss : List Source) (marks : ℕ → Bool) (Lists : Type 0) (course : Course) (p : Node) : Type 0 where
  -- where all that the program means is drawn, and the sources that it mentions are told, scans were started, joins executed and
  -- subqueries looked up as often as the plan's meaning comes to them
  pub exact : course.ending ≡ None → how.first ≡ None → (vs : List (Name × Value)) × HaveValues (kinds_of course.old) marks 0 ss vs
      → (R : Readings) × ReadsMarked (kinds_of course.old) ss marks R
      × (es : List Event) × Shows how.settings.block p es course.trace
      × Counts same_subquery how.settings.cache R how.settings.block p es
  -- where only so many first items are drawn, few rows were handed to a loop over one scan
  pub few : course.ending ≡ None → (vs : List (Name × Value)) × HaveValues (kinds_of course.old) marks 0 ss vs
      → (R : Readings) × ReadsMarked (kinds_of course.old) ss marks R
      × HandsFew R how.settings.fetch p how.first (RowsHanded course.old course.new)
  -- and where the output fails
  pub written : course.ending ≡ Some fault.Write → (vs : List (Name × Value)) × HaveValues (kinds_of course.old) marks 0 ss vs
      → (R : Readings) × ReadsMarked (kinds_of course.old) ss marks R
      × HandsWritten R how.settings.fetch p course.blank course.printed (RowsHanded course.old course.new)
  -- a source that changed is that of one of the plan's scans
  pub changed : (name : Name) → course.ending ≡ Some (fault.Changed name) → IsScanned p name
  -- where no item of a list is wanted none is drawn, however the run ends, and whether sources are told or not
  pub none : how.first ≡ Some 0 → Lists → DrawsNone course.trace.starts course.old course.new

-- the plan of the program that a text is, and what is counted of it
abbrev pub PlansText : How → List Source → List ℕ → Course → Node → Type 0
PlansText how ss text course p =
    (q : Program) × IsProgramOf (names_of ss) text q × (marks : ℕ → Bool) × AreMarks q (names_of ss) marks
    × CountsPlan how ss marks (GivesList (grounds_of ss) (definitions (names_of ss) q) (last (names_of ss) q)) course p
    × PlansTerm how.settings (ships_of (kinds_of course.old) ss) (term_in (names_of ss) q) course.trace.steps p

-- What comes of the sources of the program that a text is: one that is attached, that is unreadable or that changed is a source that it
-- mentions, and nothing is printed before a fault, but where the program gives a list.
pub record Rests (ss : List Source) (text : List ℕ) (course : Course) : Type 0 where
  pub attached : KeepsDrivers (IsMentionedIn ss text) course.old course.new
  pub unread : (f : Fault) → course.ending ≡ Some f → IsUnreadFault f → IsUnreadBy ss (IsMentionedIn ss text) f course.old course.new
  pub changed : (name : Name) → course.ending ≡ Some (fault.Changed name)
      → SomeDrifted ss (λ x. IsMentionedIn ss text x × (x ≡ name)) course.old course.new
  pub nothing : Unprinted (IsOfList ss text) course.ending → course.printed ≡ course.blank

-- an end to which a run comes before it has a plan
abbrev pub IsEarly : Ending → Type 0
IsEarly (Some fault.Usage) = ⊤
IsEarly (Some (fault.Text w byte)) = ⊤
IsEarly (Some fault.Nesting) = ⊤
IsEarly (Some fault.TermNodes) = ⊤
IsEarly (Some fault.TermDepth) = ⊤
IsEarly (Some (fault.IllTyped decl)) = ⊤
IsEarly (Some (fault.Catalogue byte)) = ⊤
IsEarly (Some (fault.NameTwice name)) = ⊤
IsEarly (Some (fault.NoDriver name)) = ⊤
IsEarly (Some (fault.Unsuited name)) = ⊤
IsEarly (Some fault.ProgramBytes) = ⊤
IsEarly (Some fault.CatalogueBytes) = ⊤
IsEarly end = ⊥

-- the file of a command's program, or that of its catalogue, is told to be missing
abbrev pub LacksInput : Command → FilesState → List DriverKind → Type 0
LacksInput (AProgram p from) files ks = (told : _) × (files.told ≡ Some told) × IsInputsFault told ks from fault.Read
LacksInput command files ks = ⊥

-- a run may end so before it has a plan
abbrev pub MayBeEarly : Command → Ending → FilesState → FilesState → List DriverKind → Type 0
MayBeEarly command (Some fault.NoMemory) files files' ks = ⊤
MayBeEarly command (Some fault.Read) files files' ks = LacksInput command files ks ⊎ Rose files.faults files'.faults
MayBeEarly command end files files' ks = IsEarly end

-- how the words ask for a program to be run
abbrev pub how_in : Job → How
how_in job = record { settings = job.settings; first = job.first }

abbrev pub usual_how : How
usual_how = record { settings = usual_settings; first = None }

abbrev pub how_of : Option Read → How
how_of (Some (read.Run job)) = how_in job
how_of (Some (read.Explain job)) = how_in job
how_of command = usual_how

-- the plan of the program that a text is, made over drivers of these kinds
abbrev pub PlansAlone : List DriverKind → Settings → List Source → List ℕ → ℕ → Node → Type 0
PlansAlone ks settings ss text steps p =
    (q : Program) × IsProgramOf (names_of ss) text q × PlansTerm settings (ships_of ks ss) (term_in (names_of ss) q) steps p

-- P holds of a program's text and its sources, which are those of its files where these are told
abbrev pub OfInputs : Origin → FilesState → List DriverKind → (List ℕ → List Source → Type 0) → Type 0
OfInputs from files ks P =
    (text : List ℕ) × (ss : List Source) × ((told : _) → TellTo from files told → HasInputs told ks from text ss) × P text ss

-- The plan and the counts are those of the program that is run, where the run does not end before it has a plan; else there is no
-- plan, and no step is counted. Where a program is explained the plan is its own, and nothing is run or counted of it.
abbrev pub HasPlan : How → Command → Option Node → Course → FilesState → FilesState → Type 0
HasPlan how (AProgram (purpose.Explain settings) from) plan course files files' =
    ((p : Node) × (plan ≡ Some p)
    × OfInputs from files (kinds_of course.old) (λ text ss. PlansAlone (kinds_of course.old) settings ss text course.trace.steps p)
    × Shows settings.block p [] course.trace
    × (IsEarly course.ending → ⊥))
    ⊎ ((plan ≡ None) × (course.trace.steps ≡ 0)
    × MayBeEarly (AProgram (purpose.Explain settings) from) course.ending files files' (kinds_of course.old))
HasPlan how command plan course files files' =
    ((p : Node) × (plan ≡ Some p)
    × OfRun command files (kinds_of course.old) (λ text ss. PlansText how ss text course p × Rests ss text course)
    × (IsEarly course.ending → ⊥))
    ⊎ ((plan ≡ None) × (course.trace.steps ≡ 0)
    × ((IsRunning command → ⊥) ⊎ MayBeEarly command course.ending files files' (kinds_of course.old)))

-- a plan is explained: its lines are printed, or a front of them; without a plan nothing is
abbrev pub ExplainsPlan : List DriverKind → Option Node → Ending → SinkState → SinkState → Type 0
ExplainsPlan ks (Some p) end out out' = PrintsPage (well (plan_lines ks p)) end out out'
ExplainsPlan ks None end out out' = out' ≡ out

abbrev pub Explains : Command → List DriverKind → Option Node → Ending → SinkState → SinkState → Type 0
Explains (AProgram (purpose.Explain settings) from) ks plan end out out' = ExplainsPlan ks plan end out out'
Explains command ks plan end out out' = ⊤

-- ---- for private functions alone: the same where the files are read

abbrev pub MayStop : Ending → Type 0
MayStop (Some fault.NoMemory) = ⊤
MayStop end = IsEarly end

abbrev pub PlanOf : (Node → Type 0) → Ending → ℕ → Option Node → Type 0
PlanOf Plans end steps plan = ((p : Node) × (plan ≡ Some p) × Plans p × (IsEarly end → ⊥)) ⊎ ((plan ≡ None) × (steps ≡ 0) × MayStop end)

-- the plan of a program's term, and what is counted of it
abbrev pub RunsPlan : How → List Source → (ℕ → Bool) → Decls → Exp → List Name → Course → Node → Type 0
RunsPlan how ss marks program e names course p =
    CountsPlan how ss marks (GivesList (grounds_of ss) program e) course p
    × PlansTerm how.settings (ships_of (kinds_of course.old) ss) (term_of program e names) course.trace.steps p
