-- What the private functions of `run` and `types` answer. No public contract cites this.
use Rattle.std.specs.Prelude.{◌≡◌, ◌⊎◌, ℕ, ◌+◌, ◌==◌, ◌<◌, nat_lt, Bool, true, false, List, [], ◌++◌, length, Option, Some, None}
use Rattle.std.specs.Prelude.{Result, Ok, Err, slice_get, ⊤}
use Rattle.std.specs.Io.KnownBytes.{append_known}
use Rattle.kl_outside.specs.Counts.{Rose}
use Rattle.kl_outside.specs.Sinks.{SinkState, TookPart, WritesWhole}
use Rattle.kl_outside.specs.declared.stop.Stop.TheVariants as stop
use Rattle.kl_value.specs.declared.value.Kind.TheVariants as kind
use Rattle.kl_value.specs.declared.Value.{Value}
use Rattle.kl_type.specs.Ground.{Ground, coll}
use Rattle.kl_core.specs.Trees.{Tree}
use Rattle.kl_core.specs.Typing.{SourceTypes, CoreTypes}
use Rattle.kl_rows.specs.Schemes.{Instance}
use Rattle.kl_outcome.specs.Outcome.{Name, Outcome, done, over, stuck}
use Rattle.kl_rows.specs.declared.Scheme.{Scheme}
use Rattle.kl_syntax.specs.Syntax.{Decls, Exp}
use Rattle.kl_ask.specs.Driver.{DriverKind, State}
use Rattle.kl_ask.specs.World.{World}
use Rattle.kl_plan.specs.Nodes.{Node}
use Rattle.kl_plan.specs.Parts.{parts_of}
use Rattle.kl_plan.specs.Prices.{Prices}
use Rattle.kl_exchange.specs.declared.error.PrintError.{PrintError}
use Rattle.kl_eval.specs.declared.stop.EvalStop.{EvalStop}
use Rattle.kl_eval.specs.declared.stop.EvalStop.TheVariants as stopped
use Rattle.kl_scans.specs.Held.{nothing}
use Rattle.kl_scans.specs.Log.{paid}
use Rattle.kl_scans.specs.Moves.{Moves}
use Rattle.kl_scans.specs.Right.{IsReadyRun}
use Rattle.kl_scans.specs.Running.{Running}
use Rattle.kl_scans.specs.Stage.{stage}
use Rattle.kl_cursor.specs.Laziness.{Handed, NextsLazily}
use Rattle.kl_cursor.specs.Left.{Snap, cost, reading}
use Rattle.kl_cursor.specs.Pulling.{Silent}
use Rattle.kl_cursor.specs.Sense.{TypesAt, IsToldAt}
use Rattle.kl_cursor.specs.Steps.{AreOf, Nexts, Onward}
use Rattle.kl_ask.specs.declared.session.Attached.{Attached}
use Rattle.kl_ask.specs.declared.ask.DriverError.{DriverError}
use Rattle.kl_ask.specs.declared.ask.DriverError.TheVariants as error
use Rattle.kl_sources.specs.Attaching.{RoseAt}
use Rattle.kl_sources.specs.Sources.{kinds_of, names_of, grounds_of}
use Rattle.kl_sources.specs.declared.source.Source.{Source}
use Rattle.kl_engine.specs.Answering.{SomeRose, KeepsDrivers, IsStoredFault, AreTold, IsUnreadBy, SomeDrifted}
use Rattle.kl_engine.specs.Answering.{FollowsVerdict, PrintsPage, IsOutside, IsDetermined, IsRun}
use Rattle.kl_engine.specs.Answering.{HasTextFault, IsOneOf, Unprinted, IsUnreadFault, NeedsDrivers}
use Rattle.kl_engine.specs.Faults.{Ending}
use Rattle.kl_engine.specs.Outside.{Outside}
use Rattle.kl_engine.specs.Planned.{HandsFew, HandsWritten, IsScanned}
use Rattle.kl_infer.specs.Numbers.{limit}
use Rattle.kl_infer.specs.Printed.{scheme_text}
use Rattle.kl_engine.specs.Verdict.{Verdict, value_page, cut, refused, list_front, overflowing, scheme_line, scheme_lines}
use Rattle.kl_engine.specs.Verdict.{cut_list, GivesList, IsMeant, IsScopedVerdict}
use Rattle.kl_engine.specs.declared.fault.Fault.{Fault}
use Rattle.kl_engine.specs.declared.fault.Fault.TheVariants as fault
use Rattle.kl_engine.specs.declared.top.Purpose.{Purpose}
use Rattle.kl_engine.specs.declared.top.Purpose.TheVariants as purpose

-- each instance is the type of a list
abbrev pub IsListScheme : Scheme → Type 0
IsListScheme scheme = (t : Ground) → Instance scheme t → (s : Ground) × (t ≡ coll kind.List s)

-- what an outcome comes to where it is that of a list, and where it is not
abbrev pub IsListOutcome : Option ℕ → Outcome → Verdict → Type 0
IsListOutcome first (done v) w = w ≡ value_page (cut first v)
IsListOutcome first (over vs) w = w ≡ cut_list first vs
IsListOutcome first stuck w = ⊥

abbrev pub IsValueOutcome : Option ℕ → Outcome → Verdict → Type 0
IsValueOutcome first (done v) w = w ≡ value_page (cut first v)
IsValueOutcome first (over vs) w = w ≡ refused fault.Overflow
IsValueOutcome first stuck w = ⊥

abbrev pub IsTermOutcome : Bool → Option ℕ → Outcome → Verdict → Type 0
IsTermOutcome true first o w = IsListOutcome first o w
IsTermOutcome false first o w = IsValueOutcome first o w

-- how it is told that a driver refuses a source
abbrev pub fault_of : Name → DriverError → Fault
fault_of x error.Failed = fault.Read
fault_of x (error.BadSource place) = fault.BadSource x place
fault_of x (error.TooLong place) = fault.FileBytes
fault_of x (error.TooDeep place) = fault.ItemNesting
fault_of x (error.Changed drift) = fault.Changed x
fault_of x error.NoMemory = fault.NoMemory

-- the ends of a term that is evaluated over sources that are attached
abbrev pub HasRunFault : Fault → Type 0
HasRunFault fault.Overflow = ⊤
HasRunFault fault.Read = ⊤
HasRunFault (fault.Changed name) = ⊤
HasRunFault fault.Write = ⊤
HasRunFault fault.NoMemory = ⊤
HasRunFault f = ⊥

-- a plan, and the sources over which it is run
pub record PlanOver : Type 0 where
  pub plan : Node
  pub sources : List Attached

abbrev pub plan_over : World → Node → PlanOver
plan_over w p = record { plan = p; sources = w.sources }

-- a source that a scan of a plan reads is attached at a driver that counted a drift
abbrev pub DriftsAt : PlanOver → Name → List State → List State → Type 0
DriftsAt run name old new =
    (i : ℕ) × (a : Attached) × (place : ℕ)
    × (slice_get run.sources i ≡ Some a) × (a.source ≡ name) × (a.driver ≡ Some place) × RoseAt place (λ d. d.drifts) old new
    × IsScanned run.plan name

-- An outcome is printed. Where the sources are told it is that of the term, and in any case each fault has its cause.
pub record AnswersTerm (Lists : Type 0) (IsOut : Verdict → Type 0) (told : Type 0) (end : Ending) (run : PlanOver)
    (old new : Outside) : Type 0 where
  pub follows : told → (v : Verdict) × IsOut v × FollowsVerdict v end old new
  pub read : end ≡ Some fault.Read → SomeRose (λ d. d.faults) old.drivers new.drivers
  pub write : end ≡ Some fault.Write → Rose old.out.faults new.out.faults
  pub changed : (name : Name) → end ≡ Some (fault.Changed name) → DriftsAt run name old.drivers new.drivers
  pub no_other : IsOneOf HasRunFault end
  pub nothing : Unprinted Lists end → new.out ≡ old.out
  pub drivers : KeepsDrivers (λ name. ⊥) old.drivers new.drivers

-- A plan was run: no cursor is left open, only its own scans were started, its own joins executed and its own subqueries looked up,
-- and where it ended well, and all of it was wanted and is told, that comes to what its meaning comes to.
pub record Scanned (p : Node) (end : Ending) (first : Option ℕ) (a b : Running) : Type 0 where
  pub moves : Moves nothing nothing a b
  pub known : AreOf (parts_of p) moves.events
  pub exact : end ≡ None → first ≡ None → IsToldAt a → (P : Prices) → paid (stage a) P moves.events ≡ cost (stage a) P p []

-- where a list ends well, or the output fails, and contents are told, few rows were handed to a loop over one scan
pub record SparesRows (p : Node) (end : Ending) (first : Option ℕ) (a b : Running) (out out' : SinkState) : Type 0 where
  pub few : end ≡ None → IsToldAt a → HandsFew (reading a) a.settings.fetch p first (λ c rows. Handed c rows a b)
  pub written : end ≡ Some fault.Write → IsToldAt a → HandsWritten (reading a) a.settings.fetch p out out' (λ c rows. Handed c rows a b)

-- a sink took some bytes
abbrev pub TookMore : SinkState → SinkState → Type 0
TookMore out out' = (taken : List ℕ) × (out'.taken ≡ append_known out.taken taken)

-- a plan of a list makes sense in a run
abbrev pub HasList : Running → Node → Type 0
HasList w p = (u : Ground) × TypesAt w [] p (coll kind.List u) × IsReadyRun w

-- a term has the type of a list
abbrev pub IsListTerm : SourceTypes → Tree → Type 0
IsListTerm S t = (u : Ground) × CoreTypes S [] t (coll kind.List u)

-- whether no more items are wanted, where so many more are; and one more than so many
abbrev pub are_enough : Option ℕ → Bool
are_enough None = false
are_enough (Some n) = n == 0

abbrev pub one_more : Option ℕ → Option ℕ
one_more None = None
one_more (Some n) = Some (n + 1)

-- What a draw answers of a cursor: what it gives next, for which no source was read on unless all that was printed is written. Or the
-- output refused that: then as much is left as was, and nothing was handed.
abbrev pub Draws : List Value → Snap → Result (Result (Option Value) EvalStop) PrintError → Snap → Running → Running → List ℕ → Type 0
Draws env s (Ok r) t a b page = Nexts env s r t a b × NextsLazily env s r t a b × (Silent a b ⊎ (page ≡ []))
Draws env s (Err e) t a b page = Onward env s a t b × Silent a b

-- Items of a list are printed, and what stopped it: an overflow, which ends the page, or a driver or want of memory, behind which the
-- rest of the page is not printed.
abbrev pub StopsList : List Value → EvalStop → Ending → SinkState → SinkState → Type 0
StopsList given stopped.Overflow end out out' = PrintsPage (overflowing given) end out out'
StopsList given (stopped.Driver l e) end out out' = (end ≡ Some (fault_of l e)) × TookPart (list_front given) out out'
StopsList given stopped.NoMemory end out out' = (end ≡ Some fault.NoMemory) × TookPart (list_front given) out out'

-- a name of the sources that is mentioned
abbrev pub IsNamed : List Source → (ℕ → Bool) → Name → Type 0
IsNamed ss marks name = (i : ℕ) × (slice_get (names_of ss) i ≡ Some name) × (marks i ≡ true)

-- What is to be done with a program over some sources: which of them it mentions, to what purpose, whether it gives a list, and which
-- verdicts it has where these sources are marked.
pub record Matter : Type 1 where
  pub sources : List Source
  pub marks : ℕ → Bool
  pub aim : Purpose
  pub Lists : Type 0
  pub IsVerdict : (ℕ → Bool) → Verdict → Type 0

-- whatever marks the sources have that are these, there is no verdict
abbrev pub WithoutVerdict : Matter → Type 0
WithoutVerdict m =
    (others : ℕ → Bool) → ((i : ℕ) → i < length m.sources → m.marks i ≡ others i) → (v : Verdict) → m.IsVerdict others v → ⊥

-- How what is done with a program ends: a fault of the outside or want of memory came before anything was printed; or a
-- verdict of the program is followed; or it comes to sources that are not told, and so to no verdict.
pub data CameTo (m : Matter) (end : Ending) (old new : Outside) : Type 0 where
  before : new.out ≡ old.out → (IsDetermined end → ⊥) → ((v : Verdict) → IsOutside v end old new) → CameTo m end old new
  followed : (v : Verdict) → m.IsVerdict m.marks v → FollowsVerdict v end old new → CameTo m end old new
  untold : WithoutVerdict m → (AreTold (kinds_of old.drivers) m.sources (IsNamed m.sources m.marks) → ⊥)
      → (IsDetermined end → NeedsDrivers m.aim end) → CameTo m end old new

pub record DoneBy (m : Matter) (end : Ending) (old new : Outside) : Type 0 where
  pub ends : CameTo m end old new
  pub read : end ≡ Some fault.Read
      → IsStoredFault (kinds_of old.drivers) m.sources (IsNamed m.sources m.marks) fault.Read
      ⊎ SomeRose (λ d. d.faults) old.drivers new.drivers
  pub write : end ≡ Some fault.Write → Rose old.out.faults new.out.faults
  pub unread : (f : Fault) → end ≡ Some f → IsUnreadFault f
      → IsUnreadBy m.sources (IsNamed m.sources m.marks) f old.drivers new.drivers
  pub changed : (name : Name) → end ≡ Some (fault.Changed name)
      → SomeDrifted m.sources (λ x. IsNamed m.sources m.marks x × (x ≡ name)) old.drivers new.drivers
  pub no_other : IsOneOf (HasTextFault m.aim) end
  pub nothing : Unprinted m.Lists end → new.out ≡ old.out
  pub drivers : KeepsDrivers (IsNamed m.sources m.marks) old.drivers new.drivers
  pub still : (IsRun m.aim → ⊥) → new.drivers ≡ old.drivers

-- a program and a purpose, over sources at drivers of these kinds
abbrev pub program_matter : List DriverKind → List Source → (ℕ → Bool) → Purpose → Decls → Exp → Matter
program_matter ks ss marks p program e = record {
  sources = ss;
  marks = marks;
  aim = p;
  Lists = GivesList (grounds_of ss) program e;
  IsVerdict = λ others. IsScopedVerdict ks ss others p program e;
}

-- a run of a program with a typing
abbrev pub run_matter : List DriverKind → List Source → (ℕ → Bool) → Option ℕ → Decls → Exp → Matter
run_matter ks ss marks first program e = record {
  sources = ss;
  marks = marks;
  aim = purpose.Run first;
  Lists = GivesList (grounds_of ss) program e;
  IsVerdict = λ others. IsMeant ks ss others first program e;
}

-- what a purpose makes of a program is done
abbrev pub DoneWith : List Source → (ℕ → Bool) → Purpose → Decls → Exp → Ending → Outside → Outside → Type 0
DoneWith ss marks p program e end old new = DoneBy (program_matter (kinds_of old.drivers) ss marks p program e) end old new

-- what a run of a program with a typing comes to is done
abbrev pub DoneMeaning : List Source → (ℕ → Bool) → Option ℕ → Decls → Exp → Ending → Outside → Outside → Type 0
DoneMeaning ss marks first program e end old new = DoneBy (run_matter (kinds_of old.drivers) ss marks first program e) end old new

-- the line of a declaration is written, or nothing where the text of its scheme is too long
abbrev pub ListsLine : Name × Scheme → Result (Unit {0}) Fault → SinkState → SinkState → Type 0
ListsLine d (Ok x) old new = (nat_lt limit (length (scheme_text d.1)) ≡ false) × WritesWhole {T = Unit {0}} (scheme_line d) (Ok tt) old new
ListsLine d (Err fault.SchemeBytes) old new = (nat_lt limit (length (scheme_text d.1)) ≡ true) × (new ≡ old)
ListsLine d (Err fault.Write) old new = (nat_lt limit (length (scheme_text d.1)) ≡ false)
    × WritesWhole {T = Unit {0}} (scheme_line d) (Err stop.Failed) old new
ListsLine d (Err fault.NoMemory) old new =
    (new ≡ old)
    ⊎ ((nat_lt limit (length (scheme_text d.1)) ≡ false) × WritesWhole {T = Unit {0}} (scheme_line d) (Err stop.NoMemory) old new)
ListsLine d (Err f) old new = ⊥

-- the lines of these declarations are written
pub record ListsAll (ds : List (Name × Scheme)) (old new : SinkState) : Type 0 where
  pub fine : (scheme_lines ds).ending ≡ None
  pub writes : WritesWhole {T = Unit {0}} (scheme_lines ds).page (Ok tt) old new
  pub still : (scheme_lines ds).page ≡ [] → new ≡ old

-- The lines of some declarations are written; after a fault that is a front of what is printed of these and any others.
abbrev pub ListsFront : List (Name × Scheme) → Result (Unit {0}) Fault → SinkState → SinkState → Type 0
ListsFront ds (Ok x) old new = ListsAll ds old new
ListsFront ds (Err f) old new = (others : List (Name × Scheme)) → PrintsPage (scheme_lines (ds ++ others)) (Some f) old new
