-- What a plan's value tells of the term that it stands for.
use Rattle.std.proofs.Common.{◌≡◌, ◌≢◌, ℕ, List, [], Option, Some, None, Bool, true, false, Ok, Err, sym, ap, subst, ◌∙◌}
use Rattle.std.specs.Prelude.{⊤}
use Rattle.kl_outside.specs.Files.{FilesState}
use Rattle.kl_outside.specs.Sinks.{SinkState}
use Rattle.kl_value.specs.declared.Value.{Value}
use Rattle.kl_outcome.specs.Outcome.{Name, Outcome, done, over, stuck}
use Rattle.kl_core.specs.Core.{core}
use Rattle.kl_core.specs.Trees.{Tree}
use Rattle.kl_core.specs.Typing.{HaveSources}
use Rattle.kl_core.proofs.Safety.{never_stuck}
use Rattle.kl_ask.specs.Driver.{DriverKind, State}
use Rattle.kl_ask.specs.World.{types_of, values_of}
use Rattle.kl_ask.specs.declared.ask.DriverError.{DriverError}
use Rattle.kl_ask.specs.declared.ask.DriverError.TheVariants as error
use Rattle.kl_eval.specs.declared.stop.EvalStop.{EvalStop}
use Rattle.kl_eval.specs.declared.stop.EvalStop.TheVariants as stop
use Rattle.kl_plan.specs.Holding.{Listing, PartsIn}
use Rattle.kl_plan.specs.Nodes.{Node}
use Rattle.kl_plan.specs.Parts.{parts_of}
use Rattle.kl_plan.proofs.Holding.{parts_in_all}
use Rattle.kl_sources.specs.declared.source.Source.{Source}
use Rattle.kl_scans.specs.Held.{nothing}
use Rattle.kl_scans.specs.Moves.{Moves}
use Rattle.kl_scans.specs.Running.{Running, session}
use Rattle.kl_cursor.specs.Sense.{HasWorth}
use Rattle.kl_cursor.specs.Steps.{ComesTo, Partly, StoppedAt}
use Rattle.kl_run.specs.Running.{Runs}
use Rattle.kl_run.proofs.Quiet.{moves_quiet}
use Rattle.kl_engine.specs.Answering.{KeepsDrivers, PrintsPage}
use Rattle.kl_engine.specs.Faults.{Ending}
use Rattle.kl_engine.specs.Outside.{outside_of}
use Rattle.kl_engine.specs.Running.{AnswersTerm, IsTermOutcome, IsListOutcome, IsValueOutcome, PlanOver, Scanned, fault_of, plan_over}
use Rattle.kl_engine.specs.Verdict.{value_page, refused, cut}
use Rattle.kl_engine.specs.declared.fault.Fault.{Fault}
use Rattle.kl_engine.specs.declared.fault.Fault.TheVariants as fault
use Rattle.kl_engine.proofs.AnswerLemmas.{IsStopped, term_stopped, term_printed, value_verdict, value_is, value_past}
use Rattle.kl_engine.proofs.PageLemmas.{prints_refused}
use Rattle.kl_engine.proofs.SilentLemmas.{unprinted_on}

-- drivers whose scans are all closed again
pub quiet_keeps : (a b : Running) → Moves nothing nothing a b → KeepsDrivers (λ name. ⊥) a.drivers b.drivers
quiet_keeps a b moves =
    let steps = moves_quiet a b moves in
    record {
      size = steps.size;
      each = λ i x y this that. let quiet = steps.each i x y this that in record { keeps = quiet.keeps; cursors = quiet.cursors; attached = λ name none. ap (λ at. at name) quiet.attached };
    }

module _ (p : Node) (Holds : Listing → Type 0) (holds : Holds (parts_of p)) where
  pub cause_stops : (x : Name) (e : DriverError) (old new : Running) → StoppedAt Holds x e old new → IsStopped (plan_over (session old) p) (fault_of x e) old.drivers new.drivers
  cause_stops x error.Failed old new s = (s.by.place, (s.by.before, s.by.then, s.by.was, s.by.is, s.by.cause))
  cause_stops x (error.Changed d) old new s =
      (s.by.number, s.by.listed, s.by.place, s.by.at, sym s.by.named, s.by.held, (s.by.before, s.by.then, s.by.was, s.by.is, s.by.cause.1), (s.scan, s.stood (parts_of p) holds, sym s.named))
  cause_stops x error.NoMemory old new s = tt
  cause_stops x (error.BadSource place) old new s = absurd s.by.cause
  cause_stops x (error.TooLong most) old new s = absurd s.by.cause
  cause_stops x (error.TooDeep place) old new s = absurd s.by.cause

-- ---- over a session in which the plan of a term runs

module _ (ks : List DriverKind) (ss : List Source) (marks : ℕ → Bool) (t : Tree) (p : Node) (first : Option ℕ) (a b : Running) (files : FilesState) (runs : Runs ks ss marks t p a) where
  pub makes_sense : HaveSources (types_of (session a)) (values_of (session a)) → core (values_of (session a)) t [] ≢ stuck
  makes_sense told = never_stuck (types_of (session a)) (values_of (session a)) told t [] [] runs.sense.0 tt runs.sense.1

  -- what the plan comes to is what the term means
  comes_to : (o : Outcome) → ComesTo [] p o a b → HaveSources (types_of (session a)) (values_of (session a)) → core (values_of (session a)) t [] ≡ o
  comes_to o h told =
      let s = runs.sense in
      sym (runs.value told s.0 s.1) ∙ h.comes [] s.0 tt (runs.typed s.0 s.1) (runs.told told)

  abbrev GivesValue : Ending → SinkState → SinkState → Type 0
  GivesValue end out out' = AnswersTerm ⊥ (IsValueOutcome first (core (values_of (session a)) t [])) (HaveSources (types_of (session a)) (values_of (session a))) end (plan_over (session a) p) (outside_of files a.drivers out) (outside_of files b.drivers out')

  pub value_given : (w : Value) (end : Ending) (out out' : SinkState) → Partly [] p (Ok w) a b → PrintsPage (value_page (cut first w)) end out out' → GivesValue end out out'
  value_given w end out out' h prints =
      term_printed ⊥ (IsValueOutcome first (core (values_of (session a)) t [])) (HaveSources (types_of (session a)) (values_of (session a))) (plan_over (session a) p) files a.drivers b.drivers (quiet_keeps a b h.moves)
      (value_page (cut first w)) end out out' tt (λ told. value_is first (core (values_of (session a)) t []) w (comes_to (done w) h told)) prints

  value_over : (out : SinkState) → Partly [] p (Err stop.Overflow) a b → GivesValue (Some fault.Overflow) out out
  value_over out h =
      term_printed ⊥ (IsValueOutcome first (core (values_of (session a)) t [])) (HaveSources (types_of (session a)) (values_of (session a))) (plan_over (session a) p) files a.drivers b.drivers (quiet_keeps a b h.1.moves)
      (refused fault.Overflow) (Some fault.Overflow) out out tt (λ told. value_past first (core (values_of (session a)) t []) h.0 (comes_to (over h.0) h.1 told)) (prints_refused fault.Overflow out)

  value_driver : (out : SinkState) (x : Name) (d : DriverError) → Partly [] p (Err (stop.Driver x d)) a b → GivesValue (Some (fault_of x d)) out out
  value_driver out x d h =
      term_stopped ⊥ (IsValueOutcome first (core (values_of (session a)) t [])) (HaveSources (types_of (session a)) (values_of (session a))) (plan_over (session a) p) files a.drivers b.drivers (quiet_keeps a b h.moves)
      (fault_of x d) out (cause_stops p (λ all. PartsIn all p) (parts_in_all p) x d a b h.reason) (λ told. value_verdict first (core (values_of (session a)) t []) (makes_sense told))

  value_wanted : (out : SinkState) → Partly [] p (Err stop.NoMemory) a b → GivesValue (Some fault.NoMemory) out out
  value_wanted out h =
      term_stopped ⊥ (IsValueOutcome first (core (values_of (session a)) t [])) (HaveSources (types_of (session a)) (values_of (session a))) (plan_over (session a) p) files a.drivers b.drivers (quiet_keeps a b h.moves)
      fault.NoMemory out tt (λ told. value_verdict first (core (values_of (session a)) t []) (makes_sense told))

  -- the same from the code's equations
  module _ (e : EvalStop) (out : SinkState) (h : Partly [] p (Err e) a b) where
    pub value_past_end : e ≡ stop.Overflow → GivesValue (Some fault.Overflow) out out
    value_past_end is = value_over out (subst (λ z. Partly [] p (Err z) a b) is h)

    pub value_failed : (x : Name) (d : DriverError) (f : Fault) → e ≡ stop.Driver x d → f ≡ fault_of x d → GivesValue (Some f) out out
    value_failed x d f is same = subst (λ g. GivesValue (Some g) out out) (sym same) (value_driver out x d (subst (λ z. Partly [] p (Err z) a b) is h))

    pub value_lost : e ≡ stop.NoMemory → GivesValue (Some fault.NoMemory) out out
    value_lost is = value_wanted out (subst (λ z. Partly [] p (Err z) a b) is h)

-- ---- what is counted of a value

module _ (p : Node) (first : Option ℕ) (a b : Running) where
  pub value_scanned : (end : Ending) (w : Value) → HasWorth a p [] → Partly [] p (Ok w) a b → Scanned p end first a b
  value_scanned end w (G, s, have, types, ready) h = record {
    moves = h.moves;
    known = h.known (parts_of p) (parts_in_all p);
    exact = λ well all told P. h.counts G s have types told tt P;
  }

  pub stop_scanned : (end : Ending) (e : EvalStop) → (end ≡ None → ⊥) → Partly [] p (Err e) a b → Scanned p end first a b
  stop_scanned end stop.Overflow never h = record { moves = h.1.moves; known = h.1.known (parts_of p) (parts_in_all p); exact = λ well. absurd (never well) }
  stop_scanned end (stop.Driver l e) never h = record { moves = h.moves; known = h.known (parts_of p) (parts_in_all p); exact = λ well. absurd (never well) }
  stop_scanned end stop.NoMemory never h = record { moves = h.moves; known = h.known (parts_of p) (parts_in_all p); exact = λ well. absurd (never well) }

-- ---- either

module _ (listed : Bool) (first : Option ℕ) (o : Outcome) (told : Type 0) (end : Ending) (run : PlanOver) (files : FilesState) (ds ds' : List State) (out out' : SinkState) where
  -- what gives lists in one way gives lists in another
  answers_on : (Lists Fewer : Type 0) → (Fewer → Lists) → AnswersTerm Fewer (IsTermOutcome listed first o) told end run (outside_of files ds out) (outside_of files ds' out') → AnswersTerm Lists (IsTermOutcome listed first o) told end run (outside_of files ds out) (outside_of files ds' out')
  answers_on Lists Fewer more answers = record {
    follows = answers.follows;
    read = answers.read;
    write = answers.write;
    changed = answers.changed;
    no_other = answers.no_other;
    nothing = λ is. answers.nothing (unprinted_on Fewer Lists more end is);
    drivers = answers.drivers;
  }

  pub as_list : listed ≡ true → AnswersTerm ⊤ (IsListOutcome first o) told end run (outside_of files ds out) (outside_of files ds' out') → AnswersTerm (listed ≡ true) (IsTermOutcome listed first o) told end run (outside_of files ds out) (outside_of files ds' out')
  as_list is answers = answers_on (listed ≡ true) ⊤ (λ h. is) (subst (λ b. AnswersTerm ⊤ (IsTermOutcome b first o) told end run (outside_of files ds out) (outside_of files ds' out')) (sym is) answers)

  pub as_value : listed ≡ false → AnswersTerm ⊥ (IsValueOutcome first o) told end run (outside_of files ds out) (outside_of files ds' out') → AnswersTerm (listed ≡ true) (IsTermOutcome listed first o) told end run (outside_of files ds out) (outside_of files ds' out')
  as_value is answers = answers_on (listed ≡ true) ⊥ (λ h. absurd h) (subst (λ b. AnswersTerm ⊥ (IsTermOutcome b first o) told end run (outside_of files ds out) (outside_of files ds' out')) (sym is) answers)
