-- What is counted of a plan that was run over the sources of a program.
use Rattle.std.proofs.Common.{inl, true, ◌≡◌, ℕ, Bool, List, [], ◌∷◌, map, Option, Some, None, refl, sym, ap, subst, ◌∙◌, arith}
use Rattle.kl_outside.specs.Sinks.{SinkState}
use Rattle.kl_outcome.specs.Outcome.{Name}
use Rattle.kl_value.specs.declared.Kind.TheVariants as kind
use Rattle.kl_type.specs.Ground.{Ground, coll}
use Rattle.kl_core.specs.Trees.{Tree}
use Rattle.kl_desugar.specs.Translation.{term_of}
use Rattle.kl_syntax.specs.Syntax.{Decls, Exp}
use Rattle.kl_core.specs.Typing.{CoreTypes}
use Rattle.kl_ask.specs.Driver.{DriverKind, State}
use Rattle.kl_ask.specs.Lists.{EachSteps}
use Rattle.kl_ask.specs.World.{World, types_of}
use Rattle.kl_ask.proofs.Worlds.{there}
use Rattle.std.specs.List.{AllByRecursion}
use Rattle.std.specs.Option.{option_map}
use Rattle.std.proofs.lemmas.Option.{same_Some, slice_get_within}
use Rattle.kl_ask.specs.declared.settings.Settings.{Settings}
use Rattle.kl_ask.specs.declared.settings.Trace.{Trace}
use Rattle.kl_plan.specs.Meaning.{Readings}
use Rattle.kl_plan.specs.Nodes.{Node}
use Rattle.kl_plan.specs.Numbers.{NumbersDiffer, scans_in}
use Rattle.kl_joins.specs.Numbered.{AreNumbered}
use Rattle.kl_plan.specs.declared.plan.Scan.{Scan}
use Rattle.kl_ship.specs.declared.source.ShipSource.{ShipSource}
use Rattle.kl_scans.specs.Held.{nothing}
use Rattle.kl_scans.specs.Log.{rows_at}
use Rattle.kl_scans.specs.Moves.{Moves}
use Rattle.kl_scans.specs.Running.{Running, alone, session}
use Rattle.kl_scans.specs.Same.{same_subquery}
use Rattle.kl_scans.specs.Stage.{MemoOf, ScanOf, stage}
use Rattle.kl_scans.proofs.Moving.{moves_none}
use Rattle.kl_counts.specs.Counts.{Counts}
use Rattle.kl_cursor.specs.Laziness.{Handed}
use Rattle.kl_cursor.specs.Left.{reading}
use Rattle.kl_cursor.specs.Sense.{HasWorth, IsToldAt, TypesAt}
use Rattle.kl_cursor.proofs.LazyLaws.{handed_counts}
use Rattle.kl_run.specs.Counted.{AsksCounted, IsFreshTrace, Shows}
use Rattle.kl_run.specs.Planned.{IsPlanOf, ships_of}
use Rattle.kl_run.specs.Running.{Runs, fresh_run}
use Rattle.kl_run.proofs.Means.{means_term}
use Rattle.kl_run.proofs.Shipped.{are_sources}
use Rattle.kl_run.proofs.Known.{counts_known}
use Rattle.kl_run.proofs.Counts.{asks_counted, asks_attached, shows}
use Rattle.kl_sources.specs.Attaching.{MayAttach, world_of}
use Rattle.kl_sources.specs.Sources.{ArePlaced, grounds_of, kinds_of}
use Rattle.kl_sources.specs.declared.source.Source.{Source}
use Rattle.kl_engine.specs.Faults.{Ending}
use Rattle.kl_engine.specs.declared.fault.Fault.TheVariants as fault
use Rattle.kl_engine.specs.Planned.{CountsPlan, DrawsNone, HandsFew, HandsWritten, IsEarly, IsLine, IsUnstarted, PlanOf, RowsHanded, RunsPlan, course_of}
use Rattle.kl_engine.specs.Rewritten.{IsRewrittenTo}
use Rattle.kl_engine.specs.Verdict.{GivesList}
use Rattle.kl_engine.specs.declared.run.How.{How}
use Rattle.kl_engine.specs.Running.{HasList, IsListTerm, Scanned, SparesRows}
use Rattle.kl_engine.proofs.RewriteLemmas.{rewritten_keeps}

module _ {how : Settings} (ships : List ShipSource) (u : Tree) (p : Node) (planned : IsPlanOf how ships u p) (steps : ℕ) (was : Trace) (fresh : IsFreshTrace p steps was) where
  abbrev numbered : AreNumbered p
  numbered = planned.ships.finishes.numbered

  -- over a session in which it began afresh
  module _ (a b : Running) (trace : Trace) (at : a.trace ≡ trace) (same : trace ≡ was) (end : Ending) (first : Option ℕ) (scanned : Scanned p end first a b) where
    began : IsFreshTrace p steps a.trace
    began = subst (IsFreshTrace p steps) (sym (at ∙ same)) fresh

    pub plan_asks : (marks : ℕ → Bool) (ss : List Source) (ds : List State) → EachSteps (MayAttach marks ss) ds a.drivers → AsksCounted p b.trace.starts ds b.drivers
    plan_asks marks ss ds attached =
        asks_attached marks ss p b.trace.starts ds a.drivers b.drivers attached
        (asks_counted p numbered planned.numbers steps scanned.moves.events a b scanned.moves.logged scanned.known began)

    pub plan_shows : (block : ℕ) → a.settings.block ≡ block → Shows block p scanned.moves.events b.trace
    plan_shows block is = subst (λ n. Shows n p scanned.moves.events b.trace) is (shows p numbered planned.numbers steps scanned.moves.events a b scanned.moves.logged scanned.known began)

    pub plan_steps : b.trace.steps ≡ was.steps
    plan_steps = scanned.moves.logged.steps ∙ ap (λ (t : Trace). t.steps) (at ∙ same)

  -- nothing was done
  module _ (w : Running) (at : w.trace ≡ was) where
    unbegun : IsFreshTrace p steps w.trace
    unbegun = subst (IsFreshTrace p steps) (sym at) fresh

    abbrev still_moves : Moves nothing nothing w w
    still_moves = moves_none nothing w

    still_counted : AsksCounted p w.trace.starts w.drivers w.drivers
    still_counted = asks_counted p numbered planned.numbers steps [] w w still_moves.logged tt unbegun

    still_shows : Shows w.settings.block p [] w.trace
    still_shows = shows p numbered planned.numbers steps [] w w still_moves.logged tt unbegun

  pub still_asks : (settings : Settings) (ds : List State) → AsksCounted p was.starts ds ds
  still_asks settings ds = still_counted (alone (world_of ds [] settings was)) refl

  pub refused_asks : (marks : ℕ → Bool) (ss : List Source) (settings : Settings) (ds mid : List State) → EachSteps (MayAttach marks ss) ds mid → AsksCounted p was.starts ds mid
  refused_asks marks ss settings ds mid attached = asks_attached marks ss p was.starts ds mid mid attached (still_counted (alone (world_of mid [] settings was)) refl)

  pub refused_shows : (settings : Settings) → Shows settings.block p [] was
  refused_shows settings = still_shows (alone (world_of [] [] settings was)) refl

-- ---- no item is wanted

none_started : (cs : List Scan) → AllByRecursion IsUnstarted (map (λ c. (c.number, 0)) cs)
none_started [] = tt
none_started (c ∷ cs) = (refl, none_started cs)

pub refused_none : (p : Node) (steps : ℕ) (was : Trace) → IsFreshTrace p steps was → (marks : ℕ → Bool) (ss : List Source) (ds mid : List State) → EachSteps (MayAttach marks ss) ds mid → DrawsNone was.starts ds mid
refused_none p steps was fresh marks ss ds mid attached = (
  subst (AllByRecursion IsUnstarted) (sym fresh.starts) (none_started (scans_in p)),
  record { size = attached.size; each = λ i a b this that. (attached.each i a b this that).handed },
)

pub still_none : (p : Node) (steps : ℕ) (was : Trace) → IsFreshTrace p steps was → (ds : List State) → DrawsNone was.starts ds ds
still_none p steps was fresh ds = (
  subst (AllByRecursion IsUnstarted) (sym fresh.starts) (none_started (scans_in p)),
  record { size = refl; each = λ i a b this that. ap (λ (d : State). d.handed) (same_Some _ _ (sym that ∙ this)) },
)

pub plan_none : (p : Node) (steps : ℕ) (was : Trace) → IsFreshTrace p steps was → (a b : Running) (trace : Trace) → a.trace ≡ trace → trace ≡ was → (marks : ℕ → Bool) (ss : List Source) (ds : List State) → EachSteps (MayAttach marks ss) ds a.drivers → b ≡ a → DrawsNone b.trace.starts ds b.drivers
plan_none p steps was fresh a b trace at same marks ss ds attached still =
    subst (λ (w : Running). DrawsNone w.trace.starts ds w.drivers) (sym still)
    (subst (λ (t : Trace). DrawsNone t.starts ds a.drivers) (sym (at ∙ same)) (refused_none p steps was fresh marks ss ds a.drivers attached))

-- ---- a plan that runs

pub runs_worth : (ks : List DriverKind) (ss : List Source) (marks : ℕ → Bool) (t : Tree) (p : Node) (w : Running) → Runs ks ss marks t p w → HasWorth w p []
runs_worth ks ss marks t p w runs = ([], runs.sense.0, tt, runs.typed runs.sense.0 runs.sense.1, runs.ready)

pub runs_list : (ks : List DriverKind) (ss : List Source) (marks : ℕ → Bool) (t : Tree) (p : Node) (w : Running) → Runs ks ss marks t p w → IsListTerm (types_of (session w)) t → HasList w p
runs_list ks ss marks t p w runs list = (list.0, runs.typed (coll kind.List list.0) list.1, runs.ready)

-- where all was drawn and ended well, over sources that are told, all is counted
pub plan_counts : (ks : List DriverKind) (ss : List Source) (marks : ℕ → Bool) (t : Tree) (p : Node) (w : World) (b : Running) (end : Ending) (first : Option ℕ) → Runs ks ss marks t p (fresh_run p w) → NumbersDiffer p
    → (scanned : Scanned p end first (fresh_run p w) b) → end ≡ None → first ≡ None → IsToldAt (fresh_run p w)
    → Counts same_subquery w.settings.cache (reading (fresh_run p w)) w.settings.block p scanned.moves.events
plan_counts ks ss marks t p w b end first runs differ scanned well all told =
    let a = fresh_run p w in
    counts_known (ScanOf (stage a)) (MemoOf (stage a)) p runs.sense.0 (runs.typed runs.sense.0 runs.sense.1) differ scanned.moves.events a b scanned.moves.logged refl scanned.known (scanned.exact well all told)

-- ---- the plan of a term that was rewritten

pub translated_plan : (how : How) (ss : List Source) (marks : ℕ → Bool) (program : Decls) (e : Exp) (names : List Name) (end : Ending) (old new : List State) (blank printed : SinkState) (u : Tree) (p : Node) (steps : ℕ) (was trace : Trace)
    → ArePlaced (kinds_of old) ss → IsPlanOf how.settings (ships_of (kinds_of old) ss) u p → IsFreshTrace p steps was → trace.steps ≡ was.steps → (given : Tree) → given ≡ term_of program e names → IsRewrittenTo how.settings.rewrite given steps u → (IsEarly end → ⊥)
    → CountsPlan how ss marks (GivesList (grounds_of ss) program e) (course_of end trace old new blank printed) p
    → PlanOf (RunsPlan how ss marks program e names (course_of end trace old new blank printed)) end trace.steps (Some p)
translated_plan how ss marks program e names end old new blank printed u p steps was trace placed planned fresh same_steps given is rewritten late counts =
    let same : trace.steps ≡ steps = same_steps ∙ fresh.steps in
    let led : IsRewrittenTo how.settings.rewrite (term_of program e names) steps u = subst (λ x. IsRewrittenTo how.settings.rewrite x steps u) is rewritten in
    inl (
      p,
      refl,
      (
        counts,
        record {
          term = u;
          rewritten = subst (λ n. IsRewrittenTo how.settings.rewrite (term_of program e names) n u) (sym same) led;
          planned = planned;
          means = means_term (ships_of (kinds_of old) ss) (term_of program e names) u p (are_sources (kinds_of old) ss placed) planned (rewritten_keeps how.settings.rewrite (term_of program e names) u steps led);
        },
      ),
      late,
    )

-- ---- how few rows were handed

-- what was handed of a session's drivers was handed of those that sources were attached at
pub rows_handed : (marks : ℕ → Bool) (ss : List Source) (ds : List State) (a b : Running) → EachSteps (MayAttach marks ss) ds a.drivers → (c : Scan) (rows : ℕ) → Handed c rows a b → RowsHanded ds b.drivers c rows
rows_handed marks ss ds a b attached c rows h x y was is fits =
    let z = there a.drivers c.driver (let size = attached.size in let less = slice_get_within ds c.driver x was in omega (arith, size, less)) in
    let same : z.0.handed ≡ x.handed = (attached.each c.driver x z.0 was z.1).handed in
    let at : rows_at a c.driver ≡ Some x.handed = ap (option_map (λ s. s.handed)) z.1 ∙ ap Some same in
    same_Some _ _ (sym (ap (option_map (λ s. s.handed)) is) ∙ handed_counts c rows x.handed a b h at fits)

few_rows : (R : Readings) (fetch : ℕ) (p : Node) (first : Option ℕ) (Was Is : Scan → ℕ → Type 0) → ((c : Scan) (rows : ℕ) → Was c rows → Is c rows) → HandsFew R fetch p first Was → HandsFew R fetch p first Is
few_rows R fetch p first Was Is more few b c all items line told wanted enough = let h = few b c all items line told wanted enough in (h.0, more c h.0 h.1, h.2, h.3)

-- a loop over a scan that makes a list has the type of one alone
line_lists : (ks : List DriverKind) (ss : List Source) (marks : ℕ → Bool) (t : Tree) (p b : Node) (c : Scan) (w : Running) → Runs ks ss marks t p w → IsLine p b c → (s : Ground) → CoreTypes (types_of (session w)) [] t s → (u : Ground) × (s ≡ coll kind.List u)
line_lists ks ss marks t p b c w runs line s of = let typed = subst (λ q. TypesAt w [] q s) line.0 (runs.typed s of) in (typed.0, typed.3)

written_rows : (R : Readings) (fetch : ℕ) (p : Node) (blank printed : SinkState) (Was Is : Scan → ℕ → Type 0) → ((c : Scan) (rows : ℕ) → Was c rows → Is c rows) → HandsWritten R fetch p blank printed Was → HandsWritten R fetch p blank printed Is
written_rows R fetch p blank printed Was Is more h b c all items line told some fits lacks = let x = h b c all items line told some fits lacks in (x.0, more c x.0 x.1, x.2, x.3)

pub plan_few : (ks : List DriverKind) (ss : List Source) (marks : ℕ → Bool) (t : Tree) (p : Node) (ds : List State) (a b : Running) (end : Ending) (first : Option ℕ) (listed : Bool) → Runs ks ss marks t p a → EachSteps (MayAttach marks ss) ds a.drivers
    → (((s : Ground) → CoreTypes (types_of (session a)) [] t s → (u : Ground) × (s ≡ coll kind.List u)) → listed ≡ true) → (out out' : SinkState) → (listed ≡ true → SparesRows p end first a b out out') → end ≡ None → IsToldAt a
    → HandsFew (reading a) a.settings.fetch p first (RowsHanded ds b.drivers)
plan_few ks ss marks t p ds a b end first listed runs attached lists out out' spares well told b' c all items line =
    few_rows (reading a) a.settings.fetch p first (λ c rows. Handed c rows a b) (RowsHanded ds b.drivers) (rows_handed marks ss ds a b attached)
    ((spares (lists (line_lists ks ss marks t p b' c a runs line))).few well told) b' c all items line

pub plan_written : (ks : List DriverKind) (ss : List Source) (marks : ℕ → Bool) (t : Tree) (p : Node) (ds : List State) (a b : Running) (end : Ending) (first : Option ℕ) (listed : Bool) → Runs ks ss marks t p a → EachSteps (MayAttach marks ss) ds a.drivers
    → (((s : Ground) → CoreTypes (types_of (session a)) [] t s → (u : Ground) × (s ≡ coll kind.List u)) → listed ≡ true) → (out out' : SinkState) → (listed ≡ true → SparesRows p end first a b out out') → end ≡ Some fault.Write → IsToldAt a
    → HandsWritten (reading a) a.settings.fetch p out out' (RowsHanded ds b.drivers)
plan_written ks ss marks t p ds a b end first listed runs attached lists out out' spares failed told b' c all items line =
    written_rows (reading a) a.settings.fetch p out out' (λ c rows. Handed c rows a b) (RowsHanded ds b.drivers) (rows_handed marks ss ds a b attached)
    ((spares (lists (line_lists ks ss marks t p b' c a runs line))).written failed told) b' c all items line
