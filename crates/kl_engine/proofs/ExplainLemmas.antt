-- What comes of a program that is explained.
use Rattle.std.proofs.Common.{◌≡◌, ◌∙◌, inl, inr, ℕ, List, [], ◌∷◌, Option, Some, None, map, refl, sym, ap, subst}
use Rattle.std.specs.Prelude.{Ok, Err}
use Rattle.kl_outside.specs.Files.{FilesState}
use Rattle.kl_outside.specs.Sinks.{SinkState}
use Rattle.kl_outcome.specs.Outcome.{Name}
use Rattle.kl_core.specs.Trees.{Tree}
use Rattle.kl_syntax.specs.Syntax.{Decls, Exp}
use Rattle.kl_syntax.specs.View.{decls_of, view}
use Rattle.kl_scope.specs.declared.scoped.Scoped.{Scoped}
use Rattle.kl_desugar.specs.Translation.{term_of}
use Rattle.kl_ask.specs.Driver.{DriverKind, State}
use Rattle.kl_ask.specs.declared.settings.Settings.{Settings}
use Rattle.kl_ask.specs.declared.settings.Trace.{Trace}
use Rattle.kl_plan.specs.Nodes.{Node}
use Rattle.kl_plan.specs.declared.plan.Plan.{Plan}
use Rattle.kl_run.specs.Counted.{AsksCounted, IsFreshTrace}
use Rattle.kl_run.specs.Planned.{IsPlanOf, ships_of}
use Rattle.kl_run.proofs.Means.{means_term}
use Rattle.kl_run.proofs.Shipped.{are_sources}
use Rattle.kl_sources.specs.Sources.{ArePlaced, kinds_of, names_of}
use Rattle.kl_sources.specs.declared.source.Source.{Source}
use Rattle.kl_tools.specs.Explained.{explained}
use Rattle.kl_engine.specs.Answering.{PrintsPage}
use Rattle.kl_engine.specs.Commands.{Command, NoneNamed, Origin, Program, Show, Upgrade, asked}
use Rattle.kl_words.specs.declared.command.Command.{Command as Read}
use Rattle.kl_engine.specs.Explaining.{IsExplanation, plan_lines}
use Rattle.kl_engine.specs.Faults.{Ending}
use Rattle.kl_engine.specs.Inputs.{ReadsInputs}
use Rattle.kl_engine.specs.Planned.{Explains, ExplainsPlan, HasPlan, IsEarly, IsUndone, IsUnrun, PlanOf, PlansAlone, PlansTerm, course_of, plan_in}
use Rattle.kl_engine.specs.Reading.{ReadsText}
use Rattle.kl_engine.specs.Rewritten.{IsRewrittenTo}
use Rattle.kl_engine.specs.Verdict.{well}
use Rattle.kl_engine.specs.declared.fault.Fault.{Fault}
use Rattle.kl_engine.specs.declared.inputs.Inputs.{Inputs}
use Rattle.kl_engine.specs.declared.run.How.{How}
use Rattle.kl_engine.specs.declared.run.Ran.{Ran}
use Rattle.kl_engine.specs.declared.top.Purpose.TheVariants as purpose
use Rattle.kl_engine.proofs.CountLemmas.{inputs_early, stops_early}
use Rattle.kl_engine.proofs.ProgramLemmas.{read_missing}
use Rattle.kl_engine.proofs.PlanLemmas.{refused_shows, still_asks}
use Rattle.kl_engine.proofs.RewriteLemmas.{rewritten_keeps}

-- what a page ends with is no refusal of a program
pub prints_late : (lines : List ℕ) (end : Ending) (out out' : SinkState) → PrintsPage (well lines) end out out' → IsEarly end → ⊥
prints_late lines end out out' prints early = elim prints.ends [
  | inl well ↦ subst IsEarly well early
  | inr (inl failed) ↦ subst IsEarly failed.0 early
  | inr (inr wanted) ↦ subst IsEarly wanted early
]

-- ---- the plan of a term that was rewritten

module _ (settings : Settings) (ss : List Source) (ds : List State) (program : Decls) (e : Exp) (names : List Name) (given u : Tree) (p : Node) (steps : ℕ) (trace : Trace)
    (placed : ArePlaced (kinds_of ds) ss) (planned : IsPlanOf settings (ships_of (kinds_of ds) ss) u p) (fresh : IsFreshTrace p steps trace)
    (is : given ≡ term_of program e names) (rewritten : IsRewrittenTo settings.rewrite given steps u) where
  led : IsRewrittenTo settings.rewrite (term_of program e names) steps u
  led = subst (λ x. IsRewrittenTo settings.rewrite x steps u) is rewritten

  pub explains_term : (end : Ending) (out out' : SinkState) → PrintsPage (well (plan_lines (kinds_of ds) p)) end out out'
      → PlanOf (PlansTerm settings (ships_of (kinds_of ds) ss) (term_of program e names) trace.steps) end trace.steps (Some p)
  explains_term end out out' prints = inl (
    p,
    refl,
    record {
      term = u;
      rewritten = subst (λ n. IsRewrittenTo settings.rewrite (term_of program e names) n u) (sym fresh.steps) led;
      planned = planned;
      means = means_term (ships_of (kinds_of ds) ss) (term_of program e names) u p (are_sources (kinds_of ds) ss placed) planned (rewritten_keeps settings.rewrite (term_of program e names) u steps led);
    },
    prints_late (plan_lines (kinds_of ds) p) end out out' prints,
  )

  pub explanation : names ≡ names_of ss → IsExplanation (kinds_of ds) ss settings program e (plan_lines (kinds_of ds) p)
  explanation same = (
    p,
    record { steps = steps; term = u; rewritten = subst (λ ls. IsRewrittenTo settings.rewrite (term_of program e ls) steps u) same led; planned = planned },
    refl,
  )

  pub explains_undone : IsUndone settings.block (Some p) trace
  explains_undone = refused_shows (ships_of (kinds_of ds) ss) u p planned steps trace fresh settings

  pub explains_asks : AsksCounted p trace.starts ds ds
  explains_asks = still_asks (ships_of (kinds_of ds) ss) u p planned steps trace fresh settings ds

-- ---- from a term to a text, and from a text to a command

-- the term is that of the program which the text is
pub explains_text : (settings : Settings) (ks : List DriverKind) (ss : List Source) (text : List ℕ) (s : Scoped) (end : Ending) (steps : ℕ) (plan : Option Node) → ReadsText (names_of ss) text (Ok s)
    → PlanOf (PlansTerm settings (ships_of ks ss) (term_of (decls_of s.program.defs) (view s.program.last) s.sources) steps) end steps plan
    → PlanOf (PlansAlone ks settings ss text steps) end steps plan
explains_text settings ks ss text s end steps plan (q, of, resolves) (inr none) = inr none
explains_text settings ks ss text s end steps plan (q, of, resolves) (inl (p, is, plans, late)) = inl (
  p,
  is,
  (
    q,
    of,
    subst (λ t. PlansTerm settings (ships_of ks ss) t steps p) (λ i. term_of (resolves.defs i) (resolves.last i) (resolves.sources_kept i)) plans,
  ),
  late,
)

pub explains_command : (how : How) (settings : Settings) (from : Origin) (f f' : FilesState) (end : Ending) (trace : Trace) (ds : List State) (blank printed : SinkState) (plan : Option Node) (i : Inputs) (text : List ℕ) (ss : List Source)
    → text ≡ i.text → ss ≡ i.sources → ReadsInputs from (kinds_of ds) (Ok i) f f'
    → PlanOf (PlansAlone (kinds_of ds) settings ss text trace.steps) end trace.steps plan → IsUndone settings.block plan trace
    → HasPlan how (Program (purpose.Explain settings) from) plan (course_of end trace ds ds blank printed) f f'
explains_command how settings from f f' end trace ds blank printed plan i text ss is same reads (inr none) undone =
    inr (none.0, none.1, stops_early (Program (purpose.Explain settings) from) end f f' (kinds_of ds) none.2)
explains_command how settings from f f' end trace ds blank printed plan i text ss is same reads (inl (p, at, plans, late)) undone = inl (
  p,
  at,
  (
    i.text,
    i.sources,
    reads.inputs,
    subst (λ t. PlansAlone (kinds_of ds) settings i.sources t trace.steps p) is (subst (λ us. PlansAlone (kinds_of ds) settings us text trace.steps p) same plans),
  ),
  subst (λ o. IsUndone settings.block o trace) at undone,
  late,
)

pub refused_explanation : (how : How) (settings : Settings) (from : Origin) (f f' : FilesState) (ds : List State) (blank printed : SinkState) (g : Fault) (ran : Ran) → IsUnrun ran → ReadsInputs from (kinds_of ds) (Err g) f f'
    → HasPlan how (Program (purpose.Explain settings) from) (plan_in ran.plan) (course_of (Some g) ran.trace ds ds blank printed) f f'
refused_explanation how settings from f f' ds blank printed g ran none reads =
    inr (
      ap plan_in none.0,
      none.1.steps,
      inputs_early (Program (purpose.Explain settings) from) from g f f' (kinds_of ds) (read_missing (purpose.Explain settings) from f f' g (kinds_of ds) reads) reads.no_other,
    )

-- ---- the names of drivers

module _ {D : Type 0} (state : D → State) where
  names_told : (ds : List D) → map (λ d. (state d).kind.name) ds ≡ map (λ k. k.name) (kinds_of (map state ds))
  names_told [] = refl
  names_told (d ∷ ds) = ap (λ ns. (state d).kind.name ∷ ns) (names_told ds)

  -- the lines that are printed are those of the plan
  pub prints_lines : (ds : List D) (p : Node) (text lines : List ℕ) (end : Ending) (out out' : SinkState) → lines ≡ text → text ≡ explained (map (λ d. (state d).kind.name) ds) p
      → PrintsPage (well lines) end out out' → PrintsPage (well (plan_lines (kinds_of (map state ds)) p)) end out out'
  prints_lines ds p text lines end out out' same is h =
      subst (λ page. PrintsPage (well page) end out out') (same ∙ is ∙ ap (λ ns. explained ns p) (names_told ds)) h

-- without a plan nothing is printed
pub unrun_lines : (ks : List DriverKind) (end : Ending) (ran : Ran) (out : SinkState) → IsUnrun ran → ExplainsPlan ks (plan_in ran.plan) end out out
unrun_lines ks end ran out none = subst (λ o. ExplainsPlan ks (plan_in o) end out out) (sym none.0) refl

-- ---- at the top

pub explains_nothing : (command : Command) (ks : List DriverKind) (end : Ending) (out : SinkState) → Explains command ks None end out out
explains_nothing NoneNamed ks end out = tt
explains_nothing (Program (purpose.Run first) from) ks end out = tt
explains_nothing (Program purpose.Check from) ks end out = tt
explains_nothing (Program purpose.Types from) ks end out = tt
explains_nothing (Program (purpose.Explain settings) from) ks end out = refl
explains_nothing (Show path) ks end out = tt
explains_nothing (Upgrade path word) ks end out = tt

-- nothing was done
pub undone_explains : (command : Command) (ks : List DriverKind) (plan : Option Plan) (end : Ending) (out : SinkState) → plan ≡ None → Explains command ks (plan_in plan) end out out
undone_explains command ks plan end out none = subst (λ o. Explains command ks (plan_in o) end out out) (sym none) (explains_nothing command ks end out)

-- the words are read so
pub found_explains : (found : Option Read) (r : Read) (ks : List DriverKind) (plan : Option Node) (end : Ending) (out out' : SinkState) → found ≡ Some r
    → Explains (asked (Some r)) ks plan end out out' → Explains (asked found) ks plan end out out'
found_explains found r ks plan end out out' is h = subst (λ o. Explains (asked o) ks plan end out out') (sym is) h

pub lines_told : (ks : List DriverKind) (plan answered : Option Plan) (end told : Ending) (out out' : SinkState) → told ≡ end → answered ≡ plan → ExplainsPlan ks (plan_in plan) end out out' → ExplainsPlan ks (plan_in answered) told out out'
lines_told ks plan answered end told out out' same planned h =
    subst (λ o. ExplainsPlan ks (plan_in o) told out out') (sym planned) (subst (λ e. ExplainsPlan ks (plan_in plan) e out out') (sym same) h)
