-- What is said of a run is said of one that is the same.
use Rattle.std.proofs.Common.{◌≡◌, ℕ, Bool, true, List, [], Option, Some, sym, subst, ◌∙◌}
use Rattle.kl_outside.specs.Files.{FilesState}
use Rattle.kl_outside.specs.Sinks.{SinkState}
use Rattle.kl_core.specs.Core.{core}
use Rattle.kl_core.specs.Trees.{Tree}
use Rattle.kl_core.specs.Typing.{HaveSources}
use Rattle.kl_ask.specs.Driver.{DriverKind, State}
use Rattle.kl_ask.specs.World.{types_of, values_of}
use Rattle.kl_plan.specs.Nodes.{Node}
use Rattle.kl_scans.specs.Running.{Running, session}
use Rattle.kl_sources.specs.declared.source.Source.{Source}
use Rattle.kl_run.specs.Running.{Runs}
use Rattle.kl_engine.specs.Faults.{Ending}
use Rattle.kl_engine.specs.Outside.{outside_of}
use Rattle.kl_engine.specs.Running.{AnswersTerm, IsListTerm, IsTermOutcome, Scanned, SparesRows, plan_over}

module _ (a w : Running) (is : a ≡ w) where
  pub begun_runs : (ks : List DriverKind) (ss : List Source) (marks : ℕ → Bool) (t : Tree) (p : Node) → Runs ks ss marks t p w → Runs ks ss marks t p a
  begun_runs ks ss marks t p runs = subst (Runs ks ss marks t p) (sym is) runs

  pub begun_list : (t : Tree) → IsListTerm (types_of (session w)) t → IsListTerm (types_of (session a)) t
  begun_list t list = subst (λ x. IsListTerm (types_of (session x)) t) (sym is) list

  pub begun_answers : (listed : Bool) (first : Option ℕ) (t : Tree) (end : Ending) (p : Node) (files : FilesState) (last : List State) (out out' : SinkState)
      → AnswersTerm (listed ≡ true) (IsTermOutcome listed first (core (values_of (session a)) t [])) (HaveSources (types_of (session a)) (values_of (session a))) end (plan_over (session a) p) (outside_of files a.drivers out) (outside_of files last out')
      → AnswersTerm (listed ≡ true) (IsTermOutcome listed first (core (values_of (session w)) t [])) (HaveSources (types_of (session w)) (values_of (session w))) end (plan_over (session w) p) (outside_of files w.drivers out) (outside_of files last out')
  begun_answers listed first t end p files last out out' answers =
      subst (λ x. AnswersTerm (listed ≡ true) (IsTermOutcome listed first (core (values_of (session x)) t [])) (HaveSources (types_of (session x)) (values_of (session x))) end (plan_over (session x) p) (outside_of files x.drivers out) (outside_of files last out'))
      is answers

  module _ (p : Node) (end : Ending) (first : Option ℕ) (b : Running) where
    pub begun_scanned : Scanned p end first a b → Scanned p end first w b
    begun_scanned scanned = subst (λ x. Scanned p end first x b) is scanned

    pub begun_spares : (listed : Bool) (out out' : SinkState) → (listed ≡ true → SparesRows p end first a b out out') → listed ≡ true → SparesRows p end first w b out out'
    begun_spares listed out out' spares list = subst (λ x. SparesRows p end first x b out out') is (spares list)

  pub begun_none : (listed : Bool) (first : Option ℕ) (b : Running) → (listed ≡ true → first ≡ Some 0 → b ≡ a) → listed ≡ true → first ≡ Some 0 → b ≡ w
  begun_none listed first b none list zero = none list zero ∙ is
