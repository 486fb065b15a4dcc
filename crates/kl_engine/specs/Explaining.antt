-- The lines of a program's plan, which is made and not run.
use Rattle.std.specs.Prelude.{◌≡◌, ℕ, List, map}
use Rattle.kl_core.specs.Trees.{Tree}
use Rattle.kl_syntax.specs.Syntax.{Decls, Exp}
use Rattle.kl_desugar.specs.Translation.{term_of}
use Rattle.kl_ask.specs.Driver.{DriverKind}
use Rattle.kl_ask.specs.declared.settings.Settings.{Settings}
use Rattle.kl_plan.specs.Nodes.{Node}
use Rattle.kl_sources.specs.Sources.{names_of}
use Rattle.kl_sources.specs.declared.source.Source.{Source}
use Rattle.kl_run.specs.Planned.{IsPlanOf, ships_of}
use Rattle.kl_tools.specs.Explained.{explained}
use Rattle.kl_engine.specs.Rewritten.{IsRewrittenTo}

-- The plan of a term: that of a term to which steps of rewriting lead from it, where rewriting is on.
pub record PlansRewritten (ks : List DriverKind) (settings : Settings) (ss : List Source) (t : Tree) (p : Node) : Type 0 where
  pub steps : ℕ
  pub term : Tree
  pub rewritten : IsRewrittenTo settings.rewrite t steps term
  pub planned : IsPlanOf settings (ships_of ks ss) term p

-- the lines of a plan, over drivers of these kinds
abbrev pub plan_lines : List DriverKind → Node → List ℕ
plan_lines ks p = explained (map (λ k. k.name) ks) p

-- the lines of a plan of a program
abbrev pub IsExplanation : List DriverKind → List Source → Settings → Decls → Exp → List ℕ → Type 0
IsExplanation ks ss settings ds e page =
    (p : Node) × PlansRewritten ks settings ss (term_of ds e (names_of ss)) p × (page ≡ plan_lines ks p)
