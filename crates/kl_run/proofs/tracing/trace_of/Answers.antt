use Rattle.std.proofs.Common.{◌≡◌, ℕ, ◌∷◌, [], ◌++◌, List, refl, ap, ◌∙◌, arith}
use Rattle.kl_plan.specs.Nodes.{view}
use Rattle.kl_run.proofs.Traces.{entry, entries, entries_more, scans_few, plan_entries}
use Rattle.kl_run.proofs.tracing.trace_of.Goals as goal

pub count_scans-count-requires : goal.count_scans-count-requires
count_scans-count-requires c = scans_few c.requires.1 c.requires.2 (view c.args.plan.now) c.requires.3 c.requires.4

pub scans-preserved : goal.scans-preserved
scans-preserved c = c.in_ok-push.ensures.items ∙ ap (λ (es : List (ℕ × ℕ)). es ++ entry c.scans.number ∷ []) c.scans.invariant ∙ entries_more c.scans.number

pub returns : goal.returns
returns c =
    let all : c.scans.number ≡ c.count_scans-count.result = omega (arith, c.scans-test.false, c.scans.auto.number-end) in
    record {
      steps = refl;
      starts = c.of.ensures ∙ c.scans.invariant ∙ ap entries (all ∙ c.count_scans-count.ensures) ∙ plan_entries c.requires.1 c.requires.2 (view c.args.plan.now) c.requires.3;
      joins = c.new-trace.ensures.joins;
      hits = c.new-trace.ensures.hits;
      misses = c.new-trace.ensures.misses;
      peak = c.new-trace.ensures.peak;
    }
