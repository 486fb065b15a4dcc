-- A join without a key means the loops for which it stands.
use Rattle.std.proofs.Common.{◌≡◌, ℕ, Bool, true, false, List, ◌∷◌, Option, Some, None, refl, sym, ap, ◌∙◌}
use mathlib.Core.Path.{fun_ext}
use Rattle.kl_value.specs.declared.Kind.{Kind}
use Rattle.kl_value.specs.declared.Value.{Value}
use Rattle.kl_value.specs.Views.{as_bool}
use Rattle.kl_ask.specs.declared.settings.JoinHow.{JoinHow}
use Rattle.kl_outcome.specs.Outcome.{Outcome, done, over, stuck, stop, fine, drawn}
use Rattle.kl_plan.specs.declared.plan.Scan.{Scan}
use Rattle.kl_plan.specs.Nodes as node
use Rattle.kl_plan.specs.Nodes.{Node, Nodes, no_nodes, nodes, no_key}
use Rattle.kl_plan.specs.Meaning.{Come, many, worth, coming, drawn_for, come_after, come_chosen, Readings, on_test, tested, plan, plan_conds}
use Rattle.kl_plan.specs.Loops.{around, loops}

pub chosen_tested : (k : Kind) (o : Outcome) (c : Come) → coming (come_after o (λ v. come_chosen (as_bool v) c (many k (stop fine)))) ≡ tested o (coming c)
chosen_tested k (done v) c = by (as_bool v)
  where
    by : (b : Option Bool) → coming (come_chosen b c (many k (stop fine))) ≡ on_test b (coming c)
    by (Some true) = refl
    by (Some false) = refl
    by None = refl
chosen_tested k (over vs) c = refl
chosen_tested k stuck c = refl

-- what is drawn of conditions around a plan is drawn of it where they hold
pub conds_around : (R : Readings) (k : Kind) (cs : Nodes) (p : Node) (env : List Value) → coming (plan R (around k cs p) env) ≡ plan_conds R cs env (coming (plan R p env))
conds_around R k no_nodes p env = refl
conds_around R k (nodes c cs) p env = chosen_tested k (worth (plan R c env)) (plan R (around k cs p) env) ∙ ap (tested (worth (plan R c env))) (conds_around R k cs p env)

pub join_is_loops : (R : Readings) (n : ℕ) (k : Kind) (how : JoinHow) (o : Node) (cs : Nodes) (i : Scan) (b : Node) (env : List Value)
    → plan R (node.Join n k how o cs i no_key b) env ≡ plan R (loops k o cs i b) env
join_is_loops R n k how o cs i b env =
    ap (λ go. many k (drawn (drawn_for k (plan R o env)) go)) (fun_ext λ x. sym (conds_around R k cs (node.Ext k b (node.Scan i)) (x ∷ env)))
