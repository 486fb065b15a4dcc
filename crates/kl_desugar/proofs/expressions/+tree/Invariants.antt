use Rattle.std.proofs.Common.{◌≡◌, ◌++◌, map, take, drop}
use Rattle.kl_syntax.specs.View.{view, quals_view, steps_view}
use Rattle.kl_core.specs.Trees as term
use Rattle.kl_core.specs.Trees.{view_part}
use Rattle.kl_desugar.specs.Translation.{tree, tree_steps}
use Rattle.kl_desugar.specs.Layers.{after_quals, quals_layers}
use Rattle.kl_desugar.specs.States.{layers_view, codes_of, field_of, arm_of}
use Rattle.kl_desugar.proofs.expressions.+tree.Given as goal

abbrev pub invariant-tree_all-loop-e : goal.invariant-tree_all-loop-e
invariant-tree_all-loop-e l = map term.view l.terms.items ≡ map (λ e. tree (view e) (codes_of l.codes) l.scope) (take l.e-index l.es)

abbrev pub invariant-tree_quals-loop-qual : goal.invariant-tree_quals-loop-qual
invariant-tree_quals-loop-qual l =
    (after_quals (quals_view (drop l.qual-index l.quals)) l.scope.items ≡ after_quals (quals_view l.quals) l.initial.scope.items)
    × (layers_view l.layers.items ++ quals_layers (quals_view (drop l.qual-index l.quals)) l.kind (codes_of l.codes) l.scope.items
    ≡ layers_view l.initial.layers.items ++ quals_layers (quals_view l.quals) l.kind (codes_of l.codes) l.initial.scope.items)

abbrev pub invariant-tree_steps-loop-step : goal.invariant-tree_steps-loop-step
invariant-tree_steps-loop-step l = tree_steps (steps_view (drop l.step-index l.steps)) (term.view l.term) (codes_of l.codes) l.scope ≡ tree_steps (steps_view l.steps) (term.view l.initial.term) (codes_of l.codes) l.scope

abbrev pub invariant-tree_fields-loop-field : goal.invariant-tree_fields-loop-field
invariant-tree_fields-loop-field l = map view_part l.terms.items ≡ map (field_of (codes_of l.codes) l.scope) (take l.field-index l.fields)

abbrev pub invariant-tree_branches-loop-branch : goal.invariant-tree_branches-loop-branch
invariant-tree_branches-loop-branch l = map view_part l.terms.items ≡ map (arm_of (codes_of l.codes) l.scope) (take l.branch-index l.branches)
