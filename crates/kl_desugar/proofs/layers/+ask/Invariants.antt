use Rattle.std.proofs.Common.{◌≡◌, ◌++◌, drop}
use Rattle.kl_syntax.specs.View.{patterns_view}
use Rattle.kl_desugar.specs.Layers.{after_pats, pats_layers}
use Rattle.kl_desugar.specs.States.{layers_view, place_view, codes_of}
use Rattle.kl_desugar.proofs.layers.+ask.Given as goal

abbrev pub invariant-fields : goal.invariant-fields
invariant-fields l =
    (after_pats (patterns_view (drop l.field-index l.field-items)) l.scope.items ≡ after_pats (patterns_view l.field-items) l.initial.scope.items)
    × (layers_view l.layers.items ++ pats_layers (patterns_view (drop l.field-index l.field-items)) (place_view l.place) (codes_of l.codes) l.outer l.scope.items
    ≡ layers_view l.initial.layers.items ++ pats_layers (patterns_view l.field-items) (place_view l.place) (codes_of l.codes) l.outer l.initial.scope.items)
