use Rattle.std.proofs.Common.{drop}
use Rattle.kl_core.specs.Trees.{view, trees_view, parts_view}
use Rattle.kl_outcome.specs.Outcome.{flow}
use Rattle.kl_eval.specs.Values.{values}
use Rattle.kl_eval.specs.Evals.{end_of}
use Rattle.kl_eval.proofs.Loops.{OnEach, OnBody, OnFields}
use Rattle.kl_eval.proofs.evaluator.+eval.Given as goal

abbrev pub invariant-each-terms : goal.invariant-each-terms
invariant-each-terms g l = OnEach (trees_view l.terms) (trees_view (drop l.term-index l.terms)) (values l.env) l.items.items (g.T.Seen.world l.initial.tables) (g.T.Seen.world l.tables)

abbrev pub invariant-draw-drawn : goal.invariant-draw-drawn
invariant-draw-drawn g l = OnBody (view l.body) (flow l.drawn (end_of l.past)) (flow (drop l.item-index l.drawn) (end_of l.past)) (drop l.item-index l.drawn) (values l.env) l.items.items (g.T.Seen.world l.initial.tables) (g.T.Seen.world l.tables)

abbrev pub invariant-each_field-parts : goal.invariant-each_field-parts
invariant-each_field-parts g l = OnFields (parts_view l.parts) (parts_view (drop l.part-index l.parts)) (values l.env) l.fields.items (g.T.Seen.world l.initial.tables) (g.T.Seen.world l.tables)
