use Rattle.std.proofs.Common.{◌+◌, ◌*◌}
use Rattle.kl_core.specs.Trees.{trees_view, parts_view, view}
use Rattle.kl_core.specs.Counts.{nodes_of, nodes_trees, nodes_parts, nodes_arms}
use Rattle.kl_ship.specs.Shipping.{other_view}
use Rattle.kl_ship.specs.Sizes.{loops_in, loops_trees, loops_parts, loops_arms}
use Rattle.kl_ship.proofs.Shipped.{TermsLeft, PartsLeft, weight}
use Rattle.kl_ship.proofs.shipping.+part.Given as goal

abbrev pub decreases-part : goal.decreases-part
decreases-part l = 8 * weight l.sources.now (nodes_of (view l.term.now)) (loops_in (view l.term.now)) + 4

abbrev pub decreases-boxed : goal.decreases-boxed
decreases-boxed l = 8 * weight l.sources.now (nodes_of (view l.term.now)) (loops_in (view l.term.now)) + 5

abbrev pub decreases-united : goal.decreases-united
decreases-united l = 8 * weight l.sources.now (1 + (nodes_of (view l.a.now) + nodes_of (view l.b.now))) (loops_in (view l.a.now) + loops_in (view l.b.now)) + 3

abbrev pub decreases-looped : goal.decreases-looped
decreases-looped l = 8 * weight l.sources.now (1 + (nodes_of (view l.body.now) + nodes_of (view l.over.now))) (1 + (loops_in (view l.body.now) + loops_in (view l.over.now))) + 3

abbrev pub decreases-bound : goal.decreases-bound
decreases-bound l = 8 * weight l.sources.now (1 + (nodes_of (view l.a.now) + nodes_of (view l.b.now))) (loops_in (view l.a.now) + loops_in (view l.b.now)) + 3

abbrev pub decreases-tested : goal.decreases-tested
decreases-tested l =
    8 * weight l.sources.now (1 + (nodes_of (view l.a.now) + (nodes_of (view l.b.now) + nodes_of (view l.c.now))))
    (loops_in (view l.a.now) + (loops_in (view l.b.now) + loops_in (view l.c.now))) + 3

abbrev pub decreases-cased : goal.decreases-cased
decreases-cased l =
    8 * weight l.sources.now (1 + (nodes_of (view l.a.now) + (nodes_parts (parts_view l.branches.now) + nodes_arms (other_view l.other.now))))
    (loops_in (view l.a.now) + (loops_parts (parts_view l.branches.now) + loops_arms (other_view l.other.now))) + 3

abbrev pub decreases-otherwise : goal.decreases-otherwise
decreases-otherwise l = 8 * weight l.sources.now (1 + nodes_arms (other_view l.other.now)) (loops_arms (other_view l.other.now)) + 3

abbrev pub decreases-all : goal.decreases-all
decreases-all l = 8 * weight l.sources.now (1 + nodes_trees (trees_view l.terms.now)) (loops_trees (trees_view l.terms.now)) + 3

abbrev pub decreases-labelled : goal.decreases-labelled
decreases-labelled l = 8 * weight l.sources.now (1 + nodes_parts (parts_view l.parts.now)) (loops_parts (parts_view l.parts.now)) + 3

abbrev pub decreases-generator : goal.decreases-generator
decreases-generator l = 8 * weight l.sources.now (1 + (nodes_of (view l.body.now) + 1)) (1 + loops_in (view l.body.now)) + 2

abbrev pub decreases-asked : goal.decreases-asked
decreases-asked l = 8 * weight l.sources.now (1 + (nodes_of (view l.body.now) + 1)) (1 + loops_in (view l.body.now)) + 1

abbrev pub decreases-stated : goal.decreases-stated
decreases-stated l = 8 * weight l.sources.now (1 + (nodes_of (view l.body.now) + 1)) (1 + loops_in (view l.body.now)) + 1

abbrev pub decreases-behind : goal.decreases-behind
decreases-behind l = 8 * weight l.sources.now (1 + (nodes_of (view l.body.now) + 1)) (1 + loops_in (view l.body.now))

abbrev pub decreases-drawn : goal.decreases-drawn
decreases-drawn l = 8 * weight l.sources.now (nodes_of (view l.body.now)) (loops_in (view l.body.now)) + 6

abbrev pub decreases-chosen : goal.decreases-chosen
decreases-chosen l =
    8 * weight l.sources.now (1 + (nodes_of (view l.condition.now) + (nodes_of (view l.yes.now) + nodes_of (view l.no.now))))
    (loops_in (view l.condition.now) + (loops_in (view l.yes.now) + loops_in (view l.no.now))) + 5

abbrev pub invariant-all-loop-term : goal.invariant-all-loop-term
invariant-all-loop-term l = TermsLeft l.delegate l.sources l.terms l.term-index l.initial.number l.number l.made.items

abbrev pub invariant-labelled-loop-item : goal.invariant-labelled-loop-item
invariant-labelled-loop-item l = PartsLeft l.delegate l.sources l.need l.parts l.item-index l.initial.number l.number l.made.items
