use Rattle.kl_core.specs.Trees.{trees_view, parts_view}
use Rattle.kl_rewrite.specs.Places.{tree_at, field_at}
use Rattle.kl_rewrite.proofs.Parts.{PassesBelow}
use Rattle.kl_rewrite.proofs.search.Search.+step.Given as goal

abbrev pub invariant-all-terms : goal.invariant-all-terms
invariant-all-terms l = record {
  unvisited : goal.unvisited-all-terms l;
  passed : PassesBelow tree_at l.level l.i (trees_view l.initial.terms) (trees_view l.terms) l.initial.self l.self;
}

abbrev pub invariant-labelled-parts : goal.invariant-labelled-parts
invariant-labelled-parts l = record {
  unvisited : goal.unvisited-labelled-parts l;
  passed : PassesBelow field_at l.level l.i (parts_view l.initial.parts) (parts_view l.parts) l.initial.self l.self;
}
