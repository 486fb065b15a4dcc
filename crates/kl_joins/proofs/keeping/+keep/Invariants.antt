use Rattle.std.proofs.Common.{take}
use Rattle.kl_joins.specs.MemosMade.{EachKept, FieldsKept}
use Rattle.kl_joins.proofs.Fronts.{Fronts}
use Rattle.kl_joins.proofs.Kept.{node_front, field_front}
use Rattle.kl_joins.proofs.keeping.+keep.Given as goal

abbrev pub invariant-keep_labelled-parts : goal.invariant-keep_labelled-parts
invariant-keep_labelled-parts l =
    record {
      unvisited : goal.unvisited-keep_labelled-parts l;
      kept : Fronts field_front (FieldsKept l.place l.depth)
          (take l.i l.initial.parts) (take l.i l.parts);
    }

abbrev pub invariant-keep_all-plans : goal.invariant-keep_all-plans
invariant-keep_all-plans l = record {
  unvisited : goal.unvisited-keep_all-plans l;
  kept : Fronts node_front (EachKept l.place l.depth)
      (take l.i l.initial.plans) (take l.i l.plans);
}
