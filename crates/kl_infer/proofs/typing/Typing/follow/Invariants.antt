use Rattle.std.proofs.Common.{drop}
use Rattle.kl_rows.specs.Places.{IsType}
use Rattle.kl_meaning.specs.Typing.{PathTypes}
use Rattle.kl_infer.specs.Asking.{cells, Leaves}
use Rattle.kl_infer.proofs.typing.Typing.follow.Given as goal

abbrev pub invariant-labels : goal.invariant-labels
invariant-labels l = record {
  asks : Leaves (cells l.initial.self) (cells l.self) (λ s. PathTypes l.labels (s.types l.from) (s.types l.want)) (λ s. PathTypes (drop l.i l.labels) (s.types l.t) (s.types l.want));
  there : IsType (cells l.self) l.t;
}
