use Rattle.std.proofs.Common.{◌≡◌, ◌≤◌}
use Rattle.kl_core.specs.Trees.{view}
use Rattle.kl_rewrite.specs.Search.{IsStillBelow}
use Rattle.kl_rewrite.proofs.place.Allowance.find.Given as goal

abbrev pub invariant-rules : goal.invariant-rules
invariant-rules l = record {
  same : l.term ≡ l.initial.term;
  room : l.self.room ≡ l.initial.self.room;
  least : l.self.room ≤ l.self.calm;
  lower : l.self.calm ≤ l.initial.self.calm;
  none : IsStillBelow l.self.calm l.level (view l.term) l.number;
}
