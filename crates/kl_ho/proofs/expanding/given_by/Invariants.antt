use Rattle.std.proofs.Common.{◌≡◌, ◌++◌, Some, drop}
use Rattle.kl_syntax.specs.View.{fields_view}
use Rattle.kl_ho.specs.Highers.{Funs, given_by}
use Rattle.kl_ho.proofs.expanding.given_by.Given as goal

abbrev pub invariant-loop-field : goal.invariant-loop-field
invariant-loop-field l = (given : Funs) → given_by (drop l.field-index l.handed) (fields_view l.fields) l.funs ≡ Some given → given_by l.handed (fields_view l.fields) l.funs ≡ Some (l.given.items ++ given)
