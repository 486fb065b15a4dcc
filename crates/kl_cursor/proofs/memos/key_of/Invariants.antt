use Rattle.std.proofs.Common.{◌≡◌, ◌++◌, drop}
use Rattle.kl_eval.specs.Values.{values}
use Rattle.kl_plan.specs.Subqueries.{values_at}
use Rattle.kl_cursor.proofs.memos.key_of.Given as goal

abbrev pub invariant-frees : goal.invariant-frees
invariant-frees l = l.found.items ++ values_at (values l.env) (drop l.at-index l.frees) ≡ values_at (values l.env) l.frees
