-- Which subqueries are the same.
use Rattle.std.specs.Prelude.{Bool, ◌&&◌, nat_eq}
use Rattle.std.specs.Cmp.Lexicographic.{pointwise}
use Rattle.kl_ask.specs.Driver.{same_value}
use Rattle.kl_plan.specs.Subqueries.{Subquery}

abbrev pub same_subquery : Subquery → Subquery → Bool
same_subquery a b = nat_eq a.0 b.0 && pointwise same_value a.1 b.1
