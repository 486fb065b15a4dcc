use Rattle.std.proofs.Common.{None, refl}
use Rattle.kl_cursor.proofs.KindCode.{case_first, case_kind}
use Rattle.kl_cursor.proofs.drawing.+kind.Goals as goal

pub kind_of_items-returns-in-Some-kind_of_branches : goal.kind_of_items-returns-in-Some-kind_of_branches
kind_of_items-returns-in-Some-kind_of_branches t c = case_first _ _ _ _ _ _ c.in-Case.is c.slice.ensures c.in-Some-kind_of_branches.ensures

pub kind_of_items-returns-in-Some-other : goal.kind_of_items-returns-in-Some-other
kind_of_items-returns-in-Some-other t c =
    case_kind _ _ _ _ _ _ _ None _ _ c.in-Case.is c.slice.ensures c.in-None-kind_of_branches.ensures c.in-Some-other.is c.get-in-Some-other.ensures c.kind_of_items-in-Some-other.ensures refl
