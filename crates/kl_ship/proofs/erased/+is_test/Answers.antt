use Rattle.kl_ship.proofs.Finding.{compared_is_test}
use Rattle.kl_ship.proofs.erased.+is_test.Goals as goal

pub returns-in-Some : goal.returns-in-Some
returns-in-Some t c =
    compared_is_test _ _ _ _ _ _ _ _ c.in-Prim.is c.comparison.ensures c.in-Some.is c.slice.ensures (c.compares.ensures c.in-Some.field-0)
