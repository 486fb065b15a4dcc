use Rattle.std.proofs.Common.{refl}
use Rattle.kl_rules.proofs.Walks.{other_raised}
use Rattle.kl_rules.proofs.KnownShapes.{branch_taken}
use Rattle.kl_rules.proofs.shapes.rule_14.Goals as goal

pub chosen-requires : goal.chosen-requires
chosen-requires c = record { fits = other_raised _ _ _ _ _ c.in-Case.is refl c.requires.small }

pub returns-in_ok-bound-in-Some : goal.returns-in_ok-bound-in-Some
returns-in_ok-bound-in-Some c =
    branch_taken _ _ _ _ _ _ _ _ _ _ _ _ c.in-Case.is c.get.ensures c.in-Inj.is c.get-in-Some.ensures c.in_ok-dup-in-Some.ensures c.in_ok-a.ensures c.in-Some.is c.in_ok-bound-in-Some.ensures
