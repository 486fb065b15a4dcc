use Rattle.std.proofs.Common.{ap}
use Rattle.std.specs.Option.{option_copied}
use Rattle.kl_core.proofs.Raising.{fit_rest}
use Rattle.kl_rules.proofs.Walks.{branch_some, branch_other, branch_none}
use Rattle.kl_rules.proofs.shapes.chosen.Goals as goal

pub shift-requires : goal.shift-requires
shift-requires c = record { fits = fit_rest _ _ _ _ _ c.in-Some-other.is c.get-in-Some-other.ensures c.requires.fits }

pub returns-in_ok-dup-in-Some : goal.returns-in_ok-dup-in-Some
returns-in_ok-dup-in-Some c = branch_some c.args.label.now c.args.branches.now _ _ _ _ c.get.ensures (ap option_copied c.in-Some.is) c.in_ok-dup-in-Some.ensures

pub returns-in_ok-shift-in-Some-other : goal.returns-in_ok-shift-in-Some-other
returns-in_ok-shift-in-Some-other c =
    branch_other c.args.label.now c.args.branches.now c.args.other.now _ _ _ _ c.get.ensures (ap option_copied c.in-None.is) c.in-Some-other.is c.get-in-Some-other.ensures c.in_ok-shift-in-Some-other.ensures.shifted

pub returns-in-None-other : goal.returns-in-None-other
returns-in-None-other c = branch_none c.args.label.now c.args.branches.now c.args.other.now _ c.get.ensures (ap option_copied c.in-None.is) c.in-None-other.is
