use Rattle.std.proofs.Common.{◌≤◌, refl, subst, arith}
use Rattle.kl_core.specs.Trees.{view}
use Rattle.kl_rewrite.proofs.OnePlace.{still_below, found_some, found_none, goes_on}
use Rattle.kl_rewrite.proofs.place.Allowance.find.Goals as goal

pub rules-init : goal.rules-init
rules-init c = record {
  same = refl;
  room = refl;
  least = c.requires.least;
  lower = omega arith;
  none = still_below c.args.self.now.calm c.args.level (view c.args.term.now) _ c.numbers_of-from.ensures.first;
}

pub returns-then-branch : goal.returns-then-branch
returns-then-branch c =
    found_some c.args.level c.rules.number c.args.term.now c.rules.term c.tried.new.term c.in_ok-tried.field-0 c.args.self.now c.rules.self c.tried.new.self c.rules.invariant.same
    c.rules.invariant.room c.rules.invariant.least c.rules.invariant.lower c.rules.invariant.none c.in_ok-tried.ensures c.if-branch.true

pub rules-preserved : goal.rules-preserved
rules-preserved c =
    let h = goes_on c.args.level c.rules.number c.args.term.now c.rules.term c.tried.new.term c.in_ok-tried.field-0 c.args.self.now c.rules.self c.tried.new.self c.rules.invariant.same
    c.rules.invariant.room c.rules.invariant.lower c.rules.invariant.none c.in_ok-tried.ensures c.if-branch.false in
    record { same = h.same; room = h.room; least = h.least; lower = h.lower; none = h.none }

pub returns : goal.returns
returns c =
    found_none c.args.level c.rules.number c.args.term.now c.rules.term c.args.self.now c.rules.self c.rules.invariant.same c.rules.invariant.room c.rules.invariant.least c.rules.invariant.lower
    (subst (λ b. b ≤ c.rules.number) c.numbers_of-from.ensures.behind c.rules-test.false) c.rules.invariant.none
