use Rattle.kl_eval.proofs.Forms.{place_here, place_next, place_ends}
use Rattle.kl_eval.proofs.steps.place.Goals as goal

pub returns-then-eq : goal.returns-then-eq
returns-then-eq g c = record {
  place = place_here _ _ _ _ c.branches-test.true c.index-branches-i.is _ c.eq.ensures c.if-eq.true c.branches.invariant;
  within = c.branches-test.true;
}

pub branches-preserved : goal.branches-preserved
branches-preserved g c = place_next _ _ _ _ c.branches-test.true c.index-branches-i.is _ c.eq.ensures c.if-eq.false c.branches.invariant

pub returns : goal.returns
returns g c = record { place = place_ends _ _ _ c.branches-test.false c.branches.invariant; within = tt }
