use Rattle.std.proofs.Common.{refl, arith}
use Rattle.kl_plan.specs.Nodes.{view}
use Rattle.kl_joins.proofs.Counters.{are_numbered}
use Rattle.kl_joins.proofs.numbering.number.Goals as goal

pub number_plan-requires : goal.number_plan-requires
number_plan-requires c = record {
  scans = omega (arith, c.requires.scans);
  joins = omega (arith, c.requires.joins);
  memos = omega
      (arith, c.requires.memos);
}

pub returns : goal.returns
returns c =
    record {
      same = c.number_plan.ensures.same;
      numbered = are_numbered _ c.number_plan.new.numbers (view c.args.plan.now) _ refl
          c.number_plan.ensures;
    }
