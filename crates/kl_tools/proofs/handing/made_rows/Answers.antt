use Rattle.std.proofs.Common.{rules, ◌≡◌, suc, ◌+◌, ◌-◌, [], ◌∷◌, ◌++◌, arith}
use Rattle.kl_tools.specs.Made.{made_row}
use Rattle.kl_tools.proofs.RowLemmas.{row_more}
use Rattle.kl_tools.proofs.handing.made_rows.Goals as goal

pub numbers-preserved : goal.numbers-preserved
numbers-preserved c =
    let left : (c.args.from + c.args.count) - c.numbers.number ≡ suc ((c.args.from + c.args.count) - (c.numbers.number + 1)) = omega arith in
    let items : c.push.new.self.items ≡ c.numbers.rows.items ++ made_row c.args.source.now.seed c.numbers.number ∷ [] = search rules in
    row_more c.args.source.now.seed _ _ _ _ _ _ left items c.numbers.invariant
