use Rattle.std.proofs.Common.{refl, sym, ap, subst}
use Rattle.kl_flat.specs.RowTests.{RightHas, right_at}
use Rattle.kl_flat.proofs.Tables.{column_test, constant_test, no_left, no_right}
use Rattle.kl_flat.proofs.column_table.ColumnTable.test.Goals as goal
use Rattle.kl_flat.proofs.column_table.ColumnTable.test.Goals.{in-Col+in_ok-column-in-Col, in-Const}

pub returns-in_err-left : goal.returns-in_err-left
returns-in_err-left c = rw c.from_residual.ensures (no_left c.args.self.now c.args.test.now c.in_err-left.ensures)

pub returns-in_err-column-in-Col : goal.returns-in_err-column-in-Col
returns-in_err-column-in-Col c =
    rw c.from_residual-in_err-column-in-Col.ensures (no_right c.args.self.now c.args.test.now c.in-Col.label c.in-Col.is c.in_err-column-in-Col.ensures)

pub returns : goal.returns
returns c =
    let test = c.args.test.now in
    elim c.match-test.branch [
      | in-Col+in_ok-column-in-Col w ↦
          column_test c.args.self.now test (record { left = c.in_ok-left.left; op = test.op; right = c.match-test.right }) c.in_ok-left.ensures refl w.in-Col.label w.in_ok-column-in-Col.field-0.now w.in-Col.is
          w.in_ok-column-in-Col.ensures (λ i lt. subst (RightHas i) (sym w.right-is) lt) (λ i. ap (λ r. right_at r i) w.right-is)
      | in-Const w ↦
          constant_test c.args.self.now test (record { left = c.in_ok-left.left; op = test.op; right = c.match-test.right }) c.in_ok-left.ensures refl w.in-Const.value w.in-Const.is
          (λ i. subst (RightHas i) (sym w.right-is) tt) (λ i. ap (λ r. right_at r i) w.right-is)
    ]
