use Rattle.std.proofs.Common.{◌∙◌, ◌+◌, add-zero, ap, arith, cond, sym}
use Rattle.csv.specs.Records.{fields_of}
use Rattle.kl_flat.proofs.Placing.{field-there}
use Rattle.kl_columns.proofs.Cells.{times_more}
use Rattle.kl_columns.proofs.header.times.Goals as goal
use Rattle.kl_columns.proofs.header.times.Goals.{then-eq, else-eq}

pub returns-in_default : goal.returns-in_default
returns-in_default c = absurd (field-there (fields_of c.args.header.now) c.cells.i (sym c.in_default.ensures.value) (omega (arith, c.cells-test.true, c.len-i-end.ensures)))

pub cells-preserved : goal.cells-preserved
cells-preserved c =
    let count = c.cells.count in
    let more = times_more c.args.name.now (fields_of c.args.header.now) c.cells.i c.in-Some.cell.now count (sym c.in-Some.ensures.value) c.cells.invariant.counted in
    elim c.if-eq.branch [
      | then-eq w ↦ record {
        counted = w.count-is ∙ ap (λ b. count + cond b 1 0) (sym w.if-eq.true ∙ c.eq.ensures) ∙ more;
        few = omega (arith, w.count-is, c.cells.invariant.few);
      }
      | else-eq w ↦ record {
        counted = w.count-is ∙ sym (add-zero count) ∙ ap (λ b. count + cond b 1 0) (sym w.if-eq.false ∙ c.eq.ensures) ∙ more;
        few = omega (arith, w.count-is, c.cells.invariant.few);
      }
    ]
