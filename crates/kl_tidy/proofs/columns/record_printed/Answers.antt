use Rattle.std.proofs.Common.{◌≡◌, ◌∙◌, length, sym, subst, arith}
use Rattle.csv.specs.Records.{fields_of}
use Rattle.kl_base.proofs.Places.{same_read}
use Rattle.kl_flat.proofs.Placing.{field-there}
use Rattle.kl_tidy.specs.Cells.{AddsCell, cell_printed}
use Rattle.kl_tidy.specs.Rows.{wrong_cell}
use Rattle.kl_tidy.proofs.Printing.{as_wrong, cell_more, cell_wrong, record_level}
use Rattle.kl_tidy.proofs.columns.record_printed.Goals as goal

pub returns-in_default : goal.returns-in_default
returns-in_default c = absurd (field-there (fields_of c.args.row.now) c.cells.i (sym c.in_default.ensures.value) (omega (arith, c.len.ensures, c.if-len-columns.false, c.cells-test.true)))

pub returns-then-not-branch : goal.returns-then-not-branch
returns-then-not-branch c =
    let columns = c.args.columns.now in
    let row = fields_of c.args.row.now in
    let n = c.args.number in
    let column = c.index-columns-i.result in
    let again = c.index-columns-i-then-not-branch.result in
    let cell = c.in-Some.cell.now in
    let old = fields_of c.cells.record in
    let new = fields_of c.add_cell.new.cells in
    let level : length row ≡ length columns = omega (arith, c.len.ensures, c.if-len-columns.false) in
    let same : again ≡ column = same_read columns c.cells.i again column c.cells-test.true c.index-columns-i-then-not-branch.is c.index-columns-i.is in
    let adds = subst (λ well. AddsCell (cell_printed column cell) well old new) c.if-not-branch.true c.in_ok-add_cell.ensures.adds in
    let printed = cell_wrong columns n row c.cells.i column cell old new (sym c.in-Some.ensures.value) c.cells-test.true c.index-columns-i.is adds c.cells.invariant.so_far in
    (λ j. as_wrong (c.in_ok-wrong_cell.ensures j)) ∙ (λ j. as_wrong (wrong_cell (same j) n cell)) ∙ record_level columns n row (as_wrong (wrong_cell column n cell)) level printed

pub cells-preserved : goal.cells-preserved
cells-preserved c =
    let columns = c.args.columns.now in
    let row = fields_of c.args.row.now in
    let column = c.index-columns-i.result in
    let cell = c.in-Some.cell.now in
    let old = fields_of c.cells.record in
    let new = fields_of c.add_cell.new.cells in
    let adds = subst (λ well. AddsCell (cell_printed column cell) well old new) c.if-not-branch.false c.in_ok-add_cell.ensures.adds in
    record {
      whole = c.in_ok-add_cell.ensures.whole;
      so_far = cell_more columns c.args.number row c.cells.i column cell old new (sym c.in-Some.ensures.value) c.cells-test.true c.index-columns-i.is adds c.cells.invariant.so_far;
    }
