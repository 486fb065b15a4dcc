use Rattle.std.proofs.Common.{subst}
use Rattle.kl_rows.proofs.Advancing.{types_keep}
use Rattle.kl_forms.specs.Rows.{FindsBefore}
use Rattle.kl_forms.proofs.Fronts.{end_lacks, whole_found, whole_refused}
use Rattle.kl_forms.proofs.records.sorted_row.Goals as goal

pub row_before-requires-clause-fields_there : goal.row_before-requires-clause-fields_there
row_before-requires-clause-fields_there c = types_keep c.args.u.now.cells.items c.end_of.new.u.cells.items c.args.fields.now c.in_ok-end.ensures.keeps c.requires.fields_there

pub row_before-requires-clause-lacks : goal.row_before-requires-clause-lacks
row_before-requires-clause-lacks c = end_lacks c.end_of.new.u.cells.items c.args.is_open c.args.fields.now c.args.u.now.cells.items c.in_ok-end.end c.in_ok-end.ensures

pub returns-in-None : goal.returns-in-None
returns-in-None c = whole_refused c.args.is_open c.args.fields.now c.args.u.now.cells.items c.end_of.new.u.cells.items c.row_before.new.u.cells.items c.in_ok-end.end c.requires.fine c.requires.fields_there c.in_ok-end.ensures
    (subst (λ o. FindsBefore o c.end_of.new.u.cells.items c.row_before.new.u.cells.items c.in_ok-end.end c.args.fields.now) c.in-None.is c.in_ok-row_before.ensures)

pub returns-in-Some : goal.returns-in-Some
returns-in-Some c = whole_found c.args.is_open c.args.fields.now c.args.u.now.cells.items c.end_of.new.u.cells.items c.row_before.new.u.cells.items c.in_ok-end.end c.requires.fine c.requires.fields_there c.in_ok-end.ensures c.in-Some.row
    (subst (λ o. FindsBefore o c.end_of.new.u.cells.items c.row_before.new.u.cells.items c.in_ok-end.end c.args.fields.now) c.in-Some.is c.in_ok-row_before.ensures)
