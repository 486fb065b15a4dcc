use Rattle.std.proofs.Common.{◌<◌, length, ap, ◌∙◌, subst, arith}
use Rattle.kl_type.specs.Ground.{ground_of}
use Rattle.kl_type.proofs.GroundLemmas.{ground-Bool, ground-Int, ground-Str}
use Rattle.kl_rows.specs.declared.cell.Scalar.TheVariants as scalar
use Rattle.kl_rows.specs.declared.cell.RowNode.TheVariants.{Front}
use Rattle.kl_rows.specs.declared.cell.Cell.TheVariants.{OfRow}
use Rattle.kl_rows.specs.Expanding.{Pushes}
use Rattle.kl_rows.proofs.Expansions.{gives_scalar, gives_rec, gives_var, gives_coll, fields_none, fields_more, row_last}
use Rattle.kl_rows.proofs.fresh.+expand.Goals as goal

pub make_row-loop-field-init : goal.make_row-loop-field-init
make_row-loop-field-init t c = fields_none c.args.cells.now.items c.args.fields.now c.new-numbers.result.items c.new-numbers.ensures.items

pub make_row-loop-field-preserved : goal.make_row-loop-field-preserved
make_row-loop-field-preserved t c =
    let within : c.loop-field.field-index < length c.args.fields.now = omega arith in
    fields_more _ _ _ c.args.fields.now c.loop-field.field-index c.field-item.result _ _ c.in_ok-label.label c.in_ok-at.at within c.field-item.is c.in_ok-label.ensures c.in_ok-push.ensures.items c.loop-field.invariant c.in_ok-at.ensures

pub make_row-returns : goal.make_row-returns
make_row-returns t c =
    row_last _ _ _ _ c.args.fields.now c.loop-field.field-index c.loop-field.numbers.items c.in_ok-rest.rest c.in_ok-at-2.at (omega arith) c.loop-field.invariant c.in_ok-rest.ensures (subst (λ fs. Pushes c.push-2.new.cells.items c.push-3.new.cells.items (OfRow (Front fs c.in_ok-rest.rest)) c.in_ok-at-2.at) c.of.ensures c.in_ok-at-2.ensures)

pub make_type-returns-in_ok-at-in-Rec : goal.make_type-returns-in_ok-at-in-Rec
make_type-returns-in_ok-at-in-Rec t c = gives_rec _ _ _ c.in_ok-row-in-Rec.row _ _ c.in-Rec.fields c.slice.result.now c.in-Rec.is c.slice.ensures c.in_ok-row-in-Rec.ensures c.in_ok-at-in-Rec.ensures

pub make_type-returns-in_ok-at-in-Var : goal.make_type-returns-in_ok-at-in-Var
make_type-returns-in_ok-at-in-Var t c = gives_var _ _ _ c.in_ok-row-in-Var.row _ _ c.in-Var.fields c.slice-in-Var.result.now c.in-Var.is c.slice-in-Var.ensures c.in_ok-row-in-Var.ensures c.in_ok-at-in-Var.ensures

pub make_type-returns-in_ok-at-in-Coll : goal.make_type-returns-in_ok-at-in-Coll
make_type-returns-in_ok-at-in-Coll t c =
    gives_coll _ _ _ _ c.in_ok-kind-in-Coll.kind c.in_ok-item-in-Coll.item _ _ c.in-Coll.kind c.in-Coll.item c.get.result.now c.in-Coll.is c.get.ensures c.in_ok-kind-in-Coll.ensures c.in_ok-item-in-Coll.ensures c.in_ok-at-in-Coll.ensures

pub make_type-returns-in_ok-at-in-Bool : goal.make_type-returns-in_ok-at-in-Bool
make_type-returns-in_ok-at-in-Bool t c = gives_scalar _ _ _ _ scalar.Bool (ap ground_of c.in-Bool.is ∙ ground-Bool) c.in_ok-at-in-Bool.ensures

pub make_type-returns-in_ok-at-in-Int : goal.make_type-returns-in_ok-at-in-Int
make_type-returns-in_ok-at-in-Int t c = gives_scalar _ _ _ _ scalar.Int (ap ground_of c.in-Int.is ∙ ground-Int) c.in_ok-at-in-Int.ensures

pub make_type-returns-in_ok-at-in-Str : goal.make_type-returns-in_ok-at-in-Str
make_type-returns-in_ok-at-in-Str t c = gives_scalar _ _ _ _ scalar.Str (ap ground_of c.in-Str.is ∙ ground-Str) c.in_ok-at-in-Str.ensures
