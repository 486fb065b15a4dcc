use Rattle.std.proofs.Common.{ap, ◌∙◌}
use Rattle.kl_type.specs.Ground.{ground_of}
use Rattle.kl_type.proofs.GroundLemmas.{ground-Bool, ground-Int, ground-Str}
use Rattle.kl_rows.specs.declared.cell.Scalar.TheVariants as scalar
use Rattle.kl_rows.proofs.Sureness.{knows_scalar, knows_record, knows_variant, knows_coll, knows_more, knows_all, none_spelled, no_record, no_variant, no_coll, other_kind, block_lacks, other_length, other_label, other_field}
use Rattle.kl_rows.proofs.knowing.+knows.Goals as goal

pub knows-returns-in-Bool : goal.knows-returns-in-Bool
knows-returns-in-Bool t c = knows_scalar _ _ _ _ _ scalar.Bool (ap ground_of c.in-Bool.is ∙ ground-Bool) c.node-known.ensures c.is_base.ensures

pub knows-returns-in-Int : goal.knows-returns-in-Int
knows-returns-in-Int t c = knows_scalar _ _ _ _ _ scalar.Int (ap ground_of c.in-Int.is ∙ ground-Int) c.node-known.ensures c.is_base-in-Int.ensures

pub knows-returns-in-Str : goal.knows-returns-in-Str
knows-returns-in-Str t c = knows_scalar _ _ _ _ _ scalar.Str (ap ground_of c.in-Str.is ∙ ground-Str) c.node-known.ensures c.is_base-in-Str.ensures

pub knows-returns-in-Rec-known : goal.knows-returns-in-Rec-known
knows-returns-in-Rec-known t c = knows_record _ _ _ _ _ _ _ _ c.in-Rec.is c.slice.ensures c.node-known.ensures c.in-Rec-known.is c.knows_row.ensures

pub knows-returns-in-Var-known : goal.knows-returns-in-Var-known
knows-returns-in-Var-known t c = knows_variant _ _ _ _ _ _ _ _ c.in-Var.is c.slice-in-Var-known.ensures c.node-known.ensures c.in-Var-known.is c.knows_row-in-Var-known.ensures

pub knows-returns-then-is_kind : goal.knows-returns-then-is_kind
knows-returns-then-is_kind t c = knows_coll _ _ _ _ _ _ _ _ _ _ _ c.in-Coll.is c.get.ensures c.node-known.ensures c.in-Coll-known.is c.is_kind.ensures c.if-is_kind.true c.knows.ensures

pub knows_row-fields-init : goal.knows_row-fields-init
knows_row-fields-init t c = none_spelled c.args.cells.now c.in-Some.numbers.now c.args.fields.now

pub knows_row-fields-preserved : goal.knows_row-fields-preserved
knows_row-fields-preserved t c =
    knows_more _ _ c.args.fields.now c.fields.i _ _ _ _ c.fields-test.true c.if-numbers-fields.false c.index-numbers-i.is c.index-fields-i.is
    c.are_alike.ensures c.if-not-are_alike.false c.if-not-knows.false c.knows.ensures c.fields.invariant

pub knows_row-returns : goal.knows_row-returns
knows_row-returns t c = knows_all _ _ c.in-Some.numbers.now c.args.fields.now c.fields.i c.fields-test.false c.if-numbers-fields.false c.in-Some.ensures.exact c.fields.invariant

pub knows-returns-in_default : goal.knows-returns-in_default
knows-returns-in_default t c = no_record _ _ _ _ _ c.in-Rec.is c.node-known.ensures c.in_default.not-Rec

pub knows-returns-in_default-known : goal.knows-returns-in_default-known
knows-returns-in_default-known t c = no_variant _ _ _ _ _ c.in-Var.is c.node-known.ensures c.in_default-known.not-Var

pub knows-returns-in_default-known-2 : goal.knows-returns-in_default-known-2
knows-returns-in_default-known-2 t c = no_coll _ _ _ _ _ _ c.in-Coll.is c.node-known.ensures c.in_default-known-2.not-Coll

pub knows-returns-else-is_kind : goal.knows-returns-else-is_kind
knows-returns-else-is_kind t c = other_kind _ _ _ _ _ _ _ _ _ c.in-Coll.is c.node-known.ensures c.in-Coll-known.is c.is_kind.ensures c.if-is_kind.false

pub knows_row-returns-in-None : goal.knows_row-returns-in-None
knows_row-returns-in-None t c = block_lacks _ _ _ (λ numbers b h. c.in-None.ensures.exact numbers b)

pub knows_row-returns-then-numbers-fields : goal.knows_row-returns-then-numbers-fields
knows_row-returns-then-numbers-fields t c = other_length _ _ c.in-Some.numbers.now c.args.fields.now c.in-Some.ensures.exact c.if-numbers-fields.true

pub knows_row-returns-then-not-are_alike : goal.knows_row-returns-then-not-are_alike
knows_row-returns-then-not-are_alike t c =
    other_label _ _ c.in-Some.numbers.now c.args.fields.now c.in-Some.ensures.exact c.fields.i _ _ c.fields-test.true c.index-numbers-i.is c.index-fields-i.is _ c.are_alike.ensures c.if-not-are_alike.true

pub knows_row-returns-then-not-knows : goal.knows_row-returns-then-not-knows
knows_row-returns-then-not-knows t c =
    other_field _ _ c.in-Some.numbers.now c.args.fields.now c.in-Some.ensures.exact c.fields.i _ _ c.fields-test.true c.index-numbers-i.is c.index-fields-i.is _ c.knows.ensures c.if-not-knows.true
