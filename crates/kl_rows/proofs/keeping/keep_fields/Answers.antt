use Rattle.std.proofs.Common.{◌<◌, length, arith}
use Rattle.kl_rows.proofs.Kept.{fields_turn}
use Rattle.kl_rows.proofs.keeping.keep_fields.Goals as goal

pub fields-preserved : goal.fields-preserved
fields-preserved c =
    let within : c.fields.field-index < length c.args.fields.now = omega arith in
    fields_turn _ _ _ c.args.fields.now c.fields.field-index c.field-item.result _ _ _ within c.field-item.is c.either-any.ensures c.fields.invariant c.keep-turned.ensures
