use Rattle.std.proofs.Common.{◌≡◌, suc, ◌-◌, ◌<◌, length, refl, arith}
use Rattle.std.proofs.lemmas.List.{drop_all}
use Rattle.kl_rows.proofs.Indexes.{index_none, index_more}
use Rattle.kl_rows.proofs.fields.index_of.Goals as goal

pub fields-init : goal.fields-init
fields-init c = index_none c.new-index.result _ c.new-index.ensures.empty (drop_all (length c.args.fields.now) c.args.fields.now (omega arith))

pub fields-preserved : goal.fields-preserved
fields-preserved c =
    let within : c.fields.i - 1 < length c.args.fields.now = omega arith in
    let next : c.fields.i ≡ suc (c.fields.i - 1) = omega arith in
    index_more c.fields.index c.insert.new.self c.in_ok-label.label c.index-fields-i.result.1 c.args.fields.now c.fields.i (c.fields.i - 1) c.index-fields-i.result c.index-fields-i.result _ within next c.index-fields-i.is c.index-fields-i.is c.in_ok-label.ensures refl c.fields.invariant
    c.in_ok-insert.ensures.updates
