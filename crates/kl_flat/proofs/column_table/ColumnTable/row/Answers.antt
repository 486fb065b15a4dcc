use Rattle.std.proofs.Common.{◌≡◌, ◌<◌, Some, map, slice_get, take, length, get_or, sym, ap, ◌∙◌, arith, subst}
use Rattle.std.proofs.lemmas.Grind.{common_steps}
use Rattle.kl_value.specs.declared.Value.TheVariants as value
use Rattle.kl_ask.specs.Asks.{shown}
use Rattle.kl_flat.specs.Asked.{kept_places}
use Rattle.kl_flat.specs.Held.{fields_at, value_at}
use Rattle.kl_flat.proofs.Kept.{one_more, shown_record}
use Rattle.kl_flat.proofs.Tables.{field_is, fields_length, is_tall, labels_at, row_is}
use Rattle.kl_flat.proofs.column_table.ColumnTable.row.Goals as goal

pub value-requires : goal.value-requires
value-requires c =
    let columns = c.as_slice-columns.ensures.value in
    let place = get_or c.args.places.now c.loop-place.place-index 0 in
    is_tall c.args.self.now c.args.at place c.index-columns-place.result c.requires.row (c.requires.places c.loop-place.place-index 0 c.loop-place-test.true)
    (c.index-columns-place.is ∙ ap (λ cs. get_or cs place c.index-columns-place.result) columns)

pub loop-place-preserved : goal.loop-place-preserved
loop-place-preserved c =
    let columns = c.as_slice-columns.result.now in
    let place = get_or c.args.places.now c.loop-place.place-index 0 in
    let within = subst (λ cs. place < length cs) (sym c.as_slice-columns.ensures.value) (c.requires.places c.loop-place.place-index 0 c.loop-place-test.true) in
    one_more (fields_at columns c.args.at) c.args.places.now c.loop-place.place-index (c.index-columns-place.result.label, value_at c.index-columns-place.result.cells c.args.at) c.in_ok-label.label c.in_ok-value.field-0
    c.loop-place.fields.items c.push.new.self.items c.loop-place-test.true (omega (arith, within, fields_length columns c.args.at))
    (field_is columns c.args.at place c.index-columns-place.result within c.index-columns-place.is) c.in_ok-label.ensures c.in_ok-value.ensures c.in_ok-push.ensures.items c.loop-place.invariant

pub returns : goal.returns
returns c keep row same is =
    let columns = c.args.self.now.columns.items in
    let all : take c.loop-place.place-index c.args.places.now ≡ c.args.places.now = grind (arith, common_steps) in
    let copies : map Some c.loop-place.fields.items ≡ map (slice_get (fields_at columns c.args.at)) c.args.places.now =
    c.loop-place.invariant ∙ (λ i. map (slice_get (fields_at (c.as_slice-columns.ensures.value i) c.args.at)) (all i)) in
    ap value.Rec c.of.ensures
    ∙ shown_record keep (fields_at columns c.args.at) c.args.places.now (same ∙ ap (kept_places keep 0) (sym (labels_at columns c.args.at))) c.loop-place.fields.items copies
    ∙ ap (shown keep) (sym (row_is c.args.self.now c.args.at row is))
