use Rattle.std.proofs.Common.{◌<◌, length, sym, ap, subst, ◌∙◌, rules, arith}
use Rattle.std.specs.List.{AllByRecursion}
use Rattle.kl_value.specs.declared.Value.{the_lemmas}
use Rattle.kl_rows.specs.Places.{a_type, IsType, AreTypes}
use Rattle.kl_forms.specs.Constants.{numbered}
use Rattle.kl_base.proofs.Each.{all_map}
use Rattle.kl_forms.proofs.Shapes.{finds_some, finds_none}
use Rattle.kl_forms.proofs.RowShapes.{labelled_types}
use Rattle.kl_forms.proofs.Turns.{ItemHas, FieldHas, turn_none, turn_more, turn_fails, item_stable, item_check, items_end, type_at, field_stable, field_check, fields_fail, fields_end}
use Rattle.kl_forms.proofs.Values.{bool_value, int_value, text_value, set_value, bag_value, list_value, record_value, no_set, no_bag, no_fields, variant_value, no_variant_value, takes_items, takes_none, takes_fields, takes_no_fields}
use Rattle.kl_forms.proofs.constants.+value.Goals as goal

pub value-returns-in_ok-holds-in-Bool : goal.value-returns-in_ok-holds-in-Bool
value-returns-in_ok-holds-in-Bool t c = bool_value _ _ c.args.want _ c.args.v.now _ c.in-Bool.is c.in_ok-holds-in-Bool.ensures

pub value-returns-in_ok-holds-in-Int : goal.value-returns-in_ok-holds-in-Int
value-returns-in_ok-holds-in-Int t c = int_value _ _ c.args.want _ c.args.v.now _ c.in-Int.is c.in_ok-holds-in-Int.ensures

pub value-returns-in_ok-holds-in-Text : goal.value-returns-in_ok-holds-in-Text
value-returns-in_ok-holds-in-Text t c = text_value _ _ c.args.want _ c.args.v.now _ c.in-Text.is c.in_ok-holds-in-Text.ensures

pub value-record-requires : goal.value-record-requires
value-record-requires t c = (search (rules, the_lemmas, arith), (c.requires.fine, (c.requires.there, c.labels_rise.ensures.0 c.if-not-labels_rise.false)))

pub value-returns-then-not-labels_rise : goal.value-returns-then-not-labels_rise
value-returns-then-not-labels_rise t c = no_fields _ c.args.want c.args.v.now c.requires.fine _ _ _ c.in-Rec.is c.slice-fields.ensures c.labels_rise.ensures c.if-not-labels_rise.true

pub value-returns-in_ok-holds-in-Rec : goal.value-returns-in_ok-holds-in-Rec
value-returns-in_ok-holds-in-Rec t c = record_value _ _ c.args.want _ c.args.v.now _ _ c.in-Rec.is c.slice-fields.ensures (c.labels_rise.ensures.0 c.if-not-labels_rise.false) c.in_ok-holds-in-Rec.ensures

pub value-returns-in_default : goal.value-returns-in_default
value-returns-in_default t c = no_variant_value _ _ c.args.want c.args.v.now _ _ c.args.v.now c.in-Inj.is (finds_none _ _ _ _ c.in_default.is c.in_ok-item-in-Inj.ensures)

pub value-value-requires : goal.value-value-requires
value-value-requires t c =
    let o = finds_some _ _ _ _ _ c.in-Some.is c.in_ok-item-in-Inj.ensures in
    (search (rules, the_lemmas, arith), (o.fine, o.sort))

pub value-returns-in_ok-holds-in-Inj : goal.value-returns-in_ok-holds-in-Inj
value-returns-in_ok-holds-in-Inj t c = variant_value _ _ c.args.want c.args.v.now _ _ _ c.in-Inj.is _ _ _ c.get.ensures (finds_some _ _ _ _ _ c.in-Some.is c.in_ok-item-in-Inj.ensures) c.in_ok-holds-in-Inj.ensures

pub value-returns-then-not-rise_strictly : goal.value-returns-then-not-rise_strictly
value-returns-then-not-rise_strictly t c = no_set _ c.args.want c.args.v.now c.requires.fine _ _ _ c.in-Set.is c.slice-items.ensures c.rise_strictly.ensures c.if-not-rise_strictly.true

pub value-items_have-requires : goal.value-items_have-requires
value-items_have-requires t c = (search (rules, the_lemmas, arith), (c.requires.fine, c.requires.there))

pub value-returns-in_ok-holds-in-Set : goal.value-returns-in_ok-holds-in-Set
value-returns-in_ok-holds-in-Set t c = set_value _ _ c.args.want _ c.args.v.now _ _ c.in-Set.is c.slice-items.ensures (c.rise_strictly.ensures.0 c.if-not-rise_strictly.false) c.in_ok-holds-in-Set.ensures

pub value-returns-then-not-rise : goal.value-returns-then-not-rise
value-returns-then-not-rise t c = no_bag _ c.args.want c.args.v.now c.requires.fine _ _ _ c.in-Bag.is c.slice-items-in-Bag.ensures c.rise.ensures c.if-not-rise.true

pub value-items_have-requires-in-Bag : goal.value-items_have-requires-in-Bag
value-items_have-requires-in-Bag t c = (search (rules, the_lemmas, arith), (c.requires.fine, c.requires.there))

pub value-returns-in_ok-holds-in-Bag : goal.value-returns-in_ok-holds-in-Bag
value-returns-in_ok-holds-in-Bag t c = bag_value _ _ c.args.want _ c.args.v.now _ _ c.in-Bag.is c.slice-items-in-Bag.ensures (c.rise.ensures.0 c.if-not-rise.false) c.in_ok-holds-in-Bag.ensures

pub value-items_have-requires-in-List : goal.value-items_have-requires-in-List
value-items_have-requires-in-List t c = (search (rules, the_lemmas, arith), (c.requires.fine, c.requires.there))

pub value-returns-in_ok-holds-in-List : goal.value-returns-in_ok-holds-in-List
value-returns-in_ok-holds-in-List t c = list_value _ _ c.args.want _ c.args.v.now _ _ c.in-List.is c.slice.ensures c.in_ok-holds-in-List.ensures

pub items_have-returns-in_default : goal.items_have-returns-in_default
items_have-returns-in_default t c = takes_none _ _ c.args.want c.args.kind c.args.items.now (finds_none _ _ _ _ c.in_default.is c.in_ok-item.ensures)

pub items_have-each_has-requires : goal.items_have-each_has-requires
items_have-each_has-requires t c =
    let o = finds_some _ _ _ _ _ c.in-Some.is c.in_ok-item.ensures in
    (search (rules, the_lemmas, arith), (o.fine, o.sort))

pub items_have-returns : goal.items_have-returns
items_have-returns t c = takes_items _ _ c.args.want c.args.kind c.args.items.now _ _ _ (finds_some _ _ _ _ _ c.in-Some.is c.in_ok-item.ensures) c.in_ok-holds.ensures

pub each_has-items-init : goal.each_has-items-init
each_has-items-init t c = turn_none (ItemHas c.args.items.now c.args.item) _ c.requires.fine

pub each_has-value-requires : goal.each_has-value-requires
each_has-value-requires t c = (search (rules, the_lemmas, arith), (c.items.invariant.fine, c.items.invariant.keeps.sorts c.args.item a_type c.requires.item_there))

pub each_has-returns-then-not-holds : goal.each_has-returns-then-not-holds
each_has-returns-then-not-holds t c =
    turn_fails (ItemHas c.args.items.now c.args.item) c.items.v-index _ _ _ _ c.items.invariant (item_stable _ c.args.items.now c.args.item c.items.v-index c.requires.item_there)
    (item_check _ _ c.args.items.now c.args.item c.items.v-index c.v-item.result _ c.items-test.true c.v-item.is c.in_ok-holds.ensures) c.if-not-holds.true _ (λ s d k e lt. d k e lt)

pub each_has-items-preserved : goal.each_has-items-preserved
each_has-items-preserved t c =
    turn_more (ItemHas c.args.items.now c.args.item) c.items.v-index _ _ _ _ c.items.invariant (item_stable _ c.args.items.now c.args.item c.items.v-index c.requires.item_there)
    (item_check _ _ c.args.items.now c.args.item c.items.v-index c.v-item.result _ c.items-test.true c.v-item.is c.in_ok-holds.ensures) c.if-not-holds.false

pub each_has-returns : goal.each_has-returns
each_has-returns t c = items_end _ _ c.args.items.now c.args.item c.items.v-index c.items-test.false c.items.invariant

pub record-is_record-requires-clause-fields_there : goal.record-is_record-requires-clause-fields_there
record-is_record-requires-clause-fields_there t c =
    subst (AreTypes c.fresh_types.new.u.cells.items) (sym (c.in_ok-all.ensures ∙ ap (numbered c.args.fields.now) c.deref.ensures.value)) (labelled_types _ c.args.fields.now _ c.in_ok-types.ensures.sorts)

pub record-returns-then-not-is_one : goal.record-returns-then-not-is_one
record-returns-then-not-is_one t c =
    takes_no_fields _ _ _ c.args.fields.now _ c.args.want _ _ c.requires.rise c.requires.there c.in_ok-types.ensures (c.in_ok-all.ensures ∙ ap (numbered c.args.fields.now) c.deref.ensures.value) c.in_ok-is_one.ensures c.if-not-is_one.true

pub record-fields_have-requires : goal.record-fields_have-requires
record-fields_have-requires t c = (
  search (rules, the_lemmas, arith),
  (
    c.in_ok-is_one.ensures.fine,
    (
      ap length c.deref-2.ensures.value ∙ c.in_ok-types.ensures.size,
      subst (AllByRecursion (IsType c.is_record.new.u.cells.items)) (sym c.deref-2.ensures.value) (all_map (IsType c.fresh_types.new.u.cells.items) (IsType c.is_record.new.u.cells.items) _ (λ i h. c.in_ok-is_one.ensures.keeps.sorts i a_type h) c.in_ok-types.ensures.sorts),
    ),
  ),
)

pub record-returns : goal.record-returns
record-returns t c =
    takes_fields _ _ _ c.args.fields.now _ c.args.want _ _ c.requires.rise c.requires.there c.in_ok-types.ensures (c.in_ok-all.ensures ∙ ap (numbered c.args.fields.now) c.deref.ensures.value) c.in_ok-is_one.ensures _ _ _ c.deref-2.ensures.value c.if-not-is_one.false c.in_ok-holds.ensures

pub fields_have-loop-i-init : goal.fields_have-loop-i-init
fields_have-loop-i-init t c = turn_none (FieldHas c.args.fields.now c.args.types.now) _ c.requires.fine

pub fields_have-value-requires : goal.fields_have-value-requires
unfolding Rattle.kl_value.specs.declared.value.Value.TheBlock.the_depth
fields_have-value-requires t c =
    let lt : c.loop-i.i < length c.args.types.now = let e = c.requires.size in omega arith in
    (search (rules, the_lemmas, arith), (c.loop-i.invariant.fine, c.loop-i.invariant.keeps.sorts _ a_type (type_at c.args.u.now.cells.items c.args.types.now c.loop-i.i lt c.requires.types_there)))

pub fields_have-returns-then-not-holds : goal.fields_have-returns-then-not-holds
fields_have-returns-then-not-holds t c =
    let lt : c.loop-i.i < length c.args.types.now = let e = c.requires.size in omega arith in
    turn_fails (FieldHas c.args.fields.now c.args.types.now) c.loop-i.i _ _ _ _ c.loop-i.invariant (field_stable _ c.args.fields.now c.args.types.now c.loop-i.i lt c.requires.types_there)
    (field_check _ _ c.args.fields.now c.args.types.now c.loop-i.i c.index-fields-i.result _ c.loop-i-test.true c.in_ok-holds.ensures) c.if-not-holds.true _
    (λ s d k. fields_fail c.args.fields.now c.args.types.now c.requires.size s d k)

pub fields_have-loop-i-preserved : goal.fields_have-loop-i-preserved
fields_have-loop-i-preserved t c =
    let lt : c.loop-i.i < length c.args.types.now = let e = c.requires.size in omega arith in
    turn_more (FieldHas c.args.fields.now c.args.types.now) c.loop-i.i _ _ _ _ c.loop-i.invariant (field_stable _ c.args.fields.now c.args.types.now c.loop-i.i lt c.requires.types_there)
    (field_check _ _ c.args.fields.now c.args.types.now c.loop-i.i c.index-fields-i.result _ c.loop-i-test.true c.in_ok-holds.ensures) c.if-not-holds.false

pub fields_have-returns : goal.fields_have-returns
fields_have-returns t c = fields_end _ _ c.args.fields.now c.args.types.now c.loop-i.i c.requires.size c.loop-i-test.false c.loop-i.invariant
