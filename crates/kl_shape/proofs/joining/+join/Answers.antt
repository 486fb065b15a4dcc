use Rattle.std.proofs.Common.{◌≡◌, ◌∙◌, ◌<◌, [], None, IfOk, length, get_or, nat_eq, true, ap, arith, map, refl, rules, subst, sym}
use Rattle.std.specs.Cmp.Lexicographic.{pointwise}
use Rattle.kl_value.specs.declared.Value.{the_lemmas}
use Rattle.kl_value.specs.declared.Kind.TheVariants as kind
use Rattle.kl_value.specs.declared.Value.TheVariants as value
use Rattle.kl_type.proofs.HasLemmas.{has-Bag, has-List, has-Set}
use Rattle.kl_shape.specs.Joining.{Answers, AnswersItems, AnswersLabel, AnswersRecord, are_sound, sound_variant}
use Rattle.kl_shape.specs.Shapes.{sound}
use Rattle.kl_shape.specs.declared.shape.Shape.TheVariants as shape
use Rattle.kl_shape.proofs.Joins.{bag_other, coll_joins, if_more, items_apart, list_other, moved, record_apart, record_new, record_other, record_seen, record_unlike, set_other, sound_item, variant_new, variant_other, variant_seen}
use Rattle.kl_shape.proofs.Records.{unseen}
use Rattle.kl_shape.proofs.ShapeLemmas.{sound-Rec, sound-Unseen, sound-Var}
use Rattle.kl_shape.proofs.Turns.{answered, answered_at, field_more, fields_done, items_whole, label_apart, label_done, labels_same, no_type, other_labels, same_at, unseen_apart, unseen_done, unseen_more}
use Rattle.kl_shape.proofs.Variants.{sound_under}
use Rattle.kl_shape.proofs.joining.+join.Goals as goal

pub join-returns-in-Bool : goal.join-returns-in-Bool
join-returns-in-Bool t c = moved c.args.shape.now c.args.shape.now (value.Bool c.in-Bool.field-0) c.args.value.now c.join_bool.result refl c.in-Bool.is
    (record { joins = c.join_bool.ensures.joins c.in-Bool.field-0; is_sound = c.join_bool.ensures.sound })

pub join-returns-in-Int : goal.join-returns-in-Int
join-returns-in-Int t c = moved c.args.shape.now c.args.shape.now (value.Int c.in-Int.field-0) c.args.value.now c.join_int.result refl c.in-Int.is
    (record { joins = c.join_int.ensures.joins c.in-Int.field-0; is_sound = c.join_int.ensures.sound })

pub join-returns-in-Text : goal.join-returns-in-Text
join-returns-in-Text t c = moved c.args.shape.now c.args.shape.now (value.Text c.in-Text.field-0) c.args.value.now c.join_text.result refl c.in-Text.is
    (record { joins = c.join_text.ensures.joins c.in-Text.field-0; is_sound = c.join_text.ensures.sound })

pub join-join_fields-requires : goal.join-join_fields-requires
join-join_fields-requires t c =
    (search (rules, the_lemmas, arith), ap are_sound c.slice-in-Rec-shape-2.ensures ∙ (sym (sound-Rec c.in-Rec-shape.shapes) ∙ (ap sound (sym c.in-Rec-shape.is) ∙ c.requires)))

pub join-join_label-requires-in-Var : goal.join-join_label-requires-in-Var
join-join_label-requires-in-Var t c =
    (search (rules, the_lemmas, arith), ap sound_variant c.slice-in-Var.ensures ∙ (sym (sound-Var c.in-Var.shapes) ∙ (ap sound (sym c.in-Var.is) ∙ c.requires)))

pub join-returns-in-Unseen : goal.join-returns-in-Unseen
join-returns-in-Unseen t c =
    if_more c.join_unseen.result (AnswersRecord (map unseen c.in-Rec.fields) c.in-Rec.fields) (Answers c.args.shape.now c.args.value.now)
    (λ j a. moved shape.Unseen c.args.shape.now (value.Rec c.in-Rec.fields) c.args.value.now j c.in-Unseen.is c.in-Rec.is (record_new c.in-Rec.fields j a))
    (subst (λ fs. IfOk c.join_unseen.result (AnswersRecord (map unseen fs) fs)) c.slice.ensures c.join_unseen.ensures)

pub join-returns-in-Rec-shape : goal.join-returns-in-Rec-shape
join-returns-in-Rec-shape t c =
    if_more c.join_fields.result (AnswersRecord c.in-Rec-shape.shapes c.in-Rec.fields) (Answers c.args.shape.now c.args.value.now)
    (λ j a. moved (shape.Rec c.in-Rec-shape.shapes) c.args.shape.now (value.Rec c.in-Rec.fields) c.args.value.now j c.in-Rec-shape.is c.in-Rec.is (record_seen c.in-Rec.fields c.in-Rec-shape.shapes j a))
    (subst (λ ss. IfOk c.join_fields.result (AnswersRecord ss c.in-Rec.fields)) c.slice-in-Rec-shape-2.ensures
    (subst (λ fs. IfOk c.join_fields.result (AnswersRecord c.slice-in-Rec-shape-2.result.now fs)) c.slice-in-Rec-shape.ensures c.join_fields.ensures))

pub join-returns-in_default : goal.join-returns-in_default
join-returns-in_default t c =
    moved c.args.shape.now c.args.shape.now (value.Rec c.in-Rec.fields) c.args.value.now None refl c.in-Rec.is (record_other c.in-Rec.fields c.args.shape.now c.in_default.not-Unseen c.in_default.not-Rec)

pub join-returns-in-Unseen-shape : goal.join-returns-in-Unseen-shape
join-returns-in-Unseen-shape t c =
    if_more c.join_label.result (AnswersLabel [] c.in-Inj.label c.in-Inj.inner) (Answers c.args.shape.now c.args.value.now)
    (λ j a. moved shape.Unseen c.args.shape.now (value.Inj c.in-Inj.label c.in-Inj.inner) c.args.value.now j c.in-Unseen-shape.is c.in-Inj.is (variant_new c.in-Inj.label c.in-Inj.inner j a))
    (subst (λ v. IfOk c.join_label.result (AnswersLabel [] c.in-Inj.label v)) c.get.ensures c.join_label.ensures)

pub join-returns-in-Var : goal.join-returns-in-Var
join-returns-in-Var t c =
    if_more c.join_label-in-Var.result (AnswersLabel c.in-Var.shapes c.in-Inj.label c.in-Inj.inner) (Answers c.args.shape.now c.args.value.now)
    (λ j a. moved (shape.Var c.in-Var.shapes) c.args.shape.now (value.Inj c.in-Inj.label c.in-Inj.inner) c.args.value.now j c.in-Var.is c.in-Inj.is (variant_seen c.in-Inj.label c.in-Inj.inner c.in-Var.shapes j a))
    (subst (λ ss. IfOk c.join_label-in-Var.result (AnswersLabel ss c.in-Inj.label c.in-Inj.inner)) c.slice-in-Var.ensures
    (subst (λ v. IfOk c.join_label-in-Var.result (AnswersLabel c.slice-in-Var.result.now c.in-Inj.label v)) c.get-in-Var.ensures c.join_label-in-Var.ensures))

pub join-returns-in_default-shape : goal.join-returns-in_default-shape
join-returns-in_default-shape t c =
    moved c.args.shape.now c.args.shape.now (value.Inj c.in-Inj.label c.in-Inj.inner) c.args.value.now None refl c.in-Inj.is
    (variant_other c.in-Inj.label c.in-Inj.inner c.args.shape.now c.in_default-shape.not-Unseen c.in_default-shape.not-Var)

pub join-join_items-requires : goal.join-join_items-requires
join-join_items-requires t c = (search (rules, the_lemmas, arith), sound_item kind.Set c.args.shape.now c.in-Some.item.now (sym c.in-Some.ensures) c.requires)

pub join-returns-in-None : goal.join-returns-in-None
join-returns-in-None t c = moved c.args.shape.now c.args.shape.now (value.Set c.in-Set.items) c.args.value.now None refl c.in-Set.is (set_other c.args.shape.now c.in-Set.items (sym c.in-None.ensures))

pub join-returns-in-Some : goal.join-returns-in-Some
join-returns-in-Some t c =
    if_more c.join_items.result (AnswersItems kind.Set c.in-Some.item.now c.in-Set.items) (Answers c.args.shape.now c.args.value.now)
    (λ j a. moved c.args.shape.now c.args.shape.now (value.Set c.in-Set.items) c.args.value.now j refl c.in-Set.is
    (coll_joins kind.Set c.args.shape.now c.in-Some.item.now (value.Set c.in-Set.items) c.in-Set.items (has-Set c.in-Set.items) j (sym c.in-Some.ensures) a))
    (subst (λ vs. IfOk c.join_items.result (AnswersItems kind.Set c.in-Some.item.now vs)) c.slice-in-Some.ensures c.join_items.ensures)

pub join-join_items-requires-in-Some-items_under : goal.join-join_items-requires-in-Some-items_under
join-join_items-requires-in-Some-items_under t c = (search (rules, the_lemmas, arith), sound_item kind.Bag c.args.shape.now c.in-Some-items_under.item.now (sym c.in-Some-items_under.ensures) c.requires)

pub join-returns-in-None-items_under : goal.join-returns-in-None-items_under
join-returns-in-None-items_under t c = moved c.args.shape.now c.args.shape.now (value.Bag c.in-Bag.items) c.args.value.now None refl c.in-Bag.is (bag_other c.args.shape.now c.in-Bag.items (sym c.in-None-items_under.ensures))

pub join-returns-in-Some-items_under : goal.join-returns-in-Some-items_under
join-returns-in-Some-items_under t c =
    if_more c.join_items-in-Some-items_under.result (AnswersItems kind.Bag c.in-Some-items_under.item.now c.in-Bag.items) (Answers c.args.shape.now c.args.value.now)
    (λ j a. moved c.args.shape.now c.args.shape.now (value.Bag c.in-Bag.items) c.args.value.now j refl c.in-Bag.is
    (coll_joins kind.Bag c.args.shape.now c.in-Some-items_under.item.now (value.Bag c.in-Bag.items) c.in-Bag.items (has-Bag c.in-Bag.items) j (sym c.in-Some-items_under.ensures) a))
    (subst (λ vs. IfOk c.join_items-in-Some-items_under.result (AnswersItems kind.Bag c.in-Some-items_under.item.now vs)) c.slice-in-Some-items_under.ensures c.join_items-in-Some-items_under.ensures)

pub join-join_items-requires-in-Some-items_under-2 : goal.join-join_items-requires-in-Some-items_under-2
join-join_items-requires-in-Some-items_under-2 t c = (search (rules, the_lemmas, arith), sound_item kind.List c.args.shape.now c.in-Some-items_under-2.item.now (sym c.in-Some-items_under-2.ensures) c.requires)

pub join-returns-in-None-items_under-2 : goal.join-returns-in-None-items_under-2
join-returns-in-None-items_under-2 t c = moved c.args.shape.now c.args.shape.now (value.List c.in-List.items) c.args.value.now None refl c.in-List.is (list_other c.args.shape.now c.in-List.items (sym c.in-None-items_under-2.ensures))

pub join-returns-in-Some-items_under-2 : goal.join-returns-in-Some-items_under-2
join-returns-in-Some-items_under-2 t c =
    if_more c.join_items-in-Some-items_under-2.result (AnswersItems kind.List c.in-Some-items_under-2.item.now c.in-List.items) (Answers c.args.shape.now c.args.value.now)
    (λ j a. moved c.args.shape.now c.args.shape.now (value.List c.in-List.items) c.args.value.now j refl c.in-List.is
    (coll_joins kind.List c.args.shape.now c.in-Some-items_under-2.item.now (value.List c.in-List.items) c.in-List.items (has-List c.in-List.items) j (sym c.in-Some-items_under-2.ensures) a))
    (subst (λ vs. IfOk c.join_items-in-Some-items_under-2.result (AnswersItems kind.List c.in-Some-items_under-2.item.now vs)) c.slice-in-Some-items_under-2.ensures c.join_items-in-Some-items_under-2.ensures)

pub join_unseen-join-requires : goal.join_unseen-join-requires
join_unseen-join-requires t c = (search (rules, the_lemmas, arith), sound-Unseen)

pub join_unseen-returns-in-Ok-None : goal.join_unseen-returns-in-Ok-None
join_unseen-returns-in-Ok-None t c =
    unseen_apart c.args.fields.now c.fields.field-index c.field-item.result c.fields-test.true c.field-item.is (answered _ _ _ _ c.in-Ok-None.field-0-is c.in-Ok-None.ensures).joins

pub join_unseen-fields-preserved : goal.join_unseen-fields-preserved
join_unseen-fields-preserved t c =
    unseen_more c.args.fields.now c.fields.field-index c.field-item.result c.in_ok-label.label c.in-Ok-Some.shape c.fields.joined.items c.push.new.self.items c.fields-test.true c.field-item.is
    c.fields.invariant.0 c.fields.invariant.1 c.in_ok-label.ensures (answered _ _ _ _ c.in-Ok-Some.field-0-is c.in-Ok-Some.ensures) c.in_ok-push.ensures.items

pub join_unseen-returns : goal.join_unseen-returns
join_unseen-returns t c = unseen_done c.args.fields.now c.fields.field-index c.fields.joined.items c.of.result (omega arith) c.fields.invariant.0 c.fields.invariant.1 c.of.ensures

pub join_fields-returns-then-shapes-fields : goal.join_fields-returns-then-shapes-fields
join_fields-returns-then-shapes-fields t c = record_unlike c.args.fields.now c.args.shapes.now c.if-shapes-fields.true

pub join_fields-returns-then-ne : goal.join_fields-returns-then-ne
join_fields-returns-then-ne t c =
    record_apart c.args.fields.now c.args.shapes.now c.fields.i c.index-shapes-i.result c.index-fields-i.result (omega arith) c.fields-test.true c.index-shapes-i.is c.index-fields-i.is
    (other_labels c.index-shapes-i.result c.index-fields-i.result (search rules))

pub join_fields-returns-in-Ok-None : goal.join_fields-returns-in-Ok-None
join_fields-returns-in-Ok-None t c =
    let less : c.fields.i < length c.args.shapes.now = omega arith in
    record_apart c.args.fields.now c.args.shapes.now c.fields.i c.index-shapes-i.result c.index-fields-i.result less c.fields-test.true c.index-shapes-i.is c.index-fields-i.is
    (no_type c.index-shapes-i.result c.index-fields-i.result
    (answered_at c.args.shapes.now c.args.fields.now c.fields.i c.index-shapes-i.result _ c.index-fields-i.result _ _ _ less c.fields-test.true c.index-shapes-i.is c.index-fields-i.is
    c.in-Ok-None.field-0-is c.in-Ok-None.ensures).joins)

pub join_fields-fields-preserved : goal.join_fields-fields-preserved
join_fields-fields-preserved t c =
    let less : c.fields.i < length c.args.shapes.now = omega arith in
    let same : pointwise nat_eq (get_or c.args.shapes.now c.fields.i c.index-shapes-i.result).0 (get_or c.args.fields.now c.fields.i c.index-fields-i.result).0 ≡ true = search (rules, c.ne.ensures, c.if-ne.false) in
    let labels = labels_same _ _ same in
    let shape_at = same_at c.args.shapes.now c.fields.i c.index-shapes-i.result c.index-shapes-i.result less c.index-shapes-i.is in
    let field_at = same_at c.args.fields.now c.fields.i c.index-fields-i.result c.index-fields-i.result c.fields-test.true c.index-fields-i.is in
    field_more c.args.shapes.now c.args.fields.now c.fields.i c.index-shapes-i.result c.index-fields-i.result c.in_ok-label.label c.in-Ok-Some.shape c.fields.joined.items
    c.push.new.self.items less c.fields-test.true c.index-shapes-i.is c.index-fields-i.is c.fields.invariant.0 c.fields.invariant.1
    ((λ k. (sym shape_at k).0) ∙ labels ∙ (λ k. (field_at k).0))
    (c.in_ok-label.ensures ∙ (λ k. (same_at c.args.fields.now c.fields.i c.index-fields-i.result c.index-fields-i-in-fields-2.result c.fields-test.true c.index-fields-i.is k).0))
    (answered_at c.args.shapes.now c.args.fields.now c.fields.i c.index-shapes-i.result _ c.index-fields-i.result _ _ _ less c.fields-test.true c.index-shapes-i.is c.index-fields-i.is
    c.in-Ok-Some.field-0-is c.in-Ok-Some.ensures) c.in_ok-push.ensures.items

pub join_fields-returns : goal.join_fields-returns
join_fields-returns t c =
    fields_done c.args.shapes.now c.args.fields.now c.fields.i c.fields.joined.items c.of.result (omega arith) (omega arith) c.fields.invariant.0 c.fields.invariant.1 c.of.ensures

pub join_label-join-requires : goal.join_label-join-requires
join_label-join-requires t c = (search (rules, the_lemmas, arith), ap sound c.shape_under.ensures ∙ sound_under c.args.label.now c.args.shapes.now c.requires)

pub join_label-returns-in-Ok-None : goal.join_label-returns-in-Ok-None
join_label-returns-in-Ok-None t c =
    label_apart c.args.label.now c.args.inner.now c.args.shapes.now c.shape_under.result.now c.shape_under.ensures (answered _ _ _ _ c.in-Ok-None.field-0-is c.in-Ok-None.ensures)

pub join_label-returns : goal.join_label-returns
join_label-returns t c =
    label_done c.args.label.now c.args.inner.now c.args.shapes.now c.in_ok-joined.joined.items c.of.result c.shape_under.result.now c.in-Ok-Some.shape c.requires c.shape_under.ensures
    (answered _ _ _ _ c.in-Ok-Some.field-0-is c.in-Ok-Some.ensures) c.in_ok-joined.ensures c.of.ensures

pub join_items-returns-in-Ok-None : goal.join_items-returns-in-Ok-None
join_items-returns-in-Ok-None t c =
    items_apart c.args.item.now c.args.items.now c.items.value-index c.value-item.result c.items-test.true c.value-item.is c.args.kind c.items.joined c.items.invariant.0
    (answered _ _ _ _ c.in-Ok-None.field-0-is c.in-Ok-None.ensures).joins

pub join_items-returns : goal.join_items-returns
join_items-returns t c =
    items_whole c.args.kind c.args.item.now c.items.joined c.in_ok-joined-2.joined c.args.items.now c.items.value-index (omega arith) c.items.invariant.0 c.items.invariant.1 c.in_ok-joined-2.ensures
