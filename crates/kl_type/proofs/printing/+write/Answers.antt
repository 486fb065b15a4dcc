use Rattle.std.proofs.Common.{◌≡◌, ◌∙◌, ap, sym, [], ◌++◌, codes, ◌<◌, length, map, drop, List, arith, append-nil}
use Rattle.std.proofs.lemmas.List.{drop_all}
use Rattle.kl_value.specs.Written.{closing, with_commas}
use Rattle.kl_type.specs.Written.{field_text, type_text}
use Rattle.kl_type.proofs.WrittenLemmas.{Field, rest_text, rest_none, field_more, three, text-Rec, text-Var, text-Coll}
use Rattle.kl_type.proofs.printing.+write.Goals as goal

pub write_fields-fields-preserved : goal.write_fields-fields-preserved
write_fields-fields-preserved t c =
    let within : c.fields.i < length c.args.fields.now = omega arith in
    field_more c.args.fields.now c.fields.i c.index-fields-i.result c.separator.result.now c.slice.result.now c.fields.out.items _ within c.index-fields-i.is c.separator.ensures c.slice.ensures
    (c.in_ok-put.ensures) (c.in_ok-put-2.ensures) (c.in_ok-put-3.ensures) (c.in_ok-write_type.ensures) c.fields.invariant

pub write_fields-returns : goal.write_fields-returns
write_fields-returns t c =
    let none : drop c.fields.i c.args.fields.now ≡ [] = drop_all c.fields.i c.args.fields.now (omega arith) in
    sym (append-nil c.fields.out.items) ∙ (ap (λ r. c.fields.out.items ++ r) (sym (ap (rest_text c.fields.i) none ∙ rest_none c.fields.i)) ∙ c.fields.invariant)

pub write_type-returns-in_ok-write_fields-in-Rec : goal.write_type-returns-in_ok-write_fields-in-Rec
write_type-returns-in_ok-write_fields-in-Rec t c =
    three c.put-in-Rec-2.result (codes "[") (with_commas (map field_text c.slice.result.now)) (codes "]") (type_text c.args.t.now) _ _ _ _
    (ap type_text c.in-Rec.is ∙ (text-Rec _ ∙ ap (λ (fs : List Field). (codes "[" ++ with_commas (map field_text fs)) ++ codes "]") (sym c.slice.ensures)))
    (c.in_ok-put-in-Rec.ensures) (c.in_ok-write_fields-in-Rec.ensures) c.put-in-Rec-2.ensures

pub write_type-returns-in_ok-write_fields-in-Var : goal.write_type-returns-in_ok-write_fields-in-Var
write_type-returns-in_ok-write_fields-in-Var t c =
    three c.put-in-Var-2.result (codes "<") (with_commas (map field_text c.slice-in-Var.result.now)) (codes ">") (type_text c.args.t.now) _ _ _ _
    (ap type_text c.in-Var.is ∙ (text-Var _ ∙ ap (λ (fs : List Field). (codes "<" ++ with_commas (map field_text fs)) ++ codes ">") (sym c.slice-in-Var.ensures)))
    (c.in_ok-put-in-Var.ensures) (c.in_ok-write_fields-in-Var.ensures) c.put-in-Var-2.ensures

pub write_type-returns-in_ok-write_type-in-Coll : goal.write_type-returns-in_ok-write_type-in-Coll
write_type-returns-in_ok-write_type-in-Coll t c =
    three c.put-in-Coll-2.result c.opening.result.now (type_text c.get.result.now) c.closing.result.now (type_text c.args.t.now) _ _ _ _
    (ap type_text c.in-Coll.is
    ∙ (text-Coll c.in-Coll.kind c.in-Coll.item
    ∙ (ap (λ o. (o ++ type_text c.in-Coll.item) ++ closing c.in-Coll.kind) (sym c.opening.ensures)
    ∙ (ap (λ u. (c.opening.result.now ++ type_text u) ++ closing c.in-Coll.kind) (sym c.get.ensures)
    ∙ ap (λ o. (c.opening.result.now ++ type_text c.get.result.now) ++ o) (sym c.closing.ensures)))))
    (c.in_ok-put-in-Coll.ensures) (c.in_ok-write_type-in-Coll.ensures) c.put-in-Coll-2.ensures
