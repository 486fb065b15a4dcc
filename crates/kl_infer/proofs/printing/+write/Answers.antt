use Rattle.std.proofs.Common.{rules, arith, ◌≡◌, ◌<◌, ◌∙◌, ℕ, List, length, take, sym, ap, subst}
use Rattle.std.specs.List.{AllByRecursion}
use Rattle.kl_infer.specs.Numbers.{Writes}
use Rattle.kl_infer.specs.Printed.{rest_variables, tree_at}
use Rattle.kl_infer.specs.Rows.{mark_behind}
use Rattle.kl_infer.proofs.RowLemmas.{Fields, front_variables, front_texts, all_sorted, all_at, length_taken, take_whole}
use Rattle.kl_rows.specs.declared.schemes.Part.TheVariants.{Is}
use Rattle.kl_rows.specs.declared.schemes.Node.TheVariants as node
use Rattle.kl_infer.proofs.PageLemmas.{on_ok}
use Rattle.kl_infer.proofs.Writing.{in_record, in_variant, in_collection, in_arrow, write_base, write_record, write_variant, write_collection, write_arrow, write_field, write_no_field, write_kind, write_any, is_any_type, is_any_row, is_any_kind, write_more, write_row}
use Rattle.kl_infer.proofs.printing.+write.Goals as goal
use Rattle.kl_base.proofs.Places.{same_read}

pub write-write_row-requires : goal.write-write_row-requires
write-write_row-requires t c =
    let e : c.index-parts-place.result ≡ Is (node.Rec c.in-Is-Rec.r) = first_of (search rules, cc) in
    let w = in_record c.args.parts.now c.args.place c.index-parts-place.result c.requires c.index-parts-place.is _ e in
    let falls : c.in-Is-Rec.r < c.args.place = w.1 in
    (search (rules, arith), w.0)

pub write-write_row-requires-in-Is-Var : goal.write-write_row-requires-in-Is-Var
write-write_row-requires-in-Is-Var t c =
    let e : c.index-parts-place.result ≡ Is (node.Var c.in-Is-Var.r) = first_of (search rules, cc) in
    let w = (in_variant c.args.parts.now c.args.place c.index-parts-place.result c.requires c.index-parts-place.is _ e) in
    let falls : c.in-Is-Var.r < c.args.place = w.1 in
    (search (rules, arith), w.0)

pub write-write_opening-requires : goal.write-write_opening-requires
write-write_opening-requires t c =
    let e : c.index-parts-place.result ≡ Is (node.Coll c.in-Is-Coll.kind c.in-Is-Coll.item) = first_of (search rules, cc) in
    (in_collection c.args.parts.now c.args.place c.index-parts-place.result c.requires c.index-parts-place.is _ _ e).0.0

pub write-write-requires : goal.write-write-requires
write-write-requires t c =
    let e : c.index-parts-place.result ≡ Is (node.Coll c.in-Is-Coll.kind c.in-Is-Coll.item) = first_of (search rules, cc) in
    let w = (in_collection c.args.parts.now c.args.place c.index-parts-place.result c.requires c.index-parts-place.is _ _ e).1 in
    let falls : c.in-Is-Coll.item < c.args.place = w.1 in
    (search (rules, arith), w.0)

pub write-write_closing-requires : goal.write-write_closing-requires
write-write_closing-requires t c =
    let e : c.index-parts-place.result ≡ Is (node.Coll c.in-Is-Coll.kind c.in-Is-Coll.item) = first_of (search rules, cc) in
    (in_collection c.args.parts.now c.args.place c.index-parts-place.result c.requires c.index-parts-place.is _ _ e).0.0

pub write-write-requires-in-Is-Arrow : goal.write-write-requires-in-Is-Arrow
write-write-requires-in-Is-Arrow t c =
    let e : c.index-parts-place.result ≡ Is (node.Arrow c.in-Is-Arrow.a c.in-Is-Arrow.b) = first_of (search rules, cc) in
    let w = (in_arrow c.args.parts.now c.args.place c.index-parts-place.result c.requires c.index-parts-place.is _ _ e).0 in
    let falls : c.in-Is-Arrow.a < c.args.place = w.1 in
    (search (rules, arith), w.0)

pub write-write-requires-in-Is-Arrow-2 : goal.write-write-requires-in-Is-Arrow-2
write-write-requires-in-Is-Arrow-2 t c =
    let e : c.index-parts-place.result ≡ Is (node.Arrow c.in-Is-Arrow.a c.in-Is-Arrow.b) = first_of (search rules, cc) in
    let w = (in_arrow c.args.parts.now c.args.place c.index-parts-place.result c.requires c.index-parts-place.is _ _ e).1 in
    let falls : c.in-Is-Arrow.b < c.args.place = w.1 in
    (search (rules, arith), w.0)

pub write-returns-in_ok-text-in-Is-Base : goal.write-returns-in_ok-text-in-Is-Base
write-returns-in_ok-text-in-Is-Base t c =
    let e : c.index-parts-place.result ≡ Is (node.Base c.in-Is-Base.t) = first_of (search rules, cc) in
    on_ok _ _ c.put.result (write_base c.args.parts.now c.args.place c.index-parts-place.result c.requires c.index-parts-place.is c.in-Is-Base.t _ _ c.slice.result.now e (c.slice.ensures ∙ c.in_ok-text-in-Is-Base.ensures)) c.put.ensures

pub write-returns-in_ok-write_row-in-Is-Rec : goal.write-returns-in_ok-write_row-in-Is-Rec
write-returns-in_ok-write_row-in-Is-Rec t c =
    let e : c.index-parts-place.result ≡ Is (node.Rec c.in-Is-Rec.r) = first_of (search rules, cc) in
    on_ok _ _ c.put-in-Is-Rec-2.result
    (write_record c.args.parts.now c.args.place c.index-parts-place.result c.requires c.index-parts-place.is _ _ _ _ _ e c.in_ok-put-in-Is-Rec.ensures c.in_ok-write_row-in-Is-Rec.ensures) c.put-in-Is-Rec-2.ensures

pub write-returns-in_ok-write_row-in-Is-Var : goal.write-returns-in_ok-write_row-in-Is-Var
write-returns-in_ok-write_row-in-Is-Var t c =
    let e : c.index-parts-place.result ≡ Is (node.Var c.in-Is-Var.r) = first_of (search rules, cc) in
    on_ok _ _ c.put-in-Is-Var-2.result
    (write_variant c.args.parts.now c.args.place c.index-parts-place.result c.requires c.index-parts-place.is _ _ _ _ _ e c.in_ok-put-in-Is-Var.ensures c.in_ok-write_row-in-Is-Var.ensures) c.put-in-Is-Var-2.ensures

pub write-returns-in_ok-write-in-Is-Coll : goal.write-returns-in_ok-write-in-Is-Coll
write-returns-in_ok-write-in-Is-Coll t c =
    let e : c.index-parts-place.result ≡ Is (node.Coll c.in-Is-Coll.kind c.in-Is-Coll.item) = first_of (search rules, cc) in
    on_ok _ _ c.write_closing.result
    (write_collection c.args.parts.now c.args.place c.index-parts-place.result c.requires c.index-parts-place.is _ _ _ _ _ _ e c.in_ok-write_opening-in-Is-Coll.ensures c.in_ok-write-in-Is-Coll.ensures) c.write_closing.ensures

pub write-returns-in_ok-put-in-Is-Arrow : goal.write-returns-in_ok-put-in-Is-Arrow
write-returns-in_ok-put-in-Is-Arrow t c =
    let e : c.index-parts-place.result ≡ Is (node.Arrow c.in-Is-Arrow.a c.in-Is-Arrow.b) = first_of (search rules, cc) in
    on_ok _ _ c.write-in-Is-Arrow-2.result
    (write_arrow c.args.parts.now c.args.place c.index-parts-place.result c.requires c.index-parts-place.is _ _ _ _ _ _ e c.in_ok-write-in-Is-Arrow.ensures c.in_ok-put-in-Is-Arrow.ensures) c.write-in-Is-Arrow-2.ensures

pub write-returns-in-Is-Row : goal.write-returns-in-Is-Row
write-returns-in-Is-Row t c =
    let e : c.index-parts-place.result ≡ Is (node.Row c.in-Is-Row.field-0-0 c.in-Is-Row.field-0-1 c.in-Is-Row.field-0-2) = first_of (search rules, cc) in
    write_field c.args.parts.now c.args.place c.index-parts-place.result c.requires c.index-parts-place.is _ _ _ _ e

pub write-returns-in-Is-EmptyRow : goal.write-returns-in-Is-EmptyRow
write-returns-in-Is-EmptyRow t c =
    let e : c.index-parts-place.result ≡ Is node.EmptyRow = first_of (search rules, cc) in
    write_no_field c.args.parts.now c.args.place c.index-parts-place.result c.requires c.index-parts-place.is _ e

pub write-returns-in-Is-Fixed : goal.write-returns-in-Is-Fixed
write-returns-in-Is-Fixed t c =
    let e : c.index-parts-place.result ≡ Is (node.Fixed c.in-Is-Fixed.field-0-0) = first_of (search rules, cc) in
    write_kind c.args.parts.now c.args.place c.index-parts-place.result c.requires c.index-parts-place.is _ _ e

pub write-returns-in-AnyType : goal.write-returns-in-AnyType
write-returns-in-AnyType t c =
    on_ok _ _ c.name.result (write_any c.args.parts.now c.args.place c.index-parts-place.result c.requires c.index-parts-place.is _ _ (is_any_type _ c.in-AnyType.is)) c.name.ensures

pub write-returns-in-AnyRow : goal.write-returns-in-AnyRow
write-returns-in-AnyRow t c =
    on_ok _ _ c.name-in-AnyRow.result (write_any c.args.parts.now c.args.place c.index-parts-place.result c.requires c.index-parts-place.is _ _ (is_any_row _ _ c.in-AnyRow.is)) c.name-in-AnyRow.ensures

pub write-returns-in-AnyKind : goal.write-returns-in-AnyKind
write-returns-in-AnyKind t c =
    on_ok _ _ c.name-in-AnyKind.result (write_any c.args.parts.now c.args.place c.index-parts-place.result c.requires c.index-parts-place.is _ _ (is_any_kind _ c.in-AnyKind.is)) c.name-in-AnyKind.ensures

pub write_row-write-requires : goal.write_row-write-requires
write_row-write-requires t c =
    let within : c.fields.i < length c.in_ok-fields-2.fields.items = search (rules, arith) in
    let row = c.in_ok-fields.ensures in
    let all = subst (λ (fs : Fields). AllByRecursion (λ f. f.1 < c.args.place) fs) (sym c.in_ok-fields-2.ensures) (all_sorted c.args.place c.in_ok-fields.fields.items row.falls) in
    let falls : c.index-in-fields.result.now.1 < c.args.place = all_at c.args.place c.in_ok-fields-2.fields.items c.fields.i c.index-in-fields.result.now all within c.index-in-fields.ensures in
    (search (rules, arith), record { inside = let w = c.requires.inside in omega arith; before = c.requires.before })

pub write_row-fields-preserved : goal.write_row-fields-preserved
write_row-fields-preserved t c =
    let within : c.fields.i < length c.in_ok-fields-2.fields.items = search (rules, arith) in
    let fs = c.in_ok-fields-2.fields.items in
    let same = same_read fs c.fields.i c.index.result.now c.index-in-fields.result.now within c.index.ensures c.index-in-fields.ensures in
    write_more c.args.parts.now fs c.fields.i c.index-in-fields.result.now c.args.page.now c.fields.page c.put.new.self c.put-in-fields.new.self c.put-in-fields-2.new.self c.write.new.page c.separator.result.now c.slice.result.now
    within c.index-in-fields.ensures (length_taken fs c.fields.i within) c.separator.ensures (c.slice.ensures ∙ ap (λ (f : List ℕ × ℕ). f.0) same)
    c.fields.invariant c.in_ok-put.ensures c.in_ok-put-2.ensures c.in_ok-put-3.ensures c.in_ok-write.ensures

pub write_row-returns : goal.write_row-returns
write_row-returns t c =
    let fs = c.in_ok-fields-2.fields.items in
    let all : c.fields.i ≡ length c.in_ok-fields-2.fields.items = search (rules, arith) in
    let count : c.len.result ≡ length c.in_ok-fields-2.fields.items = search (rules, arith) in
    on_ok _ _ c.write_rest.result
    (λ w. write_row c.args.parts.now fs c.args.place c.in_ok-fields.end c.in_ok-fields.fields.items c.args.page.now c.fields.page c.write_rest.new.page c.in_ok-fields.ensures c.in_ok-fields-2.ensures (take_whole fs)
    (subst (λ n. Writes c.args.page.now c.fields.page (front_variables c.args.parts.now (take n fs)) (front_texts c.args.parts.now 0 (take n fs))) all c.fields.invariant)
    (subst (λ n. Writes c.fields.page c.write_rest.new.page (rest_variables (tree_at c.args.parts.now c.in_ok-fields.end)) (mark_behind n (tree_at c.args.parts.now c.in_ok-fields.end))) count w))
    c.write_rest.ensures
