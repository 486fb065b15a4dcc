use Rattle.std.proofs.Common.{◌≡◌, length, drop, Some, None, sym, ap, ◌∙◌, subst, arith}
use Rattle.std.proofs.lemmas.List.{drop_all}
use Rattle.kl_base.specs.Fields.{field}
use Rattle.kl_rows.specs.Places.{a_type}
use Rattle.kl_forms.specs.Rows.{Fronts, next}
use Rattle.kl_forms.proofs.Sorting.{next_at}
use Rattle.kl_forms.proofs.Fronts.{turn, rest_slice, end_stands, front_can, front_more, front_same, front_later, front_refuses}
use Rattle.kl_forms.proofs.records.row_before.Goals as goal

pub fields-init : goal.fields-init
fields-init c = subst (λ fs. Fronts c.args.fields.now fs c.args.u.now.cells.items c.args.u.now.cells.items c.args.end c.args.end) (sym (drop_all (length c.args.fields.now) c.args.fields.now (omega arith)))
    (end_stands c.args.fields.now c.args.u.now.cells.items c.args.end c.requires.fine c.requires.end_there c.requires.lacks)

pub make-requires-clause-can : goal.make-requires-clause-can
make-requires-clause-can c =
    let all = c.args.fields.now in
    let f = c.index-fields-i.result in
    let t = turn c.args.u.now.cells.items all c.fields.i f.0 f.1 c.fields-test.true (omega arith) c.index-fields-i.is c.requires.fields_there in
    let none : field f.0 (drop c.fields.i all) ≡ None = next_at all c.fields.i f.0 f.1 c.requires.rise t.split ∙ ap (next f.0) (sym (rest_slice all c.fields.i c.fields-test.true)) ∙ sym c.in-None.ensures in
    front_can all (drop c.fields.i all) f.0 f.1 c.args.u.now.cells.items c.fields.u.cells.items c.fields.u.cells.items c.args.end c.fields.row c.fields.invariant c.in_ok-label-in-None.label c.in_ok-label-in-None.ensures t.label none t.types.0

pub fields-preserved : goal.fields-preserved
fields-preserved c =
    let all = c.args.fields.now in
    let f = c.index-fields-i.result in
    let t = turn c.args.u.now.cells.items all c.fields.i f.0 f.1 c.fields-test.true (omega arith) c.index-fields-i.is c.requires.fields_there in
    let none : field f.0 (drop c.fields.i all) ≡ None = next_at all c.fields.i f.0 f.1 c.requires.rise t.split ∙ ap (next f.0) (sym (rest_slice all c.fields.i c.fields-test.true)) ∙ sym c.in-None.ensures in
    subst (λ fs. Fronts all fs c.args.u.now.cells.items c.make.new.self.cells.items c.args.end c.in_ok-row-in-None.row) (sym t.split)
    (front_more all (drop c.fields.i all) f.0 f.1 c.args.u.now.cells.items c.fields.u.cells.items c.make.new.self.cells.items c.args.end c.fields.row c.fields.invariant c.in_ok-row-in-None.row t.label none t.types.0 c.requires.end_there c.in_ok-label-in-None.label c.in_ok-label-in-None.ensures c.in_ok-row-in-None.ensures)

pub same-requires-clause-first_there : goal.same-requires-clause-first_there
same-requires-clause-first_there c =
    let all = c.args.fields.now in
    let f = c.index-fields-i.result in
    let t = turn c.args.u.now.cells.items all c.fields.i f.0 f.1 c.fields-test.true (omega arith) c.index-fields-i.is c.requires.fields_there in
    c.fields.invariant.opens.keeps.sorts f.1 a_type t.types.0

pub same-requires-clause-second_there : goal.same-requires-clause-second_there
same-requires-clause-second_there c =
    let all = c.args.fields.now in
    let f = c.index-fields-i.result in
    let t = turn c.args.u.now.cells.items all c.fields.i f.0 f.1 c.fields-test.true (omega arith) c.index-fields-i.is c.requires.fields_there in
    let found : field f.0 (drop c.fields.i all) ≡ Some c.in-Some.later = next_at all c.fields.i f.0 f.1 c.requires.rise t.split ∙ ap (next f.0) (sym (rest_slice all c.fields.i c.fields-test.true)) ∙ sym c.in-Some.ensures in
    c.fields.invariant.opens.keeps.sorts c.in-Some.later a_type (front_later c.args.u.now.cells.items (drop c.fields.i all) f.0 f.1 c.in-Some.later found t.types)

pub fields-preserved-else-not-holds : goal.fields-preserved-else-not-holds
fields-preserved-else-not-holds c =
    let all = c.args.fields.now in
    let f = c.index-fields-i.result in
    let t = turn c.args.u.now.cells.items all c.fields.i f.0 f.1 c.fields-test.true (omega arith) c.index-fields-i.is c.requires.fields_there in
    let found : field f.0 (drop c.fields.i all) ≡ Some c.in-Some.later = next_at all c.fields.i f.0 f.1 c.requires.rise t.split ∙ ap (next f.0) (sym (rest_slice all c.fields.i c.fields-test.true)) ∙ sym c.in-Some.ensures in
    subst (λ fs. Fronts all fs c.args.u.now.cells.items c.same.new.u.cells.items c.args.end c.fields.row) (sym t.split)
    (front_same all (drop c.fields.i all) f.0 f.1 c.args.u.now.cells.items c.fields.u.cells.items c.same.new.u.cells.items c.args.end c.fields.row c.fields.invariant c.in-Some.later _ found t.types c.in_ok-holds-in-Some.ensures c.if-not-holds.false)

pub returns-then-not-holds : goal.returns-then-not-holds
returns-then-not-holds c =
    let all = c.args.fields.now in
    let f = c.index-fields-i.result in
    let t = turn c.args.u.now.cells.items all c.fields.i f.0 f.1 c.fields-test.true (omega arith) c.index-fields-i.is c.requires.fields_there in
    let found : field f.0 (drop c.fields.i all) ≡ Some c.in-Some.later = next_at all c.fields.i f.0 f.1 c.requires.rise t.split ∙ ap (next f.0) (sym (rest_slice all c.fields.i c.fields-test.true)) ∙ sym c.in-Some.ensures in
    front_refuses all (drop c.fields.i all) f.0 f.1 c.args.u.now.cells.items c.fields.u.cells.items c.same.new.u.cells.items c.args.end c.fields.row c.fields.invariant c.in-Some.later _ found t.types c.in_ok-holds-in-Some.ensures c.if-not-holds.true t.fronts

pub returns : goal.returns
returns c =
    let e : c.fields.i ≡ 0 = omega arith in
    (subst (λ i. Fronts c.args.fields.now (drop i c.args.fields.now) c.args.u.now.cells.items c.fields.u.cells.items c.args.end c.fields.row) e c.fields.invariant).opens
