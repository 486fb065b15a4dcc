use Rattle.std.proofs.Common.{rules, arith, Ok, Err, []}
use Rattle.kl_syntax.specs.declared.tree.Pattern.{the_lemmas}
use Rattle.kl_infer.specs.Names.{names}
use Rattle.kl_infer.proofs.Leaving.{handed_on, ready_at, ready_on, ready_new, ready_many, labelled_there}
use Rattle.kl_infer.proofs.PatternForms.{ready_out}
use Rattle.kl_infer.proofs.Answering.{size_at}
use Rattle.kl_infer.proofs.Taking.{catch_ok, any_ok, same_ok, is_ok, variant_none, variant_ok, shape_none, shape_ok, rest_none, rest_fails, rest_ok, wants_one, takes_starts, takes_more, takes_done}
use Rattle.kl_infer.proofs.typing.Typing.+takes.Goals as goal

pub takes-name-requires : goal.takes-name-requires
takes-name-requires t c = ready_out _ _ c.args.bound.now.items _ _ c.requires

pub takes-record-requires-clause-fields_there : goal.takes-record-requires-clause-fields_there
takes-record-requires-clause-fields_there t c = labelled_there _ _ _ _ _ c.in_ok-all-in-Rec.ensures c.deref.ensures.value c.in_ok-types-in-Rec.ensures.sorts

pub takes-returns-in_err-record-in-Rec : goal.takes-returns-in_err-record-in-Rec
takes-returns-in_err-record-in-Rec t c = handed_on _ _ _ _ c.from_residual-in_err-record-in-Rec.ensures.1 (shape_none c.args.known.now (names c.args.outside.now) _ c.args.bound.now.items c.args.t c.args.p.now c.requires _ _ _ _ _ _ _ c.in-Rec.is c.slice-fields.ensures c.deref.ensures.value c.in_ok-all-in-Rec.ensures c.in_ok-types-in-Rec.ensures _ c.in_default.not-Rest c.is_open.ensures _ c.in_err-record-in-Rec.ensures)

pub takes-rest-requires-clause-fields_there : goal.takes-rest-requires-clause-fields_there
takes-rest-requires-clause-fields_there t c = labelled_there _ _ _ _ _ c.in_ok-all-in-Rec.ensures c.deref.ensures.value c.in_ok-types-in-Rec.ensures.sorts

pub takes-returns-in_err-rest-in-Rec : goal.takes-returns-in_err-rest-in-Rec
takes-returns-in_err-rest-in-Rec t c = handed_on _ _ _ _ c.from_residual-in_err-rest-in-Rec.ensures.1 (rest_none c.args.known.now (names c.args.outside.now) _ c.args.bound.now.items c.args.t c.args.p.now c.requires _ _ _ _ _ _ _ c.in-Rec.is c.slice-fields.ensures c.deref.ensures.value c.in_ok-all-in-Rec.ensures c.in_ok-types-in-Rec.ensures _ c.in-Rest.is _ c.in_err-rest-in-Rec.ensures)

pub takes-takes_fields-requires : goal.takes-takes_fields-requires
takes-takes_fields-requires t c = (
  search (rules, the_lemmas, arith),
  (
    ready_at _ _ _ _ _ c.deref-in-Rest.ensures.value (ready_on _ _ _ _ _ c.in_ok-rest-in-Rec.ensures.fine c.in_ok-rest-in-Rec.ensures.keeps (ready_many _ _ _ _ _ _ _ c.in_ok-types-in-Rec.ensures c.requires)),
    size_at _ _ _ c.deref-in-Rest.ensures.value c.in_ok-types-in-Rec.ensures.size,
  ),
)

pub takes-returns-in_err-takes_fields-in-Rec : goal.takes-returns-in_err-takes_fields-in-Rec
takes-returns-in_err-takes_fields-in-Rec t c = handed_on _ _ _ _ c.from_residual-in_err-takes_fields-in-Rec.ensures.1 (rest_fails c.args.known.now (names c.args.outside.now) _ c.args.bound.now.items c.args.t c.args.p.now c.requires _ _ _ _ _ _ _ c.in-Rec.is c.slice-fields.ensures c.deref.ensures.value c.in_ok-all-in-Rec.ensures c.in_ok-types-in-Rec.ensures _ c.in-Rest.is _ _ c.in_ok-rest-in-Rec.ensures _ c.deref-in-Rest.ensures.value [] c.args.bound.now.items _ c.in_err-takes_fields-in-Rec.ensures)

pub takes-returns-in-Rest : goal.takes-returns-in-Rest
takes-returns-in-Rest t c = rest_ok c.args.known.now (names c.args.outside.now) _ c.args.bound.now.items c.args.t c.args.p.now c.requires _ _ _ _ _ _ _ c.in-Rec.is c.slice-fields.ensures c.deref.ensures.value c.in_ok-all-in-Rec.ensures c.in_ok-types-in-Rec.ensures _ c.in-Rest.is _ _ c.in_ok-rest-in-Rec.ensures _ c.deref-in-Rest.ensures.value _ _ _ _ c.in_ok-dup-in-Rec.ensures c.in_ok-push-in-Rec.ensures.items c.in_ok-takes_fields-in-Rec.ensures

pub takes-takes_fields-requires-in-Rec : goal.takes-takes_fields-requires-in-Rec
takes-takes_fields-requires-in-Rec t c = (
  search (rules, the_lemmas, arith),
  (
    ready_at _ _ _ _ _ c.deref-in-Rec.ensures.value (ready_on _ _ _ _ _ c.in_ok-record-in-Rec.ensures.fine c.in_ok-record-in-Rec.ensures.keeps (ready_many _ _ _ _ _ _ _ c.in_ok-types-in-Rec.ensures c.requires)),
    size_at _ _ _ c.deref-in-Rec.ensures.value c.in_ok-types-in-Rec.ensures.size,
  ),
)

pub takes-returns-in_err-item-in-Inj : goal.takes-returns-in_err-item-in-Inj
takes-returns-in_err-item-in-Inj t c = handed_on _ _ _ _ c.from_residual-in_err-item-in-Inj.ensures.1 (variant_none c.args.known.now (names c.args.outside.now) _ c.args.bound.now.items c.args.t c.args.p.now c.requires _ _ _ c.in-Inj.is c.in_err-item-in-Inj.ensures)

pub takes-takes-requires : goal.takes-takes-requires
takes-takes-requires t c = (search (rules, the_lemmas, arith), ready_new _ _ _ _ _ _ _ c.in_ok-item-in-Inj.ensures c.requires)

pub takes-returns-in_ok-push-in-Bind : goal.takes-returns-in_ok-push-in-Bind
takes-returns-in_ok-push-in-Bind t c = catch_ok c.args.known.now (names c.args.outside.now) _ c.args.bound.now.items c.args.t c.args.p.now c.requires _ _ _ c.in-Bind.is c.in_ok-dup-in-Bind.ensures c.in_ok-push-in-Bind.ensures.items

pub takes-returns-in-Any : goal.takes-returns-in-Any
takes-returns-in-Any t c = any_ok c.args.known.now (names c.args.outside.now) _ c.args.bound.now.items c.args.t c.args.p.now c.requires c.in-Any.is

pub takes-returns-in-Same : goal.takes-returns-in-Same
takes-returns-in-Same t c = same_ok c.args.known.now (names c.args.outside.now) _ c.args.bound.now.items c.args.t c.args.p.now c.requires c.name.result _ _ c.in-Same.is c.name.ensures

pub takes-returns-in-Is : goal.takes-returns-in-Is
takes-returns-in-Is t c = is_ok c.args.known.now (names c.args.outside.now) _ c.args.bound.now.items c.args.t c.args.p.now c.requires c.value.result _ _ _ c.in-Is.is c.value.ensures

pub takes-returns-in_ok-item-in-Inj : goal.takes-returns-in_ok-item-in-Inj
takes-returns-in_ok-item-in-Inj t c = variant_ok c.args.known.now (names c.args.outside.now) _ c.args.bound.now.items c.args.t c.args.p.now c.requires c.takes.result _ _ _ _ _ _ _ c.in-Inj.is c.get.ensures c.in_ok-item-in-Inj.ensures c.takes.ensures

pub takes-returns-in_ok-record-in-Rec : goal.takes-returns-in_ok-record-in-Rec
takes-returns-in_ok-record-in-Rec t c = shape_ok c.args.known.now (names c.args.outside.now) _ c.args.bound.now.items c.args.t c.args.p.now c.requires _ _ _ _ _ _ _ c.in-Rec.is c.slice-fields.ensures c.deref.ensures.value c.in_ok-all-in-Rec.ensures c.in_ok-types-in-Rec.ensures _ c.in_default.not-Rest c.is_open.ensures c.takes_fields-in-Rec.result _ _ _ _ c.deref-in-Rec.ensures.value c.in_ok-record-in-Rec.ensures c.takes_fields-in-Rec.ensures

pub takes_fields-fields-init : goal.takes_fields-fields-init
takes_fields-fields-init t c = takes_starts c.args.known.now (names c.args.outside.now) _ c.args.bound.now.items c.args.fields.now c.args.types.now c.requires.ready.fine

pub takes_fields-takes-requires : goal.takes_fields-takes-requires
takes_fields-takes-requires t c = (search (rules, the_lemmas, arith), wants_one c.args.known.now (names c.args.outside.now) _ _ c.args.bound.now.items _ _ _ c.args.types.now c.fields.i _ c.requires.size c.fields-test.true c.requires.ready c.fields.invariant)

pub takes_fields-returns-in_err-takes : goal.takes_fields-returns-in_err-takes
takes_fields-returns-in_err-takes t c = handed_on _ _ _ _ c.from_residual.ensures.1 (takes_more c.args.known.now (names c.args.outside.now) (Err _) _ _ [] c.args.bound.now.items _ [] _ c.args.fields.now c.args.types.now c.fields.i c.index-fields-i.result _ c.requires.size c.fields-test.true c.index-fields-i.is c.index-fields-i.is c.requires.ready c.fields.invariant c.in_err-takes.ensures)

pub takes_fields-fields-preserved : goal.takes_fields-fields-preserved
takes_fields-fields-preserved t c = takes_more c.args.known.now (names c.args.outside.now) (Ok tt) _ _ _ c.args.bound.now.items _ _ _ c.args.fields.now c.args.types.now c.fields.i c.index-fields-i.result _ c.requires.size c.fields-test.true c.index-fields-i.is c.index-fields-i.is c.requires.ready c.fields.invariant c.in_ok-takes.ensures

pub takes_fields-returns : goal.takes_fields-returns
takes_fields-returns t c = takes_done c.args.known.now (names c.args.outside.now) _ _ c.args.bound.now.items _ _ c.args.fields.now c.args.types.now c.fields.i c.requires.size c.fields-test.false c.fields.invariant
