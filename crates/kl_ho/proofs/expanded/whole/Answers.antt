use Rattle.std.proofs.Common.{Err, refl, ◌∙◌, subst, length, arith}
use Rattle.std.specs.Option.{option_map}
use Rattle.kl_syntax.specs.View.{view, decls_of}
use Rattle.kl_ho.specs.Declaring.{Added, LastMade}
use Rattle.kl_ho.specs.Growing.{higher_of, highers_of}
use Rattle.kl_ho.specs.KeptPrograms.{listed}
use Rattle.kl_ho.proofs.Reaching.{reached_first, next_at, own_at, stopped_at, refused_as, expands_all, within_all, numbers_all, stopped_last}
use Rattle.kl_ho.proofs.expanded.whole.Goals as goal

pub defs-init : goal.defs-init
defs-init c = (refl, rw (c.new.ensures.items, c.new-made.ensures.items, c.new-from.ensures.items) (reached_first c.args.base.now (listed c.args.defs.now c.args.functions.now) (decls_of c.args.defs.now) (view c.args.last.now) c.requires.some))

pub defs-preserved : goal.defs-preserved
defs-preserved c = (
  c.defs.invariant.0,
  next_at c.args.base.now c.args.defs.now c.args.functions.now c.args.last.now (highers_of c.defs.table) c.defs.i c.defs.made.items c.defs.from.items c.index-defs-i.result (option_map higher_of c.in_ok-own.own) _ _ _ _ c.defs-test.true c.index-defs-i.is
      (own_at c.args.base.now c.args.defs.now c.args.functions.now c.args.last.now (highers_of c.defs.table) c.defs.i c.defs.made.items c.defs.from.items c.index-defs-i.result c.index-functions-i.result _ (option_map higher_of c.in_ok-own.own) c.requires.listed c.defs-test.true c.index-defs-i.is
      c.index-functions-i.is c.slice.ensures c.in_ok-own.ensures)
      c.in_ok-enter.ensures (rw c.defs.invariant.0 at c.in_ok-add.ensures) c.defs.invariant.1,
)

pub returns-in_err-add-clause-refused : goal.returns-in_err-add-clause-refused
returns-in_err-add-clause-refused c =
    refused_as (listed c.args.defs.now c.args.functions.now) (decls_of c.args.defs.now) (view c.args.last.now) c.from_residual-in_err-add.result c.in_err-add.field-0.0 c.from_residual-in_err-add.ensures.1
    (stopped_at c.args.base.now c.args.defs.now c.args.functions.now c.args.last.now (highers_of c.defs.table) c.defs.i c.defs.made.items c.defs.from.items c.index-defs-i.result (option_map higher_of c.in_ok-own.own) c.add.new.made.items c.add.new.from.items c.in_err-add.field-0.0 c.defs-test.true c.index-defs-i.is
    (own_at c.args.base.now c.args.defs.now c.args.functions.now c.args.last.now (highers_of c.defs.table) c.defs.i c.defs.made.items c.defs.from.items c.index-defs-i.result c.index-functions-i.result _ (option_map higher_of c.in_ok-own.own) c.requires.listed c.defs-test.true c.index-defs-i.is
    c.index-functions-i.is c.slice.ensures c.in_ok-own.ensures)
    (subst (λ z. Added z (highers_of c.defs.table) (option_map higher_of c.in_ok-own.own) c.index-defs-i.result c.defs.i c.defs.made.items c.defs.from.items c.add.new.made.items c.add.new.from.items (Err c.in_err-add.field-0.0)) c.defs.invariant.0 c.in_err-add.ensures) c.defs.invariant.1)

pub returns-in_err-last-clause-refused : goal.returns-in_err-last-clause-refused
returns-in_err-last-clause-refused c =
    refused_as (listed c.args.defs.now c.args.functions.now) (decls_of c.args.defs.now) (view c.args.last.now) c.from_residual-in_err-last.result c.in_err-last.field-0.0 c.from_residual-in_err-last.ensures.1
    (stopped_last c.args.base.now c.args.defs.now c.args.functions.now c.args.last.now (highers_of c.defs.table) c.defs.i c.defs.made.items c.defs.from.items _ c.defs-test.false (omega (arith, c.defs-test.false, c.defs.auto.i-end)) c.defs.invariant.1 c.finished.new.from.items c.in_err-last.field-0.0 (subst (λ z. LastMade z (highers_of c.defs.table) c.args.last.now (length c.args.defs.now) c.defs.from.items c.finished.new.from.items (Err c.in_err-last.field-0.0)) c.defs.invariant.0 c.in_err-last.ensures))

pub returns-clause-expansion : goal.returns-clause-expansion
returns-clause-expansion c =
    rw c.of.ensures
    (expands_all c.args.base.now c.args.defs.now c.args.functions.now c.args.last.now (highers_of c.defs.table) c.defs.i c.defs.made.items c.defs.from.items _ c.defs-test.false (omega (arith, c.defs-test.false, c.defs.auto.i-end)) c.defs.invariant.1 _ _ (rw c.defs.invariant.0 at c.in_ok-last.ensures))

pub returns-clause-within : goal.returns-clause-within
returns-clause-within c =
    rw c.of.ensures
    (within_all c.args.base.now c.args.defs.now c.args.functions.now c.args.last.now (highers_of c.defs.table) c.defs.i c.defs.made.items c.defs.from.items _ c.defs-test.false (omega (arith, c.defs-test.false, c.defs.auto.i-end)) c.defs.invariant.1 _ _ (rw c.defs.invariant.0 at c.in_ok-last.ensures))

pub returns-clause-from : goal.returns-clause-from
returns-clause-from c =
    c.of-2.ensures
    ∙ numbers_all c.args.base.now c.args.defs.now c.args.functions.now c.args.last.now (highers_of c.defs.table) c.defs.i c.defs.made.items c.defs.from.items _ c.defs-test.false (omega (arith, c.defs-test.false, c.defs.auto.i-end)) c.defs.invariant.1 _ _ (rw c.defs.invariant.0 at c.in_ok-last.ensures)
