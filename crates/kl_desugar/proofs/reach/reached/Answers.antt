use Rattle.std.proofs.Common.{arith, refl, sym, ap}
use Rattle.kl_scope.specs.Senses.{behind_each}
use Rattle.kl_scope.proofs.SizeForms.{at_back}
use Rattle.kl_desugar.proofs.Naming.{found_first, found_last, next_left_out, next_kept}
use Rattle.kl_desugar.proofs.reach.reached.Goals as goal

pub defs-init : goal.defs-init
defs-init c =
    found_first _ _ _ _ _ _ c.slice-defs.result.now _ (ap behind_each c.new-words.ensures.items) c.in_ok-names.ensures (ap behind_each c.deref.ensures.value) c.new-wanted.ensures.empty
    c.in_ok-add_all.ensures c.new-found.ensures.items

pub defs-preserved : goal.defs-preserved
defs-preserved c =
    next_left_out _ _ _ _ _ _ (at_back c.slice-defs.result.now c.defs.i c.index-defs-i.result c.defs-test.true c.defs.auto.i c.index-defs-i.is) c.defs.invariant (sym c.if-contains.ensures)

pub defs-preserved-in-Continue-branch-4 : goal.defs-preserved-in-Continue-branch-4
defs-preserved-in-Continue-branch-4 c =
    rw c.in_ok-push.ensures.items
    (next_kept _ _ _ _ _ _ (at_back c.slice-defs.result.now c.defs.i c.index-defs-i.result c.defs-test.true c.defs.auto.i c.index-defs-i.is) c.defs.invariant _ _ refl (sym c.if-contains.ensures)
    c.in_ok-want.ensures)

pub returns : goal.returns
returns c = found_last _ _ _ _ _ _ c.slice-defs.ensures (omega (arith, c.defs-test.false)) c.defs.invariant
