use Rattle.std.proofs.Common.{◌≡◌, subst, arith}
use Rattle.kl_forms.specs.Checks.{OpensMany}
use Rattle.kl_forms.proofs.Many.{many_none, many_more}
use Rattle.kl_forms.proofs.collections.fresh_types.Goals as goal

pub loop-i-init : goal.loop-i-init
loop-i-init c = many_none c.args.u.now.cells.items _ c.in_ok-items.ensures.items c.requires.fine

pub loop-i-preserved : goal.loop-i-preserved
loop-i-preserved c = many_more _ _ _ _ _ _ c.loop-i.invariant c.in_ok-item.ensures _ c.in_ok-push.ensures.items

pub returns : goal.returns
returns c =
    let e : c.loop-i.i ≡ c.args.count = omega arith in
    subst (OpensMany c.args.u.now.cells.items c.loop-i.u.cells.items c.loop-i.items.items) e c.loop-i.invariant
