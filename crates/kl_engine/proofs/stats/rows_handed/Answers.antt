use Rattle.std.proofs.Common.{length, ap, ◌∙◌, arith}
use Rattle.kl_engine.proofs.StatsLemmas.{counted_none, counted_more, counted_all}
use Rattle.kl_engine.proofs.stats.rows_handed.Goals as goal

pub drivers-init : goal.drivers-init
drivers-init g c = counted_none (λ d. (goal.Driver-dyn g (d.vtable, d.value)).state d.value) c.args.drivers.now.items

pub overflow_add-handed : goal.overflow_add-handed
overflow_add-handed g c =
    let most = c.drivers.invariant.most in
    let one = c.from-handed.ensures in
    let small = c.handed_boxed.type_inv in
    let few = c.requires in
    let less = c.drivers-test.true in
    let all = ap length c.deref-driver-items.ensures.value in
    omega (arith, most, one, small, few, less, all)

pub drivers-preserved : goal.drivers-preserved
drivers-preserved g c =
    counted_more (λ d. (goal.Driver-dyn g (d.vtable, d.value)).state d.value) c.args.drivers.now.items c.drivers.driver-index c.driver-item.result c.drivers.handed c.from-handed.result c.deref-driver-items.result.now
    c.deref-driver-items.ensures.value c.drivers-test.true c.driver-item.is (c.from-handed.ensures ∙ c.handed_boxed.ensures)
    (let one = c.from-handed.ensures in let small = c.handed_boxed.type_inv in omega (arith, one, small)) c.drivers.invariant

pub returns : goal.returns
returns g c =
    counted_all (λ d. (goal.Driver-dyn g (d.vtable, d.value)).state d.value) c.args.drivers.now.items c.drivers.driver-index c.drivers.handed c.deref-driver-items.result.now
    c.deref-driver-items.ensures.value (λ less. let past = c.drivers-test.false in omega (arith, less, past)) c.drivers.invariant
