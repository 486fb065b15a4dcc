use Rattle.std.proofs.Common.{◌<◌, ◌∙◌, arith}
use Rattle.kl_value.proofs.KeyLemmas.{low_power, turn_room, turn_value, turn_end}
use Rattle.kl_value.proofs.sorting.front.Goals as goal

pub overflow_mul-number : goal.overflow_mul-number
overflow_mul-number c = omega (arith, low_power c.loop-i.i c.args.count (omega arith) c.requires, c.loop-i.invariant.below)

pub overflow_add-number : goal.overflow_add-number
overflow_add-number c =
    let byte : c.from.result < 256 = omega arith in
    omega (arith, low_power c.loop-i.i c.args.count (omega arith) c.requires, c.loop-i.invariant.below, byte)

pub loop-i-preserved : goal.loop-i-preserved
loop-i-preserved c =
    let byte : c.from.result < 256 = omega arith in
    record {
      below = turn_room c.loop-i.i c.loop-i.number c.from.result c.loop-i.invariant.below byte;
      so_far = turn_value c.args.count c.args.bytes.now c.loop-i.i c.loop-i.number c.from.result (omega arith) (c.from.ensures ∙ c.byte_at.ensures) byte c.loop-i.invariant.so_far;
    }

pub returns : goal.returns
returns c = turn_end c.args.count c.args.bytes.now c.loop-i.i c.loop-i.number (omega arith) c.loop-i.invariant.so_far
