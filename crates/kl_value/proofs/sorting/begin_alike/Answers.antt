use Rattle.std.proofs.Common.{subst, arith}
use Rattle.std.specs.List.{All}
use Rattle.std.specs.Option.{option_copied}
use Rattle.std.proofs.lemmas.List.{take_all}
use Rattle.kl_value.specs.Keys.{BeginsWith}
use Rattle.kl_value.proofs.KeyLemmas.{all_and_next}
use Rattle.kl_value.proofs.sorting.begin_alike.Goals as goal

pub loop-item-preserved : goal.loop-item-preserved
loop-item-preserved c =
    all_and_next (BeginsWith (option_copied c.first_label-first.result) (option_copied c.second_label-second.result)) c.args.items.now c.loop-item.item-index c.item-item.result
    (omega arith) c.item-item.is c.loop-item.invariant c.if-not-begins_with.ensures

pub returns : goal.returns
returns c = (
  option_copied c.first_label-first.result,
  option_copied c.second_label-second.result,
  subst (All (BeginsWith (option_copied c.first_label-first.result) (option_copied c.second_label-second.result)))
      (take_all c.loop-item.item-index c.args.items.now (omega arith)) c.loop-item.invariant,
)
