use Rattle.std.proofs.Common.{arith}
use Rattle.kl_core.specs.Trees.{view}
use Rattle.kl_ship.proofs.Amounts.{few, sent_most}
use Rattle.kl_ship.proofs.Bare.{sent_bare}
use Rattle.kl_ship.proofs.Finishing.{sense_if, numbers_if, full_if}
use Rattle.kl_ship.proofs.Smaller.{loops_nodes}
use Rattle.kl_ship.proofs.Sources.{sound}
use Rattle.kl_ship.proofs.shipping.ship.Goals as goal

pub part-requires-clause-sound : goal.part-requires-clause-sound
part-requires-clause-sound c = sound _ _ _ _ c.requires.sense.1

pub part-requires-clause-room : goal.part-requires-clause-room
part-requires-clause-room c = omega (arith, few (view c.args.term.now), c.requires.small)

pub part-requires-clause-few : goal.part-requires-clause-few
part-requires-clause-few c = omega (arith, loops_nodes (view c.args.term.now), c.requires.small)

pub finished-requires-clause-bare : goal.finished-requires-clause-bare
finished-requires-clause-bare c = sent_bare _ _ _ _ _ _ _ c.in_ok-sent.ensures.becomes

pub finished-requires-clause-few : goal.finished-requires-clause-few
finished-requires-clause-few c =
    let most = sent_most c.args.sources.now c.args.settings.now.delegate (view c.args.term.now) _ (_, c.in_ok-sent.ensures.becomes) in
    omega (arith, most, c.requires.small)

pub returns-clause-sense : goal.returns-clause-sense
returns-clause-sense c = sense_if c.args.settings.now c.args.sources.now (view c.args.term.now) _ _ c.in_ok-sent.ensures.becomes c.requires.sources _ c.finished.ensures

pub returns-clause-numbers : goal.returns-clause-numbers
returns-clause-numbers c =
    numbers_if c.args.settings.now c.args.sources.now (view c.args.term.now) _ _ c.in_ok-sent.ensures.becomes _ c.finished.ensures

pub returns-clause-full : goal.returns-clause-full
returns-clause-full c = λ on.
    full_if c.args.settings.now c.args.sources.now (view c.args.term.now) _ _ c.in_ok-sent.ensures.becomes c.requires.sources c.requires.proper on _ c.finished.ensures
