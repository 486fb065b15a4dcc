use Rattle.std.proofs.Common.{◌≡◌, ◌<◌, Some, ap, length, refl, rules, slice_get}
use Rattle.std.specs.Option.{option_flatten}
use Rattle.std.proofs.lemmas.Option.{slice_get_read}
use Rattle.kl_nested.proofs.Held.{held_within}
use Rattle.kl_nested.proofs.handing.hand_at.Goals as goal

pub hand_next-requires-clause-reading : goal.hand_next-requires-clause-reading
hand_next-requires-clause-reading g c =
    let cursors = c.args.cursors.now.items in
    let within : c.args.cursor < length cursors = held_within cursors c.args.cursor c.requires.is_open in
    let there : slice_get cursors c.args.cursor ≡ Some (Some c.in-Some.open) = slice_get_read cursors (length cursors) c.args.cursor (Some c.in-Some.open) refl within (search rules) in
    c.requires.reading c.in-Some.open (ap option_flatten there)

pub returns : goal.returns
returns g c =
    let cursors = c.args.cursors.now.items in
    let within : c.args.cursor < length cursors = held_within cursors c.args.cursor c.requires.is_open in
    let there : slice_get cursors c.args.cursor ≡ Some (Some c.in-Some.open) = slice_get_read cursors (length cursors) c.args.cursor (Some c.in-Some.open) refl within (search rules) in
    record { old = c.in-Some.open; new = c.hand_next.new.cursor; here = there; made = refl; hands = c.hand_next.ensures }
