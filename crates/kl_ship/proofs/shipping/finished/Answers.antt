use Rattle.kl_ship.proofs.Finishing.{ready, room_for_scans, room_for_joins, room_for_memos}
use Rattle.kl_ship.proofs.shipping.finished.Goals as goal

pub keep_values-requires : goal.keep_values-requires
keep_values-requires c = record { bare = ready _ _ _ c.requires.bare c.in_ok-join_loops.ensures.made }

pub number-requires-clause-scans : goal.number-requires-clause-scans
number-requires-clause-scans c =
    room_for_scans _ _ _ c.requires.bare c.in_ok-join_loops.ensures.made c.requires.few _ _ c.in_ok-keep_values.ensures

pub number-requires-clause-joins : goal.number-requires-clause-joins
number-requires-clause-joins c =
    room_for_joins _ _ _ c.requires.bare c.in_ok-join_loops.ensures.made c.requires.few _ _ c.in_ok-keep_values.ensures

pub number-requires-clause-memos : goal.number-requires-clause-memos
number-requires-clause-memos c =
    room_for_memos _ _ _ c.requires.bare c.in_ok-join_loops.ensures.made c.requires.few _ _ c.in_ok-keep_values.ensures
