use Rattle.std.proofs.Common.{◌<◌, ◌-◌, length, get_or, Some, sym, ap, ◌∙◌, arith}
use Rattle.std.proofs.lemmas.Option.{slice_get-get_or}
use Rattle.kl_rows.proofs.Kept.{parts_there}
use Rattle.kl_rows.proofs.keeping.sweep_back.Goals as goal

pub turn-turned-requires-clause-parts : goal.turn-turned-requires-clause-parts
turn-turned-requires-clause-parts c =
    let within : c.back.k - 1 < length c.args.order.now = omega arith in
    let there = c.requires.ordered.within (c.back.k - 1) (get_or c.args.order.now (c.back.k - 1) 0) (slice_get-get_or c.args.order.now (c.back.k - 1) 0 within) in
    parts_there c.args.cells.now c.back.kept.items (get_or c.args.order.now (c.back.k - 1) 0) c.index-cells-at.result c.requires.good (slice_get-get_or c.args.cells.now (get_or c.args.order.now (c.back.k - 1) 0) c.index-cells-at.result there ∙ ap Some (sym c.index-cells-at.is)) (c.back.invariant.size ∙ c.requires.size)
