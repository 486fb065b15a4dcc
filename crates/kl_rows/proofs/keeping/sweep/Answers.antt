use Rattle.std.proofs.Common.{◌<◌, ◌≤◌, length, Some, sym, ap, ◌∙◌, arith}
use Rattle.std.proofs.lemmas.Option.{slice_get-get_or}
use Rattle.kl_rows.proofs.Kept.{parts_there, sweep_turn, sweep_ends}
use Rattle.kl_rows.proofs.keeping.sweep.Goals as goal

pub turn-turned-requires-clause-parts : goal.turn-turned-requires-clause-parts
turn-turned-requires-clause-parts c =
    let within : c.cells.i < length c.args.cells.now = omega arith in
    parts_there c.args.cells.now c.cells.kept.items c.cells.i c.index-cells-i.result c.requires.good (slice_get-get_or c.args.cells.now c.cells.i c.index-cells-i.result within ∙ ap Some (sym c.index-cells-i.is)) (c.cells.invariant.widens.grows.size ∙ c.requires.size)

pub cells-preserved : goal.cells-preserved
cells-preserved c =
    let within : c.cells.i < length c.args.cells.now = omega arith in
    sweep_turn _ _ _ c.args.cells.now c.cells.i c.index-cells-i.result _ _ _ (slice_get-get_or c.args.cells.now c.cells.i c.index-cells-i.result within ∙ ap Some (sym c.index-cells-i.is)) c.either-any.ensures c.cells.invariant c.turn-turned.ensures

pub returns : goal.returns
returns c =
    let past : length c.args.cells.now ≤ c.cells.i = omega arith in
    sweep_ends _ _ _ _ c.cells.i past c.cells.invariant
