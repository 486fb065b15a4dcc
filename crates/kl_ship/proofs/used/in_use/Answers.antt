use Rattle.std.proofs.Common.{rules}
use Rattle.std.proofs.lemmas.Fn.{filter_same}
use Rattle.kl_core.specs.Trees.{view}
use Rattle.kl_ship.specs.Delegation.{body_left}
use Rattle.kl_ship.specs.Marking.{has}
use Rattle.kl_ship.proofs.Marked.{marked_columns}
use Rattle.kl_ship.proofs.used.in_use.Goals as goal

pub returns : goal.returns
returns c =
    marked_columns c.args.at (body_left c.args.select c.args.kind c.args.rows (view c.args.body.now)) _ c.in_ok-columns.columns c.args.all.items _
    c.is_used_whole.ensures c.if-is_used_whole.false c.in_ok-columns.ensures
    (filter_same _ (has c.in_ok-columns.columns) _ (λ x b f' k. search rules) _ _ c.retain.ensures.filtered)
