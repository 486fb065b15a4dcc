use Rattle.std.proofs.Common.{ap, subst, ◌∙◌}
use Rattle.kl_rows.specs.Copying.{number_in, Copies}
use Rattle.kl_rows.specs.Schemes.{Tabled}
use Rattle.kl_rows.proofs.Orders.{in_order}
use Rattle.kl_rows.proofs.Settlements.{root_within, settles}
use Rattle.kl_rows.proofs.settling.scheme_of.Goals as goal

pub needed-requires-clause-ordered : goal.needed-requires-clause-ordered
needed-requires-clause-ordered c = in_order c.args.cells.now c.args.order.now c.requires.ordered

pub needed-requires-clause-within : goal.needed-requires-clause-within
needed-requires-clause-within c = root_within c.args.cells.now c.args.root c.requires.on_root

pub copy-requires-clause-ordered : goal.copy-requires-clause-ordered
copy-requires-clause-ordered c = in_order c.args.cells.now c.args.order.now c.requires.ordered

pub returns : goal.returns
returns c =
    settles c.args.cells.now c.args.order.now c.args.root c.in_ok-kept.kept.items c.new-table.result.items c.copy.new.target.items c.in_ok-numbers.numbers.items c.in_ok-nodes.nodes.items c.requires.fine c.requires.ordered c.requires.on_root c.in_ok-kept.ensures
    c.new-table.ensures.items (subst (λ ks. Copies ks c.args.cells.now c.new-table.result.items c.copy.new.target.items c.in_ok-numbers.numbers.items) c.deref.ensures.value c.in_ok-numbers.ensures)
    (subst (λ cs. Tabled cs c.in_ok-nodes.nodes.items) c.deref-2.ensures.value c.in_ok-nodes.ensures) _ c.of.ensures (c.number.ensures ∙ ap (λ ns. number_in ns c.args.root) c.deref-3.ensures.value)
