use Rattle.std.proofs.Common.{◌≡◌, length, sym, ap, subst, ◌∙◌, rules}
use Rattle.kl_rows.specs.Copying.{number_in, InOrder, IsClosed}
use Rattle.kl_rows.specs.Schemes.{cells_of, KeepsAll}
use Rattle.kl_rows.proofs.Settlements.{scheme_source, scheme_order, all_closed, instantiates}
use Rattle.kl_rows.proofs.settling.instantiate.Goals as goal

pub copy-requires-clause-good : goal.copy-requires-clause-good
copy-requires-clause-good c = scheme_source c.args.scheme.now c.deref.result.now (c.deref.ensures.value ∙ (c.in_ok-table.ensures ∙ ap cells_of c.slice.ensures)) c.requires.good

pub copy-requires-clause-ordered : goal.copy-requires-clause-ordered
copy-requires-clause-ordered c =
    let size : c.len.result ≡ length c.deref.result.now = search rules in
    subst (InOrder c.deref.result.now) (sym c.deref-2.ensures.value)
    (scheme_order c.args.scheme.now c.deref.result.now c.len.result c.in_ok-order.order.items (c.deref.ensures.value ∙ (c.in_ok-table.ensures ∙ ap cells_of c.slice.ensures)) size c.requires.good c.in_ok-order.ensures)

pub copy-requires-clause-closed : goal.copy-requires-clause-closed
copy-requires-clause-closed c =
    let size : c.len-2.result ≡ length c.deref.result.now = search rules in
    subst (IsClosed c.deref.result.now) (sym c.deref-3.ensures.value)
    (all_closed c.deref.result.now c.len-2.result c.in_ok-kept.kept.items size (scheme_source c.args.scheme.now c.deref.result.now (c.deref.ensures.value ∙ (c.in_ok-table.ensures ∙ ap cells_of c.slice.ensures)) c.requires.good) c.in_ok-kept.ensures)

pub returns : goal.returns
returns c =
    let size : c.len-2.result ≡ length c.deref.result.now = search rules in
    instantiates c.args.scheme.now c.deref.result.now _ _ c.len-2.result c.deref-3.result.now c.in_ok-numbers.numbers.items c.number.result (c.deref.ensures.value ∙ (c.in_ok-table.ensures ∙ ap cells_of c.slice.ensures)) size c.requires.good
    (subst (KeepsAll c.len-2.result) (sym c.deref-3.ensures.value) c.in_ok-kept.ensures) c.in_ok-numbers.ensures (c.number.ensures ∙ ap (λ ns. number_in ns c.args.scheme.now.root) c.deref-4.ensures.value)
