use Rattle.std.proofs.Common.{Some, ◌∙◌, sym, ap}
use Rattle.std.proofs.lemmas.Option.{slice_get-get_or}
use Rattle.kl_rows.specs.Finite.{is_seen, mark_in}
use Rattle.kl_rows.proofs.Marking.{new_one}
use Rattle.kl_rows.proofs.finite.mark_one.Goals as goal

pub returns : goal.returns
returns c = new_one _ _ _ _ c.requires.within c.requires.marked _ _ _ _ _ _ _ c.in_ok-push.ensures.items c.deref-2.ensures.value
    (c.is_seen.ensures ∙ ap (λ xs. is_seen (mark_in xs c.args.at)) (c.deref.ensures.value ∙ sym c.deref-2.ensures.value))
    c.if-is_seen.false
    (slice_get-get_or c.args.cells.now c.args.at c.index-cells-at.result c.requires.within ∙ ap Some (sym c.index-cells-at.is))
    c.next_mark-mark.ensures c.is_unseen.ensures c.if-is_unseen.false c.set_mark.ensures
