use Rattle.std.proofs.Common.{◌≡◌, ◌+◌, ◌<◌, ◌≤◌, length, Some, get_or, sym, ap, subst, ◌∙◌, arith, rules}
use Rattle.std.proofs.lemmas.Option.{slice_get-get_or}
use Rattle.kl_rows.specs.Making.{CanMake}
use Rattle.kl_rows.specs.Copying.{renamed, number_in, Takes, Copied}
use Rattle.kl_rows.proofs.Copies.{IsDone, copied_none, copy_skip, copy_can, copy_turn, copy_end}
use Rattle.kl_rows.proofs.copying.copy.Goals as goal
use Rattle.kl_rows.proofs.copying.copy.Goals.{then-is_kept+in_ok-number, else-is_kept}

pub order-init : goal.order-init
order-init c =
    let size : length c.in_ok-numbers.numbers.items ≡ length c.args.source.now = search rules in
    copied_none _ _ _ _ _ c.requires.fine size

pub copy_cell-requires-clause-can : goal.copy_cell-requires-clause-can
copy_cell-requires-clause-can c =
    let within : c.order.at-index < length c.args.order.now = omega arith in
    let here = slice_get-get_or c.args.order.now c.order.at-index 0 within in
    let in_source = c.requires.ordered.within c.order.at-index (get_or c.args.order.now c.order.at-index 0) here in
    let cell = slice_get-get_or c.args.source.now (get_or c.args.order.now c.order.at-index 0) c.index-source-at.result in_source ∙ ap Some (sym c.index-source-at.is) in
    subst (λ ns. CanMake c.order.target.items (renamed (number_in ns) c.index-source-at.result)) (sym c.deref.ensures.value)
    (copy_can _ _ _ _ c.requires.good c.requires.ordered c.order.at-index _ here _ c.order.numbers.items c.index-source-at.result c.requires.closed cell (sym c.if-is_kept.ensures) c.order.invariant)

pub order-preserved : goal.order-preserved
order-preserved c =
    let within : c.order.at-index < length c.args.order.now = omega arith in
    let here = slice_get-get_or c.args.order.now c.order.at-index 0 within in
    let in_source = c.requires.ordered.within c.order.at-index (get_or c.args.order.now c.order.at-index 0) here in
    elim c.if-is_kept.branch [
      | then-is_kept+in_ok-number w ↦ (
          let cell = slice_get-get_or c.args.source.now (get_or c.args.order.now c.order.at-index 0) w.index-source-at.result in_source ∙ ap Some (sym w.index-source-at.is) in
          let takes = subst (λ ns. Takes c.order.target.items w.copy_cell.new.target.items (renamed (number_in ns) w.index-source-at.result) w.in_ok-number.number) w.deref.ensures.value w.in_ok-number.ensures in
          let all = copy_turn _ _ _ _ c.requires.good c.requires.ordered c.order.at-index _ here c.order.target.items w.copy_cell.new.target.items c.order.numbers.items c.if-is_kept.numbers.items w.index-source-at.result w.in_ok-number.number c.requires.closed cell (sym w.if-is_kept.ensures) (ap (λ v. v.items) w.numbers-is)
          c.order.invariant takes in
          subst (λ t. Copied (IsDone c.args.kept.now c.args.order.now (c.order.at-index + 1)) c.args.source.now c.args.target.now.items t.items c.if-is_kept.numbers.items) (sym w.target-is) all)
      | else-is_kept w ↦ (
          let all = copy_skip _ _ _ _ c.requires.good c.requires.ordered c.order.at-index _ here c.order.target.items c.order.numbers.items (sym w.if-is_kept.ensures) c.order.invariant in
          subst (λ t. Copied (IsDone c.args.kept.now c.args.order.now (c.order.at-index + 1)) c.args.source.now c.args.target.now.items t.items c.if-is_kept.numbers.items) (sym w.target-is)
          (subst (λ ns. Copied (IsDone c.args.kept.now c.args.order.now (c.order.at-index + 1)) c.args.source.now c.args.target.now.items c.order.target.items ns.items) (sym w.numbers-is) all))
    ]

pub returns : goal.returns
returns c =
    let past : length c.args.order.now ≤ c.order.at-index = omega arith in
    copy_end _ _ _ _ _ _ c.order.at-index c.requires.ordered c.requires.closed past c.order.invariant
