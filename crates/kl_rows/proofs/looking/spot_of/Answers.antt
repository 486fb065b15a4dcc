use Rattle.std.proofs.Common.{◌≡◌, suc, ◌+◌, ◌-◌, ◌≤◌, length, sym, ◌∙◌, arith}
use Rattle.kl_rows.proofs.Spots.{spots_from, spots_row, spot_here, spots_on, spot_ended, spot_spent}
use Rattle.kl_rows.proofs.looking.spot_of.Goals as goal

pub steps-init : goal.steps-init
steps-init c = spots_from _ c.requires.fine _ _ c.requires.there

pub row_at-requires : goal.row_at-requires
row_at-requires c = spots_row _ c.requires.fine _ _ _ _ c.steps.invariant

pub returns-in-Some : goal.returns-in-Some
returns-in-Some c =
    let fewer : length c.args.cells.now - c.steps.step ≡ suc (length c.args.cells.now - (c.steps.step + 1)) = omega arith in
    spot_here _ c.requires.fine _ _ _ _ c.steps.invariant _ _ _ _ _ c.row_at.ensures c.in-Front.is c.slice.ensures fewer _ (sym c.look.ensures ∙ c.in-Some.is)

pub steps-preserved : goal.steps-preserved
steps-preserved c =
    let fewer : length c.args.cells.now - c.steps.step ≡ suc (length c.args.cells.now - (c.steps.step + 1)) = omega arith in
    spots_on _ c.requires.fine _ _ _ _ c.steps.invariant _ _ _ _ _ c.row_at.ensures c.in-Front.is c.slice.ensures fewer (sym c.look.ensures ∙ c.in-None.is)

pub returns-in_default : goal.returns-in_default
returns-in_default c = spot_ended _ c.requires.fine _ _ _ _ c.steps.invariant _ c.row_at.ensures c.in_default.not-Front

pub returns : goal.returns
returns c = let none : length c.args.cells.now - c.steps.step ≤ 0 = omega arith in spot_spent _ c.requires.fine _ _ _ _ c.steps.invariant none
