use Rattle.std.proofs.Common.{◌∙◌, ◌≤◌, length, sym, subst}
use Rattle.kl_infer.specs.Numbers.{limit}
use Rattle.kl_infer.specs.Rows.{CanPrint}
use Rattle.kl_infer.proofs.TreeLemmas.{scheme_can}
use Rattle.kl_infer.proofs.Writing.{too_long, fits_well}
use Rattle.kl_infer.proofs.printing.print_scheme.Goals as goal

pub write-requires : goal.write-requires
write-requires c = subst (λ ns. CanPrint ns c.args.s.now.root) (sym c.slice.ensures) (scheme_can c.args.s.now c.requires)

pub returns-then-full : goal.returns-then-full
returns-then-full c =
    too_long c.args.s.now c.slice.result.now c.new-page.result c.write.new.page c.slice.ensures c.new-page.ensures.seen c.new-page.ensures.out c.in_ok-write.ensures c.new-page.ensures.full c.if-full.true

pub returns : goal.returns
returns c =
    let w = fits_well c.args.s.now c.slice.result.now c.new-page.result c.write.new.page c.slice.ensures c.new-page.ensures.seen c.new-page.ensures.out c.in_ok-write.ensures c.if-full.false in
    (c.of.ensures ∙ w.0, subst (λ xs. length xs ≤ limit) (sym c.of.ensures) w.1)
