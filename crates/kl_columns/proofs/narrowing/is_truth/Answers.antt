use Rattle.std.proofs.Common.{◌∙◌, ◌||◌, ap, codes, nat_eq, sym}
use Rattle.std.specs.Cmp.Lexicographic.{pointwise}
use Rattle.kl_columns.proofs.Narrowed.{truth_reads}
use Rattle.kl_columns.proofs.narrowing.is_truth.Goals as goal

pub returns-then-eq : goal.returns-then-eq
returns-then-eq c =
    let told = c.eq.ensures ∙ ap (pointwise nat_eq c.args.cell.now) c.as_slice.ensures in
    c.if-eq.true ∙ ap (λ b. b || pointwise nat_eq c.args.cell.now (codes "false")) (sym c.if-eq.true ∙ told) ∙ sym (truth_reads c.args.cell.now)

pub returns-else-eq : goal.returns-else-eq
returns-else-eq c =
    let told = c.eq.ensures ∙ ap (pointwise nat_eq c.args.cell.now) c.as_slice.ensures in
    c.eq-else-eq.ensures ∙ ap (pointwise nat_eq c.args.cell.now) c.as_slice-else-eq.ensures
    ∙ ap (λ b. b || pointwise nat_eq c.args.cell.now (codes "false")) (sym c.if-eq.false ∙ told) ∙ sym (truth_reads c.args.cell.now)
