use Rattle.std.proofs.Common.{◌∙◌, ap, sym}
use Rattle.kl_flat.specs.Held.{text_at}
use Rattle.kl_type.specs.declared.ground.Ty.TheVariants as ty
use Rattle.kl_columns.specs.Narrowing.{reads_as}
use Rattle.kl_columns.proofs.Narrowed.{reads_more, reads_not}
use Rattle.kl_columns.proofs.narrowing.all_truths.Goals as goal

pub returns-then-not-is_truth : goal.returns-then-not-is_truth
returns-then-not-is_truth c =
    reads_not (reads_as ty.Bool) (text_at c.args.texts.now) c.loop-at.at c.args.rows c.loop-at-test.true
    (ap (reads_as ty.Bool) (sym c.get.ensures) ∙ sym c.is_truth.ensures ∙ c.if-not-is_truth.true)

pub loop-at-preserved : goal.loop-at-preserved
loop-at-preserved c =
    reads_more (reads_as ty.Bool) (text_at c.args.texts.now) c.loop-at.at c.loop-at.invariant
    (ap (reads_as ty.Bool) (sym c.get.ensures) ∙ sym c.is_truth.ensures ∙ c.if-not-is_truth.false)
