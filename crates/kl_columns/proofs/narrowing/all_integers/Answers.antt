use Rattle.std.proofs.Common.{◌∙◌, ap, sym}
use Rattle.kl_flat.specs.Held.{text_at}
use Rattle.kl_type.specs.declared.ground.Ty.TheVariants as ty
use Rattle.kl_columns.specs.Narrowing.{reads_as}
use Rattle.kl_columns.proofs.Narrowed.{reads_more, reads_not}
use Rattle.kl_columns.proofs.narrowing.all_integers.Goals as goal

pub returns-then-not-is_integer : goal.returns-then-not-is_integer
returns-then-not-is_integer c =
    reads_not (reads_as ty.Int) (text_at c.args.texts.now) c.loop-at.at c.args.rows c.loop-at-test.true
    (ap (reads_as ty.Int) (sym c.get.ensures) ∙ sym c.is_integer.ensures ∙ c.if-not-is_integer.true)

pub loop-at-preserved : goal.loop-at-preserved
loop-at-preserved c =
    reads_more (reads_as ty.Int) (text_at c.args.texts.now) c.loop-at.at c.loop-at.invariant
    (ap (reads_as ty.Int) (sym c.get.ensures) ∙ sym c.is_integer.ensures ∙ c.if-not-is_integer.false)
