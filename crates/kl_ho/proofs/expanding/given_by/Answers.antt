use Rattle.std.proofs.Common.{◌≡◌, [], Some, ap, subst, append-nil}
use Rattle.std.proofs.lemmas.List.{drop_all}
use Rattle.kl_syntax.specs.View.{fields_view}
use Rattle.kl_ho.specs.Highers.{given_by}
use Rattle.kl_ho.proofs.expanding.given_by.Goals as goal

pub returns : goal.returns
returns c =
    subst (λ z. given_by c.args.handed.now (fields_view c.args.fields.now) c.args.funs.now ≡ Some z) (append-nil c.loop-field.given.items)
    (c.loop-field.invariant [] (ap (λ z. given_by z (fields_view c.args.fields.now) c.args.funs.now) (drop_all c.loop-field.field-index c.args.handed.now c.loop-field-test.false)))
