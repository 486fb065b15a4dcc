use Rattle.std.proofs.Common.{◌≡◌, ◌∷◌, length, sym, ap, ◌∙◌, subst, arith}
use Rattle.kl_syntax.specs.declared.tree.Expr.TheVariants as expr
use Rattle.kl_syntax.specs.View.{view, exps_view}
use Rattle.kl_ho.specs.Plain.{called_parameter}
use Rattle.kl_functions.specs.Occurrences.{OnOk}
use Rattle.kl_functions.proofs.Copying.{many_called}
use Rattle.kl_functions.proofs.plain.parameter_call.Goals as goal

pub returns : goal.returns
returns c =
    subst (λ z. OnOk z (λ y. view (expr.Call c.in_ok-word_copy.field-0 c.of.result) ≡ called_parameter c.args.word.now (exps_view y))) (sym c.in_ok-args.was)
    (ap (λ w. view (expr.Call w c.of.result)) c.in_ok-word_copy.ensures
    ∙ many_called c.args.word.now c.in_ok-args.field-0 c.of.result c.constant.result (λ e. let l : length c.into_vec-args.result.items ≡ length c.in_ok-args.field-0 = ap (λ z. length z) c.into_vec-args.ensures in omega arith) c.constant.ensures
    (c.of.ensures ∙ c.in_ok-insert.ensures.items ∙ ap (λ z. c.constant.result ∷ z) c.into_vec-args.ensures))
