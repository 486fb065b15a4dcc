use Rattle.std.proofs.Common.{◌++◌, ap, ◌∙◌, append_assoc}
use Rattle.kl_syntax.specs.View.{patterns_view}
use Rattle.kl_scope.specs.Patterns.{rest_variable, variables_all}
use Rattle.kl_scope.specs.Senses.{behind_each}
use Rattle.kl_scope.proofs.ArmLemmas.{variables_rec, if_ok}
use Rattle.kl_scope.proofs.patterns.+variables.Goals as goal

pub variables-returns-in_ok-variables_all-in-Rec : goal.variables-returns-in_ok-variables_all-in-Rec
variables-returns-in_ok-variables_all-in-Rec t c =
    if_ok c.rest_variable.result (λ k. k ∙ ap (λ ws. ws ++ rest_variable c.in-Rec.tail) c.in_ok-variables_all-in-Rec.ensures ∙ append_assoc (behind_each c.args.words.now.items) (variables_all (patterns_view c.slice.result.now)) (rest_variable c.in-Rec.tail)
    ∙ ap (λ ws. behind_each c.args.words.now.items ++ ws) (variables_rec c.args.pattern.now c.in-Rec.fields c.slice.result.now c.in-Rec.tail c.in-Rec.is c.slice.ensures)) c.rest_variable.ensures
