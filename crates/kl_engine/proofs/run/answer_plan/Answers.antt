use Rattle.std.proofs.Common.{◌≡◌, ◌∙◌, false, sym, true}
use Rattle.kl_engine.proofs.TermLemmas.{as_list, as_value}
use Rattle.kl_engine.proofs.run.answer_plan.Goals as goal

pub returns-then-is_list-clause-prints : goal.returns-then-is_list-clause-prints
returns-then-is_list-clause-prints g c =
    λ files ks ss marks t runs list. as_list _ _ _ _ _ _ files _ _ _ _ c.if-is_list.true (c.print_list.ensures.prints files ks ss marks t runs (list c.if-is_list.true))

pub returns-else-is_list-clause-prints : goal.returns-else-is_list-clause-prints
returns-else-is_list-clause-prints g c = λ files ks ss marks t runs list. as_value _ _ _ _ _ _ files _ _ _ _ c.if-is_list.false (c.answer_value.ensures.prints files ks ss marks t runs)

pub returns-then-is_list-clause-spares : goal.returns-then-is_list-clause-spares
returns-then-is_list-clause-spares g c = λ is. c.print_list.ensures.spares

pub returns-else-is_list-clause-spares : goal.returns-else-is_list-clause-spares
returns-else-is_list-clause-spares g c = λ is. let both : true ≡ false = sym is ∙ c.if-is_list.false in absurd cc

pub returns-then-is_list-clause-none : goal.returns-then-is_list-clause-none
returns-then-is_list-clause-none g c = λ is. c.print_list.ensures.none

pub returns-else-is_list-clause-none : goal.returns-else-is_list-clause-none
returns-else-is_list-clause-none g c = λ is. let both : true ≡ false = sym is ∙ c.if-is_list.false in absurd cc
