use Rattle.std.proofs.Common.{ap, ◌∙◌}
use Rattle.kl_syntax.specs.declared.tree.Word.{Word}
use Rattle.kl_ho.proofs.Renaming.{insert_first, exact_tail, open_tail, rest_tail}
use Rattle.kl_ho.proofs.expanding.new_tail.Goals as goal

pub returns-in-Exact-clause-becomes : goal.returns-in-Exact-clause-becomes
returns-in-Exact-clause-becomes c = exact_tail _ _ _ c.in-Exact.is

pub returns-in-Open-clause-becomes : goal.returns-in-Open-clause-becomes
returns-in-Open-clause-becomes c = open_tail _ _ _ c.in-Open.is

pub returns-in_ok-insert-in-Rest-clause-becomes : goal.returns-in_ok-insert-in-Rest-clause-becomes
returns-in_ok-insert-in-Rest-clause-becomes c =
    rest_tail c.args.t.now.base.now _ _ _ _ _ c.in-Rest.is (ap (λ (w : Word). w.text) c.word_of.ensures ∙ c.in_ok-text-in-Rest.ensures) (insert_first _ _ _ _ c.in_ok-insert-in-Rest.ensures.items c.in_ok-dup-in-Rest.ensures)
