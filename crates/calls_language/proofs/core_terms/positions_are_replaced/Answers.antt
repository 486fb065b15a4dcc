use Rattle.std.proofs.Common.{rules, arith}
use Rattle.kl_core.specs.declared.term.Term.{the_lemmas}
use Rattle.calls_language.proofs.core_terms.positions_are_replaced.Goals as goal

pub subst-requires : goal.subst-requires
subst-requires g c = search (rules, the_lemmas, arith)
