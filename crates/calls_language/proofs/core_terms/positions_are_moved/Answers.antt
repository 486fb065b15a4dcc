use Rattle.std.proofs.Common.{rules, arith}
use Rattle.kl_core.specs.declared.term.Term.{the_lemmas}
use Rattle.calls_language.proofs.core_terms.positions_are_moved.Goals as goal

pub shift-requires : goal.shift-requires
shift-requires g c = search (rules, the_lemmas, arith)
