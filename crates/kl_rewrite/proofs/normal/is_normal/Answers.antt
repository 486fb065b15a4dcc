use Rattle.kl_core.specs.Trees.{view}
use Rattle.kl_rewrite.proofs.Walks.{tells_normal}
use Rattle.kl_rewrite.proofs.normal.is_normal.Goals as goal

pub returns : goal.returns
returns c = tells_normal c.args.term.now c.in_ok-copy.copy (view c.advance.new.term) c.in_ok-stepped.stepped c.advance.new.self c.in_ok-copy.ensures c.in_ok-stepped.ensures
