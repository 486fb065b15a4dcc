use Rattle.kl_rows.proofs.Sureness.{a_block, block_types}
use Rattle.kl_rows.proofs.knowing.block.Goals as goal

pub returns-in-Front-clause-types : goal.returns-in-Front-clause-types
returns-in-Front-clause-types c = block_types _ _ _ _ _ _ c.requires.fine c.row_at.ensures c.in-Front.is c.slice.ensures

pub returns-in-Front-clause-exact : goal.returns-in-Front-clause-exact
returns-in-Front-clause-exact c = a_block _ _ _ _ _ _ _ c.row_at.ensures c.in-Front.is c.slice.ensures c.is_bare.ensures c.if-is_bare.true
