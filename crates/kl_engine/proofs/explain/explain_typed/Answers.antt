use Rattle.kl_engine.proofs.CountLemmas.{unrun_undone, unrun_asks, wanted_plan}
use Rattle.kl_engine.proofs.DoneLemmas.{wanted_done}
use Rattle.kl_engine.proofs.ExplainLemmas.{unrun_lines}
use Rattle.kl_engine.proofs.SizeLemmas.{all_within}
use Rattle.kl_engine.proofs.explain.explain_typed.Goals as goal

pub explain_term-requires-clause-small : goal.explain_term-requires-clause-small
explain_term-requires-clause-small g c = c.in-Ok.ensures.small c.requires.scope.0 _ c.requires.scope.1 (all_within _ c.requires.types.fits)

pub returns-in-Ok-clause-does : goal.returns-in-Ok-clause-does
returns-in-Ok-clause-does g c = c.explain_term.ensures.does

pub returns-in-Ok-clause-plan : goal.returns-in-Ok-clause-plan
returns-in-Ok-clause-plan g c = c.explain_term.ensures.plan

pub returns-in-Ok-clause-lines : goal.returns-in-Ok-clause-lines
returns-in-Ok-clause-lines g c = c.explain_term.ensures.lines

pub returns-in-Ok-clause-asks : goal.returns-in-Ok-clause-asks
returns-in-Ok-clause-asks g c = c.explain_term.ensures.asks

pub returns-in-Ok-clause-shows : goal.returns-in-Ok-clause-shows
returns-in-Ok-clause-shows g c = c.explain_term.ensures.shows

pub returns-in-Err-clause-does : goal.returns-in-Err-clause-does
returns-in-Err-clause-does g c = λ files. wanted_done _ files _ _

pub returns-in-Err-clause-plan : goal.returns-in-Err-clause-plan
returns-in-Err-clause-plan g c = wanted_plan _ _ c.requires.unrun

pub returns-in-Err-clause-lines : goal.returns-in-Err-clause-lines
returns-in-Err-clause-lines g c = unrun_lines _ _ _ _ c.requires.unrun

pub returns-in-Err-clause-asks : goal.returns-in-Err-clause-asks
returns-in-Err-clause-asks g c = unrun_asks _ _ c.requires.unrun

pub returns-in-Err-clause-shows : goal.returns-in-Err-clause-shows
returns-in-Err-clause-shows g c = unrun_undone _ _ c.requires.unrun
