use Rattle.kl_engine.proofs.CountLemmas.{unrun_undone, unrun_asks, untyped_plan}
use Rattle.kl_engine.proofs.DoneLemmas.{untyped_explained}
use Rattle.kl_engine.proofs.ExplainLemmas.{unrun_lines}
use Rattle.kl_engine.proofs.explain.explain_program.Goals as goal

pub returns-in-Ok-clause-does : goal.returns-in-Ok-clause-does
returns-in-Ok-clause-does g c = c.explain_typed.ensures.does

pub returns-in-Ok-clause-plan : goal.returns-in-Ok-clause-plan
returns-in-Ok-clause-plan g c = c.explain_typed.ensures.plan

pub returns-in-Ok-clause-lines : goal.returns-in-Ok-clause-lines
returns-in-Ok-clause-lines g c = c.explain_typed.ensures.lines

pub returns-in-Ok-clause-asks : goal.returns-in-Ok-clause-asks
returns-in-Ok-clause-asks g c = c.explain_typed.ensures.asks

pub returns-in-Ok-clause-shows : goal.returns-in-Ok-clause-shows
returns-in-Ok-clause-shows g c = c.explain_typed.ensures.shows

pub returns-in-Err-clause-does : goal.returns-in-Err-clause-does
returns-in-Err-clause-does g c = λ files. untyped_explained c.args.sources.now _ _ _ files _ c.args.settings c.in-Err.fault _ c.in-Err.ensures

pub returns-in-Err-clause-plan : goal.returns-in-Err-clause-plan
returns-in-Err-clause-plan g c = untyped_plan _ _ _ _ c.in-Err.fault _ c.requires.unrun c.in-Err.ensures

pub returns-in-Err-clause-lines : goal.returns-in-Err-clause-lines
returns-in-Err-clause-lines g c = unrun_lines _ _ _ _ c.requires.unrun

pub returns-in-Err-clause-asks : goal.returns-in-Err-clause-asks
returns-in-Err-clause-asks g c = unrun_asks _ _ c.requires.unrun

pub returns-in-Err-clause-shows : goal.returns-in-Err-clause-shows
returns-in-Err-clause-shows g c = unrun_undone _ _ c.requires.unrun
