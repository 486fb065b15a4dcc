use Rattle.kl_engine.specs.declared.top.Purpose.TheVariants as purpose
use Rattle.kl_engine.proofs.CountLemmas.{unread_plan, unrun_undone, unrun_asks}
use Rattle.kl_engine.proofs.DoneLemmas.{done_program, unread}
use Rattle.kl_engine.proofs.ExplainLemmas.{explains_text, unrun_lines}
use Rattle.kl_engine.proofs.explain.explain.Goals as goal

pub explain_program-requires-clause-scope : goal.explain_program-requires-clause-scope
explain_program-requires-clause-scope g c = (c.in-Ok.ensures.0, c.in-Ok.ensures.2)

pub returns-in-Ok-clause-does : goal.returns-in-Ok-clause-does
returns-in-Ok-clause-does g c =
    λ files. done_program _ (purpose.Explain c.args.settings) _ c.in-Ok.scoped _ files _ _ _ _ c.in-Ok.ensures (c.explain_program.ensures.does files)

pub returns-in-Ok-clause-plan : goal.returns-in-Ok-clause-plan
returns-in-Ok-clause-plan g c = explains_text c.args.settings _ c.args.sources.now c.args.text.now c.in-Ok.scoped _ _ _ c.in-Ok.ensures c.explain_program.ensures.plan

pub returns-in-Ok-clause-lines : goal.returns-in-Ok-clause-lines
returns-in-Ok-clause-lines g c = c.explain_program.ensures.lines

pub returns-in-Ok-clause-asks : goal.returns-in-Ok-clause-asks
returns-in-Ok-clause-asks g c = c.explain_program.ensures.asks

pub returns-in-Ok-clause-shows : goal.returns-in-Ok-clause-shows
returns-in-Ok-clause-shows g c = c.explain_program.ensures.shows

pub returns-in-Err-clause-does : goal.returns-in-Err-clause-does
returns-in-Err-clause-does g c = λ files. unread _ (purpose.Explain c.args.settings) _ c.in-Err.fault files _ _ c.in-Err.ensures

pub returns-in-Err-clause-plan : goal.returns-in-Err-clause-plan
returns-in-Err-clause-plan g c = unread_plan _ _ _ c.in-Err.fault _ c.requires.unrun c.in-Err.ensures

pub returns-in-Err-clause-lines : goal.returns-in-Err-clause-lines
returns-in-Err-clause-lines g c = unrun_lines _ _ _ _ c.requires.unrun

pub returns-in-Err-clause-asks : goal.returns-in-Err-clause-asks
returns-in-Err-clause-asks g c = unrun_asks _ _ c.requires.unrun

pub returns-in-Err-clause-shows : goal.returns-in-Err-clause-shows
returns-in-Err-clause-shows g c = unrun_undone _ _ c.requires.unrun
