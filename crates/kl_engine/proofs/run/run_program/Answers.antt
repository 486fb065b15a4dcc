use Rattle.std.proofs.Common.{Ok, Err, refl}
use Rattle.kl_engine.proofs.CountLemmas.{unrun_shown, unrun_asks, untyped_plan}
use Rattle.kl_engine.proofs.DoneLemmas.{answered, types_sources, untyped_run}
use Rattle.kl_engine.proofs.run.run_program.Goals as goal

pub answer-requires-clause-types : goal.answer-requires-clause-types
answer-requires-clause-types g c = types_sources c.deref.result.now c.args.sources.items _ _ (Ok c.in-Ok.typed) c.deref.ensures.value c.in-Ok.ensures

pub returns-in-Ok-clause-does : goal.returns-in-Ok-clause-does
returns-in-Ok-clause-does g c =
    λ files. answered c.args.sources.items _ _ _ files _ _ c.in-Ok.typed _ _ _ _ (types_sources c.deref.result.now c.args.sources.items _ _ (Ok c.in-Ok.typed) c.deref.ensures.value c.in-Ok.ensures) (c.answer.ensures.does files)

pub returns-in-Ok-clause-plan : goal.returns-in-Ok-clause-plan
returns-in-Ok-clause-plan g c = c.answer.ensures.plan

pub returns-in-Ok-clause-asks : goal.returns-in-Ok-clause-asks
returns-in-Ok-clause-asks g c = c.answer.ensures.asks

pub returns-in-Ok-clause-shows : goal.returns-in-Ok-clause-shows
returns-in-Ok-clause-shows g c = c.answer.ensures.shows

pub returns-in-Err-clause-does : goal.returns-in-Err-clause-does
returns-in-Err-clause-does g c =
    λ files. untyped_run c.args.sources.items _ _ _ files _ _ c.in-Err.fault _ (types_sources c.deref.result.now c.args.sources.items _ _ (Err c.in-Err.fault) c.deref.ensures.value c.in-Err.ensures)

pub returns-in-Err-clause-plan : goal.returns-in-Err-clause-plan
returns-in-Err-clause-plan g c = untyped_plan _ _ _ _ c.in-Err.fault _ c.requires.unrun c.in-Err.ensures

pub returns-in-Err-clause-asks : goal.returns-in-Err-clause-asks
returns-in-Err-clause-asks g c = unrun_asks _ _ c.requires.unrun

pub returns-in-Err-clause-shows : goal.returns-in-Err-clause-shows
returns-in-Err-clause-shows g c = unrun_shown _ _ c.requires.unrun

pub returns-in-Ok-clause-silent : goal.returns-in-Ok-clause-silent
returns-in-Ok-clause-silent g c = c.answer.ensures.silent

pub returns-in-Err-clause-silent : goal.returns-in-Err-clause-silent
returns-in-Err-clause-silent g c = λ none. refl
