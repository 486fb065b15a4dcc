use Rattle.std.proofs.Common.{refl}
use Rattle.kl_engine.specs.Planned.{how_in}
use Rattle.kl_engine.specs.declared.top.Purpose.TheVariants as purpose
use Rattle.kl_engine.proofs.CountLemmas.{command_plan, refused_plan, unrun_shown, unrun_asks}
use Rattle.kl_engine.proofs.ProgramLemmas.{does_same, no_files, program_does, program_refused}
use Rattle.kl_engine.proofs.top.do_run.Goals as goal

pub returns-in-Ok-clause-does : goal.returns-in-Ok-clause-does
returns-in-Ok-clause-does g c =
    program_does (purpose.Run c.args.job.now.first) _ _ _ c.in-Ok.field-0 _ _ _ _ _ c.in-Ok.ensures (does_same _ _ (purpose.Run c.args.job.now.first) _ _ _ _ _ c.into_vec.ensures c.slice.ensures (c.run.ensures.does _))

pub returns-in-Ok-clause-plan : goal.returns-in-Ok-clause-plan
returns-in-Ok-clause-plan g c = command_plan (how_in c.args.job.now) _ _ _ _ c.run.new.ran.trace _ _ _ _ _ c.in-Ok.field-0 _ _ c.slice.ensures c.into_vec.ensures c.in-Ok.ensures (c.run.ensures.does no_files) c.run.ensures.plan

pub returns-in-Ok-clause-asks : goal.returns-in-Ok-clause-asks
returns-in-Ok-clause-asks g c = c.run.ensures.asks

pub returns-in-Ok-clause-shows : goal.returns-in-Ok-clause-shows
returns-in-Ok-clause-shows g c = c.run.ensures.shows

pub returns-in-Err-clause-does : goal.returns-in-Err-clause-does
returns-in-Err-clause-does g c = program_refused (purpose.Run c.args.job.now.first) _ _ _ c.in-Err.fault _ _ c.in-Err.ensures

pub returns-in-Err-clause-plan : goal.returns-in-Err-clause-plan
returns-in-Err-clause-plan g c = refused_plan (how_in c.args.job.now) _ _ _ _ _ _ _ c.in-Err.fault _ c.requires.unrun c.in-Err.ensures

pub returns-in-Err-clause-asks : goal.returns-in-Err-clause-asks
returns-in-Err-clause-asks g c = unrun_asks _ _ c.requires.unrun

pub returns-in-Err-clause-shows : goal.returns-in-Err-clause-shows
returns-in-Err-clause-shows g c = unrun_shown _ _ c.requires.unrun

pub returns-in-Ok-clause-silent : goal.returns-in-Ok-clause-silent
returns-in-Ok-clause-silent g c = c.run.ensures.silent

pub returns-in-Err-clause-silent : goal.returns-in-Err-clause-silent
returns-in-Err-clause-silent g c = λ none. refl
