use Rattle.std.proofs.Common.{None, refl, subst}
use Rattle.kl_ask.specs.declared.settings.Settings.{Settings}
use Rattle.kl_engine.specs.Commands.{Made}
use Rattle.kl_engine.specs.Planned.{IsShown, plan_in, usual_how}
use Rattle.kl_engine.specs.declared.top.Purpose.TheVariants as purpose
use Rattle.kl_engine.proofs.CountLemmas.{made_plan, refused_plan, unrun_shown, unrun_asks}
use Rattle.kl_engine.proofs.ProgramLemmas.{does_same, no_files, program_does, program_refused}
use Rattle.kl_engine.proofs.top.do_gen.Goals as goal

pub run-requires-clause-few : goal.run-requires-clause-few
run-requires-clause-few g c = rw c.slice.ensures ((c.in-Ok.ensures no_files).few)

pub run-requires-clause-placed : goal.run-requires-clause-placed
run-requires-clause-placed g c = rw c.into_vec.ensures ((c.in-Ok.ensures no_files).placed)

pub returns-in-Ok-clause-does : goal.returns-in-Ok-clause-does
returns-in-Ok-clause-does g c = λ files.
    program_does (purpose.Run None) (Made c.args.seed c.args.size) files files c.in-Ok.field-0 _ _ _ _ _ (c.in-Ok.ensures files) (does_same _ _ (purpose.Run None) _ _ _ _ _ c.into_vec.ensures c.slice.ensures (c.run.ensures.does files))

pub returns-in-Ok-clause-plan : goal.returns-in-Ok-clause-plan
returns-in-Ok-clause-plan g c = λ files.
    made_plan c.usual.result c.args.seed c.args.size files _ c.run.new.ran.trace _ _ _ _ _ c.in-Ok.field-0 _ _ c.usual.ensures c.slice.ensures c.into_vec.ensures (c.in-Ok.ensures files) (c.run.ensures.does no_files) c.run.ensures.plan

pub returns-in-Ok-clause-asks : goal.returns-in-Ok-clause-asks
returns-in-Ok-clause-asks g c = c.run.ensures.asks

pub returns-in-Ok-clause-shows : goal.returns-in-Ok-clause-shows
returns-in-Ok-clause-shows g c =
    subst (λ (s : Settings). IsShown s.block (plan_in c.run.new.ran.plan) c.run.new.ran.trace) c.usual.ensures c.run.ensures.shows

pub returns-in-Err-clause-does : goal.returns-in-Err-clause-does
returns-in-Err-clause-does g c = λ files. program_refused (purpose.Run None) (Made c.args.seed c.args.size) files files c.in-Err.fault _ _ (c.in-Err.ensures files)

pub returns-in-Err-clause-plan : goal.returns-in-Err-clause-plan
returns-in-Err-clause-plan g c = λ files. refused_plan usual_how (Made c.args.seed c.args.size) files files _ _ _ _ c.in-Err.fault _ c.requires.unrun (c.in-Err.ensures files)

pub returns-in-Err-clause-asks : goal.returns-in-Err-clause-asks
returns-in-Err-clause-asks g c = unrun_asks _ _ c.requires.unrun

pub returns-in-Err-clause-shows : goal.returns-in-Err-clause-shows
returns-in-Err-clause-shows g c = unrun_shown _ _ c.requires.unrun

pub returns-in-Ok-clause-silent : goal.returns-in-Ok-clause-silent
returns-in-Ok-clause-silent g c = c.run.ensures.silent

pub returns-in-Err-clause-silent : goal.returns-in-Err-clause-silent
returns-in-Err-clause-silent g c = λ none. refl
