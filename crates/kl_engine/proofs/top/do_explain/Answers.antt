use Rattle.kl_engine.specs.Planned.{how_in}
use Rattle.kl_engine.specs.declared.top.Purpose.TheVariants as purpose
use Rattle.kl_engine.proofs.CountLemmas.{unrun_undone, unrun_asks}
use Rattle.kl_engine.proofs.ExplainLemmas.{explains_command, refused_explanation, unrun_lines}
use Rattle.kl_engine.proofs.ProgramLemmas.{does_same, program_does, program_refused}
use Rattle.kl_engine.proofs.top.do_explain.Goals as goal

pub returns-in-Ok-clause-does : goal.returns-in-Ok-clause-does
returns-in-Ok-clause-does g c =
    program_does (purpose.Explain c.args.job.now.settings) _ _ _ c.in-Ok.inputs _ _ _ _ _ c.in-Ok.ensures (does_same _ _ (purpose.Explain c.args.job.now.settings) _ _ _ _ _ c.slice-in-Ok.ensures c.slice.ensures (c.explain.ensures.does _))

pub returns-in-Ok-clause-plan : goal.returns-in-Ok-clause-plan
returns-in-Ok-clause-plan g c =
    explains_command (how_in c.args.job.now) c.args.job.now.settings _ _ _ _ c.explain.new.ran.trace _ (g.S.Sink.state c.args.out.now) (g.S.Sink.state c.explain.new.out) _ c.in-Ok.inputs _ _ c.slice.ensures c.slice-in-Ok.ensures c.in-Ok.ensures c.explain.ensures.plan c.explain.ensures.shows

pub returns-in-Ok-clause-lines : goal.returns-in-Ok-clause-lines
returns-in-Ok-clause-lines g c = c.explain.ensures.lines

pub returns-in-Ok-clause-asks : goal.returns-in-Ok-clause-asks
returns-in-Ok-clause-asks g c = c.explain.ensures.asks

pub returns-in-Ok-clause-shows : goal.returns-in-Ok-clause-shows
returns-in-Ok-clause-shows g c = c.explain.ensures.shows

pub returns-in-Err-clause-does : goal.returns-in-Err-clause-does
returns-in-Err-clause-does g c = program_refused (purpose.Explain c.args.job.now.settings) _ _ _ c.in-Err.fault _ _ c.in-Err.ensures

pub returns-in-Err-clause-plan : goal.returns-in-Err-clause-plan
returns-in-Err-clause-plan g c = refused_explanation (how_in c.args.job.now) c.args.job.now.settings _ _ _ _ (g.S.Sink.state c.args.out.now) (g.S.Sink.state c.args.out.now) c.in-Err.fault _ c.requires.unrun c.in-Err.ensures

pub returns-in-Err-clause-lines : goal.returns-in-Err-clause-lines
returns-in-Err-clause-lines g c = unrun_lines _ _ _ _ c.requires.unrun

pub returns-in-Err-clause-asks : goal.returns-in-Err-clause-asks
returns-in-Err-clause-asks g c = unrun_asks _ _ c.requires.unrun

pub returns-in-Err-clause-shows : goal.returns-in-Err-clause-shows
returns-in-Err-clause-shows g c = unrun_undone _ _ c.requires.unrun
