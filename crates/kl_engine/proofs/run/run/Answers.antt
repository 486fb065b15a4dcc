use Rattle.std.proofs.Common.{Ok, Err, refl}
use Rattle.kl_engine.specs.declared.top.Purpose.TheVariants as purpose
use Rattle.kl_engine.proofs.CountLemmas.{text_plan, unread_plan, unrun_shown, unrun_asks}
use Rattle.kl_engine.proofs.DoneLemmas.{done_program, reads_sources, unread}
use Rattle.kl_engine.proofs.run.run.Goals as goal

pub run_program-requires-clause-scope : goal.run_program-requires-clause-scope
run_program-requires-clause-scope g c =
    let reads = reads_sources c.deref.result.now c.args.sources.items c.args.text.now (Ok c.in-Ok.scoped) c.deref.ensures.value c.in-Ok.ensures in
    (reads.0, reads.2)

pub returns-in-Ok-clause-does : goal.returns-in-Ok-clause-does
returns-in-Ok-clause-does g c =
    λ files. done_program _ (purpose.Run c.args.how.first) _ c.in-Ok.scoped _ files _ _ _ _
    (reads_sources c.deref.result.now c.args.sources.items _ (Ok c.in-Ok.scoped) c.deref.ensures.value c.in-Ok.ensures) (c.run_program.ensures.does files)

pub returns-in-Ok-clause-plan : goal.returns-in-Ok-clause-plan
returns-in-Ok-clause-plan g c =
    text_plan c.args.how c.args.sources.items c.args.text.now c.in-Ok.scoped _ _ _ _
    (reads_sources c.deref.result.now c.args.sources.items _ (Ok c.in-Ok.scoped) c.deref.ensures.value c.in-Ok.ensures) c.run_program.ensures.plan

pub returns-in-Ok-clause-asks : goal.returns-in-Ok-clause-asks
returns-in-Ok-clause-asks g c = c.run_program.ensures.asks

pub returns-in-Ok-clause-shows : goal.returns-in-Ok-clause-shows
returns-in-Ok-clause-shows g c = c.run_program.ensures.shows

pub returns-in-Err-clause-does : goal.returns-in-Err-clause-does
returns-in-Err-clause-does g c =
    λ files. unread _ (purpose.Run c.args.how.first) _ c.in-Err.fault files _ _
    (reads_sources c.deref.result.now c.args.sources.items _ (Err c.in-Err.fault) c.deref.ensures.value c.in-Err.ensures)

pub returns-in-Err-clause-plan : goal.returns-in-Err-clause-plan
returns-in-Err-clause-plan g c = unread_plan _ _ _ c.in-Err.fault _ c.requires.unrun c.in-Err.ensures

pub returns-in-Err-clause-asks : goal.returns-in-Err-clause-asks
returns-in-Err-clause-asks g c = unrun_asks _ _ c.requires.unrun

pub returns-in-Err-clause-shows : goal.returns-in-Err-clause-shows
returns-in-Err-clause-shows g c = unrun_shown _ _ c.requires.unrun

pub returns-in-Ok-clause-silent : goal.returns-in-Ok-clause-silent
returns-in-Ok-clause-silent g c = c.run_program.ensures.silent

pub returns-in-Err-clause-silent : goal.returns-in-Err-clause-silent
returns-in-Err-clause-silent g c = λ none. refl
