use Rattle.std.proofs.Common.{refl, subst}
use Rattle.kl_scope.specs.Breaches.{is_marked}
use Rattle.kl_syntax.specs.View.{view, decls_of}
use Rattle.kl_desugar.specs.Mentioned.{ReadsMentioned}
use Rattle.kl_engine.proofs.CountLemmas.{planned_some, unrun_shown, unrun_asks, wanted_plan}
use Rattle.kl_engine.proofs.MeaningLemmas.{meaning_wanted, planned_sense}
use Rattle.kl_engine.proofs.PlanLemmas.{translated_plan}
use Rattle.kl_engine.proofs.RewriteLemmas.{keeps_from}
use Rattle.kl_engine.proofs.run.answer_translated.Goals as goal

pub planned-requires-clause-sense : goal.planned-requires-clause-sense
planned-requires-clause-sense g c =
    rw c.deref.ensures.value
    (planned_sense c.args.sources.items c.args.scoped.now _ c.requires.scope c.args.typed.now c.requires.types c.requires.placed.proper _ _ refl
    (keeps_from c.args.how.settings.rewrite _ _ _ _ c.requires.term c.in-Ok.ensures.rewritten))

pub answer_over-result-requires-clause-planned : goal.answer_over-result-requires-clause-planned
answer_over-result-requires-clause-planned g c = (_, rw c.deref.ensures.value at c.in-Ok-planned.ensures.plan, keeps_from c.args.how.settings.rewrite _ _ _ _ c.requires.term c.in-Ok.ensures.rewritten)

pub answer_over-result-requires-clause-mentioned : goal.answer_over-result-requires-clause-mentioned
answer_over-result-requires-clause-mentioned g c = subst (λ t. ReadsMentioned c.args.scoped.now t) c.requires.term c.requires.mentioned

pub answer_over-result-requires-clause-traced : goal.answer_over-result-requires-clause-traced
answer_over-result-requires-clause-traced g c = (_, c.in-Ok-planned.ensures.trace)

pub returns-in-Ok-planned-clause-does : goal.returns-in-Ok-planned-clause-does
returns-in-Ok-planned-clause-does g c = c.answer_over-result.ensures.does

pub returns-in-Ok-planned-clause-plan : goal.returns-in-Ok-planned-clause-plan
returns-in-Ok-planned-clause-plan g c =
    translated_plan c.args.how c.args.sources.items (is_marked c.args.scoped.now) (decls_of c.args.scoped.now.program.defs) (view c.args.scoped.now.program.last) c.args.scoped.now.sources _ _ _ _ _ _ _ _ _ _
    c.requires.placed (rw c.deref.ensures.value at c.in-Ok-planned.ensures.plan) c.in-Ok-planned.ensures.trace c.answer_over-result.ensures.steps _ c.requires.term c.in-Ok.ensures.rewritten c.answer_over-result.ensures.late c.answer_over-result.ensures.counts

pub returns-in-Ok-planned-clause-asks : goal.returns-in-Ok-planned-clause-asks
returns-in-Ok-planned-clause-asks g c = c.answer_over-result.ensures.asks

pub returns-in-Ok-planned-clause-shows : goal.returns-in-Ok-planned-clause-shows
returns-in-Ok-planned-clause-shows g c =
    c.answer_over-result.ensures.shows

pub returns-in-Err-planned-clause-does : goal.returns-in-Err-planned-clause-does
returns-in-Err-planned-clause-does g c = λ files. meaning_wanted c.args.sources.items (is_marked c.args.scoped.now) _ (decls_of c.args.scoped.now.program.defs) (view c.args.scoped.now.program.last) files _ _

pub returns-in-Err-planned-clause-plan : goal.returns-in-Err-planned-clause-plan
returns-in-Err-planned-clause-plan g c = wanted_plan _ _ c.requires.unrun

pub returns-in-Err-planned-clause-asks : goal.returns-in-Err-planned-clause-asks
returns-in-Err-planned-clause-asks g c = unrun_asks _ _ c.requires.unrun

pub returns-in-Err-planned-clause-shows : goal.returns-in-Err-planned-clause-shows
returns-in-Err-planned-clause-shows g c = unrun_shown _ _ c.requires.unrun

pub returns-in-Err-clause-does : goal.returns-in-Err-clause-does
returns-in-Err-clause-does g c = λ files. meaning_wanted c.args.sources.items (is_marked c.args.scoped.now) _ (decls_of c.args.scoped.now.program.defs) (view c.args.scoped.now.program.last) files _ _

pub returns-in-Err-clause-plan : goal.returns-in-Err-clause-plan
returns-in-Err-clause-plan g c = wanted_plan _ _ c.requires.unrun

pub returns-in-Err-clause-asks : goal.returns-in-Err-clause-asks
returns-in-Err-clause-asks g c = unrun_asks _ _ c.requires.unrun

pub returns-in-Err-clause-shows : goal.returns-in-Err-clause-shows
returns-in-Err-clause-shows g c = unrun_shown _ _ c.requires.unrun

pub returns-in-Ok-planned-clause-silent : goal.returns-in-Ok-planned-clause-silent
returns-in-Ok-planned-clause-silent g c = planned_some _ _

pub returns-in-Err-planned-clause-silent : goal.returns-in-Err-planned-clause-silent
returns-in-Err-planned-clause-silent g c = λ none. refl

pub returns-in-Err-clause-silent : goal.returns-in-Err-clause-silent
returns-in-Err-clause-silent g c = λ none. refl
