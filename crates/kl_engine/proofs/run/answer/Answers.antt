use Rattle.std.proofs.Common.{refl}
use Rattle.kl_scope.specs.Breaches.{is_marked}
use Rattle.kl_syntax.specs.View.{view, decls_of}
use Rattle.kl_engine.proofs.CountLemmas.{unrun_shown, unrun_asks, wanted_plan}
use Rattle.kl_engine.proofs.MeaningLemmas.{meaning_wanted}
use Rattle.kl_engine.proofs.SizeLemmas.{all_within}
use Rattle.kl_engine.proofs.run.answer.Goals as goal

pub answer_translated-requires-clause-small : goal.answer_translated-requires-clause-small
answer_translated-requires-clause-small g c = c.in-Ok.ensures.small c.requires.scope.0 _ c.requires.scope.1 (all_within _ c.requires.types.fits)

pub returns-in-Ok-clause-does : goal.returns-in-Ok-clause-does
returns-in-Ok-clause-does g c = c.answer_translated.ensures.does

pub returns-in-Ok-clause-plan : goal.returns-in-Ok-clause-plan
returns-in-Ok-clause-plan g c = c.answer_translated.ensures.plan

pub returns-in-Ok-clause-asks : goal.returns-in-Ok-clause-asks
returns-in-Ok-clause-asks g c = c.answer_translated.ensures.asks

pub returns-in-Ok-clause-shows : goal.returns-in-Ok-clause-shows
returns-in-Ok-clause-shows g c = c.answer_translated.ensures.shows

pub returns-in-Err-clause-does : goal.returns-in-Err-clause-does
returns-in-Err-clause-does g c = λ files. meaning_wanted c.args.sources.items (is_marked c.args.scoped.now) _ (decls_of c.args.scoped.now.program.defs) (view c.args.scoped.now.program.last) files _ _

pub returns-in-Err-clause-plan : goal.returns-in-Err-clause-plan
returns-in-Err-clause-plan g c = wanted_plan _ _ c.requires.unrun

pub returns-in-Err-clause-asks : goal.returns-in-Err-clause-asks
returns-in-Err-clause-asks g c = unrun_asks _ _ c.requires.unrun

pub returns-in-Err-clause-shows : goal.returns-in-Err-clause-shows
returns-in-Err-clause-shows g c = unrun_shown _ _ c.requires.unrun

pub returns-in-Ok-clause-silent : goal.returns-in-Ok-clause-silent
returns-in-Ok-clause-silent g c = c.answer_translated.ensures.silent

pub returns-in-Err-clause-silent : goal.returns-in-Err-clause-silent
returns-in-Err-clause-silent g c = λ none. refl
