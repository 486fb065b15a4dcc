use Rattle.std.proofs.Common.{refl}
use Rattle.kl_scope.specs.Breaches.{is_marked}
use Rattle.kl_syntax.specs.View.{view, decls_of}
use Rattle.kl_engine.proofs.CountLemmas.{unrun_undone, unrun_asks, wanted_plan}
use Rattle.kl_engine.proofs.DoneLemmas.{explained_done, wanted_done}
use Rattle.kl_engine.proofs.ExplainLemmas.{explains_undone, explains_asks, explains_term, explanation, unrun_lines}
use Rattle.kl_engine.proofs.MeaningLemmas.{planned_sense}
use Rattle.kl_engine.proofs.RewriteLemmas.{keeps_from}
use Rattle.kl_engine.proofs.explain.explain_term.Goals as goal

pub planned-requires-clause-sense : goal.planned-requires-clause-sense
planned-requires-clause-sense g c =
    planned_sense c.args.sources.now c.args.scoped.now _ c.requires.scope c.args.typed.now c.requires.types.infers c.requires.placed.proper _ _ refl
    (keeps_from c.args.settings.rewrite _ _ _ _ c.requires.term c.in-Ok.ensures.rewritten)

pub returns-in-Ok-planned-clause-does : goal.returns-in-Ok-planned-clause-does
returns-in-Ok-planned-clause-does g c =
    λ files. explained_done c.args.sources.now (is_marked c.args.scoped.now) (decls_of c.args.scoped.now.program.defs) (view c.args.scoped.now.program.last) files _ c.args.settings c.args.typed.now _ _ _ _ c.requires.types
    (explanation c.args.settings c.args.sources.now _ (decls_of c.args.scoped.now.program.defs) (view c.args.scoped.now.program.last) c.args.scoped.now.sources _ _ _ _ _ c.requires.placed c.in-Ok-planned.ensures.plan c.in-Ok-planned.ensures.trace c.requires.term c.in-Ok.ensures.rewritten c.requires.scope.1.sources_kept) c.print_plan-result.ensures

pub returns-in-Ok-planned-clause-plan : goal.returns-in-Ok-planned-clause-plan
returns-in-Ok-planned-clause-plan g c =
    explains_term c.args.settings c.args.sources.now _ (decls_of c.args.scoped.now.program.defs) (view c.args.scoped.now.program.last) c.args.scoped.now.sources _ _ _ _ _ c.requires.placed c.in-Ok-planned.ensures.plan c.in-Ok-planned.ensures.trace c.requires.term c.in-Ok.ensures.rewritten _ _ _ c.print_plan-result.ensures

pub returns-in-Ok-planned-clause-lines : goal.returns-in-Ok-planned-clause-lines
returns-in-Ok-planned-clause-lines g c = c.print_plan-result.ensures

pub returns-in-Ok-planned-clause-asks : goal.returns-in-Ok-planned-clause-asks
returns-in-Ok-planned-clause-asks g c =
    explains_asks c.args.settings c.args.sources.now _ (decls_of c.args.scoped.now.program.defs) (view c.args.scoped.now.program.last) c.args.scoped.now.sources _ _ _ _ _ c.requires.placed c.in-Ok-planned.ensures.plan c.in-Ok-planned.ensures.trace c.requires.term c.in-Ok.ensures.rewritten

pub returns-in-Ok-planned-clause-shows : goal.returns-in-Ok-planned-clause-shows
returns-in-Ok-planned-clause-shows g c =
    explains_undone c.args.settings c.args.sources.now _ (decls_of c.args.scoped.now.program.defs) (view c.args.scoped.now.program.last) c.args.scoped.now.sources _ _ _ _ _ c.requires.placed c.in-Ok-planned.ensures.plan c.in-Ok-planned.ensures.trace c.requires.term c.in-Ok.ensures.rewritten

pub returns-in-Ok-clause-does : goal.returns-in-Ok-clause-does
returns-in-Ok-clause-does g c = λ files. wanted_done _ files _ _

pub returns-in-Ok-clause-plan : goal.returns-in-Ok-clause-plan
returns-in-Ok-clause-plan g c = wanted_plan _ _ c.requires.unrun

pub returns-in-Ok-clause-lines : goal.returns-in-Ok-clause-lines
returns-in-Ok-clause-lines g c = unrun_lines _ _ _ _ c.requires.unrun

pub returns-in-Ok-clause-asks : goal.returns-in-Ok-clause-asks
returns-in-Ok-clause-asks g c = unrun_asks _ _ c.requires.unrun

pub returns-in-Ok-clause-shows : goal.returns-in-Ok-clause-shows
returns-in-Ok-clause-shows g c = unrun_undone _ _ c.requires.unrun

pub returns-clause-does : goal.returns-clause-does
returns-clause-does g c = λ files. wanted_done _ files _ _

pub returns-clause-plan : goal.returns-clause-plan
returns-clause-plan g c = wanted_plan _ _ c.requires.unrun

pub returns-clause-lines : goal.returns-clause-lines
returns-clause-lines g c = unrun_lines _ _ _ _ c.requires.unrun

pub returns-clause-asks : goal.returns-clause-asks
returns-clause-asks g c = unrun_asks _ _ c.requires.unrun

pub returns-clause-shows : goal.returns-clause-shows
returns-clause-shows g c = unrun_undone _ _ c.requires.unrun
