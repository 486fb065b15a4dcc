use Rattle.kl_scope.specs.Breaches.{is_marked}
use Rattle.kl_syntax.specs.View.{view, decls_of}
use Rattle.kl_engine.proofs.MeaningLemmas.{meaning_wanted}
use Rattle.kl_engine.proofs.PlanLemmas.{refused_shows, still_asks, still_none}
use Rattle.kl_engine.proofs.run.answer_over.Goals as goal

pub returns-in-Ok-clause-does : goal.returns-in-Ok-clause-does
returns-in-Ok-clause-does g c = c.answer_kept.ensures.does

pub returns-in-Ok-clause-late : goal.returns-in-Ok-clause-late
returns-in-Ok-clause-late g c = c.answer_kept.ensures.late

pub returns-in-Ok-clause-asks : goal.returns-in-Ok-clause-asks
returns-in-Ok-clause-asks g c = c.answer_kept.ensures.asks

pub returns-in-Ok-clause-shows : goal.returns-in-Ok-clause-shows
returns-in-Ok-clause-shows g c = c.answer_kept.ensures.shows

pub returns-in-Ok-clause-steps : goal.returns-in-Ok-clause-steps
returns-in-Ok-clause-steps g c = c.answer_kept.ensures.steps

pub returns-in-Ok-clause-counts : goal.returns-in-Ok-clause-counts
returns-in-Ok-clause-counts g c = c.answer_kept.ensures.counts

-- memory ran out before anything was done
pub returns-in-Err-clause-does : goal.returns-in-Err-clause-does
returns-in-Err-clause-does g c = λ files. meaning_wanted c.args.sources.items (is_marked c.args.scoped.now) _ (decls_of c.args.scoped.now.program.defs) (view c.args.scoped.now.program.last) files _ _

pub returns-in-Err-clause-late : goal.returns-in-Err-clause-late
returns-in-Err-clause-late g c = λ early. early

pub returns-in-Err-clause-asks : goal.returns-in-Err-clause-asks
returns-in-Err-clause-asks g c = still_asks _ _ _ c.requires.planned.1 _ _ c.requires.traced.1 c.args.how.settings _

pub returns-in-Err-clause-shows : goal.returns-in-Err-clause-shows
returns-in-Err-clause-shows g c = (_, refused_shows _ _ _ c.requires.planned.1 _ _ c.requires.traced.1 c.args.how.settings)

pub returns-in-Err-clause-counts : goal.returns-in-Err-clause-counts
returns-in-Err-clause-counts g c = record {
  exact = λ well all have. absurd cc;
  few = λ well have. absurd cc;
  written = λ failed have. absurd cc;
  changed = λ name is. absurd cc;
  none = λ none given. still_none _ _ _ c.requires.traced.1 _;
}
