use Rattle.std.proofs.Common.{refl}
use Rattle.kl_scope.specs.Breaches.{is_marked}
use Rattle.kl_syntax.specs.View.{view, decls_of}
use Rattle.kl_desugar.specs.Translation.{term_of}
use Rattle.kl_desugar.proofs.Law.{means}
use Rattle.kl_engine.proofs.BegunLemmas.{begun_answers, begun_list, begun_none, begun_runs, begun_scanned, begun_spares}
use Rattle.kl_engine.proofs.CountLemmas.{answers_late, source_late}
use Rattle.kl_engine.proofs.MeaningLemmas.{attach_unchanged, given_list, idle_none, attaches_same, plan_runs, session_list, session_lists, session_told, session_done, attach_failed}
use Rattle.kl_engine.proofs.FewLemmas.{driver_unwritten}
use Rattle.kl_engine.proofs.PlanLemmas.{plan_asks, plan_counts, plan_few, plan_none, plan_shows, plan_steps, plan_written, refused_asks, refused_none, refused_shows, runs_list, runs_worth}
use Rattle.kl_engine.proofs.ProgramLemmas.{no_files}
use Rattle.kl_engine.proofs.run.answer_kept.Goals as goal

pub attach_sources-requires-clause-clear : goal.attach_sources-requires-clause-clear
attach_sources-requires-clause-clear g c = idle_none _ c.requires.idle

pub answer_plan-result-requires-clause-sense : goal.answer_plan-result-requires-clause-sense
answer_plan-result-requires-clause-sense g c = runs_worth _ _ _ _ _ _ (begun_runs _ _ c.run_of-run.ensures _ _ _ _ _ (plan_runs c.args.sources.items c.args.scoped.now c.requires.scope c.args.typed.now c.requires.types _ refl _ _ c.requires.placed _ (attaches_same _ c.replace.result _ _ _ _ _ c.replace.ensures.value (c.in-Ok.ensures (is_marked c.args.scoped.now) (λ i less. refl))) c.args.how.settings c.replace-in-Ok.result c.requires.fetch c.requires.idle c.requires.mentioned _ _ c.requires.planned.2 c.requires.planned.1 c.requires.block))

pub answer_plan-result-requires-clause-list : goal.answer_plan-result-requires-clause-list
answer_plan-result-requires-clause-list g c is = runs_list _ _ _ _ _ _ (begun_runs _ _ c.run_of-run.ensures _ _ _ _ _ (plan_runs c.args.sources.items c.args.scoped.now c.requires.scope c.args.typed.now c.requires.types _ refl _ _ c.requires.placed _ (attaches_same _ c.replace.result _ _ _ _ _ c.replace.ensures.value (c.in-Ok.ensures (is_marked c.args.scoped.now) (λ i less. refl))) c.args.how.settings c.replace-in-Ok.result c.requires.fetch c.requires.idle c.requires.mentioned _ _ c.requires.planned.2 c.requires.planned.1 c.requires.block)) (begun_list _ _ c.run_of-run.ensures _ (session_list c.args.sources.items c.args.scoped.now c.requires.scope c.args.typed.now c.requires.types _ refl _ _ c.requires.placed _ (attaches_same _ c.replace.result _ _ _ _ _ c.replace.ensures.value (c.in-Ok.ensures (is_marked c.args.scoped.now) (λ i less. refl))) c.args.how.settings c.replace-in-Ok.result c.requires.fetch _ c.gives_list-is_list.ensures.list is))

pub returns-in-Ok-clause-does : goal.returns-in-Ok-clause-does
returns-in-Ok-clause-does g c =
    λ files. session_done c.args.sources.items c.args.scoped.now c.requires.scope c.args.typed.now c.requires.types _ refl _ _ c.requires.placed _ (attaches_same _ c.replace.result _ _ _ _ _ c.replace.ensures.value (c.in-Ok.ensures (is_marked c.args.scoped.now) (λ i less. refl))) c.args.how.settings c.replace-in-Ok.result c.requires.fetch
    _ c.gives_list-is_list.ensures.list (means (decls_of c.args.scoped.now.program.defs) (view c.args.scoped.now.program.last) c.args.scoped.now.sources) c.gives_list-is_list.ensures.other _ _ files _ _ _ _
    (begun_answers _ _ c.run_of-run.ensures _ _ (term_of (decls_of c.args.scoped.now.program.defs) (view c.args.scoped.now.program.last) c.args.scoped.now.sources) _ _ files _ _ _ (c.answer_plan-result.ensures.prints files _ _ _ _ (begun_runs _ _ c.run_of-run.ensures _ _ _ _ _ (plan_runs c.args.sources.items c.args.scoped.now c.requires.scope c.args.typed.now c.requires.types _ refl _ _ c.requires.placed _ (attaches_same _ c.replace.result _ _ _ _ _ c.replace.ensures.value (c.in-Ok.ensures (is_marked c.args.scoped.now) (λ i less. refl))) c.args.how.settings c.replace-in-Ok.result c.requires.fetch c.requires.idle c.requires.mentioned _ _ c.requires.planned.2 c.requires.planned.1 c.requires.block)) (λ h. begun_list _ _ c.run_of-run.ensures _ (session_list c.args.sources.items c.args.scoped.now c.requires.scope c.args.typed.now c.requires.types _ refl _ _ c.requires.placed _ (attaches_same _ c.replace.result _ _ _ _ _ c.replace.ensures.value (c.in-Ok.ensures (is_marked c.args.scoped.now) (λ i less. refl))) c.args.how.settings c.replace-in-Ok.result c.requires.fetch _ c.gives_list-is_list.ensures.list h))))

pub returns-in-Ok-clause-late : goal.returns-in-Ok-clause-late
returns-in-Ok-clause-late g c = answers_late _ (begun_answers _ _ c.run_of-run.ensures _ _ (term_of (decls_of c.args.scoped.now.program.defs) (view c.args.scoped.now.program.last) c.args.scoped.now.sources) _ _ no_files _ _ _ (c.answer_plan-result.ensures.prints no_files _ _ _ _ (begun_runs _ _ c.run_of-run.ensures _ _ _ _ _ (plan_runs c.args.sources.items c.args.scoped.now c.requires.scope c.args.typed.now c.requires.types _ refl _ _ c.requires.placed _ (attaches_same _ c.replace.result _ _ _ _ _ c.replace.ensures.value (c.in-Ok.ensures (is_marked c.args.scoped.now) (λ i less. refl))) c.args.how.settings c.replace-in-Ok.result c.requires.fetch c.requires.idle c.requires.mentioned _ _ c.requires.planned.2 c.requires.planned.1 c.requires.block)) (λ h. begun_list _ _ c.run_of-run.ensures _ (session_list c.args.sources.items c.args.scoped.now c.requires.scope c.args.typed.now c.requires.types _ refl _ _ c.requires.placed _ (attaches_same _ c.replace.result _ _ _ _ _ c.replace.ensures.value (c.in-Ok.ensures (is_marked c.args.scoped.now) (λ i less. refl))) c.args.how.settings c.replace-in-Ok.result c.requires.fetch _ c.gives_list-is_list.ensures.list h)))).no_other

pub returns-in-Ok-clause-asks : goal.returns-in-Ok-clause-asks
returns-in-Ok-clause-asks g c =
    plan_asks _ _ _ c.requires.planned.1 _ _ c.requires.traced.1 _ _ _ refl c.replace-in-Ok.ensures.value _ _ (begun_scanned _ _ c.run_of-run.ensures _ _ _ _ c.answer_plan-result.ensures.scanned) (is_marked c.args.scoped.now) c.args.sources.items _ (attaches_same _ c.replace.result _ _ _ _ _ c.replace.ensures.value (c.in-Ok.ensures (is_marked c.args.scoped.now) (λ i less. refl))).drivers

pub returns-in-Ok-clause-shows : goal.returns-in-Ok-clause-shows
returns-in-Ok-clause-shows g c = (_, plan_shows _ _ _ c.requires.planned.1 _ _ c.requires.traced.1 _ _ _ refl c.replace-in-Ok.ensures.value _ _ (begun_scanned _ _ c.run_of-run.ensures _ _ _ _ c.answer_plan-result.ensures.scanned) _ refl)

pub returns-in-Ok-clause-steps : goal.returns-in-Ok-clause-steps
returns-in-Ok-clause-steps g c = plan_steps _ _ _ c.requires.planned.1 _ _ c.requires.traced.1 _ _ _ refl c.replace-in-Ok.ensures.value _ _ (begun_scanned _ _ c.run_of-run.ensures _ _ _ _ c.answer_plan-result.ensures.scanned)

pub returns-in-Ok-clause-counts : goal.returns-in-Ok-clause-counts
returns-in-Ok-clause-counts g c =
    let attached = attaches_same _ c.replace.result _ _ _ _ _ c.replace.ensures.value (c.in-Ok.ensures (is_marked c.args.scoped.now) (λ i less. refl)) in
    let runs = plan_runs c.args.sources.items c.args.scoped.now c.requires.scope c.args.typed.now c.requires.types _ refl _ _ c.requires.placed _ attached c.args.how.settings c.replace-in-Ok.result c.requires.fetch c.requires.idle c.requires.mentioned _ _ c.requires.planned.2 c.requires.planned.1 c.requires.block in
    let told = session_told c.args.sources.items c.args.scoped.now c.requires.scope c.args.typed.now c.requires.types _ refl _ _ c.requires.placed _ attached c.args.how.settings c.replace-in-Ok.result c.requires.fetch (means (decls_of c.args.scoped.now.program.defs) (view c.args.scoped.now.program.last) c.args.scoped.now.sources) in
    let lists = session_lists c.args.sources.items c.args.scoped.now c.requires.scope c.args.typed.now c.requires.types _ refl _ _ c.requires.placed _ attached c.args.how.settings c.replace-in-Ok.result c.requires.fetch _ c.gives_list-is_list.ensures.other in
    let scanned = begun_scanned _ _ c.run_of-run.ensures _ _ _ _ c.answer_plan-result.ensures.scanned in
    record {
      exact = λ well all have. (
        _,
        runs.reads,
        _,
        plan_shows _ _ _ c.requires.planned.1 _ _ c.requires.traced.1 _ _ _ refl c.replace-in-Ok.ensures.value _ _ scanned _ refl,
        plan_counts _ _ _ _ _ _ _ _ _ runs c.requires.planned.1.numbers scanned well all (runs.told (told have.0 have.1)),
      );
      few = λ well have. (_, runs.reads, plan_few _ _ _ _ _ _ _ _ _ _ _ runs attached.drivers lists _ _ (begun_spares _ _ c.run_of-run.ensures _ _ _ _ _ _ _ c.answer_plan-result.ensures.spares) well (runs.told (told have.0 have.1)));
      written = λ failed have. (_, runs.reads, plan_written _ _ _ _ _ _ _ _ _ _ _ runs attached.drivers lists _ _ (begun_spares _ _ c.run_of-run.ensures _ _ _ _ _ _ _ c.answer_plan-result.ensures.spares) failed (runs.told (told have.0 have.1)));
      changed = λ name is. ((begun_answers _ _ c.run_of-run.ensures _ _ (term_of (decls_of c.args.scoped.now.program.defs) (view c.args.scoped.now.program.last) c.args.scoped.now.sources) _ _ no_files _ _ _ (c.answer_plan-result.ensures.prints no_files _ _ _ _ (begun_runs _ _ c.run_of-run.ensures _ _ _ _ _ (plan_runs c.args.sources.items c.args.scoped.now c.requires.scope c.args.typed.now c.requires.types _ refl _ _ c.requires.placed _ (attaches_same _ c.replace.result _ _ _ _ _ c.replace.ensures.value (c.in-Ok.ensures (is_marked c.args.scoped.now) (λ i less. refl))) c.args.how.settings c.replace-in-Ok.result c.requires.fetch c.requires.idle c.requires.mentioned _ _ c.requires.planned.2 c.requires.planned.1 c.requires.block)) (λ h. begun_list _ _ c.run_of-run.ensures _ (session_list c.args.sources.items c.args.scoped.now c.requires.scope c.args.typed.now c.requires.types _ refl _ _ c.requires.placed _ (attaches_same _ c.replace.result _ _ _ _ _ c.replace.ensures.value (c.in-Ok.ensures (is_marked c.args.scoped.now) (λ i less. refl))) c.args.how.settings c.replace-in-Ok.result c.requires.fetch _ c.gives_list-is_list.ensures.list h)))).changed name is).7;
      none = λ none given.
          plan_none _ _ _ c.requires.traced.1 _ _ _ refl c.replace-in-Ok.ensures.value (is_marked c.args.scoped.now) c.args.sources.items _ attached.drivers
          (begun_none _ _ c.run_of-run.ensures _ _ _ c.answer_plan-result.ensures.none (given_list c.args.sources.items (decls_of c.args.scoped.now.program.defs) (view c.args.scoped.now.program.last) c.args.typed.now c.requires.types _ c.gives_list-is_list.ensures.other given) none);
    }

pub returns-in-Err-clause-does : goal.returns-in-Err-clause-does
returns-in-Err-clause-does g c =
    λ files. attach_failed c.args.sources.items (is_marked c.args.scoped.now) _ (decls_of c.args.scoped.now.program.defs) (view c.args.scoped.now.program.last) files _ _ _ c.in-Err.field-0 _ (c.in-Err.ensures (is_marked c.args.scoped.now) (λ i less. refl)) c.driver_fault.ensures

pub returns-in-Err-clause-late : goal.returns-in-Err-clause-late
returns-in-Err-clause-late g c = source_late _ _ _ c.driver_fault.ensures

pub returns-in-Err-clause-asks : goal.returns-in-Err-clause-asks
returns-in-Err-clause-asks g c =
    refused_asks _ _ _ c.requires.planned.1 _ _ c.requires.traced.1 (is_marked c.args.scoped.now) c.args.sources.items c.args.how.settings _ _
    (c.in-Err.ensures (is_marked c.args.scoped.now) (λ i less. refl)).drivers

pub returns-in-Err-clause-shows : goal.returns-in-Err-clause-shows
returns-in-Err-clause-shows g c = (_, refused_shows _ _ _ c.requires.planned.1 _ _ c.requires.traced.1 c.args.how.settings)

pub returns-in-Err-clause-counts : goal.returns-in-Err-clause-counts
returns-in-Err-clause-counts g c = record {
  exact = λ well all have. absurd cc;
  few = λ well have. absurd cc;
  written = λ failed have. absurd (driver_unwritten _ _ _ c.driver_fault.ensures failed);
  changed = λ name is. absurd (attach_unchanged c.args.sources.items (is_marked c.args.scoped.now) c.args.how.first (decls_of c.args.scoped.now.program.defs) (view c.args.scoped.now.program.last) no_files _ _ (g.S.Sink.state c.args.out.now) c.in-Err.field-0 _ name
      (c.in-Err.ensures (is_marked c.args.scoped.now) (λ i less. refl)) c.driver_fault.ensures is);
  none = λ none given. refused_none _ _ _ c.requires.traced.1 (is_marked c.args.scoped.now) c.args.sources.items _ _ (c.in-Err.ensures (is_marked c.args.scoped.now) (λ i less. refl)).drivers;
}
