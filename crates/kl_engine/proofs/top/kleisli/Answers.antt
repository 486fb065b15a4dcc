use Rattle.std.proofs.Common.{[], Some, ap, refl, subst, sym, ◌∙◌}
use Rattle.kl_engine.specs.Answering.{IsRunning}
use Rattle.kl_engine.specs.Commands.{NamesNoFile, asked}
use Rattle.kl_engine.specs.Planned.{plan_in}
use Rattle.kl_engine.proofs.CountLemmas.{explain_plan, gen_plan, run_plan}
use Rattle.kl_engine.proofs.ExplainLemmas.{found_explains, lines_told, undone_explains}
use Rattle.kl_engine.proofs.StatsLemmas.{handed_is, run_told}
use Rattle.kl_engine.proofs.TopLemmas.{again_found, again_none, again_upgraded, again_wanted, does_found, does_none, does_wanted, first_found, first_none, first_upgraded, first_wanted, show_at, upgrade_at, upgrade_does}
use Rattle.kl_engine.proofs.WantedPlan.{wanted_plan}
use Rattle.kl_engine.proofs.top.kleisli.Goals as goal

pub returns-in-Ok-Show-clause-does : goal.returns-in-Ok-Show-clause-does
returns-in-Ok-Show-clause-does g c = does_found _ _ (c.in-Ok-Show.ensures.meant ∙ ap Some c.in-Ok-Show.field-0-is) _ _ _ _ c.end-in-Ok-Show.ensures.fault (show_at c.in-Ok-Show.file _ _ _ _ _ _ _ c.slice-in-Ok-Show.ensures (c.show-result.ensures _))

pub returns-in-Ok-Gen-clause-does : goal.returns-in-Ok-Gen-clause-does
returns-in-Ok-Gen-clause-does g c = does_found _ _ (c.in-Ok-Gen.ensures.meant ∙ ap Some c.in-Ok-Gen.field-0-is) _ _ _ _ c.end-in-Ok-Gen.ensures.fault (c.do_gen-result.ensures.does _)

pub returns-in-Err-Usage-clause-does : goal.returns-in-Err-Usage-clause-does
returns-in-Err-Usage-clause-does g c = does_none _ (c.in-Err-Usage.ensures.meant c.in-Err-Usage.field-0-is) _ _ c.end-in-Err-Usage.ensures.fault

pub returns-in-Err-NoMemory-clause-does : goal.returns-in-Err-NoMemory-clause-does
returns-in-Err-NoMemory-clause-does g c = does_wanted _ _ _ c.end-in-Err-NoMemory.ensures.fault

pub returns-in-Ok-Run-clause-line : goal.returns-in-Ok-Run-clause-line
returns-in-Ok-Run-clause-line g c =
    run_told _ c.in-Ok-Run.job _ _ _ _ c.saturating_sub-handed.result _ _ _ (c.in-Ok-Run.ensures.meant ∙ ap Some c.in-Ok-Run.field-0-is) c.slice.ensures c.end.ensures.fault
    (handed_is _ _ _ c.rows_handed-before.result c.rows_handed.result c.saturating_sub-handed.result c.do_run-result.ensures.does.closed.drivers c.rows_handed-before.ensures c.rows_handed.ensures c.saturating_sub-handed.ensures)
    c.end.ensures.line

pub returns-in-Ok-Run-clause-plan : goal.returns-in-Ok-Run-clause-plan
returns-in-Ok-Run-clause-plan g c =
    run_plan _ _ _ _ _ _ _ _ c.end.ensures.fault c.end.ensures.plan c.end.ensures.trace _ _ _ _ c.in-Ok-Run.job (c.in-Ok-Run.ensures.meant ∙ ap Some c.in-Ok-Run.field-0-is) c.do_run-result.ensures.plan

pub returns-in-Ok-Gen-clause-plan : goal.returns-in-Ok-Gen-clause-plan
returns-in-Ok-Gen-clause-plan g c =
    gen_plan _ _ _ _ _ _ _ _ c.end-in-Ok-Gen.ensures.fault c.end-in-Ok-Gen.ensures.plan c.end-in-Ok-Gen.ensures.trace _ _ _ _ c.in-Ok-Gen.seed c.in-Ok-Gen.size
    (c.in-Ok-Gen.ensures.meant ∙ ap Some c.in-Ok-Gen.field-0-is) (c.do_gen-result.ensures.plan (g.F.Files.state c.args.files.now))

pub returns-in-Ok-Run-clause-no_file : goal.returns-in-Ok-Run-clause-no_file
returns-in-Ok-Run-clause-no_file g c = λ none. absurd (subst (λ o. NamesNoFile (asked o)) (c.in-Ok-Run.ensures.meant ∙ ap Some c.in-Ok-Run.field-0-is) none)

pub returns-in-Ok-Types-clause-no_file : goal.returns-in-Ok-Types-clause-no_file
returns-in-Ok-Types-clause-no_file g c = λ none. absurd (subst (λ o. NamesNoFile (asked o)) (c.in-Ok-Types.ensures.meant ∙ ap Some c.in-Ok-Types.field-0-is) none)

pub returns-in-Ok-Check-clause-no_file : goal.returns-in-Ok-Check-clause-no_file
returns-in-Ok-Check-clause-no_file g c = λ none. absurd (subst (λ o. NamesNoFile (asked o)) (c.in-Ok-Check.ensures.meant ∙ ap Some c.in-Ok-Check.field-0-is) none)

pub returns-in-Ok-Show-clause-no_file : goal.returns-in-Ok-Show-clause-no_file
returns-in-Ok-Show-clause-no_file g c = λ none. absurd (subst (λ o. NamesNoFile (asked o)) (c.in-Ok-Show.ensures.meant ∙ ap Some c.in-Ok-Show.field-0-is) none)

pub returns-in-Ok-Gen-clause-no_file : goal.returns-in-Ok-Gen-clause-no_file
returns-in-Ok-Gen-clause-no_file g c = λ none. refl

pub returns-in-Ok-Run-clause-silent : goal.returns-in-Ok-Run-clause-silent
returns-in-Ok-Run-clause-silent g c = λ running none. c.do_run-result.ensures.silent (ap plan_in (sym c.end.ensures.plan) ∙ none)

pub returns-in-Ok-Gen-clause-silent : goal.returns-in-Ok-Gen-clause-silent
returns-in-Ok-Gen-clause-silent g c = λ running none. c.do_gen-result.ensures.silent (ap plan_in (sym c.end-in-Ok-Gen.ensures.plan) ∙ none)

pub returns-in-Ok-Types-clause-silent : goal.returns-in-Ok-Types-clause-silent
returns-in-Ok-Types-clause-silent g c = λ running. absurd (subst (λ o. IsRunning (asked o)) (c.in-Ok-Types.ensures.meant ∙ ap Some c.in-Ok-Types.field-0-is) running)

pub returns-in-Ok-Check-clause-silent : goal.returns-in-Ok-Check-clause-silent
returns-in-Ok-Check-clause-silent g c = λ running. absurd (subst (λ o. IsRunning (asked o)) (c.in-Ok-Check.ensures.meant ∙ ap Some c.in-Ok-Check.field-0-is) running)

pub returns-in-Ok-Show-clause-silent : goal.returns-in-Ok-Show-clause-silent
returns-in-Ok-Show-clause-silent g c = λ running. absurd (subst (λ o. IsRunning (asked o)) (c.in-Ok-Show.ensures.meant ∙ ap Some c.in-Ok-Show.field-0-is) running)

pub returns-in-Ok-Explain-clause-plan : goal.returns-in-Ok-Explain-clause-plan
returns-in-Ok-Explain-clause-plan g c =
    explain_plan _ _ _ _ _ _ _ _ c.end-in-Ok-Explain.ensures.fault c.end-in-Ok-Explain.ensures.plan c.end-in-Ok-Explain.ensures.trace _ _ _ _ c.in-Ok-Explain.job (c.in-Ok-Explain.ensures.meant ∙ ap Some c.in-Ok-Explain.field-0-is) c.do_explain-result.ensures.plan

pub returns-in-Ok-Explain-clause-explains : goal.returns-in-Ok-Explain-clause-explains
returns-in-Ok-Explain-clause-explains g c =
    found_explains _ _ _ _ _ _ _ (c.in-Ok-Explain.ensures.meant ∙ ap Some c.in-Ok-Explain.field-0-is)
    (lines_told _ _ _ _ _ _ _ c.end-in-Ok-Explain.ensures.fault c.end-in-Ok-Explain.ensures.plan c.do_explain-result.ensures.lines)

pub returns-in-Ok-Explain-clause-no_file : goal.returns-in-Ok-Explain-clause-no_file
returns-in-Ok-Explain-clause-no_file g c = λ none. absurd (subst (λ o. NamesNoFile (asked o)) (c.in-Ok-Explain.ensures.meant ∙ ap Some c.in-Ok-Explain.field-0-is) none)

pub returns-in-Ok-Explain-clause-silent : goal.returns-in-Ok-Explain-clause-silent
returns-in-Ok-Explain-clause-silent g c = λ running. absurd (subst (λ o. IsRunning (asked o)) (c.in-Ok-Explain.ensures.meant ∙ ap Some c.in-Ok-Explain.field-0-is) running)

pub returns-in-Ok-Run-clause-explains : goal.returns-in-Ok-Run-clause-explains
returns-in-Ok-Run-clause-explains g c = found_explains _ _ _ _ _ _ _ (c.in-Ok-Run.ensures.meant ∙ ap Some c.in-Ok-Run.field-0-is) tt

pub returns-in-Ok-Types-clause-explains : goal.returns-in-Ok-Types-clause-explains
returns-in-Ok-Types-clause-explains g c = found_explains _ _ _ _ _ _ _ (c.in-Ok-Types.ensures.meant ∙ ap Some c.in-Ok-Types.field-0-is) tt

pub returns-in-Ok-Check-clause-explains : goal.returns-in-Ok-Check-clause-explains
returns-in-Ok-Check-clause-explains g c = found_explains _ _ _ _ _ _ _ (c.in-Ok-Check.ensures.meant ∙ ap Some c.in-Ok-Check.field-0-is) tt

pub returns-in-Ok-Show-clause-explains : goal.returns-in-Ok-Show-clause-explains
returns-in-Ok-Show-clause-explains g c = found_explains _ _ _ _ _ _ _ (c.in-Ok-Show.ensures.meant ∙ ap Some c.in-Ok-Show.field-0-is) tt

pub returns-in-Ok-Gen-clause-explains : goal.returns-in-Ok-Gen-clause-explains
returns-in-Ok-Gen-clause-explains g c = found_explains _ _ _ _ _ _ _ (c.in-Ok-Gen.ensures.meant ∙ ap Some c.in-Ok-Gen.field-0-is) tt

pub returns-in-Err-Usage-clause-explains : goal.returns-in-Err-Usage-clause-explains
returns-in-Err-Usage-clause-explains g c = undone_explains _ _ _ _ _ c.end-in-Err-Usage.ensures.plan

pub returns-in-Err-NoMemory-clause-explains : goal.returns-in-Err-NoMemory-clause-explains
returns-in-Err-NoMemory-clause-explains g c = undone_explains _ _ _ _ _ c.end-in-Err-NoMemory.ensures.plan

pub returns-in-Ok-Upgrade-clause-does : goal.returns-in-Ok-Upgrade-clause-does
returns-in-Ok-Upgrade-clause-does g c = does_found _ _ (c.in-Ok-Upgrade.ensures.meant ∙ ap Some c.in-Ok-Upgrade.field-0-is) _ _ _ _ c.end-in-Ok-Upgrade.ensures.fault (upgrade_does c.in-Ok-Upgrade.file c.in-Ok-Upgrade.ty _ _ _ _ _ _ (upgrade_at c.in-Ok-Upgrade.file _ c.in-Ok-Upgrade.ty _ _ _ _ _ _ _ c.slice-in-Ok-Upgrade.ensures c.slice-in-Ok-Upgrade-2.ensures (c.upgrade-result.ensures.does _)))

pub returns-in-Ok-Upgrade-clause-no_file : goal.returns-in-Ok-Upgrade-clause-no_file
returns-in-Ok-Upgrade-clause-no_file g c = λ none. absurd (subst (λ o. NamesNoFile (asked o)) (c.in-Ok-Upgrade.ensures.meant ∙ ap Some c.in-Ok-Upgrade.field-0-is) none)

pub returns-in-Ok-Upgrade-clause-silent : goal.returns-in-Ok-Upgrade-clause-silent
returns-in-Ok-Upgrade-clause-silent g c = λ running. absurd (subst (λ o. IsRunning (asked o)) (c.in-Ok-Upgrade.ensures.meant ∙ ap Some c.in-Ok-Upgrade.field-0-is) running)

pub returns-in-Ok-Upgrade-clause-explains : goal.returns-in-Ok-Upgrade-clause-explains
returns-in-Ok-Upgrade-clause-explains g c = found_explains _ _ _ _ _ _ _ (c.in-Ok-Upgrade.ensures.meant ∙ ap Some c.in-Ok-Upgrade.field-0-is) tt

pub returns-in-Ok-Upgrade-clause-type_first : goal.returns-in-Ok-Upgrade-clause-type_first
returns-in-Ok-Upgrade-clause-type_first g c = first_found _ _ (c.in-Ok-Upgrade.ensures.meant ∙ ap Some c.in-Ok-Upgrade.field-0-is) _ _ (first_upgraded c.in-Ok-Upgrade.file c.in-Ok-Upgrade.ty _ _ _ _ c.slice-in-Ok-Upgrade-2.ensures c.end-in-Ok-Upgrade.ensures.fault (λ f wrong. let h = c.upgrade-result.ensures.type_first f wrong in (h.0, (h.1, refl, h.2))))

pub returns-in-Ok-Upgrade-clause-again : goal.returns-in-Ok-Upgrade-clause-again
returns-in-Ok-Upgrade-clause-again g c = again_found _ _ (c.in-Ok-Upgrade.ensures.meant ∙ ap Some c.in-Ok-Upgrade.field-0-is) _ _ _ _ (again_upgraded c.in-Ok-Upgrade.file c.in-Ok-Upgrade.ty _ _ _ _ [] _ _ c.end-in-Ok-Upgrade.ensures.fault (upgrade_at c.in-Ok-Upgrade.file _ c.in-Ok-Upgrade.ty _ _ _ _ _ _ _ c.slice-in-Ok-Upgrade.ensures c.slice-in-Ok-Upgrade-2.ensures (c.upgrade-result.ensures.does _)))

pub returns-in-Ok-Run-clause-type_first : goal.returns-in-Ok-Run-clause-type_first
returns-in-Ok-Run-clause-type_first g c = first_found _ _ (c.in-Ok-Run.ensures.meant ∙ ap Some c.in-Ok-Run.field-0-is) _ _ tt

pub returns-in-Ok-Run-clause-again : goal.returns-in-Ok-Run-clause-again
returns-in-Ok-Run-clause-again g c = again_found _ _ (c.in-Ok-Run.ensures.meant ∙ ap Some c.in-Ok-Run.field-0-is) _ _ _ _ tt

pub returns-in-Ok-Explain-clause-type_first : goal.returns-in-Ok-Explain-clause-type_first
returns-in-Ok-Explain-clause-type_first g c = first_found _ _ (c.in-Ok-Explain.ensures.meant ∙ ap Some c.in-Ok-Explain.field-0-is) _ _ tt

pub returns-in-Ok-Explain-clause-again : goal.returns-in-Ok-Explain-clause-again
returns-in-Ok-Explain-clause-again g c = again_found _ _ (c.in-Ok-Explain.ensures.meant ∙ ap Some c.in-Ok-Explain.field-0-is) _ _ _ _ tt

pub returns-in-Ok-Types-clause-type_first : goal.returns-in-Ok-Types-clause-type_first
returns-in-Ok-Types-clause-type_first g c = first_found _ _ (c.in-Ok-Types.ensures.meant ∙ ap Some c.in-Ok-Types.field-0-is) _ _ tt

pub returns-in-Ok-Types-clause-again : goal.returns-in-Ok-Types-clause-again
returns-in-Ok-Types-clause-again g c = again_found _ _ (c.in-Ok-Types.ensures.meant ∙ ap Some c.in-Ok-Types.field-0-is) _ _ _ _ tt

pub returns-in-Ok-Check-clause-type_first : goal.returns-in-Ok-Check-clause-type_first
returns-in-Ok-Check-clause-type_first g c = first_found _ _ (c.in-Ok-Check.ensures.meant ∙ ap Some c.in-Ok-Check.field-0-is) _ _ tt

pub returns-in-Ok-Check-clause-again : goal.returns-in-Ok-Check-clause-again
returns-in-Ok-Check-clause-again g c = again_found _ _ (c.in-Ok-Check.ensures.meant ∙ ap Some c.in-Ok-Check.field-0-is) _ _ _ _ tt

pub returns-in-Ok-Show-clause-type_first : goal.returns-in-Ok-Show-clause-type_first
returns-in-Ok-Show-clause-type_first g c = first_found _ _ (c.in-Ok-Show.ensures.meant ∙ ap Some c.in-Ok-Show.field-0-is) _ _ tt

pub returns-in-Ok-Show-clause-again : goal.returns-in-Ok-Show-clause-again
returns-in-Ok-Show-clause-again g c = again_found _ _ (c.in-Ok-Show.ensures.meant ∙ ap Some c.in-Ok-Show.field-0-is) _ _ _ _ tt

pub returns-in-Ok-Gen-clause-type_first : goal.returns-in-Ok-Gen-clause-type_first
returns-in-Ok-Gen-clause-type_first g c = first_found _ _ (c.in-Ok-Gen.ensures.meant ∙ ap Some c.in-Ok-Gen.field-0-is) _ _ tt

pub returns-in-Ok-Gen-clause-again : goal.returns-in-Ok-Gen-clause-again
returns-in-Ok-Gen-clause-again g c = again_found _ _ (c.in-Ok-Gen.ensures.meant ∙ ap Some c.in-Ok-Gen.field-0-is) _ _ _ _ tt

pub returns-in-Err-Usage-clause-type_first : goal.returns-in-Err-Usage-clause-type_first
returns-in-Err-Usage-clause-type_first g c = first_none _ (c.in-Err-Usage.ensures.meant c.in-Err-Usage.field-0-is) _ _

pub returns-in-Err-Usage-clause-again : goal.returns-in-Err-Usage-clause-again
returns-in-Err-Usage-clause-again g c = again_none _ (c.in-Err-Usage.ensures.meant c.in-Err-Usage.field-0-is) _ _ _ _

pub returns-in-Err-NoMemory-clause-type_first : goal.returns-in-Err-NoMemory-clause-type_first
returns-in-Err-NoMemory-clause-type_first g c = first_wanted _ _ _ c.end-in-Err-NoMemory.ensures.fault (refl, refl, refl)

pub returns-in-Err-NoMemory-clause-again : goal.returns-in-Err-NoMemory-clause-again
returns-in-Err-NoMemory-clause-again g c = again_wanted _ _ _ _ _ c.end-in-Err-NoMemory.ensures.fault

pub returns-in-Err-Usage-clause-line : goal.returns-in-Err-Usage-clause-line
returns-in-Err-Usage-clause-line g c = rw c.end-in-Err-Usage.ensures.fault c.end-in-Err-Usage.ensures.line

pub returns-in-Err-NoMemory-clause-plan : goal.returns-in-Err-NoMemory-clause-plan
returns-in-Err-NoMemory-clause-plan g c = wanted_plan _ _ _ _ _ _ (ap plan_in c.end-in-Err-NoMemory.ensures.plan) (ap (λ t. t.steps) c.end-in-Err-NoMemory.ensures.trace ∙ c.new.ensures.steps) c.end-in-Err-NoMemory.ensures.fault
