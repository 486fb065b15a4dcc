use Rattle.std.proofs.Common.{ap, ◌∙◌}
use Rattle.kl_engine.proofs.LineLemmas.{list_ended, list_stopped}
use Rattle.kl_engine.proofs.types.list.Goals as goal

pub returns-in-Ok : goal.returns-in-Ok
returns-in-Ok g c = list_ended _ _ _ _ c.list_one.result _ _ _ (c.slice-defs.ensures ∙ ap (λ p. p.defs) c.program.ensures) c.slice.ensures c.in-Ok.ensures c.list_one.ensures

pub returns-in-Err : goal.returns-in-Err
returns-in-Err g c = list_stopped _ _ _ _ c.in-Err.fault _ _ (c.slice-defs.ensures ∙ ap (λ p. p.defs) c.program.ensures) c.slice.ensures c.in-Err.ensures
