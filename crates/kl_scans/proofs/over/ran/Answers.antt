use Rattle.std.proofs.Common.{[], ◌∷◌, ◌++◌, ap, ◌∙◌}
use Rattle.kl_scans.proofs.Doing.{ended}
use Rattle.kl_scans.proofs.over.ran.Goals as goal

pub returns-in-Ok : goal.returns-in-Ok
returns-in-Ok g c =
    ended _ c.args.entry c.args.peak _ _
    (c.of-2.ensures ∙ c.in-Ok.ensures.items ∙ ap (λ runs. runs ++ c.args.entry ∷ []) (c.into_vec-joins.ensures ∙ c.replace.ensures.value)) c.max-trace.ensures
