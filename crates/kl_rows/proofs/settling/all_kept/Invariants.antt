use Rattle.kl_rows.specs.Schemes.{KeepsAll}
use Rattle.kl_rows.proofs.settling.all_kept.Given as goal

abbrev pub invariant-kept : goal.invariant-kept
invariant-kept l = KeepsAll l._i l.kept.items
