use Rattle.std.proofs.Common.{◌≡◌, drop}
use Rattle.kl_ask.specs.Asks.{is_kept}
use Rattle.kl_flat.proofs.column_table.is_kept.Given as goal

abbrev pub invariant-loop-kept : goal.invariant-loop-kept
invariant-loop-kept l = is_kept (drop l.kept-index l.keep) l.label ≡ is_kept l.keep l.label
