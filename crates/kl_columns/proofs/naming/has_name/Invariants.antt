use Rattle.std.proofs.Common.{◌≡◌, false, map, take}
use Rattle.std.specs.List.{list_any}
use Rattle.kl_sources.specs.Sources.{same}
use Rattle.kl_columns.proofs.naming.has_name.Given as goal

abbrev pub invariant-loop-entry : goal.invariant-loop-entry
invariant-loop-entry l = list_any (same l.name) (map (λ e. e.name) (take l.entry-index l.entries)) ≡ false
