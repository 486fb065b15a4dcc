use Rattle.std.proofs.Common.{◌≡◌, take}
use Rattle.std.specs.BTreeMap.{get}
use Rattle.kl_base.specs.Fields.{bytes_cmp}
use Rattle.kl_scope.specs.Senses.{Name, source_in}
use Rattle.kl_scope.proofs.names.Names.new.Given as goal

abbrev pub invariant-sources : goal.invariant-sources
invariant-sources l = record { kept : l.kept.items ≡ take l.i l.sources; fixed : (x : Name) → get bytes_cmp l.fixed x ≡ source_in (take l.i l.sources) x }
