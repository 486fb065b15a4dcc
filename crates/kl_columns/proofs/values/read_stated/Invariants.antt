use Rattle.std.proofs.Common.{◌≡◌, List, Some, true}
use Rattle.kl_exchange.specs.FileReading.{to_come}
use Rattle.kl_value.specs.declared.Value.{Value}
use Rattle.kl_columns.specs.Values.{all_have}
use Rattle.kl_columns.proofs.ItemsRead.{Underway}
use Rattle.kl_columns.proofs.values.read_stated.Given as goal

abbrev pub invariant-items : goal.invariant-items
invariant-items g l =
    (values : List Value) × Underway (Some l.fn.ty) l.fn.reader (g.F.Files.state l.fn.files) l.reader (g.F.Files.state l.files) values × (all_have values l.fn.ty ≡ true)
    × (l.ty ≡ l.fn.ty)

abbrev pub decreases-items : goal.decreases-items
decreases-items g l = to_come l.reader.items
