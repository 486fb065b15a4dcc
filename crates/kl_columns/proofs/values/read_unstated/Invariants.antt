use Rattle.std.proofs.Common.{◌≡◌, List, None, length, true}
use Rattle.kl_exchange.specs.FileReading.{to_come}
use Rattle.kl_shape.specs.Shapes.{sound}
use Rattle.kl_value.specs.declared.Value.{Value}
use Rattle.kl_columns.specs.Values.{IsPrincipal}
use Rattle.kl_columns.proofs.ItemsRead.{Underway}
use Rattle.kl_columns.proofs.values.read_unstated.Given as goal

abbrev pub invariant-items : goal.invariant-items
invariant-items g l = (values : List Value) × Underway None l.fn.reader (g.F.Files.state l.fn.files) l.reader (g.F.Files.state l.files) values × IsPrincipal values l.shape × (sound l.shape ≡ true)
    × (l.count ≡ length values)

abbrev pub decreases-items : goal.decreases-items
decreases-items g l = to_come l.reader.items
