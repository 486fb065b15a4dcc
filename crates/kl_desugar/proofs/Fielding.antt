-- A record of fields of the types of a row.
use Rattle.std.proofs.Common.{List, refl}
use Rattle.std.specs.List.{AllByRecursion}
use Rattle.kl_base.specs.Fields.{LabelsRise}
use Rattle.kl_type.specs.Ground.{Ground, Row, IsRow}
use Rattle.kl_outcome.specs.Outcome.{Name}
use Rattle.kl_outcome.proofs.RowFields.{IsFieldOf, HasAll, along_row}
use Rattle.kl_core.specs.Trees.{Tree, parts_of}
use Rattle.kl_core.specs.Typing.{SourceTypes, CoreTypes, PartTypes}

module _ (S : SourceTypes) (G : List Ground) where
  pub parts_typed : (r : Row) (ps : List (Name × Tree)) → IsRow r → LabelsRise ps → AllByRecursion (IsFieldOf (CoreTypes S G) r) ps → HasAll (CoreTypes S G) r ps → PartTypes S G (parts_of ps) r
  parts_typed = along_row (CoreTypes S G) (λ ps r. PartTypes S G (parts_of ps) r) refl (λ p ps s r h k. (s, r, refl, h, k))
