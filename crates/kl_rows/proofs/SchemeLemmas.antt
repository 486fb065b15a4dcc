-- Parts and the cells that say what they say.
use Rattle.std.proofs.Common.{◌≡◌, ℕ, List, [], take, refl, sym, subst}
use Rattle.std.specs.List.{AllByRecursion}
use Rattle.kl_rows.specs.declared.cell.Cell.{Cell}
use Rattle.kl_rows.specs.declared.schemes.Part.{Part}
use Rattle.kl_rows.specs.Schemes.{cells_of, IsBasePart}

-- so many of the cells have their parts
pub record TabledTo (cells : List Cell) (k : ℕ) (parts : List Part) : Type 0 where
  pub same : cells_of parts ≡ take k cells
  pub bases : AllByRecursion IsBasePart parts

pub tabled_none : (cells : List Cell) (parts : List Part) → parts ≡ [] → TabledTo cells 0 parts
tabled_none cells parts e = subst (TabledTo cells 0) (sym e) (record { same = refl; bases = tt })
