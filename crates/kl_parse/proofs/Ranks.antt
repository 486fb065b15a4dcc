-- Which level calls which: a measure of the levels at one depth.
use Rattle.std.proofs.Common.{ℕ}
use Rattle.kl_parse.specs.declared.operator.Level.{Level}
use Rattle.kl_parse.specs.declared.operator.Level.TheVariants as level

abbrev pub rank : Level → ℕ
rank level.Or = 18
rank level.And = 15
rank level.Compare = 10
rank level.Add = 7
rank level.Mul = 4
