-- Terms whose value stands somewhere already.
use Rattle.std.specs.Prelude.{⊤}
use Rattle.kl_core.specs.Trees.{Tree, Var, Const, Proj}

-- a variable, a constant, or a field of one of them
abbrev pub IsStanding : Tree → Type 0
IsStanding (Var x) = ⊤
IsStanding (Const v) = ⊤
IsStanding (Proj l t) = IsStanding t
IsStanding t = ⊥
