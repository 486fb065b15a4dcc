-- Parts whose value stands somewhere already.
use Rattle.std.specs.Prelude.{⊤}
use Rattle.kl_eval.specs.Standing.{IsStanding}
use Rattle.kl_plan.specs.Nodes as node
use Rattle.kl_plan.specs.Nodes.{Node}

-- a variable, or a part without scans that is a variable, a constant or a field of one of them
abbrev pub StandsSomewhere : Node → Type 0
StandsSomewhere (node.Plain t) = IsStanding t
StandsSomewhere (node.Var x) = ⊤
StandsSomewhere p = ⊥
