-- Plans of which no joins and memos were made yet.
use Rattle.std.specs.Prelude.{◌≡◌, []}
use Rattle.kl_plan.specs.Nodes.{Node, Nodes, Fields, Branches}
use Rattle.kl_plan.specs.Numbers.{joins_in, joins_of_nodes, joins_of_fields, joins_of_branches}
use Rattle.kl_plan.specs.Numbers.{memos_in, memos_of_nodes, memos_of_fields, memos_of_branches}

abbrev pub Bare : Node → Type 0
Bare p = (joins_in p ≡ []) × (memos_in p ≡ [])

abbrev pub BareNodes : Nodes → Type 0
BareNodes ps = (joins_of_nodes ps ≡ []) × (memos_of_nodes ps ≡ [])

abbrev pub BareFields : Fields → Type 0
BareFields ps = (joins_of_fields ps ≡ []) × (memos_of_fields ps ≡ [])

abbrev pub BareBranches : Branches → Type 0
BareBranches bs = (joins_of_branches bs ≡ []) × (memos_of_branches bs ≡ [])
