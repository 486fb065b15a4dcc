-- What becomes of a plan of scans alone.
use Rattle.std.specs.Prelude.{◌≡◌, ℕ, zero, suc}
use Rattle.kl_ask.specs.declared.settings.JoinHow.{JoinHow}
use Rattle.kl_plan.specs.Nodes.{Node}
use Rattle.kl_joins.specs.declared.keeping.Place.TheVariants as place
use Rattle.kl_joins.specs.JoinsMade.{JoinsMade}
use Rattle.kl_joins.specs.MemosMade.{MemosMade}
use Rattle.kl_joins.specs.Numbered.{SamePlan, AreNumbered}

-- values are kept where there is room for any
abbrev pub AreKept : ℕ → Node → Node → Type 0
AreKept zero p q = q ≡ p
AreKept (suc n) p q = MemosMade place.Outside 0 p q

-- loops become joins, then values are kept, and then all is numbered
pub record Finishes (how : JoinHow) (cache : ℕ) (sent p : Node) : Type 0 where
  pub joined : Node
  pub joins : JoinsMade how sent joined
  pub kept : Node
  pub memos : AreKept cache joined kept
  pub same : SamePlan kept p
  pub numbered : AreNumbered p
