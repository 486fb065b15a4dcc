-- Where nothing may be kept, no memo stands in a plan.
use Rattle.std.proofs.Common.{◌≡◌, ℕ, zero, suc, ◌<◌, [], subst, ◌∙◌, ap, arith}
use Rattle.std.specs.List.{Contains}
use Rattle.kl_ask.specs.declared.settings.JoinHow.{JoinHow}
use Rattle.kl_plan.specs.Nodes.{Node}
use Rattle.kl_plan.specs.Numbers.{memos_in}
use Rattle.kl_plan.specs.Parts.{memos_of}
use Rattle.kl_plan.specs.Subqueries.{Memo}
use Rattle.kl_plan.proofs.Holding.{no_memos}
use Rattle.kl_joins.specs.Bare.{Bare}
use Rattle.kl_joins.specs.Finished.{Finishes}
use Rattle.kl_joins.proofs.Amounts.{joined_bare, none_stands}

-- a finished plan with a memo has room for a value
pub room_where : (how : JoinHow) (cache : ℕ) (sent p : Node) → Finishes how cache sent p → Bare sent → (m : Memo) → Contains (memos_of p) m → 0 < cache
room_where how (suc n) sent p w bare m i = omega arith
room_where how zero sent p w bare m i =
    let kept : memos_in w.kept ≡ [] = ap memos_in w.memos ∙ joined_bare how sent w.joined w.joins bare.1 in
    let e : memos_of p ≡ [] = no_memos p (none_stands w.kept p w.same kept) in
    absurd (let j : Contains [] m = subst (λ ms. Contains ms m) e i in let below = j.1 in omega arith)
