-- From one step to the next. No public contract cites this.
use Rattle.std.specs.Prelude.{◌≡◌, ◌+◌, ◌≤◌, Bool, true, false, [], reverse}
use Rattle.kl_core.specs.Trees.{Tree}
use Rattle.kl_core.specs.Counts.{nodes_of}
use Rattle.kl_rewrite.specs.declared.walk.Walk.{Walk}
use Rattle.kl_rewrite.specs.Steps.{IsClosed, IsWithin, Step, IsNormal}
use Rattle.kl_rewrite.specs.Search.{IsSettled}

-- before a search in the whole term
pub record IsAt (t : Tree) (w : Walk) : Type 0 where
  pub closed : IsClosed t
  pub within : IsWithin t
  pub room : w.search.allowance.room + nodes_of t ≡ 16384
  pub least : w.search.allowance.room ≤ w.search.allowance.calm
  pub path : w.search.path.items ≡ []
  pub settled : IsSettled w.search.allowance.calm 0 t (reverse w.trail.items)

abbrev pub Advances : Tree → Tree → Bool → Walk → Type 0
Advances t u true w = Step t u × IsAt u w
Advances t u false w = (u ≡ t) × IsNormal t
