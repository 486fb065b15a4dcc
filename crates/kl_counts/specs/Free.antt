-- The free positions of plans.
use Rattle.std.specs.Prelude.{◌≡◌, ◌<◌, ◌≤◌, ℕ, suc, true, List, [], ◌∷◌, nat_eq, ⊤}
use Rattle.std.specs.List.{list_any, AllByRecursion}
use Rattle.kl_plan.specs.Nodes.{Node}
use Rattle.kl_plan.specs.Occurs.{occurs}

-- numbers from i on that rise
abbrev pub Rise : ℕ → List ℕ → Type 0
Rise i [] = ⊤
Rise i (x ∷ xs) = (i ≤ x) × Rise (suc x) xs

-- these are the free positions of a part under so many bound ones, in rising order
pub record AreFree (d : ℕ) (frees : List ℕ) (p : Node) : Type 0 where
  pub rising : Rise 0 frees
  pub listed : (x : ℕ) → occurs x p ≡ true → list_any (nat_eq x) frees ≡ true
  pub bound : AllByRecursion (λ x. x < d) frees
