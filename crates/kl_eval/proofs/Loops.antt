-- In loops: whatever the rest comes to, the whole comes to it.
use Rattle.std.specs.Prelude.{◌≡◌, List, [], ◌∷◌, ◌++◌}
use Rattle.kl_value.specs.declared.Value.{Value}
use Rattle.kl_outcome.specs.Outcome.{Name, Outcome, Flow, more}
use Rattle.kl_core.specs.Trees.{Tree, Trees, Parts}
use Rattle.kl_ask.specs.World.{World, Moved, types_of, values_of}
use Rattle.kl_eval.specs.Comes.{Comes, ItemsCome, PartsCome, Draws}
use Rattle.kl_eval.specs.Evals.{SenseEach, SenseParts, SenseBody}
use Rattle.kl_eval.specs.Sources.{NoSource, NoSourceInTrees, NoSourceInParts}

-- items before a flow
abbrev pub before : List Value → Flow → Flow
before [] f = f
before (v ∷ vs) f = more v (before vs f)

pub record OnEach (whole rest : Trees) (env drawn : List Value) (a b : World) : Type 0 where
  pub moved : Moved a b
  pub still : NoSourceInTrees whole → (b ≡ a) × NoSourceInTrees rest
  pub sense : SenseEach rest env b
  pub onward : (f : Flow) → ItemsCome (types_of a) (values_of a) env rest f → ItemsCome (types_of a) (values_of a) env whole (before drawn f)

pub record OnBody (t : Tree) (whole rest : Flow) (left env drawn : List Value) (a b : World) : Type 0 where
  pub moved : Moved a b
  pub still : NoSource t → b ≡ a
  pub sense : SenseBody t left env b
  pub onward : (f : Flow) → Draws (λ v. Comes (types_of a) (values_of a) (v ∷ env) t) rest f → Draws (λ v. Comes (types_of a) (values_of a) (v ∷ env) t) whole (before drawn f)

pub record OnFields (whole rest : Parts) (env : List Value) (drawn : List (Name × Value)) (a b : World) : Type 0 where
  pub moved : Moved a b
  pub still : NoSourceInParts whole → (b ≡ a) × NoSourceInParts rest
  pub sense : SenseParts rest env b
  pub onward : (go : List (Name × Value) → Outcome) (o : Outcome) → PartsCome (types_of a) (values_of a) env rest (λ fs. go (drawn ++ fs)) o → PartsCome (types_of a) (values_of a) env whole go o
