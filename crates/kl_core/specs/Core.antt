-- What a term means, over the values of sources by number and the values of its positions, the nearest first.
use Rattle.std.specs.Prelude.{ℕ, List, [], ◌∷◌, Option, cond, slice_get, nat_eq}
use Rattle.std.specs.Cmp.Lexicographic.{pointwise}
use Rattle.kl_value.specs.declared.Value.{Value}
use Rattle.kl_outcome.specs.Outcome.{Outcome, done, stuck, Flow, stop, fine, Name, after, outcome_of, if_then, applied, recorded}
use Rattle.kl_outcome.specs.Outcome.{tagged, part, cases, items_of, item_then, drawn, collected, union_of}
use Rattle.kl_core.specs.Trees.{Tree, Var, Const, Source, Rec, Proj, Inj, Case, Make, Union, Ext, If, Let, Prim, Trees, no_trees}
use Rattle.kl_core.specs.Trees.{trees, Parts, no_parts, parts, Arms, no_arms, rest, arm}

-- the value of each source, where it is known
abbrev pub Tables : Type 0
Tables = ℕ → Option Value

abbrev mutual
  pub core : Tables → Tree → List Value → Outcome
  core T (Var x) env = outcome_of (slice_get env x)
  core T (Const v) env = done v
  core T (Source i) env = outcome_of (T i)
  core T (Rec ps) env = recorded (core_parts T ps env)
  core T (Proj l a) env = part l (core T a env)
  core T (Inj l a) env = tagged l (core T a env)
  core T (Case a bs) env = cases (core T a env) (λ l v. core_arms T bs l v env)
  core T (Make k ts) env = collected k (core_items T ts env)
  core T (Union a b) env = union_of (core T a env) (core T b env)
  core T (Ext k b s) env = collected k (drawn (items_of (core T s env)) (λ v. items_of (core T b (v ∷ env))))
  core T (If a b c) env = if_then (core T a env) (core T b env) (core T c env)
  core T (Let a b) env = after (core T a env) (λ v. core T b (v ∷ env))
  core T (Prim c ts) env = applied c (core_all T ts env)

  pub core_all : Tables → Trees → List Value → List Outcome
  core_all T no_trees env = []
  core_all T (trees t ts) env = core T t env ∷ core_all T ts env

  pub core_items : Tables → Trees → List Value → Flow
  core_items T no_trees env = stop fine
  core_items T (trees t ts) env = item_then (core T t env) (core_items T ts env)

  pub core_parts : Tables → Parts → List Value → List (Name × Outcome)
  core_parts T no_parts env = []
  core_parts T (parts l t ps) env = (l, core T t env) ∷ core_parts T ps env

  -- the first branch for the label
  pub core_arms : Tables → Arms → Name → Value → List Value → Outcome
  core_arms T no_arms l v env = stuck
  core_arms T (rest c) l v env = core T c env
  core_arms T (arm m b bs) l v env = cond (pointwise nat_eq l m) (core T b (v ∷ env)) (core_arms T bs l v env)
