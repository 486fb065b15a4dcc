-- For private functions alone: what a term may come to, where a source that is not told may give another value at each
-- reading.
use Rattle.std.specs.Prelude.{◌≡◌, Bool, true, false, List, [], ◌∷◌, Option, Some, None, cond, slice_get, nat_eq}
use Rattle.std.specs.Cmp.Lexicographic.{pointwise}
use Rattle.kl_value.specs.Views.{as_bool}
use Rattle.kl_value.specs.declared.Value.{Value}
use Rattle.kl_value.specs.declared.Value.TheVariants as value
use Rattle.kl_prim.specs.Table.{meaning}
use Rattle.kl_outcome.specs.Outcome.{Name, Outcome, done, over, stuck, Flow, more, stop, fine, overflow, broken, outcome_of}
use Rattle.kl_outcome.specs.Outcome.{answered, part, tagged, as_variant, items_of, collected, union_of}
use Rattle.kl_core.specs.Core.{Tables}
use Rattle.kl_core.specs.Trees.{Tree, Var, Const, Source, Rec, Proj, Inj, Case, Make, Union, Ext, If, Let, Prim, Trees, no_trees}
use Rattle.kl_core.specs.Trees.{trees, Parts, no_parts, parts, Arms, no_arms, rest, arm}
use Rattle.kl_core.specs.Typing.{SourceTypes}
use Rattle.kl_eval.specs.World.{ReadsSource}

-- what is made of the value of a part; an overflow in it leaves no items
abbrev pub Then : Outcome → (Value → Outcome → Type 0) → Outcome → Type 0
Then (done v) P o = P v o
Then (over vs) P o = o ≡ over []
Then stuck P o = o ≡ stuck

abbrev pub Picks : Option Bool → (Outcome → Type 0) → (Outcome → Type 0) → Outcome → Type 0
Picks (Some true) P Q o = P o
Picks (Some false) P Q o = Q o
Picks None P Q o = o ≡ stuck

abbrev pub OpensVariant : Option (Name × Value) → (Name → Value → Outcome → Type 0) → Outcome → Type 0
OpensVariant (Some c) P o = P c.0 c.1 o
OpensVariant None P o = o ≡ stuck

-- two collections as one
abbrev pub Unites : Outcome → (Outcome → Type 0) → Outcome → Type 0
Unites (done v) P o = (q : Outcome) × P q × (o ≡ union_of (done v) q)
Unites (over vs) P o = o ≡ over vs
Unites stuck P o = o ≡ stuck

-- an item, and then what P draws
abbrev pub Leads : Outcome → (Flow → Type 0) → Flow → Type 0
Leads (done v) P f = (g : Flow) × P g × (f ≡ more v g)
Leads (over vs) P f = f ≡ stop overflow
Leads stuck P f = f ≡ stop broken

-- one drawing, and then what P draws where it ends well
abbrev pub FollowsFlow : Flow → (Flow → Type 0) → Flow → Type 0
FollowsFlow (more v f) P g = (h : Flow) × FollowsFlow f P h × (g ≡ more v h)
FollowsFlow (stop fine) P g = P g
FollowsFlow (stop overflow) P g = g ≡ stop overflow
FollowsFlow (stop broken) P g = g ≡ stop broken

-- the items of what P makes of each item
abbrev pub Draws : (Value → Outcome → Type 0) → Flow → Flow → Type 0
Draws P (more v f) g = (o : Outcome) × P v o × FollowsFlow (items_of o) (Draws P f) g
Draws P (stop e) g = g ≡ stop e

abbrev mutual
  pub Comes : SourceTypes → Tables → List Value → Tree → Outcome → Type 0
  Comes S T env (Var x) o = o ≡ outcome_of (slice_get env x)
  Comes S T env (Const v) o = o ≡ done v
  Comes S T env (Source i) o = (v : Value) × ReadsSource S T i v × (o ≡ done v)
  Comes S T env (Rec ps) o = PartsCome S T env ps (λ fs. done (value.Rec fs)) o
  Comes S T env (Proj l a) o = (p : Outcome) × Comes S T env a p × (o ≡ part l p)
  Comes S T env (Inj l a) o = (p : Outcome) × Comes S T env a p × (o ≡ tagged l p)
  Comes S T env (Case a bs) o = (p : Outcome) × Comes S T env a p
      × Then p (λ v q. OpensVariant (as_variant v) (λ l w. ArmsCome S T env bs l w) q) o
  Comes S T env (Make k ts) o = (f : Flow) × ItemsCome S T env ts f × (o ≡ collected k f)
  Comes S T env (Union a b) o = (p : Outcome) × Comes S T env a p × Unites p (Comes S T env b) o
  Comes S T env (Ext k b a) o = (p : Outcome) × (f : Flow) × Comes S T env a p × Draws (λ v. Comes S T (v ∷ env) b) (items_of p) f
      × (o ≡ collected k f)
  Comes S T env (If a b c) o = (p : Outcome) × Comes S T env a p × Then p (λ v q. Picks (as_bool v) (Comes S T env b) (Comes S T env c) q) o
  Comes S T env (Let a b) o = (p : Outcome) × Comes S T env a p × Then p (λ v. Comes S T (v ∷ env) b) o
  Comes S T env (Prim c ts) o = ArgsCome S T env ts (λ vs. answered (meaning c vs)) o

  pub ItemsCome : SourceTypes → Tables → List Value → Trees → Flow → Type 0
  ItemsCome S T env no_trees f = f ≡ stop fine
  ItemsCome S T env (trees t ts) f = (o : Outcome) × Comes S T env t o × Leads o (ItemsCome S T env ts) f

  pub ArgsCome : SourceTypes → Tables → List Value → Trees → (List Value → Outcome) → Outcome → Type 0
  ArgsCome S T env no_trees go o = o ≡ go []
  ArgsCome S T env (trees t ts) go o = (p : Outcome) × Comes S T env t p × Then p (λ v. ArgsCome S T env ts (λ vs. go (v ∷ vs))) o

  pub PartsCome : SourceTypes → Tables → List Value → Parts → (List (Name × Value) → Outcome) → Outcome → Type 0
  PartsCome S T env no_parts go o = o ≡ go []
  PartsCome S T env (parts l t ps) go o = (p : Outcome) × Comes S T env t p × Then p (λ v. PartsCome S T env ps (λ fs. go ((l, v) ∷ fs))) o

  pub ArmsCome : SourceTypes → Tables → List Value → Arms → Name → Value → Outcome → Type 0
  ArmsCome S T env no_arms l v o = o ≡ stuck
  ArmsCome S T env (rest c) l v o = Comes S T env c o
  ArmsCome S T env (arm m b bs) l v o = cond (pointwise nat_eq l m) (Comes S T (v ∷ env) b o) (ArmsCome S T env bs l v o)
