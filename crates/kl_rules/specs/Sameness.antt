-- For private functions alone: whether two terms are one, form by form.
use Rattle.std.specs.Prelude.{Bool, true, false, ◌&&◌, nat_eq}
use Rattle.std.specs.Cmp.Lexicographic.{pointwise}
use Rattle.std.specs.Ordering.{is_eq}
use Rattle.kl_value.specs.declared.Kind.{Kind}
use Rattle.kl_value.specs.declared.Kind.TheVariants as kind
use Rattle.kl_value.specs.Order.{compare}
use Rattle.kl_core.specs.Trees.{Tree, Var, Const, Source, Rec, Proj, Inj, Case, Make, Union, Ext, If, Let, Prim, Trees, no_trees}
use Rattle.kl_core.specs.Trees.{trees, Parts, no_parts, parts, Arms, no_arms, rest, arm}

abbrev pub same_kind : Kind → Kind → Bool
same_kind kind.Set kind.Set = true
same_kind kind.Bag kind.Bag = true
same_kind kind.List kind.List = true
same_kind k j = false

abbrev mutual
  pub same_in : Tree → Tree → Bool
  same_in (Var x) (Var y) = nat_eq x y
  same_in (Const v) (Const w) = is_eq (compare v w)
  same_in (Source i) (Source j) = nat_eq i j
  same_in (Rec ps) (Rec qs) = same_parts ps qs
  same_in (Proj l a) (Proj m b) = pointwise nat_eq l m && same_in a b
  same_in (Inj l a) (Inj m b) = pointwise nat_eq l m && same_in a b
  same_in (Case a bs) (Case b cs) = same_in a b && same_arms bs cs
  same_in (Make k ts) (Make j us) = same_kind k j && same_trees ts us
  same_in (Union a b) (Union c d) = same_in a c && same_in b d
  same_in (Ext k b s) (Ext j c r) = same_kind k j && (same_in b c && same_in s r)
  same_in (If a b c) (If d e f) = same_in a d && (same_in b e && same_in c f)
  same_in (Let a b) (Let c d) = same_in a c && same_in b d
  same_in (Prim c ts) (Prim d us) = nat_eq c d && same_trees ts us
  same_in t u = false

  pub same_trees : Trees → Trees → Bool
  same_trees no_trees no_trees = true
  same_trees (trees t ts) (trees u us) = same_in t u && same_trees ts us
  same_trees ts us = false

  pub same_parts : Parts → Parts → Bool
  same_parts no_parts no_parts = true
  same_parts (parts l t ps) (parts m u qs) = pointwise nat_eq l m && (same_in t u && same_parts ps qs)
  same_parts ps qs = false

  pub same_arms : Arms → Arms → Bool
  same_arms no_arms no_arms = true
  same_arms (rest c) (rest d) = same_in c d
  same_arms (arm l b bs) (arm m c cs) = pointwise nat_eq l m && (same_in b c && same_arms bs cs)
  same_arms bs cs = false
