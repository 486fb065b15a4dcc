-- The items and the columns of types, shape by shape.
use Rattle.std.proofs.Common.{◌≡◌, ◌==◌, rules, arith, List, [], ◌∷◌, length, refl, ap, ◌∙◌}
use Rattle.kl_base.specs.Fields.{labels_of}
use Rattle.kl_value.specs.declared.Kind.{Kind}
use Rattle.kl_type.specs.Ground.{ground_of, row_by, labels_in}
use Rattle.kl_type.proofs.GroundLemmas.{ground-Bool, ground-Int, ground-Str, ground-Rec, ground-Var, ground-Coll}
use Rattle.kl_type.specs.declared.Ty.{Ty}
use Rattle.kl_type.specs.declared.Ty.TheVariants as ty
use Rattle.kl_outcome.specs.Outcome.{Name}
use Rattle.kl_ask.specs.Asks.{item_of, columns, same_names}

labels_by : (fs : List (Name × Ty)) → labels_in (row_by ground_of fs) ≡ labels_of fs
labels_by [] = refl
labels_by (f ∷ fs) = ap (λ ls. f.0 ∷ ls) (labels_by fs)

pub same_none : (keep : List Name) → same_names keep [] ≡ (length keep == 0)
same_none [] = refl
same_none (l ∷ ls) = search (rules, arith)

pub columns-Bool : columns (ground_of ty.Bool) ≡ []
columns-Bool = ap columns ground-Bool

pub columns-Int : columns (ground_of ty.Int) ≡ []
columns-Int = ap columns ground-Int

pub columns-Str : columns (ground_of ty.Str) ≡ []
columns-Str = ap columns ground-Str

pub columns-Rec : (fs : List (Name × Ty)) → columns (ground_of (ty.Rec fs)) ≡ labels_of fs
columns-Rec fs = ap columns (ground-Rec fs) ∙ labels_by fs

pub columns-Var : (fs : List (Name × Ty)) → columns (ground_of (ty.Var fs)) ≡ []
columns-Var fs = ap columns (ground-Var fs)

pub columns-Coll : (k : Kind) (t : Ty) → columns (ground_of (ty.Coll k t)) ≡ []
columns-Coll k t = ap columns (ground-Coll k t)

pub item-Coll : (k : Kind) (t : Ty) → item_of (ground_of (ty.Coll k t)) ≡ ground_of t
item-Coll k t = ap item_of (ground-Coll k t)

pub columns_item-Bool : columns (item_of (ground_of ty.Bool)) ≡ columns (ground_of ty.Bool)
columns_item-Bool = rw ground-Bool refl

pub columns_item-Int : columns (item_of (ground_of ty.Int)) ≡ columns (ground_of ty.Int)
columns_item-Int = rw ground-Int refl

pub columns_item-Str : columns (item_of (ground_of ty.Str)) ≡ columns (ground_of ty.Str)
columns_item-Str = rw ground-Str refl

pub columns_item-Rec : (fs : List (Name × Ty)) → columns (item_of (ground_of (ty.Rec fs))) ≡ columns (ground_of (ty.Rec fs))
columns_item-Rec fs = rw (ground-Rec fs) refl

pub columns_item-Var : (fs : List (Name × Ty)) → columns (item_of (ground_of (ty.Var fs))) ≡ columns (ground_of (ty.Var fs))
columns_item-Var fs = rw (ground-Var fs) refl

pub ruleset column_rules = (same_none, columns-Bool, columns-Int, columns-Str, columns-Rec, columns-Var, columns-Coll, item-Coll, columns_item-Bool, columns_item-Int, columns_item-Str, columns_item-Rec, columns_item-Var)
