-- The kinds of types, shape by shape.
use Rattle.std.proofs.Common.{◌≡◌, List, ap}
use Rattle.kl_value.specs.declared.Kind.{Kind}
use Rattle.kl_value.specs.declared.Kind.TheVariants as kind
use Rattle.kl_type.specs.Ground.{ground_of}
use Rattle.kl_type.proofs.GroundLemmas.{ground-Bool, ground-Int, ground-Str, ground-Rec, ground-Var, ground-Coll}
use Rattle.kl_type.specs.declared.ground.Ty.{Ty}
use Rattle.kl_type.specs.declared.ground.Ty.TheVariants as ty
use Rattle.kl_outcome.specs.Outcome.{Name}
use Rattle.kl_ask.specs.Asks.{kind_of}

pub kind-Bool : kind_of (ground_of ty.Bool) ≡ kind.List
kind-Bool = ap kind_of ground-Bool

pub kind-Int : kind_of (ground_of ty.Int) ≡ kind.List
kind-Int = ap kind_of ground-Int

pub kind-Str : kind_of (ground_of ty.Str) ≡ kind.List
kind-Str = ap kind_of ground-Str

pub kind-Rec : (fs : List (Name × Ty)) → kind_of (ground_of (ty.Rec fs)) ≡ kind.List
kind-Rec fs = ap kind_of (ground-Rec fs)

pub kind-Var : (fs : List (Name × Ty)) → kind_of (ground_of (ty.Var fs)) ≡ kind.List
kind-Var fs = ap kind_of (ground-Var fs)

pub kind-Coll : (k : Kind) (t : Ty) → kind_of (ground_of (ty.Coll k t)) ≡ k
kind-Coll k t = ap kind_of (ground-Coll k t)

pub ruleset kind_rules = (kind-Bool, kind-Int, kind-Str, kind-Rec, kind-Var, kind-Coll)
