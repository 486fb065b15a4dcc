-- Collection types, and what their rows have.
use Rattle.std.proofs.Common.{◌≡◌, ℕ, true, false, List, [], ◌∷◌, ◌++◌, refl, sym, ap, subst, ◌∙◌}
use Rattle.std.specs.List.{AllByRecursion}
use Rattle.kl_value.specs.declared.Kind.{Kind}
use Rattle.kl_value.specs.declared.Value.{Value}
use Rattle.kl_type.specs.Ground.{Ground, coll, ground_of}
use Rattle.kl_type.specs.Has.{has_type}
use Rattle.kl_type.specs.declared.ground.Ty.{Ty, Ty-F, out-Ty, roll-Ty, roll-out-Ty}
use Rattle.kl_type.specs.declared.ground.Ty.TheVariants as ty
use Rattle.kl_type.proofs.GroundLemmas.{ground-Bool, ground-Int, ground-Str, ground-Rec, ground-Var, ground-Coll}
use Rattle.kl_outcome.specs.Typed.{Inhabits}
use Rattle.kl_outcome.proofs.Having.{told}
use Rattle.kl_exchange.specs.FileItems.{Items}
use Rattle.kl_exchange.proofs.Canonical.{item_canonical}
use Rattle.kl_ask.specs.Asks.{item_of}
use Rattle.kl_ask.specs.Driver.{Suits}
use Rattle.kl_nested.specs.Contents.{item_layer, item_ty}
use Rattle.kl_nested.specs.Handing.{AllHave}
use Rattle.kl_nested.specs.Nested.{is_collection}

pub suits : (t : Ty) → is_collection t ≡ true → Suits (record { select = false; project = false; join = false; unique = false }) (ground_of t)
suits t h = record { collection = shape; select = λ e. cc; project = λ e. cc; join = λ e. cc; no_list = λ e. cc }
  where
    by : (x : Ty-F Ty) → out-Ty t ≡ x → (k : Kind) × (u : Ground) × (ground_of t ≡ coll k u)
    by (Ty-F.Coll k u) e = (k, ground_of u, ap ground_of (sym (roll-out-Ty t) ∙ ap roll-Ty e ∙ ty.rolls-Coll k u) ∙ ground-Coll k u)
    by Ty-F.Bool e = absurd (let n = rw e at h in cc)
    by Ty-F.Int e = absurd (let n = rw e at h in cc)
    by Ty-F.Str e = absurd (let n = rw e at h in cc)
    by (Ty-F.Rec fs) e = absurd (let n = rw e at h in cc)
    by (Ty-F.Var fs) e = absurd (let n = rw e at h in cc)

    shape : (k : Kind) × (u : Ground) × (ground_of t ≡ coll k u)
    shape = by (out-Ty t) refl

-- the type of the items, seen as a ground type
pub item_is : (t : Ty) → ground_of (item_ty t) ≡ item_of (ground_of t)
item_is t = subst (λ u. ground_of (item_layer t (out-Ty t)) ≡ item_of (ground_of u)) (roll-out-Ty t) (by (out-Ty t) refl)
  where
    same : (x : Ty-F Ty) → out-Ty t ≡ x → t ≡ roll-Ty x
    same x e = sym (roll-out-Ty t) ∙ ap roll-Ty e

    by : (x : Ty-F Ty) → out-Ty t ≡ x → ground_of (item_layer t x) ≡ item_of (ground_of (roll-Ty x))
    by (Ty-F.Coll k u) e = sym (ap item_of (ap ground_of (ty.rolls-Coll k u) ∙ ground-Coll k u))
    by Ty-F.Bool e = let g = ap ground_of ty.rolls-Bool ∙ ground-Bool in ap ground_of (same Ty-F.Bool e) ∙ g ∙ sym (ap item_of g)
    by Ty-F.Int e = let g = ap ground_of ty.rolls-Int ∙ ground-Int in ap ground_of (same Ty-F.Int e) ∙ g ∙ sym (ap item_of g)
    by Ty-F.Str e = let g = ap ground_of ty.rolls-Str ∙ ground-Str in ap ground_of (same Ty-F.Str e) ∙ g ∙ sym (ap item_of g)
    by (Ty-F.Rec fs) e = let g = ap ground_of (ty.rolls-Rec fs) ∙ ground-Rec fs in ap ground_of (same (Ty-F.Rec fs) e) ∙ g ∙ sym (ap item_of g)
    by (Ty-F.Var fs) e = let g = ap ground_of (ty.rolls-Var fs) ∙ ground-Var fs in ap ground_of (same (Ty-F.Var fs) e) ∙ g ∙ sym (ap item_of g)

-- items that are read and have the type are rows of it
pub rows_typed : (t : Ty) (bytes : List ℕ) (vs : List Value) → Items bytes vs → AllHave (item_ty t) vs → AllByRecursion (Inhabits (item_of (ground_of t))) vs
rows_typed t bytes [] items have = tt
rows_typed t bytes (v ∷ vs) (item, rest, split, spells, others) have =
    (subst (λ g. Inhabits g v) (item_is t) (told v (item_ty t) have.0, item_canonical 256 item v spells), rows_typed t rest vs others have.1)

-- so is the last of such items
pub last_typed : (t : Ty) (bytes : List ℕ) (vs : List Value) (v : Value) → Items bytes (vs ++ v ∷ []) → has_type v (item_ty t) ≡ true → Inhabits (item_of (ground_of t)) v
last_typed t bytes [] v (item, rest, split, spells, others) have = subst (λ g. Inhabits g v) (item_is t) (told v (item_ty t) have, item_canonical 256 item v spells)
last_typed t bytes (w ∷ vs) v (item, rest, split, spells, others) have = last_typed t rest vs v others have
