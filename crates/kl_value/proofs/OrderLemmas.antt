-- The order of values: its equation, and that the derived `cmp` is it.
use Rattle.std.specs.FinMap.{IsAntisymmetric, nat_cmp-IsAntisymmetric, int_cmp-IsAntisymmetric, slice_cmp-IsAntisymmetric}
use Rattle.std.proofs.Common.{Bool, true, false, ◌≡◌, ℕ, List, [], ◌∷◌, map, refl, sym, ap, ap₂, subst, ◌∙◌, Ordering, Less, Equal, Greater}
use Rattle.std.specs.Ordering.{bool_cmp, ordering_then}
use Rattle.std.specs.Cmp.{IsTotalOrder}
use Rattle.std.specs.Cmp.Lexicographic.{slice_cmp}
use Rattle.kl_base.specs.Fields.{bytes_cmp}
use Rattle.kl_value.specs.Order.{order_layer, compare}
use Rattle.kl_value.specs.declared.value.Value.{Value, Value-F, out-Value, roll-Value, out-roll-Value, roll-out-Value, map-Value, fold_out-Value, ind-Value}
use Rattle.kl_value.specs.contracts.value.ValueOrd.TheImpl as derived
use Rattle.kl_value.specs.contracts.value.ValueOrd.TheImpl.Laws as laws

-- a list of comparisons, each with a value
module _ {X Y Z : Type 0} (h : X → Y) (R : Y → Z → Ordering) where
  slice_cmp-map : (xs : List X) (zs : List Z) → slice_cmp R (map h xs) zs ≡ slice_cmp (λ x z. R (h x) z) xs zs
  slice_cmp-map [] [] = refl
  slice_cmp-map [] (z ∷ zs) = refl
  slice_cmp-map (x ∷ xs) [] = refl
  slice_cmp-map (x ∷ xs) (z ∷ zs) = ap (ordering_then (R (h x) z)) (slice_cmp-map xs zs)

order_layer-map : {X Y Z : Type 0} (h : X → Y) (R : Y → Z → Ordering) (x : Value-F X) (z : Value-F Z) → order_layer R (map-Value X Y h x) z ≡ order_layer (λ a b. R (h a) b) x z
order_layer-map h R (Value-F.Rec fs) (Value-F.Rec gs) = slice_cmp-map _ _ fs gs
order_layer-map h R (Value-F.Set vs) (Value-F.Set ws) = slice_cmp-map h R vs ws
order_layer-map h R (Value-F.Bag vs) (Value-F.Bag ws) = slice_cmp-map h R vs ws
order_layer-map h R (Value-F.List vs) (Value-F.List ws) = slice_cmp-map h R vs ws
order_layer-map h R x z = refl

-- the order is one level of it, with itself inside
pub compare-out : (v w : Value) → compare v w ≡ order_layer compare (out-Value v) (out-Value w)
unfolding compare
compare-out v w =
    let e = fold_out-Value (Value → Ordering) (λ x w. order_layer (λ f v. f v) x (out-Value w)) v in
    (λ i. e i w) ∙ order_layer-map compare (λ f v. f v) (out-Value v) (out-Value w)

-- the derived `cmp` of two levels
unfolded_layer : (x y : Value-F Value) → laws.unfolded (roll-Value x) (roll-Value y) ≡ order_layer derived.ghosts.cmp x y
unfolded_layer (Value-F.Bool a) (Value-F.Bool b) = simp out-roll-Value
unfolded_layer (Value-F.Int m) (Value-F.Int n) = simp out-roll-Value
unfolded_layer (Value-F.Text s) (Value-F.Text t) = simp out-roll-Value
unfolded_layer (Value-F.Rec fs) (Value-F.Rec gs) = simp out-roll-Value
unfolded_layer (Value-F.Inj l v) (Value-F.Inj m w) = simp out-roll-Value
unfolded_layer (Value-F.Set vs) (Value-F.Set ws) = simp out-roll-Value
unfolded_layer (Value-F.Bag vs) (Value-F.Bag ws) = simp out-roll-Value
unfolded_layer (Value-F.List vs) (Value-F.List ws) = simp out-roll-Value
unfolded_layer x y = simp out-roll-Value

derived-out : (v w : Value) → derived.ghosts.cmp v w ≡ order_layer derived.ghosts.cmp (out-Value v) (out-Value w)
derived-out v w =
    laws.is v w
    ∙ (ap₂ laws.unfolded (sym (roll-out-Value v)) (sym (roll-out-Value w)) ∙ unfolded_layer (out-Value v) (out-Value w))

-- Two comparisons that agree at the items of one list compare it alike.
module _ {X Y Z : Type 0} (h : X → Y) (R S : Y → Z → Ordering) (same : (x : X) (z : Z) → R (h x) z ≡ S (h x) z) where
  same_items : (xs : List X) (zs : List Z) → slice_cmp R (map h xs) zs ≡ slice_cmp S (map h xs) zs
  same_items [] [] = refl
  same_items [] (z ∷ zs) = refl
  same_items (x ∷ xs) [] = refl
  same_items (x ∷ xs) (z ∷ zs) = ap₂ ordering_then (same x z) (same_items xs zs)

-- Two functions that agree at what stands inside the first value give one level alike.
module _ (R S : Value → Value → Ordering) where
  abbrev Agrees : Value → Type 0
  Agrees v = (w : Value) → R v w ≡ S v w

  abbrev Each : Type 0
  Each = (v : Value) × Agrees v

  same_layer : (x : Value-F Each) (y : Value-F Value) → order_layer R (map-Value Each Value (λ e. e.0) x) y ≡ order_layer S (map-Value Each Value (λ e. e.0) x) y
  same_layer (Value-F.Rec fs) (Value-F.Rec gs) = same_items _ _ _ (λ f g. ap (ordering_then (bytes_cmp f.0 g.0)) (f.1.1 g.1)) fs gs
  same_layer (Value-F.Inj l v) (Value-F.Inj m w) = ap (ordering_then (bytes_cmp l m)) (v.1 w)
  same_layer (Value-F.Set vs) (Value-F.Set ws) = same_items _ R S (λ v w. v.1 w) vs ws
  same_layer (Value-F.Bag vs) (Value-F.Bag ws) = same_items _ R S (λ v w. v.1 w) vs ws
  same_layer (Value-F.List vs) (Value-F.List ws) = same_items _ R S (λ v w. v.1 w) vs ws
  same_layer x y = refl

  -- so one function alone has the order's equation
  same_order : ((v w : Value) → R v w ≡ order_layer R (out-Value v) (out-Value w)) → ((v w : Value) → S v w ≡ order_layer S (out-Value v) (out-Value w)) → (v w : Value) → R v w ≡ S v w
  same_order r s = ind-Value Agrees (λ x y is w.
      r (roll-Value x) w
      ∙ (ap (λ z. order_layer R z (out-Value w)) (out-roll-Value x)
      ∙ subst (λ z. order_layer R z (out-Value w) ≡ order_layer S z (out-Value w)) is (same_layer y (out-Value w))
      ∙ ap (λ z. order_layer S z (out-Value w)) (sym (out-roll-Value x))
      ∙ sym (s (roll-Value x) w)))

-- the derived `cmp` is the order
pub derived_is : (v w : Value) → derived.ghosts.cmp v w ≡ compare v w
derived_is = same_order derived.ghosts.cmp compare derived-out compare-out

pub compare_total : IsTotalOrder compare
compare_total = subst IsTotalOrder (λ i v w. derived_is v w i) laws.total-law

-- Only equal values tie.
same_bool : (a b : Bool) → bool_cmp a b ≡ Equal → a ≡ b
same_bool false false e = refl
same_bool false true e = cc
same_bool true false e = cc
same_bool true true e = refl

pub both_Equal : (o p : Ordering) → ordering_then o p ≡ Equal → (o ≡ Equal) × (p ≡ Equal)
both_Equal Less p e = cc
both_Equal Equal p e = (refl, e)
both_Equal Greater p e = cc

pub same_bytes : (s t : List ℕ) → bytes_cmp s t ≡ Equal → s ≡ t
same_bytes = slice_cmp-IsAntisymmetric nat_cmp-IsAntisymmetric

module _ {X Y : Type 0} (h : X → Y) (R : Y → Y → Ordering) (exact : (x : X) (y : Y) → R (h x) y ≡ Equal → h x ≡ y) where
  exact_items : (xs : List X) (ys : List Y) → slice_cmp R (map h xs) ys ≡ Equal → map h xs ≡ ys
  exact_items [] [] e = refl
  exact_items [] (y ∷ ys) e = cc
  exact_items (x ∷ xs) [] e = cc
  exact_items (x ∷ xs) (y ∷ ys) e = let both = both_Equal _ _ e in ap₂ ◌∷◌ (exact x y both.0) (exact_items xs ys both.1)

abbrev IsExactAt : Value → Type 0
IsExactAt v = (w : Value) → compare v w ≡ Equal → v ≡ w

abbrev EachExact : Type 0
EachExact = (v : Value) × IsExactAt v

exact_field : (f : List ℕ × EachExact) (g : List ℕ × Value) → ordering_then (bytes_cmp f.0 g.0) (compare f.1.0 g.1) ≡ Equal → (f.0, f.1.0) ≡ g
exact_field f g e = let both = both_Equal _ _ e in λ i. (same_bytes f.0 g.0 both.0 i, f.1.1 g.1 both.1 i)

exact_layer : (x : Value-F EachExact) (y : Value-F Value) → order_layer compare (map-Value EachExact Value (λ e. e.0) x) y ≡ Equal → map-Value EachExact Value (λ e. e.0) x ≡ y
exact_layer (Value-F.Bool a) (Value-F.Bool b) e = ap (λ z. Value-F.Bool z) (same_bool a b e)
exact_layer (Value-F.Int m) (Value-F.Int n) e = ap (λ z. Value-F.Int z) (int_cmp-IsAntisymmetric m n e)
exact_layer (Value-F.Text s) (Value-F.Text t) e = ap (λ z. Value-F.Text z) (same_bytes s t e)
exact_layer (Value-F.Rec fs) (Value-F.Rec gs) e = ap (λ z. Value-F.Rec z) (exact_items _ _ exact_field fs gs e)
exact_layer (Value-F.Inj l v) (Value-F.Inj m w) e = let both = both_Equal _ _ e in ap₂ (λ k z. Value-F.Inj k z) (same_bytes l m both.0) (v.1 w both.1)
exact_layer (Value-F.Set vs) (Value-F.Set ws) e = ap (λ z. Value-F.Set z) (exact_items _ compare (λ v w. v.1 w) vs ws e)
exact_layer (Value-F.Bag vs) (Value-F.Bag ws) e = ap (λ z. Value-F.Bag z) (exact_items _ compare (λ v w. v.1 w) vs ws e)
exact_layer (Value-F.List vs) (Value-F.List ws) e = ap (λ z. Value-F.List z) (exact_items _ compare (λ v w. v.1 w) vs ws e)
exact_layer x y e = cc

pub compare_exact : IsAntisymmetric compare
compare_exact = ind-Value IsExactAt (λ x y is w e.
    let level : order_layer compare x (out-Value w) ≡ Equal = ap (λ z. order_layer compare z (out-Value w)) (sym (out-roll-Value x)) ∙ (sym (compare-out (roll-Value x) w) ∙ e) in
    let same : x ≡ out-Value w = subst (λ z. order_layer compare z (out-Value w) ≡ Equal → z ≡ out-Value w) is (exact_layer y (out-Value w)) level in
    ap roll-Value same ∙ roll-out-Value w)
