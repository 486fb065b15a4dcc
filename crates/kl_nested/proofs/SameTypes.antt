-- `==` on types is equality.
use Rattle.std.proofs.Common.{◌≡◌, ℕ, List, [], ◌∷◌, Bool, true, false, cond, Option, Some, None, Decides, nat_eq, ◌&&◌, map, refl, sym, ap, ap₂, subst, ◌∙◌, rules}
use Rattle.std.specs.Prelude.{is_some}
use Rattle.std.specs.Cmp.Lexicographic.{pointwise}
use Rattle.std.proofs.lemmas.Bool.{and_parts}
use Rattle.std.proofs.lemmas.Slice.Eq.{bytes_eq-Decides}
use denote.Enum.Bare.{same_true, true_same}
use Rattle.kl_value.specs.contracts.value.Kind.{the_type}
use Rattle.kl_value.specs.contracts.value.KindPartialEq.TheImpl as kinds
use Rattle.kl_value.specs.declared.Kind.{Kind}
use Rattle.kl_type.specs.contracts.ground.TyPartialEq.TheImpl as types
use Rattle.kl_type.specs.contracts.ground.TyPartialEq.TheImpl.Laws as laws
use Rattle.kl_type.specs.declared.ground.Ty.{Ty, Ty-F, out-Ty, roll-Ty, out-roll-Ty, roll-out-Ty, map-Ty, ind-Ty}
use Rattle.kl_heads.specs.Stated.{states_no_other}

-- ---- one level of it

abbrev fields_eq : {X Y : Type 0} → (X → Y → Bool) → List (List ℕ × X) → List (List ℕ × Y) → Bool
fields_eq R fs gs = pointwise (λ f g. pointwise nat_eq f.0 g.0 && R f.1 g.1) fs gs

abbrev eq_layer : {X Y : Type 0} → (X → Y → Bool) → Ty-F X → Ty-F Y → Bool
eq_layer R Ty-F.Bool Ty-F.Bool = true
eq_layer R Ty-F.Int Ty-F.Int = true
eq_layer R Ty-F.Str Ty-F.Str = true
eq_layer R (Ty-F.Rec fs) (Ty-F.Rec gs) = fields_eq R fs gs
eq_layer R (Ty-F.Var fs) (Ty-F.Var gs) = fields_eq R fs gs
eq_layer R (Ty-F.Coll k t) (Ty-F.Coll l u) = kinds.ghosts.eq k l && R t u
eq_layer R x y = false

unfolded_layer : (x y : Ty-F Ty) → laws.unfolded (roll-Ty x) (roll-Ty y) ≡ eq_layer types.ghosts.eq x y
unfolded_layer Ty-F.Bool Ty-F.Bool = simp out-roll-Ty
unfolded_layer Ty-F.Int Ty-F.Int = simp out-roll-Ty
unfolded_layer Ty-F.Str Ty-F.Str = simp out-roll-Ty
unfolded_layer (Ty-F.Rec fs) (Ty-F.Rec gs) = simp out-roll-Ty
unfolded_layer (Ty-F.Var fs) (Ty-F.Var gs) = simp out-roll-Ty
unfolded_layer (Ty-F.Coll k t) (Ty-F.Coll l u) = simp out-roll-Ty
unfolded_layer x y = simp out-roll-Ty

eq-out : (t u : Ty) → types.ghosts.eq t u ≡ eq_layer types.ghosts.eq (out-Ty t) (out-Ty u)
eq-out t u = laws.is t u ∙ (ap₂ laws.unfolded (sym (roll-out-Ty t)) (sym (roll-out-Ty u)) ∙ unfolded_layer (out-Ty t) (out-Ty u))

-- ---- equal types alone are told equal

same_kind : (k l : Kind) → kinds.ghosts.eq k l ≡ true → k ≡ l
same_kind k l = same_true the_type (search rules) k l

abbrev IsExactAt : Ty → Type 0
IsExactAt t = (u : Ty) → types.ghosts.eq t u ≡ true → t ≡ u

abbrev EachExact : Type 0
EachExact = (t : Ty) × IsExactAt t

exact_fields : (fs : List (List ℕ × EachExact)) (gs : List (List ℕ × Ty)) → fields_eq types.ghosts.eq (map (λ f. (f.0, f.1.0)) fs) gs ≡ true → map (λ f. (f.0, f.1.0)) fs ≡ gs
exact_fields [] [] e = refl
exact_fields [] (g ∷ gs) e = absurd cc
exact_fields (f ∷ fs) [] e = absurd cc
exact_fields (f ∷ fs) (g ∷ gs) e =
    let both = and_parts (pointwise nat_eq f.0 g.0 && types.ghosts.eq f.1.0 g.1) (fields_eq types.ghosts.eq (map (λ f. (f.0, f.1.0)) fs) gs) e in
    let here = and_parts (pointwise nat_eq f.0 g.0) (types.ghosts.eq f.1.0 g.1) both.0 in
    ap₂ ◌∷◌ (λ i. ((bytes_eq-Decides f.0 g.0).0 here.0 i, f.1.1 g.1 here.1 i)) (exact_fields fs gs both.1)

exact_layer : (x : Ty-F EachExact) (y : Ty-F Ty) → eq_layer types.ghosts.eq (map-Ty EachExact Ty (λ e. e.0) x) y ≡ true → map-Ty EachExact Ty (λ e. e.0) x ≡ y
exact_layer Ty-F.Bool Ty-F.Bool e = refl
exact_layer Ty-F.Int Ty-F.Int e = refl
exact_layer Ty-F.Str Ty-F.Str e = refl
exact_layer (Ty-F.Rec fs) (Ty-F.Rec gs) e = ap (λ z. Ty-F.Rec z) (exact_fields fs gs e)
exact_layer (Ty-F.Var fs) (Ty-F.Var gs) e = ap (λ z. Ty-F.Var z) (exact_fields fs gs e)
exact_layer (Ty-F.Coll k t) (Ty-F.Coll l u) e = let both = and_parts (kinds.ghosts.eq k l) (types.ghosts.eq t.0 u) e in ap₂ (λ m z. Ty-F.Coll m z) (same_kind k l both.0) (t.1 u both.1)
exact_layer x y e = cc

exact : (t u : Ty) → types.ghosts.eq t u ≡ true → t ≡ u
exact = ind-Ty IsExactAt (λ x y is u e.
    let level : eq_layer types.ghosts.eq x (out-Ty u) ≡ true = ap (λ z. eq_layer types.ghosts.eq z (out-Ty u)) (sym (out-roll-Ty x)) ∙ (sym (eq-out (roll-Ty x) u) ∙ e) in
    let same : x ≡ out-Ty u = subst (λ z. eq_layer types.ghosts.eq z (out-Ty u) ≡ true → z ≡ out-Ty u) is (exact_layer y (out-Ty u)) level in
    ap roll-Ty same ∙ roll-out-Ty u)

-- ---- and each type is told equal to itself

abbrev IsSame : Ty → Type 0
IsSame t = types.ghosts.eq t t ≡ true

abbrev EachSame : Type 0
EachSame = (t : Ty) × IsSame t

both_true : (a b : Bool) → a ≡ true → b ≡ true → a && b ≡ true
both_true true b h k = k
both_true false b h k = absurd cc

same_fields : (fs : List (List ℕ × EachSame)) → fields_eq types.ghosts.eq (map (λ f. (f.0, f.1.0)) fs) (map (λ f. (f.0, f.1.0)) fs) ≡ true
same_fields [] = refl
same_fields (f ∷ fs) = both_true _ _ (both_true _ _ ((bytes_eq-Decides f.0 f.0).1 refl) f.1.1) (same_fields fs)

same_layer : (x : Ty-F EachSame) → eq_layer types.ghosts.eq (map-Ty EachSame Ty (λ e. e.0) x) (map-Ty EachSame Ty (λ e. e.0) x) ≡ true
same_layer Ty-F.Bool = refl
same_layer Ty-F.Int = refl
same_layer Ty-F.Str = refl
same_layer (Ty-F.Rec fs) = same_fields fs
same_layer (Ty-F.Var fs) = same_fields fs
same_layer (Ty-F.Coll k t) = both_true _ _ (true_same the_type k k refl) t.1

itself : (t : Ty) → types.ghosts.eq t t ≡ true
itself = ind-Ty IsSame (λ x y is. eq-out (roll-Ty x) (roll-Ty x) ∙ (λ i. eq_layer types.ghosts.eq (out-roll-Ty x i) (out-roll-Ty x i)) ∙ subst (λ z. eq_layer types.ghosts.eq z z ≡ true) is (same_layer y))

pub same_type : (t u : Ty) → Decides (types.ghosts.eq t u) (t ≡ u)
same_type t u = (exact t u, λ e. ap (types.ghosts.eq t) (sym e) ∙ itself t)

-- what is stated, where it is no other type
pub stated_fits : (item : Ty) (o : Option Ty) (stated : Bool) → stated ≡ is_some o → states_no_other item o ≡ true → o ≡ cond stated (Some item) None
stated_fits item None stated is fits = rw is refl
stated_fits item (Some t) stated is fits = rw is (ap Some ((same_type t item).0 fits))
