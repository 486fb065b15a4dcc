-- Records: the shapes of their fields, one by one.
use Rattle.std.proofs.Common.{◌≡◌, ℕ, zero, suc, ◌+◌, ◌<◌, Bool, true, false, ◌&&◌, List, [], ◌∷◌, ◌++◌, length, get_or, take, map, refl, sym, ap, subst, ◌∙◌, arith, nat_eq, true≢false}
use Rattle.std.proofs.lemmas.List.{map-append, take_more}
use Rattle.std.proofs.lemmas.List.Folds.{list_all-append}
use Rattle.std.specs.Cmp.Lexicographic.{pointwise}
use Rattle.kl_value.specs.declared.Value.{Value}
use Rattle.kl_type.specs.Has.{fields_have, has_type}
use Rattle.kl_type.specs.declared.ground.Ty.{Ty}
use Rattle.kl_shape.specs.Shapes.{fits, sound}
use Rattle.kl_shape.specs.Joining.{are_sound}
use Rattle.kl_shape.specs.declared.shape.Shape.{Shape}
use Rattle.kl_shape.specs.declared.shape.Shape.TheVariants as shape
use Rattle.kl_shape.proofs.ShapeLemmas.{fits-Unseen}

abbrev pub Shapes : Type 0
Shapes = List (List ℕ × Shape)

abbrev pub Values : Type 0
Values = List (List ℕ × Value)

abbrev pub Types : Type 0
Types = List (List ℕ × Ty)

-- each shape has the types that a shape and a value have
abbrev pub AreJoined : Shapes → Values → Shapes → Type 0
AreJoined [] [] [] = Unit {0}
AreJoined (s ∷ ss) (f ∷ fs) (j ∷ js) = (s.0 ≡ f.0) × (j.0 ≡ f.0) × ((t : Ty) → fits j.1 t ≡ (fits s.1 t && has_type f.1 t)) × AreJoined ss fs js
AreJoined ss fs js = ⊥

pub joined_more : (ss : Shapes) (fs : Values) (js : Shapes) (s : List ℕ × Shape) (f : List ℕ × Value) (j : List ℕ × Shape) → AreJoined ss fs js
    → s.0 ≡ f.0 → j.0 ≡ f.0 → ((t : Ty) → fits j.1 t ≡ (fits s.1 t && has_type f.1 t)) → AreJoined (ss ++ s ∷ []) (fs ++ f ∷ []) (js ++ j ∷ [])
joined_more [] [] [] s f j all one two joins = (one, two, joins, tt)
joined_more (x ∷ ss) (y ∷ fs) (z ∷ js) s f j all one two joins = (all.0, all.1, all.2, joined_more ss fs js s f j all.3 one two joins)
joined_more [] [] (z ∷ js) s f j all one two joins = absurd all
joined_more [] (y ∷ fs) [] s f j all one two joins = absurd all
joined_more [] (y ∷ fs) (z ∷ js) s f j all one two joins = absurd all
joined_more (x ∷ ss) [] [] s f j all one two joins = absurd all
joined_more (x ∷ ss) [] (z ∷ js) s f j all one two joins = absurd all
joined_more (x ∷ ss) (y ∷ fs) [] s f j all one two joins = absurd all

regroup : (a b c d e : Bool) → (a && (b && c)) && (d && e) ≡ ((a && b) && d) && ((a && c) && e)
regroup true true true true e = refl
regroup true true true false e = refl
regroup true true false d e = elim d as (λ d. false ≡ (d && false)) [ true ↦ refl | false ↦ refl ]
regroup true false c d e = refl
regroup false b c d e = refl

-- the types of the record of these shapes
pub joined_fields : (ss : Shapes) (fs : Values) (js : Shapes) → AreJoined ss fs js → (ts : Types) → fields_have fits js ts ≡ (fields_have fits ss ts && fields_have has_type fs ts)
joined_fields [] [] [] all [] = refl
joined_fields [] [] [] all (t ∷ ts) = refl
joined_fields (s ∷ ss) (f ∷ fs) (j ∷ js) all [] = refl
joined_fields (s ∷ ss) (f ∷ fs) (j ∷ js) all (t ∷ ts) =
    (λ i. (pointwise nat_eq (all.1 i) t.0 && all.2 t.1 i) && joined_fields ss fs js all.3 ts i)
    ∙ regroup (pointwise nat_eq f.0 t.0) (fits s.1 t.1) (has_type f.1 t.1) (fields_have fits ss ts) (fields_have has_type fs ts)
    ∙ (λ i. ((pointwise nat_eq (sym all.0 i) t.0 && fits s.1 t.1) && fields_have fits ss ts) && ((pointwise nat_eq f.0 t.0 && has_type f.1 t.1) && fields_have has_type fs ts))
joined_fields [] [] (z ∷ js) all ts = absurd all
joined_fields [] (y ∷ fs) [] all ts = absurd all
joined_fields [] (y ∷ fs) (z ∷ js) all ts = absurd all
joined_fields (x ∷ ss) [] [] all ts = absurd all
joined_fields (x ∷ ss) [] (z ∷ js) all ts = absurd all
joined_fields (x ∷ ss) (y ∷ fs) [] all ts = absurd all

-- ---- records without a type in common

pub both_false : (a b c d : Bool) → a && c ≡ false → (a && b) && (c && d) ≡ false
both_false true b true d h = absurd (true≢false h)
both_false true true false d h = refl
both_false true false false d h = refl
both_false false b c d h = refl

pub rest_false : (a b c d : Bool) → b && d ≡ false → (a && b) && (c && d) ≡ false
rest_false true b true d h = h
rest_false true true false d h = refl
rest_false true false false d h = refl
rest_false false b c d h = refl

pub unlike : (ss : Shapes) (fs : Values) → (length ss ≡ length fs → ⊥) → (ts : Types) → fields_have fits ss ts && fields_have has_type fs ts ≡ false
unlike [] [] other ts = absurd (other refl)
unlike [] (f ∷ fs) other [] = refl
unlike [] (f ∷ fs) other (t ∷ ts) = refl
unlike (s ∷ ss) [] other [] = refl
unlike (s ∷ ss) [] other (t ∷ ts) = elim ((pointwise nat_eq s.0 t.0 && fits s.1 t.1) && fields_have fits ss ts) as (λ b. (b && false) ≡ false) [ true ↦ refl | false ↦ refl ]
unlike (s ∷ ss) (f ∷ fs) other [] = refl
unlike (s ∷ ss) (f ∷ fs) other (t ∷ ts) =
    rest_false (pointwise nat_eq s.0 t.0 && fits s.1 t.1) (fields_have fits ss ts) (pointwise nat_eq f.0 t.0 && has_type f.1 t.1) (fields_have has_type fs ts)
    (unlike ss fs (λ e. other (ap suc e)) ts)

-- one field has no type under one label
abbrev pub IsApart : List ℕ × Shape → List ℕ × Value → Type 0
IsApart s f = (u : List ℕ × Ty) → (pointwise nat_eq s.0 u.0 && fits s.1 u.1) && (pointwise nat_eq f.0 u.0 && has_type f.1 u.1) ≡ false

pub apart_at : (ss : Shapes) (fs : Values) (i : ℕ) (s : List ℕ × Shape) (f : List ℕ × Value) → i < length ss → i < length fs → s ≡ get_or ss i s → f ≡ get_or fs i f → IsApart s f
    → (ts : Types) → fields_have fits ss ts && fields_have has_type fs ts ≡ false
apart_at [] fs i s f less less' is is' apart ts = absurd (omega arith)
apart_at (x ∷ ss) [] i s f less less' is is' apart ts = absurd (omega arith)
apart_at (x ∷ ss) (y ∷ fs) i s f less less' is is' apart [] = refl
apart_at (x ∷ ss) (y ∷ fs) zero s f less less' is is' apart (t ∷ ts) =
    let here : IsApart x y = subst (λ g. IsApart x g) is' (subst (λ r. IsApart r f) is apart) in
    both_false (pointwise nat_eq x.0 t.0 && fits x.1 t.1) (fields_have fits ss ts) (pointwise nat_eq y.0 t.0 && has_type y.1 t.1) (fields_have has_type fs ts) (here t)
apart_at (x ∷ ss) (y ∷ fs) (suc i) s f less less' is is' apart (t ∷ ts) =
    rest_false (pointwise nat_eq x.0 t.0 && fits x.1 t.1) (fields_have fits ss ts) (pointwise nat_eq y.0 t.0 && has_type y.1 t.1) (fields_have has_type fs ts)
    (apart_at ss fs i s f (omega (arith, less)) (omega (arith, less')) is is' apart ts)

-- ---- records that were not seen before

abbrev pub unseen : List ℕ × Value → List ℕ × Shape
unseen f = (f.0, shape.Unseen)

absorb : (a b c d : Bool) → (c && d) ≡ d → ((a && true) && c) && ((a && b) && d) ≡ (a && b) && d
absorb true true c d e = e
absorb true false true d e = refl
absorb true false false d e = refl
absorb false b c d e = refl

-- any types stand in the gaps
pub unseen_fields : (fs : Values) (ts : Types) → fields_have fits (map unseen fs) ts && fields_have has_type fs ts ≡ fields_have has_type fs ts
unseen_fields [] [] = refl
unseen_fields [] (t ∷ ts) = refl
unseen_fields (f ∷ fs) [] = refl
unseen_fields (f ∷ fs) (t ∷ ts) =
    (λ i. ((pointwise nat_eq f.0 t.0 && fits-Unseen t.1 i) && fields_have fits (map unseen fs) ts) && ((pointwise nat_eq f.0 t.0 && has_type f.1 t.1) && fields_have has_type fs ts))
    ∙ absorb (pointwise nat_eq f.0 t.0) (has_type f.1 t.1) (fields_have fits (map unseen fs) ts) (fields_have has_type fs ts) (unseen_fields fs ts)

-- ---- soundness

pub sound_more : (js : Shapes) (j : List ℕ × Shape) → are_sound js ≡ true → sound j.1 ≡ true → are_sound (js ++ j ∷ []) ≡ true
sound_more js j all one = list_all-append (λ (f : List ℕ × Shape). sound f.1) js (j ∷ []) ∙ (λ i. all i && (one i && true))

-- ---- one more turn

pub mapped_more : (fs : Values) (i : ℕ) (f : List ℕ × Value) → i < length fs → f ≡ get_or fs i f → map unseen (take (i + 1) fs) ≡ map unseen (take i fs) ++ unseen f ∷ []
mapped_more fs i f less is = ap (map unseen) (take_more fs i f less ∙ (λ k. take i fs ++ sym is k ∷ [])) ∙ map-append unseen (take i fs) (f ∷ [])
