-- A part that is replaced by one that means the same, at the same types, leaves the whole as it is.
use Rattle.std.proofs.Common.{◌≡◌, inl, inr, ℕ, zero, suc, Bool, true, false, cond, nat_eq, List, [], ◌∷◌, Option, Some, None, option_and_then, refl, sym, ap, subst, ◌∙◌}
use Rattle.std.specs.Cmp.Lexicographic.{pointwise, same_text}
use Rattle.std.proofs.lemmas.Option.{same_Some}
use Rattle.kl_value.specs.declared.Kind.{Kind}
use Rattle.kl_value.specs.declared.Value.{Value}
use Rattle.kl_type.specs.Ground.{Ground, Row, bool, rec as rec_type, var as var_type, coll, at}
use Rattle.kl_outcome.specs.Outcome.{Name, Outcome, done, over, stuck, drawn, after, recorded, as_variant, part, tagged, opened, cases, if_then, applied, items_of, item_then, collected, union_of}
use Rattle.kl_outcome.specs.Typed.{Inhabits, HaveTypes, OfType}
use Rattle.kl_outcome.proofs.OutcomeTypes.{items_typed, variant_is}
use Rattle.kl_core.specs.Trees.{Tree, Var, Const, Source, Rec, Proj, Inj, Case, Make, Union, Ext, If, Let, Prim, Trees, no_trees, trees, Parts, no_parts, parts, Arms, no_arms, rest, arm}
use Rattle.kl_core.specs.Core.{Tables, core, core_all, core_items, core_parts, core_arms}
use Rattle.kl_core.specs.Typing.{SourceTypes, EachType, AllTypes, PartTypes, ArmTypes, HasArm, HaveSources}
use Rattle.kl_core.proofs.Safety.{safe}
use Rattle.kl_rules.specs.Preserving.{Preserves}
use Rattle.kl_outcome.proofs.Drawing.{drawn_same}
use Rattle.kl_rewrite.specs.Places.{tree_at, field_at, arm_at, part_at, with_tree, with_field, with_arm, with_part, Place, stands_at, in_part, with_at}

after_same : (t : Ground) (o : Outcome) (go to : Value → Outcome) → OfType t o → ((v : Value) → Inhabits t v → go v ≡ to v) → after o go ≡ after o to
after_same t (done v) go to h e = e v h
after_same t (over vs) go to h e = refl
after_same t stuck go to h e = refl

cases_same : (r : Row) (o : Outcome) (go to : Name → Value → Outcome) → OfType (var_type r) o → ((l : Name) (u : Ground) (v : Value) → at l r ≡ Some u → Inhabits u v → go l v ≡ to l v) → cases o go ≡ cases o to
cases_same r o go to h e = after_same (var_type r) o (λ v. opened (as_variant v) go) (λ v. opened (as_variant v) to) h each
  where
    each : (v : Value) → Inhabits (var_type r) v → opened (as_variant v) go ≡ opened (as_variant v) to
    each v i = let f = variant_is r v i in ap (λ c. opened c go) f.3 ∙ e f.0 f.1 f.2 f.4 f.5 ∙ sym (ap (λ c. opened c to) f.3)

-- ---- one part of each form

keeps_proj : (l : Name) (a v : Tree) → Preserves a v → Preserves (Proj l a) (Proj l v)
keeps_proj l a v k = record { typed = λ S G r h. (h.0, k.typed S G (rec_type h.0) h.1, h.2); means = λ S T G env r told e h. ap (part l) (k.means S T G env (rec_type h.0) told e h.1) }

keeps_inj : (l : Name) (a v : Tree) → Preserves a v → Preserves (Inj l a) (Inj l v)
keeps_inj l a v k = record { typed = λ S G r h. (h.0, h.1, h.2, h.3, h.4, k.typed S G h.1 h.5); means = λ S T G env r told e h. ap (tagged l) (k.means S T G env h.1 told e h.5) }

keeps_first : (a b v : Tree) → Preserves a v → Preserves (Union a b) (Union v b)
keeps_first a b v k = record { typed = λ S G r h. (h.0, h.1, h.2, k.typed S G r h.3, h.4); means = λ S T G env r told e h. ap (λ o. union_of o (core T b env)) (k.means S T G env r told e h.3) }

keeps_second : (a b v : Tree) → Preserves b v → Preserves (Union a b) (Union a v)
keeps_second a b v k = record { typed = λ S G r h. (h.0, h.1, h.2, h.3, k.typed S G r h.4); means = λ S T G env r told e h. ap (union_of (core T a env)) (k.means S T G env r told e h.4) }

keeps_body : (i : Kind) (b s v : Tree) → Preserves b v → Preserves (Ext i b s) (Ext i v s)
keeps_body i b s v k = record {
  typed = λ S G r h. (h.0, h.1, h.2, h.3, h.4, k.typed S (h.2 ∷ G) r h.5);
  means = λ S T G env r told e h.
      ap (collected i) (drawn_same h.2 (items_of (core T s env)) _ _ (items_typed h.1 h.2 (core T s env) (safe S T told s G env _ e h.4)) (λ w j. ap items_of (k.means S T (h.2 ∷ G) (w ∷ env) r told (j, e) h.5)));
}

keeps_source : (i : Kind) (b s v : Tree) → Preserves s v → Preserves (Ext i b s) (Ext i b v)
keeps_source i b s v k = record {
  typed = λ S G r h. (h.0, h.1, h.2, h.3, k.typed S G (coll h.1 h.2) h.4, h.5);
  means = λ S T G env r told e h. ap (λ o. collected i (drawn (items_of o) (λ w. items_of (core T b (w ∷ env))))) (k.means S T G env (coll h.1 h.2) told e h.4);
}

keeps_test : (a b c v : Tree) → Preserves a v → Preserves (If a b c) (If v b c)
keeps_test a b c v k = record { typed = λ S G r h. (k.typed S G bool h.0, h.1, h.2); means = λ S T G env r told e h. ap (λ o. if_then o (core T b env) (core T c env)) (k.means S T G env bool told e h.0) }

keeps_yes : (a b c v : Tree) → Preserves b v → Preserves (If a b c) (If a v c)
keeps_yes a b c v k = record { typed = λ S G r h. (h.0, k.typed S G r h.1, h.2); means = λ S T G env r told e h. ap (λ o. if_then (core T a env) o (core T c env)) (k.means S T G env r told e h.1) }

keeps_no : (a b c v : Tree) → Preserves c v → Preserves (If a b c) (If a b v)
keeps_no a b c v k = record { typed = λ S G r h. (h.0, h.1, k.typed S G r h.2); means = λ S T G env r told e h. ap (if_then (core T a env) (core T b env)) (k.means S T G env r told e h.2) }

keeps_bound : (a b v : Tree) → Preserves a v → Preserves (Let a b) (Let v b)
keeps_bound a b v k = record { typed = λ S G r h. (h.0, k.typed S G h.0 h.1, h.2); means = λ S T G env r told e h. ap (λ o. after o (λ w. core T b (w ∷ env))) (k.means S T G env h.0 told e h.1) }

keeps_inside : (a b v : Tree) → Preserves b v → Preserves (Let a b) (Let a v)
keeps_inside a b v k = record {
  typed = λ S G r h. (h.0, h.1, k.typed S (h.0 ∷ G) r h.2);
  means = λ S T G env r told e h. after_same h.0 (core T a env) _ _ (safe S T told a G env h.0 e h.1) (λ w j. k.means S T (h.0 ∷ G) (w ∷ env) r told (j, e) h.2);
}

keeps_subject : (a v : Tree) (bs : Arms) → Preserves a v → Preserves (Case a bs) (Case v bs)
keeps_subject a v bs k = record {
  typed = λ S G r h. (h.0, k.typed S G (var_type h.0) h.1, h.2, h.3);
  means = λ S T G env r told e h. ap (λ o. cases o (λ l w. core_arms T bs l w env)) (k.means S T G env (var_type h.0) told e h.1);
}

-- ---- lists of parts

module _ (v a : Tree) (k : Preserves a v) where
  here : (b : Tree) → Some b ≡ Some a → Preserves b v
  here b e = subst (λ x. Preserves x v) (sym (same_Some b a e)) k

  each_kept : (S : SourceTypes) (G : List Ground) (ts : Trees) (i : ℕ) (s : Ground) → tree_at ts i ≡ Some a → EachType S G ts s → EachType S G (with_tree ts i v) s
  each_kept S G no_trees i s e h = h
  each_kept S G (trees t ts) zero s e h = ((here t e).typed S G s h.0, h.1)
  each_kept S G (trees t ts) (suc i) s e h = (h.0, each_kept S G ts i s e h.1)

  all_kept : (S : SourceTypes) (G : List Ground) (ts : Trees) (i : ℕ) (ss : List Ground) → tree_at ts i ≡ Some a → AllTypes S G ts ss → AllTypes S G (with_tree ts i v) ss
  all_kept S G no_trees i ss e h = h
  all_kept S G (trees t ts) zero ss e h = (h.0, h.1, h.2, (here t e).typed S G h.0 h.3, h.4)
  all_kept S G (trees t ts) (suc i) ss e h = (h.0, h.1, h.2, h.3, all_kept S G ts i h.1 e h.4)

  parts_kept : (S : SourceTypes) (G : List Ground) (ps : Parts) (i : ℕ) (r : Row) → field_at ps i ≡ Some a → PartTypes S G ps r → PartTypes S G (with_field ps i v) r
  parts_kept S G no_parts i r e h = h
  parts_kept S G (parts l t ps) zero r e h = (h.0, h.1, h.2, (here t e).typed S G h.0 h.3, h.4)
  parts_kept S G (parts l t ps) (suc i) r e h = (h.0, h.1, h.2, h.3, parts_kept S G ps i h.1 e h.4)

  arms_kept : (S : SourceTypes) (G : List Ground) (bs : Arms) (i : ℕ) (r : Row) (s : Ground) → arm_at bs i ≡ Some a → ArmTypes S G bs r s → ArmTypes S G (with_arm bs i v) r s
  arms_kept S G no_arms i r s e h = h
  arms_kept S G (rest c) zero r s e h = (here c e).typed S G s h
  arms_kept S G (rest c) (suc i) r s e h = absurd cc
  arms_kept S G (arm l b bs) zero r s e h = (h.0, h.1, (here b e).typed S (h.0 ∷ G) s h.2, h.3)
  arms_kept S G (arm l b bs) (suc i) r s e h = (h.0, h.1, h.2, arms_kept S G bs i r s e h.3)

  arm_there : (l : Name) (bs : Arms) (i : ℕ) → HasArm l bs → HasArm l (with_arm bs i v)
  arm_there l no_arms i h = h
  arm_there l (rest c) i h = tt
  arm_there l (arm m b bs) zero h = h
  arm_there l (arm m b bs) (suc i) (inl e) = inl e
  arm_there l (arm m b bs) (suc i) (inr h) = inr (arm_there l bs i h)

  module _ (S : SourceTypes) (T : Tables) (told : HaveSources S T) (G : List Ground) (env : List Value) (e : HaveTypes G env) where
    items_mean : (ts : Trees) (i : ℕ) (s : Ground) → tree_at ts i ≡ Some a → EachType S G ts s → core_items T (with_tree ts i v) env ≡ core_items T ts env
    items_mean no_trees i s f h = refl
    items_mean (trees t ts) zero s f h = ap (λ o. item_then o (core_items T ts env)) ((here t f).means S T G env s told e h.0)
    items_mean (trees t ts) (suc i) s f h = ap (item_then (core T t env)) (items_mean ts i s f h.1)

    all_mean : (ts : Trees) (i : ℕ) (ss : List Ground) → tree_at ts i ≡ Some a → AllTypes S G ts ss → core_all T (with_tree ts i v) env ≡ core_all T ts env
    all_mean no_trees i ss f h = refl
    all_mean (trees t ts) zero ss f h = ap (λ o. o ∷ core_all T ts env) ((here t f).means S T G env h.0 told e h.3)
    all_mean (trees t ts) (suc i) ss f h = ap (λ os. core T t env ∷ os) (all_mean ts i h.1 f h.4)

    parts_mean : (ps : Parts) (i : ℕ) (r : Row) → field_at ps i ≡ Some a → PartTypes S G ps r → core_parts T (with_field ps i v) env ≡ core_parts T ps env
    parts_mean no_parts i r f h = refl
    parts_mean (parts l t ps) zero r f h = ap (λ o. (l, o) ∷ core_parts T ps env) ((here t f).means S T G env h.0 told e h.3)
    parts_mean (parts l t ps) (suc i) r f h = ap (λ os. (l, core T t env) ∷ os) (parts_mean ps i h.1 f h.4)

    arms_mean : (bs : Arms) (i : ℕ) (r : Row) (s : Ground) (l : Name) (u : Ground) (w : Value) → arm_at bs i ≡ Some a → ArmTypes S G bs r s → at l r ≡ Some u → Inhabits u w
        → core_arms T (with_arm bs i v) l w env ≡ core_arms T bs l w env
    arms_mean no_arms i r s l u w f h g j = refl
    arms_mean (rest c) zero r s l u w f h g j = (here c f).means S T G env s told e h
    arms_mean (rest c) (suc i) r s l u w f h g j = absurd cc
    arms_mean (arm m b bs) zero r s l u w f h g j = by_bit (pointwise nat_eq l m) refl
      where
        by_bit : (x : Bool) → pointwise nat_eq l m ≡ x → cond x (core T v (w ∷ env)) (core_arms T bs l w env) ≡ cond x (core T b (w ∷ env)) (core_arms T bs l w env)
        by_bit true q =
            let same : u ≡ h.0 = same_Some u h.0 (sym g ∙ ap (λ x. at x r) (same_text l m (sym q)) ∙ h.1) in
            (here b f).means S T (h.0 ∷ G) (w ∷ env) s told (subst (λ t. Inhabits t w) same j, e) h.2
        by_bit false q = refl
    arms_mean (arm m b bs) (suc i) r s l u w f h g j = ap (cond (pointwise nat_eq l m) (core T b (w ∷ env))) (arms_mean bs i r s l u w f h.3 g j)

  keeps_field : (ps : Parts) (i : ℕ) → field_at ps i ≡ Some a → Preserves (Rec ps) (Rec (with_field ps i v))
  keeps_field ps i f = record {
    typed = λ S G r h. (h.0, h.1, h.2, parts_kept S G ps i h.0 f h.3);
    means = λ S T G env r told e h. ap recorded (parts_mean S T told G env e ps i h.0 f h.3);
  }

  keeps_item : (j : Kind) (ts : Trees) (i : ℕ) → tree_at ts i ≡ Some a → Preserves (Make j ts) (Make j (with_tree ts i v))
  keeps_item j ts i f = record {
    typed = λ S G r h. (h.0, h.1, h.2, each_kept S G ts i h.0 f h.3);
    means = λ S T G env r told e h. ap (collected j) (items_mean S T told G env e ts i h.0 f h.3);
  }

  keeps_argument : (c : ℕ) (ts : Trees) (i : ℕ) → tree_at ts i ≡ Some a → Preserves (Prim c ts) (Prim c (with_tree ts i v))
  keeps_argument c ts i f = record {
    typed = λ S G r h. (h.0, all_kept S G ts i h.0 f h.1, h.2);
    means = λ S T G env r told e h. ap (applied c) (all_mean S T told G env e ts i h.0 f h.1);
  }

  keeps_arm : (b : Tree) (bs : Arms) (i : ℕ) → arm_at bs i ≡ Some a → Preserves (Case b bs) (Case b (with_arm bs i v))
  keeps_arm b bs i f = record {
    typed = λ S G r h. (h.0, h.1, λ l q. arm_there l bs i (h.2 l q), arms_kept S G bs i h.0 r f h.3);
    means = λ S T G env r told e h.
        cases_same h.0 (core T b env) _ _ (safe S T told b G env _ e h.1) (λ l u w g j. arms_mean S T told G env e bs i h.0 r l u w f h.3 g j);
  }

  -- a part of a term
  pub keeps_part : (t : Tree) (i : ℕ) → part_at t i ≡ Some a → Preserves t (with_part t i v)
  keeps_part (Var x) i f = absurd cc
  keeps_part (Const c) i f = absurd cc
  keeps_part (Source n) i f = absurd cc
  keeps_part (Rec ps) i f = keeps_field ps i f
  keeps_part (Proj l b) zero f = keeps_proj l b v (here b f)
  keeps_part (Proj l b) (suc i) f = absurd cc
  keeps_part (Inj l b) zero f = keeps_inj l b v (here b f)
  keeps_part (Inj l b) (suc i) f = absurd cc
  keeps_part (Case b bs) zero f = keeps_subject b v bs (here b f)
  keeps_part (Case b bs) (suc i) f = keeps_arm b bs i f
  keeps_part (Make j ts) i f = keeps_item j ts i f
  keeps_part (Union b c) zero f = keeps_first b c v (here b f)
  keeps_part (Union b c) (suc zero) f = keeps_second b c v (here c f)
  keeps_part (Union b c) (suc (suc i)) f = absurd cc
  keeps_part (Ext j b s) zero f = keeps_body j b s v (here b f)
  keeps_part (Ext j b s) (suc zero) f = keeps_source j b s v (here s f)
  keeps_part (Ext j b s) (suc (suc i)) f = absurd cc
  keeps_part (If b c d) zero f = keeps_test b c d v (here b f)
  keeps_part (If b c d) (suc zero) f = keeps_yes b c d v (here c f)
  keeps_part (If b c d) (suc (suc zero)) f = keeps_no b c d v (here d f)
  keeps_part (If b c d) (suc (suc (suc i))) f = absurd cc
  keeps_part (Let b c) zero f = keeps_bound b c v (here b f)
  keeps_part (Let b c) (suc zero) f = keeps_inside b c v (here c f)
  keeps_part (Let b c) (suc (suc i)) f = absurd cc
  keeps_part (Prim c ts) i f = keeps_argument c ts i f

-- and what stands at a place
pub keeps_place : (p : Place) (t a v : Tree) → stands_at t p ≡ Some a → Preserves a v → Preserves t (with_at t p v)
keeps_place [] t a v e k = subst (λ x. Preserves x v) (sym (same_Some t a e)) k
keeps_place (i ∷ p) t a v e k = by_part (part_at t i) refl e (λ b f. keeps_place p b a v f k)
  where
    by_part : (o : Option Tree) → part_at t i ≡ o → option_and_then (λ b. stands_at b p) o ≡ Some a → ((b : Tree) → stands_at b p ≡ Some a → Preserves b (with_at b p v)) → Preserves t (in_part t i o (λ b. with_at b p v))
    by_part (Some b) f g next = keeps_part (with_at b p v) b (next b g) t i f
    by_part None f g next = absurd cc

-- ---- steps

pub keeps_same : (t : Tree) → Preserves t t
keeps_same t = record { typed = λ S G r h. h; means = λ S T G env r told e h. refl }

pub keeps_then : (t u w : Tree) → Preserves t u → Preserves u w → Preserves t w
keeps_then t u w k l = record {
  typed = λ S G r h. l.typed S G r (k.typed S G r h);
  means = λ S T G env r told e h. l.means S T G env r told e (k.typed S G r h) ∙ k.means S T G env r told e h;
}
