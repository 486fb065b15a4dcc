-- Each rule keeps types, items and ends.
use Rattle.std.proofs.Common.{◌≡◌, ◌≢◌, ℕ, zero, suc, Bool, true, false, cond, nat_eq, List, [], ◌∷◌, Option, Some, None, IsSome, refl, sym, ap, ap₂, subst, ◌∙◌}
use Rattle.std.specs.Cmp.Lexicographic.{pointwise, same_text}
use mathlib.Core.Path.{fun_ext}
use Rattle.std.proofs.lemmas.Option.{same_Some}
use Rattle.kl_base.specs.Fields.{field}
use Rattle.kl_value.specs.declared.Kind.{Kind}
use Rattle.kl_value.specs.declared.Kind.TheVariants as kind
use Rattle.kl_value.specs.declared.Value.{Value}
use Rattle.kl_value.specs.declared.Value.TheVariants as value
use Rattle.kl_value.specs.Views.{as_bool, bool_layer}
use Rattle.kl_type.specs.Ground.{Ground, Row, bool, rec as rec_type, var as var_type, coll, row, at}
use Rattle.kl_outcome.specs.Outcome.{Name, Outcome, done, over, stuck, fine, Flow, more, stop, flow, followed, drawn, after, outcome_of, parts_then, record_layer, variant_layer, field_in, part, tagged, opened, cases, chosen, if_then, items_at_all, items_of, item_then, collected, union_of}
use Rattle.kl_outcome.specs.Typed.{Inhabits, HaveTypes, OfType}
use Rattle.kl_outcome.proofs.OutcomeTypes.{FlowOf, drawn_typed, items_typed, items_inhabit}
use Rattle.kl_core.specs.Trees.{Tree, Var, Const, Source, Rec, Proj, Inj, Case, Make, Union, Ext, If, Let, no_trees, trees, Parts, no_parts, parts, Arms, no_arms, rest, arm}
use Rattle.kl_core.specs.Core.{Tables, core, core_parts, core_arms}
use Rattle.kl_core.specs.Positions.{shift_of, subst_of}
use Rattle.kl_core.specs.Counts.{total_in, total_parts, fits_in}
use Rattle.kl_core.specs.Typing.{SourceTypes, CoreTypes, PartTypes, ArmTypes, HaveSources}
use Rattle.kl_core.proofs.Meanings.{shift_keeps, subst_keeps}
use Rattle.kl_core.proofs.TypeLaws.{shift_typed, subst_typed}
use Rattle.kl_core.proofs.Proper.{types_proper}
use Rattle.kl_core.proofs.Safety.{safe}
use Rattle.kl_rules.specs.Guards.{IsPath, IsCheap}
use Rattle.kl_rules.specs.Rules.{empty_of, VerticalFusion, HorizontalFusion, FilterPromotion, EmptySource, SingletonSource, ConditionalSource, LetSource, DeadLet, CopyPropagation, InlinedOnce, ScalarReplacement, LetOfLet, KnownField, KnownVariant, KnownCondition, NestedCondition, ConditionOrder, part_of, branch_of, row_of, RewriteRule}
use Rattle.kl_rules.specs.Preserving.{Preserves}
use Rattle.kl_outcome.proofs.Drawing.{kept_none, items_canonical, followed_is, drawn_collected, drawn_drawn, followed_fine, drawn_beside, drawn_same, typed_collected}
use Rattle.kl_core.proofs.DrawnOrder.{drawn_as_they_come}
use Rattle.kl_outcome.proofs.Having.{both_true}
use Rattle.kl_core.proofs.Totals.{HasValue, total_value}
use Rattle.kl_core.proofs.Lowering.{lowered_typed}
use Rattle.kl_rules.proofs.OneType.{one_type}
use Rattle.kl_rules.proofs.Unpacking.{unpacks_keep}

-- a law is one of what a rule makes of its left side
keeps_at : {t u x y : Tree} → t ≡ x → u ≡ y → Preserves x y → Preserves t u
keeps_at {t} {u} {x} {y} e f h = subst (λ z. Preserves z u) (sym e) (subst (λ z. Preserves x z) (sym f) h)

-- ---- small facts

none_in : (k : Kind) → items_of (collected k (stop fine)) ≡ stop fine
none_in kind.Set = items_canonical kind.Set []
none_in kind.Bag = items_canonical kind.Bag []
none_in kind.List = items_canonical kind.List []

one_in : (k : Kind) (v : Value) → items_of (collected k (more v (stop fine))) ≡ more v (stop fine)
one_in kind.Set v = items_canonical kind.Set (v ∷ [])
one_in kind.Bag v = items_canonical kind.Bag (v ∷ [])
one_in kind.List v = items_canonical kind.List (v ∷ [])

nothing_drawn : (vs : List Value) → drawn (flow vs fine) (λ v. stop fine) ≡ stop fine
nothing_drawn [] = refl
nothing_drawn (v ∷ vs) = nothing_drawn vs

-- a truth value, as a condition reads it
abbrev IsBit : Outcome → Type 0
IsBit o = (b : Bool) × ((p q : Outcome) → if_then o p q ≡ cond b p q)

bit_of : (o : Outcome) → HasValue bool o → IsBit o
bit_of o h = by_bool (as_bool h.0) refl h.2.0
  where
    by_bool : (b : Option Bool) → as_bool h.0 ≡ b → IsSome b → IsBit o
    by_bool (Some b) e s = (b, λ p q. ap (λ x. if_then x p q) h.1 ∙ ap (λ x. chosen x p q) e ∙ chosen_is b p q)
      where
        chosen_is : (b : Bool) (p q : Outcome) → chosen (Some b) p q ≡ cond b p q
        chosen_is b p q = refl
    by_bool None e s = cc

module _ (T : Tables) where
  -- under one binder more, and behind one
  under : (a : Tree) (env : List Value) (v w : Value) → core T (shift_of a 1 1) (v ∷ w ∷ env) ≡ core T a (v ∷ env)
  under a env v w = shift_keeps T a (v ∷ []) (w ∷ []) env 1 1 refl refl

  outside : (a : Tree) (env : List Value) (v : Value) → core T (shift_of a 0 1) (v ∷ env) ≡ core T a env
  outside a env v = shift_keeps T a [] (v ∷ []) env 0 1 refl refl

-- ---- 1

fuse : (k j : Kind) (a b s : Tree) → fits_in j k ≡ true → Preserves (Ext k a (Ext j b s)) (Ext k (Ext k (shift_of a 1 1) b) s)
fuse k j a b s fits = record {
  typed = λ S G r h. (h.0, h.4.1, h.4.2, h.3, h.4.4, (h.0, h.1, h.2, h.3, h.4.5, shift_typed S a (h.2 ∷ []) (h.4.2 ∷ []) G r 1 1 refl refl h.5));
  means = λ S T G env r told e h. (
      let f : Flow = items_of (core T s env) in
      let inner : Value → Flow = λ w. items_of (core T b (w ∷ env)) in
      let go : Value → Flow = λ v. items_of (core T a (v ∷ env)) in
      let good : (v : Value) → Inhabits h.2 v → FlowOf h.0 (go v) = λ v i. items_typed k h.0 (core T a (v ∷ env)) (subst (λ q. OfType q (core T a (v ∷ env))) h.3 (safe S T told a (h.2 ∷ G) (v ∷ env) r (i, e) h.5)) in
      let outer : FlowOf h.4.2 f = items_typed h.4.1 h.4.2 (core T s env) (safe S T told s G env _ e h.4.4) in
      let whole : FlowOf h.2 (drawn f inner) = drawn_typed h.2 h.4.2 f inner outer (λ w i. items_typed h.1 h.2 (core T b (w ∷ env)) (safe S T told b (h.4.2 ∷ G) (w ∷ env) _ (i, e) h.4.5)) in
      ap (λ g. collected k (drawn f g)) (fun_ext λ w. ap (λ g. items_of (collected k (drawn (inner w) g))) (fun_ext λ v. ap items_of (under T a env v w)))
      ∙ drawn_collected k f (λ w. drawn (inner w) go)
      ∙ ap (collected k) (sym (drawn_drawn f inner go))
      ∙ sym (drawn_as_they_come h.0 h.2 go good j k (drawn f inner) fits whole));
}

pub fuses_keep : (t u : Tree) → VerticalFusion t u → Preserves t u
fuses_keep t u h = keeps_at h.5 h.6 (fuse h.0 h.1 h.2 h.3 h.4 h.7)

-- ---- 2

merge : (k : Kind) (a b s : Tree) → k ≢ kind.List → ((S : SourceTypes) (G : List Ground) (r q : Ground) → CoreTypes S G s r → CoreTypes S G s q → r ≡ q)
    → Preserves (Union (Ext k a s) (Ext k b s)) (Ext k (Union a b) s)
merge k a b s n one = record {
  typed = λ S G r h. (let g = second S G r h in (h.3.0, h.3.1, h.3.2, h.3.3, h.3.4, (k, h.3.0, h.3.3, h.3.5, g)));
  means = λ S T G env r told e h. (
      let f : Flow = items_of (core T s env) in
      let go : Value → Flow = λ v. items_of (core T a (v ∷ env)) in
      let to : Value → Flow = λ v. items_of (core T b (v ∷ env)) in
      let t : Ground = h.3.0 in
      let u : Ground = h.3.2 in
      let first_of : (v : Value) → Inhabits u v → OfType (coll k t) (core T a (v ∷ env)) = λ v i. subst (λ q. OfType q (core T a (v ∷ env))) h.3.3 (safe S T told a (u ∷ G) (v ∷ env) r (i, e) h.3.5) in
      let second_of : (v : Value) → Inhabits u v → OfType (coll k t) (core T b (v ∷ env)) = λ v i. subst (λ q. OfType q (core T b (v ∷ env))) h.3.3 (safe S T told b (u ∷ G) (v ∷ env) r (i, e) (second S G r h)) in
      let outer : FlowOf u f = items_typed h.3.1 u (core T s env) (safe S T told s G env _ e h.3.4) in
      let each : (v : Value) → Inhabits u v → items_of (union_of (core T a (v ∷ env)) (core T b (v ∷ env))) ≡ items_of (collected k (followed (go v) (to v))) = λ v i.
      ap items_of (sym (followed_is k (go v) (to v) ∙ ap₂ union_of (typed_collected k t (core T a (v ∷ env)) (first_of v i)) (typed_collected k t (core T b (v ∷ env)) (second_of v i)))) in
      ap (collected k) (drawn_same u f _ _ outer each)
      ∙ drawn_collected k f (λ v. followed (go v) (to v))
      ∙ sym (drawn_beside k t u go (λ v i. items_typed k t (core T a (v ∷ env)) (first_of v i)) to (λ v i. items_typed k t (core T b (v ∷ env)) (second_of v i)) n f outer)
      ∙ followed_is k (drawn f go) (drawn f to));
}
  where
    second : (S : SourceTypes) (G : List Ground) (r : Ground) (h : CoreTypes S G (Union (Ext k a s) (Ext k b s)) r) → CoreTypes S (h.3.2 ∷ G) b r
    second S G r h =
        let e = one S G (coll h.4.1 h.4.2) (coll h.3.1 h.3.2) h.4.4 h.3.4 in
        let same : h.4.2 ≡ h.3.2 = cc in
        subst (λ w. CoreTypes S (w ∷ G) b r) same h.4.5

pub merges_keep : (t u : Tree) → HorizontalFusion t u → Preserves t u
merges_keep t u h = keeps_at h.4 h.5 (merge h.0 h.1 h.2 h.3 h.6 (λ S G r q i j. one_type S h.3 G r q h.7 i j))

-- ---- 3

promote : (k j : Kind) (a c s : Tree) → total_in c ≡ true → total_in s ≡ true → Preserves (Ext k (If (shift_of c 0 1) a (empty_of j)) s) (If c (Ext k a s) (empty_of j))
promote k j a c s tc ts = record {
  typed = λ S G r h. (lowered_typed S c [] (h.2 ∷ []) G bool 0 1 refl refl h.5.0, (h.0, h.1, h.2, h.3, h.4, h.5.1), h.5.2);
  means = λ S T G env r told e h. (
      let bit = bit_of (core T c env) (total_value S T told G env c bool e (lowered_typed S c [] (h.2 ∷ []) G bool 0 1 refl refl h.5.0) tc) in
      let whole = total_value S T told G env s (coll h.1 h.2) e h.4 ts in
      let items = items_inhabit h.1 h.2 whole.0 whole.2 in
      let from : items_of (core T s env) ≡ flow items.0 fine = ap items_of whole.1 ∙ ap items_at_all items.1 in
      let tested : (λ v. items_of (core T (If (shift_of c 0 1) a (empty_of j)) (v ∷ env))) ≡ (λ v. items_of (cond bit.0 (core T a (v ∷ env)) (collected j (stop fine)))) =
      fun_ext λ v. ap items_of (ap (λ o. if_then o (core T a (v ∷ env)) (collected j (stop fine))) (outside T c env v) ∙ bit.1 (core T a (v ∷ env)) (collected j (stop fine))) in
      let same : j ≡ k = sym (kinds r k j h.0 h.5.2.0 h.3 h.5.2.1) in
      bit.1 (core T (Ext k a s) env) (collected j (stop fine))
      ∙ by_bit bit.0 j T env same items.0 from
      ∙ sym (ap (λ g. collected k (drawn (items_of (core T s env)) g)) tested));
}
  where
    kinds : (r : Ground) (k j : Kind) (t u : Ground) → r ≡ coll k t → r ≡ coll j u → k ≡ j
    kinds r k j t u e f = let same : coll k t ≡ coll j u = sym e ∙ f in cc

    by_bit : (b : Bool) (j : Kind) (T : Tables) (env : List Value) → j ≡ k → (vs : List Value) → items_of (core T s env) ≡ flow vs fine
        → cond b (core T (Ext k a s) env) (collected j (stop fine)) ≡ collected k (drawn (items_of (core T s env)) (λ v. items_of (cond b (core T a (v ∷ env)) (collected j (stop fine)))))
    by_bit true j T env same vs from = refl
    by_bit false j T env same vs from =
        ap (λ i. collected i (stop fine)) same
        ∙ sym (ap (λ g. collected k (drawn (items_of (core T s env)) g)) (fun_ext λ v. none_in j)
        ∙ ap (λ f. collected k (drawn f (λ v. stop fine))) from ∙ ap (collected k) (nothing_drawn vs))

pub promotes_keep : (t u : Tree) → FilterPromotion t u → Preserves t u
promotes_keep t u h = keeps_at h.5 h.6 (promote h.0 h.1 h.2 h.3 h.4 h.7 h.8)

-- ---- 4 to 7

draw_none : (k j : Kind) (a : Tree) → Preserves (Ext k a (empty_of j)) (empty_of k)
draw_none k j a = record {
  typed = λ S G r h. (h.0, h.3, types_proper S a (h.2 ∷ G) r h.5, tt);
  means = λ S T G env r told e h. sym (ap (λ f. collected k (drawn f (λ v. items_of (core T a (v ∷ env))))) (none_in j));
}

pub draws_none_keep : (t u : Tree) → EmptySource t u → Preserves t u
draws_none_keep t u h = keeps_at h.3 h.4 (draw_none h.0 h.1 h.2)

draw_one : (k j : Kind) (a s : Tree) → Preserves (Ext k a (Make j (trees s no_trees))) (Let s a)
draw_one k j a s = record {
  typed = λ S G r h. (h.2, subst (CoreTypes S G s) (item h.1 j h.2 h.4.0 h.4.1) h.4.3.0, h.5);
  means = λ S T G env r told e h.
      by_outcome T env h.0 h.2 (core T s env) (λ v i. subst (λ q. OfType q (core T a (v ∷ env))) h.3 (safe S T told a (h.2 ∷ G) (v ∷ env) r (i, e) h.5))
      (safe S T told s G env h.2 e (subst (CoreTypes S G s) (item h.1 j h.2 h.4.0 h.4.1) h.4.3.0));
}
  where
    item : (i j : Kind) (u w : Ground) → coll i u ≡ coll j w → w ≡ u
    item i j u w e = cc

    by_outcome : (T : Tables) (env : List Value) (t u : Ground) (o : Outcome) → ((v : Value) → Inhabits u v → OfType (coll k t) (core T a (v ∷ env))) → OfType u o
        → after o (λ v. core T a (v ∷ env)) ≡ collected k (drawn (items_of (collected j (item_then o (stop fine)))) (λ v. items_of (core T a (v ∷ env))))
    by_outcome T env t u (done v) good i =
        sym (ap (λ f. collected k (drawn f (λ v. items_of (core T a (v ∷ env))))) (one_in j v)
        ∙ ap (collected k) (followed_fine (items_of (core T a (v ∷ env)))) ∙ typed_collected k t (core T a (v ∷ env)) (good v i))
    by_outcome T env t u (over vs) good i =
        sym (ap (λ o. collected k (drawn (items_of o) (λ v. items_of (core T a (v ∷ env))))) (kept_none j) ∙ kept_none k)
    by_outcome T env t u stuck good i = absurd i

pub draws_one_keep : (t u : Tree) → SingletonSource t u → Preserves t u
draws_one_keep t u h = keeps_at h.4 h.5 (draw_one h.0 h.1 h.2 h.3)

draw_tested : (k j : Kind) (a c s : Tree) → Preserves (Ext k a (If c s (empty_of j))) (If c (Ext k a s) (empty_of k))
draw_tested k j a c s = record {
  typed = λ S G r h. (h.4.0, (h.0, h.1, h.2, h.3, h.4.1, h.5), (h.0, h.3, types_proper S a (h.2 ∷ G) r h.5, tt));
  means = λ S T G env r told e h. sym (by_outcome (core T c env) (core T s env) (λ v. items_of (core T a (v ∷ env))));
}
  where
    by_bool : (b : Option Bool) (o : Outcome) (go : Value → Flow) → collected k (drawn (items_of (chosen b o (collected j (stop fine)))) go) ≡ chosen b (collected k (drawn (items_of o) go)) (collected k (stop fine))
    by_bool (Some true) o go = refl
    by_bool (Some false) o go = ap (λ f. collected k (drawn f go)) (none_in j)
    by_bool None o go = refl

    by_outcome : (c o : Outcome) (go : Value → Flow) → collected k (drawn (items_of (if_then c o (collected j (stop fine)))) go) ≡ if_then c (collected k (drawn (items_of o) go)) (collected k (stop fine))
    by_outcome (done v) o go = by_bool (as_bool v) o go
    by_outcome (over vs) o go = kept_none k
    by_outcome stuck o go = refl

pub draws_tested_keep : (t u : Tree) → ConditionalSource t u → Preserves t u
draws_tested_keep t u h = keeps_at h.5 h.6 (draw_tested h.0 h.1 h.2 h.3 h.4)

draw_bound : (k : Kind) (a b s : Tree) → Preserves (Ext k a (Let b s)) (Let b (Ext k (shift_of a 1 1) s))
draw_bound k a b s = record {
  typed = λ S G r h. (h.4.0, h.4.1, (h.0, h.1, h.2, h.3, h.4.2, shift_typed S a (h.2 ∷ []) (h.4.0 ∷ []) G r 1 1 refl refl h.5));
  means = λ S T G env r told e h. by_outcome T env (core T b env);
}
  where
    by_outcome : (T : Tables) (env : List Value) (o : Outcome) → after o (λ v. core T (Ext k (shift_of a 1 1) s) (v ∷ env)) ≡ collected k (drawn (items_of (after o (λ v. core T s (v ∷ env)))) (λ w. items_of (core T a (w ∷ env))))
    by_outcome T env (done v) = ap (λ g. collected k (drawn (items_of (core T s (v ∷ env))) g)) (fun_ext λ w. ap items_of (under T a env w v))
    by_outcome T env (over vs) = sym (kept_none k)
    by_outcome T env stuck = refl

pub draws_bound_keep : (t u : Tree) → LetSource t u → Preserves t u
draws_bound_keep t u h = keeps_at h.4 h.5 (draw_bound h.0 h.1 h.2 h.3)

-- ---- 8 to 10

drop_it : (a s : Tree) → total_in s ≡ true → Preserves (Let s (shift_of a 0 1)) a
drop_it a s total = record {
  typed = λ S G r h. lowered_typed S a [] (h.0 ∷ []) G r 0 1 refl refl h.2;
  means = λ S T G env r told e h. (
      let v = total_value S T told G env s h.0 e h.1 total in
      sym (ap (λ o. after o (λ v. core T (shift_of a 0 1) (v ∷ env))) v.1 ∙ outside T a env v.0));
}

pub drops_keep : (t u : Tree) → DeadLet t u → Preserves t u
drops_keep t u h = keeps_at h.2 h.3 (drop_it h.0 h.1 h.4)

put_in_place : (a s : Tree) → total_in s ≡ true → Preserves (Let s a) (subst_of a 0 s)
put_in_place a s total = record {
  typed = λ S G r h. subst_typed S a s [] G h.0 r 0 refl h.1 h.2;
  means = λ S T G env r told e h. (
      let v = total_value S T told G env s h.0 e h.1 total in
      subst_keeps T a s [] env v.0 0 refl v.1 ∙ sym (ap (λ o. after o (λ v. core T a (v ∷ env))) v.1));
}

path_total : (s : Tree) → IsPath s → total_in s ≡ true
path_total (Var x) h = refl
path_total (Proj l a) h = path_total a h
path_total s h = absurd h

cheap_total : (s : Tree) → IsCheap s → total_in s ≡ true
cheap_total (Const v) h = refl
cheap_total (Source i) h = refl
cheap_total (Var x) h = refl
cheap_total (Proj l a) h = path_total a h
cheap_total s h = absurd h

pub copies_keep : (t u : Tree) → CopyPropagation t u → Preserves t u
copies_keep t u h = keeps_at h.2 h.3 (put_in_place h.0 h.1 (cheap_total h.1 h.4))

pub inlines_keep : (t u : Tree) → InlinedOnce t u → Preserves t u
inlines_keep t u h = keeps_at h.2 h.3 (put_in_place h.0 h.1 h.4)

-- ---- 12

nest : (a b s : Tree) → Preserves (Let (Let s b) a) (Let s (Let b (shift_of a 1 1)))
nest a b s = record {
  typed = λ S G r h. (h.1.0, h.1.1, (h.0, h.1.2, shift_typed S a (h.0 ∷ []) (h.1.0 ∷ []) G r 1 1 refl refl h.2));
  means = λ S T G env r told e h. by_outcome T env (core T s env);
}
  where
    by_outcome : (T : Tables) (env : List Value) (o : Outcome) → after o (λ v. core T (Let b (shift_of a 1 1)) (v ∷ env)) ≡ after (after o (λ v. core T b (v ∷ env))) (λ w. core T a (w ∷ env))
    by_outcome T env (done v) = ap (after (core T b (v ∷ env))) (fun_ext λ w. under T a env w v)
    by_outcome T env (over vs) = refl
    by_outcome T env stuck = refl

pub nests_keep : (t u : Tree) → LetOfLet t u → Preserves t u
nests_keep t u h = keeps_at h.3 h.4 (nest h.0 h.1 h.2)

-- ---- 13

part_typed : (S : SourceTypes) (G : List Ground) (l : Name) (ps : Parts) (w : Row) (u : Tree) (r : Ground) → PartTypes S G ps w → part_of l ps ≡ Some u → at l w ≡ Some r → CoreTypes S G u r
part_typed S G l no_parts w u r h e f = absurd cc
part_typed S G l (parts m t ps) w u r h e f = by_bit (pointwise nat_eq l m) refl (ap (at l) (sym h.2) ∙ f) (λ i g. part_typed S G l ps h.1 u r h.4 i g)
  where
    by_bit : (b : Bool) → pointwise nat_eq l m ≡ b → at l (row m h.0 h.1) ≡ Some r → (part_of l ps ≡ Some u → at l h.1 ≡ Some r → CoreTypes S G u r) → CoreTypes S G u r
    by_bit true i g next =
        let one : t ≡ u = same_Some _ _ (rw i at e) in
        let two : h.0 ≡ r = same_Some _ _ (rw i at g) in
        subst (λ x. CoreTypes S G x r) one (subst (CoreTypes S G t) two h.3)
    by_bit false i g next = next (rw i at e) (rw i at g)

-- the record of total fields, and the value of the one
abbrev Recorded : Tables → List Value → Name → Tree → Parts → Type 0
Recorded T env l u ps = (fs : List (Name × Value)) × ((go : List (Name × Value) → Outcome) → parts_then (core_parts T ps env) go ≡ go fs) × (part_of l ps ≡ Some u → outcome_of (field l fs) ≡ core T u env)

record_is : (S : SourceTypes) (T : Tables) (told : HaveSources S T) (G : List Ground) (env : List Value) (l : Name) (u : Tree) (ps : Parts) (w : Row) → HaveTypes G env → PartTypes S G ps w → total_parts ps ≡ true → Recorded T env l u ps
record_is S T told G env l u no_parts w e h total = ([], λ go. refl, λ i. absurd cc)
record_is S T told G env l u (parts m t ps) w e h total =
    let b = both_true (total_in t) (total_parts ps) total in
    let v = total_value S T told G env t h.0 e h.3 b.0 in
    let next = record_is S T told G env l u ps h.1 e h.4 b.1 in (
      (m, v.0) ∷ next.0,
      λ go. ap (λ o. after o (λ v. parts_then (core_parts T ps env) (λ fs. go ((m, v) ∷ fs)))) v.1 ∙ next.1 (λ fs. go ((m, v.0) ∷ fs)),
      λ i. by_bit (pointwise nat_eq l m) refl v.0 v.1 next.0 next.2 i,
    )
  where
    by_bit : (b : Bool) → pointwise nat_eq l m ≡ b → (v : Value) → core T t env ≡ done v → (fs : List (Name × Value)) → (part_of l ps ≡ Some u → outcome_of (field l fs) ≡ core T u env)
        → part_of l (parts m t ps) ≡ Some u → outcome_of (field l ((m, v) ∷ fs)) ≡ core T u env
    by_bit true i v is fs next e = let one : t ≡ u = same_Some _ _ (rw i at e) in rw i (sym is ∙ ap (λ x. core T x env) one)
    by_bit false i v is fs next e = rw i (next (rw i at e))

select : (l : Name) (ps : Parts) (u : Tree) → part_of l ps ≡ Some u → total_parts ps ≡ true → Preserves (Proj l (Rec ps)) u
select l ps u found total = record {
  typed = λ S G r h. part_typed S G l ps h.1.0 u r h.1.3 found (ap (at l) (rows h.0 h.1.0 h.1.1) ∙ h.2);
  means = λ S T G env r told e h. (
      let f = record_is S T told G env l u ps h.1.0 e h.1.3 total in
      sym (ap (part l) (f.1 (λ fs. done (value.Rec fs))) ∙ ap (λ x. field_in l (record_layer x)) (value.outs-Rec f.0) ∙ f.2 found));
}
  where
    rows : (q w : Row) → rec_type q ≡ rec_type w → w ≡ q
    rows q w e = cc

pub selects_keep : (t u : Tree) → KnownField t u → Preserves t u
selects_keep t u h = keeps_at h.2 refl (select h.0 h.1 u h.3 h.4)

-- ---- 14

branch_typed : (S : SourceTypes) (G : List Ground) (l : Name) (bs : Arms) (w : Row) (a : Tree) (q r : Ground) → ArmTypes S G bs w r → at l w ≡ Some q → branch_of l bs ≡ Some a → CoreTypes S (q ∷ G) a r
branch_typed S G l no_arms w a q r h e f = absurd cc
branch_typed S G l (rest c) w a q r h e f = subst (λ x. CoreTypes S (q ∷ G) x r) (same_Some _ _ f) (shift_typed S c [] (q ∷ []) G r 0 1 refl refl h)
branch_typed S G l (arm m b bs) w a q r h e f = by_bit (pointwise nat_eq l m) refl (λ i. branch_typed S G l bs w a q r h.3 e i)
  where
    by_bit : (x : Bool) → pointwise nat_eq l m ≡ x → (branch_of l bs ≡ Some a → CoreTypes S (q ∷ G) a r) → CoreTypes S (q ∷ G) a r
    by_bit true i next =
        let labels : l ≡ m = same_text l m (sym i) in
        let one : b ≡ a = same_Some _ _ (rw i at f) in
        let two : h.0 ≡ q = same_Some _ _ (sym h.1 ∙ ap (λ x. at x w) (sym labels) ∙ e) in
        subst (λ x. CoreTypes S (q ∷ G) x r) one (subst (λ y. CoreTypes S (y ∷ G) b r) two h.2)
    by_bit false i next = next (rw i at f)

branch_means : (T : Tables) (env : List Value) (l : Name) (v : Value) (bs : Arms) (a : Tree) → branch_of l bs ≡ Some a → core T a (v ∷ env) ≡ core_arms T bs l v env
branch_means T env l v no_arms a f = absurd cc
branch_means T env l v (rest c) a f = ap (λ x. core T x (v ∷ env)) (sym (same_Some _ _ f)) ∙ outside T c env v
branch_means T env l v (arm m b bs) a f = by_bit (pointwise nat_eq l m) refl (λ i. branch_means T env l v bs a i)
  where
    by_bit : (x : Bool) → pointwise nat_eq l m ≡ x → (branch_of l bs ≡ Some a → core T a (v ∷ env) ≡ core_arms T bs l v env) → core T a (v ∷ env) ≡ core_arms T (arm m b bs) l v env
    by_bit true i next = rw i (ap (λ x. core T x (v ∷ env)) (sym (same_Some _ _ (rw i at f))))
    by_bit false i next = rw i (next (rw i at f))

open_it : (l : Name) (bs : Arms) (a s : Tree) → branch_of l bs ≡ Some a → Preserves (Case (Inj l s) bs) (Let s a)
open_it l bs a s found = record {
  typed = λ S G r h. (h.1.1, h.1.5, branch_typed S G l bs h.0 a h.1.1 r h.3 (ap (at l) (rows h.0 h.1.0 h.1.2) ∙ h.1.4) found);
  means = λ S T G env r told e h. by_outcome T env (core T s env);
}
  where
    rows : (q w : Row) → var_type q ≡ var_type w → q ≡ w
    rows q w e = cc

    by_outcome : (T : Tables) (env : List Value) (o : Outcome) → after o (λ v. core T a (v ∷ env)) ≡ cases (tagged l o) (λ l v. core_arms T bs l v env)
    by_outcome T env (done v) = branch_means T env l v bs a found ∙ sym (ap (λ x. opened (variant_layer x) (λ l v. core_arms T bs l v env)) (value.outs-Inj l v))
    by_outcome T env (over vs) = refl
    by_outcome T env stuck = refl

pub opens_keep : (t u : Tree) → KnownVariant t u → Preserves t u
opens_keep t u h = keeps_at h.4 h.6 (open_it h.0 h.1 h.2 h.3 h.5)

-- ---- 15 to 17

known : (b : Bool) (p q : Outcome) → if_then (done (value.Bool b)) p q ≡ chosen (Some b) p q
known b p q = ap (λ x. chosen (bool_layer x) p q) (value.outs-Bool b)

decide : (b : Bool) (p q : Tree) → Preserves (If (Const (value.Bool b)) p q) (cond b p q)
decide true p q = record { typed = λ S G r h. h.1; means = λ S T G env r told e h. sym (known true (core T p env) (core T q env)) }
decide false p q = record { typed = λ S G r h. h.2; means = λ S T G env r told e h. sym (known false (core T p env) (core T q env)) }

pub decides_keep : (t u : Tree) → KnownCondition t u → Preserves t u
decides_keep t u h = keeps_at h.3 h.4 (decide h.0 h.1 h.2)

split : (k : Kind) (a b c : Tree) → Preserves (If (If a b (Const (value.Bool false))) c (empty_of k)) (If a (If b c (empty_of k)) (empty_of k))
split k a b c = record {
  typed = λ S G r h. (h.0.0, (h.0.1, h.1, h.2), h.2);
  means = λ S T G env r told e h. by_outcome (core T a env) (core T b env) (core T c env) (collected k (stop fine));
}
  where
    by_bool : (x : Option Bool) (o p q : Outcome) → chosen x (if_then o p q) q ≡ if_then (chosen x o (done (value.Bool false))) p q
    by_bool (Some true) o p q = refl
    by_bool (Some false) o p q = sym (known false p q)
    by_bool None o p q = refl

    by_outcome : (n o p q : Outcome) → if_then n (if_then o p q) q ≡ if_then (if_then n o (done (value.Bool false))) p q
    by_outcome (done v) o p q = by_bool (as_bool v) o p q
    by_outcome (over vs) o p q = refl
    by_outcome stuck o p q = refl

pub splits_keep : (t u : Tree) → NestedCondition t u → Preserves t u
splits_keep t u h = keeps_at h.4 h.5 (split h.0 h.1 h.2 h.3)

sort : (k : Kind) (c d s : Tree) → total_in c ≡ true → total_in d ≡ true → Preserves (If c (If d s (empty_of k)) (empty_of k)) (If d (If c s (empty_of k)) (empty_of k))
sort k c d s tc td = record {
  typed = λ S G r h. (h.1.0, (h.0, h.1.1, h.2), h.2);
  means = λ S T G env r told e h. (
      let x = bit_of (core T c env) (total_value S T told G env c bool e h.0 tc) in
      let y = bit_of (core T d env) (total_value S T told G env d bool e h.1.0 td) in
      let p : Outcome = core T s env in
      let q : Outcome = collected k (stop fine) in
      y.1 (if_then (core T c env) p q) q ∙ ap (λ o. cond y.0 o q) (x.1 p q) ∙ turned x.0 y.0 p q
      ∙ sym (x.1 (if_then (core T d env) p q) q ∙ ap (λ o. cond x.0 o q) (y.1 p q)));
}
  where
    turned : (x y : Bool) (p q : Outcome) → cond y (cond x p q) q ≡ cond x (cond y p q) q
    turned true true p q = refl
    turned true false p q = refl
    turned false true p q = refl
    turned false false p q = refl

pub sorts_keep : (t u : Tree) → ConditionOrder t u → Preserves t u
sorts_keep t u h = keeps_at h.4 h.5 (sort h.0 h.1 h.2 h.3 h.6 h.7)

-- ---- the table

pub rules_keep : (i : ℕ) (t u : Tree) → RewriteRule i t u → Preserves t u
rules_keep zero t u h = absurd h
rules_keep (suc zero) t u h = fuses_keep t u h
rules_keep (suc (suc zero)) t u h = merges_keep t u h
rules_keep (suc (suc (suc zero))) t u h = promotes_keep t u h
rules_keep (suc (suc (suc (suc zero)))) t u h = draws_none_keep t u h
rules_keep (suc (suc (suc (suc (suc zero))))) t u h = draws_one_keep t u h
rules_keep (suc (suc (suc (suc (suc (suc zero)))))) t u h = draws_tested_keep t u h
rules_keep (suc (suc (suc (suc (suc (suc (suc zero))))))) t u h = draws_bound_keep t u h
rules_keep (suc (suc (suc (suc (suc (suc (suc (suc i)))))))) t u h = later i h
  where
    last : (i : ℕ) → row_of (KnownField ∷ KnownVariant ∷ KnownCondition ∷ NestedCondition ∷ ConditionOrder ∷ []) i t u → Preserves t u
    last zero h = selects_keep t u h
    last (suc zero) h = opens_keep t u h
    last (suc (suc zero)) h = decides_keep t u h
    last (suc (suc (suc zero))) h = splits_keep t u h
    last (suc (suc (suc (suc zero)))) h = sorts_keep t u h
    last (suc (suc (suc (suc (suc i))))) h = absurd h

    later : (i : ℕ) → row_of (DeadLet ∷ CopyPropagation ∷ InlinedOnce ∷ ScalarReplacement ∷ LetOfLet ∷ KnownField ∷ KnownVariant ∷ KnownCondition ∷ NestedCondition ∷ ConditionOrder ∷ []) i t u → Preserves t u
    later zero h = drops_keep t u h
    later (suc zero) h = copies_keep t u h
    later (suc (suc zero)) h = inlines_keep t u h
    later (suc (suc (suc zero))) h = unpacks_keep t u h
    later (suc (suc (suc (suc zero)))) h = nests_keep t u h
    later (suc (suc (suc (suc (suc i))))) h = last i h
