-- A term that makes sense has an outcome of its type.
use Rattle.std.proofs.Common.{◌≡◌, ◌≢◌, ⊎_elim, ℕ, zero, suc, Bool, true, false, cond, nat_eq, List, [], ◌∷◌, Some, slice_get, refl, sym, ap, ◌∙◌, subst}
use Rattle.std.specs.Cmp.Lexicographic.{pointwise, same_text}
use Rattle.std.specs.List.Sorted.{IsStrictlySortedBy}
use Rattle.std.proofs.lemmas.Cmp.{nat_list_eq_equiv}
use Rattle.kl_base.specs.Fields.{bytes_cmp, labels_of}
use Rattle.kl_value.specs.declared.Value.{Value}
use Rattle.kl_type.specs.Ground.{Ground, Row, rec as rec_type, at, labels_in}
use Rattle.kl_prim.specs.Table.{meaning}
use Rattle.kl_outcome.specs.Outcome.{Name, Outcome, stuck, outcome_of, answered, recorded, items_of, drawn}
use Rattle.kl_outcome.specs.Typed.{Inhabits, HaveTypes, OfType}
use Rattle.kl_core.specs.Trees.{Tree, Var, Const, Source, Rec, Proj, Inj, Case, Make, Union, Ext, If, Let, Prim, Trees, no_trees, trees, Parts, no_parts, parts, Arms, no_arms, rest, arm}
use Rattle.kl_core.specs.Core.{Tables, core, core_all, core_items, core_parts, core_arms}
use Rattle.kl_core.specs.Typing.{SourceTypes, CoreTypes, EachType, AllTypes, PartTypes, ArmTypes, HasArm, HaveSources}
use Rattle.kl_outcome.proofs.OutcomeTypes.{never_of, after_typed, choice_typed, part_typed, recorded_typed, PartsOf, tagged_typed, cases_typed, args_then_typed, ArgsOf, FlowOf, drawn_typed, items_typed, item_typed, collected_typed, union_typed}
use Rattle.kl_outcome.proofs.PrimLemmas.{prim_typed}

pub get_typed : (G : List Ground) (env : List Value) (x : ℕ) (t : Ground) → HaveTypes G env → slice_get G x ≡ Some t → OfType t (outcome_of (slice_get env x))
get_typed [] [] x t h e = cc
get_typed [] (v ∷ env) x t h e = absurd h
get_typed (s ∷ G) [] x t h e = absurd h
get_typed (s ∷ G) (v ∷ env) zero t h e = let same : s ≡ t = cc in subst (λ q. Inhabits q v) same h.0
get_typed (s ∷ G) (v ∷ env) (suc x) t h e = get_typed G env x t h.1 e

labels_same : (ps : List (Name × Outcome)) (r : Row) → PartsOf ps r → labels_of ps ≡ labels_in r
labels_same [] r h = ap labels_in (sym h)
labels_same (p ∷ ps) r h = ap (λ ls. p.0 ∷ ls) (labels_same ps h.1 h.4) ∙ ap labels_in (sym h.2)

record_typed : (ps : List (Name × Outcome)) (r : Row) → PartsOf ps r → IsStrictlySortedBy bytes_cmp (labels_in r) → OfType (rec_type r) (recorded ps)
record_typed ps r h up = recorded_typed ps r h (subst (IsStrictlySortedBy bytes_cmp) (sym (labels_same ps r h)) up)

module _ (S : SourceTypes) (T : Tables) (told : HaveSources S T) where
  mutual
    pub safe : (t : Tree) (G : List Ground) (env : List Value) (s : Ground) → HaveTypes G env → CoreTypes S G t s → OfType s (core T t env)
    safe (Var x) G env s e h = get_typed G env x s e h.0
    safe (Const v) G env s e h = h.1
    safe (Source i) G env s e h = let f = told i s h.0 in subst (λ o. OfType s (outcome_of o)) (sym f.1) f.2
    safe (Rec ps) G env s e h = subst (λ q. OfType q (core T (Rec ps) env)) (sym h.1) (record_typed (core_parts T ps env) h.0 (safe_parts ps G env h.0 e h.3) h.2)
    safe (Proj l a) G env s e h = part_typed l h.0 s (core T a env) (safe a G env _ e h.1) h.2
    safe (Inj l a) G env s e h = subst (λ q. OfType q (core T (Inj l a) env)) (sym h.2) (tagged_typed l h.0 h.1 (core T a env) h.4 (safe a G env h.1 e h.5))
    safe (Case a bs) G env s e h =
        cases_typed h.0 s (core T a env) (λ l v. core_arms T bs l v env) (safe a G env _ e h.1)
        (λ l u v i j. safe_arms bs G env h.0 s l u v e h.3 i j (h.2 l (rw i refl)))
    safe (Make k ts) G env s e h = subst (λ q. OfType q (core T (Make k ts) env)) (sym h.1) (collected_typed k h.0 (core_items T ts env) (safe_items ts G env h.0 e h.3))
    safe (Union a b) G env s e h =
        subst (λ q. OfType q (core T (Union a b) env)) (sym h.2)
        (union_typed h.0 h.1 (core T a env) (core T b env) (subst (λ q. OfType q (core T a env)) h.2 (safe a G env s e h.3)) (subst (λ q. OfType q (core T b env)) h.2 (safe b G env s e h.4)))
    safe (Ext k b a) G env s e h =
        subst (λ q. OfType q (core T (Ext k b a) env)) (sym h.3)
        (collected_typed k h.0 (drawn (items_of (core T a env)) (λ v. items_of (core T b (v ∷ env))))
        (drawn_typed h.0 h.2 (items_of (core T a env)) (λ v. items_of (core T b (v ∷ env))) (items_typed h.1 h.2 (core T a env) (safe a G env _ e h.4))
        (λ v i. items_typed k h.0 (core T b (v ∷ env)) (subst (λ q. OfType q (core T b (v ∷ env))) h.3 (safe b (h.2 ∷ G) (v ∷ env) s (i, e) h.5)))))
    safe (If a b c) G env s e h = choice_typed s (core T a env) (core T b env) (core T c env) (safe a G env _ e h.0) (safe b G env s e h.1) (safe c G env s e h.2)
    safe (Let a b) G env s e h = after_typed s h.0 (core T a env) (λ v. core T b (v ∷ env)) (safe a G env h.0 e h.1) (λ v i. safe b (h.0 ∷ G) (v ∷ env) s (i, e) h.2)
    safe (Prim c ts) G env s e h = args_then_typed s (core_all T ts env) h.0 (λ vs. answered (meaning c vs)) (safe_all ts G env h.0 e h.1) (λ vs i. prim_typed c h.0 s vs h.2 i)

    safe_items : (ts : Trees) (G : List Ground) (env : List Value) (s : Ground) → HaveTypes G env → EachType S G ts s → FlowOf s (core_items T ts env)
    safe_items no_trees G env s e h = tt
    safe_items (trees t ts) G env s e h = item_typed s (core T t env) (core_items T ts env) (safe t G env s e h.0) (safe_items ts G env s e h.1)

    safe_all : (ts : Trees) (G : List Ground) (env : List Value) (ss : List Ground) → HaveTypes G env → AllTypes S G ts ss → ArgsOf (core_all T ts env) ss
    safe_all no_trees G env ss e h = h
    safe_all (trees t ts) G env ss e h = (h.0, h.1, h.2, safe t G env h.0 e h.3, safe_all ts G env h.1 e h.4)

    safe_parts : (ps : Parts) (G : List Ground) (env : List Value) (r : Row) → HaveTypes G env → PartTypes S G ps r → PartsOf (core_parts T ps env) r
    safe_parts no_parts G env r e h = h
    safe_parts (parts l t ps) G env r e h = (h.0, h.1, h.2, safe t G env h.0 e h.3, safe_parts ps G env h.1 e h.4)

    safe_arms : (bs : Arms) (G : List Ground) (env : List Value) (r : Row) (s : Ground) (l : Name) (u : Ground) (v : Value) → HaveTypes G env → ArmTypes S G bs r s → at l r ≡ Some u → Inhabits u v → HasArm l bs → OfType s (core_arms T bs l v env)
    safe_arms no_arms G env r s l u v e h i j c = absurd c
    safe_arms (rest b) G env r s l u v e h i j c = safe b G env s e h
    safe_arms (arm m b bs) G env r s l u v e h i j c =
        by_label (pointwise nat_eq l m) refl (λ q. safe b (h.0 ∷ G) (v ∷ env) s (subst (λ t. Inhabits t v) q j, e) h.2) (λ d. safe_arms bs G env r s l u v e h.3 i j d)
      where
        by_label : (y : Bool) → pointwise nat_eq l m ≡ y → (u ≡ h.0 → OfType s (core T b (v ∷ env))) → (HasArm l bs → OfType s (core_arms T bs l v env)) → OfType s (cond y (core T b (v ∷ env)) (core_arms T bs l v env))
        by_label true q here there =
            let same : l ≡ m = same_text l m (sym q) in
            let f : Some u ≡ Some h.0 = sym i ∙ ap (λ k. at k r) same ∙ h.1 in
            let g : u ≡ h.0 = cc in
            here g
        by_label false q here there = there (⊎_elim (λ d. absurd (off d)) (λ d. d) c)
          where
            off : l ≡ m → ⊥
            off d = let f : pointwise nat_eq l m ≡ true = subst (λ k. pointwise nat_eq l k ≡ true) d (nat_list_eq_equiv.refl l) in let z : true ≡ false = sym f ∙ q in cc

pub never_stuck : (S : SourceTypes) (T : Tables) → HaveSources S T → (t : Tree) (G : List Ground) (env : List Value) (s : Ground) → HaveTypes G env → CoreTypes S G t s → core T t env ≢ stuck
never_stuck S T told t G env s e h = never_of s (core T t env) (safe S T told t G env s e h)
