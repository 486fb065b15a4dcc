-- A plan that makes sense comes to something of its type.
use Rattle.std.proofs.Common.{◌≡◌, ⊎_elim, ℕ, Bool, true, false, cond, nat_eq, List, [], ◌∷◌, Option, Some, None, IsSome, refl, sym, ap, subst, ◌∙◌}
use Rattle.std.specs.Cmp.Lexicographic.{pointwise, same_text}
use Rattle.std.specs.List.Sorted.{IsStrictlySortedBy}
use Rattle.std.proofs.lemmas.Cmp.{nat_list_eq_equiv}
use Rattle.kl_base.specs.Fields.{bytes_cmp, labels_of}
use Rattle.kl_value.specs.Views.{as_bool, field_at}
use Rattle.kl_value.specs.declared.Kind.{Kind}
use Rattle.kl_value.specs.declared.Value.{Value}
use Rattle.kl_type.specs.Ground.{Ground, Row, bool, rec as rec_type, var as var_type, coll, at, labels_in}
use Rattle.kl_prim.specs.Table.{meaning}
use Rattle.kl_ask.specs.declared.settings.JoinHow.{JoinHow}
use Rattle.kl_ask.specs.declared.settings.JoinHow.TheVariants as way
use Rattle.kl_outcome.specs.Outcome.{Name, Outcome, done, over, stuck, Flow, fine, flow, as_variant, answered, recorded, tagged, part, outcome_of, collected}
use Rattle.kl_outcome.specs.Typed.{Inhabits, HaveTypes, OfType}
use Rattle.kl_outcome.proofs.OutcomeTypes.{FlowOf, recorded_typed, drawn_typed, item_typed, over_nil, part_typed, part_is, tagged_typed, PartsOf, variant_is, args_then_typed, ArgsOf, items_typed, collected_typed}
use Rattle.kl_outcome.proofs.PrimLemmas.{prim_typed}
use Rattle.kl_core.specs.Typing.{SourceTypes}
use Rattle.kl_core.proofs.Safety.{safe, get_typed}
use Rattle.kl_plan.specs.declared.plan.Scan.{Scan}
use Rattle.kl_plan.specs.Nodes as node
use Rattle.kl_plan.specs.Nodes.{Node, Nodes, no_nodes, nodes, Fields, no_fields, fields, Branches, no_branches, rest, branch, Key, no_key, key}
use Rattle.kl_plan.specs.Meaning.{Come, one, many, worth, coming, drawn_for, come_after, come_chosen, come_opened, come_union, come_kept, on_test, tested, under_key, same_key}
use Rattle.kl_plan.specs.Meaning.{Readings, scanned, no_tables, plan, plan_all, plan_items, plan_fields, plan_branches, plan_conds, plan_key}
use Rattle.kl_plan.specs.Typing.{PlanTypes, EachPlan, PlansOf, FieldTypes, BranchTypes, HasBranch, KeyTypes}
use Rattle.kl_plan.proofs.Comings.{ComesAs, worth_typed, coming_typed, drawn_for_typed, union_shows}

parts_labels : (ps : List (Name × Outcome)) (r : Row) → PartsOf ps r → labels_of ps ≡ labels_in r
parts_labels [] r h = ap labels_in (sym h)
parts_labels (p ∷ ps) r h = ap (λ ls. p.0 ∷ ls) (parts_labels ps h.1 h.4) ∙ ap labels_in (sym h.2)

record_typed : (ps : List (Name × Outcome)) (r : Row) → PartsOf ps r → IsStrictlySortedBy bytes_cmp (labels_in r) → OfType (rec_type r) (recorded ps)
record_typed ps r h up = recorded_typed ps r h (subst (IsStrictlySortedBy bytes_cmp) (sym (parts_labels ps r h)) up)

abbrev no_types : SourceTypes
no_types i = None

after_comes : (s u : Ground) (o : Outcome) (to : Value → Come) → OfType u o → ((v : Value) → Inhabits u v → ComesAs s (to v)) → ComesAs s (come_after o to)
after_comes s u (done v) to h k = k v h
after_comes s u (over vs) to h k = over_nil s
after_comes s u stuck to h k = absurd h

chosen_comes : (s : Ground) (b : Option Bool) (c d : Come) → IsSome b → ComesAs s c → ComesAs s d → ComesAs s (come_chosen b c d)
chosen_comes s (Some true) c d i h g = h
chosen_comes s (Some false) c d i h g = g
chosen_comes s None c d i h g = cc

union_comes : (k : Kind) (u : Ground) (c d : Come) → ComesAs (coll k u) c → ComesAs (coll k u) d → ComesAs (coll k u) (come_union c d)
union_comes k u c d h g = (union_shows k u (worth c) (worth d) c d (refl, h) (refl, g)).1

-- ---- joins and memos

tested_typed : (t : Ground) (b : Option Bool) (f : Flow) → IsSome b → FlowOf t f → FlowOf t (on_test b f)
tested_typed t (Some true) f i h = h
tested_typed t (Some false) f i h = tt
tested_typed t None f i h = cc

condition_typed : (t : Ground) (o : Outcome) (f : Flow) → OfType bool o → FlowOf t f → FlowOf t (tested o f)
condition_typed t (done v) f i h = tested_typed t (as_bool v) f i.0 h
condition_typed t (over vs) f i h = tt
condition_typed t stuck f i h = absurd i

under_typed : (t u : Ground) (o : Outcome) (go : Value → Flow) → OfType u o → ((v : Value) → Inhabits u v → FlowOf t (go v)) → FlowOf t (under_key o go)
under_typed t u (done v) go i h = h v i
under_typed t u (over vs) go i h = tt
under_typed t u stuck go i h = absurd i

-- a row tells whether it has a key at a column
pub key_tells : (l : Name) (w : Value) (r : Row) (s : Ground) → at l r ≡ Some s → (y : Value) → Inhabits (rec_type r) y → IsSome (same_key w (field_at l y))
key_tells l w r s is y typed = some (field_at l y) (has_field (part_typed l r s (done y) typed is))
  where
    some : (o : Option Value) → IsSome o → IsSome (same_key w o)
    some (Some v) h = refl
    some None h = cc

    has_field : OfType s (part l (done y)) → IsSome (field_at l y)
    has_field h = by (field_at l y) (subst (OfType s) (part_is l y) h)
      where
        by : (o : Option Value) → OfType s (outcome_of o) → IsSome o
        by (Some v) g = refl
        by None g = absurd g

kept_comes : (s : Ground) (c : Come) (k : Kind) (u : Ground) → s ≡ coll k u → ComesAs s c → ComesAs s (come_kept c)
kept_comes s (one o) k u e h = h
kept_comes s (many j f) k u e h = (h.0, h.1, items_typed j h.0 (collected j f) (collected_typed j h.0 f h.2))

module _ (Of : Scan → Ground → Type 0) (Listed : ℕ → List ℕ → Node → Type 0) (R : Readings) (reads : (c : Scan) (u : Ground) → Of c u → (rows : List Value) × (R c ≡ Some rows) × FlowOf u (flow rows fine)) where
  mutual
    pub plan_typed : (p : Node) (G : List Ground) (env : List Value) (s : Ground) → HaveTypes G env → PlanTypes Of Listed G p s → ComesAs s (plan R p env)
    plan_typed (node.Plain t) G env s e h = safe no_types no_tables (λ i t q. absurd cc) t G env s e (h.1 no_types)
    plan_typed (node.Var x) G env s e h = get_typed G env x s e h.0
    plan_typed (node.Rec ps) G env s e h = subst (λ q. OfType q (recorded (plan_fields R ps env))) (sym h.1) (record_typed (plan_fields R ps env) h.0 (fields_typed ps G env h.0 e h.3) h.2)
    plan_typed (node.Proj l a) G env s e h = part_typed l h.0 s (worth (plan R a env)) (worth_typed (rec_type h.0) (plan R a env) (plan_typed a G env (rec_type h.0) e h.1)) h.2
    plan_typed (node.Inj l a) G env s e h = subst (λ q. OfType q (tagged l (worth (plan R a env)))) (sym h.2) (tagged_typed l h.0 h.1 (worth (plan R a env)) h.4 (worth_typed h.1 (plan R a env) (plan_typed a G env h.1 e h.5)))
    plan_typed (node.Case a bs) G env s e h =
        after_comes s (var_type h.0) (worth (plan R a env)) (λ v. come_opened (as_variant v) (λ l w. plan_branches R bs l w env)) (worth_typed (var_type h.0) (plan R a env) (plan_typed a G env (var_type h.0) e h.1))
        (λ v i. let f = variant_is h.0 v i in subst (λ q. ComesAs s (come_opened q (λ l w. plan_branches R bs l w env))) (sym f.3) (branches_typed bs G env h.0 s f.0 f.1 f.2 e h.3 f.4 f.5 (h.2 f.0 (rw f.4 refl))))
    plan_typed (node.Make k ps) G env s e h = (h.0, h.1, items_flow ps G env h.0 e h.3)
    plan_typed (node.Union a b) G env s e h =
        subst (λ q. ComesAs q (plan R (node.Union a b) env)) (sym h.2)
        (union_comes h.0 h.1 (plan R a env) (plan R b env) (subst (λ q. ComesAs q (plan R a env)) h.2 (plan_typed a G env s e h.3)) (subst (λ q. ComesAs q (plan R b env)) h.2 (plan_typed b G env s e h.4)))
    plan_typed (node.Ext k b a) G env s e h = (
      h.0,
      h.3,
      drawn_typed h.0 h.2 (drawn_for k (plan R a env)) (λ v. coming (plan R b (v ∷ env))) (drawn_for_typed k h.1 h.2 (plan R a env) (plan_typed a G env (coll h.1 h.2) e h.4))
          (λ v i. coming_typed k h.0 (plan R b (v ∷ env)) (subst (λ q. ComesAs q (plan R b (v ∷ env))) h.3 (plan_typed b (h.2 ∷ G) (v ∷ env) s (i, e) h.5))),
    )
    plan_typed (node.If a b c) G env s e h =
        after_comes s bool (worth (plan R a env)) (λ v. come_chosen (as_bool v) (plan R b env) (plan R c env)) (worth_typed bool (plan R a env) (plan_typed a G env bool e h.0))
        (λ v i. chosen_comes s (as_bool v) (plan R b env) (plan R c env) i.0 (plan_typed b G env s e h.1) (plan_typed c G env s e h.2))
    plan_typed (node.Let a b) G env s e h =
        after_comes s h.0 (worth (plan R a env)) (λ v. plan R b (v ∷ env)) (worth_typed h.0 (plan R a env) (plan_typed a G env h.0 e h.1)) (λ v i. plan_typed b (h.0 ∷ G) (v ∷ env) s (i, e) h.2)
    plan_typed (node.Prim c ps) G env s e h = args_then_typed s (plan_all R ps env) h.0 (λ vs. answered (meaning c vs)) (all_typed ps G env h.0 e h.1) (λ vs i. prim_typed c h.0 s vs h.2 i)
    plan_typed (node.Scan c) G env s e h = let r = reads c h.0 h.3 in subst (λ q. ComesAs s (scanned c.kind q)) (sym r.1) (h.0, h.1, r.2)
    plan_typed (node.Join n k how o cs i q b) G env s e h = (
      h.0,
      h.4,
      drawn_typed h.0 h.2 (drawn_for k (plan R o env)) _ (drawn_for_typed k h.1 h.2 (plan R o env) (plan_typed o G env (coll h.1 h.2) e h.5))
          (λ x is. conds_typed h.0 cs (h.2 ∷ G) (x ∷ env) _ (is, e) h.6 (key_typed h.0 how k q (h.2 ∷ G) (x ∷ env) h.3 _ (is, e) h.9
          (λ test tells. drawn_typed h.0 h.3 (drawn_for k (scanned i.kind (R i))) _
          (drawn_for_typed k i.kind h.3 (scanned i.kind (R i)) (let r = reads i h.3 h.8 in subst (λ z. ComesAs (coll i.kind h.3) (scanned i.kind z)) (sym r.1) (h.3, refl, r.2)))
          (λ y typed. tested_typed h.0 (test y) _ (tells y typed)
          (coming_typed k h.0 (plan R b (y ∷ x ∷ env)) (subst (λ z. ComesAs z (plan R b (y ∷ x ∷ env))) h.4 (plan_typed b (h.3 ∷ h.2 ∷ G) (y ∷ x ∷ env) s (typed, (is, e)) h.10))))))),
    )
    plan_typed (node.Memo n frees p) G env s e h = kept_comes s (plan R p env) h.0 h.1 h.2 (plan_typed p G env s e h.3)

    conds_typed : (t : Ground) (cs : Nodes) (G : List Ground) (env : List Value) (f : Flow) → HaveTypes G env → EachPlan Of Listed G cs bool → FlowOf t f → FlowOf t (plan_conds R cs env f)
    conds_typed t no_nodes G env f e h g = g
    conds_typed t (nodes c cs) G env f e h g = condition_typed t (worth (plan R c env)) (plan_conds R cs env f) (worth_typed bool (plan R c env) (plan_typed c G env bool e h.0)) (conds_typed t cs G env f e h.1 g)

    key_typed : (t : Ground) (how : JoinHow) (k : Kind) (q : Key) (G : List Ground) (env : List Value) (v : Ground) (go : (Value → Option Bool) → Flow) → HaveTypes G env
        → KeyTypes Of Listed G how k q v → ((test : Value → Option Bool) → ((y : Value) → Inhabits v y → IsSome (test y)) → FlowOf t (go test)) → FlowOf t (plan_key R q env go)
    key_typed t way.Block k no_key G env v go e h f = f (λ y. Some true) (λ y is. refl)
    key_typed t way.Block k (key l p) G env v go e h f = absurd h
    key_typed t way.Index k no_key G env v go e h f = absurd h
    key_typed t way.Index k (key l p) G env v go e h f =
        under_typed t h.1 (worth (plan R p env)) _ (worth_typed h.1 (plan R p env) (plan_typed p G env h.1 e h.4)) (λ w is. f (λ y. same_key w (field_at l y)) (λ y typed. key_tells l w h.0 h.1 h.3 y (subst (λ z. Inhabits z y) h.2 typed)))

    items_flow : (ps : Nodes) (G : List Ground) (env : List Value) (u : Ground) → HaveTypes G env → EachPlan Of Listed G ps u → FlowOf u (plan_items R ps env)
    items_flow no_nodes G env u e h = tt
    items_flow (nodes p ps) G env u e h = item_typed u (worth (plan R p env)) (plan_items R ps env) (worth_typed u (plan R p env) (plan_typed p G env u e h.0)) (items_flow ps G env u e h.1)

    all_typed : (ps : Nodes) (G : List Ground) (env : List Value) (us : List Ground) → HaveTypes G env → PlansOf Of Listed G ps us → ArgsOf (plan_all R ps env) us
    all_typed no_nodes G env us e h = h
    all_typed (nodes p ps) G env us e h = (h.0, h.1, h.2, worth_typed h.0 (plan R p env) (plan_typed p G env h.0 e h.3), all_typed ps G env h.1 e h.4)

    fields_typed : (ps : Fields) (G : List Ground) (env : List Value) (r : Row) → HaveTypes G env → FieldTypes Of Listed G ps r → PartsOf (plan_fields R ps env) r
    fields_typed no_fields G env r e h = h
    fields_typed (fields l p ps) G env r e h = (h.0, h.1, h.2, worth_typed h.0 (plan R p env) (plan_typed p G env h.0 e h.3), fields_typed ps G env h.1 e h.4)

    branches_typed : (bs : Branches) (G : List Ground) (env : List Value) (r : Row) (s : Ground) (l : Name) (u : Ground) (v : Value) → HaveTypes G env → BranchTypes Of Listed G bs r s
        → at l r ≡ Some u → Inhabits u v → HasBranch l bs → ComesAs s (plan_branches R bs l v env)
    branches_typed no_branches G env r s l u v e h i j c = absurd c
    branches_typed (rest b) G env r s l u v e h i j c = plan_typed b G env s e h
    branches_typed (branch m b bs) G env r s l u v e h i j c =
        by_label (pointwise nat_eq l m) refl (λ q. plan_typed b (h.0 ∷ G) (v ∷ env) s (subst (λ t. Inhabits t v) q j, e) h.2) (λ d. branches_typed bs G env r s l u v e h.3 i j d)
      where
        by_label : (y : Bool) → pointwise nat_eq l m ≡ y → (u ≡ h.0 → ComesAs s (plan R b (v ∷ env))) → (HasBranch l bs → ComesAs s (plan_branches R bs l v env))
            → ComesAs s (cond y (plan R b (v ∷ env)) (plan_branches R bs l v env))
        by_label true q here there =
            let same : l ≡ m = same_text l m (sym q) in
            let f : Some u ≡ Some h.0 = sym i ∙ ap (λ k. at k r) same ∙ h.1 in
            let g : u ≡ h.0 = cc in
            here g
        by_label false q here there = there (⊎_elim (λ d. absurd (off d)) (λ d. d) c)
          where
            off : l ≡ m → ⊥
            off d = let f : pointwise nat_eq l m ≡ true = subst (λ k. pointwise nat_eq l k ≡ true) d (nat_list_eq_equiv.refl l) in let z : true ≡ false = sym f ∙ q in cc
