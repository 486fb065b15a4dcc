-- A plan comes to like things where values of its parts are kept.
use Rattle.std.proofs.Common.{◌≡◌, ⊎_elim, ℕ, ◌+◌, Bool, true, false, cond, nat_eq, List, ◌∷◌, Option, Some, IsSome}
use Rattle.std.proofs.Common.{refl, sym, ap, subst, ◌∙◌}
use Rattle.std.specs.Cmp.Lexicographic.{pointwise, same_text}
use Rattle.std.proofs.lemmas.Cmp.{nat_list_eq_equiv}
use mathlib.Core.Path.{ap₂}
use Rattle.kl_value.specs.Views.{as_bool, field_at}
use Rattle.kl_value.specs.declared.Kind.{Kind}
use Rattle.kl_value.specs.declared.Kind.TheVariants as kind
use Rattle.kl_value.specs.declared.Value.{Value}
use Rattle.kl_type.specs.Ground.{Ground, Row, bool, rec as rec_type, var as var_type, coll, at}
use Rattle.kl_ask.specs.declared.settings.JoinHow.{JoinHow}
use Rattle.kl_ask.specs.declared.settings.JoinHow.TheVariants as way
use Rattle.kl_outcome.specs.Outcome.{Name, Flow, fine, flow, item_then, as_variant, recorded, part, tagged, applied}
use Rattle.kl_outcome.specs.Typed.{Inhabits, HaveTypes}
use Rattle.kl_outcome.proofs.OutcomeTypes.{FlowOf, variant_is}
use Rattle.kl_plan.specs.declared.plan.Scan.{Scan}
use Rattle.kl_plan.specs.Alike.{Alike}
use Rattle.kl_plan.specs.Nodes as node
use Rattle.kl_plan.specs.Nodes.{Node, Nodes, no_nodes, nodes, Fields, no_fields, fields, Branches, no_branches, rest, branch}
use Rattle.kl_plan.specs.Nodes.{Key, no_key, key}
use Rattle.kl_plan.specs.Meaning.{Come, one, many, worth, coming, drawn_for, come_chosen, come_opened, same_key}
use Rattle.kl_plan.specs.Meaning.{Readings, scanned, plan, plan_all, plan_items, plan_fields, plan_branches, plan_conds, plan_key}
use Rattle.kl_plan.specs.Typing.{PlanTypes, EachPlan, PlansOf, FieldTypes, BranchTypes, HasBranch, KeyTypes}
use Rattle.kl_plan.proofs.Comings.{ComesAs, drawn_for_typed}
use Rattle.kl_plan.proofs.Typed.{plan_typed, key_tells}
use Rattle.kl_joins.specs.declared.keeping.Place.{Place}
use Rattle.kl_joins.specs.declared.keeping.Place.TheVariants as place
use Rattle.kl_joins.specs.MemosMade.{aside, at_source, MemosMade, EachKept, FieldsKept, BranchesKept, KeyKept}
use Rattle.kl_joins.proofs.Likely.{Like, Both, like_same, both_itself, like_worth, coming_both, drawn_for_both, many_like, drawn_both}
use Rattle.kl_joins.proofs.Likely.{after_like, chosen_like, union_like, kept_like, on_test_both, tested_both, under_both}

module _ (Of : Scan → Ground → Type 0) (Listed : ℕ → List ℕ → Node → Type 0) (R : Readings)
    (reads : (c : Scan) (u : Ground) → Of c u → (rows : List Value) × (R c ≡ Some rows) × FlowOf u (flow rows fine)) where
  -- of a plan of this form
  formed : (p x : Node) (G : List Ground) (env : List Value) (s : Ground) (c : Come) → p ≡ x → PlanTypes Of Listed G p s
      → (PlanTypes Of Listed G x s → Like s (plan R x env) c) → Like s (plan R p env) c
  formed p x G env s c is h go = subst (λ y. Like s (plan R y env) c) (sym is) (go (subst (λ y. PlanTypes Of Listed G y s) is h))

  -- where both come to the same
  equal : (x : Node) (G : List Ground) (env : List Value) (s : Ground) (c : Come) → HaveTypes G env → PlanTypes Of Listed G x s → c ≡ plan R x env
      → Like s (plan R x env) c
  equal x G env s c e h is = like_same s (plan R x env) c is (plan_typed Of Listed R reads x G env s e h)

  -- the rows of the inner scan of a join
  inner_both : (k : Kind) (i : Scan) (v : Ground) → Of i v
      → Both k v (drawn_for k (scanned i.kind (R i))) (drawn_for k (scanned i.kind (R i)))
  inner_both k i v h =
      let r = reads i v h in
      both_itself k v (drawn_for k (scanned i.kind (R i)))
      (drawn_for_typed k i.kind v (scanned i.kind (R i)) (subst (λ x. ComesAs (coll i.kind v) (scanned i.kind x)) (sym r.1) (v, refl, r.2)))

  key_parts : (how : JoinHow) (k : Kind) (G : List Ground) (m : Name) (p : Node) (v : Ground) → KeyTypes Of Listed G how k (key m p) v
      → (r : Row) × (t : Ground) × (v ≡ rec_type r) × (at m r ≡ Some t) × PlanTypes Of Listed G p t
  key_parts way.Block k G m p v h = absurd h
  key_parts way.Index k G m p v h = h

  mutual
    like : (r : Node) (l : Place) (d : ℕ) (p : Node) (G : List Ground) (env : List Value) (s : Ground) → HaveTypes G env
        → PlanTypes Of Listed G p s → MemosMade l d p r → Like s (plan R p env) (plan R r env)
    like (node.Plain t) l d p G env s e h w =
        formed p (node.Plain t) G env s (plan R (node.Plain t) env) w h (λ g. equal (node.Plain t) G env s _ e g refl)
    like (node.Var x) l d p G env s e h w =
        formed p (node.Var x) G env s (plan R (node.Var x) env) w h (λ g. equal (node.Var x) G env s _ e g refl)
    like (node.Rec ps) l d p G env s e h w =
        formed p (node.Rec w.0) G env s (plan R (node.Rec ps) env) w.1 h
        (λ g. equal (node.Rec w.0) G env s (plan R (node.Rec ps) env) e g
        (ap (λ fs. one (recorded fs)) (like_fields ps (aside l) d w.0 G env g.0 e g.3 w.2)))
    like (node.Proj m a) l d p G env s e h w =
        formed p (node.Proj m w.0) G env s (plan R (node.Proj m a) env) w.1 h
        (λ g. equal (node.Proj m w.0) G env s (plan R (node.Proj m a) env) e g
        (ap (λ o. one (part m o)) (like_worth (rec_type g.0) _ _ (like a (aside l) d w.0 G env (rec_type g.0) e g.1 w.2))))
    like (node.Inj m a) l d p G env s e h w =
        formed p (node.Inj m w.0) G env s (plan R (node.Inj m a) env) w.1 h
        (λ g. equal (node.Inj m w.0) G env s (plan R (node.Inj m a) env) e g
        (ap (λ o. one (tagged m o)) (like_worth g.1 _ _ (like a (aside l) d w.0 G env g.1 e g.5 w.2))))
    like (node.Case a bs) l d p G env s e h w =
        formed p (node.Case w.0 w.1) G env s (plan R (node.Case a bs) env) w.2 h
        (λ g.
        let before : Name → Value → Come = λ m x. plan_branches R w.1 m x env in
        let behind : Name → Value → Come = λ m x. plan_branches R bs m x env in
        after_like s (var_type g.0) (plan R w.0 env) (plan R a env) (λ v. come_opened (as_variant v) before)
        (λ v. come_opened (as_variant v) behind)
        (like a (aside l) d w.0 G env (var_type g.0) e g.1 w.3)
        (λ v i.
        let f = variant_is g.0 v i in
        subst (λ q. Like s (come_opened q before) (come_opened q behind)) (sym f.3)
        (like_branches bs l d w.1 G env g.0 s f.0 f.1 f.2 e g.3 f.4 f.5 (g.2 f.0 (rw f.4 refl)) w.4)))
    like (node.Make k ps) l d p G env s e h w =
        formed p (node.Make k w.0) G env s (plan R (node.Make k ps) env) w.1 h
        (λ g. equal (node.Make k w.0) G env s (plan R (node.Make k ps) env) e g
        (ap (many k) (like_items ps (aside l) d w.0 G env g.0 e g.3 w.2)))
    like (node.Union a b) l d p G env s e h w =
        formed p (node.Union w.0 w.1) G env s (plan R (node.Union a b) env) w.2 h
        (λ g.
        let first = subst (λ q. Like q (plan R w.0 env) (plan R a env)) g.2 (like a l d w.0 G env s e g.3 w.3) in
        let second = subst (λ q. Like q (plan R w.1 env) (plan R b env)) g.2 (like b l d w.1 G env s e g.4 w.4) in
        subst (λ q. Like q (plan R (node.Union w.0 w.1) env) (plan R (node.Union a b) env)) (sym g.2)
        (union_like g.0 g.1 (plan R w.0 env) (plan R w.1 env) (plan R a env) (plan R b env) first second))
    like (node.Ext k b a) l d p G env s e h w =
        formed p (node.Ext k w.0 w.1) G env s (plan R (node.Ext k b a) env) w.2 h
        (λ g.
        let body : (v : Value) → Inhabits g.2 v → Like (coll k g.0) (plan R w.0 (v ∷ env)) (plan R b (v ∷ env)) =
        λ v i. subst (λ q. Like q (plan R w.0 (v ∷ env)) (plan R b (v ∷ env))) g.3
        (like b place.Spine (d + 1) w.0 (g.2 ∷ G) (v ∷ env) s (i, e) g.5 w.4) in
        subst (λ q. Like q (plan R (node.Ext k w.0 w.1) env) (plan R (node.Ext k b a) env)) (sym g.3)
        (many_like k g.0 _ _
        (drawn_both k g.0 g.2 _ _ (λ v. coming (plan R w.0 (v ∷ env))) (λ v. coming (plan R b (v ∷ env)))
        (drawn_for_both k g.1 g.2 (plan R w.1 env) (plan R a env) (like a (at_source l w.1) d w.1 G env (coll g.1 g.2) e g.4 w.5))
        (λ v i. coming_both k g.0 (plan R w.0 (v ∷ env)) (plan R b (v ∷ env)) (body v i)))))
    like (node.If a b c) l d p G env s e h w =
        formed p (node.If w.0 w.1 w.2) G env s (plan R (node.If a b c) env) w.3 h
        (λ g.
        let first = like b l d w.1 G env s e g.1 w.5 in
        let second = like c l d w.2 G env s e g.2 w.6 in
        after_like s bool (plan R w.0 env) (plan R a env) (λ v. come_chosen (as_bool v) (plan R w.1 env) (plan R w.2 env))
        (λ v. come_chosen (as_bool v) (plan R b env) (plan R c env)) (like a (aside l) d w.0 G env bool e g.0 w.4)
        (λ v i. chosen_like s (as_bool v) (plan R w.1 env) (plan R w.2 env) (plan R b env) (plan R c env) i.0 first second))
    like (node.Let a b) l d p G env s e h w =
        formed p (node.Let w.0 w.1) G env s (plan R (node.Let a b) env) w.2 h
        (λ g. after_like s g.0 (plan R w.0 env) (plan R a env) (λ v. plan R w.1 (v ∷ env)) (λ v. plan R b (v ∷ env))
        (like a (aside l) d w.0 G env g.0 e g.1 w.3) (λ v i. like b l (d + 1) w.1 (g.0 ∷ G) (v ∷ env) s (i, e) g.2 w.4))
    like (node.Prim c ps) l d p G env s e h w =
        formed p (node.Prim c w.0) G env s (plan R (node.Prim c ps) env) w.1 h
        (λ g. equal (node.Prim c w.0) G env s (plan R (node.Prim c ps) env) e g
        (ap (λ os. one (applied c os)) (like_all ps (aside l) d w.0 G env g.0 e g.1 w.2)))
    like (node.Scan c) l d p G env s e h w =
        formed p (node.Scan c) G env s (plan R (node.Scan c) env) w.0 h (λ g. equal (node.Scan c) G env s _ e g refl)
    like (node.Join n k how o cs i q b) l d p G env s e h w =
        formed p (node.Join n k how w.0 w.1 i w.2 w.3) G env s (plan R (node.Join n k how o cs i q b) env) w.4 h
        (λ g.
        let body : (x y : Value) → Inhabits g.2 x → Inhabits g.3 y → Like (coll k g.0) (plan R w.3 (y ∷ x ∷ env)) (plan R b (y ∷ x ∷ env)) =
        λ x y is typed. subst (λ z. Like z (plan R w.3 (y ∷ x ∷ env)) (plan R b (y ∷ x ∷ env))) g.4
        (like b place.Spine (d + 2) w.3 (g.3 ∷ g.2 ∷ G) (y ∷ x ∷ env) s (typed, (is, e)) g.10 w.9) in
        subst (λ z. Like z (plan R (node.Join n k how w.0 w.1 i w.2 w.3) env) (plan R (node.Join n k how o cs i q b) env)) (sym g.4)
        (many_like k g.0 _ _
        (drawn_both k g.0 g.2 _ _ _ _
        (drawn_for_both k g.1 g.2 (plan R w.0 env) (plan R o env) (like o (aside l) d w.0 G env (coll g.1 g.2) e g.5 w.6))
        (λ x is. like_conds k g.0 cs (d + 1) w.1 (g.2 ∷ G) (x ∷ env) _ _ (is, e) g.6 w.7
        (like_key k g.0 how q (d + 1) w.2 (g.2 ∷ G) (x ∷ env) g.3 _ _ (is, e) g.9 w.8
        (λ test tells. drawn_both k g.0 g.3 _ _ _ _ (inner_both k i g.3 g.8)
        (λ y typed. on_test_both k g.0 (test y) _ _ (tells y typed)
        (coming_both k g.0 (plan R w.3 (y ∷ x ∷ env)) (plan R b (y ∷ x ∷ env)) (body x y is typed)))))))))
    like (node.Memo n frees a) l d p G env s e h w =
        formed p a G env s (plan R (node.Memo n frees a) env) (sym w.3) h
        (λ g. kept_like s (plan R a env) (plan_typed Of Listed R reads a G env s e g))

    like_items : (ps : Nodes) (l : Place) (d : ℕ) (qs : Nodes) (G : List Ground) (env : List Value) (u : Ground) → HaveTypes G env
        → EachPlan Of Listed G qs u → EachKept l d qs ps → plan_items R ps env ≡ plan_items R qs env
    like_items no_nodes l d qs G env u e h w = ap (λ x. plan_items R x env) (sym w)
    like_items (nodes p ps) l d qs G env u e h w =
        let g : EachPlan Of Listed G (nodes w.0 w.1) u = subst (λ x. EachPlan Of Listed G x u) w.2 h in
        ap₂ item_then (like_worth u _ _ (like p l d w.0 G env u e g.0 w.3)) (like_items ps l d w.1 G env u e g.1 w.4)
        ∙ ap (λ x. plan_items R x env) (sym w.2)

    like_all : (ps : Nodes) (l : Place) (d : ℕ) (qs : Nodes) (G : List Ground) (env : List Value) (us : List Ground) → HaveTypes G env
        → PlansOf Of Listed G qs us → EachKept l d qs ps → plan_all R ps env ≡ plan_all R qs env
    like_all no_nodes l d qs G env us e h w = ap (λ x. plan_all R x env) (sym w)
    like_all (nodes p ps) l d qs G env us e h w =
        let g : PlansOf Of Listed G (nodes w.0 w.1) us = subst (λ x. PlansOf Of Listed G x us) w.2 h in
        ap₂ (λ o os. o ∷ os) (like_worth g.0 _ _ (like p l d w.0 G env g.0 e g.3 w.3)) (like_all ps l d w.1 G env g.1 e g.4 w.4)
        ∙ ap (λ x. plan_all R x env) (sym w.2)

    like_fields : (ps : Fields) (l : Place) (d : ℕ) (qs : Fields) (G : List Ground) (env : List Value) (r : Row) → HaveTypes G env
        → FieldTypes Of Listed G qs r → FieldsKept l d qs ps → plan_fields R ps env ≡ plan_fields R qs env
    like_fields no_fields l d qs G env r e h w = ap (λ x. plan_fields R x env) (sym w)
    like_fields (fields m p ps) l d qs G env r e h w =
        let g : FieldTypes Of Listed G (fields m w.0 w.1) r = subst (λ x. FieldTypes Of Listed G x r) w.2 h in
        ap₂ (λ o os. (m, o) ∷ os) (like_worth g.0 _ _ (like p l d w.0 G env g.0 e g.3 w.3)) (like_fields ps l d w.1 G env g.1 e g.4 w.4)
        ∙ ap (λ x. plan_fields R x env) (sym w.2)

    like_branches : (bs : Branches) (l : Place) (d : ℕ) (cs : Branches) (G : List Ground) (env : List Value) (r : Row) (s : Ground)
        (n : Name) (u : Ground) (v : Value) → HaveTypes G env → BranchTypes Of Listed G cs r s → at n r ≡ Some u → Inhabits u v
        → HasBranch n cs → BranchesKept l d cs bs → Like s (plan_branches R cs n v env) (plan_branches R bs n v env)
    like_branches no_branches l d cs G env r s n u v e h i j c w = absurd (subst (HasBranch n) w c)
    like_branches (rest b) l d cs G env r s n u v e h i j c w =
        let g : PlanTypes Of Listed G w.0 s = subst (λ x. BranchTypes Of Listed G x r s) w.1 h in
        subst (λ x. Like s (plan_branches R x n v env) (plan R b env)) (sym w.1) (like b l d w.0 G env s e g w.2)
    like_branches (branch m b bs) l d cs G env r s n u v e h i j c w =
        subst (λ x. Like s (plan_branches R x n v env) (plan_branches R (branch m b bs) n v env)) (sym w.2)
        (by_label (pointwise nat_eq n m) refl
        (λ q. like b l (d + 1) w.0 (g.0 ∷ G) (v ∷ env) s (subst (λ t. Inhabits t v) q j, e) g.2 w.3)
        (λ k. like_branches bs l d w.1 G env r s n u v e g.3 i j k w.4))
      where
        g : BranchTypes Of Listed G (branch m w.0 w.1) r s
        g = subst (λ x. BranchTypes Of Listed G x r s) w.2 h

        has : HasBranch n (branch m w.0 w.1)
        has = subst (HasBranch n) w.2 c

        by_label : (y : Bool) → pointwise nat_eq n m ≡ y → (u ≡ g.0 → Like s (plan R w.0 (v ∷ env)) (plan R b (v ∷ env)))
            → (HasBranch n w.1 → Like s (plan_branches R w.1 n v env) (plan_branches R bs n v env))
            → Like s (cond y (plan R w.0 (v ∷ env)) (plan_branches R w.1 n v env))
            (cond y (plan R b (v ∷ env)) (plan_branches R bs n v env))
        by_label true q here there =
            let same : n ≡ m = same_text n m (sym q) in
            let f : Some u ≡ Some g.0 = sym i ∙ ap (λ x. at x r) same ∙ g.1 in
            let z : u ≡ g.0 = cc in
            here z
        by_label false q here there = there (⊎_elim (λ k. absurd (off k)) (λ k. k) has)
          where
            off : n ≡ m → ⊥
            off k =
                let f : pointwise nat_eq n m ≡ true = subst (λ x. pointwise nat_eq n x ≡ true) k (nat_list_eq_equiv.refl n) in
                let z : true ≡ false = sym f ∙ q in
                cc

    like_conds : (k : Kind) (t : Ground) (cs : Nodes) (d : ℕ) (ds : Nodes) (G : List Ground) (env : List Value) (f g : Flow)
        → HaveTypes G env → EachPlan Of Listed G ds bool → EachKept place.Aside d ds cs → Both k t f g
        → Both k t (plan_conds R ds env f) (plan_conds R cs env g)
    like_conds k t no_nodes d ds G env f g e h w b = subst (λ x. Both k t (plan_conds R x env f) g) (sym w) b
    like_conds k t (nodes c cs) d ds G env f g e h w b =
        let i : EachPlan Of Listed G (nodes w.0 w.1) bool = subst (λ x. EachPlan Of Listed G x bool) w.2 h in
        subst (λ x. Both k t (plan_conds R x env f) (plan_conds R (nodes c cs) env g)) (sym w.2)
        (tested_both k t (plan R w.0 env) (plan R c env) (plan_conds R w.1 env f) (plan_conds R cs env g)
        (like c place.Aside d w.0 G env bool e i.0 w.3) (like_conds k t cs d w.1 G env f g e i.1 w.4 b))

    like_key : (k : Kind) (t : Ground) (how : JoinHow) (q : Key) (d : ℕ) (x : Key) (G : List Ground) (env : List Value) (v : Ground)
        (go to : (Value → Option Bool) → Flow) → HaveTypes G env → KeyTypes Of Listed G how k x v → KeyKept d x q
        → ((test : Value → Option Bool) → ((y : Value) → Inhabits v y → IsSome (test y)) → Both k t (go test) (to test))
        → Both k t (plan_key R x env go) (plan_key R q env to)
    like_key k t how no_key d x G env v go to e h w b =
        subst (λ y. Both k t (plan_key R y env go) (to (λ z. Some true))) (sym w) (b (λ z. Some true) (λ z is. refl))
    like_key k t how (key m p) d x G env v go to e h w b =
        let f = key_parts how k G m w.0 v (subst (λ y. KeyTypes Of Listed G how k y v) w.1 h) in
        subst (λ y. Both k t (plan_key R y env go) (plan_key R (key m p) env to)) (sym w.1)
        (under_both k t f.1 (plan R w.0 env) (plan R p env) (λ u. go (λ y. same_key u (field_at m y)))
        (λ u. to (λ y. same_key u (field_at m y))) (like p place.Aside d w.0 G env f.1 e f.4 w.2)
        (λ u i. b (λ y. same_key u (field_at m y)) (λ y typed. key_tells m u f.0 f.1 f.3 y (subst (λ z. Inhabits z y) f.2 typed))))

  -- both have one value
  pub memos_worth : (r : Node) (l : Place) (d : ℕ) (p : Node) (G : List Ground) (env : List Value) (s : Ground) → HaveTypes G env
      → PlanTypes Of Listed G p s → MemosMade l d p r → worth (plan R r env) ≡ worth (plan R p env)
  memos_worth r l d p G env s e h w = like_worth s (plan R p env) (plan R r env) (like r l d p G env s e h w)

  -- of a collection the items come alike
  pub memos_coming : (r : Node) (l : Place) (d : ℕ) (p : Node) (G : List Ground) (env : List Value) (k : Kind) (u : Ground)
      → HaveTypes G env → PlanTypes Of Listed G p (coll k u) → MemosMade l d p r → Alike k (coming (plan R p env)) (coming (plan R r env))
  memos_coming r l d p G env k u e h w = (coming_both k u (plan R p env) (plan R r env) (like r l d p G env (coll k u) e h w)).0

  -- of a list they are the same
  pub memos_list : (r : Node) (l : Place) (d : ℕ) (p : Node) (G : List Ground) (env : List Value) (u : Ground) → HaveTypes G env
      → PlanTypes Of Listed G p (coll kind.List u) → MemosMade l d p r → coming (plan R r env) ≡ coming (plan R p env)
  memos_list r l d p G env u e h w = memos_coming r l d p G env kind.List u e h w
