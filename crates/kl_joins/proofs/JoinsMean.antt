-- A plan of which joins were made comes to what the first one does.
use Rattle.std.proofs.Common.{◌≡◌, ℕ, Bool, true, false, cond, nat_eq, List, [], ◌∷◌, Option, Some, None, IsSome, refl, sym, ap, subst, ◌∙◌}
use Rattle.std.specs.Cmp.Lexicographic.{pointwise, same_text}
use mathlib.Core.Path.{fun_ext, ap₂}
use Rattle.kl_value.specs.Views.{field_at}
use Rattle.kl_value.specs.declared.Kind.{Kind}
use Rattle.kl_value.specs.declared.Value.{Value}
use Rattle.kl_type.specs.Ground.{Ground, Row, bool, rec as rec_type, var as var_type, coll, at}
use Rattle.kl_outcome.specs.Outcome.{Name, Outcome, done, over, stuck, Flow, fine, flow, drawn, as_variant, recorded, tagged, part, part, applied, outcome_of, item_then}
use Rattle.kl_outcome.specs.Typed.{Inhabits, HaveTypes, OfType}
use Rattle.kl_outcome.proofs.Drawing.{drawn_same}
use Rattle.kl_outcome.proofs.OutcomeTypes.{FlowOf, part_typed, part_is, variant_is}
use Rattle.kl_ask.specs.declared.settings.JoinHow.{JoinHow}
use Rattle.kl_ask.specs.declared.settings.JoinHow.TheVariants as way
use Rattle.kl_plan.specs.declared.plan.Scan.{Scan}
use Rattle.kl_plan.specs.Keys.{Tell}
use Rattle.kl_plan.specs.Loops.{around, loops}
use Rattle.kl_plan.specs.Nodes as node
use Rattle.kl_plan.specs.Nodes.{Node, Nodes, no_nodes, nodes, Fields, no_fields, fields, Branches, no_branches, rest, branch, Key, no_key, key}
use Rattle.kl_plan.specs.Numbers.{joins_in, joins_of_branches, joins_of_fields, memos_in, memos_of_branches, memos_of_fields}
use Rattle.kl_plan.specs.Meaning.{Come, one, many, worth, coming, drawn_for, come_after, come_opened, come_union, Readings, scanned, on_test, tested, under_key, same_key}
use Rattle.kl_plan.specs.Meaning.{plan, plan_all, plan_items, plan_fields, plan_branches, plan_conds, plan_key}
use Rattle.kl_plan.specs.Typing.{PlanTypes, EachPlan, PlansOf, FieldTypes, BranchTypes}
use Rattle.kl_plan.proofs.Around.{join_is_loops}
use Rattle.kl_plan.proofs.Agree.{choice_comes}
use Rattle.kl_plan.proofs.Comings.{ComesAs, worth_typed, drawn_for_typed}
use Rattle.kl_plan.proofs.Keyed.{keyed_is_loops}
use Rattle.kl_plan.proofs.Typed.{plan_typed}
use Rattle.kl_joins.specs.Bare.{Bare, BareNodes, BareFields, BareBranches}
use Rattle.kl_joins.specs.JoinsMade.{JoinsMade, KeyMade, EachMade, FieldsMade, BranchesMade, AreBefore}
use Rattle.kl_joins.proofs.Calm.{total_plan}
use Rattle.kl_joins.proofs.KeyTypes.{key_types, key_bare, key_total}
use Rattle.kl_joins.proofs.Lowered.{lowered_plan}
use Rattle.kl_joins.proofs.JoinsTyped.{both_first, both_behind, bare_source, bare_body, bare_item, bare_items, bare_test, bare_yes, bare_no, bare_conds, bare_within}
use Rattle.kl_joins.proofs.JoinsTyped.{conds_types, within_types, inner_types, key_typed}

-- ---- after a part that makes sense

after_same : (u : Ground) (o : Outcome) (go to : Value → Come) → OfType u o → ((v : Value) → Inhabits u v → go v ≡ to v) → come_after o go ≡ come_after o to
after_same u (done v) go to h e = e v h
after_same u (over vs) go to h e = refl
after_same u stuck go to h e = refl

after_from : (c d : Come) (go : Value → Come) → c ≡ d → come_after (worth c) go ≡ come_after (worth d) go
after_from c d go e = ap (λ z. come_after (worth z) go) e

drawn_from : (k : Kind) (c d : Come) (go : Value → Flow) → c ≡ d → many k (drawn (drawn_for k c) go) ≡ many k (drawn (drawn_for k d) go)
drawn_from k c d go e = ap (λ z. many k (drawn (drawn_for k z) go)) e

opened_same : (r : Row) (v : Value) (go to : Name → Value → Come) → Inhabits (var_type r) v
    → ((l : Name) (u : Ground) (w : Value) → at l r ≡ Some u → Inhabits u w → go l w ≡ to l w) → come_opened (as_variant v) go ≡ come_opened (as_variant v) to
opened_same r v go to h e = let f = variant_is r v h in subst (λ q. come_opened q go ≡ come_opened q to) (sym f.3) (e f.0 f.1 f.2 f.4 f.5)

has_field : (l : Name) (r : Row) (s : Ground) (y : Value) → at l r ≡ Some s → Inhabits (rec_type r) y → IsSome (field_at l y)
has_field l r s y is typed = by (field_at l y) (subst (OfType s) (part_is l y) (part_typed l r s (done y) typed is))
  where
    by : (o : Option Value) → OfType s (outcome_of o) → IsSome o
    by (Some v) g = refl
    by None g = absurd g

module _ (Of : Scan → Ground → Type 0) (Listed : ℕ → List ℕ → Node → Type 0) (R : Readings) (reads : (c : Scan) (u : Ground) → Of c u → (rows : List Value) × (R c ≡ Some rows) × FlowOf u (flow rows fine)) where
  comes : (p : Node) (G : List Ground) (env : List Value) (s : Ground) → HaveTypes G env → PlanTypes Of Listed G p s → ComesAs s (plan R p env)
  comes p G env s e h = plan_typed Of Listed R reads p G env s e h

  -- conditions that may not overflow come to truth values
  tells : (ds : Nodes) (G : List Ground) (env : List Value) → HaveTypes G env → EachPlan Of Listed G ds bool → AreBefore ds → BareNodes ds → Tell R ds env
  tells no_nodes G env e h b bare = tt
  tells (nodes d ds) G env e h b bare =
      let v = total_plan Of Listed R reads d G env bool e h.0 (bare_item d ds bare).0 b.0 in
      (v.0, v.1, v.2.0, tells ds G env e h.1 b.2 (bare_items d ds bare))

  -- joins whose parts come to the same come to the same
  joined_same : (n : ℕ) (k : Kind) (w : JoinHow) (o x : Node) (cs ds : Nodes) (i : Scan) (q f : Key) (b z : Node) (t v : Ground) (env : List Value)
      → plan R o env ≡ plan R x env → FlowOf t (drawn_for k (plan R x env)) → FlowOf v (drawn_for k (scanned i.kind (R i)))
      → ((a : Value) → Inhabits t a → (g h : Flow) → g ≡ h → plan_conds R cs (a ∷ env) g ≡ plan_conds R ds (a ∷ env) h)
      → ((a : Value) → Inhabits t a → (go on : (Value → Option Bool) → Flow) → go ≡ on → plan_key R q (a ∷ env) go ≡ plan_key R f (a ∷ env) on)
      → ((a y : Value) → Inhabits t a → Inhabits v y → plan R b (y ∷ a ∷ env) ≡ plan R z (y ∷ a ∷ env))
      → plan R (node.Join n k w o cs i q b) env ≡ plan R (node.Join n k w x ds i f z) env
  joined_same n k w o x cs ds i q f b z t v env outer rows inner conds keys bodies =
      drawn_from k _ _ _ outer
      ∙ ap (many k) (drawn_same t (drawn_for k (plan R x env)) _ _ rows (λ a is. conds a is _ _ (keys a is _ _
      (fun_ext λ test. drawn_same v (drawn_for k (scanned i.kind (R i))) _ _ inner (λ y typed. ap (λ c. on_test (test y) (coming c)) (bodies a y is typed))))))

  module _ (how : JoinHow) where
    mutual
      pub joins_mean : (r p : Node) (G : List Ground) (env : List Value) (s : Ground) → HaveTypes G env → JoinsMade how p r → Bare p → PlanTypes Of Listed G p s → plan R r env ≡ plan R p env
      joins_mean (node.Plain t) p G env s e m b h = ap (λ z. plan R z env) (sym m)
      joins_mean (node.Var x) p G env s e m b h = ap (λ z. plan R z env) (sym m)
      joins_mean (node.Rec ps) p G env s e m b h =
          let t = subst (λ z. PlanTypes Of Listed G z s) m.1 h in
          ap (λ fs. one (recorded fs)) (fields_mean ps m.0 G env t.0 e m.2 (subst Bare m.1 b) t.3) ∙ ap (λ z. plan R z env) (sym m.1)
      joins_mean (node.Proj l a) p G env s e m b h =
          let t = subst (λ z. PlanTypes Of Listed G z s) m.1 h in
          ap (λ c. one (part l (worth c))) (joins_mean a m.0 G env _ e m.2 (subst Bare m.1 b) t.1) ∙ ap (λ z. plan R z env) (sym m.1)
      joins_mean (node.Inj l a) p G env s e m b h =
          let t = subst (λ z. PlanTypes Of Listed G z s) m.1 h in
          ap (λ c. one (tagged l (worth c))) (joins_mean a m.0 G env _ e m.2 (subst Bare m.1 b) t.5) ∙ ap (λ z. plan R z env) (sym m.1)
      joins_mean (node.Case a bs) p G env s e m b h =
          let t = subst (λ z. PlanTypes Of Listed G z s) m.2 h in
          let d = subst Bare m.2 b in
          after_from _ _ _ (joins_mean a m.0 G env _ e m.3 (both_first (joins_in m.0) (joins_of_branches m.1) (memos_in m.0) (memos_of_branches m.1) d) t.1)
          ∙ after_same (var_type t.0) (worth (plan R m.0 env)) _ _ (worth_typed (var_type t.0) (plan R m.0 env) (comes m.0 G env (var_type t.0) e t.1))
          (λ v is. opened_same t.0 v _ _ is (λ l u w at_ typed.
          branches_mean bs m.1 G env t.0 s l u w e m.4 (both_behind (joins_in m.0) (joins_of_branches m.1) (memos_in m.0) (memos_of_branches m.1) d) t.3 at_ typed))
          ∙ ap (λ z. plan R z env) (sym m.2)
      joins_mean (node.Make k ps) p G env s e m b h =
          let t = subst (λ z. PlanTypes Of Listed G z s) m.1 h in
          ap (many k) (items_mean ps m.0 G env t.0 e m.2 (subst Bare m.1 b) t.3) ∙ ap (λ z. plan R z env) (sym m.1)
      joins_mean (node.Union a c) p G env s e m b h =
          let t = subst (λ z. PlanTypes Of Listed G z s) m.2 h in
          let d = subst Bare m.2 b in
          ap₂ come_union (joins_mean a m.0 G env s e m.3 (both_first (joins_in m.0) (joins_in m.1) (memos_in m.0) (memos_in m.1) d) t.3)
          (joins_mean c m.1 G env s e m.4 (both_behind (joins_in m.0) (joins_in m.1) (memos_in m.0) (memos_in m.1) d) t.4) ∙ ap (λ z. plan R z env) (sym m.2)
      joins_mean (node.Ext k c a) p G env s e m b h =
          let t = subst (λ z. PlanTypes Of Listed G z s) m.2 h in
          let d = subst Bare m.2 b in
          drawn_from k _ _ _ (joins_mean a m.1 G env _ e m.4 (bare_source k m.0 m.1 d) t.4)
          ∙ ap (many k) (drawn_same t.2 (drawn_for k (plan R m.1 env)) _ _ (drawn_for_typed k t.1 t.2 (plan R m.1 env) (comes m.1 G env _ e t.4))
          (λ v is. ap coming (joins_mean c m.0 (t.2 ∷ G) (v ∷ env) s (is, e) m.3 (bare_body k m.0 m.1 d) t.5))) ∙ ap (λ z. plan R z env) (sym m.2)
      joins_mean (node.If a c g) p G env s e m b h =
          let t = subst (λ z. PlanTypes Of Listed G z s) m.3 h in
          let d = subst Bare m.3 b in
          choice_comes _ _ _ _ _ _ (ap worth (joins_mean a m.0 G env _ e m.4 (bare_test m.0 m.1 m.2 d) t.0)) (joins_mean c m.1 G env s e m.5 (bare_yes m.0 m.1 m.2 d) t.1)
          (joins_mean g m.2 G env s e m.6 (bare_no m.0 m.1 m.2 d) t.2) ∙ ap (λ z. plan R z env) (sym m.3)
      joins_mean (node.Let a c) p G env s e m b h =
          let t = subst (λ z. PlanTypes Of Listed G z s) m.2 h in
          let d = subst Bare m.2 b in
          after_from _ _ _ (joins_mean a m.0 G env t.0 e m.3 (both_first (joins_in m.0) (joins_in m.1) (memos_in m.0) (memos_in m.1) d) t.1)
          ∙ after_same t.0 (worth (plan R m.0 env)) _ _ (worth_typed t.0 (plan R m.0 env) (comes m.0 G env t.0 e t.1))
          (λ v is. joins_mean c m.1 (t.0 ∷ G) (v ∷ env) s (is, e) m.4 (both_behind (joins_in m.0) (joins_in m.1) (memos_in m.0) (memos_in m.1) d) t.2)
          ∙ ap (λ z. plan R z env) (sym m.2)
      joins_mean (node.Prim c ps) p G env s e m b h =
          let t = subst (λ z. PlanTypes Of Listed G z s) m.1 h in
          ap (λ os. one (applied c os)) (all_mean ps m.0 G env t.0 e m.2 (subst Bare m.1 b) t.1) ∙ ap (λ z. plan R z env) (sym m.1)
      joins_mean (node.Scan c) p G env s e m b h = ap (λ z. plan R z env) (sym m)
      joins_mean (node.Join n k w o cs i q c) p G env s e m b h =
          let x = m.0 in
          let ds = m.1 in
          let y = m.2 in
          let z = m.3 in
          let t = subst (λ u. PlanTypes Of Listed G u s) m.4 h in
          let d = subst Bare m.4 b in
          let inside = node.Ext k y (node.Scan i) in
          let bare = bare_body k (around k ds inside) x d in
          let f = inner_types Of Listed k (t.2 ∷ G) i y s (within_types Of Listed k ds inside (t.2 ∷ G) s t.5) in
          let g = key_typed Of Listed how q k w y z (t.2 ∷ G) f.row s m.9 (bare_body k y (node.Scan i) (bare_within k ds inside bare)) f.body in
          let rows = drawn_for_typed k t.1 t.2 (plan R x env) (comes x G env _ e t.4) in
          let inner = drawn_for_typed k i.kind f.row (scanned i.kind (R i)) (let r = reads i f.row f.of in subst (λ u. ComesAs (coll i.kind f.row) (scanned i.kind u)) (sym r.1) (f.row, refl, r.2)) in
          let u = key_means q n k w x ds i y z G env t.2 f.row s e m.9 (bare_body k y (node.Scan i) (bare_within k ds inside bare)) f.body rows inner in
          joined_same n k w o x cs ds i q u.0 c z t.2 f.row env (joins_mean o x G env _ e m.6 (bare_source k (around k ds inside) x d) t.4) rows inner
          (λ a is. conds_mean cs ds (t.2 ∷ G) (a ∷ env) (is, e) m.7 (bare_conds k ds inside bare) (conds_types Of Listed k ds inside (t.2 ∷ G) s t.5))
          (λ a is. u.1 a is)
          (λ a v is typed. joins_mean c z (f.row ∷ t.2 ∷ G) (v ∷ a ∷ env) s (typed, (is, e)) m.8 g.1 g.0)
          ∙ u.2 ∙ ap (λ z. plan R z env) (sym m.4)
      joins_mean (node.Memo n frees a) p G env s e m b h = absurd m

      -- the key before joins were made of its value: it has the same value, and the join by it means its loops
      key_means : (q : Key) (n : ℕ) (k : Kind) (w : JoinHow) (x : Node) (ds : Nodes) (i : Scan) (y z : Node) (G : List Ground) (env : List Value) (t v s : Ground) → HaveTypes G env
          → KeyMade how k w y z q → Bare y → PlanTypes Of Listed (v ∷ t ∷ G) y s → FlowOf t (drawn_for k (plan R x env)) → FlowOf v (drawn_for k (scanned i.kind (R i)))
          → (f : Key) × ((a : Value) → Inhabits t a → (go on : (Value → Option Bool) → Flow) → go ≡ on → plan_key R q (a ∷ env) go ≡ plan_key R f (a ∷ env) on)
          × (plan R (node.Join n k w x ds i f z) env ≡ plan R (loops k x ds i y) env)
      key_means no_key n k way.Block x ds i y z G env t v s e m b h rows inner = (
        no_key,
        λ a is go on same. ap (λ f. f (λ r. Some true)) same,
        ap (λ r. plan R (node.Join n k way.Block x ds i no_key r) env) m.0 ∙ join_is_loops R n k way.Block x ds i y env,
      )
      key_means no_key n k way.Index x ds i y z G env t v s e m b h rows inner = absurd m
      key_means (key l p) n k way.Block x ds i y z G env t v s e m b h rows inner = absurd m
      key_means (key l p) n k way.Index x ds i y z G env t v s e m b h rows inner =
          let cs = m.1 in
          let c = m.2 in
          let a = m.3 in
          let u = m.4 in
          let nothing = node.Make k no_nodes in
          let types = subst (λ r. PlanTypes Of Listed (v ∷ t ∷ G) r s) m.5.body h in
          let bare = subst Bare m.5.body b in
          let whole = within_types Of Listed k cs (node.If c a nothing) (v ∷ t ∷ G) s types in
          let test = bare_test c a nothing (bare_within k cs (node.If c a nothing) bare) in
          let f = key_types Of Listed v (t ∷ G) l u c m.7 whole.0 in
          let g = key_bare l u c m.7 test in
          let lowered = lowered_plan Of Listed v u [] (t ∷ G) f.0 0 refl g.0 g.1 f.2 in (
            key l u,
            λ r is go on same. ap₂ (λ o to. under_key (worth o) (λ x. to (λ y. same_key x (field_at l y)))) (joins_mean p u (t ∷ G) (r ∷ env) f.0 (is, e) m.8 g lowered) same,
            ap (λ r. plan R (node.Join n k way.Index x ds i (key l u) r) env) m.6
                ∙ keyed_is_loops R k l u c a cs m.7 n way.Index x ds i t v env rows inner
                (λ r is. let w = total_plan Of Listed R reads u (t ∷ G) (r ∷ env) f.0 (is, e) lowered g.0 (key_total l u c m.7 test m.5.total) in (w.0, w.1))
                (λ r o is typed. (
                  tells cs (v ∷ t ∷ G) (o ∷ r ∷ env) (typed, (is, e)) (conds_types Of Listed k cs (node.If c a nothing) (v ∷ t ∷ G) s types) m.5.before (bare_conds k cs (node.If c a nothing) bare),
                  has_field l f.1.0 f.0 o f.1.2 (subst (λ z. Inhabits z o) f.1.1 typed),
                ))
                ∙ ap (λ r. plan R (loops k x ds i r) env) (sym m.5.body),
          )

      conds_mean : (cs ds : Nodes) (G : List Ground) (env : List Value) → HaveTypes G env → EachMade how ds cs → BareNodes ds → EachPlan Of Listed G ds bool → (g h : Flow) → g ≡ h
          → plan_conds R cs env g ≡ plan_conds R ds env h
      conds_mean no_nodes ds G env e m b t g h same = same ∙ ap (λ z. plan_conds R z env h) (sym m)
      conds_mean (nodes c cs) ds G env e m b t g h same =
          let t' = subst (λ z. EachPlan Of Listed G z bool) m.2 t in
          let d = subst BareNodes m.2 b in
          ap₂ (λ o f. tested (worth o) f) (joins_mean c m.0 G env bool e m.3 (bare_item m.0 m.1 d) t'.0) (conds_mean cs m.1 G env e m.4 (bare_items m.0 m.1 d) t'.1 g h same)
          ∙ ap (λ z. plan_conds R z env h) (sym m.2)

      items_mean : (ps qs : Nodes) (G : List Ground) (env : List Value) (s : Ground) → HaveTypes G env → EachMade how qs ps → BareNodes qs → EachPlan Of Listed G qs s → plan_items R ps env ≡ plan_items R qs env
      items_mean no_nodes qs G env s e m b h = ap (λ z. plan_items R z env) (sym m)
      items_mean (nodes p ps) qs G env s e m b h =
          let t = subst (λ z. EachPlan Of Listed G z s) m.2 h in
          let d = subst BareNodes m.2 b in
          ap₂ (λ c f. item_then (worth c) f) (joins_mean p m.0 G env s e m.3 (bare_item m.0 m.1 d) t.0) (items_mean ps m.1 G env s e m.4 (bare_items m.0 m.1 d) t.1)
          ∙ ap (λ z. plan_items R z env) (sym m.2)

      all_mean : (ps qs : Nodes) (G : List Ground) (env : List Value) (ss : List Ground) → HaveTypes G env → EachMade how qs ps → BareNodes qs → PlansOf Of Listed G qs ss → plan_all R ps env ≡ plan_all R qs env
      all_mean no_nodes qs G env ss e m b h = ap (λ z. plan_all R z env) (sym m)
      all_mean (nodes p ps) qs G env ss e m b h =
          let t = subst (λ z. PlansOf Of Listed G z ss) m.2 h in
          let d = subst BareNodes m.2 b in
          ap₂ (λ c os. worth c ∷ os) (joins_mean p m.0 G env t.0 e m.3 (bare_item m.0 m.1 d) t.3) (all_mean ps m.1 G env t.1 e m.4 (bare_items m.0 m.1 d) t.4)
          ∙ ap (λ z. plan_all R z env) (sym m.2)

      fields_mean : (ps qs : Fields) (G : List Ground) (env : List Value) (r : Row) → HaveTypes G env → FieldsMade how qs ps → BareFields qs → FieldTypes Of Listed G qs r → plan_fields R ps env ≡ plan_fields R qs env
      fields_mean no_fields qs G env r e m b h = ap (λ z. plan_fields R z env) (sym m)
      fields_mean (fields l p ps) qs G env r e m b h =
          let t = subst (λ z. FieldTypes Of Listed G z r) m.2 h in
          let d = subst BareFields m.2 b in
          ap₂ (λ c os. (l, worth c) ∷ os) (joins_mean p m.0 G env t.0 e m.3 (both_first (joins_in m.0) (joins_of_fields m.1) (memos_in m.0) (memos_of_fields m.1) d) t.3)
          (fields_mean ps m.1 G env t.1 e m.4 (both_behind (joins_in m.0) (joins_of_fields m.1) (memos_in m.0) (memos_of_fields m.1) d) t.4)
          ∙ ap (λ z. plan_fields R z env) (sym m.2)

      branches_mean : (bs cs : Branches) (G : List Ground) (env : List Value) (r : Row) (s : Ground) (l : Name) (u : Ground) (v : Value) → HaveTypes G env → BranchesMade how cs bs → BareBranches cs
          → BranchTypes Of Listed G cs r s → at l r ≡ Some u → Inhabits u v → plan_branches R bs l v env ≡ plan_branches R cs l v env
      branches_mean no_branches cs G env r s l u v e m b h i j = ap (λ z. plan_branches R z l v env) (sym m)
      branches_mean (rest c) cs G env r s l u v e m b h i j =
          joins_mean c m.0 G env s e m.2 (subst BareBranches m.1 b) (subst (λ z. BranchTypes Of Listed G z r s) m.1 h) ∙ ap (λ z. plan_branches R z l v env) (sym m.1)
      branches_mean (branch k c bs) cs G env r s l u v e m b h i j =
          let t = subst (λ z. BranchTypes Of Listed G z r s) m.2 h in
          let d = subst BareBranches m.2 b in
          by_label (pointwise nat_eq l k) refl
          (λ q. joins_mean c m.0 (t.0 ∷ G) (v ∷ env) s (subst (λ z. Inhabits z v) q j, e) m.3 (both_first (joins_in m.0) (joins_of_branches m.1) (memos_in m.0) (memos_of_branches m.1) d) t.2)
          (branches_mean bs m.1 G env r s l u v e m.4 (both_behind (joins_in m.0) (joins_of_branches m.1) (memos_in m.0) (memos_of_branches m.1) d) t.3 i j)
          ∙ ap (λ z. plan_branches R z l v env) (sym m.2)
        where
          by_label : (y : Bool) → pointwise nat_eq l k ≡ y → (u ≡ (subst (λ z. BranchTypes Of Listed G z r s) m.2 h).0 → plan R c (v ∷ env) ≡ plan R m.0 (v ∷ env))
              → plan_branches R bs l v env ≡ plan_branches R m.1 l v env
              → cond y (plan R c (v ∷ env)) (plan_branches R bs l v env) ≡ cond y (plan R m.0 (v ∷ env)) (plan_branches R m.1 l v env)
          by_label true q here there =
              let t = subst (λ z. BranchTypes Of Listed G z r s) m.2 h in
              let same : l ≡ k = same_text l k (sym q) in
              let f : Some u ≡ Some t.0 = sym i ∙ ap (λ n. at n r) same ∙ t.1 in
              let g : u ≡ t.0 = cc in
              here g
          by_label false q here there = there
