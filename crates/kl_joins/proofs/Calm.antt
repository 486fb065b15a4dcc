-- A plan without joins in which no primitive may overflow does not overflow.
use Rattle.std.proofs.Common.{◌≡◌, ℕ, Bool, true, false, ◌&&◌, cond, nat_eq, List, [], ◌∷◌, ◌++◌, Option, Some, None, slice_get, refl}
use Rattle.std.specs.Cmp.Lexicographic.{pointwise}
use Rattle.kl_value.specs.declared.Kind.{Kind}
use Rattle.kl_value.specs.declared.Value.{Value}
use Rattle.kl_value.specs.Views.{as_bool}
use Rattle.kl_type.specs.Ground.{Ground}
use Rattle.kl_outcome.specs.Outcome.{Name, Outcome, done, over, stuck, fine, flow, as_record, as_variant, items_of, collected}
use Rattle.kl_outcome.specs.Typed.{Inhabits, HaveTypes, OfType}
use Rattle.kl_outcome.proofs.Having.{both_true}
use Rattle.kl_core.specs.Counts.{fits_in, total_in, total_trees, total_parts, total_arms, total_code}
use Rattle.kl_core.proofs.Totals.{NoOverflow, NoOverflowIn, total_calm}
use Rattle.kl_plan.specs.declared.plan.Scan.{Scan}
use Rattle.kl_plan.specs.Erased.{erased, erased_nodes, erased_fields, erased_branches}
use Rattle.kl_plan.specs.Kinds.{first_kind}
use Rattle.kl_plan.specs.Nodes as node
use Rattle.kl_plan.specs.Nodes.{Node, Nodes, no_nodes, nodes, Fields, no_fields, fields, Branches, no_branches, rest, branch}
use Rattle.kl_plan.specs.Meaning.{Come, one, many, worth, coming, drawn_for, come_after, come_chosen, come_opened, kind_come, joined_as, come_union, come_kept}
use Rattle.kl_plan.specs.Meaning.{Readings, scanned, no_tables, plan, plan_all, plan_items, plan_fields, plan_branches}
use Rattle.kl_plan.specs.Numbers.{joins_in, joins_of_nodes, joins_of_fields, joins_of_branches}
use Rattle.kl_plan.specs.Typing.{PlanTypes}
use Rattle.kl_plan.proofs.Comings.{worth_typed}
use Rattle.kl_plan.proofs.Typed.{plan_typed}
use Rattle.kl_outcome.proofs.OutcomeTypes.{FlowOf}
use Rattle.kl_plan.proofs.Empty.{none_first, none_behind}
use Rattle.kl_joins.proofs.CalmParts.{calm_flow, calm_after, calm_some, calm_field, calm_items, calm_followed, calm_drawn, calm_item, calm_collected, calm_union, NoOverflowAll, calm_args, NoOverflowParts, calm_parts, calm_prim}

abbrev IsCalm : Come → Type 0
IsCalm (one o) = NoOverflow o
IsCalm (many k f) = NoOverflowIn f

worth_calm : (c : Come) → IsCalm c → NoOverflow (worth c)
worth_calm (one o) h = h
worth_calm (many k f) h = calm_collected k f h

coming_calm : (c : Come) → IsCalm c → NoOverflowIn (coming c)
coming_calm (one o) h = calm_items o h
coming_calm (many k f) h = h

drawn_for_calm : (k : Kind) (c : Come) → IsCalm c → NoOverflowIn (drawn_for k c)
drawn_for_calm k (one o) h = calm_items o h
drawn_for_calm k (many j f) h = by (fits_in j k)
  where
    by : (b : Bool) → NoOverflowIn (cond b f (items_of (collected j f)))
    by true = h
    by false = calm_items (collected j f) (calm_collected j f h)

after_calm : (o : Outcome) (go : Value → Come) → NoOverflow o → ((v : Value) → IsCalm (go v)) → IsCalm (come_after o go)
after_calm (done v) go h g = g v
after_calm (over vs) go h g = absurd h
after_calm stuck go h g = tt

chosen_calm : (b : Option Bool) (c d : Come) → IsCalm c → IsCalm d → IsCalm (come_chosen b c d)
chosen_calm (Some true) c d h g = h
chosen_calm (Some false) c d h g = g
chosen_calm None c d h g = tt

opened_calm : (o : Option (Name × Value)) (go : Name → Value → Come) → ((l : Name) (v : Value) → IsCalm (go l v)) → IsCalm (come_opened o go)
opened_calm (Some c) go g = g c.0 c.1
opened_calm None go g = tt

cond_calm : (b : Bool) (c d : Come) → IsCalm c → IsCalm d → IsCalm (cond b c d)
cond_calm true c d h g = h
cond_calm false c d h g = g

union_calm : (c d : Come) → IsCalm c → IsCalm d → IsCalm (come_union c d)
union_calm c d h g = by (first_kind (kind_come c) (kind_come d))
  where
    by : (i : Option Kind) → IsCalm (joined_as i c d)
    by (Some k) = calm_followed (coming c) (coming d) (coming_calm c h) (coming_calm d g)
    by None = calm_union (worth c) (worth d) (worth_calm c h) (worth_calm d g)

scanned_calm : (k : Kind) (o : Option (List Value)) → IsCalm (scanned k o)
scanned_calm k (Some rows) = calm_flow rows
scanned_calm k None = tt

module _ (R : Readings) where
  mutual
    plan_calm : (p : Node) (env : List Value) → joins_in p ≡ [] → total_in (erased p) ≡ true → IsCalm (plan R p env)
    plan_calm (node.Plain t) env j h = total_calm no_tables t env h
    plan_calm (node.Var x) env j h = calm_some (slice_get env x)
    plan_calm (node.Rec ps) env j h = calm_parts (plan_fields R ps env) _ (fields_calm ps env j h) (λ fs. tt)
    plan_calm (node.Proj l a) env j h = calm_after (worth (plan R a env)) _ (worth_calm (plan R a env) (plan_calm a env j h)) (λ v. calm_field l (as_record v))
    plan_calm (node.Inj l a) env j h = calm_after (worth (plan R a env)) _ (worth_calm (plan R a env) (plan_calm a env j h)) (λ v. tt)
    plan_calm (node.Case a bs) env j h =
        let b = both_true (total_in (erased a)) (total_arms (erased_branches bs)) h in
        after_calm (worth (plan R a env)) _ (worth_calm (plan R a env) (plan_calm a env (none_first (joins_in a) (joins_of_branches bs) j) b.0))
        (λ v. opened_calm (as_variant v) _ (λ l w. branches_calm bs l w env (none_behind (joins_in a) (joins_of_branches bs) j) b.1))
    plan_calm (node.Make k ps) env j h = items_calm ps env j h
    plan_calm (node.Union a b) env j h =
        let c = both_true (total_in (erased a)) (total_in (erased b)) h in
        union_calm (plan R a env) (plan R b env) (plan_calm a env (none_first (joins_in a) (joins_in b) j) c.0) (plan_calm b env (none_behind (joins_in a) (joins_in b) j) c.1)
    plan_calm (node.Ext k b s) env j h =
        let c = both_true (total_in (erased b)) (total_in (erased s)) h in
        calm_drawn (drawn_for k (plan R s env)) _ (drawn_for_calm k (plan R s env) (plan_calm s env (none_first (joins_in s) (joins_in b) j) c.1))
        (λ v. coming_calm (plan R b (v ∷ env)) (plan_calm b (v ∷ env) (none_behind (joins_in s) (joins_in b) j) c.0))
    plan_calm (node.If a b c) env j h =
        let d = both_true (total_in (erased a)) (total_in (erased b) && total_in (erased c)) h in
        let e = both_true (total_in (erased b)) (total_in (erased c)) d.1 in
        let i = none_behind (joins_in a) (joins_in b ++ joins_in c) j in
        after_calm (worth (plan R a env)) _ (worth_calm (plan R a env) (plan_calm a env (none_first (joins_in a) (joins_in b ++ joins_in c) j) d.0))
        (λ v. chosen_calm (as_bool v) _ _ (plan_calm b env (none_first (joins_in b) (joins_in c) i) e.0) (plan_calm c env (none_behind (joins_in b) (joins_in c) i) e.1))
    plan_calm (node.Let a b) env j h =
        let c = both_true (total_in (erased a)) (total_in (erased b)) h in
        after_calm (worth (plan R a env)) _ (worth_calm (plan R a env) (plan_calm a env (none_first (joins_in a) (joins_in b) j) c.0))
        (λ v. plan_calm b (v ∷ env) (none_behind (joins_in a) (joins_in b) j) c.1)
    plan_calm (node.Prim c ps) env j h =
        let d = both_true (total_code c) (total_trees (erased_nodes ps)) h in
        calm_args (plan_all R ps env) _ (all_calm ps env j d.1) (λ vs. calm_prim c vs d.0)
    plan_calm (node.Scan c) env j h = scanned_calm c.kind (R c)
    plan_calm (node.Join n k how o cs i q b) env j h = cc
    plan_calm (node.Memo n frees p) env j h = kept_calm (plan R p env) (plan_calm p env j h)
      where
        kept_calm : (c : Come) → IsCalm c → IsCalm (come_kept c)
        kept_calm (one o) g = g
        kept_calm (many k f) g = calm_items (collected k f) (calm_collected k f g)

    all_calm : (ps : Nodes) (env : List Value) → joins_of_nodes ps ≡ [] → total_trees (erased_nodes ps) ≡ true → NoOverflowAll (plan_all R ps env)
    all_calm no_nodes env j h = tt
    all_calm (nodes p ps) env j h =
        let c = both_true (total_in (erased p)) (total_trees (erased_nodes ps)) h in
        (worth_calm (plan R p env) (plan_calm p env (none_first (joins_in p) (joins_of_nodes ps) j) c.0), all_calm ps env (none_behind (joins_in p) (joins_of_nodes ps) j) c.1)

    items_calm : (ps : Nodes) (env : List Value) → joins_of_nodes ps ≡ [] → total_trees (erased_nodes ps) ≡ true → NoOverflowIn (plan_items R ps env)
    items_calm no_nodes env j h = tt
    items_calm (nodes p ps) env j h =
        let c = both_true (total_in (erased p)) (total_trees (erased_nodes ps)) h in
        calm_item (worth (plan R p env)) (plan_items R ps env) (worth_calm (plan R p env) (plan_calm p env (none_first (joins_in p) (joins_of_nodes ps) j) c.0)) (items_calm ps env (none_behind (joins_in p) (joins_of_nodes ps) j) c.1)

    fields_calm : (ps : Fields) (env : List Value) → joins_of_fields ps ≡ [] → total_parts (erased_fields ps) ≡ true → NoOverflowParts (plan_fields R ps env)
    fields_calm no_fields env j h = tt
    fields_calm (fields l p ps) env j h =
        let c = both_true (total_in (erased p)) (total_parts (erased_fields ps)) h in
        (worth_calm (plan R p env) (plan_calm p env (none_first (joins_in p) (joins_of_fields ps) j) c.0), fields_calm ps env (none_behind (joins_in p) (joins_of_fields ps) j) c.1)

    branches_calm : (bs : Branches) (l : Name) (v : Value) (env : List Value) → joins_of_branches bs ≡ [] → total_arms (erased_branches bs) ≡ true → IsCalm (plan_branches R bs l v env)
    branches_calm no_branches l v env j h = tt
    branches_calm (rest c) l v env j h = plan_calm c env j h
    branches_calm (branch m b bs) l v env j h =
        let c = both_true (total_in (erased b)) (total_arms (erased_branches bs)) h in
        cond_calm (pointwise nat_eq l m) _ _ (plan_calm b (v ∷ env) (none_first (joins_in b) (joins_of_branches bs) j) c.0) (branches_calm bs l v env (none_behind (joins_in b) (joins_of_branches bs) j) c.1)

valued : (t : Ground) (o : Outcome) → NoOverflow o → OfType t o → (v : Value) × (o ≡ done v) × Inhabits t v
valued t (done v) h g = (v, refl, g)
valued t (over vs) h g = absurd h
valued t stuck h g = absurd g

-- such a plan, where it makes sense, has a value
pub total_plan : (Of : Scan → Ground → Type 0) (Listed : ℕ → List ℕ → Node → Type 0) (R : Readings) (reads : (c : Scan) (u : Ground) → Of c u → (rows : List Value) × (R c ≡ Some rows) × FlowOf u (flow rows fine))
    (p : Node) (G : List Ground) (env : List Value) (s : Ground) → HaveTypes G env → PlanTypes Of Listed G p s → joins_in p ≡ [] → total_in (erased p) ≡ true
    → (v : Value) × (worth (plan R p env) ≡ done v) × Inhabits s v
total_plan Of Listed R reads p G env s e h j total =
    valued s (worth (plan R p env)) (worth_calm (plan R p env) (plan_calm R p env j total)) (worth_typed s (plan R p env) (plan_typed Of Listed R reads p G env s e h))
