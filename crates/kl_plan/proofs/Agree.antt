-- What a term or a plan means rests on the values of its free positions alone.
use Rattle.std.proofs.Common.{◌≡◌, ℕ, zero, suc, ◌+◌, Bool, true, ◌||◌, cond, nat_eq, List, ◌∷◌, slice_get, Option, Some, refl, ap, subst, ◌∙◌, arith}
use Rattle.std.specs.Cmp.Lexicographic.{pointwise}
use Rattle.std.proofs.lemmas.Bool.Decides.{nat_tests}
use mathlib.Core.Path.{fun_ext, ap₂}
use Rattle.kl_value.specs.Views.{as_bool, field_at}
use Rattle.kl_value.specs.declared.Value.{Value}
use Rattle.kl_outcome.specs.Outcome.{Name, Outcome, after, outcome_of, applied, recorded, tagged, part, cases, items_of, item_then, Flow, drawn, collected, union_of, as_variant}
use Rattle.kl_core.specs.Trees.{Tree, Var, Const, Source, Rec, Proj, Inj, Case, Make, Union, Ext, If, Let, Prim, Trees, no_trees, trees, Parts, no_parts, parts, Arms, no_arms, arm}
use Rattle.kl_core.specs.Trees as term
use Rattle.kl_core.proofs.Meanings.{choice_same}
use Rattle.kl_core.specs.Core.{Tables, core, core_all, core_items, core_parts, core_arms}
use Rattle.kl_core.specs.Positions.{occurs_in, occurs_trees, occurs_parts, occurs_arms}
use Rattle.std.proofs.Math.Bool.{or-true}
use Rattle.kl_plan.specs.Nodes as node
use Rattle.kl_plan.specs.Nodes.{Node, Nodes, no_nodes, nodes, Fields, no_fields, fields, Branches, no_branches, rest, branch, Key, no_key, key}
use Rattle.kl_plan.specs.Meaning.{Come, one, many, worth, coming, drawn_for, come_after, come_chosen, come_opened, come_union, come_kept, Readings, scanned, on_test, tested, under_key, same_key, no_tables}
use Rattle.kl_plan.specs.Meaning.{plan, plan_all, plan_items, plan_fields, plan_branches, plan_conds, plan_key}
use Rattle.kl_plan.specs.Occurs.{occurs, occurs_nodes, occurs_fields, occurs_branches, occurs_key}

module _ {X : Type 0} where
  -- two lists have the same at some positions
  abbrev pub AgreeAt : (ℕ → Bool) → List X → List X → Type 0
  AgreeAt at env to = (n : ℕ) → at n ≡ true → slice_get env n ≡ slice_get to n

  pub onto_left : (p q : ℕ → Bool) (env to : List X) → AgreeAt (λ n. p n || q n) env to → AgreeAt p env to
  onto_left p q env to h n e = h n (ap (λ x. x || q n) e)

  pub onto_right : (p q : ℕ → Bool) (env to : List X) → AgreeAt (λ n. p n || q n) env to → AgreeAt q env to
  onto_right p q env to h n e = h n (ap (λ x. p n || x) e ∙ or-true (p n))

  -- inside a binder
  pub inwards : (p : ℕ → Bool) (env to : List X) (v : X) → AgreeAt (λ n. p (n + 1)) env to → AgreeAt p (v ∷ env) (v ∷ to)
  inwards p env to v h zero e = refl
  inwards p env to v h (suc n) e = h n (subst (λ m. p m ≡ true) (omega arith) e)

pub its_own : (x : ℕ) → nat_eq x x ≡ true
its_own x = grind (arith, nat_tests)

module _ (T : Tables) where
  mutual
    pub core_agrees : (t : Tree) (env to : List Value) → AgreeAt (λ n. occurs_in n t) env to → core T t env ≡ core T t to
    core_agrees (Var x) env to h = ap outcome_of (h x (its_own x))
    core_agrees (Const v) env to h = refl
    core_agrees (Source i) env to h = refl
    core_agrees (Rec ps) env to h = ap recorded (parts_agree ps env to h)
    core_agrees (Proj l a) env to h = ap (part l) (core_agrees a env to h)
    core_agrees (Inj l a) env to h = ap (tagged l) (core_agrees a env to h)
    core_agrees (Case a bs) env to h =
        ap₂ cases (core_agrees a env to (onto_left (λ n. occurs_in n a) (λ n. occurs_arms n bs) env to h))
        (fun_ext λ l. fun_ext λ v. arms_agree bs l v env to (onto_right (λ n. occurs_in n a) (λ n. occurs_arms n bs) env to h))
    core_agrees (Make k ts) env to h = ap (collected k) (items_agree ts env to h)
    core_agrees (Union a b) env to h =
        ap₂ union_of (core_agrees a env to (onto_left (λ n. occurs_in n a) (λ n. occurs_in n b) env to h)) (core_agrees b env to (onto_right (λ n. occurs_in n a) (λ n. occurs_in n b) env to h))
    core_agrees (Ext k b s) env to h =
        ap₂ (λ o go. collected k (drawn (items_of o) go)) (core_agrees s env to (onto_right (λ n. occurs_in (n + 1) b) (λ n. occurs_in n s) env to h))
        (fun_ext λ v. ap items_of (core_agrees b (v ∷ env) (v ∷ to) (inwards (λ n. occurs_in n b) env to v (onto_left (λ n. occurs_in (n + 1) b) (λ n. occurs_in n s) env to h))))
    core_agrees (If a b c) env to h =
        let g = onto_right (λ n. occurs_in n a) (λ n. occurs_in n b || occurs_in n c) env to h in
        choice_same _ _ _ _ _ _ (core_agrees a env to (onto_left (λ n. occurs_in n a) (λ n. occurs_in n b || occurs_in n c) env to h))
        (core_agrees b env to (onto_left (λ n. occurs_in n b) (λ n. occurs_in n c) env to g)) (core_agrees c env to (onto_right (λ n. occurs_in n b) (λ n. occurs_in n c) env to g))
    core_agrees (Let a b) env to h =
        ap₂ after (core_agrees a env to (onto_left (λ n. occurs_in n a) (λ n. occurs_in (n + 1) b) env to h))
        (fun_ext λ v. core_agrees b (v ∷ env) (v ∷ to) (inwards (λ n. occurs_in n b) env to v (onto_right (λ n. occurs_in n a) (λ n. occurs_in (n + 1) b) env to h)))
    core_agrees (Prim c ts) env to h = ap (applied c) (all_agree ts env to h)

    all_agree : (ts : Trees) (env to : List Value) → AgreeAt (λ n. occurs_trees n ts) env to → core_all T ts env ≡ core_all T ts to
    all_agree no_trees env to h = refl
    all_agree (trees t ts) env to h =
        ap₂ (λ o os. o ∷ os) (core_agrees t env to (onto_left (λ n. occurs_in n t) (λ n. occurs_trees n ts) env to h)) (all_agree ts env to (onto_right (λ n. occurs_in n t) (λ n. occurs_trees n ts) env to h))

    items_agree : (ts : Trees) (env to : List Value) → AgreeAt (λ n. occurs_trees n ts) env to → core_items T ts env ≡ core_items T ts to
    items_agree no_trees env to h = refl
    items_agree (trees t ts) env to h =
        ap₂ item_then (core_agrees t env to (onto_left (λ n. occurs_in n t) (λ n. occurs_trees n ts) env to h)) (items_agree ts env to (onto_right (λ n. occurs_in n t) (λ n. occurs_trees n ts) env to h))

    parts_agree : (ps : Parts) (env to : List Value) → AgreeAt (λ n. occurs_parts n ps) env to → core_parts T ps env ≡ core_parts T ps to
    parts_agree no_parts env to h = refl
    parts_agree (parts l t ps) env to h =
        ap₂ (λ o os. (l, o) ∷ os) (core_agrees t env to (onto_left (λ n. occurs_in n t) (λ n. occurs_parts n ps) env to h)) (parts_agree ps env to (onto_right (λ n. occurs_in n t) (λ n. occurs_parts n ps) env to h))

    arms_agree : (bs : Arms) (l : Name) (v : Value) (env to : List Value) → AgreeAt (λ n. occurs_arms n bs) env to → core_arms T bs l v env ≡ core_arms T bs l v to
    arms_agree no_arms l v env to h = refl
    arms_agree (term.rest c) l v env to h = core_agrees c env to h
    arms_agree (arm m b bs) l v env to h =
        ap₂ (λ o q. cond (pointwise nat_eq l m) o q) (core_agrees b (v ∷ env) (v ∷ to) (inwards (λ n. occurs_in n b) env to v (onto_left (λ n. occurs_in (n + 1) b) (λ n. occurs_arms n bs) env to h)))
        (arms_agree bs l v env to (onto_right (λ n. occurs_in (n + 1) b) (λ n. occurs_arms n bs) env to h))

-- ---- plans

pub choice_comes : (o q : Outcome) (b c d e : Come) → o ≡ q → b ≡ d → c ≡ e → come_after o (λ v. come_chosen (as_bool v) b c) ≡ come_after q (λ v. come_chosen (as_bool v) d e)
choice_comes o q b c d e x y z = λ i. come_after (x i) (λ v. come_chosen (as_bool v) (y i) (z i))

module _ (R : Readings) where
  mutual
    pub plan_agrees : (p : Node) (env to : List Value) → AgreeAt (λ n. occurs n p) env to → plan R p env ≡ plan R p to
    plan_agrees (node.Plain t) env to h = ap one (core_agrees no_tables t env to h)
    plan_agrees (node.Var x) env to h = ap (λ o. one (outcome_of o)) (h x (its_own x))
    plan_agrees (node.Rec ps) env to h = ap (λ fs. one (recorded fs)) (fields_agree ps env to h)
    plan_agrees (node.Proj l a) env to h = ap (λ c. one (part l (worth c))) (plan_agrees a env to h)
    plan_agrees (node.Inj l a) env to h = ap (λ c. one (tagged l (worth c))) (plan_agrees a env to h)
    plan_agrees (node.Case a bs) env to h =
        ap₂ (λ c go. come_after (worth c) (λ v. come_opened (as_variant v) go)) (plan_agrees a env to (onto_left (λ n. occurs n a) (λ n. occurs_branches n bs) env to h))
        (fun_ext λ l. fun_ext λ w. branches_agree bs l w env to (onto_right (λ n. occurs n a) (λ n. occurs_branches n bs) env to h))
    plan_agrees (node.Make k ps) env to h = ap (many k) (plan_items_agree ps env to h)
    plan_agrees (node.Union a b) env to h =
        ap₂ come_union (plan_agrees a env to (onto_left (λ n. occurs n a) (λ n. occurs n b) env to h)) (plan_agrees b env to (onto_right (λ n. occurs n a) (λ n. occurs n b) env to h))
    plan_agrees (node.Ext k b s) env to h =
        ap₂ (λ c go. many k (drawn (drawn_for k c) go)) (plan_agrees s env to (onto_right (λ n. occurs (n + 1) b) (λ n. occurs n s) env to h))
        (fun_ext λ v. ap coming (plan_agrees b (v ∷ env) (v ∷ to) (inwards (λ n. occurs n b) env to v (onto_left (λ n. occurs (n + 1) b) (λ n. occurs n s) env to h))))
    plan_agrees (node.If a b c) env to h =
        let g = onto_right (λ n. occurs n a) (λ n. occurs n b || occurs n c) env to h in
        choice_comes _ _ _ _ _ _ (ap worth (plan_agrees a env to (onto_left (λ n. occurs n a) (λ n. occurs n b || occurs n c) env to h)))
        (plan_agrees b env to (onto_left (λ n. occurs n b) (λ n. occurs n c) env to g)) (plan_agrees c env to (onto_right (λ n. occurs n b) (λ n. occurs n c) env to g))
    plan_agrees (node.Let a b) env to h =
        ap₂ (λ c go. come_after (worth c) go) (plan_agrees a env to (onto_left (λ n. occurs n a) (λ n. occurs (n + 1) b) env to h))
        (fun_ext λ v. plan_agrees b (v ∷ env) (v ∷ to) (inwards (λ n. occurs n b) env to v (onto_right (λ n. occurs n a) (λ n. occurs (n + 1) b) env to h)))
    plan_agrees (node.Prim c ps) env to h = ap (λ os. one (applied c os)) (plan_all_agree ps env to h)
    plan_agrees (node.Scan c) env to h = refl
    plan_agrees (node.Join m k how o cs i q b) env to h =
        let g = onto_right (λ n. occurs n o) (λ n. occurs_nodes (n + 1) cs || (occurs_key (n + 1) q || occurs (n + 2) b)) env to h in
        let f = onto_right (λ n. occurs_nodes (n + 1) cs) (λ n. occurs_key (n + 1) q || occurs (n + 2) b) env to g in
        let ofbody : AgreeAt (λ n. occurs (n + 1 + 1) b) env to = λ n e. onto_right (λ n. occurs_key (n + 1) q) (λ n. occurs (n + 2) b) env to f n (subst (λ m. occurs m b ≡ true) (omega arith) e) in
        ap₂ (λ c go. many k (drawn (drawn_for k c) go)) (plan_agrees o env to (onto_left (λ n. occurs n o) (λ n. occurs_nodes (n + 1) cs || (occurs_key (n + 1) q || occurs (n + 2) b)) env to h))
        (fun_ext λ x.
        conds_agree cs (x ∷ env) (x ∷ to) _ _ (inwards (λ n. occurs_nodes n cs) env to x (onto_left (λ n. occurs_nodes (n + 1) cs) (λ n. occurs_key (n + 1) q || occurs (n + 2) b) env to g))
        (key_agrees q (x ∷ env) (x ∷ to) _ _ (inwards (λ n. occurs_key n q) env to x (onto_left (λ n. occurs_key (n + 1) q) (λ n. occurs (n + 2) b) env to f))
        (fun_ext λ test. ap (drawn (drawn_for k (scanned i.kind (R i)))) (fun_ext λ y. ap (λ c. on_test (test y) (coming c))
        (plan_agrees b (y ∷ x ∷ env) (y ∷ x ∷ to) (inwards (λ n. occurs n b) (x ∷ env) (x ∷ to) y (inwards (λ n. occurs (n + 1) b) env to x ofbody)))))))
    plan_agrees (node.Memo m frees p) env to h = ap come_kept (plan_agrees p env to h)

    plan_all_agree : (ps : Nodes) (env to : List Value) → AgreeAt (λ n. occurs_nodes n ps) env to → plan_all R ps env ≡ plan_all R ps to
    plan_all_agree no_nodes env to h = refl
    plan_all_agree (nodes p ps) env to h =
        ap₂ (λ c os. worth c ∷ os) (plan_agrees p env to (onto_left (λ n. occurs n p) (λ n. occurs_nodes n ps) env to h)) (plan_all_agree ps env to (onto_right (λ n. occurs n p) (λ n. occurs_nodes n ps) env to h))

    plan_items_agree : (ps : Nodes) (env to : List Value) → AgreeAt (λ n. occurs_nodes n ps) env to → plan_items R ps env ≡ plan_items R ps to
    plan_items_agree no_nodes env to h = refl
    plan_items_agree (nodes p ps) env to h =
        ap₂ (λ c f. item_then (worth c) f) (plan_agrees p env to (onto_left (λ n. occurs n p) (λ n. occurs_nodes n ps) env to h)) (plan_items_agree ps env to (onto_right (λ n. occurs n p) (λ n. occurs_nodes n ps) env to h))

    fields_agree : (ps : Fields) (env to : List Value) → AgreeAt (λ n. occurs_fields n ps) env to → plan_fields R ps env ≡ plan_fields R ps to
    fields_agree no_fields env to h = refl
    fields_agree (fields l p ps) env to h =
        ap₂ (λ c fs. (l, worth c) ∷ fs) (plan_agrees p env to (onto_left (λ n. occurs n p) (λ n. occurs_fields n ps) env to h)) (fields_agree ps env to (onto_right (λ n. occurs n p) (λ n. occurs_fields n ps) env to h))

    branches_agree : (bs : Branches) (l : Name) (v : Value) (env to : List Value) → AgreeAt (λ n. occurs_branches n bs) env to → plan_branches R bs l v env ≡ plan_branches R bs l v to
    branches_agree no_branches l v env to h = refl
    branches_agree (rest c) l v env to h = plan_agrees c env to h
    branches_agree (branch m b bs) l v env to h =
        ap₂ (λ c d. cond (pointwise nat_eq l m) c d) (plan_agrees b (v ∷ env) (v ∷ to) (inwards (λ n. occurs n b) env to v (onto_left (λ n. occurs (n + 1) b) (λ n. occurs_branches n bs) env to h)))
        (branches_agree bs l v env to (onto_right (λ n. occurs (n + 1) b) (λ n. occurs_branches n bs) env to h))

    conds_agree : (cs : Nodes) (env to : List Value) (f g : Flow) → AgreeAt (λ n. occurs_nodes n cs) env to → f ≡ g → plan_conds R cs env f ≡ plan_conds R cs to g
    conds_agree no_nodes env to f g h e = e
    conds_agree (nodes c cs) env to f g h e =
        ap₂ (λ o d. tested (worth o) d) (plan_agrees c env to (onto_left (λ n. occurs n c) (λ n. occurs_nodes n cs) env to h)) (conds_agree cs env to f g (onto_right (λ n. occurs n c) (λ n. occurs_nodes n cs) env to h) e)

    key_agrees : (q : Key) (env to : List Value) (go on : (Value → Option Bool) → Flow) → AgreeAt (λ n. occurs_key n q) env to → go ≡ on → plan_key R q env go ≡ plan_key R q to on
    key_agrees no_key env to go on h e = ap (λ f. f (λ y. Some true)) e
    key_agrees (key l p) env to go on h e = ap₂ (λ c f. under_key (worth c) (λ v. f (λ y. same_key v (field_at l y)))) (plan_agrees p env to h) e
