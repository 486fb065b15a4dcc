-- The free positions of plans: where a plan makes sense each is bound around it, and its list has them all, in rising order.
use Rattle.std.proofs.Common.{◌≡◌, ◌⊎◌, inl, inr, ⊎_elim, ℕ, zero, suc, ◌+◌, ◌<◌, ◌≤◌, Bool, true, false, ◌||◌, cond, nat_eq, List, [], ◌∷◌, length, slice_get, Some, None, refl, sym, ap, subst, ◌∙◌, arith}
use Rattle.std.specs.List.{AllByRecursion, Contains}
use Rattle.std.proofs.lemmas.Bool.{cases_eq}
use Rattle.std.proofs.lemmas.Bool.Decides.{nat_tests}
use Rattle.std.proofs.lemmas.List.Elements.{Contains-append_left, Contains-append_right, Contains-push}
use Rattle.kl_value.specs.declared.Kind.{Kind}
use Rattle.kl_value.specs.declared.Value.{Value}
use Rattle.kl_type.specs.Ground.{Ground, Row, bool, rec as rec_type, var as var_type, coll}
use Rattle.kl_ask.specs.declared.settings.JoinHow.{JoinHow}
use Rattle.kl_ask.specs.declared.settings.JoinHow.TheVariants as way
use Rattle.kl_core.specs.Positions.{occurs_in, occurs_trees, occurs_parts, occurs_arms}
use Rattle.kl_core.specs.Trees as term
use Rattle.kl_core.specs.Trees.{Tree, Trees, no_trees, trees, Parts, no_parts, parts, Arms, no_arms, arm}
use Rattle.kl_core.specs.Typing.{SourceTypes, CoreTypes, EachType, AllTypes, PartTypes, ArmTypes}
use Rattle.kl_plan.specs.declared.plan.Scan.{Scan}
use Rattle.kl_plan.specs.Nodes as node
use Rattle.kl_plan.specs.Nodes.{Node, Nodes, no_nodes, nodes, Fields, no_fields, fields, Branches, no_branches, rest, branch, Key, no_key, key}
use Rattle.kl_plan.specs.Occurs.{occurs, occurs_nodes, occurs_fields, occurs_branches, occurs_key, frees_from, frees_in}
use Rattle.kl_plan.specs.Subqueries.{Covers}
use Rattle.kl_plan.specs.Typing.{PlanTypes, EachPlan, PlansOf, FieldTypes, BranchTypes, KeyTypes}

either_true : (a b : Bool) → (a || b) ≡ true → (a ≡ true) ⊎ (b ≡ true)
either_true true b e = inl refl
either_true false b e = inr e

same_number : (x n : ℕ) → nat_eq x n ≡ true → x ≡ n
same_number x n e = grind (arith, nat_tests, e)

known : (G : List Ground) (x : ℕ) (s : Ground) → slice_get G x ≡ Some s → (n : ℕ) → nat_eq x n ≡ true → n < length G
known G x s is n e = below (slice_get_cases_of G x s is) (same_number x n e)
  where
    below : x < length G → x ≡ n → n < length G
    below h f = omega (arith, h, f)

    slice_get_cases_of : (G : List Ground) (x : ℕ) (s : Ground) → slice_get G x ≡ Some s → x < length G
    slice_get_cases_of [] x s e = cc
    slice_get_cases_of (u ∷ G) zero s e = omega arith
    slice_get_cases_of (u ∷ G) (suc x) s e = let h = slice_get_cases_of G x s e in omega (arith, h)

inside : (n : ℕ) (u : Ground) (G : List Ground) → n + 1 < length (u ∷ G) → n < length G
inside n u G h = omega (arith, h)

-- ---- terms

module _ (S : SourceTypes) where
  mutual
    core_bound : (t : Tree) (G : List Ground) (s : Ground) → CoreTypes S G t s → (n : ℕ) → occurs_in n t ≡ true → n < length G
    core_bound (term.Var x) G s h n e = known G x s h.0 n e
    core_bound (term.Const v) G s h n e = cc
    core_bound (term.Source i) G s h n e = cc
    core_bound (term.Rec ps) G s h n e = parts_bound ps G h.0 h.3 n e
    core_bound (term.Proj l a) G s h n e = core_bound a G (rec_type h.0) h.1 n e
    core_bound (term.Inj l a) G s h n e = core_bound a G h.1 h.5 n e
    core_bound (term.Case a bs) G s h n e =
        ⊎_elim (core_bound a G (var_type h.0) h.1 n) (arms_bound bs G h.0 s h.3 n) (either_true (occurs_in n a) (occurs_arms n bs) e)
    core_bound (term.Make k ts) G s h n e = each_bound ts G h.0 h.3 n e
    core_bound (term.Union a b) G s h n e =
        ⊎_elim (core_bound a G s h.3 n) (core_bound b G s h.4 n) (either_true (occurs_in n a) (occurs_in n b) e)
    core_bound (term.Ext k b a) G s h n e =
        ⊎_elim (λ f. inside n h.2 G (core_bound b (h.2 ∷ G) s h.5 (n + 1) f)) (core_bound a G (coll h.1 h.2) h.4 n)
        (either_true (occurs_in (n + 1) b) (occurs_in n a) e)
    core_bound (term.If a b c) G s h n e =
        ⊎_elim (core_bound a G bool h.0 n)
        (λ f. ⊎_elim (core_bound b G s h.1 n) (core_bound c G s h.2 n) (either_true (occurs_in n b) (occurs_in n c) f))
        (either_true (occurs_in n a) (occurs_in n b || occurs_in n c) e)
    core_bound (term.Let a b) G s h n e =
        ⊎_elim (core_bound a G h.0 h.1 n) (λ f. inside n h.0 G (core_bound b (h.0 ∷ G) s h.2 (n + 1) f))
        (either_true (occurs_in n a) (occurs_in (n + 1) b) e)
    core_bound (term.Prim c ts) G s h n e = all_bound ts G h.0 h.1 n e

    each_bound : (ts : Trees) (G : List Ground) (u : Ground) → EachType S G ts u → (n : ℕ) → occurs_trees n ts ≡ true → n < length G
    each_bound no_trees G u h n e = cc
    each_bound (trees t ts) G u h n e =
        ⊎_elim (core_bound t G u h.0 n) (each_bound ts G u h.1 n) (either_true (occurs_in n t) (occurs_trees n ts) e)

    all_bound : (ts : Trees) (G us : List Ground) → AllTypes S G ts us → (n : ℕ) → occurs_trees n ts ≡ true → n < length G
    all_bound no_trees G us h n e = cc
    all_bound (trees t ts) G us h n e =
        ⊎_elim (core_bound t G h.0 h.3 n) (all_bound ts G h.1 h.4 n) (either_true (occurs_in n t) (occurs_trees n ts) e)

    parts_bound : (ps : Parts) (G : List Ground) (r : Row) → PartTypes S G ps r → (n : ℕ) → occurs_parts n ps ≡ true → n < length G
    parts_bound no_parts G r h n e = cc
    parts_bound (parts l t ps) G r h n e =
        ⊎_elim (core_bound t G h.0 h.3 n) (parts_bound ps G h.1 h.4 n) (either_true (occurs_in n t) (occurs_parts n ps) e)

    arms_bound : (bs : Arms) (G : List Ground) (r : Row) (s : Ground) → ArmTypes S G bs r s → (n : ℕ) → occurs_arms n bs ≡ true → n < length G
    arms_bound no_arms G r s h n e = cc
    arms_bound (term.rest c) G r s h n e = core_bound c G s h n e
    arms_bound (arm l b bs) G r s h n e =
        ⊎_elim (λ f. inside n h.0 G (core_bound b (h.0 ∷ G) s h.2 (n + 1) f)) (arms_bound bs G r s h.3 n)
        (either_true (occurs_in (n + 1) b) (occurs_arms n bs) e)

-- ---- plans

abbrev no_types : SourceTypes
no_types i = None

module _ (Of : Scan → Ground → Type 0) (Listed : ℕ → List ℕ → Node → Type 0) where
  mutual
    pub plan_bound : (p : Node) (G : List Ground) (s : Ground) → PlanTypes Of Listed G p s → (n : ℕ) → occurs n p ≡ true → n < length G
    plan_bound (node.Plain t) G s h n e = core_bound no_types t G s (h.1 no_types) n e
    plan_bound (node.Var x) G s h n e = known G x s h.0 n e
    plan_bound (node.Rec ps) G s h n e = fields_bound ps G h.0 h.3 n e
    plan_bound (node.Proj l a) G s h n e = plan_bound a G (rec_type h.0) h.1 n e
    plan_bound (node.Inj l a) G s h n e = plan_bound a G h.1 h.5 n e
    plan_bound (node.Case a bs) G s h n e =
        ⊎_elim (plan_bound a G (var_type h.0) h.1 n) (branches_bound bs G h.0 s h.3 n) (either_true (occurs n a) (occurs_branches n bs) e)
    plan_bound (node.Make k ps) G s h n e = nodes_bound ps G h.0 h.3 n e
    plan_bound (node.Union a b) G s h n e =
        ⊎_elim (plan_bound a G s h.3 n) (plan_bound b G s h.4 n) (either_true (occurs n a) (occurs n b) e)
    plan_bound (node.Ext k b a) G s h n e =
        ⊎_elim (λ f. inside n h.2 G (plan_bound b (h.2 ∷ G) s h.5 (n + 1) f)) (plan_bound a G (coll h.1 h.2) h.4 n)
        (either_true (occurs (n + 1) b) (occurs n a) e)
    plan_bound (node.If a b c) G s h n e =
        ⊎_elim (plan_bound a G bool h.0 n)
        (λ f. ⊎_elim (plan_bound b G s h.1 n) (plan_bound c G s h.2 n) (either_true (occurs n b) (occurs n c) f))
        (either_true (occurs n a) (occurs n b || occurs n c) e)
    plan_bound (node.Let a b) G s h n e =
        ⊎_elim (plan_bound a G h.0 h.1 n) (λ f. inside n h.0 G (plan_bound b (h.0 ∷ G) s h.2 (n + 1) f))
        (either_true (occurs n a) (occurs (n + 1) b) e)
    plan_bound (node.Prim c ps) G s h n e = plans_bound ps G h.0 h.1 n e
    plan_bound (node.Scan c) G s h n e = cc
    plan_bound (node.Join m k how o cs i q b) G s h n e =
        ⊎_elim (plan_bound o G (coll h.1 h.2) h.5 n)
        (λ f. ⊎_elim (λ g. inside n h.2 G (nodes_bound cs (h.2 ∷ G) bool h.6 (n + 1) g))
        (λ g. ⊎_elim (λ d. inside n h.2 G (key_bound how k q (h.2 ∷ G) h.3 h.9 (n + 1) d))
        (λ d. let low = plan_bound b (h.3 ∷ h.2 ∷ G) s h.10 (n + 2) d in twice n low)
        (either_true (occurs_key (n + 1) q) (occurs (n + 2) b) g))
        (either_true (occurs_nodes (n + 1) cs) (occurs_key (n + 1) q || occurs (n + 2) b) f))
        (either_true (occurs n o) (occurs_nodes (n + 1) cs || (occurs_key (n + 1) q || occurs (n + 2) b)) e)
      where
        twice : (n : ℕ) → n + 2 < length (h.3 ∷ h.2 ∷ G) → n < length G
        twice n low = omega (arith, low)
    plan_bound (node.Memo m frees p) G s h n e = plan_bound p G s h.3 n e

    key_bound : (how : JoinHow) (k : Kind) (q : Key) (G : List Ground) (v : Ground) → KeyTypes Of Listed G how k q v → (n : ℕ)
        → occurs_key n q ≡ true → n < length G
    key_bound how k no_key G v h n e = cc
    key_bound way.Block k (key l p) G v h n e = absurd h
    key_bound way.Index k (key l p) G v h n e = plan_bound p G h.1 h.4 n e

    nodes_bound : (ps : Nodes) (G : List Ground) (u : Ground) → EachPlan Of Listed G ps u → (n : ℕ) → occurs_nodes n ps ≡ true → n < length G
    nodes_bound no_nodes G u h n e = cc
    nodes_bound (nodes p ps) G u h n e =
        ⊎_elim (plan_bound p G u h.0 n) (nodes_bound ps G u h.1 n) (either_true (occurs n p) (occurs_nodes n ps) e)

    plans_bound : (ps : Nodes) (G us : List Ground) → PlansOf Of Listed G ps us → (n : ℕ) → occurs_nodes n ps ≡ true → n < length G
    plans_bound no_nodes G us h n e = cc
    plans_bound (nodes p ps) G us h n e =
        ⊎_elim (plan_bound p G h.0 h.3 n) (plans_bound ps G h.1 h.4 n) (either_true (occurs n p) (occurs_nodes n ps) e)

    fields_bound : (ps : Fields) (G : List Ground) (r : Row) → FieldTypes Of Listed G ps r → (n : ℕ) → occurs_fields n ps ≡ true → n < length G
    fields_bound no_fields G r h n e = cc
    fields_bound (fields l p ps) G r h n e =
        ⊎_elim (plan_bound p G h.0 h.3 n) (fields_bound ps G h.1 h.4 n) (either_true (occurs n p) (occurs_fields n ps) e)

    branches_bound : (bs : Branches) (G : List Ground) (r : Row) (s : Ground) → BranchTypes Of Listed G bs r s → (n : ℕ)
        → occurs_branches n bs ≡ true → n < length G
    branches_bound no_branches G r s h n e = cc
    branches_bound (rest c) G r s h n e = plan_bound c G s h n e
    branches_bound (branch l b bs) G r s h n e =
        ⊎_elim (λ f. inside n h.0 G (plan_bound b (h.0 ∷ G) s h.2 (n + 1) f)) (branches_bound bs G r s h.3 n)
        (either_true (occurs (n + 1) b) (occurs_branches n bs) e)

-- ---- the list of a plan's free positions

module _ (d : ℕ) (p : Node) where
  bound_from : (n k : ℕ) → n + k ≡ d → AllByRecursion (λ x. x < d) (frees_from n k p)
  bound_from n zero e = tt
  bound_from n (suc k) e = one_more (occurs n p) n (frees_from (suc n) k p) (omega (arith, e)) (bound_from (suc n) k (omega (arith, e)))
    where
      one_more : (b : Bool) (n : ℕ) (xs : List ℕ) → n < d → AllByRecursion (λ x. x < d) xs → AllByRecursion (λ x. x < d) (cond b (n ∷ xs) xs)
      one_more true n xs h g = (h, g)
      one_more false n xs h g = g

  listed_from : (n k : ℕ) → n + k ≡ d → (x : ℕ) → n ≤ x → x < d → occurs x p ≡ true → Contains (frees_from n k p) x
  listed_from n zero e x low high o = absurd (omega (arith, e, low, high))
  listed_from n (suc k) e x low high o =
      ⊎_elim (here n x (frees_from (suc n) k p) o)
      (λ f. wider (occurs n p) n x (frees_from (suc n) k p) (listed_from (suc n) k (omega (arith, e)) x (omega (arith, low, f)) high o)) (cases_eq n x)
    where
      here : (n x : ℕ) (xs : List ℕ) → occurs x p ≡ true → n ≡ x → Contains (cond (occurs n p) (n ∷ xs) xs) x
      here n x xs o f =
          subst (λ b. Contains (cond b (n ∷ xs) xs) x) (sym (ap (λ y. occurs y p) f ∙ o))
          (subst (Contains (n ∷ xs)) f (Contains-append_left (n ∷ []) xs n (Contains-push [] n)))

      wider : (b : Bool) (n x : ℕ) (xs : List ℕ) → Contains xs x → Contains (cond b (n ∷ xs) xs) x
      wider true n x xs i = Contains-append_right (n ∷ []) xs x i
      wider false n x xs i = i

-- each is bound
pub frees_bound : (d : ℕ) (p : Node) → AllByRecursion (λ x. x < d) (frees_in d p)
frees_bound d p = bound_from d p 0 d (omega arith)

pub frees_covered : (d : ℕ) (p : Node) (env : List Value) → length env ≡ d → Covers (frees_in d p) env
frees_covered d p env e = subst (λ m. AllByRecursion (λ x. x < m) (frees_in d p)) (sym e) (frees_bound d p)

-- each position that stands in the plan and is bound is in the list
pub frees_listed : (d : ℕ) (p : Node) (x : ℕ) → x < d → occurs x p ≡ true → Contains (frees_in d p) x
frees_listed d p x high o = listed_from d p 0 d (omega arith) x (omega arith) high o
