-- What a plan comes to under two lists of prices, by what these are where its scans, joins and memos stand.
use Rattle.std.proofs.Common.{◌≡◌, ℕ, suc, ◌+◌, Bool, true, false, List, ◌∷◌, Option, Some, None, cond, nat_eq, subst, arith}
use Rattle.std.specs.Cmp.Lexicographic.{pointwise}
use Rattle.std.proofs.lemmas.List.Sums.{sum_by-cons}
use Rattle.kl_value.specs.Views.{as_bool, field_at}
use Rattle.kl_value.specs.declared.Value.{Value}
use Rattle.kl_outcome.specs.Outcome.{Name, Outcome, done, over, stuck, Flow, more, stop, items_in, as_variant}
use Rattle.kl_ask.specs.declared.settings.JoinHow.{JoinHow}
use Rattle.kl_plan.specs.Alike.{weight}
use Rattle.kl_plan.specs.declared.plan.Scan.{Scan}
use Rattle.kl_plan.specs.Nodes as node
use Rattle.kl_plan.specs.Nodes.{Node, Nodes, no_nodes, nodes, Fields, no_fields, fields, Branches, no_branches, rest, branch, Key as JoinKey, no_key, key}
use Rattle.kl_plan.specs.Meaning.{Readings, drawn_for, scanned, same_key, plan}
use Rattle.kl_plan.specs.Reached.{once, chosen_of, opened_of, passing, reached, reached_nodes, reached_fields, reached_branch, reached_conds, reached_key}
use Rattle.kl_plan.specs.Subqueries.{values_at}
use Rattle.kl_plan.specs.Prices.{Prices, executed}
use Rattle.kl_counts.specs.Places.{Places, PlacesNodes, PlacesFields, PlacesBranches, PlacesKey}

pub weight_more : (w : Value → ℕ) (v : Value) (f : Flow) → w v + weight w f ≡ weight w (more v f)
weight_more w v f = omega (arith, sum_by-cons w v (items_in f))

-- Rel holds of what it comes to where it holds of the prices, if it holds of nothing and of sums. E is what is known of positions.
module _ (R : Readings) (block : ℕ) (P Q : Prices) (Rel : ℕ → ℕ → Type 0) (none : Rel 0 0) (plus : (a b c d : ℕ) → Rel a b → Rel c d → Rel (a + c) (b + d))
    (S : Scan → Type 0) (J : ℕ → JoinHow → Scan → Type 0) (M : ℕ → ℕ → List ℕ → Node → Type 0)
    (E : ℕ → List Value → Type 0) (grow : (d : ℕ) (env : List Value) (v : Value) → E d env → E (suc d) (v ∷ env))
    (scan : (c : Scan) → S c → Rel (P.scan c) (Q.scan c))
    (join : (n : ℕ) (way : JoinHow) (i : Scan) → J n way i → (outer : ℕ) → Rel (executed block P n way i outer) (executed block Q n way i outer))
    (memo : (d n : ℕ) (frees : List ℕ) (p : Node) → M d n frees p → (env : List Value) → E d env
    → Rel (P.memo n (values_at env frees) + reached R block P p env) (Q.memo n (values_at env frees) + reached R block Q p env))
  where
    each_rel : (w z : Value → ℕ) (f : Flow) → ((v : Value) → Rel (w v) (z v)) → Rel (weight w f) (weight z f)
    each_rel w z (more v f) h = subst (λ a. Rel a (weight z (more v f))) (weight_more w v f) (subst (Rel (w v + weight w f)) (weight_more z v f) (plus (w v) (z v) (weight w f) (weight z f) (h v) (each_rel w z f h)))
    each_rel w z (stop e) h = none

    once_rel : (o : Outcome) (m n : Value → ℕ) → ((v : Value) → Rel (m v) (n v)) → Rel (once o m) (once o n)
    once_rel (done v) m n h = h v
    once_rel (over vs) m n h = none
    once_rel stuck m n h = none

    chosen_rel : (b : Option Bool) (x y m n : ℕ) → Rel x m → Rel y n → Rel (chosen_of b x y) (chosen_of b m n)
    chosen_rel (Some true) x y m n p q = p
    chosen_rel (Some false) x y m n p q = q
    chosen_rel None x y m n p q = none

    opened_rel : (o : Option (Name × Value)) (m n : Name → Value → ℕ) → ((l : Name) (v : Value) → Rel (m l v) (n l v)) → Rel (opened_of o m) (opened_of o n)
    opened_rel (Some c) m n h = h c.0 c.1
    opened_rel None m n h = none

    cond_rel : (b : Bool) (x y m n : ℕ) → Rel x m → Rel y n → Rel (cond b x y) (cond b m n)
    cond_rel true x y m n p q = p
    cond_rel false x y m n p q = q

    mutual
      pub reached_rel : (d : ℕ) (p : Node) (env : List Value) → E d env → Places S J M d p → Rel (reached R block P p env) (reached R block Q p env)
      reached_rel d (node.Plain t) env z h = none
      reached_rel d (node.Var x) env z h = none
      reached_rel d (node.Rec ps) env z h = fields_rel d ps env z h
      reached_rel d (node.Proj l a) env z h = reached_rel d a env z h
      reached_rel d (node.Inj l a) env z h = reached_rel d a env z h
      reached_rel d (node.Case a bs) env z h = plus _ _ _ _ (reached_rel d a env z h.0) (once_rel _ _ _ (λ v. opened_rel (as_variant v) _ _ (λ l w. branch_rel d bs l w env z h.1)))
      reached_rel d (node.Make k ps) env z h = nodes_rel d ps env z h
      reached_rel d (node.Union a b) env z h = plus _ _ _ _ (reached_rel d a env z h.0) (reached_rel d b env z h.1)
      reached_rel d (node.Ext k b s) env z h = plus _ _ _ _ (reached_rel d s env z h.1) (each_rel _ _ (drawn_for k (plan R s env)) (λ v. reached_rel (suc d) b (v ∷ env) (grow d env v z) h.0))
      reached_rel d (node.If a b c) env z h = plus _ _ _ _ (reached_rel d a env z h.0) (once_rel _ _ _ (λ v. chosen_rel (as_bool v) _ _ _ _ (reached_rel d b env z h.1) (reached_rel d c env z h.2)))
      reached_rel d (node.Let a b) env z h = plus _ _ _ _ (reached_rel d a env z h.0) (once_rel _ _ _ (λ v. reached_rel (suc d) b (v ∷ env) (grow d env v z) h.1))
      reached_rel d (node.Prim c ps) env z h = nodes_rel d ps env z h
      reached_rel d (node.Scan c) env z h = scan c h
      reached_rel d (node.Join n k way o cs i q b) env z h =
          plus _ _ _ _ (reached_rel d o env z h.0) (plus _ _ _ _
          (each_rel _ _ (drawn_for k (plan R o env)) (λ x. conds_rel (suc d) cs (x ∷ env) _ _ (grow d env x z) h.1 (key_rel (suc d) q (x ∷ env) _ _ (grow d env x z) h.2
          (λ test. each_rel _ _ (drawn_for k (scanned i.kind (R i))) (λ y. chosen_rel (test y) _ _ _ _ (reached_rel (suc (suc d)) b (y ∷ x ∷ env) (grow (suc d) (x ∷ env) y (grow d env x z)) h.4) none)))))
          (join n way i h.3 (passing R k o cs env)))
      reached_rel d (node.Memo n frees p) env z h = memo d n frees p h env z

      nodes_rel : (d : ℕ) (ps : Nodes) (env : List Value) → E d env → PlacesNodes S J M d ps → Rel (reached_nodes R block P ps env) (reached_nodes R block Q ps env)
      nodes_rel d no_nodes env z h = none
      nodes_rel d (nodes p ps) env z h = plus _ _ _ _ (reached_rel d p env z h.0) (nodes_rel d ps env z h.1)

      fields_rel : (d : ℕ) (ps : Fields) (env : List Value) → E d env → PlacesFields S J M d ps → Rel (reached_fields R block P ps env) (reached_fields R block Q ps env)
      fields_rel d no_fields env z h = none
      fields_rel d (fields l p ps) env z h = plus _ _ _ _ (reached_rel d p env z h.0) (fields_rel d ps env z h.1)

      branch_rel : (d : ℕ) (bs : Branches) (l : Name) (v : Value) (env : List Value) → E d env → PlacesBranches S J M d bs → Rel (reached_branch R block P bs l v env) (reached_branch R block Q bs l v env)
      branch_rel d no_branches l v env z h = none
      branch_rel d (rest c) l v env z h = reached_rel d c env z h
      branch_rel d (branch x b bs) l v env z h = cond_rel (pointwise nat_eq l x) _ _ _ _ (reached_rel (suc d) b (v ∷ env) (grow d env v z) h.0) (branch_rel d bs l v env z h.1)

      conds_rel : (d : ℕ) (cs : Nodes) (env : List Value) (m n : ℕ) → E d env → PlacesNodes S J M d cs → Rel m n → Rel (reached_conds R block P cs env m) (reached_conds R block Q cs env n)
      conds_rel d no_nodes env m n z h g = g
      conds_rel d (nodes c cs) env m n z h g = plus _ _ _ _ (reached_rel d c env z h.0) (once_rel _ _ _ (λ v. chosen_rel (as_bool v) _ _ _ _ (conds_rel d cs env m n z h.1 g) none))

      key_rel : (d : ℕ) (q : JoinKey) (env : List Value) (m n : (Value → Option Bool) → ℕ) → E d env → PlacesKey S J M d q → ((test : Value → Option Bool) → Rel (m test) (n test))
          → Rel (reached_key R block P q env m) (reached_key R block Q q env n)
      key_rel d no_key env m n z h g = g (λ y. Some true)
      key_rel d (key l p) env m n z h g = plus _ _ _ _ (reached_rel d p env z h) (once_rel _ _ _ (λ v. g (λ y. same_key v (field_at l y))))
