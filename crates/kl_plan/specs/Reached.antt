-- What a plan comes to, joins and memos included, where it ends well: the sum of the prices of all scans, joins and memos to which
-- its meaning comes, each as often as it comes there. The part of a memo is gone through each time, as though nothing were kept.
use Rattle.std.specs.Prelude.{ℕ, ◌+◌, Bool, true, List, [], ◌∷◌, Option, Some, None, cond, nat_eq}
use Rattle.std.specs.Cmp.Lexicographic.{pointwise}
use Rattle.kl_value.specs.Views.{as_bool, field_at}
use Rattle.kl_value.specs.declared.Kind.{Kind}
use Rattle.kl_value.specs.declared.Value.{Value}
use Rattle.kl_outcome.specs.Outcome.{Name, Outcome, done, over, stuck, as_variant}
use Rattle.kl_plan.specs.Alike.{weight}
use Rattle.kl_plan.specs.Nodes as node
use Rattle.kl_plan.specs.Nodes.{Node, Nodes, no_nodes, nodes, Fields, no_fields, fields, Branches, no_branches, rest, branch, Key}
use Rattle.kl_plan.specs.Nodes.{no_key, key}
use Rattle.kl_plan.specs.Meaning.{Readings, worth, drawn_for, scanned, same_key, plan}
use Rattle.kl_plan.specs.Subqueries.{values_at}
use Rattle.kl_plan.specs.Prices.{Prices, executed}

-- of what is done with the value of a part
abbrev pub once : Outcome → (Value → ℕ) → ℕ
once (done v) go = go v
once (over vs) go = 0
once stuck go = 0

abbrev pub chosen_of : Option Bool → ℕ → ℕ → ℕ
chosen_of (Some b) m n = cond b m n
chosen_of None m n = 0

abbrev pub opened_of : Option (Name × Value) → (Name → Value → ℕ) → ℕ
opened_of (Some c) go = go c.0 c.1
opened_of None go = 0

-- ---- how many outer rows pass

-- 1 where all conditions hold, else 0
abbrev pub passes : Readings → Nodes → List Value → ℕ
passes R no_nodes env = 1
passes R (nodes c cs) env = once (worth (plan R c env)) (λ v. chosen_of (as_bool v) (passes R cs env) 0)

-- how many of the rows that the outer loop of a join of a kind draws pass its conditions
abbrev pub passing : Readings → Kind → Node → Nodes → List Value → ℕ
passing R k o cs env = weight (λ x. passes R cs (x ∷ env)) (drawn_for k (plan R o env))

-- these rows
abbrev pub rows_passing : Readings → Nodes → List Value → List Value → List Value
rows_passing R cs env [] = []
rows_passing R cs env (x ∷ xs) = cond (nat_eq (passes R cs (x ∷ env)) 1) (x ∷ rows_passing R cs env xs) (rows_passing R cs env xs)

module _ (R : Readings) (block : ℕ) (P : Prices) where
  abbrev mutual
    pub reached : Node → List Value → ℕ
    reached (node.Plain t) env = 0
    reached (node.Var x) env = 0
    reached (node.Rec ps) env = reached_fields ps env
    reached (node.Proj l a) env = reached a env
    reached (node.Inj l a) env = reached a env
    reached (node.Case a bs) env =
        reached a env + once (worth (plan R a env)) (λ v. opened_of (as_variant v) (λ l w. reached_branch bs l w env))
    reached (node.Make k ps) env = reached_nodes ps env
    reached (node.Union a b) env = reached a env + reached b env
    reached (node.Ext k b s) env = reached s env + weight (λ v. reached b (v ∷ env)) (drawn_for k (plan R s env))
    reached (node.If a b c) env = reached a env + once (worth (plan R a env)) (λ v. chosen_of (as_bool v) (reached b env) (reached c env))
    reached (node.Let a b) env = reached a env + once (worth (plan R a env)) (λ v. reached b (v ∷ env))
    reached (node.Prim c ps) env = reached_nodes ps env
    reached (node.Scan c) env = P.scan c
    -- the outer part; for each outer row its conditions, and where it passes its key and the body at each inner row with that key;
    -- and the join itself
    reached (node.Join n k way o cs i q b) env =
        reached o env
        + (weight (λ x. reached_conds cs (x ∷ env) (reached_key q (x ∷ env)
        (λ test. weight (λ y. chosen_of (test y) (reached b (y ∷ x ∷ env)) 0) (drawn_for k (scanned i.kind (R i))))))
        (drawn_for k (plan R o env))
        + executed block P n way i (passing R k o cs env))
    reached (node.Memo n frees p) env = P.memo n (values_at env frees) + reached p env

    pub reached_nodes : Nodes → List Value → ℕ
    reached_nodes no_nodes env = 0
    reached_nodes (nodes p ps) env = reached p env + reached_nodes ps env

    pub reached_fields : Fields → List Value → ℕ
    reached_fields no_fields env = 0
    reached_fields (fields l p ps) env = reached p env + reached_fields ps env

    pub reached_branch : Branches → Name → Value → List Value → ℕ
    reached_branch no_branches l v env = 0
    reached_branch (rest c) l v env = reached c env
    reached_branch (branch m b bs) l v env = cond (pointwise nat_eq l m) (reached b (v ∷ env)) (reached_branch bs l v env)

    pub reached_conds : Nodes → List Value → ℕ → ℕ
    reached_conds no_nodes env more = more
    reached_conds (nodes c cs) env more =
        reached c env + once (worth (plan R c env)) (λ v. chosen_of (as_bool v) (reached_conds cs env more) 0)

    pub reached_key : Key → List Value → ((Value → Option Bool) → ℕ) → ℕ
    reached_key no_key env go = go (λ y. Some true)
    reached_key (key l p) env go = reached p env + once (worth (plan R p env)) (λ v. go (λ y. same_key v (field_at l y)))
