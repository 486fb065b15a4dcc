-- The prices of what a plan visits are what it comes to.
use Rattle.std.proofs.Common.{◌≡◌, ℕ, ◌+◌, Bool, true, false, List, [], ◌∷◌, ◌++◌, Option, Some, None, cond, nat_eq, length, refl, sym, ◌∙◌, arith}
use Rattle.std.specs.Cmp.Lexicographic.{pointwise}
use Rattle.std.specs.List.{sum_by}
use Rattle.std.proofs.lemmas.List.Sums.{sum_by-cons, sum_by-append}
use Rattle.kl_value.specs.Views.{as_bool, field_at}
use Rattle.kl_value.specs.declared.Kind.{Kind}
use Rattle.kl_value.specs.declared.Value.{Value}
use Rattle.kl_outcome.specs.Outcome.{Name, Outcome, done, over, stuck, Flow, more, stop, items_in, as_variant}
use Rattle.kl_plan.specs.Alike.{weight}
use Rattle.kl_plan.specs.declared.plan.Scan.{Scan}
use Rattle.kl_plan.specs.Nodes as node
use Rattle.kl_plan.specs.Nodes.{Node, Nodes, no_nodes, nodes, Fields, no_fields, fields, Branches, no_branches, rest, branch, Key as JoinKey, no_key, key}
use Rattle.kl_plan.specs.Meaning.{Readings, worth, drawn_for, scanned, same_key, plan}
use Rattle.kl_plan.specs.Reached.{once, chosen_of, opened_of, passing, reached, reached_nodes, reached_fields, reached_branch, reached_conds, reached_key}
use Rattle.kl_plan.specs.Subqueries.{Subquery, values_at}
use Rattle.kl_plan.specs.Prices.{Prices, inner_starts, executed, prices, at_keys}
use Rattle.kl_counts.specs.Visits.{Visit, reads, joins, asks, at_value, chosen, opened, each, visits, visits_nodes, visits_fields, visits_branch, visits_conds, visits_key, keys_in, keys, outers_in, environments_in, inner_in, price_of}

module _ (R : Readings) (block : ℕ) (P : Prices) where
  abbrev total : List Visit → ℕ
  total vs = sum_by (price_of block P) vs

  beside : (xs ys : List Visit) (m n : ℕ) → total xs ≡ m → total ys ≡ n → total (xs ++ ys) ≡ m + n
  beside xs ys m n p q = omega (arith, sum_by-append (price_of block P) xs ys)

  one_more : (v : Visit) (vs : List Visit) (n : ℕ) → total vs ≡ n → total (v ∷ vs) ≡ price_of block P v + n
  one_more v vs n p = omega (arith, sum_by-cons (price_of block P) v vs)

  alone : (v : Visit) → total (v ∷ []) ≡ price_of block P v
  alone v = omega (arith, sum_by-cons (price_of block P) v [])

  each_total : (go : Value → List Visit) (w : Value → ℕ) (f : Flow) → ((v : Value) → total (go v) ≡ w v) → total (each go f) ≡ weight w f
  each_total go w (more v f) h = beside (go v) (each go f) (w v) (weight w f) (h v) (each_total go w f h) ∙ sym (sum_by-cons w v (items_in f))
  each_total go w (stop e) h = refl

  value_total : (o : Outcome) (go : Value → List Visit) (n : Value → ℕ) → ((v : Value) → total (go v) ≡ n v) → total (at_value o go) ≡ once o n
  value_total (done v) go n h = h v
  value_total (over vs) go n h = refl
  value_total stuck go n h = refl

  chosen_total : (b : Option Bool) (xs ys : List Visit) (m n : ℕ) → total xs ≡ m → total ys ≡ n → total (chosen b xs ys) ≡ chosen_of b m n
  chosen_total (Some true) xs ys m n p q = p
  chosen_total (Some false) xs ys m n p q = q
  chosen_total None xs ys m n p q = refl

  opened_total : (o : Option (Name × Value)) (go : Name → Value → List Visit) (n : Name → Value → ℕ) → ((l : Name) (v : Value) → total (go l v) ≡ n l v) → total (opened o go) ≡ opened_of o n
  opened_total (Some c) go n h = h c.0 c.1
  opened_total None go n h = refl

  cond_total : (b : Bool) (xs ys : List Visit) (m n : ℕ) → total xs ≡ m → total ys ≡ n → total (cond b xs ys) ≡ cond b m n
  cond_total true xs ys m n p q = p
  cond_total false xs ys m n p q = q

  -- what a join visits at an outer row, and where it passes under a test of inner rows
  abbrev inner_rows : Kind → Scan → Node → Value → List Value → (Value → Option Bool) → List Visit
  inner_rows k i b x env test = each (λ y. chosen (test y) (visits R b (y ∷ x ∷ env)) []) (drawn_for k (scanned i.kind (R i)))

  abbrev outer_row : Kind → Nodes → Scan → JoinKey → Node → List Value → Value → List Visit
  outer_row k cs i q b env x = visits_conds R cs (x ∷ env) (visits_key R q (x ∷ env) (inner_rows k i b x env))

  mutual
    pub visits_total : (p : Node) (env : List Value) → total (visits R p env) ≡ reached R block P p env
    visits_total (node.Plain t) env = refl
    visits_total (node.Var x) env = refl
    visits_total (node.Rec ps) env = fields_total ps env
    visits_total (node.Proj l a) env = visits_total a env
    visits_total (node.Inj l a) env = visits_total a env
    visits_total (node.Case a bs) env =
        let go : Value → List Visit = λ v. opened (as_variant v) (λ l w. visits_branch R bs l w env) in
        beside (visits R a env) (at_value (worth (plan R a env)) go) _ _ (visits_total a env)
        (value_total (worth (plan R a env)) go _ (λ v. opened_total (as_variant v) (λ l w. visits_branch R bs l w env) _ (λ l w. branch_total bs l w env)))
    visits_total (node.Make k ps) env = nodes_total ps env
    visits_total (node.Union a b) env = beside (visits R a env) (visits R b env) _ _ (visits_total a env) (visits_total b env)
    visits_total (node.Ext k b s) env =
        beside (visits R s env) (each (λ v. visits R b (v ∷ env)) (drawn_for k (plan R s env))) _ _ (visits_total s env)
        (each_total (λ v. visits R b (v ∷ env)) _ (drawn_for k (plan R s env)) (λ v. visits_total b (v ∷ env)))
    visits_total (node.If a b c) env =
        let go : Value → List Visit = λ v. chosen (as_bool v) (visits R b env) (visits R c env) in
        beside (visits R a env) (at_value (worth (plan R a env)) go) _ _ (visits_total a env)
        (value_total (worth (plan R a env)) go _ (λ v. chosen_total (as_bool v) (visits R b env) (visits R c env) _ _ (visits_total b env) (visits_total c env)))
    visits_total (node.Let a b) env =
        let go : Value → List Visit = λ v. visits R b (v ∷ env) in
        beside (visits R a env) (at_value (worth (plan R a env)) go) _ _ (visits_total a env) (value_total (worth (plan R a env)) go _ (λ v. visits_total b (v ∷ env)))
    visits_total (node.Prim c ps) env = nodes_total ps env
    visits_total (node.Scan c) env = alone (reads c env)
    visits_total (node.Join n k way o cs i q b) env =
        beside (visits R o env) (each (outer_row k cs i q b env) (drawn_for k (plan R o env)) ++ joins n way i (passing R k o cs env) ∷ []) _ _ (visits_total o env)
        (beside (each (outer_row k cs i q b env) (drawn_for k (plan R o env))) (joins n way i (passing R k o cs env) ∷ []) _ _
        (each_total (outer_row k cs i q b env) _ (drawn_for k (plan R o env))
        (λ x. conds_total cs (x ∷ env) (visits_key R q (x ∷ env) (inner_rows k i b x env)) _ (key_total q (x ∷ env) (inner_rows k i b x env) _
        (λ test. each_total (λ y. chosen (test y) (visits R b (y ∷ x ∷ env)) []) _ (drawn_for k (scanned i.kind (R i)))
        (λ y. chosen_total (test y) (visits R b (y ∷ x ∷ env)) [] _ _ (visits_total b (y ∷ x ∷ env)) refl)))))
        (alone (joins n way i (passing R k o cs env))))
    visits_total (node.Memo n frees p) env = one_more (asks (n, values_at env frees)) (visits R p env) _ (visits_total p env)

    nodes_total : (ps : Nodes) (env : List Value) → total (visits_nodes R ps env) ≡ reached_nodes R block P ps env
    nodes_total no_nodes env = refl
    nodes_total (nodes p ps) env = beside (visits R p env) (visits_nodes R ps env) _ _ (visits_total p env) (nodes_total ps env)

    fields_total : (ps : Fields) (env : List Value) → total (visits_fields R ps env) ≡ reached_fields R block P ps env
    fields_total no_fields env = refl
    fields_total (fields l p ps) env = beside (visits R p env) (visits_fields R ps env) _ _ (visits_total p env) (fields_total ps env)

    branch_total : (bs : Branches) (l : Name) (v : Value) (env : List Value) → total (visits_branch R bs l v env) ≡ reached_branch R block P bs l v env
    branch_total no_branches l v env = refl
    branch_total (rest c) l v env = visits_total c env
    branch_total (branch m b bs) l v env = cond_total (pointwise nat_eq l m) (visits R b (v ∷ env)) (visits_branch R bs l v env) _ _ (visits_total b (v ∷ env)) (branch_total bs l v env)

    conds_total : (cs : Nodes) (env : List Value) (xs : List Visit) (n : ℕ) → total xs ≡ n → total (visits_conds R cs env xs) ≡ reached_conds R block P cs env n
    conds_total no_nodes env xs n h = h
    conds_total (nodes c cs) env xs n h =
        let go : Value → List Visit = λ v. chosen (as_bool v) (visits_conds R cs env xs) [] in
        beside (visits R c env) (at_value (worth (plan R c env)) go) _ _ (visits_total c env)
        (value_total (worth (plan R c env)) go _ (λ v. chosen_total (as_bool v) (visits_conds R cs env xs) [] _ _ (conds_total cs env xs n h) refl))

    key_total : (q : JoinKey) (env : List Value) (go : (Value → Option Bool) → List Visit) (n : (Value → Option Bool) → ℕ) → ((test : Value → Option Bool) → total (go test) ≡ n test)
        → total (visits_key R q env go) ≡ reached_key R block P q env n
    key_total no_key env go n h = h (λ y. Some true)
    key_total (key l p) env go n h =
        let to : Value → List Visit = λ v. go (λ y. same_key v (field_at l y)) in
        beside (visits R p env) (at_value (worth (plan R p env)) to) _ _ (visits_total p env) (value_total (worth (plan R p env)) to _ (λ v. h (λ y. same_key v (field_at l y))))

-- Where only look-ups have a price, a plan comes to the sum over its keys.
module _ (block : ℕ) (w : Subquery → ℕ) where
  keys_total : (vs : List Visit) → sum_by (price_of block (at_keys w)) vs ≡ sum_by w (keys_in vs)
  keys_total [] = refl
  keys_total (reads c env ∷ vs) = omega (arith, keys_total vs, sum_by-cons (price_of block (at_keys w)) (reads c env) vs)
  keys_total (joins n way i outer ∷ vs) = omega (arith, keys_total vs, sum_by-cons (price_of block (at_keys w)) (joins n way i outer) vs)
  keys_total (asks k ∷ vs) = omega (arith, keys_total vs, sum_by-cons (price_of block (at_keys w)) (asks k) vs, sum_by-cons w k (keys_in vs))

  pub keys_weigh : (R : Readings) (p : Node) (env : List Value) → reached R block (at_keys w) p env ≡ sum_by w (keys R p env)
  keys_weigh R p env = sym (visits_total R block (at_keys w) p env) ∙ keys_total (visits R p env)

-- Where only joins of one number have a price, it comes to the sum over their outer numbers.
module _ (block j : ℕ) (u : ℕ → ℕ) where
  abbrev pub at_outer : Prices
  at_outer = prices (λ c. 0) (λ m way outer. cond (nat_eq m j) (u outer) 0)

  outers_total : (vs : List Visit) → sum_by (price_of block at_outer) vs ≡ sum_by u (outers_in j vs)
  outers_total [] = refl
  outers_total (reads c env ∷ vs) = omega (arith, outers_total vs, sum_by-cons (price_of block at_outer) (reads c env) vs)
  outers_total (asks k ∷ vs) = omega (arith, outers_total vs, sum_by-cons (price_of block at_outer) (asks k) vs)
  outers_total (joins m way i outer ∷ vs) = by (nat_eq m j) refl (outers_total vs)
    where
      by : (b : Bool) → nat_eq m j ≡ b → sum_by (price_of block at_outer) vs ≡ sum_by u (outers_in j vs) → sum_by (price_of block at_outer) (joins m way i outer ∷ vs) ≡ sum_by u (cond b (outer ∷ outers_in j vs) (outers_in j vs))
      by true t r = let e : cond {A = ℕ} (nat_eq m j) (u outer) 0 ≡ u outer = rw t refl in omega (arith, sum_by-cons (price_of block at_outer) (joins m way i outer) vs, sum_by-cons u outer (outers_in j vs))
      by false t r = let e : cond {A = ℕ} (nat_eq m j) (u outer) 0 ≡ 0 = rw t refl in omega (arith, sum_by-cons (price_of block at_outer) (joins m way i outer) vs)

  pub outers_weigh : (R : Readings) (p : Node) (env : List Value) → reached R block at_outer p env ≡ sum_by u (outers_in j (visits R p env))
  outers_weigh R p env = sym (visits_total R block at_outer p env) ∙ outers_total (visits R p env)

-- Where only starts of the scan of a number have a price, it comes to one for each environment that reaches it, and for a join
-- whose inner scan has the number to its starts.
module _ (block n : ℕ) where
  abbrev at_number : Prices
  at_number = prices (λ c. cond (nat_eq c.number n) 1 0) (λ m way outer. 0)

  starts_total : (vs : List Visit) → sum_by (price_of block at_number) vs ≡ length (environments_in n vs) + inner_in block n vs
  starts_total [] = refl
  starts_total (asks k ∷ vs) = omega (arith, starts_total vs, sum_by-cons (price_of block at_number) (asks k) vs)
  starts_total (reads c env ∷ vs) = by (nat_eq c.number n) refl (starts_total vs)
    where
      by : (b : Bool) → nat_eq c.number n ≡ b → sum_by (price_of block at_number) vs ≡ length (environments_in n vs) + inner_in block n vs
          → sum_by (price_of block at_number) (reads c env ∷ vs) ≡ length (cond b (env ∷ environments_in n vs) (environments_in n vs)) + inner_in block n vs
      by true t r = let e : cond {A = ℕ} (nat_eq c.number n) 1 0 ≡ 1 = rw t refl in omega (arith, sum_by-cons (price_of block at_number) (reads c env) vs)
      by false t r = let e : cond {A = ℕ} (nat_eq c.number n) 1 0 ≡ 0 = rw t refl in omega (arith, sum_by-cons (price_of block at_number) (reads c env) vs)
  starts_total (joins m way i outer ∷ vs) = by (nat_eq i.number n) refl (starts_total vs)
    where
      by : (b : Bool) → nat_eq i.number n ≡ b → sum_by (price_of block at_number) vs ≡ length (environments_in n vs) + inner_in block n vs
          → sum_by (price_of block at_number) (joins m way i outer ∷ vs) ≡ length (environments_in n vs) + (cond b (inner_starts block way outer) 0 + inner_in block n vs)
      by true t r = let e : executed block at_number m way i outer ≡ inner_starts block way outer = rw t (omega arith) in omega (arith, sum_by-cons (price_of block at_number) (joins m way i outer) vs)
      by false t r = let e : executed block at_number m way i outer ≡ 0 = rw t (omega arith) in omega (arith, sum_by-cons (price_of block at_number) (joins m way i outer) vs)

  pub starts_weigh : (R : Readings) (p : Node) (env : List Value) → reached R block at_number p env ≡ length (environments_in n (visits R p env)) + inner_in block n (visits R p env)
  starts_weigh R p env = sym (visits_total R block at_number p env) ∙ starts_total (visits R p env)
