-- What the machine does costs what the plan comes to, whatever is kept: a look-up that hits is paid as if it had missed.
use Rattle.std.proofs.Common.{◌≡◌, ℕ, zero, suc, ◌+◌, ◌*◌, Bool, true, false, List, [], ◌∷◌, ◌++◌, Option, Some, None, cond, nat_eq, refl, ◌∙◌, arith}
use Rattle.std.specs.Cmp.Lexicographic.{pointwise}
use Rattle.std.proofs.Math.Nat.{suc-mul}
use Rattle.kl_value.specs.Views.{as_bool, field_at}
use Rattle.kl_value.specs.declared.Value.{Value}
use Rattle.kl_outcome.specs.Outcome.{Name, Outcome, done, over, stuck, Flow, more, stop, as_variant}
use Rattle.kl_ask.specs.declared.settings.JoinHow.{JoinHow}
use Rattle.kl_plan.specs.Alike.{weight}
use Rattle.kl_plan.specs.declared.plan.Scan.{Scan}
use Rattle.kl_plan.specs.Nodes as node
use Rattle.kl_plan.specs.Nodes.{Node, Nodes, no_nodes, nodes, Fields, no_fields, fields, Branches, no_branches, rest, branch, Key as JoinKey, no_key, key}
use Rattle.kl_scans.specs.Stage.{Stage, readings}
use Rattle.kl_scans.proofs.Moving.{paid_then}
use Rattle.kl_plan.specs.Meaning.{Readings, drawn_for, scanned, same_key, plan}
use Rattle.kl_plan.specs.Reached.{once, chosen_of, opened_of, passing, reached, reached_nodes, reached_fields, reached_branch, reached_conds, reached_key}
use Rattle.kl_lookups.specs.Lookups.{has}
use Rattle.kl_plan.specs.Subqueries.{Subquery, values_at}
use Rattle.kl_plan.specs.Prices.{Prices, inner_starts, executed}
use Rattle.kl_scans.specs.Log.{Event, started, joined, missed, hit, paid}
use Rattle.kl_counts.specs.Machine.{Entries, Act, idle, then_do, done_once, often, at_value, chosen, opened, each, looks, run, run_nodes, run_fields, run_branch, run_conds, run_key}
use Rattle.kl_counts.proofs.Pricing.{weight_more}

module _ (same : Subquery → Subquery → Bool) (capacity : ℕ) (value : Subquery → Value) (t : Stage) (P : Prices) where
  abbrev R : Readings
  R = readings t

  abbrev block : ℕ
  block = t.block

  -- what is done between some entries and others costs so much
  record Costs (m : Entries) (es : List Event) (l : Entries) (n : ℕ) : Type 0 where
    is : paid t P es ≡ n

  abbrev Pays : Act → ℕ → Type 0
  Pays a n = (m : Entries) → Costs m (a m).0 (a m).1 n

  idle_pays : Pays idle 0
  idle_pays m = record { is = refl }

  then_pays : (a b : Act) (x y : ℕ) → Pays a x → Pays b y → Pays (then_do a b) (x + y)
  then_pays a b x y p q m = let l = (p m).is in let r = (q (a m).1).is in record { is = omega (arith, paid_then t P (a m).0 (b (a m).1).0) }

  each_pays : (go : Value → Act) (w : Value → ℕ) (f : Flow) → ((v : Value) → Pays (go v) (w v)) → Pays (each go f) (weight w f)
  each_pays go w (more v f) h = λ m. record { is = (then_pays (go v) (each go f) (w v) (weight w f) (h v) (each_pays go w f h) m).is ∙ weight_more w v f }
  each_pays go w (stop e) h = idle_pays

  value_pays : (o : Outcome) (go : Value → Act) (n : Value → ℕ) → ((v : Value) → Pays (go v) (n v)) → Pays (at_value o go) (once o n)
  value_pays (done v) go n h = h v
  value_pays (over vs) go n h = idle_pays
  value_pays stuck go n h = idle_pays

  chosen_pays : (b : Option Bool) (x y : Act) (m n : ℕ) → Pays x m → Pays y n → Pays (chosen b x y) (chosen_of b m n)
  chosen_pays (Some true) x y m n p q = p
  chosen_pays (Some false) x y m n p q = q
  chosen_pays None x y m n p q = idle_pays

  opened_pays : (o : Option (Name × Value)) (go : Name → Value → Act) (n : Name → Value → ℕ) → ((l : Name) (v : Value) → Pays (go l v) (n l v)) → Pays (opened o go) (opened_of o n)
  opened_pays (Some c) go n h = h c.0 c.1
  opened_pays None go n h = idle_pays

  cond_pays : (b : Bool) (x y : Act) (m n : ℕ) → Pays x m → Pays y n → Pays (cond b x y) (cond b m n)
  cond_pays true x y m n p q = p
  cond_pays false x y m n p q = q

  often_paid : (n : ℕ) (c : Scan) (m : Entries) → paid t P (often n c m).0 ≡ n * P.scan c
  often_paid zero c m = omega arith
  often_paid (suc n) c m = let r = often_paid n c m in let e = suc-mul n (P.scan c) in omega arith

  looks_pays : (n : ℕ) (frees : List ℕ) (p : Node) (env : List Value) (part : Act) → Pays part (reached R block P p env)
      → Pays (looks same capacity value n frees p env part) (P.memo n (values_at env frees) + reached R block P p env)
  looks_pays n frees p env part h m = record { is = by (has same (n, values_at env frees) m) (h m).is _ _ }
    where
      k : Subquery
      k = (n, values_at env frees)

      by : (b : Bool) → paid t P (part m).0 ≡ reached R block P p env → (x y : Entries)
          → paid t P (cond {A = List Event × Entries} b (hit n frees p env ∷ [], x) ((part m).0 ++ missed k (value k) ∷ [], y)).0 ≡ P.memo n (values_at env frees) + reached R block P p env
      by true g x y = omega arith
      by false g x y = omega (arith, paid_then t P (part m).0 (missed k (value k) ∷ []))

  started_pays : (c : Scan) → Pays (done_once (started c)) (P.scan c)
  started_pays c m = record { is = omega arith }

  joined_pays : (n : ℕ) (way : JoinHow) (outer starts : ℕ) → Pays (done_once (joined n way outer starts)) (P.join n way outer)
  joined_pays n way outer starts m = record { is = omega arith }

  joins_pay : (n : ℕ) (way : JoinHow) (i : Scan) (outer : ℕ)
      → Pays (then_do (often (inner_starts block way outer) i) (done_once (joined n way outer (inner_starts block way outer)))) (executed block P n way i outer)
  joins_pay n way i outer m =
      let r = (then_pays (often (inner_starts block way outer) i) (done_once (joined n way outer (inner_starts block way outer))) (inner_starts block way outer * P.scan i) (P.join n way outer)
      (λ m. record { is = often_paid (inner_starts block way outer) i m }) (joined_pays n way outer (inner_starts block way outer)) m).is in
      record { is = omega arith }

  mutual
    run_pays : (p : Node) (env : List Value) → Pays (run same capacity value R block p env) (reached R block P p env)
    run_pays (node.Plain t) env = idle_pays
    run_pays (node.Var x) env = idle_pays
    run_pays (node.Rec ps) env = fields_pay ps env
    run_pays (node.Proj l a) env = run_pays a env
    run_pays (node.Inj l a) env = run_pays a env
    run_pays (node.Case a bs) env = then_pays _ _ _ _ (run_pays a env) (value_pays _ _ _ (λ v. opened_pays (as_variant v) _ _ (λ l w. branch_pays bs l w env)))
    run_pays (node.Make k ps) env = nodes_pay ps env
    run_pays (node.Union a b) env = then_pays _ _ _ _ (run_pays a env) (run_pays b env)
    run_pays (node.Ext k b s) env = then_pays _ _ _ _ (run_pays s env) (each_pays _ _ (drawn_for k (plan R s env)) (λ v. run_pays b (v ∷ env)))
    run_pays (node.If a b c) env = then_pays _ _ _ _ (run_pays a env) (value_pays _ _ _ (λ v. chosen_pays (as_bool v) _ _ _ _ (run_pays b env) (run_pays c env)))
    run_pays (node.Let a b) env = then_pays _ _ _ _ (run_pays a env) (value_pays _ _ _ (λ v. run_pays b (v ∷ env)))
    run_pays (node.Prim c ps) env = nodes_pay ps env
    run_pays (node.Scan c) env = started_pays c
    run_pays (node.Join n k way o cs i q b) env =
        then_pays _ _ _ _ (run_pays o env) (then_pays _ _ _ _
        (each_pays _ _ (drawn_for k (plan R o env)) (λ x. conds_pay cs (x ∷ env) _ _ (key_pays q (x ∷ env) _ _ (λ test. each_pays _ _ (drawn_for k (scanned i.kind (R i))) (λ y. chosen_pays (test y) _ _ _ _ (run_pays b (y ∷ x ∷ env)) idle_pays)))))
        (joins_pay n way i (passing R k o cs env)))
    run_pays (node.Memo n frees p) env = looks_pays n frees p env (run same capacity value R block p env) (run_pays p env)

    nodes_pay : (ps : Nodes) (env : List Value) → Pays (run_nodes same capacity value R block ps env) (reached_nodes R block P ps env)
    nodes_pay no_nodes env = idle_pays
    nodes_pay (nodes p ps) env = then_pays _ _ _ _ (run_pays p env) (nodes_pay ps env)

    fields_pay : (ps : Fields) (env : List Value) → Pays (run_fields same capacity value R block ps env) (reached_fields R block P ps env)
    fields_pay no_fields env = idle_pays
    fields_pay (fields l p ps) env = then_pays _ _ _ _ (run_pays p env) (fields_pay ps env)

    branch_pays : (bs : Branches) (l : Name) (v : Value) (env : List Value) → Pays (run_branch same capacity value R block bs l v env) (reached_branch R block P bs l v env)
    branch_pays no_branches l v env = idle_pays
    branch_pays (rest c) l v env = run_pays c env
    branch_pays (branch x b bs) l v env = cond_pays (pointwise nat_eq l x) _ _ _ _ (run_pays b (v ∷ env)) (branch_pays bs l v env)

    conds_pay : (cs : Nodes) (env : List Value) (go : Act) (n : ℕ) → Pays go n → Pays (run_conds same capacity value R block cs env go) (reached_conds R block P cs env n)
    conds_pay no_nodes env go n h = h
    conds_pay (nodes c cs) env go n h = then_pays _ _ _ _ (run_pays c env) (value_pays _ _ _ (λ v. chosen_pays (as_bool v) _ _ _ _ (conds_pay cs env go n h) idle_pays))

    key_pays : (q : JoinKey) (env : List Value) (go : (Value → Option Bool) → Act) (n : (Value → Option Bool) → ℕ) → ((test : Value → Option Bool) → Pays (go test) (n test))
        → Pays (run_key same capacity value R block q env go) (reached_key R block P q env n)
    key_pays no_key env go n h = h (λ y. Some true)
    key_pays (key l p) env go n h = then_pays _ _ _ _ (run_pays p env) (value_pays _ _ _ (λ v. h (λ y. same_key v (field_at l y))))

  pub paid_run : (p : Node) → paid t P (run same capacity value R block p [] []).0 ≡ reached R block P p []
  paid_run p = (run_pays p [] []).is
