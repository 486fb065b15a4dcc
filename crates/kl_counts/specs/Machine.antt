-- The evaluation of a plan with a cache, as a machine: what it does where so many entries may be kept, in the order of the meaning,
-- and the entries that it leaves, the newest first. Where the plan ends well, what is drawn lazily or in blocks does the same in
-- another order.
use Rattle.std.specs.Prelude.{ℕ, zero, suc, Bool, true, List, [], ◌∷◌, ◌++◌, Option, Some, None, cond, nat_eq}
use Rattle.std.specs.Cmp.Lexicographic.{pointwise}
use Rattle.kl_value.specs.Views.{as_bool, field_at}
use Rattle.kl_value.specs.declared.Value.{Value}
use Rattle.kl_outcome.specs.Outcome.{Name, Outcome, done, over, stuck, Flow, more, stop, as_variant}
use Rattle.kl_plan.specs.declared.plan.Scan.{Scan}
use Rattle.kl_plan.specs.Nodes as node
use Rattle.kl_plan.specs.Nodes.{Node, Nodes, no_nodes, nodes, Fields, no_fields, fields, Branches, no_branches, rest, branch}
use Rattle.kl_plan.specs.Nodes.{Key as JoinKey, no_key, key}
use Rattle.kl_plan.specs.Meaning.{Readings, worth, drawn_for, scanned, same_key, plan}
use Rattle.kl_lookups.specs.Lookups.{has, moved_up, kept_with}
use Rattle.kl_plan.specs.Subqueries.{Subquery, values_at}
use Rattle.kl_plan.specs.Prices.{inner_starts}
use Rattle.kl_plan.specs.Reached.{passing}
use Rattle.kl_scans.specs.Log.{Event, started, joined, missed, hit}

-- the values that are kept by their keys, the newest first
abbrev pub Entries : Type 0
Entries = List (Subquery × Value)

-- what is done from some entries on, and the entries behind it
abbrev pub Act : Type 0
Act = Entries → List Event × Entries

abbrev pub idle : Act
idle m = ([], m)

abbrev pub next_to : List Event × Entries → Act → List Event × Entries
next_to r b = (r.0 ++ (b r.1).0, (b r.1).1)

abbrev pub then_do : Act → Act → Act
then_do a b m = next_to (a m) b

abbrev pub done_once : Event → Act
done_once e m = (e ∷ [], m)

-- the scan is started so often
abbrev pub often : ℕ → Scan → Act
often zero c m = ([], m)
often (suc n) c m = (started c ∷ (often n c m).0, m)

abbrev pub at_value : Outcome → (Value → Act) → Act
at_value (done v) go = go v
at_value (over vs) go = idle
at_value stuck go = idle

abbrev pub chosen : Option Bool → Act → Act → Act
chosen (Some b) x y = cond b x y
chosen None x y = idle

abbrev pub opened : Option (Name × Value) → (Name → Value → Act) → Act
opened (Some c) go = go c.0 c.1
opened None go = idle

abbrev pub each : (Value → Act) → Flow → Act
each go (more v f) = then_do (go v) (each go f)
each go (stop e) = idle

-- `same` is the test of keys, and `value` the value that is kept under a key
module _ (same : Subquery → Subquery → Bool) (capacity : ℕ) (value : Subquery → Value) where
  -- a part whose value is kept: where the look-up hits its entry is the newest, else the part is evaluated and its value is kept
  abbrev pub looks : ℕ → List ℕ → Node → List Value → Act → Act
  looks n frees p env part m =
      cond (has same (n, values_at env frees) m)
      (hit n frees p env ∷ [], moved_up same (n, values_at env frees) m) (
        (part m).0 ++ missed (n, values_at env frees) (value (n, values_at env frees)) ∷ [],
        kept_with same capacity (n, values_at env frees) (value (n, values_at env frees)) (part m).1,
      )

  module _ (R : Readings) (block : ℕ) where
    abbrev mutual
      pub run : Node → List Value → Act
      run (node.Plain t) env = idle
      run (node.Var x) env = idle
      run (node.Rec ps) env = run_fields ps env
      run (node.Proj l a) env = run a env
      run (node.Inj l a) env = run a env
      run (node.Case a bs) env =
          then_do (run a env) (at_value (worth (plan R a env)) (λ v. opened (as_variant v) (λ l w. run_branch bs l w env)))
      run (node.Make k ps) env = run_nodes ps env
      run (node.Union a b) env = then_do (run a env) (run b env)
      run (node.Ext k b s) env = then_do (run s env) (each (λ v. run b (v ∷ env)) (drawn_for k (plan R s env)))
      run (node.If a b c) env = then_do (run a env) (at_value (worth (plan R a env)) (λ v. chosen (as_bool v) (run b env) (run c env)))
      run (node.Let a b) env = then_do (run a env) (at_value (worth (plan R a env)) (λ v. run b (v ∷ env)))
      run (node.Prim c ps) env = run_nodes ps env
      run (node.Scan c) env = done_once (started c)
      run (node.Join n k way o cs i q b) env =
          then_do (run o env)
          (then_do (each (λ x. run_conds cs (x ∷ env) (run_key q (x ∷ env)
          (λ test. each (λ y. chosen (test y) (run b (y ∷ x ∷ env)) idle) (drawn_for k (scanned i.kind (R i))))))
          (drawn_for k (plan R o env)))
          (then_do (often (inner_starts block way (passing R k o cs env)) i)
          (done_once (joined n way (passing R k o cs env) (inner_starts block way (passing R k o cs env))))))
      run (node.Memo n frees p) env = looks n frees p env (run p env)

      pub run_nodes : Nodes → List Value → Act
      run_nodes no_nodes env = idle
      run_nodes (nodes p ps) env = then_do (run p env) (run_nodes ps env)

      pub run_fields : Fields → List Value → Act
      run_fields no_fields env = idle
      run_fields (fields l p ps) env = then_do (run p env) (run_fields ps env)

      pub run_branch : Branches → Name → Value → List Value → Act
      run_branch no_branches l v env = idle
      run_branch (rest c) l v env = run c env
      run_branch (branch m b bs) l v env = cond (pointwise nat_eq l m) (run b (v ∷ env)) (run_branch bs l v env)

      pub run_conds : Nodes → List Value → Act → Act
      run_conds no_nodes env go = go
      run_conds (nodes c cs) env go =
          then_do (run c env) (at_value (worth (plan R c env)) (λ v. chosen (as_bool v) (run_conds cs env go) idle))

      pub run_key : JoinKey → List Value → ((Value → Option Bool) → Act) → Act
      run_key no_key env go = go (λ y. Some true)
      run_key (key l p) env go = then_do (run p env) (at_value (worth (plan R p env)) (λ v. go (λ y. same_key v (field_at l y))))
