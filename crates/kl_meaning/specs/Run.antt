-- What an expression and a program mean.
use Rattle.std.specs.Prelude.{ℕ, Bool, true, false, List, [], ◌∷◌, cond, Option, Some, None, find}
use Rattle.kl_base.specs.Fields.{field}
use Rattle.kl_value.specs.declared.Value.{Value}
use Rattle.kl_value.specs.declared.Value.TheVariants as value
use Rattle.kl_prim.specs.Table.{Row, rows}
pub use Rattle.kl_prim.specs.Records.{by_label, in_order}
use Rattle.kl_outcome.specs.Outcome.{Outcome, done, over, stuck, Flow, stop, fine, overflow, broken, Name, after, if_then}
use Rattle.kl_outcome.specs.Outcome.{applied, recorded, tagged, part, cases, items_of, item_then, drawn, collected, union_of}
use Rattle.kl_value.specs.Views.{as_bool}
use Rattle.kl_syntax.specs.declared.tree.Op.{Op}
use Rattle.kl_syntax.specs.declared.tree.Op.TheVariants as op
use Rattle.kl_syntax.specs.declared.tree.Word.{Word}
use Rattle.kl_syntax.specs.Syntax.{Exp, Const, name, Call, Rec, More, Inj, Coll, Comp, If, Let, Case, Path, Not, Neg, Chain, Exps}
use Rattle.kl_syntax.specs.Syntax.{no_exps, exps, Flds, no_flds, flds, Quals, no_quals, draw, test, Branches, no_branches}
use Rattle.kl_syntax.specs.Syntax.{otherwise, branch, Steps, no_steps, step, Decls, no_decls, constant, function}
use Rattle.kl_meaning.specs.Match.{Env, fits, if_fits, must_fit, same_name}

-- what a name that is no variable means
pub data Meant : Type 0 where
  nothing : Meant
  value_of : Outcome → Meant
  function_of : (Value → Outcome) → Meant
  primitive : ℕ → Meant

abbrev pub KnownOutcomes : Type 0
KnownOutcomes = Name → Meant

abbrev pub as_value : Meant → Outcome
as_value (value_of o) = o
as_value _ = stuck

-- the value of a name, that of the last variable bound to it first
abbrev pub named : Option Value → Meant → Outcome
named (Some v) m = done v
named None m = as_value m

abbrev pub look_up : KnownOutcomes → Env → Name → Outcome
look_up known env x = named (field x env) (known x)

-- a function is of one argument, a primitive of those that its row says
abbrev pub one_then : List Outcome → (Value → Outcome) → Outcome
one_then (o ∷ []) go = after o go
one_then _ go = stuck

abbrev pub called : Meant → List Outcome → Outcome
called (function_of f) os = one_then os f
called (primitive code) os = applied code os
called _ os = stuck

-- the operators' codes in the table of primitives; `and`, `or` and `++` are none
abbrev pub code_of : Op → ℕ
code_of op.Eq = 1
code_of op.Ne = 2
code_of op.Lt = 3
code_of op.Le = 4
code_of op.Gt = 5
code_of op.Ge = 6
code_of op.Add = 7
code_of op.Sub = 8
code_of op.Mul = 9
code_of op.Cat = 12
code_of _ = 0

abbrev pub operated : Op → Outcome → Outcome → Outcome
operated op.And o q = if_then o q (done (value.Bool false))
operated op.Or o q = if_then o (done (value.Bool true)) q
operated op.Append o q = union_of o q
operated c o q = applied (code_of c) (o ∷ q ∷ [])

abbrev pub parts_of : List Word → Outcome → Outcome
parts_of [] o = o
parts_of (l ∷ ls) o = parts_of ls (part l.text o)

abbrev pub flow_if : Option Bool → Flow → Flow
flow_if (Some b) f = cond b f (stop fine)
flow_if None f = stop broken

abbrev pub draw_if : Outcome → Flow → Flow
draw_if (done v) f = flow_if (as_bool v) f
draw_if (over vs) f = stop overflow
draw_if stuck f = stop broken

abbrev mutual
  pub run : Exp → KnownOutcomes → Env → Outcome
  run (Const v) known env = done v
  run (name x) known env = look_up known env x.text
  run (Call f es) known env = called (known f.text) (run_all es known env)
  run (Rec fs) known env = recorded (in_order (run_fields fs known env))
  run (More fs a) known env = applied 27 (recorded (in_order (run_fields fs known env)) ∷ run a known env ∷ [])
  run (Inj l a) known env = tagged l.text (run a known env)
  run (Coll k es) known env = collected k (run_items es known env)
  run (Comp k e qs) known env = collected k (run_quals qs (λ inner. item_then (run e known inner) (stop fine)) known env)
  run (If a b c) known env = if_then (run a known env) (run b known env) (run c known env)
  run (Let p a b) known env = after (run a known env) (λ v. must_fit (fits p (look_up known env) v env) (λ inner. run b known inner))
  run (Case a bs) known env = cases (run a known env) (λ l v. run_branches bs l v known env)
  run (Path a ls) known env = parts_of ls (run a known env)
  run (Not a) known env = applied 11 (run a known env ∷ [])
  run (Neg a) known env = applied 10 (run a known env ∷ [])
  run (Chain a ss) known env = run_steps ss (run a known env) known env

  pub run_all : Exps → KnownOutcomes → Env → List Outcome
  run_all no_exps known env = []
  run_all (exps e es) known env = run e known env ∷ run_all es known env

  pub run_items : Exps → KnownOutcomes → Env → Flow
  run_items no_exps known env = stop fine
  run_items (exps e es) known env = item_then (run e known env) (run_items es known env)

  pub run_fields : Flds → KnownOutcomes → Env → List (Name × Outcome)
  run_fields no_flds known env = []
  run_fields (flds l e fs) known env = (l.text, run e known env) ∷ run_fields fs known env

  pub run_quals : Quals → (Env → Flow) → KnownOutcomes → Env → Flow
  run_quals no_quals go known env = go env
  run_quals (draw p s qs) go known env =
      drawn (items_of (run s known env)) (λ v. if_fits (fits p (look_up known env) v env) (λ inner. run_quals qs go known inner))
  run_quals (test c qs) go known env = draw_if (run c known env) (run_quals qs go known env)

  pub run_branches : Branches → Name → Value → KnownOutcomes → Env → Outcome
  run_branches no_branches l v known env = stuck
  run_branches (otherwise c) l v known env = run c known env
  run_branches (branch m p b bs) l v known env =
      cond (same_name l m.text) (must_fit (fits p (look_up known env) v env) (λ inner. run b known inner)) (run_branches bs l v known env)

  pub run_steps : Steps → Outcome → KnownOutcomes → Env → Outcome
  run_steps no_steps o known env = o
  run_steps (step c e ss) o known env = run_steps ss (operated c o (run e known env)) known env

-- the code of the primitive with a name
abbrev pub code_at : Option Row → Option ℕ
code_at (Some r) = Some r.entry.code
code_at None = None

unfoldable pub code_named : Name → Option ℕ
code_named x = code_at (find (λ r. same_name r.entry.name x) rows)

abbrev pub meant_by_code : Option ℕ → Meant
meant_by_code (Some c) = primitive c
meant_by_code None = nothing

abbrev pub meant_at : Option Value → Option ℕ → Meant
meant_at (Some v) c = value_of (done v)
meant_at None c = meant_by_code c

-- sources, and then primitives
abbrev pub at_first : List (Name × Value) → KnownOutcomes
at_first sources x = meant_at (field x sources) (code_named x)

abbrev pub with_known : Name → Meant → KnownOutcomes → KnownOutcomes
with_known d m known x = cond (same_name x d) m (known x)

-- a definition means what its expression means over the definitions before it, without variables
abbrev pub known_after : Decls → KnownOutcomes → KnownOutcomes
known_after no_decls known = known
known_after (constant d e ds) known = known_after ds (with_known d.text (value_of (run e known [])) known)
known_after (function d p e ds) known =
    known_after ds (with_known d.text (function_of (λ v. must_fit (fits p (look_up known []) v []) (λ inner. run e known inner))) known)

abbrev pub meaning_of_program : Decls → Exp → List (Name × Value) → Outcome
meaning_of_program ds e sources = run e (known_after ds (at_first sources)) []
