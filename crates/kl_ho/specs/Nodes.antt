-- How many expressions an expression has, itself and all its parts.
use Rattle.std.specs.Prelude.{ℕ, suc, ◌+◌}
use Rattle.kl_syntax.specs.Syntax.{Exp, Const, name, Call, Rec, More, Inj, Coll, Comp, If, Let, Case, Path, Not, Neg, Chain, Exps}
use Rattle.kl_syntax.specs.Syntax.{no_exps, exps, Flds, no_flds, flds, Quals, no_quals, draw, test, Branches, no_branches}
use Rattle.kl_syntax.specs.Syntax.{otherwise, branch, Steps, no_steps, step}

abbrev mutual
  pub nodes : Exp → ℕ
  nodes (Const v) = 1
  nodes (name x) = 1
  nodes (Call f es) = suc (nodes_all es)
  nodes (Rec fs) = suc (nodes_fields fs)
  nodes (More fs a) = suc (nodes_fields fs + nodes a)
  nodes (Inj l a) = suc (nodes a)
  nodes (Coll k es) = suc (nodes_all es)
  nodes (Comp k e qs) = suc (nodes e + nodes_quals qs)
  nodes (If a b c) = suc (nodes a + (nodes b + nodes c))
  nodes (Let p a b) = suc (nodes a + nodes b)
  nodes (Case a bs) = suc (nodes a + nodes_branches bs)
  nodes (Path a ls) = suc (nodes a)
  nodes (Not a) = suc (nodes a)
  nodes (Neg a) = suc (nodes a)
  nodes (Chain a ss) = suc (nodes a + nodes_steps ss)

  pub nodes_all : Exps → ℕ
  nodes_all no_exps = 0
  nodes_all (exps e es) = nodes e + nodes_all es

  pub nodes_fields : Flds → ℕ
  nodes_fields no_flds = 0
  nodes_fields (flds l e fs) = nodes e + nodes_fields fs

  pub nodes_quals : Quals → ℕ
  nodes_quals no_quals = 0
  nodes_quals (draw p e qs) = nodes e + nodes_quals qs
  nodes_quals (test e qs) = nodes e + nodes_quals qs

  pub nodes_branches : Branches → ℕ
  nodes_branches no_branches = 0
  nodes_branches (otherwise e) = nodes e
  nodes_branches (branch l p e bs) = nodes e + nodes_branches bs

  pub nodes_steps : Steps → ℕ
  nodes_steps no_steps = 0
  nodes_steps (step c e ss) = nodes e + nodes_steps ss
