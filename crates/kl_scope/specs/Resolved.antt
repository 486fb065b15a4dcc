-- Trees whose names carry their meanings; all else is as it was.
use Rattle.std.specs.Prelude.{true, false, Option, Some, None}
use Rattle.kl_syntax.specs.declared.tree.Word.{Word}
use Rattle.kl_syntax.specs.Syntax.{Pat, catch, any, same, is, shape, variant, Pats, no_pats, pats, Exp, Const, name, Call, Rec}
use Rattle.kl_syntax.specs.Syntax.{More, Inj, Coll, Comp, If, Let, Case, Path, Not, Neg, Chain, Exps, no_exps, exps, Flds, no_flds}
use Rattle.kl_syntax.specs.Syntax.{flds, Quals, no_quals, draw, test, Branches, no_branches, otherwise, branch, Steps, no_steps}
use Rattle.kl_syntax.specs.Syntax.{step, Decls, no_decls, constant, function}
use Rattle.kl_scope.specs.declared.names.Sense.{Sense}
use Rattle.kl_scope.specs.Senses.{Scope, named, called, defined}
use Rattle.kl_scope.specs.Patterns.{within}
use Rattle.kl_scope.specs.Findings.{behind}

abbrev pub meant : Option Sense → Word → Word
meant None w = w
meant (Some sense) w = record w { means = sense.means }

abbrev mutual
  -- names stand for what they do outside the pattern
  pub resolved_pat : Pat → Scope → Pat
  resolved_pat (catch w) s = catch w
  resolved_pat any s = any
  resolved_pat (same w) s = same (meant (named s w.text) w)
  resolved_pat (is v n) s = is v n
  resolved_pat (shape ps end) s = shape (resolved_pats ps s) end
  resolved_pat (variant l p) s = variant l (resolved_pat p s)

  pub resolved_pats : Pats → Scope → Pats
  resolved_pats no_pats s = no_pats
  resolved_pats (pats l p ps) s = pats l (resolved_pat p s) (resolved_pats ps s)

abbrev mutual
  pub resolved : Exp → Scope → Exp
  resolved (Const v) s = Const v
  resolved (name w) s = name (meant (named s w.text) w)
  resolved (Call f es) s = Call (meant (called s f.text) f) (resolved_all es s)
  resolved (Rec fs) s = Rec (resolved_fields fs s)
  resolved (More fs e) s = More (resolved_fields fs s) (resolved e s)
  resolved (Inj l e) s = Inj l (resolved e s)
  resolved (Coll k es) s = Coll k (resolved_all es s)
  resolved (Comp k e qs) s = Comp k (resolved e (behind qs s)) (resolved_quals qs s)
  resolved (If a b c) s = If (resolved a s) (resolved b s) (resolved c s)
  resolved (Let p a b) s = Let (resolved_pat p s) (resolved a s) (resolved b (within p s))
  resolved (Case e bs) s = Case (resolved e s) (resolved_branches bs s)
  resolved (Path e ls) s = Path (resolved e s) ls
  resolved (Not e) s = Not (resolved e s)
  resolved (Neg e) s = Neg (resolved e s)
  resolved (Chain e ss) s = Chain (resolved e s) (resolved_steps ss s)

  pub resolved_all : Exps → Scope → Exps
  resolved_all no_exps s = no_exps
  resolved_all (exps e es) s = exps (resolved e s) (resolved_all es s)

  pub resolved_fields : Flds → Scope → Flds
  resolved_fields no_flds s = no_flds
  resolved_fields (flds l e fs) s = flds l (resolved e s) (resolved_fields fs s)

  pub resolved_quals : Quals → Scope → Quals
  resolved_quals no_quals s = no_quals
  resolved_quals (draw p e qs) s = draw (resolved_pat p s) (resolved e s) (resolved_quals qs (within p s))
  resolved_quals (test e qs) s = test (resolved e s) (resolved_quals qs s)

  pub resolved_branches : Branches → Scope → Branches
  resolved_branches no_branches s = no_branches
  resolved_branches (otherwise e) s = otherwise (resolved e s)
  resolved_branches (branch l p e bs) s = branch l (resolved_pat p s) (resolved e (within p s)) (resolved_branches bs s)

  pub resolved_steps : Steps → Scope → Steps
  resolved_steps no_steps s = no_steps
  resolved_steps (step op e ss) s = step op (resolved e s) (resolved_steps ss s)

abbrev pub resolved_decls : Decls → Scope → Decls
resolved_decls no_decls s = no_decls
resolved_decls (constant w e ds) s = constant w (resolved e s) (resolved_decls ds (defined s w.text false))
resolved_decls (function w p e ds) s = function w (resolved_pat p s) (resolved e (within p s)) (resolved_decls ds (defined s w.text true))
