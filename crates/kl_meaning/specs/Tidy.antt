-- What the rules of scope say of a program's form: a pattern that has to match always does, and no record or pattern has a
-- label twice.
use Rattle.std.specs.Prelude.{◌≡◌, false, ⊤}
use Rattle.kl_syntax.specs.Syntax.{Pat, catch, any, same, is, shape, variant, Pats, no_pats, pats, Exp, Const, name, Call, Rec}
use Rattle.kl_syntax.specs.Syntax.{More, Inj, Coll, Comp, If, Let, Case, Path, Not, Neg, Chain, Exps, no_exps, exps, Flds, no_flds}
use Rattle.kl_syntax.specs.Syntax.{flds, Quals, no_quals, draw, test, Branches, no_branches, otherwise, branch, Steps, no_steps}
use Rattle.kl_syntax.specs.Syntax.{step, Decls, no_decls, constant, function}
use Rattle.kl_meaning.specs.Match.{has_label}
use Rattle.kl_meaning.specs.Typing.{has_field}

-- without a test in it, a pattern matches each value of a type that it takes
abbrev mutual
  pub IsSurePattern : Pat → Type 0
  IsSurePattern (catch x) = ⊤
  IsSurePattern any = ⊤
  IsSurePattern (same x) = ⊥
  IsSurePattern (is w n) = ⊥
  IsSurePattern (shape ps end) = AreSurePatterns ps
  IsSurePattern (variant l p) = ⊥

  pub AreSurePatterns : Pats → Type 0
  AreSurePatterns no_pats = ⊤
  AreSurePatterns (pats l p ps) = IsSurePattern p × AreSurePatterns ps

-- no record pattern in it has a label twice
abbrev mutual
  pub IsTidyPattern : Pat → Type 0
  IsTidyPattern (shape ps end) = AreTidyPatterns ps
  IsTidyPattern (variant l p) = IsTidyPattern p
  IsTidyPattern _ = ⊤

  pub AreTidyPatterns : Pats → Type 0
  AreTidyPatterns no_pats = ⊤
  AreTidyPatterns (pats l p ps) = (has_label ps l.text ≡ false) × IsTidyPattern p × AreTidyPatterns ps

-- a generator's pattern may test, those of `let`, of a branch and of a parameter may not
abbrev mutual
  pub IsTidy : Exp → Type 0
  IsTidy (Const v) = ⊤
  IsTidy (name x) = ⊤
  IsTidy (Call f es) = AreTidy es
  IsTidy (Rec fs) = AreTidyFields fs
  IsTidy (More fs a) = AreTidyFields fs × IsTidy a
  IsTidy (Inj l a) = IsTidy a
  IsTidy (Coll k es) = AreTidy es
  IsTidy (Comp k e qs) = AreTidyQuals qs × IsTidy e
  IsTidy (If a b c) = IsTidy a × IsTidy b × IsTidy c
  IsTidy (Let p a b) = IsSurePattern p × IsTidy a × IsTidy b × IsTidyPattern p
  IsTidy (Case a bs) = IsTidy a × AreTidyBranches bs
  IsTidy (Path a ls) = IsTidy a
  IsTidy (Not a) = IsTidy a
  IsTidy (Neg a) = IsTidy a
  IsTidy (Chain a ss) = IsTidy a × AreTidySteps ss

  pub AreTidy : Exps → Type 0
  AreTidy no_exps = ⊤
  AreTidy (exps e es) = IsTidy e × AreTidy es

  pub AreTidyFields : Flds → Type 0
  AreTidyFields no_flds = ⊤
  AreTidyFields (flds l e fs) = (has_field fs l.text ≡ false) × IsTidy e × AreTidyFields fs

  pub AreTidyQuals : Quals → Type 0
  AreTidyQuals no_quals = ⊤
  AreTidyQuals (draw p s qs) = IsTidy s × AreTidyQuals qs × IsTidyPattern p
  AreTidyQuals (test c qs) = IsTidy c × AreTidyQuals qs

  pub AreTidyBranches : Branches → Type 0
  AreTidyBranches no_branches = ⊤
  AreTidyBranches (otherwise c) = IsTidy c
  AreTidyBranches (branch l p b bs) = IsSurePattern p × IsTidy b × AreTidyBranches bs × IsTidyPattern p

  pub AreTidySteps : Steps → Type 0
  AreTidySteps no_steps = ⊤
  AreTidySteps (step c e ss) = IsTidy e × AreTidySteps ss

abbrev pub IsTidyProgram : Decls → Exp → Type 0
IsTidyProgram no_decls e = IsTidy e
IsTidyProgram (constant d a ds) e = IsTidy a × IsTidyProgram ds e
IsTidyProgram (function d p a ds) e = IsSurePattern p × IsTidy a × IsTidyProgram ds e × IsTidyPattern p
