-- What the walk does to a part of a program and to its own state.
-- No public contract cites this.
use Rattle.std.specs.Prelude.{◌≡◌, ℕ, ◌-◌, false, List, [], ◌∷◌, ◌++◌, map, length, drop, replicate, Option, None, Result, Ok, Err}
use Rattle.std.specs.Option.{option_map}
use Rattle.kl_base.specs.declared.memory.NoMemory.{NoMemory}
use Rattle.kl_syntax.specs.declared.tree.Branch.{Branch, out-Branch}
use Rattle.kl_syntax.specs.declared.tree.Decl.{Decl}
use Rattle.kl_syntax.specs.declared.tree.Expr.{Expr}
use Rattle.kl_syntax.specs.declared.tree.Op.{Op}
use Rattle.kl_syntax.specs.declared.tree.Pattern.{Pattern}
use Rattle.kl_syntax.specs.declared.tree.Program.{Program}
use Rattle.kl_syntax.specs.declared.tree.Qual.{Qual}
use Rattle.kl_syntax.specs.declared.tree.Word.{Word}
use Rattle.kl_syntax.specs.Syntax.{Pat, Pats, pats, Exp, Exps, exps, Flds, flds, Quals, Branches, Steps, step, Decls}
use Rattle.kl_syntax.specs.View.{pattern_view, view, qual_view, branch_view, rest_of, decl_of, decls_of}
use Rattle.kl_scope.specs.declared.walk.Walk.{Walk}
use Rattle.kl_scope.specs.Senses.{Name, Scope, at_first}
use Rattle.kl_scope.specs.Patterns.{within, pattern_labels}
use Rattle.kl_scope.specs.Findings.{Finding, repeated, pattern_findings, patterns_findings, drawn_findings, sure_findings, behind}
use Rattle.kl_scope.specs.Findings.{findings, findings_all, findings_fields, findings_quals, findings_branches, findings_steps}
use Rattle.kl_scope.specs.Findings.{decls_findings, behind_decls}
use Rattle.kl_scope.specs.Gathering.{gathered}
use Rattle.kl_scope.specs.Resolved.{resolved_pat, resolved_pats, resolved, resolved_all, resolved_fields, resolved_quals}
use Rattle.kl_scope.specs.Resolved.{resolved_branches, resolved_steps, resolved_decls}

-- from t to u: what is resolved, what is found, and the scope behind it
pub record Walked {T : Type 0} (res : T → Scope → T) (found_in : T → Scope → List Finding) (scope_behind : T → Scope → Scope)
    (t u : T) (w v : Walk) : Type 0 where
  pub tree : u ≡ res t w.names
  pub found : v.findings ≡ gathered w.findings (found_in t w.names)
  pub scope : v.names ≡ scope_behind t w.names

-- the same of a front of a list, whatever follows
pub record Fronted {T : Type 0} (res : T → Scope → T) (found_in : T → Scope → List Finding) (scope_behind : T → Scope → Scope)
    (f g : T → T) (w v : Walk) : Type 0 where
  pub tree : (rest : T) → g (res rest v.names) ≡ res (f rest) w.names
  pub found : (rest : T) → gathered w.findings (found_in (f rest) w.names) ≡ gathered v.findings (found_in rest v.names)
  pub scope : (rest : T) → scope_behind (f rest) w.names ≡ scope_behind rest v.names

abbrev pub onto : {A T : Type 0} → (A → T → T) → List A → T → T
onto front [] rest = rest
onto front (x ∷ xs) rest = front x (onto front xs rest)

abbrev pub same_scope : {T : Type 0} → T → Scope → Scope
same_scope t s = s

abbrev pub PatternWalk : Pat → Pat → Walk → Walk → Type 0
PatternWalk = Walked resolved_pat pattern_findings same_scope

abbrev pub DrawnWalk : Pat → Pat → Walk → Walk → Type 0
DrawnWalk = Walked resolved_pat drawn_findings within

abbrev pub SureWalk : Pat → Pat → Walk → Walk → Type 0
SureWalk = Walked resolved_pat sure_findings within

abbrev pub ExprWalk : Exp → Exp → Walk → Walk → Type 0
ExprWalk = Walked resolved findings same_scope

-- the same up to a scope that keeps so many variables
pub record HeadWalk (e f : Exp) (depth : ℕ) (w v : Walk) : Type 0 where
  pub tree : f ≡ resolved e w.names
  pub found : v.findings ≡ gathered w.findings (findings e w.names)
  pub scope : v.names ≡ record w.names { variables = drop (length w.names.variables - depth) w.names.variables }

-- a pattern and what it binds variables for
pub record Bound (p : Pat) (e : Exp) (q : Pat) (f : Exp) (w v : Walk) : Type 0 where
  pub pattern : q ≡ resolved_pat p w.names
  pub body : f ≡ resolved e (within p w.names)
  pub found : v.findings ≡ gathered w.findings (sure_findings p w.names ++ findings e (within p w.names))
  pub scope : v.names ≡ w.names

-- behind a part that was walked through
abbrev pub AfterOk : Result (Unit {0}) NoMemory → Type 0 → Type 0
AfterOk (Ok x) P = P
AfterOk (Err e) P = ⊥

abbrev pub RestWalk : Option Expr → Option Expr → Walk → Walk → Type 0
RestWalk t u = Walked resolved_branches findings_branches same_scope (rest_of (option_map view t)) (rest_of (option_map view u))

-- the fields of a record pattern
abbrev pub record_findings : Pats → Scope → List Finding
record_findings ps s = repeated [] (pattern_labels ps) ++ patterns_findings ps s

abbrev pub PatternsWalk : Pats → Pats → Walk → Walk → Type 0
PatternsWalk = Walked resolved_pats record_findings same_scope

abbrev pub ItemsWalk : Exps → Exps → Walk → Walk → Type 0
ItemsWalk = Walked resolved_all findings_all same_scope

abbrev pub QualsWalk : Quals → Quals → Walk → Walk → Type 0
QualsWalk = Walked resolved_quals findings_quals behind

abbrev pub StepsWalk : Steps → Steps → Walk → Walk → Type 0
StepsWalk = Walked resolved_steps findings_steps same_scope

-- the elements of lists, each in front of a list
abbrev pub pattern_front : Word × Pattern → Pats → Pats
pattern_front f = pats f.0 (pattern_view f.1)

abbrev pub expr_front : Expr → Exps → Exps
expr_front e = exps (view e)

abbrev pub field_front : Word × Expr → Flds → Flds
field_front f = flds f.0 (view f.1)

abbrev pub step_front : Op × Expr → Steps → Steps
step_front s = step s.0 (view s.1)

abbrev pub decl_front : Decl → Decls → Decls
decl_front d = decl_of d.param d

abbrev pub PatternsFront : List (Word × Pattern) → List (Word × Pattern) → Walk → Walk → Type 0
PatternsFront t u = Fronted resolved_pats patterns_findings same_scope (onto pattern_front t) (onto pattern_front u)

abbrev pub ExprsFront : List Expr → List Expr → Walk → Walk → Type 0
ExprsFront t u = Fronted resolved_all findings_all same_scope (onto expr_front t) (onto expr_front u)

abbrev pub FieldsFront : List (Word × Expr) → List (Word × Expr) → Walk → Walk → Type 0
FieldsFront t u = Fronted resolved_fields findings_fields same_scope (onto field_front t) (onto field_front u)

abbrev pub QualFront : (Quals → Quals) → (Quals → Quals) → Walk → Walk → Type 0
QualFront = Fronted resolved_quals findings_quals behind

abbrev pub QualsFront : List Qual → List Qual → Walk → Walk → Type 0
QualsFront t u = QualFront (onto qual_view t) (onto qual_view u)

abbrev pub BranchFront : (Branches → Branches) → (Branches → Branches) → Walk → Walk → Type 0
BranchFront = Fronted resolved_branches findings_branches same_scope

abbrev pub BranchesFront : List Branch → List Branch → Walk → Walk → Type 0
BranchesFront t u = BranchFront (onto branch_view t) (onto branch_view u)

-- the labels of the branches, and then the branches, whatever stands behind `otherwise`
pub record BranchesWalk (t u : List Branch) (w v : Walk) : Type 0 where
  pub tree : (rest : Branches) → onto branch_view u (resolved_branches rest v.names) ≡ resolved_branches (onto branch_view t rest) w.names
  pub found : (rest : Branches) → gathered w.findings
      (repeated [] (map (λ b. (out-Branch b).label) t) ++ findings_branches (onto branch_view t rest) w.names)
      ≡ gathered v.findings (findings_branches rest v.names)
  pub scope : v.names ≡ w.names

abbrev pub StepsFront : List (Op × Expr) → List (Op × Expr) → Walk → Walk → Type 0
StepsFront t u = Fronted resolved_steps findings_steps same_scope (onto step_front t) (onto step_front u)

abbrev pub DeclWalk : Decl → Decl → Walk → Walk → Type 0
DeclWalk t u = Fronted resolved_decls decls_findings behind_decls (decl_front t) (decl_front u)

abbrev pub DeclsWalk : List Decl → List Decl → Walk → Walk → Type 0
DeclsWalk t u = Fronted resolved_decls decls_findings behind_decls (onto decl_front t) (onto decl_front u)

-- a whole program
pub record ProgramWalk (p q : Program) (w v : Walk) : Type 0 where
  pub defs : decls_of q.defs ≡ resolved_decls (decls_of p.defs) w.names
  pub last : view q.last ≡ resolved (view p.last) (behind_decls (decls_of p.defs) w.names)
  pub found : v.findings ≡ gathered w.findings (decls_findings (decls_of p.defs) w.names
      ++ findings (view p.last) (behind_decls (decls_of p.defs) w.names))
  pub scope : v.names ≡ behind_decls (decls_of p.defs) w.names

-- the walk through a whole program from its beginning
pub record Whole (p q : Program) (sources : List Name) (v : Walk) : Type 0 where
  pub start : Walk
  pub names : start.names ≡ at_first sources
  pub findings : start.findings ≡ record { first = None; marks = replicate (length sources) false }
  pub walk : ProgramWalk p q start v
