-- What a walk through a program finds: each breach of the rules of scope, and each source that is named.
use Rattle.std.specs.Prelude.{ℕ, suc, zero, ◌==◌, Bool, true, false, List, [], ◌∷◌, ◌++◌, map, Option, Some, None, if◌then◌else◌, bytes_eq}
use Rattle.std.specs.List.{list_any}
use Rattle.kl_syntax.specs.declared.tree.Meaning.{Meaning}
use Rattle.kl_syntax.specs.declared.tree.Meaning.TheVariants.{Source}
use Rattle.kl_syntax.specs.declared.tree.Word.{Word}
use Rattle.kl_syntax.specs.Syntax.{Pat, catch, any, same, is, shape, variant, Pats, no_pats, pats, Exp, Const, name, Call, Rec}
use Rattle.kl_syntax.specs.Syntax.{More, Inj, Coll, Comp, If, Let, Case, Path, Not, Neg, Chain, Exps, no_exps, exps, Flds, no_flds}
use Rattle.kl_syntax.specs.Syntax.{flds, Quals, no_quals, draw, test, Branches, no_branches, otherwise, branch, Steps, no_steps}
use Rattle.kl_syntax.specs.Syntax.{step, Decls, no_decls, constant, function}
use Rattle.kl_scope.specs.declared.refusal.ScopeError.{ScopeError}
use Rattle.kl_scope.specs.declared.refusal.ScopeError.TheVariants.{Unknown, Twice, Misapplied, Refutable}
use Rattle.kl_scope.specs.declared.names.Sense.{Sense}
use Rattle.kl_scope.specs.Senses.{Name, Scope, named, called, is_taken, defined}
use Rattle.kl_scope.specs.Patterns.{variables, tests, pattern_labels, within}

pub data Finding : Type 0 where
  breach : ScopeError → Finding
  -- the source of this number is named
  mention : ℕ → Finding

abbrev pub only_if : Bool → Finding → List Finding
only_if true f = f ∷ []
only_if false f = []

-- ---- names

abbrev pub mention_in : Meaning → List Finding
mention_in (Source i) = mention i ∷ []
mention_in _ = []

abbrev pub not_as_taken : ℕ → ℕ → Bool
not_as_taken takes given = if takes == given then false else true

-- the name has this sense, and so many arguments
abbrev pub used : Option Sense → Word → ℕ → List Finding
used None w given = breach (Unknown w.text w.token) ∷ []
used (Some sense) w given = mention_in sense.means ++ only_if (not_as_taken sense.takes given) (breach (Misapplied w.text w.token))

-- ---- words that may not stand twice

abbrev pub is_among : Name → List Name → Bool
is_among x ys = list_any (λ y. bytes_eq y x) ys

-- each that stands among those before it, or among these
abbrev pub repeated : List Name → List Word → List Finding
repeated before [] = []
repeated before (w ∷ ws) = only_if (is_among w.text before) (breach (Twice w.text w.token)) ++ repeated (w.text ∷ before) ws

-- ---- patterns

abbrev mutual
  -- names stand for what they do outside the pattern
  pub pattern_findings : Pat → Scope → List Finding
  pattern_findings (catch w) s = []
  pattern_findings any s = []
  pattern_findings (same w) s = used (named s w.text) w 0
  pattern_findings (is v n) s = []
  pattern_findings (shape ps end) s = repeated [] (pattern_labels ps) ++ patterns_findings ps s
  pattern_findings (variant l p) s = pattern_findings p s

  pub patterns_findings : Pats → Scope → List Finding
  patterns_findings no_pats s = []
  patterns_findings (pats l p ps) s = pattern_findings p s ++ patterns_findings ps s

-- a generator's pattern: no variable twice
abbrev pub drawn_findings : Pat → Scope → List Finding
drawn_findings p s = pattern_findings p s ++ repeated [] (variables p)

abbrev pub may_fail : ℕ → Finding
may_fail n = breach (Refutable n)

-- where the pattern has to match
abbrev pub sure_findings : Pat → Scope → List Finding
sure_findings p s = map may_fail (tests p) ++ drawn_findings p s

-- ---- expressions

abbrev pub count : Exps → ℕ
count no_exps = zero
count (exps e es) = suc (count es)

abbrev pub field_labels : Flds → List Word
field_labels no_flds = []
field_labels (flds l e fs) = l ∷ field_labels fs

abbrev pub branch_labels : Branches → List Word
branch_labels no_branches = []
branch_labels (otherwise e) = []
branch_labels (branch l p e bs) = l ∷ branch_labels bs

-- the scope behind qualifiers
abbrev pub behind : Quals → Scope → Scope
behind no_quals s = s
behind (draw p e qs) s = behind qs (within p s)
behind (test e qs) s = behind qs s

abbrev mutual
  pub findings : Exp → Scope → List Finding
  findings (Const v) s = []
  findings (name w) s = used (named s w.text) w 0
  findings (Call f es) s = used (called s f.text) f (count es) ++ findings_all es s
  findings (Rec fs) s = repeated [] (field_labels fs) ++ findings_fields fs s
  findings (More fs e) s = repeated [] (field_labels fs) ++ (findings_fields fs s ++ findings e s)
  findings (Inj l e) s = findings e s
  findings (Coll k es) s = findings_all es s
  findings (Comp k e qs) s = findings_quals qs s ++ findings e (behind qs s)
  findings (If a b c) s = findings a s ++ (findings b s ++ findings c s)
  findings (Let p a b) s = findings a s ++ (sure_findings p s ++ findings b (within p s))
  findings (Case e bs) s = findings e s ++ (repeated [] (branch_labels bs) ++ findings_branches bs s)
  findings (Path e ls) s = findings e s
  findings (Not e) s = findings e s
  findings (Neg e) s = findings e s
  findings (Chain e ss) s = findings e s ++ findings_steps ss s

  pub findings_all : Exps → Scope → List Finding
  findings_all no_exps s = []
  findings_all (exps e es) s = findings e s ++ findings_all es s

  pub findings_fields : Flds → Scope → List Finding
  findings_fields no_flds s = []
  findings_fields (flds l e fs) s = findings e s ++ findings_fields fs s

  -- each qualifier in the scope behind those before it
  pub findings_quals : Quals → Scope → List Finding
  findings_quals no_quals s = []
  findings_quals (draw p e qs) s = findings e s ++ (drawn_findings p s ++ findings_quals qs (within p s))
  findings_quals (test e qs) s = findings e s ++ findings_quals qs s

  pub findings_branches : Branches → Scope → List Finding
  findings_branches no_branches s = []
  findings_branches (otherwise e) s = findings e s
  findings_branches (branch l p e bs) s = sure_findings p s ++ (findings e (within p s) ++ findings_branches bs s)

  pub findings_steps : Steps → Scope → List Finding
  findings_steps no_steps s = []
  findings_steps (step op e ss) s = findings e s ++ findings_steps ss s

-- ---- programs

-- a definition is named like an earlier one, a source or a primitive
abbrev pub taken : Scope → Word → List Finding
taken s w = only_if (is_taken s w.text) (breach (Twice w.text w.token))

-- each definition in the scope behind those before it
abbrev pub decls_findings : Decls → Scope → List Finding
decls_findings no_decls s = []
decls_findings (constant w e ds) s = taken s w ++ (findings e s ++ decls_findings ds (defined s w.text false))
decls_findings (function w p e ds) s = taken s w ++
    (sure_findings p s ++ (findings e (within p s) ++ decls_findings ds (defined s w.text true)))

-- the scope behind definitions
abbrev pub behind_decls : Decls → Scope → Scope
behind_decls no_decls s = s
behind_decls (constant w e ds) s = behind_decls ds (defined s w.text false)
behind_decls (function w p e ds) s = behind_decls ds (defined s w.text true)
