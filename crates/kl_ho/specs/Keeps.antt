-- Expressions that keep to the rules of scope and to the shapes of functions.
use Rattle.std.specs.Prelude.{◌≡◌, ℕ, Bool, true, false, List, [], ◌++◌, cond, Option, Some, None, is_some, ⊤}
use Rattle.std.specs.List.{AllByRecursion, Contains}
use Rattle.kl_base.specs.Fields.{field}
use Rattle.kl_outcome.specs.Outcome.{Name}
use Rattle.kl_syntax.specs.declared.tree.Tail.TheVariants as tail
use Rattle.kl_syntax.specs.Syntax.{Pat, catch, any, same, is, shape, variant, Pats, no_pats, pats, Exp, Const, name, Call, Rec}
use Rattle.kl_syntax.specs.Syntax.{More, Inj, Coll, Comp, If, Let, Case, Path, Not, Neg, Chain, Exps, no_exps, exps, Flds}
use Rattle.kl_syntax.specs.Syntax.{no_flds, flds, Quals, no_quals, draw, test, Branches, no_branches, otherwise, branch, Steps}
use Rattle.kl_syntax.specs.Syntax.{no_steps, step, Decls, no_decls, constant, function}
use Rattle.kl_scope.specs.Patterns.{variables, tests, pattern_labels}
use Rattle.kl_scope.specs.Findings.{Finding, breach, mention, repeated, count, field_labels, branch_labels, findings}
use Rattle.kl_scope.specs.Findings.{decls_findings, behind_decls}
use Rattle.kl_scope.specs.Senses.{at_first, named, called, entry_named}
use Rattle.kl_scope.specs.declared.names.Sense.{Sense}
use Rattle.kl_scope.specs.declared.refusal.ScopeError.{ScopeError}
use Rattle.kl_meaning.specs.Match.{same_name}
use Rattle.kl_ho.specs.Highers.{Higher}
use Rattle.kl_ho.specs.Expansion.{New}
use Rattle.kl_ho.specs.HoPrograms.{is_among, FunctionFields, higher_from}
use Rattle.kl_ho.specs.Shapes.{Shape, plain, with, AreParams, added, shape_at, World, names_after, behind_shaped, or_function}
use Rattle.kl_ho.specs.Shapes.{ByShape, Unless, HoldsAll}

abbrev pub IsFine : Finding → Type 0
IsFine (breach e) = ⊥
IsFine (mention i) = ⊤

-- without a breach
abbrev pub Clean : List Finding → Type 0
Clean fs = AllByRecursion IsFine fs

abbrev pub Else : Bool → Type 0 → Type 0
Else true P = ⊤
Else false P = P

abbrev pub ByParam : Option Shape → Type 0 → Type 0 → Type 0
ByParam (Some s) P Q = P
ByParam None P Q = Q

-- `arity` has how many arguments each name takes that is no variable
module _ (world : World) (arity : Name → Option ℕ) (params : List (Name × Shape)) where
  abbrev pub KeepsName : List Name → Name → Type 0
  KeepsName V x = Else (is_among x V) ((field x params ≡ None) × (arity x ≡ Some 0))

  abbrev pub KeepsHead : List Name → Name → ℕ → Type 0
  KeepsHead V f n = (is_among f V ≡ false) × ByParam (field f params) (n ≡ 1) (arity f ≡ Some n)

  abbrev mutual
    pub KeepsNames : Pat → List Name → Type 0
    KeepsNames (catch x) V = ⊤
    KeepsNames any V = ⊤
    KeepsNames (same x) V = KeepsName V x.text
    KeepsNames (is v n) V = ⊤
    KeepsNames (shape ps end) V = Clean (repeated [] (pattern_labels ps)) × KeepsNamesAll ps V
    KeepsNames (variant l p) V = KeepsNames p V

    pub KeepsNamesAll : Pats → List Name → Type 0
    KeepsNamesAll no_pats V = ⊤
    KeepsNamesAll (pats l p ps) V = KeepsNames p V × KeepsNamesAll ps V

  -- of a generator, and where it must match
  abbrev pub KeepsDrawn : Pat → List Name → Type 0
  KeepsDrawn p V = KeepsNames p V × Clean (repeated [] (variables p))

  abbrev pub KeepsSure : Pat → List Name → Type 0
  KeepsSure p V = (tests p ≡ []) × KeepsDrawn p V

  abbrev mutual
    pub Keeps : Exp → List Name → Type 0
    Keeps (Const v) V = ⊤
    Keeps (name x) V = KeepsName V x.text
    Keeps (Call f es) V = KeepsHead V f.text (count es) × ByShape (or_function (field f.text params) (world.functions f.text)) (KeepsAll es V) (λ s. KeepsArgument s es V)
    Keeps (Rec fs) V = Clean (repeated [] (field_labels fs)) × KeepsFields plain fs V
    Keeps (More fs a) V = Clean (repeated [] (field_labels fs)) × KeepsFields plain fs V × Keeps a V
    Keeps (Inj l a) V = Keeps a V
    Keeps (Coll k es) V = KeepsAll es V
    Keeps (Comp k e qs) V = KeepsQuals qs V × Keeps e (behind_shaped qs V)
    Keeps (If a b c) V = Keeps a V × Keeps b V × Keeps c V
    Keeps (Let p a b) V = Keeps a V × KeepsSure p V × Keeps b (names_after p V)
    Keeps (Case a bs) V = Keeps a V × Clean (repeated [] (branch_labels bs)) × KeepsBranches bs V
    Keeps (Path a ls) V = Keeps a V
    Keeps (Not a) V = Keeps a V
    Keeps (Neg a) V = Keeps a V
    Keeps (Chain a ss) V = Keeps a V × KeepsSteps ss V

    pub KeepsArgument : Shape → Exps → List Name → Type 0
    KeepsArgument s (exps e no_exps) V = KeepsLiteral s e V
    KeepsArgument s _ V = ⊥

    pub KeepsLiteral : Shape → Exp → List Name → Type 0
    KeepsLiteral s (Rec fs) V = HoldsAll world params s fs V × Clean (repeated [] (field_labels fs)) × KeepsFields s fs V
    KeepsLiteral s _ V = ⊥

    pub KeepsAll : Exps → List Name → Type 0
    KeepsAll no_exps V = ⊤
    KeepsAll (exps e es) V = Keeps e V × KeepsAll es V

    pub KeepsFields : Shape → Flds → List Name → Type 0
    KeepsFields s no_flds V = ⊤
    KeepsFields s (flds l e fs) V = Unless (shape_at l.text s) (Keeps e V) × KeepsFields s fs V

    pub KeepsQuals : Quals → List Name → Type 0
    KeepsQuals no_quals V = ⊤
    KeepsQuals (draw p e qs) V = Keeps e V × KeepsDrawn p V × KeepsQuals qs (names_after p V)
    KeepsQuals (test e qs) V = Keeps e V × KeepsQuals qs V

    pub KeepsBranches : Branches → List Name → Type 0
    KeepsBranches no_branches V = ⊤
    KeepsBranches (otherwise e) V = Keeps e V
    KeepsBranches (branch l p e bs) V = KeepsSure p V × Keeps e (names_after p V) × KeepsBranches bs V

    pub KeepsSteps : Steps → List Name → Type 0
    KeepsSteps no_steps V = ⊤
    KeepsSteps (step c e ss) V = Keeps e V × KeepsSteps ss V

-- ---- programs

abbrev pub with_arity : Name → ℕ → (Name → Option ℕ) → Name → Option ℕ
with_arity d k arity x = cond (same_name x d) (Some k) (arity x)

-- a new definition has the name of nothing before it, and of no primitive
abbrev pub IsFree : (Name → Option ℕ) → Name → Type 0
IsFree arity d = (arity d ≡ None) × (is_some (entry_named d) ≡ false)

abbrev pub KeepsFunction : World → (Name → Option ℕ) → Option Higher → Pat → Exp → Shape → Type 0
KeepsFunction world arity None p e o = (o ≡ plain) × KeepsSure world arity [] p [] × Keeps world arity [] e (names_after p [])
KeepsFunction world arity (Some h) p e o =
    (l : Name) × (s : Shape) × (rest : Shape) × (params : List (Name × Shape)) × (o ≡ with l s rest) × AreParams (with l s rest) h.handed params
    × KeepsSure world arity [] (shape h.rest tail.Exact) [] × Keeps world arity params h.body (names_after (shape h.rest tail.Exact) [])

-- each declaration keeps to the rules over those before it
abbrev pub KeepsDecls : FunctionFields → Decls → Exp → World → (Name → Option ℕ) → Type 0
KeepsDecls fields no_decls e world arity = Keeps world arity [] e []
KeepsDecls fields (constant d a ds) e world arity =
    IsFree arity d.text × Keeps world arity [] a [] × KeepsDecls fields ds e (added world d.text None) (with_arity d.text 0 arity)
KeepsDecls fields (function d p a ds) e world arity =
    IsFree arity d.text × (o : Shape) × KeepsFunction world arity (higher_from (fields d.text) p a) p a o
    × KeepsDecls fields ds e (added world d.text (Some o)) (with_arity d.text 1 arity)

abbrev pub Takes : Option Sense → ℕ → Type 0
Takes (Some s) n = s.takes ≡ n
Takes None n = ⊥

-- before a program: sources, and primitives by their rows
pub record KnowsFirst (sources : List Name) (world : World) (arity : Name → Option ℕ) : Type 0 where
  pub values : (x : Name) → arity x ≡ Some 0 → Takes (named (at_first sources) x) 0
  pub calls : (x : Name) (k : ℕ) → arity x ≡ Some k → Takes (called (at_first sources) x) k
  pub plain_only : (x : Name) (s : Shape) → world.functions x ≡ Some s → (s ≡ plain) × (arity x ≡ Some 1)
  pub unknown : (x : Name) → arity x ≡ None → named (at_first sources) x ≡ None
  pub taken : (x : Name) → world.taken x ≡ is_some (arity x)

-- nothing in the program breaks a rule of scope, as kl_scope says it of a program's trees
abbrev pub IsAccepted : Decls → Exp → List Name → Type 0
IsAccepted cs x sources = (e : ScopeError) → Contains (decls_findings cs (at_first sources) ++ findings x (behind_decls cs (at_first sources))) (breach e) → ⊥

-- no name that stands before the program is new
abbrev pub AreOld : New → (Name → Option ℕ) → Type 0
AreOld is_new arity = (x : Name) (k : ℕ) → arity x ≡ Some k → is_new x ≡ false
