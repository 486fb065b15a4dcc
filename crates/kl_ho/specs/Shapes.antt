-- Shapes of functions, and programs in which each function stands where its shape lets it.
use Rattle.std.specs.Prelude.{◌≡◌, Bool, true, false, ◌||◌, List, [], ◌∷◌, cond, Option, Some, None, is_some, IsTrue, ⊤}
use Rattle.kl_base.specs.Fields.{field}
use Rattle.kl_outcome.specs.Outcome.{Name}
use Rattle.kl_syntax.specs.declared.tree.Tail.TheVariants as tail
use Rattle.kl_syntax.specs.declared.tree.Tail.{Tail}
use Rattle.kl_syntax.specs.Syntax.{Pat, catch, any, same, is, shape, variant, Pats, no_pats, pats, Exp, Const, name, Call, Rec}
use Rattle.kl_syntax.specs.Syntax.{More, Inj, Coll, Comp, If, Let, Case, Path, Not, Neg, Chain, Exps, no_exps, exps, Flds}
use Rattle.kl_syntax.specs.Syntax.{no_flds, flds, Quals, no_quals, draw, test, Branches, no_branches, otherwise, branch, Steps}
use Rattle.kl_syntax.specs.Syntax.{no_steps, step, Decls, no_decls, constant, function}
use Rattle.kl_meaning.specs.Match.{same_name}
use Rattle.kl_ho.specs.Highers.{Higher, Highers, bare_at}
use Rattle.kl_ho.specs.Expansion.{New}
use Rattle.std.specs.List.{AllByRecursion}
use Rattle.kl_ho.specs.HoPrograms.{is_among, FunctionFields, higher_from}

-- the function fields of a function, each with its label, its shape, and those after it; a tree of labels alone
pub data Shape : Type 0 where
  plain : Shape
  with : Name → Shape → Shape → Shape

abbrev pub shape_at : Name → Shape → Option Shape
shape_at l plain = None
shape_at l (with m s rest) = cond (same_name l m) (Some s) (shape_at l rest)

-- what stands before and around a declaration: the shape of each function of one argument, and every name that is taken
pub record World : Type 0 where
  pub functions : Name → Option Shape
  pub taken : Name → Bool

abbrev pub rest_after : Tail → List Name → List Name
rest_after (tail.Rest x) V = x.text ∷ V
rest_after _ V = V

-- the variables behind a pattern, the last bound first
abbrev mutual
  pub names_after : Pat → List Name → List Name
  names_after (catch x) V = x.text ∷ V
  names_after any V = V
  names_after (same x) V = V
  names_after (is v n) V = V
  names_after (shape ps end) V = rest_after end (names_after_all ps V)
  names_after (variant l p) V = names_after p V

  pub names_after_all : Pats → List Name → List Name
  names_after_all no_pats V = V
  names_after_all (pats l p ps) V = names_after_all ps (names_after p V)

abbrev pub behind_shaped : Quals → List Name → List Name
behind_shaped no_quals V = V
behind_shaped (draw p e qs) V = behind_shaped qs (names_after p V)
behind_shaped (test e qs) V = behind_shaped qs V

abbrev pub or_function : Option Shape → Option Shape → Option Shape
or_function (Some s) t = Some s
or_function None t = t

abbrev pub ByShape : Option Shape → Type 0 → (Shape → Type 0) → Type 0
ByShape (Some (with l s rest)) P Q = Q (with l s rest)
ByShape (Some plain) P Q = P
ByShape None P Q = P

abbrev pub Unless : Option Shape → Type 0 → Type 0
Unless (Some s) P = ⊤
Unless None P = P

module _ (world : World) (params : List (Name × Shape)) where
  -- the shape of a function: of a function parameter, or of a function that is no variable
  abbrev pub shape_of : List Name → Name → Option Shape
  shape_of V f = cond (is_among f V) None (or_function (field f params) (world.functions f))

  -- a name that stands for a value
  abbrev pub IsValueName : List Name → Name → Type 0
  IsValueName V x = (shape_of V x ≡ None) × IsTrue (is_among x V || world.taken x)

  -- a head is a function parameter, or a name that is no variable
  abbrev pub IsHead : List Name → Name → Type 0
  IsHead V f = (is_among f V ≡ false) × IsTrue (is_some (field f params) || world.taken f)

  -- a bare name of this shape
  abbrev pub IsOfShape : Option Name → Shape → List Name → Type 0
  IsOfShape (Some x) s V = (is_among x V ≡ false) × (shape_of V x ≡ Some s)
  IsOfShape None s V = ⊥

  -- each function field of the shape holds a bare name of its own shape
  abbrev pub HoldsAll : Shape → Flds → List Name → Type 0
  HoldsAll plain fs V = ⊤
  HoldsAll (with l s rest) fs V = IsOfShape (bare_at l fs) s V × HoldsAll rest fs V

  abbrev mutual
    pub IsShapedPat : Pat → List Name → Type 0
    IsShapedPat (catch x) V = ⊤
    IsShapedPat any V = ⊤
    IsShapedPat (same x) V = IsValueName V x.text
    IsShapedPat (is v n) V = ⊤
    IsShapedPat (shape ps end) V = AreShapedPats ps V
    IsShapedPat (variant l p) V = IsShapedPat p V

    pub AreShapedPats : Pats → List Name → Type 0
    AreShapedPats no_pats V = ⊤
    AreShapedPats (pats l p ps) V = IsShapedPat p V × AreShapedPats ps V

  -- V are the variables that stand for values
  abbrev mutual
    pub IsShaped : Exp → List Name → Type 0
    IsShaped (Const v) V = ⊤
    IsShaped (name x) V = IsValueName V x.text
    -- a call of a function with function fields has a literal as its one argument
    IsShaped (Call f es) V =
        IsHead V f.text × ByShape (shape_of V f.text) (AreShaped es V) (λ s. IsShapedArgument s es V)
    IsShaped (Rec fs) V = AreShapedFields plain fs V
    IsShaped (More fs a) V = AreShapedFields plain fs V × IsShaped a V
    IsShaped (Inj l a) V = IsShaped a V
    IsShaped (Coll k es) V = AreShaped es V
    IsShaped (Comp k e qs) V = AreShapedQuals qs V × IsShaped e (behind_shaped qs V)
    IsShaped (If a b c) V = IsShaped a V × IsShaped b V × IsShaped c V
    IsShaped (Let p a b) V = IsShaped a V × IsShapedPat p V × IsShaped b (names_after p V)
    IsShaped (Case a bs) V = IsShaped a V × AreShapedBranches bs V
    IsShaped (Path a ls) V = IsShaped a V
    IsShaped (Not a) V = IsShaped a V
    IsShaped (Neg a) V = IsShaped a V
    IsShaped (Chain a ss) V = IsShaped a V × AreShapedSteps ss V

    pub IsShapedArgument : Shape → Exps → List Name → Type 0
    IsShapedArgument s (exps e no_exps) V = IsShapedLiteral s e V
    IsShapedArgument s _ V = ⊥

    pub IsShapedLiteral : Shape → Exp → List Name → Type 0
    IsShapedLiteral s (Rec fs) V = HoldsAll s fs V × AreShapedFields s fs V
    IsShapedLiteral s _ V = ⊥

    pub AreShaped : Exps → List Name → Type 0
    AreShaped no_exps V = ⊤
    AreShaped (exps e es) V = IsShaped e V × AreShaped es V

    -- the fields that are no function fields of the shape
    pub AreShapedFields : Shape → Flds → List Name → Type 0
    AreShapedFields s no_flds V = ⊤
    AreShapedFields s (flds l e fs) V = Unless (shape_at l.text s) (IsShaped e V) × AreShapedFields s fs V

    pub AreShapedQuals : Quals → List Name → Type 0
    AreShapedQuals no_quals V = ⊤
    AreShapedQuals (draw p e qs) V = IsShaped e V × IsShapedPat p V × AreShapedQuals qs (names_after p V)
    AreShapedQuals (test e qs) V = IsShaped e V × AreShapedQuals qs V

    pub AreShapedBranches : Branches → List Name → Type 0
    AreShapedBranches no_branches V = ⊤
    AreShapedBranches (otherwise e) V = IsShaped e V
    AreShapedBranches (branch l p e bs) V = IsShapedPat p V × IsShaped e (names_after p V) × AreShapedBranches bs V

    pub AreShapedSteps : Steps → List Name → Type 0
    AreShapedSteps no_steps V = ⊤
    AreShapedSteps (step c e ss) V = IsShaped e V × AreShapedSteps ss V

-- ---- programs

-- the function parameters of a definition: their shapes, by their variables
abbrev pub AreParams : Shape → List (Name × Name) → List (Name × Shape) → Type 0
AreParams plain ks params = (ks ≡ []) × (params ≡ [])
AreParams (with l s rest) (k ∷ ks) (p ∷ ps) = (k.0 ≡ l) × (p ≡ (k.1, s)) × AreParams rest ks ps
AreParams (with l s rest) _ _ = ⊥

abbrev pub added : World → Name → Option Shape → World
added world d o = record { functions = λ x. cond (same_name x d) o (world.functions x); taken = λ x. same_name x d || world.taken x }

-- every list of names leaves one that is new
abbrev pub Chooses : New → Type 0
Chooses is_new = (ys : List Name) → (y : Name) × (is_new y ≡ true) × AllByRecursion (λ z. same_name y z ≡ false) ys

-- the names that stand before a declaration, each definition over those before it; none of them is new
pub data IsBuilt (highers : Highers) (is_new : New) : World → Type 0 where
  b_start : {world : World} → ((x : Name) (s : Shape) → world.functions x ≡ Some s → (s ≡ plain) × (world.taken x ≡ true)) → ((x : Name) → world.taken x ≡ true → (is_new x ≡ false) × (highers x ≡ None))
      → IsBuilt highers is_new world
  b_plain : {world : World} (d : Name) (o : Option Shape) → IsBuilt highers is_new world → is_new d ≡ false → highers d ≡ None → ((s : Shape) → o ≡ Some s → s ≡ plain) → IsBuilt highers is_new (added world d o)
  b_higher : {world : World} (d l : Name) (s rest : Shape) (h : Higher) (params : List (Name × Shape)) → IsBuilt highers is_new world → is_new d ≡ false → highers d ≡ Some h
      → AreParams (with l s rest) h.handed params → IsShapedPat world [] (shape h.rest tail.Exact) []
      → IsShaped world params h.body (names_after (shape h.rest tail.Exact) []) → IsBuilt highers is_new (added world d (Some (with l s rest)))

-- a definition has the shape: one without function fields the plain one
abbrev pub IsShapedFunction : World → Option Higher → Pat → Exp → Shape → Type 0
IsShapedFunction world None p e o = (o ≡ plain) × IsShapedPat world [] p [] × IsShaped world [] e (names_after p [])
IsShapedFunction world (Some h) p e o =
    (l : Name) × (s : Shape) × (rest : Shape) × (params : List (Name × Shape)) × (o ≡ with l s rest) × AreParams o h.handed params
    × IsShapedPat world [] (shape h.rest tail.Exact) [] × IsShaped world params h.body (names_after (shape h.rest tail.Exact) [])

-- each declaration keeps to the shapes over those before it
abbrev pub IsShapedDecls : FunctionFields → Decls → Exp → World → Type 0
IsShapedDecls fields no_decls e world = IsShaped world [] e []
IsShapedDecls fields (constant d a ds) e world = (world.taken d.text ≡ false) × IsShaped world [] a [] × IsShapedDecls fields ds e (added world d.text None)
IsShapedDecls fields (function d p a ds) e world =
    (world.taken d.text ≡ false) × (o : Shape) × IsShapedFunction world (higher_from (fields d.text) p a) p a o × IsShapedDecls fields ds e (added world d.text (Some o))

-- before a program there are functions without function fields alone
pub record IsFirstWorld (is_new : New) (world : World) : Type 0 where
  pub plain_only : (x : Name) (s : Shape) → world.functions x ≡ Some s → (s ≡ plain) × (world.taken x ≡ true)
  pub within : (x : Name) → world.taken x ≡ true → is_new x ≡ false

-- no name that is defined is new
abbrev pub DefinesOld : New → Decls → Type 0
DefinesOld is_new no_decls = ⊤
DefinesOld is_new (constant d a ds) = (is_new d.text ≡ false) × DefinesOld is_new ds
DefinesOld is_new (function d p a ds) = (is_new d.text ≡ false) × DefinesOld is_new ds
