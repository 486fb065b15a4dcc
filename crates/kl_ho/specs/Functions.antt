-- Which fields of a definition's parameter are functions: the least ones that its body makes so.
use Rattle.std.specs.Prelude.{◌≡◌, ◌↔◌, ◌==◌, Bool, true, false, List, [], ◌∷◌, ◌++◌, map, cond, Option, Some, None, IsTrue, ⊤}
use Rattle.std.specs.List.{Contains}
use Rattle.kl_outcome.specs.Outcome.{Name}
use Rattle.kl_syntax.specs.declared.tree.Tail.TheVariants as tail
use Rattle.kl_syntax.specs.Syntax.{Pat, catch, shape, Pats, no_pats, pats, Exp, Const, name, Call, Rec, More, Inj, Coll, Comp, If}
use Rattle.kl_syntax.specs.Syntax.{Let, Case, Path, Not, Neg, Chain, Exps, no_exps, exps, Flds, no_flds, flds, Quals, no_quals}
use Rattle.kl_syntax.specs.Syntax.{draw, test, Branches, no_branches, otherwise, branch, Steps, no_steps, step, Decls, no_decls}
use Rattle.kl_syntax.specs.Syntax.{constant, function}
use Rattle.kl_meaning.specs.Match.{same_name}
use Rattle.kl_scope.specs.Patterns.{variables}
use Rattle.kl_scope.specs.Senses.{at_first, called}
use Rattle.kl_scope.specs.declared.names.Sense.{Sense}
use Rattle.kl_ho.specs.Highers.{literal}
use Rattle.kl_ho.specs.Expansion.{texts}
use Rattle.kl_ho.specs.HoPrograms.{FunctionFields, is_among, higher_from}

-- ---- what stands at the calls of a body

-- a field of the parameter, by its variable; a name that is no variable; or another variable
pub data Ref : Type 0 where
  parameter : Name → Ref
  global : Name → Ref
  variable : Ref

-- a call: its head, and the bare names in the fields of the literal that is its one argument
pub record Site : Type 0 where
  pub head : Ref
  pub handed : List (Name × Ref)

-- the fields of a parameter that may be functions, each with its variable: those of a record pattern without `...`
abbrev pub candidates_in : Pats → List (Name × Name)
candidates_in no_pats = []
candidates_in (pats l (catch x) ps) = (l.text, x.text) ∷ candidates_in ps
candidates_in (pats l _ ps) = candidates_in ps

abbrev pub candidates : Pat → List (Name × Name)
candidates (shape ps tail.Exact) = candidates_in ps
candidates _ = []

-- the variables that hide others, behind a pattern
abbrev pub behind_pattern : Pat → List Name → List Name
behind_pattern p hiding = texts (variables p) ++ hiding

abbrev pub behind_quals : Quals → List Name → List Name
behind_quals no_quals hiding = hiding
behind_quals (draw p e qs) hiding = behind_quals qs (behind_pattern p hiding)
behind_quals (test e qs) hiding = behind_quals qs hiding

-- what a name refers to, behind the variables of the parameter and those bound inside the body
abbrev pub ref_of : List Name → List Name → List Name → Name → Ref
ref_of of_parameter candidate hiding x = cond (is_among x hiding) variable (cond (is_among x candidate) (parameter x) (cond (is_among x of_parameter) variable (global x)))

abbrev pub bare_refs : List Name → List Name → Flds → List Name → List (Name × Ref)
bare_refs of_parameter candidate no_flds hiding = []
bare_refs of_parameter candidate (flds l (name x) fs) hiding = (l.text, ref_of of_parameter candidate hiding x.text) ∷ bare_refs of_parameter candidate fs hiding
bare_refs of_parameter candidate (flds l _ fs) hiding = bare_refs of_parameter candidate fs hiding

module _ (of_parameter : List Name) (candidate : List Name) where
  abbrev mutual
    pub sites : Exp → List Name → List Site
    sites (Const v) hiding = []
    sites (name x) hiding = []
    sites (Call f es) hiding = record { head = ref_of of_parameter candidate hiding f.text; handed = bare_refs of_parameter candidate (literal es) hiding } ∷ sites_all es hiding
    sites (Rec fs) hiding = sites_fields fs hiding
    sites (More fs a) hiding = sites_fields fs hiding ++ sites a hiding
    sites (Inj l a) hiding = sites a hiding
    sites (Coll k es) hiding = sites_all es hiding
    sites (Comp k e qs) hiding = sites_quals qs hiding ++ sites e (behind_quals qs hiding)
    sites (If a b c) hiding = sites a hiding ++ sites b hiding ++ sites c hiding
    sites (Let p a b) hiding = sites a hiding ++ sites b (behind_pattern p hiding)
    sites (Case a bs) hiding = sites a hiding ++ sites_branches bs hiding
    sites (Path a ls) hiding = sites a hiding
    sites (Not a) hiding = sites a hiding
    sites (Neg a) hiding = sites a hiding
    sites (Chain a ss) hiding = sites a hiding ++ sites_steps ss hiding

    pub sites_all : Exps → List Name → List Site
    sites_all no_exps hiding = []
    sites_all (exps e es) hiding = sites e hiding ++ sites_all es hiding

    pub sites_fields : Flds → List Name → List Site
    sites_fields no_flds hiding = []
    sites_fields (flds l e fs) hiding = sites e hiding ++ sites_fields fs hiding

    pub sites_quals : Quals → List Name → List Site
    sites_quals no_quals hiding = []
    sites_quals (draw p e qs) hiding = sites e hiding ++ sites_quals qs (behind_pattern p hiding)
    sites_quals (test e qs) hiding = sites e hiding ++ sites_quals qs hiding

    pub sites_branches : Branches → List Name → List Site
    sites_branches no_branches hiding = []
    sites_branches (otherwise e) hiding = sites e hiding
    sites_branches (branch l p e bs) hiding = sites e (behind_pattern p hiding) ++ sites_branches bs hiding

    pub sites_steps : Steps → List Name → List Site
    sites_steps no_steps hiding = []
    sites_steps (step c e ss) hiding = sites e hiding ++ sites_steps ss hiding

-- the calls in the body of a definition
abbrev pub body_sites : Pat → Exp → List Site
body_sites p e = sites (texts (variables p)) (map (λ c. c.1) (candidates p)) e []

-- ---- the least function fields

-- which of the names that are no variables are functions of one argument, and the labels of their function fields
module _ (is_function : Name → Bool) (fields : Name → List Name) (calls : List Site) where
  mutual
    -- the variable of a field is a function: it is the head of a call, or it stands at a function field of a call's head
    pub data IsFunction : Name → Type 0 where
      is_head : {x : Name} (s : Site) → Contains calls s → s.head ≡ parameter x → IsFunction x
      is_handed : {x : Name} (s : Site) (l : Name) → Contains calls s → Contains s.handed (l, parameter x) → HasField s.head l → IsFunction x

    -- a function field of a definition; or of a parameter, where a function stands in some call of it
    pub data HasField : Ref → Name → Type 0 where
      of_definition : {d l : Name} → Contains (fields d) l → HasField (global d) l
      of_parameter : {h l : Name} (s : Site) (r : Ref) → Contains calls s → s.head ≡ parameter h → Contains s.handed (l, r) → StandsFor r → HasField (parameter h) l

    -- a bare name that is a function
    pub data StandsFor : Ref → Type 0 where
      a_parameter : {x : Name} → IsFunction x → StandsFor (parameter x)
      a_global : {d : Name} → IsTrue (is_function d) → StandsFor (global d)

-- ---- of a program

abbrev pub takes_one : Option Sense → Bool
takes_one (Some s) = s.takes == 1
takes_one None = false

-- before a program: the primitives of one argument that are called by their names
abbrev pub first_functions : List Name → Name → Bool
first_functions sources x = takes_one (called (at_first sources) x)

abbrev pub with_function : Name → Bool → (Name → Bool) → Name → Bool
with_function d is is_function x = cond (same_name x d) is (is_function x)

abbrev pub with_fields : Name → List Name → FunctionFields → FunctionFields
with_fields d ls fields x = cond (same_name x d) ls (fields x)

abbrev pub no_fields : FunctionFields
no_fields d = []

-- the field at this label is a function, over the definitions before this one
abbrev pub IsFieldOf : (Name → Bool) → FunctionFields → Pat → Exp → Name → Type 0
IsFieldOf is_function before p e l = (x : Name) × Contains (candidates p) (l, x) × IsFunction is_function before (body_sites p e) x

-- each definition has the least function fields, over those before it
abbrev pub AreLeast : FunctionFields → Decls → (Name → Bool) → FunctionFields → Type 0
AreLeast fields no_decls is_function before = ⊤
AreLeast fields (constant d a ds) is_function before = AreLeast fields ds (with_function d.text false is_function) (with_fields d.text [] before)
AreLeast fields (function d p a ds) is_function before =
    ((l : Name) → Contains (fields d.text) l ↔ IsFieldOf is_function before p a l)
    × AreLeast fields ds (with_function d.text true is_function) (with_fields d.text (fields d.text) before)

-- the function fields of the definitions of a program over these sources
abbrev pub AreFunctionFields : FunctionFields → Decls → List Name → Type 0
AreFunctionFields fields ds sources = AreLeast fields ds (first_functions sources) no_fields

-- each definition has the same parts
abbrev pub HaveSameParts : FunctionFields → FunctionFields → Decls → Type 0
HaveSameParts fields also no_decls = ⊤
HaveSameParts fields also (constant d a ds) = HaveSameParts fields also ds
HaveSameParts fields also (function d p a ds) = (higher_from (fields d.text) p a ≡ higher_from (also d.text) p a) × HaveSameParts fields also ds
