-- The program without its functions: what the rules of scope say of a program with function parameters is what they say of this
-- one. A call of a function parameter is its argument, and a function that is handed over is a constant.
use Rattle.std.specs.Prelude.{◌≡◌, ℕ, Bool, true, false, ◌||◌, ◌&&◌, not, List, [], map, cond, Option, Some, None, is_some}
use Rattle.std.specs.Prelude.{⊤}
use Rattle.std.specs.Option.{option_map}
use Rattle.kl_value.specs.declared.Value.TheVariants as value
use Rattle.kl_outcome.specs.Outcome.{Name}
use Rattle.kl_syntax.specs.declared.tree.Tail.TheVariants as tail
use Rattle.kl_syntax.specs.declared.tree.Word.{Word}
use Rattle.kl_syntax.specs.Syntax.{Pat, catch, shape, Pats, no_pats, pats, Exp, Const, name, Call, Rec, More, Inj, Coll, Comp, If}
use Rattle.kl_syntax.specs.Syntax.{Let, Case, Path, Not, Neg, Chain, Exps, no_exps, exps, Flds, no_flds, flds, Quals, no_quals}
use Rattle.kl_syntax.specs.Syntax.{draw, test, Branches, no_branches, otherwise, branch, Steps, no_steps, step, Decls, no_decls}
use Rattle.kl_syntax.specs.Syntax.{constant, function}
use Rattle.kl_scope.specs.Findings.{findings, decls_findings, behind_decls}
use Rattle.kl_scope.specs.Senses.{at_first, called}
use Rattle.kl_scope.specs.declared.names.Sense.{Sense}
use Rattle.kl_ho.specs.Highers.{Higher}
use Rattle.kl_ho.specs.Functions.{first_functions, with_function}
use Rattle.kl_ho.specs.HoPrograms.{FunctionFields, is_among, higher_from}
use Rattle.kl_ho.specs.Keeps.{Clean}
use Rattle.kl_ho.specs.Shapes.{World, Shape, plain, names_after, behind_shaped}

-- a constant that breaks no rule
abbrev pub nothing : Exp
nothing = Const (value.Bool true)

-- `params` are the function parameters, `fields` the function fields of definitions; V are the variables that stand for values
abbrev pub is_parameter : List Name → List Name → Name → Bool
is_parameter params V f = not (is_among f V) && is_among f params

-- in the one argument of this head a function may stand bare in each field that is handed to a parameter, and in the function
-- fields of a definition
abbrev pub takes_function : FunctionFields → List Name → Option Name → Name → Bool
takes_function fields params (Some f) l = is_among f params || is_among l (fields f)
takes_function fields params None l = false

abbrev pub is_bare_function : (Name → Bool) → List Name → Exp → List Name → Bool
is_bare_function is_function params (name x) V = not (is_among x.text V) && (is_among x.text params || is_function x.text)
is_bare_function is_function params _ V = false

-- with another number of arguments than one, a parameter is misapplied, as any variable
abbrev pub called_parameter : Word → Exps → Exp
called_parameter f (exps e no_exps) = Not e
called_parameter f es = Call f (exps nothing es)

module _ (fields : FunctionFields) (is_function : Name → Bool) (params : List Name) where
  abbrev mutual
    -- the head whose one argument the expression is, if it is one
    pub plainly : Exp → Option Name → List Name → Exp
    plainly (Const v) o V = Const v
    plainly (name x) o V = name x
    plainly (Call f es) o V = cond (is_parameter params V f.text) (called_parameter f (plainly_handed es f.text V)) (Call f (plainly_handed es f.text V))
    plainly (Rec fs) o V = Rec (plainly_fields fs o V)
    plainly (More fs a) o V = More (plainly_fields fs None V) (plainly a None V)
    plainly (Inj l a) o V = Inj l (plainly a None V)
    plainly (Coll k es) o V = Coll k (plainly_all es V)
    plainly (Comp k e qs) o V = Comp k (plainly e None (behind_shaped qs V)) (plainly_quals qs V)
    plainly (If a b c) o V = If (plainly a None V) (plainly b None V) (plainly c None V)
    plainly (Let p a b) o V = Let p (plainly a None V) (plainly b None (names_after p V))
    plainly (Case a bs) o V = Case (plainly a None V) (plainly_branches bs V)
    plainly (Path a ls) o V = Path (plainly a None V) ls
    plainly (Not a) o V = Not (plainly a None V)
    plainly (Neg a) o V = Neg (plainly a None V)
    plainly (Chain a ss) o V = Chain (plainly a None V) (plainly_steps ss V)

    pub plainly_handed : Exps → Name → List Name → Exps
    plainly_handed no_exps f V = no_exps
    plainly_handed (exps e no_exps) f V = exps (plainly e (Some f) V) no_exps
    plainly_handed (exps e (exps x es)) f V = exps (plainly e None V) (exps (plainly x None V) (plainly_all es V))

    pub plainly_all : Exps → List Name → Exps
    plainly_all no_exps V = no_exps
    plainly_all (exps e es) V = exps (plainly e None V) (plainly_all es V)

    pub plainly_fields : Flds → Option Name → List Name → Flds
    plainly_fields no_flds o V = no_flds
    plainly_fields (flds l e fs) o V = flds l (cond (is_bare_function is_function params e V && takes_function fields params o l.text) nothing (plainly e None V)) (plainly_fields fs o V)

    pub plainly_quals : Quals → List Name → Quals
    plainly_quals no_quals V = no_quals
    plainly_quals (draw p e qs) V = draw p (plainly e None V) (plainly_quals qs (names_after p V))
    plainly_quals (test e qs) V = test (plainly e None V) (plainly_quals qs V)

    pub plainly_branches : Branches → List Name → Branches
    plainly_branches no_branches V = no_branches
    plainly_branches (otherwise e) V = otherwise (plainly e None V)
    plainly_branches (branch l p e bs) V = branch l p (plainly e None (names_after p V)) (plainly_branches bs V)

    pub plainly_steps : Steps → List Name → Steps
    plainly_steps no_steps V = no_steps
    plainly_steps (step c e ss) V = step c (plainly e None V) (plainly_steps ss V)

-- ---- programs

abbrev pub body_plainly : FunctionFields → (Name → Bool) → Option Higher → Pat → Exp → Exp
body_plainly fields is_function None p e = plainly fields is_function [] e None (names_after p [])
body_plainly fields is_function (Some h) p e =
    plainly fields is_function (map (λ k. k.1) h.handed) e None (names_after (shape h.rest tail.Exact) [])

-- each function field of a definition catches a variable
abbrev pub AreCaught : List Name → Pats → Type 0
AreCaught ls no_pats = ⊤
AreCaught ls (pats l (catch x) ps) = AreCaught ls ps
AreCaught ls (pats l p ps) = (is_among l.text ls ≡ false) × AreCaught ls ps

abbrev pub CatchesFunctions : List Name → Pat → Type 0
CatchesFunctions ls (shape ps tail.Exact) = AreCaught ls ps
CatchesFunctions ls p = ⊤

abbrev pub CatchFunctions : FunctionFields → Decls → Type 0
CatchFunctions fields no_decls = ⊤
CatchFunctions fields (constant d a ds) = CatchFunctions fields ds
CatchFunctions fields (function d p a ds) = CatchesFunctions (fields d.text) p × CatchFunctions fields ds

-- the functions of the declarations and of the last expression, each over those before it
abbrev pub decls_plainly : FunctionFields → Decls → (Name → Bool) → Decls
decls_plainly fields no_decls is_function = no_decls
decls_plainly fields (constant d a ds) is_function =
    constant d (plainly fields is_function [] a None []) (decls_plainly fields ds (with_function d.text false is_function))
decls_plainly fields (function d p a ds) is_function =
    function d p (body_plainly fields is_function (higher_from (fields d.text) p a) p a) (decls_plainly fields ds (with_function d.text true is_function))

abbrev pub last_plainly : FunctionFields → Decls → Exp → (Name → Bool) → Exp
last_plainly fields no_decls e is_function = plainly fields is_function [] e None []
last_plainly fields (constant d a ds) e is_function = last_plainly fields ds e (with_function d.text false is_function)
last_plainly fields (function d p a ds) e is_function = last_plainly fields ds e (with_function d.text true is_function)

-- the rules of scope find no breach in a program with these function fields
abbrev pub HasNoBreach : FunctionFields → Decls → Exp → List Name → Type 0
HasNoBreach fields ds e sources =
    Clean (decls_findings (decls_plainly fields ds (first_functions sources)) (at_first sources))
    × Clean (findings (last_plainly fields ds e (first_functions sources)) (behind_decls (decls_plainly fields ds (first_functions sources)) (at_first sources)))

-- ---- what stands before a program

abbrev pub arity_of : Option Sense → Option ℕ
arity_of o = option_map (λ s. s.takes) o

abbrev pub first_arity : List Name → Name → Option ℕ
first_arity sources x = arity_of (called (at_first sources) x)

abbrev pub plain_if : Bool → Option Shape
plain_if true = Some plain
plain_if false = None

abbrev pub first_world : List Name → World
first_world sources = record { functions = λ x. plain_if (first_functions sources x); taken = λ x. is_some (first_arity sources x) }
