-- The trees that the code's own types show.
use Rattle.std.specs.Prelude.{List, [], ◌∷◌, map, Option, Some, None}
use Rattle.kl_syntax.specs.declared.tree.Op.{Op}
use Rattle.kl_syntax.specs.declared.tree.Word.{Word}
use Rattle.kl_syntax.specs.declared.tree.Pattern.{Pattern, Pattern-F, fold-Pattern}
use Rattle.std.specs.Option.{option_map}
use Rattle.kl_syntax.specs.declared.tree.Expr.{Expr, fold-Expr}
use Rattle.kl_syntax.specs.declared.tree.Qual.{Qual, fold-Qual}
use Rattle.kl_syntax.specs.declared.tree.Branch.{Branch, fold-Branch}
use Rattle.kl_syntax.specs.declared.tree.Expr.TheOpen.{Expr-F, Qual-F, Branch-F}
use Rattle.kl_syntax.specs.declared.tree.Decl.{Decl}
use Rattle.kl_syntax.specs.Syntax.{Pat, catch, any, same, is, shape, variant, Pats, no_pats, pats, Exp, Const, name}
use Rattle.kl_syntax.specs.Syntax.{Call, Rec, More, Inj, Coll, Comp, If, Let, Case, Path, Not, Neg, Chain, Exps, no_exps}
use Rattle.kl_syntax.specs.Syntax.{exps, Flds, no_flds, flds, Quals, no_quals, draw, test, Branches, no_branches}
use Rattle.kl_syntax.specs.Syntax.{otherwise, branch, Steps, no_steps, step, Decls, no_decls, constant, function}

abbrev pub pats_of : List (Word × Pat) → Pats
pats_of [] = no_pats
pats_of (p ∷ ps) = pats p.0 p.1 (pats_of ps)

abbrev pub pattern_layer : Pattern-F Pat → Pat
pattern_layer (Pattern-F.Bind x) = catch x
pattern_layer Pattern-F.Any = any
pattern_layer (Pattern-F.Same x) = same x
pattern_layer (Pattern-F.Is v n) = is v n
pattern_layer (Pattern-F.Rec ps tail) = shape (pats_of ps) tail
pattern_layer (Pattern-F.Inj l p) = variant l p

abbrev pub pattern_view : Pattern → Pat
pattern_view = fold-Pattern Pat pattern_layer

abbrev pub exps_of : List Exp → Exps
exps_of [] = no_exps
exps_of (e ∷ es) = exps e (exps_of es)

abbrev pub flds_of : List (Word × Exp) → Flds
flds_of [] = no_flds
flds_of (f ∷ fs) = flds f.0 f.1 (flds_of fs)

abbrev pub steps_of : List (Op × Exp) → Steps
steps_of [] = no_steps
steps_of (s ∷ ss) = step s.0 s.1 (steps_of ss)

-- a qualifier or a branch, before those that follow
abbrev pub Front : Type 0
Front = Quals → Quals

abbrev pub Arm : Type 0
Arm = Branches → Branches

abbrev pub quals_of : List Front → Quals
quals_of [] = no_quals
quals_of (q ∷ qs) = q (quals_of qs)

abbrev pub rest_of : Option Exp → Branches
rest_of (Some e) = otherwise e
rest_of None = no_branches

abbrev pub branches_of : List Arm → Branches → Branches
branches_of [] last = last
branches_of (b ∷ bs) last = b (branches_of bs last)

abbrev pub expr_layer : Expr-F Exp Front Arm → Exp
expr_layer (Expr-F.Const v) = Const v
expr_layer (Expr-F.Name x) = name x
expr_layer (Expr-F.Call f es) = Call f (exps_of es)
expr_layer (Expr-F.Rec fs) = Rec (flds_of fs)
expr_layer (Expr-F.More fs a) = More (flds_of fs) a
expr_layer (Expr-F.Inj l a) = Inj l a
expr_layer (Expr-F.Coll k es) = Coll k (exps_of es)
expr_layer (Expr-F.Comp k e qs) = Comp k e (quals_of qs)
expr_layer (Expr-F.If a b c) = If a b c
expr_layer (Expr-F.Let p a b) = Let (pattern_view p) a b
expr_layer (Expr-F.Case a bs c) = Case a (branches_of bs (rest_of c))
expr_layer (Expr-F.Path a ls) = Path a ls
expr_layer (Expr-F.Not a) = Not a
expr_layer (Expr-F.Neg a) = Neg a
expr_layer (Expr-F.Chain a ss) = Chain a (steps_of ss)

abbrev pub qual_layer : Qual-F Exp Front Arm → Front
qual_layer (Qual-F.Gen p e) = draw (pattern_view p) e
qual_layer (Qual-F.Cond e) = test e

abbrev pub branch_layer : Branch-F Exp Front Arm → Arm
branch_layer b = branch b.label (pattern_view b.pat) b.body

abbrev pub view : Expr → Exp
view = fold-Expr Exp Front Arm expr_layer qual_layer branch_layer

abbrev pub qual_view : Qual → Front
qual_view = fold-Qual Exp Front Arm expr_layer qual_layer branch_layer

abbrev pub branch_view : Branch → Arm
branch_view = fold-Branch Exp Front Arm expr_layer qual_layer branch_layer

abbrev pub decl_of : Option Pattern → Decl → Decls → Decls
decl_of (Some p) d = function d.name (pattern_view p) (view d.body)
decl_of None d = constant d.name (view d.body)

abbrev pub decls_of : List Decl → Decls
decls_of [] = no_decls
decls_of (d ∷ ds) = decl_of d.param d (decls_of ds)

-- lists of parts
abbrev pub exps_view : List Expr → Exps
exps_view es = exps_of (map view es)

abbrev pub field_view : Word × Expr → Word × Exp
field_view f = (f.0, view f.1)

abbrev pub fields_view : List (Word × Expr) → Flds
fields_view fs = flds_of (map field_view fs)

abbrev pub quals_view : List Qual → Quals
quals_view qs = quals_of (map qual_view qs)

abbrev pub branches_view : List Branch → Option Expr → Branches
branches_view bs c = branches_of (map branch_view bs) (rest_of (option_map view c))

abbrev pub step_view : Op × Expr → Op × Exp
step_view s = (s.0, view s.1)

abbrev pub steps_view : List (Op × Expr) → Steps
steps_view ss = steps_of (map step_view ss)

abbrev pub pattern_pair : Word × Pattern → Word × Pat
pattern_pair p = (p.0, pattern_view p.1)

abbrev pub patterns_view : List (Word × Pattern) → Pats
patterns_view ps = pats_of (map pattern_pair ps)
