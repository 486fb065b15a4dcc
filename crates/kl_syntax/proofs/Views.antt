-- The tree of an expression, a variant each.
use Rattle.std.proofs.Common.{◌≡◌, List, Option, rules}
use Rattle.kl_value.specs.declared.value.Kind.{Kind}
use Rattle.kl_value.specs.declared.value.Value.{Value}
use Rattle.kl_syntax.specs.declared.tree.Branch.{Branch, out-Branch, the_lemmas as branch_lemmas}
use Rattle.kl_syntax.specs.declared.tree.Expr.{Expr, the_lemmas}
use Rattle.kl_syntax.specs.declared.tree.Expr.TheVariants as expr
use Rattle.kl_syntax.specs.declared.tree.Op.{Op}
use Rattle.kl_syntax.specs.declared.tree.Pattern.{Pattern, the_lemmas as pattern_lemmas}
use Rattle.kl_syntax.specs.declared.tree.Pattern.TheVariants as code
use Rattle.kl_syntax.specs.declared.tree.Qual.{Qual, the_lemmas as qual_lemmas}
use Rattle.kl_syntax.specs.declared.tree.Qual.TheVariants as quals
use Rattle.kl_syntax.specs.declared.tree.Tail.{Tail}
use Rattle.kl_syntax.specs.declared.tree.Word.{Word}
use Rattle.kl_syntax.specs.Syntax.{shape, Const, name, Call, Rec, More, Inj, Coll, Comp, If, Let, Case, Path, Not, Neg, Chain, draw, test, Branches, branch}
use Rattle.kl_syntax.specs.View.{view, qual_view, branch_view, branches_view, exps_view, fields_view, quals_view, steps_view, pattern_view, patterns_view}

pub view_Const : (v : Value) → view (expr.Const v) ≡ Const v
view_Const v = search (rules, the_lemmas)

pub view_Name : (x : Word) → view (expr.Name x) ≡ name x
view_Name x = search (rules, the_lemmas)

pub view_Call : (f : Word) (es : List Expr) → view (expr.Call f es) ≡ Call f (exps_view es)
view_Call f es = search (rules, the_lemmas)

pub view_Rec : (fs : List (Word × Expr)) → view (expr.Rec fs) ≡ Rec (fields_view fs)
view_Rec fs = search (rules, the_lemmas)

pub view_More : (fs : List (Word × Expr)) (a : Expr) → view (expr.More fs a) ≡ More (fields_view fs) (view a)
view_More fs a = search (rules, the_lemmas)

pub view_Inj : (l : Word) (a : Expr) → view (expr.Inj l a) ≡ Inj l (view a)
view_Inj l a = search (rules, the_lemmas)

pub view_Coll : (k : Kind) (es : List Expr) → view (expr.Coll k es) ≡ Coll k (exps_view es)
view_Coll k es = search (rules, the_lemmas)

pub view_Comp : (k : Kind) (e : Expr) (qs : List Qual) → view (expr.Comp k e qs) ≡ Comp k (view e) (quals_view qs)
view_Comp k e qs = search (rules, the_lemmas)

pub view_If : (a b c : Expr) → view (expr.If a b c) ≡ If (view a) (view b) (view c)
view_If a b c = search (rules, the_lemmas)

pub view_Let : (p : Pattern) (a b : Expr) → view (expr.Let p a b) ≡ Let (pattern_view p) (view a) (view b)
view_Let p a b = search (rules, the_lemmas)

pub view_Case : (a : Expr) (bs : List Branch) (c : Option Expr) → view (expr.Case a bs c) ≡ Case (view a) (branches_view bs c)
view_Case a bs c = search (rules, the_lemmas)

pub view_Path : (a : Expr) (ls : List Word) → view (expr.Path a ls) ≡ Path (view a) ls
view_Path a ls = search (rules, the_lemmas)

pub view_Not : (a : Expr) → view (expr.Not a) ≡ Not (view a)
view_Not a = search (rules, the_lemmas)

pub view_Neg : (a : Expr) → view (expr.Neg a) ≡ Neg (view a)
view_Neg a = search (rules, the_lemmas)

pub view_Chain : (a : Expr) (ss : List (Op × Expr)) → view (expr.Chain a ss) ≡ Chain (view a) (steps_view ss)
view_Chain a ss = search (rules, the_lemmas)

pub view_Gen : (p : Pattern) (e : Expr) → qual_view (quals.Gen p e) ≡ draw (pattern_view p) (view e)
view_Gen p e = search (rules, qual_lemmas)

pub view_Cond : (e : Expr) → qual_view (quals.Cond e) ≡ test (view e)
view_Cond e = search (rules, qual_lemmas)

pub branch_seen : (b : Branch) (rest : Branches) → branch_view b rest ≡ branch (out-Branch b).label (pattern_view (out-Branch b).pat) (view (out-Branch b).body) rest
branch_seen b rest = search (rules, branch_lemmas)

pub pattern_Rec : (ps : List (Word × Pattern)) (tail : Tail) → pattern_view (code.Rec ps tail) ≡ shape (patterns_view ps) tail
pattern_Rec ps tail = search (rules, pattern_lemmas)
