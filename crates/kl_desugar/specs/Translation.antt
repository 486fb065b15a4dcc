-- The term of a program.
use Rattle.std.specs.Prelude.{◌≡◌, ◌≢◌, ℕ, suc, ◌-◌, Bool, true, false, List, [], ◌∷◌, cond, length, map, slice_get, Option, Some, None}
use Rattle.kl_value.specs.declared.Kind.{Kind}
use Rattle.kl_value.specs.declared.Value.{Value}
use Rattle.kl_value.specs.declared.Value.TheVariants as value
use Rattle.kl_prim.specs.Records.{Fields, in_order}
use Rattle.kl_outcome.specs.Outcome.{Name, stuck}
use Rattle.kl_syntax.specs.declared.tree.Op.{Op}
use Rattle.kl_syntax.specs.declared.tree.Tail.{Tail}
use Rattle.kl_syntax.specs.declared.tree.Word.{Word}
use Rattle.kl_syntax.specs.declared.tree.Op.TheVariants as op
use Rattle.kl_syntax.specs.declared.tree.Tail.TheVariants as tail
use Rattle.kl_syntax.specs.Syntax.{Pat, catch, any, same, is, shape, variant, Pats, no_pats, pats, Exp, Const, name, Call, Rec}
use Rattle.kl_syntax.specs.Syntax.{More, Inj, Coll, Comp, If, Let, Case, Path, Not, Neg, Chain, Exps, no_exps, exps, Flds, no_flds}
use Rattle.kl_syntax.specs.Syntax.{flds, Quals, no_quals, draw, test, Branches, no_branches, otherwise, branch, Steps, no_steps}
use Rattle.kl_syntax.specs.Syntax.{step, Decls, no_decls, constant, function}
use Rattle.kl_meaning.specs.Match.{same_name}
use Rattle.kl_meaning.specs.Run.{code_of, code_named, meaning_of_program}
use Rattle.kl_core.specs.Core.{Tables, core}
use Rattle.kl_core.specs.Trees as term
use Rattle.kl_core.specs.Trees.{Tree, Trees, no_trees, trees, Parts, Arms, no_arms, rest, arm}

-- What stands at each position, the nearest first: a variable's name, or none where a value is only matched.
abbrev pub Scope : Type 0
Scope = List (Option Name)

-- The level of a position is the number of positions outside it: it stays as it is where more are bound. That of the
-- nearest variable with a name:
abbrev pub is_at : Option Name → Name → Bool
is_at (Some y) x = same_name x y
is_at None x = false

abbrev pub level_of : Name → Scope → Option ℕ
level_of x [] = None
level_of x (b ∷ S) = cond (is_at b x) (Some (length S)) (level_of x S)

-- the variable at a level, where so many positions are bound
abbrev pub at_level : ℕ → ℕ → Tree
at_level m n = term.Var (n - suc m)

-- what is matched: a position's value, or a field of what is
pub data Place : Type 0 where
  here : ℕ → Place
  inside : Name → Place → Place

abbrev pub place_tree : Place → ℕ → Tree
place_tree (here m) n = at_level m n
place_tree (inside l t) n = term.Proj l (place_tree t n)

-- what a name that is no variable stands for
pub data Code : Type 0 where
  nothing : Code
  value_by : Tree → Code
  function_by : Tree → Code
  primitive_by : ℕ → Code

abbrev pub Codes : Type 0
Codes = Name → Code

-- what stands where a program in scope never comes
abbrev pub no_sense : Tree
no_sense = term.Rec term.no_parts

abbrev pub code_tree : Code → Tree
code_tree (value_by t) = t
code_tree _ = no_sense

abbrev pub level_tree : Option ℕ → Code → ℕ → Tree
level_tree (Some m) c n = at_level m n
level_tree None c n = code_tree c

-- the value that a name has in the scope S, where n positions are bound by now
abbrev pub name_tree : Codes → Scope → Name → ℕ → Tree
name_tree codes S x n = level_tree (level_of x S) (codes x) n

abbrev pub pair : Tree → Tree → Trees
pair a b = trees a (trees b no_trees)

abbrev pub tested : Tree → Tree → Tree → Tree → Tree
tested t u a e = term.If (term.Prim 1 (pair t u)) a e

-- a record that has each label of a record pattern, with `true`
abbrev pub marks : Pats → Fields
marks no_pats = []
marks (pats l p ps) = (l.text, value.Bool true) ∷ marks ps

abbrev pub mask : Pats → Tree
mask ps = term.Const (value.Rec (in_order (marks ps)))

-- the record of what a record at a place has beside the labels of a pattern
abbrev pub others : Pats → Place → ℕ → Tree
others ps t n = term.Prim 28 (pair (place_tree t n) (mask ps))

-- behind the fields of a record pattern, where it ends in `...\r`: r is bound to the other fields, and then A
abbrev pub with_rest : Tail → Pats → Place → (Scope → Tree) → Scope → Tree
with_rest (tail.Rest x) ps t A R = term.Let (others ps t (length R)) (A (Some x.text ∷ R))
with_rest _ ps t A R = A R

-- M(p, t, A): the term that matches the pattern at a place and goes on with A in the scope that is then reached, or with
-- e where the pattern does not fit. S is the scope outside the pattern, R the scope by now.
abbrev mutual
  pub matched : Pat → Place → Codes → Scope → Tree → (Scope → Tree) → Scope → Tree
  matched (catch x) t codes S e A R = term.Let (place_tree t (length R)) (A (Some x.text ∷ R))
  matched any t codes S e A R = A R
  matched (same x) t codes S e A R = tested (place_tree t (length R)) (name_tree codes S x.text (length R)) (A R) e
  matched (is v n) t codes S e A R = tested (place_tree t (length R)) (term.Const v) (A R) e
  matched (shape ps end) t codes S e A R = matched_fields ps t codes S e (λ Q. with_rest end ps t A Q) R
  matched (variant l p) t codes S e A R =
      term.Case (place_tree t (length R)) (arm l.text (matched p (here (length R)) codes S e A (None ∷ R)) (rest e))

  pub matched_fields : Pats → Place → Codes → Scope → Tree → (Scope → Tree) → Scope → Tree
  matched_fields no_pats t codes S e A R = A R
  matched_fields (pats l p ps) t codes S e A R = matched p (inside l.text t) codes S e (λ Q. matched_fields ps t codes S e A Q) R

abbrev pub empty : Kind → Tree
empty k = term.Make k no_trees

abbrev pub called_tree : Code → Trees → Tree
called_tree (function_by t) (trees a no_trees) = term.Let a t
called_tree (primitive_by c) ts = term.Prim c ts
called_tree _ ts = no_sense

abbrev pub operated_tree : Op → Tree → Tree → Tree
operated_tree op.And a b = term.If a b (term.Const (value.Bool false))
operated_tree op.Or a b = term.If a (term.Const (value.Bool true)) b
operated_tree op.Append a b = term.Union a b
operated_tree c a b = term.Prim (code_of c) (pair a b)

abbrev pub projected : List Word → Tree → Tree
projected [] t = t
projected (l ∷ ls) t = projected ls (term.Proj l.text t)

-- the value of a position that has just been bound in S is matched, and then A
abbrev pub matched_here : Pat → Codes → Scope → Tree → (Scope → Tree) → Tree
matched_here p codes S e A = matched p (here (length S)) codes S e A (None ∷ S)

-- T(e)
abbrev mutual
  pub tree : Exp → Codes → Scope → Tree
  tree (Const v) codes S = term.Const v
  tree (name x) codes S = name_tree codes S x.text (length S)
  tree (Call f es) codes S = called_tree (codes f.text) (tree_all es codes S)
  tree (Rec fs) codes S = term.Rec (term.parts_of (in_order (tree_fields fs codes S)))
  tree (More fs a) codes S = term.Prim 27 (pair (term.Rec (term.parts_of (in_order (tree_fields fs codes S)))) (tree a codes S))
  tree (Inj l a) codes S = term.Inj l.text (tree a codes S)
  tree (Coll k es) codes S = term.Make k (tree_all es codes S)
  tree (Comp k e qs) codes S = tree_quals qs k (λ R. term.Make k (trees (tree e codes R) no_trees)) codes S
  tree (If a b c) codes S = term.If (tree a codes S) (tree b codes S) (tree c codes S)
  tree (Let p a b) codes S = term.Let (tree a codes S) (matched_here p codes S no_sense (λ R. tree b codes R))
  tree (Case a bs) codes S = term.Case (tree a codes S) (tree_branches bs codes S)
  tree (Path a ls) codes S = projected ls (tree a codes S)
  tree (Not a) codes S = term.Prim 11 (trees (tree a codes S) no_trees)
  tree (Neg a) codes S = term.Prim 10 (trees (tree a codes S) no_trees)
  tree (Chain a ss) codes S = tree_steps ss (tree a codes S) codes S

  pub tree_all : Exps → Codes → Scope → Trees
  tree_all no_exps codes S = no_trees
  tree_all (exps e es) codes S = trees (tree e codes S) (tree_all es codes S)

  pub tree_fields : Flds → Codes → Scope → List (Name × Tree)
  tree_fields no_flds codes S = []
  tree_fields (flds l e fs) codes S = (l.text, tree e codes S) ∷ tree_fields fs codes S

  pub tree_quals : Quals → Kind → (Scope → Tree) → Codes → Scope → Tree
  tree_quals no_quals k A codes S = A S
  tree_quals (draw p s qs) k A codes S = term.Ext k (matched_here p codes S (empty k) (λ R. tree_quals qs k A codes R)) (tree s codes S)
  tree_quals (test c qs) k A codes S = term.If (tree c codes S) (tree_quals qs k A codes S) (empty k)

  pub tree_branches : Branches → Codes → Scope → Arms
  tree_branches no_branches codes S = no_arms
  tree_branches (otherwise c) codes S = rest (tree c codes S)
  tree_branches (branch l p b bs) codes S = arm l.text (matched_here p codes S no_sense (λ R. tree b codes R)) (tree_branches bs codes S)

  pub tree_steps : Steps → Tree → Codes → Scope → Tree
  tree_steps no_steps t codes S = t
  tree_steps (step c e ss) t codes S = tree_steps ss (operated_tree c t (tree e codes S)) codes S

-- the place of a name in a list
abbrev pub number_of : Name → List Name → ℕ → Option ℕ
number_of x [] i = None
number_of x (y ∷ ys) i = cond (same_name x y) (Some i) (number_of x ys (suc i))

abbrev pub code_by : Option ℕ → Code
code_by (Some c) = primitive_by c
code_by None = nothing

abbrev pub code_at : Option ℕ → Option ℕ → Code
code_at (Some i) c = value_by (term.Source i)
code_at None c = code_by c

-- sources by their numbers, and then primitives
abbrev pub codes_first : List Name → Codes
codes_first sources x = code_at (number_of x sources 0) (code_named x)

abbrev pub with_code : Name → Code → Codes → Codes
with_code d c codes x = cond (same_name x d) c (codes x)

-- a function's argument is matched at position 0
abbrev pub function_tree : Pat → Exp → Codes → Tree
function_tree p e codes = matched_here p codes [] no_sense (λ R. tree e codes R)

abbrev pub codes_after : Decls → Codes → Codes
codes_after no_decls codes = codes
codes_after (constant d e ds) codes = codes_after ds (with_code d.text (value_by (tree e codes [])) codes)
codes_after (function d p e ds) codes = codes_after ds (with_code d.text (function_by (function_tree p e codes)) codes)

abbrev pub term_of : Decls → Exp → List Name → Tree
term_of ds e sources = tree e (codes_after ds (codes_first sources)) []

-- the values of sources by their numbers
abbrev pub tables_of : List (Name × Value) → Tables
tables_of sources i = slice_get (map (λ s. s.1) sources) i

-- over whatever values of the sources, where the program makes sense, the term means what the program means
abbrev pub Means : Decls → Exp → List Name → Tree → Type 0
Means ds e names t = (sources : List (Name × Value)) → map (λ s. s.0) sources ≡ names → meaning_of_program ds e sources ≢ stuck
    → core (tables_of sources) t [] ≡ meaning_of_program ds e sources
