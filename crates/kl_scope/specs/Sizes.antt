-- How large the core terms are that the declarations of a program are translated to.
use Rattle.std.specs.Prelude.{suc, ◌+◌, max, List, [], ◌∷◌, ◌++◌, get_or}
use Rattle.kl_syntax.specs.declared.tree.Meaning.{Meaning}
use Rattle.kl_syntax.specs.declared.tree.Meaning.TheVariants.{Definition}
use Rattle.kl_syntax.specs.declared.tree.Op.{Op}
use Rattle.kl_syntax.specs.declared.tree.Op.TheVariants as op
use Rattle.kl_syntax.specs.declared.tree.Tail.{Tail}
use Rattle.kl_syntax.specs.declared.tree.Tail.TheVariants as tail
use Rattle.kl_syntax.specs.declared.tree.Word.{Word}
use Rattle.kl_syntax.specs.Syntax.{Pat, catch, any, same, is, shape, variant, Pats, no_pats, pats, Exp, Const, name, Call, Rec}
use Rattle.kl_syntax.specs.Syntax.{More, Inj, Coll, Comp, If, Let, Case, Path, Not, Neg, Chain, Exps, no_exps, exps, Flds, no_flds}
use Rattle.kl_syntax.specs.Syntax.{flds, Quals, no_quals, draw, test, Branches, no_branches, otherwise, branch, Steps, no_steps}
use Rattle.kl_syntax.specs.Syntax.{step, Decls, no_decls, constant, function}
use Rattle.kl_scope.specs.declared.terms.Size.{Size}

-- ---- terms, of which only nodes and depth are known

-- several terms, side by side
unfoldable pub beside : Size → Size → Size
beside a b = record { nodes = a.nodes + b.nodes; depth = max a.depth b.depth }

abbrev pub no_parts : Size
no_parts = record { nodes = 0; depth = 0 }

-- a term with these parts
unfoldable pub node : Size → Size
node parts = record { nodes = suc parts.nodes; depth = suc parts.depth }

-- a term without parts
abbrev pub leaf : Size
leaf = record { nodes = 1; depth = 1 }

-- ---- names, by what they mean; the sizes are those of the definitions before

-- a defined name is its expression; a variable and a source have no parts
abbrev pub named : Meaning → List Size → Size
named (Definition i) ds = get_or ds i leaf
named _ ds = leaf

-- what a call has beside its arguments: for a function the term that matches its parameter, for a primitive nothing
abbrev pub callee : Meaning → List Size → Size
callee (Definition i) ds = get_or ds i leaf
callee _ ds = no_parts

-- ---- patterns: a term t is matched, and it goes on with a term a

-- Let(r = Prim(the other fields, t, a constant), a)
abbrev pub with_rest : Tail → Size → Size → Size
with_rest (tail.Rest w) t a = node (beside (node (beside t leaf)) a)
with_rest _ t a = a

abbrev mutual
  pub matched : Pat → Size → Size → List Size → Size
  -- Let(x = t, a)
  matched (catch w) t a ds = node (beside t a)
  matched any t a ds = a
  -- If(Prim(=, t, n), a, the empty collection)
  matched (same w) t a ds = node (beside (node (beside t (named w.means ds))) (beside a leaf))
  matched (is v n) t a ds = node (beside (node (beside t leaf)) (beside a leaf))
  matched (shape ps end) t a ds = matched_fields ps t (with_rest end t a) ds
  -- Case(t, l: y. match y, the empty collection)
  matched (variant l p) t a ds = node (beside t (beside (matched p leaf a ds) leaf))

  -- each field is matched with Proj(l, t), and the last goes on with a
  pub matched_fields : Pats → Size → Size → List Size → Size
  matched_fields no_pats t a ds = a
  matched_fields (pats l p ps) t a ds = matched p (node t) (matched_fields ps t a ds) ds

-- ---- expressions

-- Proj(l, t), label by label
abbrev pub projected : Size → List Word → Size
projected t [] = t
projected t (l ∷ ls) = projected (node t) ls

-- `and` and `or` are an If with a constant
abbrev pub third : Op → Size
third op.And = leaf
third op.Or = leaf
third _ = no_parts

abbrev mutual
  pub sized : Exp → List Size → Size
  sized (Const v) ds = leaf
  sized (name w) ds = named w.means ds
  -- Let(x = the argument, the function's match), or Prim(code, the arguments)
  sized (Call f es) ds = node (beside (sized_all es ds) (callee f.means ds))
  sized (Rec fs) ds = node (sized_fields fs ds)
  -- Prim(all fields, the record of the fields, e)
  sized (More fs e) ds = node (beside (node (sized_fields fs ds)) (sized e ds))
  sized (Inj l e) ds = node (sized e ds)
  sized (Coll k es) ds = node (sized_all es ds)
  -- behind the last qualifier a collection of one item
  sized (Comp k e qs) ds = qualified qs (node (sized e ds)) ds
  sized (If a b c) ds = node (beside (sized a ds) (beside (sized b ds) (sized c ds)))
  sized (Let p a b) ds = node (beside (sized a ds) (matched p leaf (sized b ds) ds))
  sized (Case e bs) ds = node (beside (sized e ds) (sized_branches bs ds))
  sized (Path e ls) ds = projected (sized e ds) ls
  sized (Not e) ds = node (sized e ds)
  sized (Neg e) ds = node (sized e ds)
  sized (Chain e ss) ds = chained (sized e ds) ss ds

  pub sized_all : Exps → List Size → Size
  sized_all no_exps ds = no_parts
  sized_all (exps e es) ds = beside (sized e ds) (sized_all es ds)

  pub sized_fields : Flds → List Size → Size
  sized_fields no_flds ds = no_parts
  sized_fields (flds l e fs) ds = beside (sized e ds) (sized_fields fs ds)

  -- Ext(k, x. match x, s), and If(c, .., the empty collection)
  pub qualified : Quals → Size → List Size → Size
  qualified no_quals t ds = t
  qualified (draw p s qs) t ds = node (beside (matched p leaf (qualified qs t ds) ds) (sized s ds))
  qualified (test c qs) t ds = node (beside (sized c ds) (beside (qualified qs t ds) leaf))

  pub sized_branches : Branches → List Size → Size
  sized_branches no_branches ds = no_parts
  sized_branches (otherwise e) ds = sized e ds
  sized_branches (branch l p e bs) ds = beside (matched p leaf (sized e ds) ds) (sized_branches bs ds)

  -- from the left
  pub chained : Size → Steps → List Size → Size
  chained t no_steps ds = t
  chained t (step o e ss) ds = chained (node (beside t (beside (sized e ds) (third o)))) ss ds

-- ---- programs

-- of each definition, by those before it, and last of the expression; a function's parameter is matched with a variable
abbrev pub declared : Decls → Exp → List Size → List Size
declared no_decls last ds = sized last ds ∷ []
declared (constant w e rest) last ds = sized e ds ∷ declared rest last (ds ++ sized e ds ∷ [])
declared (function w p e rest) last ds = matched p leaf (sized e ds) ds ∷ declared rest last (ds ++ matched p leaf (sized e ds) ds ∷ [])
