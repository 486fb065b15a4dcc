-- The term of a pattern or of qualifiers as layers round what they go on with, from the outside.
use Rattle.std.specs.Prelude.{List, [], ◌∷◌, ◌++◌, length, Option, Some, None}
use Rattle.kl_value.specs.declared.Kind.{Kind}
use Rattle.kl_outcome.specs.Outcome.{Name}
use Rattle.kl_syntax.specs.declared.tree.Tail.{Tail}
use Rattle.kl_syntax.specs.declared.tree.Tail.TheVariants as tail
use Rattle.kl_syntax.specs.Syntax.{Pat, catch, any, same, is, shape, variant, Pats, no_pats, pats, Quals, no_quals, draw, test}
use Rattle.kl_core.specs.Trees as term
use Rattle.kl_core.specs.Trees.{Tree, Trees, no_trees, trees, Parts, Arms, no_arms, rest, arm}
use Rattle.kl_desugar.specs.Translation.{Scope, Place, here, inside, place_tree, Codes, name_tree, pair, others, tree, empty, no_sense}

pub data Layered : Type 0 where
  bound : Tree → Layered
  guard : Tree → Layered
  opened : Tree → Name → Layered
  drawn : Kind → Tree → Layered

abbrev pub wrap_one : Tree → Layered → Tree → Tree
wrap_one e (bound t) a = term.Let t a
wrap_one e (guard c) a = term.If c a e
wrap_one e (opened t l) a = term.Case t (arm l a (rest e))
wrap_one e (drawn k s) a = term.Ext k a s

abbrev pub wrapped : Tree → List Layered → Tree → Tree
wrapped e [] a = a
wrapped e (l ∷ ls) a = wrap_one e l (wrapped e ls a)

-- what stands where nothing fits
abbrev pub missed : Option Kind → Tree
missed (Some k) = empty k
missed None = no_sense

abbrev pub equals : Tree → Tree → Layered
equals t u = guard (term.Prim 1 (pair t u))

abbrev pub after_tail : Tail → Scope → Scope
after_tail (tail.Rest x) R = Some x.text ∷ R
after_tail _ R = R

-- the rest of a record, behind its fields
abbrev pub tail_layers : Tail → Pats → Place → Scope → List Layered
tail_layers (tail.Rest x) ps t R = bound (others ps t (length R)) ∷ []
tail_layers _ ps t R = []

-- the scope behind a pattern
abbrev mutual
  pub after_pat : Pat → Scope → Scope
  after_pat (catch x) R = Some x.text ∷ R
  after_pat any R = R
  after_pat (same x) R = R
  after_pat (is v n) R = R
  after_pat (shape ps end) R = after_tail end (after_pats ps R)
  after_pat (variant l p) R = after_pat p (None ∷ R)

  pub after_pats : Pats → Scope → Scope
  after_pats no_pats R = R
  after_pats (pats l p ps) R = after_pats ps (after_pat p R)

abbrev mutual
  pub pat_layers : Pat → Place → Codes → Scope → Scope → List Layered
  pat_layers (catch x) t codes S R = bound (place_tree t (length R)) ∷ []
  pat_layers any t codes S R = []
  pat_layers (same x) t codes S R = equals (place_tree t (length R)) (name_tree codes S x.text (length R)) ∷ []
  pat_layers (is v n) t codes S R = equals (place_tree t (length R)) (term.Const v) ∷ []
  pat_layers (shape ps end) t codes S R = pats_layers ps t codes S R ++ tail_layers end ps t (after_pats ps R)
  pat_layers (variant l p) t codes S R = opened (place_tree t (length R)) l.text ∷ pat_layers p (here (length R)) codes S (None ∷ R)

  pub pats_layers : Pats → Place → Codes → Scope → Scope → List Layered
  pats_layers no_pats t codes S R = []
  pats_layers (pats l p ps) t codes S R = pat_layers p (inside l.text t) codes S R ++ pats_layers ps t codes S (after_pat p R)

abbrev pub after_quals : Quals → Scope → Scope
after_quals no_quals R = R
after_quals (draw p s qs) R = after_quals qs (after_pat p (None ∷ R))
after_quals (test c qs) R = after_quals qs R

abbrev pub quals_layers : Quals → Kind → Codes → Scope → List Layered
quals_layers no_quals k codes R = []
quals_layers (draw p s qs) k codes R =
    drawn k (tree s codes R) ∷ (pat_layers p (here (length R)) codes R (None ∷ R) ++ quals_layers qs k codes (after_pat p (None ∷ R)))
quals_layers (test c qs) k codes R = guard (tree c codes R) ∷ quals_layers qs k codes R
