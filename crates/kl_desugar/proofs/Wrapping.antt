-- The layers make the term.
use Rattle.std.proofs.Common.{◌≡◌, List, [], ◌∷◌, ◌++◌, length, None, refl, sym, ap, ◌∙◌}
use Rattle.kl_value.specs.declared.Kind.{Kind}
use Rattle.kl_syntax.specs.declared.tree.Tail.{Tail}
use Rattle.kl_syntax.specs.declared.tree.Tail.TheVariants as tail
use Rattle.kl_syntax.specs.Syntax.{Pat, catch, any, same, is, shape, variant, Pats, no_pats, pats, Quals, no_quals, draw, test}
use Rattle.kl_core.specs.Trees as term
use Rattle.kl_core.specs.Trees.{Tree, arm, rest}
use Rattle.kl_desugar.specs.Translation.{Scope, Place, here, inside, place_tree, Codes, with_rest, tree, tree_quals, matched, matched_fields, empty}
use Rattle.kl_desugar.specs.Layers.{Layered, wrap_one, wrapped, after_tail, tail_layers, after_pat, after_pats, pat_layers, pats_layers, after_quals, quals_layers}

pub wrapped_both : (e : Tree) (xs ys : List Layered) (a : Tree) → wrapped e (xs ++ ys) a ≡ wrapped e xs (wrapped e ys a)
wrapped_both e [] ys a = refl
wrapped_both e (x ∷ xs) ys a = ap (wrap_one e x) (wrapped_both e xs ys a)

rest_is : (end : Tail) (ps : Pats) (t : Place) (e : Tree) (A : Scope → Tree) (R : Scope) → with_rest end ps t A R ≡ wrapped e (tail_layers end ps t R) (A (after_tail end R))
rest_is (tail.Rest x) ps t e A R = refl
rest_is tail.Exact ps t e A R = refl
rest_is tail.Open ps t e A R = refl

mutual
  pub matched_is : (p : Pat) (t : Place) (codes : Codes) (S : Scope) (e : Tree) (A : Scope → Tree) (R : Scope) → matched p t codes S e A R ≡ wrapped e (pat_layers p t codes S R) (A (after_pat p R))
  matched_is (catch x) t codes S e A R = refl
  matched_is any t codes S e A R = refl
  matched_is (same x) t codes S e A R = refl
  matched_is (is v n) t codes S e A R = refl
  matched_is (shape ps end) t codes S e A R =
      fields_are ps t codes S e (λ Q. with_rest end ps t A Q) R
      ∙ ap (wrapped e (pats_layers ps t codes S R)) (rest_is end ps t e A (after_pats ps R))
      ∙ sym (wrapped_both e (pats_layers ps t codes S R) _ _)
  matched_is (variant l p) t codes S e A R = ap (λ a. term.Case (place_tree t (length R)) (arm l.text a (rest e))) (matched_is p (here (length R)) codes S e A (None ∷ R))

  fields_are : (ps : Pats) (t : Place) (codes : Codes) (S : Scope) (e : Tree) (A : Scope → Tree) (R : Scope) → matched_fields ps t codes S e A R ≡ wrapped e (pats_layers ps t codes S R) (A (after_pats ps R))
  fields_are no_pats t codes S e A R = refl
  fields_are (pats l p ps) t codes S e A R =
      matched_is p (inside l.text t) codes S e (λ Q. matched_fields ps t codes S e A Q) R
      ∙ ap (wrapped e (pat_layers p (inside l.text t) codes S R)) (fields_are ps t codes S e A (after_pat p R))
      ∙ sym (wrapped_both e (pat_layers p (inside l.text t) codes S R) _ _)

pub quals_are : (qs : Quals) (k : Kind) (A : Scope → Tree) (codes : Codes) (S : Scope) → tree_quals qs k A codes S ≡ wrapped (empty k) (quals_layers qs k codes S) (A (after_quals qs S))
quals_are no_quals k A codes S = refl
quals_are (draw p s qs) k A codes S =
    ap (λ a. term.Ext k a (tree s codes S))
    (matched_is p (here (length S)) codes S (empty k) (λ R. tree_quals qs k A codes R) (None ∷ S)
    ∙ ap (wrapped (empty k) (pat_layers p (here (length S)) codes S (None ∷ S))) (quals_are qs k A codes (after_pat p (None ∷ S)))
    ∙ sym (wrapped_both (empty k) (pat_layers p (here (length S)) codes S (None ∷ S)) _ _))
quals_are (test c qs) k A codes S = ap (λ a. term.If (tree c codes S) a (empty k)) (quals_are qs k A codes S)
