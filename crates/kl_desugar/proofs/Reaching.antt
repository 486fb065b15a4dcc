-- The term of a program rests on the definitions that it reaches alone.
use Rattle.std.proofs.Common.{◌≡◌, Bool, true, false, List, [], ◌∷◌, ◌++◌, cond, length, Some, None, true≢false, refl, ap, ◌∙◌, ℕ}
use mathlib.Core.Path.{ap₂}
use Rattle.kl_value.specs.declared.Kind.{Kind}
use Rattle.kl_outcome.specs.Outcome.{Name}
use Rattle.kl_syntax.specs.declared.tree.Tail.{Tail}
use Rattle.kl_syntax.specs.declared.tree.Tail.TheVariants as tail
use Rattle.kl_syntax.specs.declared.tree.Word.{Word}
use Rattle.kl_syntax.specs.Syntax.{Pat, catch, any, same, is, shape, variant, Pats, no_pats, pats, Exp, Const, name, Call, Rec, More, Inj, Coll, Comp, If, Let, Case, Path, Not, Neg, Chain, Exps, no_exps, exps, Flds, no_flds, flds, Quals, no_quals, draw, test, Branches, no_branches, otherwise, branch, Steps, no_steps, step, Decls, no_decls, constant, function}
use Rattle.kl_meaning.specs.Match.{same_name}
use Rattle.kl_meaning.specs.Run.{in_order}
use Rattle.kl_core.specs.Trees as term
use Rattle.kl_core.specs.Trees.{Tree, no_trees, trees}
use Rattle.kl_desugar.specs.Translation.{Scope, Place, here, inside, place_tree, Code, value_by, function_by, Codes, level_of, level_tree, name_tree, pair, others, with_rest, tested, matched, matched_fields, empty, called_tree, operated_tree, projected, no_sense, tree, tree_all, tree_fields, tree_quals, tree_branches, tree_steps, with_code, codes_first, codes_after, function_tree, term_of}
use Rattle.kl_desugar.specs.Reached.{pattern_names, patterns_names, names, names_all, names_fields, names_quals, names_branches, names_steps, is_among, if_among, wanted, kept_if, reached}

-- the same code at each of these names
abbrev AgreeOn : List Word → Codes → Codes → Type 0
AgreeOn [] c d = Unit {0}
AgreeOn (x ∷ xs) c d = (c x.text ≡ d x.text) × AgreeOn xs c d

front : (xs ys : List Word) (c d : Codes) → AgreeOn (xs ++ ys) c d → AgreeOn xs c d
front [] ys c d h = tt
front (x ∷ xs) ys c d h = (h.0, front xs ys c d h.1)

back : (xs ys : List Word) (c d : Codes) → AgreeOn (xs ++ ys) c d → AgreeOn ys c d
back [] ys c d h = h
back (x ∷ xs) ys c d h = back xs ys c d h.1

same_always : (xs : List Word) (c : Codes) → AgreeOn xs c c
same_always [] c = tt
same_always (x ∷ xs) c = (refl, same_always xs c)

module _ (c d : Codes) where
  same_at : (S : Scope) (x : Name) (n : ℕ) → c x ≡ d x → name_tree c S x n ≡ name_tree d S x n
  same_at S x n h = ap (λ z. level_tree (level_of x S) z n) h

  rest_same : (end : Tail) (ps : Pats) (t : Place) (A B : Scope → Tree) (R : Scope) → ((Q : Scope) → A Q ≡ B Q) → with_rest end ps t A R ≡ with_rest end ps t B R
  rest_same (tail.Rest x) ps t A B R k = ap (term.Let (others ps t (length R))) (k (Some x.text ∷ R))
  rest_same tail.Exact ps t A B R k = k R
  rest_same tail.Open ps t A B R k = k R

  mutual
    pattern_same : (p : Pat) (t : Place) (S : Scope) (e : Tree) (A B : Scope → Tree) (R : Scope) → AgreeOn (pattern_names p) c d → ((Q : Scope) → A Q ≡ B Q) → matched p t c S e A R ≡ matched p t d S e B R
    pattern_same (catch x) t S e A B R h k = ap (term.Let (place_tree t (length R))) (k (Some x.text ∷ R))
    pattern_same any t S e A B R h k = k R
    pattern_same (same x) t S e A B R h k = ap₂ (λ u a. tested (place_tree t (length R)) u a e) (same_at S x.text (length R) h.0) (k R)
    pattern_same (is v n) t S e A B R h k = ap (λ a. tested (place_tree t (length R)) (term.Const v) a e) (k R)
    pattern_same (shape ps end) t S e A B R h k =
        patterns_same ps t S e (λ Q. with_rest end ps t A Q) (λ Q. with_rest end ps t B Q) R h (λ Q. rest_same end ps t A B Q k)
    pattern_same (variant l p) t S e A B R h k =
        ap (λ a. term.Case (place_tree t (length R)) (term.arm l.text a (term.rest e))) (pattern_same p (here (length R)) S e A B (None ∷ R) h k)

    patterns_same : (ps : Pats) (t : Place) (S : Scope) (e : Tree) (A B : Scope → Tree) (R : Scope) → AgreeOn (patterns_names ps) c d → ((Q : Scope) → A Q ≡ B Q)
        → matched_fields ps t c S e A R ≡ matched_fields ps t d S e B R
    patterns_same no_pats t S e A B R h k = k R
    patterns_same (pats l p ps) t S e A B R h k =
        pattern_same p (inside l.text t) S e (λ Q. matched_fields ps t c S e A Q) (λ Q. matched_fields ps t d S e B Q) R (front (pattern_names p) (patterns_names ps) c d h)
        (λ Q. patterns_same ps t S e A B Q (back (pattern_names p) (patterns_names ps) c d h) k)

  mutual
    tree_same : (e : Exp) (S : Scope) → AgreeOn (names e) c d → tree e c S ≡ tree e d S
    tree_same (Const v) S h = refl
    tree_same (name x) S h = same_at S x.text (length S) h.0
    tree_same (Call f es) S h = ap₂ called_tree h.0 (all_same es S h.1)
    tree_same (Rec fs) S h = ap (λ z. term.Rec (term.parts_of (in_order z))) (fields_same fs S h)
    tree_same (More fs a) S h =
        ap₂ (λ z u. term.Prim 27 (pair (term.Rec (term.parts_of (in_order z))) u)) (fields_same fs S (front (names_fields fs) (names a) c d h))
        (tree_same a S (back (names_fields fs) (names a) c d h))
    tree_same (Inj l a) S h = ap (term.Inj l.text) (tree_same a S h)
    tree_same (Coll k es) S h = ap (term.Make k) (all_same es S h)
    tree_same (Comp k e qs) S h =
        quals_same qs k (λ R. term.Make k (trees (tree e c R) no_trees)) (λ R. term.Make k (trees (tree e d R) no_trees)) S (back (names e) (names_quals qs) c d h)
        (λ Q. ap (λ z. term.Make k (trees z no_trees)) (tree_same e Q (front (names e) (names_quals qs) c d h)))
    tree_same (If a b f) S h =
        let those = front (names a ++ names b) (names f) c d h in
        ap₂ (λ u v. term.If u v (tree f c S)) (tree_same a S (front (names a) (names b) c d those)) (tree_same b S (back (names a) (names b) c d those))
        ∙ ap (term.If (tree a d S) (tree b d S)) (tree_same f S (back (names a ++ names b) (names f) c d h))
    tree_same (Let p a b) S h =
        let those = front (pattern_names p ++ names a) (names b) c d h in
        ap₂ term.Let (tree_same a S (back (pattern_names p) (names a) c d those))
        (pattern_same p (here (length S)) S no_sense (λ R. tree b c R) (λ R. tree b d R) (None ∷ S) (front (pattern_names p) (names a) c d those) (λ Q. tree_same b Q (back (pattern_names p ++ names a) (names b) c d h)))
    tree_same (Case a bs) S h = ap₂ term.Case (tree_same a S (front (names a) (names_branches bs) c d h)) (branches_same bs S (back (names a) (names_branches bs) c d h))
    tree_same (Path a ls) S h = ap (projected ls) (tree_same a S h)
    tree_same (Not a) S h = ap (λ z. term.Prim 11 (trees z no_trees)) (tree_same a S h)
    tree_same (Neg a) S h = ap (λ z. term.Prim 10 (trees z no_trees)) (tree_same a S h)
    tree_same (Chain a ss) S h = steps_same ss (tree a c S) (tree a d S) S (tree_same a S (front (names a) (names_steps ss) c d h)) (back (names a) (names_steps ss) c d h)

    all_same : (es : Exps) (S : Scope) → AgreeOn (names_all es) c d → tree_all es c S ≡ tree_all es d S
    all_same no_exps S h = refl
    all_same (exps e es) S h = ap₂ trees (tree_same e S (front (names e) (names_all es) c d h)) (all_same es S (back (names e) (names_all es) c d h))

    fields_same : (fs : Flds) (S : Scope) → AgreeOn (names_fields fs) c d → tree_fields fs c S ≡ tree_fields fs d S
    fields_same no_flds S h = refl
    fields_same (flds l e fs) S h = ap₂ (λ z zs. (l.text, z) ∷ zs) (tree_same e S (front (names e) (names_fields fs) c d h)) (fields_same fs S (back (names e) (names_fields fs) c d h))

    quals_same : (qs : Quals) (k : Kind) (A B : Scope → Tree) (S : Scope) → AgreeOn (names_quals qs) c d → ((Q : Scope) → A Q ≡ B Q) → tree_quals qs k A c S ≡ tree_quals qs k B d S
    quals_same no_quals k A B S h j = j S
    quals_same (draw p s qs) k A B S h j =
        let those = front (pattern_names p ++ names s) (names_quals qs) c d h in
        ap₂ (term.Ext k)
        (pattern_same p (here (length S)) S (empty k) (λ R. tree_quals qs k A c R) (λ R. tree_quals qs k B d R) (None ∷ S) (front (pattern_names p) (names s) c d those)
        (λ Q. quals_same qs k A B Q (back (pattern_names p ++ names s) (names_quals qs) c d h) j))
        (tree_same s S (back (pattern_names p) (names s) c d those))
    quals_same (test e qs) k A B S h j = ap₂ (λ u v. term.If u v (empty k)) (tree_same e S (front (names e) (names_quals qs) c d h)) (quals_same qs k A B S (back (names e) (names_quals qs) c d h) j)

    branches_same : (bs : Branches) (S : Scope) → AgreeOn (names_branches bs) c d → tree_branches bs c S ≡ tree_branches bs d S
    branches_same no_branches S h = refl
    branches_same (otherwise e) S h = ap term.rest (tree_same e S h)
    branches_same (branch l p e bs) S h =
        let those = front (pattern_names p ++ names e) (names_branches bs) c d h in
        ap₂ (term.arm l.text)
        (pattern_same p (here (length S)) S no_sense (λ R. tree e c R) (λ R. tree e d R) (None ∷ S) (front (pattern_names p) (names e) c d those) (λ Q. tree_same e Q (back (pattern_names p) (names e) c d those)))
        (branches_same bs S (back (pattern_names p ++ names e) (names_branches bs) c d h))

    steps_same : (ss : Steps) (t u : Tree) (S : Scope) → t ≡ u → AgreeOn (names_steps ss) c d → tree_steps ss t c S ≡ tree_steps ss u d S
    steps_same no_steps t u S i h = i
    steps_same (step o e ss) t u S i h =
        steps_same ss (operated_tree o t (tree e c S)) (operated_tree o u (tree e d S)) S (ap₂ (operated_tree o) i (tree_same e S (front (names e) (names_steps ss) c d h))) (back (names e) (names_steps ss) c d h)

function_same : (c d : Codes) (p : Pat) (a : Exp) → AgreeOn (pattern_names p ++ names a) c d → function_tree p a c ≡ function_tree p a d
function_same c d p a h =
    pattern_same c d p (here 0) [] no_sense (λ R. tree a c R) (λ R. tree a d R) (None ∷ []) (front (pattern_names p) (names a) c d h) (λ Q. tree_same c d a Q (back (pattern_names p) (names a) c d h))

-- one definition more
both_with : (xs : List Word) (n : Name) (k j : Code) (c d : Codes) → k ≡ j → AgreeOn xs c d → AgreeOn xs (with_code n k c) (with_code n j d)
both_with [] n k j c d i h = tt
both_with (x ∷ xs) n k j c d i h = (ap₂ (λ u v. cond (same_name x.text n) u v) i h.0, both_with xs n k j c d i h.1)

either_with : (xs : List Word) (n : Name) (k : Code) (c d : Codes) → is_among xs n ≡ false → AgreeOn xs c d → AgreeOn xs c (with_code n k d)
either_with [] n k c d not h = tt
either_with (x ∷ xs) n k c d not h =
    elim (same_name x.text n) as (λ b. cond b true (is_among xs n) ≡ false → AgreeOn xs c (with_code n k d) → (c x.text ≡ cond b k (d x.text)) × AgreeOn xs c (with_code n k d)) [
      | true ↦ λ i g. absurd (true≢false i)
      | false ↦ λ i g. (h.0, g)
    ] not (either_with xs n k c d (not_there (same_name x.text n) not) h.1)
  where
    not_there : (b : Bool) → cond b true (is_among xs n) ≡ false → is_among xs n ≡ false
    not_there true i = absurd (true≢false i)
    not_there false i = i

reached_same : (ds : Decls) (e : Exp) (c d : Codes) → AgreeOn (wanted ds e) c d → tree e (codes_after (reached ds e) c) [] ≡ tree e (codes_after ds d) []
reached_same no_decls e c d h = tree_same c d e [] h
reached_same (constant n a ds) e c d h =
    let xs = wanted ds e in
    let j = value_by (tree a d []) in
    elim (is_among xs n.text) as (λ b. is_among xs n.text ≡ b → AgreeOn (xs ++ if_among b (names a)) c d → tree e (codes_after (kept_if b (constant n a) (reached ds e)) c) [] ≡ tree e (codes_after ds (with_code n.text j d)) []) [
      | true ↦ λ i g. reached_same ds e _ _ (both_with xs n.text (value_by (tree a c [])) j c d (ap value_by (tree_same c d a [] (back xs (names a) c d g))) (front xs (names a) c d g))
      | false ↦ λ i g. reached_same ds e _ _ (either_with xs n.text j c d i (front xs [] c d g))
    ] refl h
reached_same (function n p a ds) e c d h =
    let xs = wanted ds e in
    let ys = pattern_names p ++ names a in
    let j = function_by (function_tree p a d) in
    elim (is_among xs n.text) as (λ b. is_among xs n.text ≡ b → AgreeOn (xs ++ if_among b ys) c d → tree e (codes_after (kept_if b (function n p a) (reached ds e)) c) [] ≡ tree e (codes_after ds (with_code n.text j d)) []) [
      | true ↦ λ i g. reached_same ds e _ _ (both_with xs n.text (function_by (function_tree p a c)) j c d
          (ap function_by (function_same c d p a (back xs ys c d g))) (front xs ys c d g))
      | false ↦ λ i g. reached_same ds e _ _ (either_with xs n.text j c d i (front xs [] c d g))
    ] refl h

pub reached_term : (ds : Decls) (e : Exp) (sources : List Name) → tree e (codes_after (reached ds e) (codes_first sources)) [] ≡ term_of ds e sources
reached_term ds e sources = reached_same ds e (codes_first sources) (codes_first sources) (same_always (wanted ds e) (codes_first sources))
