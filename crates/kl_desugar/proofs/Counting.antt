-- The term of a program is not larger than what is counted over the program.
use Rattle.std.proofs.Common.{◌≡◌, ℕ, suc, ◌+◌, ◌≤◌, max, Bool, true, false, cond, List, [], ◌∷◌, ◌++◌, length, get_or, map, Option, Some, None, Result, Ok, Err, IfOk, refl, sym, ap, subst, ◌∙◌, arith, append_assoc, append-nil, length-append, is_gt, if◌then◌else◌}
use Rattle.std.specs.List.{AllByRecursion}
use Rattle.std.specs.Option.{option_map, option_or}
use Rattle.std.proofs.Math.Seq.{get_or-append_seam}
use Rattle.std.proofs.lemmas.Bool.{ne_eqb}
use Rattle.std.proofs.lemmas.List.Elements.{recursion_from_All}
use Rattle.kl_base.specs.Sorted.{put_in}
use Rattle.kl_value.specs.declared.Kind.{Kind}
use Rattle.kl_outcome.specs.Outcome.{Name}
use Rattle.kl_syntax.specs.declared.tree.Meaning.TheVariants.{Variable, Definition, Source}
use Rattle.kl_syntax.specs.declared.tree.Op.{Op}
use Rattle.kl_syntax.specs.declared.tree.Program.{Program}
use Rattle.kl_syntax.specs.declared.tree.Op.TheVariants as op
use Rattle.kl_syntax.specs.declared.tree.Tail.{Tail}
use Rattle.kl_syntax.specs.declared.tree.Tail.TheVariants as tail
use Rattle.kl_syntax.specs.declared.tree.Word.{Word}
use Rattle.kl_syntax.specs.Syntax.{Pat, catch, any, same, is, shape, variant, Pats, no_pats, pats, Exp, Const, name, Call, Rec, More, Inj, Coll, Comp, If, Let, Case, Path, Not, Neg, Chain, Exps, no_exps, exps, Flds, no_flds, flds, Quals, no_quals, draw, test, Branches, no_branches, otherwise, branch, Steps, no_steps, step, Decls, no_decls, constant, function}
use Rattle.kl_syntax.specs.View.{view, decls_of}
use Rattle.kl_scope.specs.declared.names.Sense.{Sense}
use Rattle.kl_scope.specs.declared.refusal.ScopeError.TheVariants.{Misapplied}
use Rattle.kl_scope.specs.declared.scoped.Scoped.{Scoped}
use Rattle.kl_scope.specs.declared.terms.Size.{Size}
use Rattle.kl_scope.specs.Findings.{breach, only_if, not_as_taken, mention_in, repeated, field_labels, branch_labels, count, used, may_fail, pattern_findings, patterns_findings, drawn_findings, sure_findings, behind, findings, findings_all, findings_fields, findings_quals, findings_branches, findings_steps, taken, decls_findings, behind_decls}
use Rattle.kl_scope.specs.Limits.{IsWithin, program_sizes}
use Rattle.kl_scope.specs.Patterns.{variables, pattern_labels, tests, within}
use Rattle.kl_scope.specs.Resolved.{meant, resolved_pat, resolved_pats, resolved, resolved_all, resolved_fields, resolved_quals, resolved_branches, resolved_steps, resolved_decls}
use Rattle.kl_scope.specs.Senses.{Scope as Seen, sense, place_in, definition_in, source_in, primitive_of, named, called, at_first, defined}
use Rattle.kl_scope.specs.Sizes as size
use Rattle.kl_scope.specs.Sizes.{beside, node, leaf, callee, sized, sized_all, sized_fields, qualified, sized_branches, chained, declared}
use Rattle.kl_meaning.specs.Match.{same_name}
use Rattle.kl_meaning.specs.Run.{by_label, code_named, in_order}
use Rattle.kl_core.specs.Counts.{nodes_of, nodes_trees, nodes_parts, nodes_arms, depth_of, depth_trees, depth_parts, depth_arms}
use Rattle.kl_core.specs.declared.term.Term.{Term}
use Rattle.kl_core.specs.Trees as term
use Rattle.kl_core.specs.Trees.{Tree, Trees, no_trees, trees, Arms}
use Rattle.kl_desugar.specs.Small.{IsSmall, StaysSmall}
use Rattle.kl_desugar.specs.Translation.{Scope, level_of, Place, here, inside, place_tree, Code, value_by, function_by, primitive_by, Codes, no_sense, level_tree, name_tree, with_rest, tested, matched, matched_fields, empty, called_tree, operated_tree, projected, matched_here, tree, tree_all, tree_fields, tree_quals, tree_branches, tree_steps, number_of, code_at, codes_first, with_code, function_tree, codes_after, term_of}
use Rattle.kl_desugar.specs.Translation as translation
use Rattle.kl_desugar.specs.Layers.{after_tail, after_pat, after_pats, after_quals}
use Rattle.kl_desugar.proofs.Scopes.{text_is, turned, standing, Both, both_more, Matches, here_matches, quals_match, seen}
use Rattle.kl_desugar.proofs.Tidying.{Clean, first_clean, last_clean, never_breach}

-- ---- so many nodes, so deep

abbrev Fits : ℕ → ℕ → Size → Type 0
Fits n d s = (n ≤ s.nodes) × (d ≤ s.depth)

abbrev Within : Tree → Size → Type 0
Within t s = Fits (nodes_of t) (depth_of t) s

leaf_fits : Fits 1 1 leaf
leaf_fits = (omega arith, omega arith)

none_fits : (s : Size) → Fits 0 0 s
none_fits s = (omega arith, omega arith)

node_fits : (n d : ℕ) (s : Size) → Fits n d s → Fits (1 + n) (1 + d) (node s)
unfolding node
node_fits n d s h = (omega (arith, h.0), omega (arith, h.1))

node_one : (s : Size) → Fits 1 1 (node s)
unfolding node
node_one s = (omega arith, omega arith)

beside_fits : (n d m e : ℕ) (a b : Size) → Fits n d a → Fits m e b → Fits (n + m) (max d e) (beside a b)
unfolding beside
beside_fits n d m e a b h k = (omega (arith, h.0, k.0), omega (arith, h.1, k.1))

-- alone, and beside nothing
and_none : (n d : ℕ) (s : Size) → Fits n d s → Fits (n + 0) (max d 0) s
and_none n d s h = (omega (arith, h.0), omega (arith, h.1))

but_none : (n d : ℕ) (s : Size) → Fits (n + 0) (max d 0) s → Fits n d s
but_none n d s h = (omega (arith, h.0), omega (arith, h.1))

first_fits : (n d : ℕ) (a b : Size) → Fits n d a → Fits n d (beside a b)
first_fits n d a b h = but_none n d (beside a b) (beside_fits n d 0 0 a b h (none_fits b))

-- ---- fields by rising label are as many

put_nodes : (x : Name × Tree) (ys : List (Name × Tree)) → nodes_parts (term.parts_of (put_in by_label x ys)) ≡ nodes_of x.1 + nodes_parts (term.parts_of ys)
put_nodes x [] = refl
put_nodes x (y ∷ ys) =
    elim (is_gt (by_label x y)) as (λ b. nodes_parts (term.parts_of (cond b (y ∷ put_in by_label x ys) (x ∷ y ∷ ys))) ≡ nodes_of x.1 + (nodes_of y.1 + nodes_parts (term.parts_of ys))) [
      | true ↦ (let e = put_nodes x ys in omega (arith, e))
      | false ↦ refl
    ]

put_depth : (x : Name × Tree) (ys : List (Name × Tree)) → depth_parts (term.parts_of (put_in by_label x ys)) ≡ max (depth_of x.1) (depth_parts (term.parts_of ys))
put_depth x [] = refl
put_depth x (y ∷ ys) =
    elim (is_gt (by_label x y)) as (λ b. depth_parts (term.parts_of (cond b (y ∷ put_in by_label x ys) (x ∷ y ∷ ys))) ≡ max (depth_of x.1) (max (depth_of y.1) (depth_parts (term.parts_of ys)))) [
      | true ↦ (let e = put_depth x ys in omega (arith, e))
      | false ↦ refl
    ]

order_nodes : (ps : List (Name × Tree)) → nodes_parts (term.parts_of (in_order ps)) ≡ nodes_parts (term.parts_of ps)
order_nodes [] = refl
order_nodes (p ∷ ps) = put_nodes p (in_order ps) ∙ ap (λ n. nodes_of p.1 + n) (order_nodes ps)

order_depth : (ps : List (Name × Tree)) → depth_parts (term.parts_of (in_order ps)) ≡ depth_parts (term.parts_of ps)
order_depth [] = refl
order_depth (p ∷ ps) = put_depth p (in_order ps) ∙ ap (λ n. max (depth_of p.1) n) (order_depth ps)

record_fits : (ps : List (Name × Tree)) (s : Size) → Fits (nodes_parts (term.parts_of ps)) (depth_parts (term.parts_of ps)) s → Within (term.Rec (term.parts_of (in_order ps))) (node s)
record_fits ps s h = node_fits _ _ s (rw (order_nodes ps, order_depth ps) h)

-- ---- what names stand for

-- a definition or a source, at a size that its term does not pass
abbrev CodeFits : Option Sense → Code → List Size → Type 0
CodeFits (Some q) (value_by t) ds = Within t (size.named q.means ds)
CodeFits (Some q) (function_by t) ds = (q.takes ≡ 1) × Within t (callee q.means ds)
CodeFits (Some q) (primitive_by c) ds = ⊥
CodeFits (Some q) translation.nothing ds = ⊥
CodeFits None (value_by t) ds = ⊥
CodeFits None (function_by t) ds = ⊥
CodeFits None (primitive_by c) ds = Unit {0}
CodeFits None translation.nothing ds = Unit {0}

abbrev CodesFit : List (Name × Bool) → List Name → Codes → List Size → Type 0
CodesFit defs sources codes ds = (x : Name) → CodeFits (standing defs sources x) (codes x) ds

misapplied : (q : Sense) (w : Word) (n : ℕ) → not_as_taken q.takes n ≡ true → Clean (used (Some q) w n) → ⊥
misapplied q w n h clean =
    never_breach (Misapplied w.text w.token) []
    (subst (λ b. Clean (only_if b (breach (Misapplied w.text w.token)))) h (last_clean (mention_in q.means) (only_if (not_as_taken q.takes n) (breach (Misapplied w.text w.token))) clean))

level_fits : (l i : Option ℕ) (o : Option Sense) (c : Code) (w : Word) (n : ℕ) (ds : List Size) → Both l i → CodeFits o c ds → Clean (used (option_or (option_map (λ i. sense (Variable i) 0) i) o) w 0)
    → Within (level_tree l c n) (size.named (meant (option_or (option_map (λ i. sense (Variable i) 0) i) o) w).means ds)
level_fits (Some m) (Some i) o c w n ds b h clean = leaf_fits
level_fits (Some m) None o c w n ds b h clean = absurd b
level_fits None (Some i) o c w n ds b h clean = absurd b
level_fits None None (Some q) (value_by t) w n ds b h clean = h
level_fits None None (Some q) (function_by t) w n ds b h clean = absurd (misapplied q w 0 (ap (λ k. not_as_taken k 0) h.0) clean)
level_fits None None (Some q) (primitive_by c) w n ds b h clean = absurd h
level_fits None None (Some q) translation.nothing w n ds b h clean = absurd h
level_fits None None None c w n ds b h clean = absurd (never_breach _ [] clean)

some_given : (n : ℕ) → not_as_taken 0 (suc n) ≡ true
some_given n = rw (ne_eqb 0 (suc n) (λ e. omega (arith, e))) refl

call_one : (t : Tree) (ts : Trees) (a b : Size) → Fits (nodes_trees ts) (depth_trees ts) a → Within t b → Within (called_tree (function_by t) ts) (node (beside a b))
call_one t no_trees a b h k = node_one (beside a b)
call_one t (trees x no_trees) a b h k = node_fits _ _ _ (beside_fits _ _ _ _ a b (but_none _ _ a h) k)
call_one t (trees x (trees y ts)) a b h k = node_one (beside a b)

call_fits : (i : Option ℕ) (o p : Option Sense) (c : Code) (w : Word) (es : Exps) (s : Seen) (codes : Codes) (S : Scope) (a : Size) (ds : List Size) → CodeFits o c ds
    → Clean (used (option_or (option_or (option_map (λ i. sense (Variable i) 0) i) o) p) w (count es)) → Fits (nodes_trees (tree_all (resolved_all es s) codes S)) (depth_trees (tree_all (resolved_all es s) codes S)) a
    → Within (called_tree c (tree_all (resolved_all es s) codes S)) (node (beside a (callee (meant (option_or (option_or (option_map (λ i. sense (Variable i) 0) i) o) p) w).means ds)))
call_fits (Some i) o p (value_by t) w es s codes S a ds h clean k = node_one _
call_fits (Some i) o p translation.nothing w es s codes S a ds h clean k = node_one _
call_fits (Some i) o p (primitive_by d) w es s codes S a ds h clean k = node_fits _ _ _ (first_fits _ _ a _ k)
call_fits (Some i) o p (function_by t) w no_exps s codes S a ds h clean k = node_one _
call_fits (Some i) o p (function_by t) w (exps e es) s codes S a ds h clean k = absurd (misapplied (sense (Variable i) 0) w (suc (count es)) (some_given (count es)) clean)
call_fits None (Some q) p (value_by t) w es s codes S a ds h clean k = node_one _
call_fits None (Some q) p (function_by t) w es s codes S a ds h clean k = call_one t (tree_all (resolved_all es s) codes S) a _ k h.1
call_fits None (Some q) p (primitive_by d) w es s codes S a ds h clean k = absurd h
call_fits None (Some q) p translation.nothing w es s codes S a ds h clean k = absurd h
call_fits None None p (value_by t) w es s codes S a ds h clean k = absurd h
call_fits None None p (function_by t) w es s codes S a ds h clean k = absurd h
call_fits None None p (primitive_by d) w es s codes S a ds h clean k = node_fits _ _ _ (first_fits _ _ a _ k)
call_fits None None p translation.nothing w es s codes S a ds h clean k = node_one _

-- ---- parts of forms

abbrev PlaceFits : Place → Size → Type 0
PlaceFits t s = (n : ℕ) → Within (place_tree t n) s

tested_fits : (t u a e : Tree) (p q r : Size) → Within t p → Within u q → Within a r → Within e leaf → Within (tested t u a e) (node (beside (node (beside p q)) (beside r leaf)))
tested_fits t u a e p q r h k g z = node_fits _ _ _ (beside_fits _ _ _ _ _ _ (node_fits _ _ _ (beside_fits _ _ _ _ p q h (and_none _ _ q k))) (beside_fits _ _ _ _ r leaf g z))

pair_fits : (a b : Tree) (p q : Size) → Within a p → Within b q → Fits (1 + (nodes_of a + (nodes_of b + 0))) (1 + max (depth_of a) (max (depth_of b) 0)) (node (beside p (beside q size.no_parts)))
pair_fits a b p q h k = node_fits _ _ _ (beside_fits _ _ _ _ p _ h (beside_fits _ _ _ _ q size.no_parts k (none_fits size.no_parts)))

operated_fits : (c : Op) (a b : Tree) (p q : Size) → Within a p → Within b q → Within (operated_tree c a b) (node (beside p (beside q (size.third c))))
operated_fits op.And a b p q h k = node_fits _ _ _ (beside_fits _ _ _ _ p _ h (beside_fits _ _ _ _ q leaf k leaf_fits))
operated_fits op.Or a b p q h k = less (node_fits _ _ _ (beside_fits _ _ _ _ p _ h (beside_fits _ _ _ _ q leaf k leaf_fits)))
  where
    less : Fits (1 + (nodes_of a + (nodes_of b + 1))) (1 + max (depth_of a) (max (depth_of b) 1)) (node (beside p (beside q leaf))) → Fits (1 + (nodes_of a + (1 + nodes_of b))) (1 + max (depth_of a) (max 1 (depth_of b))) (node (beside p (beside q leaf)))
    less g = (omega (arith, g.0), omega (arith, g.1))
operated_fits op.Append a b p q h k = node_fits _ _ _ (beside_fits _ _ _ _ p _ h (first_fits _ _ q size.no_parts k))
operated_fits op.Eq a b p q h k = pair_fits a b p q h k
operated_fits op.Ne a b p q h k = pair_fits a b p q h k
operated_fits op.Lt a b p q h k = pair_fits a b p q h k
operated_fits op.Le a b p q h k = pair_fits a b p q h k
operated_fits op.Gt a b p q h k = pair_fits a b p q h k
operated_fits op.Ge a b p q h k = pair_fits a b p q h k
operated_fits op.Add a b p q h k = pair_fits a b p q h k
operated_fits op.Sub a b p q h k = pair_fits a b p q h k
operated_fits op.Mul a b p q h k = pair_fits a b p q h k
operated_fits op.Cat a b p q h k = pair_fits a b p q h k

path_fits : (ls : List Word) (t : Tree) (s : Size) → Within t s → Within (projected ls t) (size.projected s ls)
path_fits [] t s h = h
path_fits (l ∷ ls) t s h = path_fits ls (term.Proj l.text t) (node s) (node_fits _ _ s h)

module _ (defs : List (Name × Bool)) (sources : List Name) (codes : Codes) (ds : List Size) (fit : CodesFit defs sources codes ds) where
  stands : (S : Scope) (s : Seen) (x : Name) → Matches defs sources S s → CodeFits (standing s.definitions s.sources x) (codes x) ds
  stands S s x m = rw (m.1, m.2) (fit x)

  name_fits : (S : Scope) (s : Seen) (w : Word) (n : ℕ) → Matches defs sources S s → Clean (used (named s w.text) w 0) → Within (name_tree codes S (meant (named s w.text) w).text n) (size.named (meant (named s w.text) w).means ds)
  name_fits S s w n m clean =
      subst (λ x. Within (name_tree codes S x n) (size.named (meant (named s w.text) w).means ds)) (sym (text_is (named s w.text) w))
      (level_fits (level_of w.text S) (place_in s.variables w.text) (standing s.definitions s.sources w.text) (codes w.text) w n ds (seen defs sources S s w.text m) (stands S s w.text m) clean)

  -- ---- patterns

  rest_fits : (end : Tail) (ps : Pats) (t : Place) (R : Scope) (A : Scope → Tree) (a b : Size) → PlaceFits t a → Within (A (after_tail end R)) b → Within (with_rest end ps t A R) (size.with_rest end a b)
  rest_fits (tail.Rest x) ps t R A a b h k = node_fits _ _ _ (beside_fits _ _ _ _ _ b (node_fits _ _ _ (beside_fits _ _ _ _ a leaf (h (length R)) (and_none _ _ leaf leaf_fits))) k)
  rest_fits tail.Exact ps t R A a b h k = k
  rest_fits tail.Open ps t R A a b h k = k

  module _ (S : Scope) (s : Seen) (m : Matches defs sources S s) (e : Tree) (missed : Within e leaf) where
    mutual
      matched_fits : (p : Pat) (t : Place) (R : Scope) (A : Scope → Tree) (a b : Size) → PlaceFits t a → Within (A (after_pat (resolved_pat p s) R)) b → Clean (pattern_findings p s) → Within (matched (resolved_pat p s) t codes S e A R) (size.matched (resolved_pat p s) a b ds)
      matched_fits (catch x) t R A a b h k clean = node_fits _ _ _ (beside_fits _ _ _ _ a b (h (length R)) k)
      matched_fits any t R A a b h k clean = k
      matched_fits (same x) t R A a b h k clean = tested_fits (place_tree t (length R)) (name_tree codes S (meant (named s x.text) x).text (length R)) (A R) e a (size.named (meant (named s x.text) x).means ds) b (h (length R)) (name_fits S s x (length R) m clean) k missed
      matched_fits (is v n) t R A a b h k clean = tested_fits (place_tree t (length R)) (term.Const v) (A R) e a leaf b (h (length R)) leaf_fits k missed
      matched_fits (shape ps end) t R A a b h k clean =
          fields_fit ps t R (λ Q. with_rest end (resolved_pats ps s) t A Q) a (size.with_rest end a b) h
          (rest_fits end (resolved_pats ps s) t (after_pats (resolved_pats ps s) R) A a b h k) (last_clean (repeated [] (pattern_labels ps)) _ clean)
      matched_fits (variant l p) t R A a b h k clean =
          node_fits _ _ _ (beside_fits _ _ _ _ a _ (h (length R)) (beside_fits _ _ _ _ _ leaf (matched_fits p (here (length R)) (None ∷ R) A leaf b (λ n. leaf_fits) k clean) missed))

      fields_fit : (ps : Pats) (t : Place) (R : Scope) (A : Scope → Tree) (a b : Size) → PlaceFits t a → Within (A (after_pats (resolved_pats ps s) R)) b → Clean (patterns_findings ps s) → Within (matched_fields (resolved_pats ps s) t codes S e A R) (size.matched_fields (resolved_pats ps s) a b ds)
      fields_fit no_pats t R A a b h k clean = k
      fields_fit (pats l p ps) t R A a b h k clean =
          matched_fits p (inside l.text t) R (λ Q. matched_fields (resolved_pats ps s) t codes S e A Q) (node a) _ (λ n. node_fits _ _ a (h n))
          (fields_fit ps t (after_pat (resolved_pat p s) R) A a b h k (last_clean (pattern_findings p s) _ clean)) (first_clean _ (patterns_findings ps s) clean)

    here_fits : (p : Pat) (A : Scope → Tree) (b : Size) → Within (A (after_pat (resolved_pat p s) (None ∷ S))) b → Clean (pattern_findings p s) → Within (matched_here (resolved_pat p s) codes S e A) (size.matched (resolved_pat p s) leaf b ds)
    here_fits p A b k clean = matched_fits p (here (length S)) (None ∷ S) A leaf b (λ n. leaf_fits) k clean

  drawn_clean : (p : Pat) (s : Seen) → Clean (drawn_findings p s) → Clean (pattern_findings p s)
  drawn_clean p s h = first_clean (pattern_findings p s) (repeated [] (variables p)) h

  sure_clean : (p : Pat) (s : Seen) → Clean (sure_findings p s) → Clean (pattern_findings p s)
  sure_clean p s h = drawn_clean p s (last_clean (map may_fail (tests p)) (drawn_findings p s) h)

  -- ---- expressions

  mutual
    tree_fits : (e : Exp) (S : Scope) (s : Seen) → Matches defs sources S s → Clean (findings e s) → Within (tree (resolved e s) codes S) (sized (resolved e s) ds)
    tree_fits (Const v) S s m h = leaf_fits
    tree_fits (name w) S s m h = name_fits S s w (length S) m h
    tree_fits (Call f es) S s m h =
        subst (λ x. Within (called_tree (codes x) (tree_all (resolved_all es s) codes S)) (sized (resolved (Call f es) s) ds)) (sym (text_is (called s f.text) f))
        (call_fits (place_in s.variables f.text) (standing s.definitions s.sources f.text) (primitive_of f.text) (codes f.text) f es s codes S _ ds (stands S s f.text m)
        (first_clean _ (findings_all es s) h) (all_fit es S s m (last_clean (used (called s f.text) f (count es)) _ h)))
    tree_fits (Rec fs) S s m h = record_fits (tree_fields (resolved_fields fs s) codes S) _ (parts_fit fs S s m (last_clean (repeated [] (field_labels fs)) _ h))
    tree_fits (More fs a) S s m h =
        let k = last_clean (repeated [] (field_labels fs)) (findings_fields fs s ++ findings a s) h in
        node_fits _ _ _ (beside_fits _ _ _ _ _ _ (record_fits (tree_fields (resolved_fields fs s) codes S) _ (parts_fit fs S s m (first_clean _ (findings a s) k)))
        (and_none _ _ _ (tree_fits a S s m (last_clean (findings_fields fs s) _ k))))
    tree_fits (Inj l a) S s m h = node_fits _ _ _ (tree_fits a S s m h)
    tree_fits (Coll k es) S s m h = node_fits _ _ _ (all_fit es S s m h)
    tree_fits (Comp k e qs) S s m h =
        quals_fit qs k (λ R. term.Make k (trees (tree (resolved e (behind qs s)) codes R) no_trees)) S s _ m
        (node_fits _ _ _ (and_none _ _ _ (tree_fits e (after_quals (resolved_quals qs s) S) (behind qs s) (quals_match defs sources qs S s m) (last_clean (findings_quals qs s) _ h))))
        (first_clean _ (findings e (behind qs s)) h)
    tree_fits (If a b c) S s m h =
        let k = last_clean (findings a s) (findings b s ++ findings c s) h in
        node_fits _ _ _ (beside_fits _ _ _ _ _ _ (tree_fits a S s m (first_clean _ (findings b s ++ findings c s) h)) (beside_fits _ _ _ _ _ _ (tree_fits b S s m (first_clean _ (findings c s) k)) (tree_fits c S s m (last_clean (findings b s) _ k))))
    tree_fits (Let p a b) S s m h =
        let k = last_clean (findings a s) (sure_findings p s ++ findings b (within p s)) h in
        node_fits _ _ _ (beside_fits _ _ _ _ _ _ (tree_fits a S s m (first_clean _ (sure_findings p s ++ findings b (within p s)) h))
        (here_fits S s m no_sense leaf_fits p (λ R. tree (resolved b (within p s)) codes R) _ (tree_fits b (after_pat (resolved_pat p s) (None ∷ S)) (within p s) (here_matches defs sources p S s m) (last_clean (sure_findings p s) _ k))
        (sure_clean p s (first_clean _ (findings b (within p s)) k))))
    tree_fits (Case a bs) S s m h =
        let k = last_clean (findings a s) (repeated [] (branch_labels bs) ++ findings_branches bs s) h in
        node_fits _ _ _ (beside_fits _ _ _ _ _ _ (tree_fits a S s m (first_clean _ (repeated [] (branch_labels bs) ++ findings_branches bs s) h)) (branches_fit bs S s m (last_clean (repeated [] (branch_labels bs)) _ k)))
    tree_fits (Path a ls) S s m h = path_fits ls _ _ (tree_fits a S s m h)
    tree_fits (Not a) S s m h = node_fits _ _ _ (and_none _ _ _ (tree_fits a S s m h))
    tree_fits (Neg a) S s m h = node_fits _ _ _ (and_none _ _ _ (tree_fits a S s m h))
    tree_fits (Chain a ss) S s m h = steps_fit ss _ S s _ m (tree_fits a S s m (first_clean _ (findings_steps ss s) h)) (last_clean (findings a s) _ h)

    all_fit : (es : Exps) (S : Scope) (s : Seen) → Matches defs sources S s → Clean (findings_all es s) → Fits (nodes_trees (tree_all (resolved_all es s) codes S)) (depth_trees (tree_all (resolved_all es s) codes S)) (sized_all (resolved_all es s) ds)
    all_fit no_exps S s m h = none_fits size.no_parts
    all_fit (exps e es) S s m h = beside_fits _ _ _ _ _ _ (tree_fits e S s m (first_clean _ (findings_all es s) h)) (all_fit es S s m (last_clean (findings e s) _ h))

    parts_fit : (fs : Flds) (S : Scope) (s : Seen) → Matches defs sources S s → Clean (findings_fields fs s) → Fits (nodes_parts (term.parts_of (tree_fields (resolved_fields fs s) codes S))) (depth_parts (term.parts_of (tree_fields (resolved_fields fs s) codes S))) (sized_fields (resolved_fields fs s) ds)
    parts_fit no_flds S s m h = none_fits size.no_parts
    parts_fit (flds l e fs) S s m h = beside_fits _ _ _ _ _ _ (tree_fits e S s m (first_clean _ (findings_fields fs s) h)) (parts_fit fs S s m (last_clean (findings e s) _ h))

    quals_fit : (qs : Quals) (k : Kind) (A : Scope → Tree) (S : Scope) (s : Seen) (a : Size) → Matches defs sources S s → Within (A (after_quals (resolved_quals qs s) S)) a → Clean (findings_quals qs s) → Within (tree_quals (resolved_quals qs s) k A codes S) (qualified (resolved_quals qs s) a ds)
    quals_fit no_quals k A S s a m g h = g
    quals_fit (draw p e qs) k A S s a m g h =
        let j = last_clean (findings e s) (drawn_findings p s ++ findings_quals qs (within p s)) h in
        node_fits _ _ _ (beside_fits _ _ _ _ _ _
        (here_fits S s m (empty k) leaf_fits p (λ R. tree_quals (resolved_quals qs (within p s)) k A codes R) _ (quals_fit qs k A (after_pat (resolved_pat p s) (None ∷ S)) (within p s) a (here_matches defs sources p S s m) g (last_clean (drawn_findings p s) _ j))
        (drawn_clean p s (first_clean _ (findings_quals qs (within p s)) j)))
        (tree_fits e S s m (first_clean _ (drawn_findings p s ++ findings_quals qs (within p s)) h)))
    quals_fit (test c qs) k A S s a m g h =
        node_fits _ _ _ (beside_fits _ _ _ _ _ _ (tree_fits c S s m (first_clean _ (findings_quals qs s) h)) (beside_fits _ _ _ _ _ leaf (quals_fit qs k A S s a m g (last_clean (findings c s) _ h)) leaf_fits))

    branches_fit : (bs : Branches) (S : Scope) (s : Seen) → Matches defs sources S s → Clean (findings_branches bs s) → Fits (nodes_arms (tree_branches (resolved_branches bs s) codes S)) (depth_arms (tree_branches (resolved_branches bs s) codes S)) (sized_branches (resolved_branches bs s) ds)
    branches_fit no_branches S s m h = none_fits size.no_parts
    branches_fit (otherwise c) S s m h = tree_fits c S s m h
    branches_fit (branch l p e bs) S s m h =
        let k = last_clean (sure_findings p s) (findings e (within p s) ++ findings_branches bs s) h in
        beside_fits _ _ _ _ _ _
        (here_fits S s m no_sense leaf_fits p (λ R. tree (resolved e (within p s)) codes R) _ (tree_fits e (after_pat (resolved_pat p s) (None ∷ S)) (within p s) (here_matches defs sources p S s m) (first_clean _ (findings_branches bs s) k))
        (sure_clean p s (first_clean _ (findings e (within p s) ++ findings_branches bs s) h)))
        (branches_fit bs S s m (last_clean (findings e (within p s)) _ k))

    steps_fit : (ss : Steps) (a : Tree) (S : Scope) (s : Seen) (b : Size) → Matches defs sources S s → Within a b → Clean (findings_steps ss s) → Within (tree_steps (resolved_steps ss s) a codes S) (chained b (resolved_steps ss s) ds)
    steps_fit no_steps a S s b m g h = g
    steps_fit (step c e ss) a S s b m g h =
        steps_fit ss _ S s _ m (operated_fits c a _ b _ g (tree_fits e S s m (first_clean _ (findings_steps ss s) h))) (last_clean (findings e s) _ h)

  -- a function's parameter
  function_fits : (p : Pat) (e : Exp) (s : Seen) → Matches defs sources [] s → Clean (sure_findings p s) → Clean (findings e (within p s)) → Within (function_tree (resolved_pat p s) (resolved e (within p s)) codes) (size.matched (resolved_pat p s) leaf (sized (resolved e (within p s)) ds) ds)
  function_fits p e s m h k =
      here_fits [] s m no_sense leaf_fits p (λ R. tree (resolved e (within p s)) codes R) _ (tree_fits e (after_pat (resolved_pat p s) (None ∷ [])) (within p s) (here_matches defs sources p [] s m) k) (sure_clean p s h)

-- ---- programs

-- whatever definitions come behind these
abbrev Onward : List (Name × Bool) → List Name → Codes → List Size → Type 0
Onward defs sources codes known = (more : List Size) → CodesFit defs sources codes (known ++ more)

by_now : (defs : List (Name × Bool)) (sources : List Name) (codes : Codes) (known : List Size) → Onward defs sources codes known → CodesFit defs sources codes known
by_now defs sources codes known fit = subst (CodesFit defs sources codes) (append-nil known) (fit [])

same_at : (known more : List Size) (x : Size) (n : ℕ) → n ≡ length known → get_or ((known ++ x ∷ []) ++ more) n leaf ≡ x
same_at known more x n e = ap (λ k. get_or ((known ++ x ∷ []) ++ more) k leaf) e ∙ ap (λ l. get_or l (length known) leaf) (append_assoc known (x ∷ []) more) ∙ get_or-append_seam known x more leaf

one_more : (b : Bool) (q : Sense) (o r : Option Sense) (c d : Code) (ds : List Size) → CodeFits (Some q) c ds → CodeFits (option_or o r) d ds → CodeFits (option_or (if b then Some q else o) r) (cond b c d) ds
one_more true q o r c d ds h k = h
one_more false q o r c d ds h k = k

further : (defs : List (Name × Bool)) (sources : List Name) (codes : Codes) (known : List Size) (x : Name) (f : Bool) (c : Code) (a : Size) → Onward defs sources codes known
    → ((more : List Size) → CodeFits (Some (sense (Definition (length defs)) (if f then 1 else 0))) c ((known ++ a ∷ []) ++ more))
    → Onward ((x, f) ∷ defs) sources (with_code x c codes) (known ++ a ∷ [])
further defs sources codes known x f c a fit new more y =
    rw (turned y x)
    (one_more (same_name y x) _ (definition_in defs y) (source_in sources y) c (codes y) _ (new more)
    (subst (CodeFits (standing defs sources y) (codes y)) (sym (append_assoc known (a ∷ []) more)) (fit (a ∷ more) y)))

longer : (defs : List (Name × Bool)) (known : List Size) (b : Size) → length defs ≡ length known → suc (length defs) ≡ length (known ++ b ∷ [])
longer defs known b n = let e = length-append known (b ∷ []) in omega (arith, n, e)

program_fits : (ds : Decls) (e : Exp) (s : Seen) (codes : Codes) (known : List Size) → length s.definitions ≡ length known → [] ≡ s.variables → Onward s.definitions s.sources codes known
    → Clean (decls_findings ds s) → Clean (findings e (behind_decls ds s)) → AllByRecursion IsWithin (declared (resolved_decls ds s) (resolved e (behind_decls ds s)) known) → IsSmall (tree (resolved e (behind_decls ds s)) (codes_after (resolved_decls ds s) codes) [])
program_fits no_decls e s codes known n v fit h k w =
    let f = tree_fits s.definitions s.sources codes known (by_now s.definitions s.sources codes known fit) e [] s (v, refl, refl) k in
    (omega (arith, f.0, w.0.0), omega (arith, f.1, w.0.1))
program_fits (constant x a ds) e s codes known n v fit h k w =
    let g = last_clean (taken s x) (findings a s ++ decls_findings ds (defined s x.text false)) h in
    let b = sized (resolved a s) known in
    let f = tree_fits s.definitions s.sources codes known (by_now s.definitions s.sources codes known fit) a [] s (v, refl, refl) (first_clean _ (decls_findings ds (defined s x.text false)) g) in
    program_fits ds e (defined s x.text false) (with_code x.text (value_by (tree (resolved a s) codes [])) codes) (known ++ b ∷ []) (longer s.definitions known b n) v
    (further s.definitions s.sources codes known x.text false (value_by (tree (resolved a s) codes [])) b fit (λ more. subst (Within (tree (resolved a s) codes [])) (sym (same_at known more b (length s.definitions) n)) f))
    (last_clean (findings a s) _ g) k w.1
program_fits (function x p a ds) e s codes known n v fit h k w =
    let g = last_clean (taken s x) (sure_findings p s ++ (findings a (within p s) ++ decls_findings ds (defined s x.text true))) h in
    let j = last_clean (sure_findings p s) (findings a (within p s) ++ decls_findings ds (defined s x.text true)) g in
    let b = size.matched (resolved_pat p s) leaf (sized (resolved a (within p s)) known) known in
    let f = function_fits s.definitions s.sources codes known (by_now s.definitions s.sources codes known fit) p a s (v, refl, refl) (first_clean _ (findings a (within p s) ++ decls_findings ds (defined s x.text true)) g) (first_clean _ (decls_findings ds (defined s x.text true)) j) in
    program_fits ds e (defined s x.text true) (with_code x.text (function_by (function_tree (resolved_pat p s) (resolved a (within p s)) codes)) codes) (known ++ b ∷ []) (longer s.definitions known b n) v
    (further s.definitions s.sources codes known x.text true (function_by (function_tree (resolved_pat p s) (resolved a (within p s)) codes)) b fit (λ more. (refl, subst (Within (function_tree (resolved_pat p s) (resolved a (within p s)) codes)) (sym (same_at known more b (length s.definitions) n)) f)))
    (last_clean (findings a (within p s)) _ j) k w.1

-- ---- sources and primitives

first_of : (n i : Option ℕ) (c : Option ℕ) (ds : List Size) → Both n i → CodeFits (option_map (λ i. sense (Source i) 0) i) (code_at n c) ds
first_of (Some n) (Some i) c ds b = leaf_fits
first_of (Some n) None c ds b = absurd b
first_of None (Some i) c ds b = absurd b
first_of None None (Some c) ds b = tt
first_of None None None ds b = tt

number_seen : (x : Name) (ys : List Name) (i : ℕ) → Both (number_of x ys i) (place_in ys x)
number_seen x [] i = tt
number_seen x (y ∷ ys) i = rw (turned x y) (both_more (same_name x y) i (number_of x ys (suc i)) (place_in ys x) (number_seen x ys (suc i)))

first_fit : (sources : List Name) → Onward [] sources (codes_first sources) []
first_fit sources more x = first_of (number_of x sources 0) (place_in sources x) (code_named x) more (number_seen x sources 0)

small_by : (scoped : Scoped) (t : Tree) → t ≡ term_of (decls_of scoped.program.defs) (view scoped.program.last) scoped.sources → StaysSmall scoped t
small_by scoped t told p sources r limits =
    let first = at_first sources in
    let ds = decls_of p.defs in
    let all : Clean (decls_findings ds first ++ findings (view p.last) (behind_decls ds first)) = r.in_scope in
    let whole : t ≡ term_of (resolved_decls ds first) (resolved (view p.last) (behind_decls ds first)) sources = told ∙ rw (r.defs, r.last, r.sources_kept) refl in
    let each : AllByRecursion IsWithin (program_sizes scoped.program) = recursion_from_All IsWithin (program_sizes scoped.program) limits in
    let sizes : AllByRecursion IsWithin (declared (resolved_decls ds first) (resolved (view p.last) (behind_decls ds first)) []) = subst (λ l. AllByRecursion IsWithin (declared (resolved_decls ds first) l [])) r.last (subst (λ d. AllByRecursion IsWithin (declared d (view scoped.program.last) [])) r.defs each) in
    subst IsSmall (sym whole)
    (program_fits ds (view p.last) first (codes_first sources) [] refl refl (first_fit sources) (first_clean _ (findings (view p.last) (behind_decls ds first)) all) (last_clean (decls_findings ds first) _ all) sizes)

pub small_ok : {X : Type 0} (r : Result Term X) (scoped : Scoped) (p : Program) (sources : List Name) → p ≡ scoped.program → sources ≡ scoped.sources
    → IfOk r (λ t. term.view t ≡ term_of (decls_of p.defs) (view p.last) sources) → IfOk r (λ t. StaysSmall scoped (term.view t))
small_ok (Ok t) scoped p sources i j h = small_by scoped (term.view t) (h ∙ rw (i, j) refl)
small_ok (Err x) scoped p sources i j h = tt
