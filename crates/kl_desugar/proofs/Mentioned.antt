-- The term of a program reads only sources that the program mentions.
use Rattle.std.proofs.Common.{◌≡◌, ℕ, suc, ◌+◌, ◌<◌, Bool, true, false, cond, List, [], ◌∷◌, ◌++◌, length, map, Option, Some, None, Result, Ok, Err, IfOk, refl, sym, subst, ◌∙◌, arith, if◌then◌else◌}
use Rattle.std.specs.Prelude.{⊤}
use Rattle.std.specs.List.{AllByRecursion, Contains}
use Rattle.std.specs.Option.{option_map, option_or}
use Rattle.std.proofs.lemmas.List.Elements.{Contains-append_left, Contains-append_right, Contains-push}
use Rattle.kl_value.specs.declared.Kind.{Kind}
use Rattle.kl_outcome.specs.Outcome.{Name}
use Rattle.kl_syntax.specs.declared.tree.Meaning.TheVariants.{Variable, Definition, Source}
use Rattle.kl_syntax.specs.declared.tree.Op.{Op}
use Rattle.kl_syntax.specs.declared.tree.Program.{Program}
use Rattle.kl_syntax.specs.declared.tree.Op.TheVariants as op
use Rattle.kl_syntax.specs.declared.tree.Tail.{Tail}
use Rattle.kl_syntax.specs.declared.tree.Tail.TheVariants as tail
use Rattle.kl_syntax.specs.declared.tree.Word.{Word}
use Rattle.kl_syntax.specs.Syntax.{Pat, catch, any, same, is, shape, variant, Pats, no_pats, pats, Exp, Const, name, Call, Rec, More, Inj, Coll, Comp, If, Let, Case, Path, Not, Neg, Chain, Exps, no_exps, exps, Flds, no_flds, flds, Quals, no_quals, draw, test, Branches, no_branches, otherwise, branch, Steps, no_steps, step, Decls, no_decls, constant, function}
use Rattle.kl_syntax.specs.View.{view, decls_of}
use Rattle.kl_scope.specs.declared.names.Sense.{Sense}
use Rattle.kl_scope.specs.declared.refusal.ScopeError.TheVariants.{Misapplied}
use Rattle.kl_scope.specs.declared.scoped.Scoped.{Scoped}
use Rattle.kl_scope.specs.Breaches.{is_marked}
use Rattle.kl_scope.specs.Findings.{Finding, breach, mention, only_if, not_as_taken, mention_in, repeated, field_labels, branch_labels, count, used, may_fail, pattern_findings, patterns_findings, drawn_findings, sure_findings, behind, findings, findings_all, findings_fields, findings_quals, findings_branches, findings_steps, taken, decls_findings, behind_decls}
use Rattle.kl_scope.specs.Patterns.{variables, pattern_labels, tests, within}
use Rattle.kl_scope.specs.Resolved.{meant, resolved_pat, resolved_pats, resolved, resolved_all, resolved_fields, resolved_quals, resolved_branches, resolved_steps, resolved_decls}
use Rattle.kl_scope.specs.Senses.{Scope as Seen, sense, place_in, definition_in, source_in, named, called, at_first, defined}
use Rattle.kl_meaning.specs.Match.{same_name}
use Rattle.kl_meaning.specs.Run.{code_named}
use Rattle.kl_prim.proofs.RecordLemmas.{in_order_all}
use Rattle.kl_core.specs.declared.term.Term.{Term}
use Rattle.kl_core.specs.Leaves.{Leaves, LeavesOfTrees, LeavesOfParts, LeavesOfArms}
use Rattle.kl_core.specs.Trees as term
use Rattle.kl_core.specs.Trees.{Tree, Trees, no_trees, trees, Arms}
use Rattle.kl_desugar.specs.Mentioned.{ReadsMentioned}
use Rattle.kl_desugar.specs.Translation.{Scope, level_of, Place, here, inside, place_tree, Code, value_by, function_by, primitive_by, Codes, no_sense, level_tree, name_tree, with_rest, tested, matched, matched_fields, empty, called_tree, operated_tree, projected, matched_here, tree, tree_all, tree_fields, tree_quals, tree_branches, tree_steps, number_of, code_at, codes_first, with_code, function_tree, codes_after, term_of}
use Rattle.kl_desugar.specs.Translation as translation
use Rattle.kl_desugar.specs.Layers.{after_tail, after_pat, after_pats, after_quals}
use Rattle.kl_desugar.proofs.Scopes.{text_is, turned, standing, Both, Matches, here_matches, quals_match, seen}

abbrev Anywhere : ℕ → Type 0
Anywhere x = ⊤

-- the number of a source in a list, and its place
abbrev Same : ℕ → ℕ → Option ℕ → Option ℕ → Type 0
Same n top (Some m) (Some i) = (m ≡ n + i) × (n + i < top)
Same n top None None = Unit {0}
Same n top _ _ = ⊥

same_more : (b : Bool) (n top : ℕ) (m i : Option ℕ) → n < top → Same (suc n) top m i → Same n top (cond b (Some n) m) (if b then Some 0 else option_map suc i)
same_more true n top m i le h = (omega arith, omega (arith, le))
same_more false n top (Some m) (Some i) le h = let e = h.0 in let g = h.1 in (omega (arith, e), omega (arith, g))
same_more false n top None None le h = tt
same_more false n top (Some m) None le h = absurd h
same_more false n top None (Some i) le h = absurd h

number_same : (x : Name) (ys : List Name) (n top : ℕ) → n + length ys ≡ top → Same n top (number_of x ys n) (place_in ys x)
number_same x [] n top e = tt
number_same x (y ∷ ys) n top e = rw (turned x y) (same_more (same_name x y) n top (number_of x ys (suc n)) (place_in ys x) (omega (arith, e)) (number_same x ys (suc n) top (omega (arith, e))))

-- what holds of the number of each source below a number
module _ (top : ℕ) (P : ℕ → Type 0) where
  abbrev Reads : Tree → Type 0
  Reads = Leaves Anywhere P

  -- it holds of each source that is mentioned
  abbrev Held : List Finding → Type 0
  Held fs = (i : ℕ) → i < top → Contains fs (mention i) → P i

  first_held : (fs gs : List Finding) → Held (fs ++ gs) → Held fs
  first_held fs gs h = λ i le c. h i le (Contains-append_left fs gs (mention i) c)

  last_held : (fs gs : List Finding) → Held (fs ++ gs) → Held gs
  last_held fs gs h = λ i le c. h i le (Contains-append_right fs gs (mention i) c)

  -- ---- what names stand for

  -- a definition's term, and a source where it is mentioned
  abbrev CodeReads : Option Sense → Code → Type 0
  CodeReads (Some q) (value_by t) = Held (mention_in q.means) → Reads t
  CodeReads (Some q) (function_by t) = Reads t
  CodeReads (Some q) (primitive_by c) = Unit {0}
  CodeReads (Some q) translation.nothing = Unit {0}
  CodeReads None (value_by t) = ⊥
  CodeReads None (function_by t) = ⊥
  CodeReads None (primitive_by c) = Unit {0}
  CodeReads None translation.nothing = Unit {0}

  abbrev CodesRead : List (Name × Bool) → List Name → Codes → Type 0
  CodesRead defs sources codes = (x : Name) → CodeReads (standing defs sources x) (codes x)

  level_reads : (l i : Option ℕ) (o : Option Sense) (c : Code) (w : Word) (n : ℕ) → Both l i → CodeReads o c → Held (used (option_or (option_map (λ i. sense (Variable i) 0) i) o) w 0) → Reads (level_tree l c n)
  level_reads (Some m) i o c w n b h k = tt
  level_reads None (Some i) o c w n b h k = absurd b
  level_reads None None (Some q) (value_by t) w n b h k = h (first_held (mention_in q.means) (only_if (not_as_taken q.takes 0) (breach (Misapplied w.text w.token))) k)
  level_reads None None (Some q) (function_by t) w n b h k = tt
  level_reads None None (Some q) (primitive_by c) w n b h k = tt
  level_reads None None (Some q) translation.nothing w n b h k = tt
  level_reads None None None (value_by t) w n b h k = absurd h
  level_reads None None None (function_by t) w n b h k = tt
  level_reads None None None (primitive_by c) w n b h k = tt
  level_reads None None None translation.nothing w n b h k = tt

  call_reads : (o : Option Sense) (c : Code) (ts : Trees) → CodeReads o c → LeavesOfTrees Anywhere P ts → Reads (called_tree c ts)
  call_reads o (value_by t) ts h k = tt
  call_reads o translation.nothing ts h k = tt
  call_reads o (primitive_by c) ts h k = k
  call_reads o (function_by t) no_trees h k = tt
  call_reads (Some q) (function_by t) (trees a no_trees) h k = (k.0, h)
  call_reads None (function_by t) (trees a no_trees) h k = absurd h
  call_reads o (function_by t) (trees a (trees b ts)) h k = tt

  -- ---- parts of forms

  place_reads : (t : Place) (n : ℕ) → Reads (place_tree t n)
  place_reads (here m) n = tt
  place_reads (inside l t) n = place_reads t n

  operated_reads : (c : Op) (a b : Tree) → Reads a → Reads b → Reads (operated_tree c a b)
  operated_reads op.And a b h k = (h, k, tt)
  operated_reads op.Or a b h k = (h, tt, k)
  operated_reads op.Append a b h k = (h, k)
  operated_reads op.Eq a b h k = (h, (k, tt))
  operated_reads op.Ne a b h k = (h, (k, tt))
  operated_reads op.Lt a b h k = (h, (k, tt))
  operated_reads op.Le a b h k = (h, (k, tt))
  operated_reads op.Gt a b h k = (h, (k, tt))
  operated_reads op.Ge a b h k = (h, (k, tt))
  operated_reads op.Add a b h k = (h, (k, tt))
  operated_reads op.Sub a b h k = (h, (k, tt))
  operated_reads op.Mul a b h k = (h, (k, tt))
  operated_reads op.Cat a b h k = (h, (k, tt))

  path_reads : (ls : List Word) (t : Tree) → Reads t → Reads (projected ls t)
  path_reads [] t h = h
  path_reads (l ∷ ls) t h = path_reads ls (term.Proj l.text t) h

  parts_read : (ps : List (Name × Tree)) → AllByRecursion (λ p. Reads p.1) ps → LeavesOfParts Anywhere P (term.parts_of ps)
  parts_read [] h = tt
  parts_read (p ∷ ps) h = (h.0, parts_read ps h.1)

  module _ (defs : List (Name × Bool)) (sources : List Name) (codes : Codes) (known : CodesRead defs sources codes) where
    stands : (S : Scope) (s : Seen) (x : Name) → Matches defs sources S s → CodeReads (standing s.definitions s.sources x) (codes x)
    stands S s x m = rw (m.1, m.2) (known x)

    name_reads : (S : Scope) (s : Seen) (w : Word) (n : ℕ) → Matches defs sources S s → Held (used (named s w.text) w 0) → Reads (name_tree codes S (meant (named s w.text) w).text n)
    name_reads S s w n m h =
        subst (λ x. Reads (name_tree codes S x n)) (sym (text_is (named s w.text) w))
        (level_reads (level_of w.text S) (place_in s.variables w.text) (standing s.definitions s.sources w.text) (codes w.text) w n (seen defs sources S s w.text m) (stands S s w.text m) h)

    -- ---- patterns

    rest_reads : (end : Tail) (ps : Pats) (t : Place) (R : Scope) (A : Scope → Tree) → Reads (A (after_tail end R)) → Reads (with_rest end ps t A R)
    rest_reads (tail.Rest x) ps t R A k = ((place_reads t (length R), (tt, tt)), k)
    rest_reads tail.Exact ps t R A k = k
    rest_reads tail.Open ps t R A k = k

    module _ (S : Scope) (s : Seen) (m : Matches defs sources S s) (e : Tree) (missed : Reads e) where
      mutual
        matched_reads : (p : Pat) (t : Place) (R : Scope) (A : Scope → Tree) → Reads (A (after_pat (resolved_pat p s) R)) → Held (pattern_findings p s) → Reads (matched (resolved_pat p s) t codes S e A R)
        matched_reads (catch x) t R A k h = (place_reads t (length R), k)
        matched_reads any t R A k h = k
        matched_reads (same x) t R A k h = ((place_reads t (length R), (name_reads S s x (length R) m h, tt)), k, missed)
        matched_reads (is v n) t R A k h = ((place_reads t (length R), (tt, tt)), k, missed)
        matched_reads (shape ps end) t R A k h =
            fields_read ps t R (λ Q. with_rest end (resolved_pats ps s) t A Q) (rest_reads end (resolved_pats ps s) t (after_pats (resolved_pats ps s) R) A k)
            (last_held (repeated [] (pattern_labels ps)) (patterns_findings ps s) h)
        matched_reads (variant l p) t R A k h = (place_reads t (length R), (matched_reads p (here (length R)) (None ∷ R) A k h, missed))

        fields_read : (ps : Pats) (t : Place) (R : Scope) (A : Scope → Tree) → Reads (A (after_pats (resolved_pats ps s) R)) → Held (patterns_findings ps s) → Reads (matched_fields (resolved_pats ps s) t codes S e A R)
        fields_read no_pats t R A k h = k
        fields_read (pats l p ps) t R A k h =
            matched_reads p (inside l.text t) R (λ Q. matched_fields (resolved_pats ps s) t codes S e A Q)
            (fields_read ps t (after_pat (resolved_pat p s) R) A k (last_held (pattern_findings p s) (patterns_findings ps s) h)) (first_held (pattern_findings p s) (patterns_findings ps s) h)

      here_reads : (p : Pat) (A : Scope → Tree) → Reads (A (after_pat (resolved_pat p s) (None ∷ S))) → Held (pattern_findings p s) → Reads (matched_here (resolved_pat p s) codes S e A)
      here_reads p A k h = matched_reads p (here (length S)) (None ∷ S) A k h

    drawn_held : (p : Pat) (s : Seen) → Held (drawn_findings p s) → Held (pattern_findings p s)
    drawn_held p s h = first_held (pattern_findings p s) (repeated [] (variables p)) h

    sure_held : (p : Pat) (s : Seen) → Held (sure_findings p s) → Held (pattern_findings p s)
    sure_held p s h = drawn_held p s (last_held (map may_fail (tests p)) (drawn_findings p s) h)

    -- ---- expressions

    mutual
      tree_reads : (e : Exp) (S : Scope) (s : Seen) → Matches defs sources S s → Held (findings e s) → Reads (tree (resolved e s) codes S)
      tree_reads (Const v) S s m h = tt
      tree_reads (name w) S s m h = name_reads S s w (length S) m h
      tree_reads (Call f es) S s m h =
          subst (λ x. Reads (called_tree (codes x) (tree_all (resolved_all es s) codes S))) (sym (text_is (called s f.text) f))
          (call_reads (standing s.definitions s.sources f.text) (codes f.text) _ (stands S s f.text m) (all_read es S s m (last_held (used (called s f.text) f (count es)) (findings_all es s) h)))
      tree_reads (Rec fs) S s m h = parts_read _ (in_order_all (λ p. Reads p.1) _ (fields_are fs S s m (last_held (repeated [] (field_labels fs)) (findings_fields fs s) h)))
      tree_reads (More fs a) S s m h =
          let k = last_held (repeated [] (field_labels fs)) (findings_fields fs s ++ findings a s) h in
          (parts_read _ (in_order_all (λ p. Reads p.1) _ (fields_are fs S s m (first_held (findings_fields fs s) (findings a s) k))), (tree_reads a S s m (last_held (findings_fields fs s) (findings a s) k), tt))
      tree_reads (Inj l a) S s m h = tree_reads a S s m h
      tree_reads (Coll k es) S s m h = all_read es S s m h
      tree_reads (Comp k e qs) S s m h =
          quals_read qs k (λ R. term.Make k (trees (tree (resolved e (behind qs s)) codes R) no_trees)) S s m
          (tree_reads e (after_quals (resolved_quals qs s) S) (behind qs s) (quals_match defs sources qs S s m) (last_held (findings_quals qs s) (findings e (behind qs s)) h), tt)
          (first_held (findings_quals qs s) (findings e (behind qs s)) h)
      tree_reads (If a b c) S s m h =
          let k = last_held (findings a s) (findings b s ++ findings c s) h in
          (tree_reads a S s m (first_held (findings a s) (findings b s ++ findings c s) h), tree_reads b S s m (first_held (findings b s) (findings c s) k), tree_reads c S s m (last_held (findings b s) (findings c s) k))
      tree_reads (Let p a b) S s m h =
          let k = last_held (findings a s) (sure_findings p s ++ findings b (within p s)) h in (
            tree_reads a S s m (first_held (findings a s) (sure_findings p s ++ findings b (within p s)) h),
            here_reads S s m no_sense tt p (λ R. tree (resolved b (within p s)) codes R)
                (tree_reads b (after_pat (resolved_pat p s) (None ∷ S)) (within p s) (here_matches defs sources p S s m) (last_held (sure_findings p s) (findings b (within p s)) k))
                (sure_held p s (first_held (sure_findings p s) (findings b (within p s)) k)),
          )
      tree_reads (Case a bs) S s m h =
          let k = last_held (findings a s) (repeated [] (branch_labels bs) ++ findings_branches bs s) h in
          (tree_reads a S s m (first_held (findings a s) (repeated [] (branch_labels bs) ++ findings_branches bs s) h), branches_read bs S s m (last_held (repeated [] (branch_labels bs)) (findings_branches bs s) k))
      tree_reads (Path a ls) S s m h = path_reads ls _ (tree_reads a S s m h)
      tree_reads (Not a) S s m h = (tree_reads a S s m h, tt)
      tree_reads (Neg a) S s m h = (tree_reads a S s m h, tt)
      tree_reads (Chain a ss) S s m h = steps_read ss _ S s m (tree_reads a S s m (first_held (findings a s) (findings_steps ss s) h)) (last_held (findings a s) (findings_steps ss s) h)

      all_read : (es : Exps) (S : Scope) (s : Seen) → Matches defs sources S s → Held (findings_all es s) → LeavesOfTrees Anywhere P (tree_all (resolved_all es s) codes S)
      all_read no_exps S s m h = tt
      all_read (exps e es) S s m h = (tree_reads e S s m (first_held (findings e s) (findings_all es s) h), all_read es S s m (last_held (findings e s) (findings_all es s) h))

      fields_are : (fs : Flds) (S : Scope) (s : Seen) → Matches defs sources S s → Held (findings_fields fs s) → AllByRecursion (λ p. Reads p.1) (tree_fields (resolved_fields fs s) codes S)
      fields_are no_flds S s m h = tt
      fields_are (flds l e fs) S s m h = (tree_reads e S s m (first_held (findings e s) (findings_fields fs s) h), fields_are fs S s m (last_held (findings e s) (findings_fields fs s) h))

      quals_read : (qs : Quals) (k : Kind) (A : Scope → Tree) (S : Scope) (s : Seen) → Matches defs sources S s → Reads (A (after_quals (resolved_quals qs s) S)) → Held (findings_quals qs s) → Reads (tree_quals (resolved_quals qs s) k A codes S)
      quals_read no_quals k A S s m g h = g
      quals_read (draw p e qs) k A S s m g h =
          let j = last_held (findings e s) (drawn_findings p s ++ findings_quals qs (within p s)) h in (
            here_reads S s m (empty k) tt p (λ R. tree_quals (resolved_quals qs (within p s)) k A codes R)
                (quals_read qs k A (after_pat (resolved_pat p s) (None ∷ S)) (within p s) (here_matches defs sources p S s m) g (last_held (drawn_findings p s) (findings_quals qs (within p s)) j))
                (drawn_held p s (first_held (drawn_findings p s) (findings_quals qs (within p s)) j)),
            tree_reads e S s m (first_held (findings e s) (drawn_findings p s ++ findings_quals qs (within p s)) h),
          )
      quals_read (test c qs) k A S s m g h = (tree_reads c S s m (first_held (findings c s) (findings_quals qs s) h), quals_read qs k A S s m g (last_held (findings c s) (findings_quals qs s) h), tt)

      branches_read : (bs : Branches) (S : Scope) (s : Seen) → Matches defs sources S s → Held (findings_branches bs s) → LeavesOfArms Anywhere P (tree_branches (resolved_branches bs s) codes S)
      branches_read no_branches S s m h = tt
      branches_read (otherwise c) S s m h = tree_reads c S s m h
      branches_read (branch l p e bs) S s m h =
          let k = last_held (sure_findings p s) (findings e (within p s) ++ findings_branches bs s) h in (
            here_reads S s m no_sense tt p (λ R. tree (resolved e (within p s)) codes R)
                (tree_reads e (after_pat (resolved_pat p s) (None ∷ S)) (within p s) (here_matches defs sources p S s m) (first_held (findings e (within p s)) (findings_branches bs s) k))
                (sure_held p s (first_held (sure_findings p s) (findings e (within p s) ++ findings_branches bs s) h)),
            branches_read bs S s m (last_held (findings e (within p s)) (findings_branches bs s) k),
          )

      steps_read : (ss : Steps) (a : Tree) (S : Scope) (s : Seen) → Matches defs sources S s → Reads a → Held (findings_steps ss s) → Reads (tree_steps (resolved_steps ss s) a codes S)
      steps_read no_steps a S s m g h = g
      steps_read (step c e ss) a S s m g h =
          steps_read ss _ S s m (operated_reads c a _ g (tree_reads e S s m (first_held (findings e s) (findings_steps ss s) h))) (last_held (findings e s) (findings_steps ss s) h)

    -- a function's parameter
    function_reads : (p : Pat) (e : Exp) (s : Seen) → Matches defs sources [] s → Held (sure_findings p s) → Held (findings e (within p s)) → Reads (function_tree (resolved_pat p s) (resolved e (within p s)) codes)
    function_reads p e s m h k =
        here_reads [] s m no_sense tt p (λ R. tree (resolved e (within p s)) codes R) (tree_reads e (after_pat (resolved_pat p s) (None ∷ [])) (within p s) (here_matches defs sources p [] s m) k) (sure_held p s h)

  -- ---- programs

  one_more : (b : Bool) (q : Sense) (o r : Option Sense) (c d : Code) → CodeReads (Some q) c → CodeReads (option_or o r) d → CodeReads (option_or (if b then Some q else o) r) (cond b c d)
  one_more true q o r c d h k = h
  one_more false q o r c d h k = k

  further : (defs : List (Name × Bool)) (sources : List Name) (codes : Codes) (x : Name) (f : Bool) (c : Code) → CodesRead defs sources codes → CodeReads (Some (sense (Definition (length defs)) (if f then 1 else 0))) c → CodesRead ((x, f) ∷ defs) sources (with_code x c codes)
  further defs sources codes x f c known new y = rw (turned y x) (one_more (same_name y x) _ (definition_in defs y) (source_in sources y) c (codes y) new (known y))

  program_reads : (ds : Decls) (e : Exp) (s : Seen) (codes : Codes) → [] ≡ s.variables → CodesRead s.definitions s.sources codes → Held (decls_findings ds s) → Held (findings e (behind_decls ds s))
      → Reads (tree (resolved e (behind_decls ds s)) (codes_after (resolved_decls ds s) codes) [])
  program_reads no_decls e s codes v known h k = tree_reads s.definitions s.sources codes known e [] s (v, refl, refl) k
  program_reads (constant x a ds) e s codes v known h k =
      let g = last_held (taken s x) (findings a s ++ decls_findings ds (defined s x.text false)) h in
      let r = tree_reads s.definitions s.sources codes known a [] s (v, refl, refl) (first_held (findings a s) (decls_findings ds (defined s x.text false)) g) in
      program_reads ds e (defined s x.text false) (with_code x.text (value_by (tree (resolved a s) codes [])) codes) v
      (further s.definitions s.sources codes x.text false (value_by (tree (resolved a s) codes [])) known (λ none. r))
      (last_held (findings a s) (decls_findings ds (defined s x.text false)) g) k
  program_reads (function x p a ds) e s codes v known h k =
      let g = last_held (taken s x) (sure_findings p s ++ (findings a (within p s) ++ decls_findings ds (defined s x.text true))) h in
      let j = last_held (sure_findings p s) (findings a (within p s) ++ decls_findings ds (defined s x.text true)) g in
      let r = function_reads s.definitions s.sources codes known p a s (v, refl, refl) (first_held (sure_findings p s) (findings a (within p s) ++ decls_findings ds (defined s x.text true)) g) (first_held (findings a (within p s)) (decls_findings ds (defined s x.text true)) j) in
      program_reads ds e (defined s x.text true) (with_code x.text (function_by (function_tree (resolved_pat p s) (resolved a (within p s)) codes)) codes) v
      (further s.definitions s.sources codes x.text true (function_by (function_tree (resolved_pat p s) (resolved a (within p s)) codes)) known r)
      (last_held (findings a (within p s)) (decls_findings ds (defined s x.text true)) j) k

  -- sources by their numbers, and primitives
  first_of : (n i c : Option ℕ) → Same 0 top n i → CodeReads (option_map (λ i. sense (Source i) 0) i) (code_at n c)
  first_of (Some n) (Some i) c b = λ h. let e = b.0 in let le = b.1 in let same : n ≡ i = omega (arith, e) in subst P (sym same) (h i (omega (arith, le)) (Contains-push [] (mention i)))
  first_of (Some n) None c b = absurd b
  first_of None (Some i) c b = absurd b
  first_of None None (Some c) b = tt
  first_of None None None b = tt

  first_read : (sources : List Name) → length sources ≡ top → CodesRead [] sources (codes_first sources)
  first_read sources e x = first_of (number_of x sources 0) (place_in sources x) (code_named x) (number_same x sources 0 top (omega (arith, e)))

reads_by : (scoped : Scoped) (t : Tree) → t ≡ term_of (decls_of scoped.program.defs) (view scoped.program.last) scoped.sources → ReadsMentioned scoped t
reads_by scoped t told p sources r =
    let first = at_first sources in
    let ds = decls_of p.defs in
    let top = length sources in
    let P : ℕ → Type 0 = λ i. is_marked scoped i ≡ true in
    let whole : t ≡ term_of (resolved_decls ds first) (resolved (view p.last) (behind_decls ds first)) sources = told ∙ rw (r.defs, r.last, r.sources_kept) refl in
    let all : Held top P (decls_findings ds first ++ findings (view p.last) (behind_decls ds first)) = λ i le c. (r.marks i le).1 c in
    subst (Leaves Anywhere P) (sym whole)
    (program_reads top P ds (view p.last) first (codes_first sources) refl (first_read top P sources refl) (first_held top P (decls_findings ds first) (findings (view p.last) (behind_decls ds first)) all) (last_held top P (decls_findings ds first) (findings (view p.last) (behind_decls ds first)) all))

pub reads_ok : {X : Type 0} (r : Result Term X) (scoped : Scoped) (p : Program) (sources : List Name) → p ≡ scoped.program → sources ≡ scoped.sources
    → IfOk r (λ t. term.view t ≡ term_of (decls_of p.defs) (view p.last) sources) → IfOk r (λ t. ReadsMentioned scoped (term.view t))
reads_ok (Ok t) scoped p sources i j h = reads_by scoped (term.view t) (h ∙ rw (i, j) refl)
reads_ok (Err x) scoped p sources i j h = tt
