-- What is made of lists, item by item.
use Rattle.std.proofs.Common.{◌≡◌, ℕ, ◌+◌, ◌<◌, ◌≤◌, true, false, List, [], ◌∷◌, ◌++◌, Option, Some, None, is_some, Result, Ok, Err, refl, sym, ap, ◌∙◌, subst, true≢false, length, get_or, drop, rules, arith}
use Rattle.std.specs.Result.{IsErrAnd}
use Rattle.std.proofs.lemmas.List.{drop_all}
use Rattle.kl_base.proofs.Places.{drop_at}
use Rattle.kl_base.specs.Fields.{field}
use Rattle.kl_outcome.specs.Outcome.{Name}
use Rattle.kl_scope.specs.Walks.{onto, expr_front, field_front, step_front, pattern_front}
use Rattle.kl_syntax.specs.declared.tree.Branch.{Branch, out-Branch, roll-Branch, the_lemmas as branch_lemmas}
use Rattle.kl_syntax.specs.declared.tree.Expr.{Expr}
use Rattle.kl_syntax.specs.declared.tree.Op.{Op}
use Rattle.kl_syntax.specs.declared.tree.Pattern.{Pattern}
use Rattle.kl_syntax.specs.declared.tree.Qual.{Qual}
use Rattle.kl_syntax.specs.declared.tree.Qual.TheVariants as code
use Rattle.kl_syntax.specs.declared.tree.Word.{Word}
use Rattle.kl_syntax.specs.Syntax.{Pat, any, no_pats, Exp, Exps, no_exps, exps, Flds, no_flds, flds, Quals, no_quals, draw, test, Branches, otherwise, branch, Steps, no_steps, step}
use Rattle.kl_syntax.specs.View.{view, qual_view, branch_view, branches_view, exps_view, fields_view, quals_view, steps_view, pattern_view, patterns_view}
use Rattle.kl_syntax.proofs.Views.{view_Gen, view_Cond, branch_seen}
use Rattle.kl_ho.specs.declared.stop.Stop.{Stop}
use Rattle.kl_ho.specs.declared.stop.Stop.TheVariants.{TooBig, NoMemory}
use Rattle.kl_ho.specs.Highers.{Highers, Funs}
use Rattle.kl_ho.specs.Nodes.{nodes, nodes_all, nodes_fields, nodes_quals, nodes_branches, nodes_steps}
use Rattle.kl_ho.specs.Shapes.{names_after, behind_shaped}
use Rattle.kl_ho.specs.Expansion.{PatBecomes, a_none, a_more, f_none, f_skip, f_more, q_none, q_draw, q_test, b_otherwise, b_more, s_none, s_more}
use Rattle.kl_ho.specs.KeptPrograms.{begins}
use Rattle.kl_ho.specs.Growing.{scope_of, Made, made, too_big, wanting, told, map_made, AnyExp, AnyAll, AnyFields, AnyQuals, AnyBranches, AnySteps, GivesExp, GivesAll, GivesFields, GivesQuals, GivesBranches, GivesSteps, GivesWithin, GivesQual, within_view, arms_view, other_view, Passes, Makes, Draws}
use Rattle.kl_ho.proofs.Growing.{two_made, second_big, all_split, skip_split, field_split, draw_split, test_split, otherwise_split, branch_split, step_split}
use Rattle.kl_ho.proofs.Arms.{ExpAt, exp_part, AllAt, all_part, FieldsAt, fields_part, QualsAt, quals_part, BranchesAt, branches_part, StepsAt, steps_part, WithinAt, within_part}

pub onto_push : {A K : Type 0} (front : A → K → K) (xs : List A) (x : A) (rest : K) → onto front (xs ++ x ∷ []) rest ≡ onto front xs (front x rest)
onto_push front [] x rest = refl
onto_push front (y ∷ ys) x rest = ap (front y) (onto_push front ys x rest)

made_push : {A K : Type 0} (front : A → K → K) (xs : List A) (x : A) (r : Made K) → map_made (onto front xs) (map_made (front x) r) ≡ map_made (onto front (xs ++ x ∷ [])) r
made_push front xs x (made y c) = ap (λ z. made z c) (sym (onto_push front xs x y))
made_push front xs x too_big = refl
made_push front xs x wanting = refl

-- one item more is made
pub one_more : {A K : Type 0} (front : A → K → K) (F G H : Made K → Type 0) (xs ys : List A) (x : A) → ys ≡ xs ++ x ∷ [] → ((r : Made K) → F r → H (map_made (onto front xs) r)) → ((r : Made K) → G r → F (map_made (front x) r))
    → (r : Made K) → G r → H (map_made (onto front ys) r)
one_more front F G H xs ys x e inv cons r g = subst H (made_push front xs x r ∙ ap (λ z. map_made (onto front z) r) (sym e)) (inv (map_made (front x) r) (cons r g))

-- all are made
pub exprs_made : (es : List Expr) → onto expr_front es no_exps ≡ exps_view es
exprs_made [] = refl
exprs_made (e ∷ es) = ap (exps (view e)) (exprs_made es)

pub fields_made : (fs : List (Word × Expr)) → onto field_front fs no_flds ≡ fields_view fs
fields_made [] = refl
fields_made (f ∷ fs) = ap (flds f.0 (view f.1)) (fields_made fs)

pub steps_made : (ss : List (Op × Expr)) → onto step_front ss no_steps ≡ steps_view ss
steps_made [] = refl
steps_made (s ∷ ss) = ap (step s.0 (view s.1)) (steps_made ss)

pub quals_made : (qs : List Qual) → onto qual_view qs no_quals ≡ quals_view qs
quals_made [] = refl
quals_made (q ∷ qs) = ap (qual_view q) (quals_made qs)

pub branches_made : (bs : List Branch) (o : Option Expr) → onto branch_view bs (other_view o) ≡ branches_view bs o
branches_made [] o = refl
branches_made (b ∷ bs) o = ap (branch_view b) (branches_made bs o)

pub patterns_made : (ps : List (Word × Pattern)) → onto pattern_front ps no_pats ≡ patterns_view ps
patterns_made [] = refl
patterns_made (p ∷ ps) = ap (pattern_front p) (patterns_made ps)

module _ (base : Name) (highers : Highers) (funs : Funs) (V : List Name) where
  pub all_cons : (e x : Exp) (es : Exps) (b d : ℕ) → GivesExp base highers funs V e b (made x d) → (r : Made Exps) → GivesAll base highers funs V es d r → GivesAll base highers funs V (exps e es) b (map_made (exps x) r)
  all_cons e x es b d h (made xs c) g =
      two_made (ExpAt base highers funs V e) (AnyExp highers e funs) nodes (AllAt base highers funs V es) (AnyAll highers es funs) nodes_all (AllAt base highers funs V (exps e es)) (AnyAll highers (exps e es) funs) nodes_all
      (exp_part base highers funs V e) (all_part base highers funs V es) 0 b b d c (omega arith) (λ x xs. exps x xs) (λ n x xs h i. (n, a_more h i)) (λ x xs. omega arith) x xs h g
  all_cons e x es b d h too_big g =
      second_big (ExpAt base highers funs V e) (AnyExp highers e funs) nodes (AllAt base highers funs V es) (AnyAll highers es funs) nodes_all (AllAt base highers funs V (exps e es)) (AnyAll highers (exps e es) funs) nodes_all
      (exp_part base highers funs V e) (all_part base highers funs V es) 0 b b d (omega arith) (λ w s. all_split highers s.3) x h g
  all_cons e x es b d h wanting g = tt

  pub all_big : (e : Exp) (es : Exps) (b : ℕ) → GivesExp base highers funs V e b too_big → GivesAll base highers funs V (exps e es) b too_big
  all_big e es b h = λ w s. let k = all_split highers s.3 in omega (arith, h k.0 k.2, k.4)

  pub all_none : (b : ℕ) → GivesAll base highers funs V no_exps b (made no_exps b)
  all_none b = (0, a_none, omega arith)

  pub steps_cons : (o : Op) (e x : Exp) (ss : Steps) (b d : ℕ) → GivesExp base highers funs V e b (made x d) → (r : Made Steps) → GivesSteps base highers funs V ss d r → GivesSteps base highers funs V (step o e ss) b (map_made (step o x) r)
  steps_cons o e x ss b d h (made rs c) g =
      two_made (ExpAt base highers funs V e) (AnyExp highers e funs) nodes (StepsAt base highers funs V ss) (AnySteps highers ss funs) nodes_steps (StepsAt base highers funs V (step o e ss)) (AnySteps highers (step o e ss) funs) nodes_steps
      (exp_part base highers funs V e) (steps_part base highers funs V ss) 0 b b d c (omega arith) (λ x rs. step o x rs) (λ n x rs h i. (n, s_more h i)) (λ x rs. omega arith) x rs h g
  steps_cons o e x ss b d h too_big g =
      second_big (ExpAt base highers funs V e) (AnyExp highers e funs) nodes (StepsAt base highers funs V ss) (AnySteps highers ss funs) nodes_steps (StepsAt base highers funs V (step o e ss)) (AnySteps highers (step o e ss) funs) nodes_steps
      (exp_part base highers funs V e) (steps_part base highers funs V ss) 0 b b d (omega arith) (λ w s. step_split highers s.3) x h g
  steps_cons o e x ss b d h wanting g = tt

  pub steps_big : (o : Op) (e : Exp) (ss : Steps) (b : ℕ) → GivesExp base highers funs V e b too_big → GivesSteps base highers funs V (step o e ss) b too_big
  steps_big o e ss b h = λ w s. let k = step_split highers s.3 in omega (arith, h k.0 k.2, k.4)

  pub steps_none : (b : ℕ) → GivesSteps base highers funs V no_steps b (made no_steps b)
  steps_none b = (0, s_none, omega arith)

  pub fields_cons : (skips : List (Name × Name)) (l m : Word) (e x : Exp) (fs : Flds) (b d : ℕ) → field l.text skips ≡ None → m.text ≡ l.text → GivesExp base highers funs V e b (made x d)
      → (r : Made Flds) → GivesFields base highers funs V fs skips d r → GivesFields base highers funs V (flds l e fs) skips b (map_made (flds m x) r)
  fields_cons skips l m e x fs b d s t h (made gs c) g =
      two_made (ExpAt base highers funs V e) (AnyExp highers e funs) nodes (FieldsAt base highers funs V fs skips) (AnyFields highers fs skips funs) nodes_fields (FieldsAt base highers funs V (flds l e fs) skips) (AnyFields highers (flds l e fs) skips funs) nodes_fields
      (exp_part base highers funs V e) (fields_part base highers funs V fs skips) 0 b b d c (omega arith) (λ x gs. flds m x gs) (λ n x gs h i. (n, f_more s t h i)) (λ x gs. omega arith) x gs h g
  fields_cons skips l m e x fs b d s t h too_big g =
      second_big (ExpAt base highers funs V e) (AnyExp highers e funs) nodes (FieldsAt base highers funs V fs skips) (AnyFields highers fs skips funs) nodes_fields (FieldsAt base highers funs V (flds l e fs) skips) (AnyFields highers (flds l e fs) skips funs) nodes_fields
      (exp_part base highers funs V e) (fields_part base highers funs V fs skips) 0 b b d (omega arith) (λ w a. field_split highers (ap is_some s) a.3) x h g
  fields_cons skips l m e x fs b d s t h wanting g = tt

  pub fields_big : (skips : List (Name × Name)) (l : Word) (e : Exp) (fs : Flds) (b : ℕ) → field l.text skips ≡ None → GivesExp base highers funs V e b too_big → GivesFields base highers funs V (flds l e fs) skips b too_big
  fields_big skips l e fs b s h = λ w a. let k = field_split highers (ap is_some s) a.3 in omega (arith, h k.0 k.2, k.4)

  pub fields_skip : (skips : List (Name × Name)) (l : Word) (e : Exp) (fs : Flds) (b : ℕ) → is_some (field l.text skips) ≡ true → (r : Made Flds) → GivesFields base highers funs V fs skips b r → GivesFields base highers funs V (flds l e fs) skips b r
  fields_skip skips l e fs b s (made gs c) g = (g.0, f_skip s g.1, g.2)
  fields_skip skips l e fs b s too_big g = λ w a. g w (a.0, a.1, a.2, skip_split highers s a.3)
  fields_skip skips l e fs b s wanting g = tt

  pub fields_none : (skips : List (Name × Name)) (b : ℕ) → GivesFields base highers funs V no_flds skips b (made no_flds b)
  fields_none skips b = (0, f_none, omega arith)

  pub branches_cons : (l m : Word) (p q : Pat) (e x : Exp) (bs : Branches) (b d : ℕ) → m.text ≡ l.text → GivesWithin base highers funs V p e b (made (q, x) d)
      → (r : Made Branches) → GivesBranches base highers funs V bs d r → GivesBranches base highers funs V (branch l p e bs) b (map_made (branch m q x) r)
  branches_cons l m p q e x bs b d t h (made cs c) g =
      two_made (WithinAt base highers funs V p e) (λ r. AnyExp highers e funs r.1) (λ r. nodes r.1) (BranchesAt base highers funs V bs) (AnyBranches highers bs funs) nodes_branches (BranchesAt base highers funs V (branch l p e bs))
      (AnyBranches highers (branch l p e bs) funs) nodes_branches (within_part base highers funs V p e) (branches_part base highers funs V bs) 0 b b d c (omega arith) (λ r cs. branch m r.0 r.1 cs) (λ n r cs h i. (n, b_more t h.0 h.1 i)) (λ r cs. omega arith) (q, x) cs h g
  branches_cons l m p q e x bs b d t h too_big g =
      second_big (WithinAt base highers funs V p e) (λ r. AnyExp highers e funs r.1) (λ r. nodes r.1) (BranchesAt base highers funs V bs) (AnyBranches highers bs funs) nodes_branches (BranchesAt base highers funs V (branch l p e bs))
      (AnyBranches highers (branch l p e bs) funs) nodes_branches (within_part base highers funs V p e) (branches_part base highers funs V bs) 0 b b d (omega arith)
      (λ w s. let k = branch_split highers s.3 in ((any, k.0), k.1, k.2, k.3, k.4)) (q, x) h g
  branches_cons l m p q e x bs b d t h wanting g = tt

  pub branches_big : (l : Word) (p : Pat) (e : Exp) (bs : Branches) (b : ℕ) → GivesWithin base highers funs V p e b too_big → GivesBranches base highers funs V (branch l p e bs) b too_big
  branches_big l p e bs b h = λ w s. let k = branch_split highers s.3 in omega (arith, h (any, k.0) k.2, k.4)

  pub draw_cons : (p q : Pat) (e x : Exp) (W : List Name) (b d : ℕ) → GivesExp base highers funs V e b (made x d) → PatBecomes (begins base) (scope_of base V) (scope_of base V) p q (scope_of base W) → W ≡ names_after p V
      → (qs : Quals) (r : Made Quals) → GivesQuals base highers funs W qs d r → GivesQuals base highers funs V (draw p e qs) b (map_made (draw q x) r)
  draw_cons p q e x W b d h k s qs (made rs c) g =
      let i = rw s at k in
      let j = rw s at g in
      two_made (ExpAt base highers funs V e) (AnyExp highers e funs) nodes (QualsAt base highers funs (names_after p V) qs) (AnyQuals highers qs funs) nodes_quals (QualsAt base highers funs V (draw p e qs)) (AnyQuals highers (draw p e qs) funs) nodes_quals
      (exp_part base highers funs V e) (quals_part base highers funs (names_after p V) qs) 0 b b d c (omega arith) (λ x rs. draw q x rs) (λ n x rs h l. (n, q_draw h i l)) (λ x rs. omega arith) x rs h j
  draw_cons p q e x W b d h k s qs too_big g =
      second_big (ExpAt base highers funs V e) (AnyExp highers e funs) nodes (QualsAt base highers funs (names_after p V) qs) (AnyQuals highers qs funs) nodes_quals (QualsAt base highers funs V (draw p e qs)) (AnyQuals highers (draw p e qs) funs) nodes_quals
      (exp_part base highers funs V e) (quals_part base highers funs (names_after p V) qs) 0 b b d (omega arith) (λ w a. draw_split highers a.4) x h g
  draw_cons p q e x W b d h k s qs wanting g = tt

  pub draw_big : (p : Pat) (e : Exp) (qs : Quals) (b : ℕ) → GivesExp base highers funs V e b too_big → GivesQuals base highers funs V (draw p e qs) b too_big
  draw_big p e qs b h = λ w s. let k = draw_split highers s.4 in omega (arith, h k.0 k.2, k.4)

  pub test_cons : (e x : Exp) (b d : ℕ) → GivesExp base highers funs V e b (made x d) → (qs : Quals) (r : Made Quals) → GivesQuals base highers funs V qs d r → GivesQuals base highers funs V (test e qs) b (map_made (test x) r)
  test_cons e x b d h qs (made rs c) g =
      two_made (ExpAt base highers funs V e) (AnyExp highers e funs) nodes (QualsAt base highers funs V qs) (AnyQuals highers qs funs) nodes_quals (QualsAt base highers funs V (test e qs)) (AnyQuals highers (test e qs) funs) nodes_quals
      (exp_part base highers funs V e) (quals_part base highers funs V qs) 0 b b d c (omega arith) (λ x rs. test x rs) (λ n x rs h i. (n, q_test h i)) (λ x rs. omega arith) x rs h g
  test_cons e x b d h qs too_big g =
      second_big (ExpAt base highers funs V e) (AnyExp highers e funs) nodes (QualsAt base highers funs V qs) (AnyQuals highers qs funs) nodes_quals (QualsAt base highers funs V (test e qs)) (AnyQuals highers (test e qs) funs) nodes_quals
      (exp_part base highers funs V e) (quals_part base highers funs V qs) 0 b b d (omega arith) (λ w a. test_split highers a.4) x h g
  test_cons e x b d h qs wanting g = tt

  pub test_big : (e : Exp) (qs : Quals) (b : ℕ) → GivesExp base highers funs V e b too_big → GivesQuals base highers funs V (test e qs) b too_big
  test_big e qs b h = λ w s. let k = test_split highers s.4 in omega (arith, h k.0 k.2, k.4)

  pub quals_none : (b : ℕ) → GivesQuals base highers funs V no_quals b (made no_quals b)
  quals_none b = (0, q_none, omega arith)

-- ---- loops

not_some : {X : Type 0} (o : Option X) → is_some o ≡ false → o ≡ None
not_some (Some x) h = absurd (true≢false h)
not_some None h = refl

module _ (base : Name) (highers : Highers) (funs : Funs) (V : List Name) (es : List Expr) (a : ℕ) where
  pub all_step : (i b d : ℕ) (e x : Expr) (xs ys : List Expr) → i < length es → e ≡ get_or es i e → ys ≡ xs ++ x ∷ [] → GivesExp base highers funs V (view e) b (made (view x) d)
      → ((r : Made Exps) → GivesAll base highers funs V (exps_view (drop i es)) b r → GivesAll base highers funs V (exps_view es) a (map_made (onto expr_front xs) r))
      → (r : Made Exps) → GivesAll base highers funs V (exps_view (drop (i + 1) es)) d r → GivesAll base highers funs V (exps_view es) a (map_made (onto expr_front ys) r)
  all_step i b d e x xs ys l q p h inv r g =
      one_more expr_front (GivesAll base highers funs V (exps_view (e ∷ drop (i + 1) es)) b) (GivesAll base highers funs V (exps_view (drop (i + 1) es)) d) (GivesAll base highers funs V (exps_view es) a) xs ys x p
      (λ r g. inv r (subst (λ z. GivesAll base highers funs V (exps_view z) b r) (sym (drop_at es i e l q)) g))
      (λ r g. all_cons base highers funs V (view e) (view x) (exps_view (drop (i + 1) es)) b d h r g) r g

  pub all_done : (i b : ℕ) (xs ys : List Expr) → length es ≤ i → ys ≡ xs
      → ((r : Made Exps) → GivesAll base highers funs V (exps_view (drop i es)) b r → GivesAll base highers funs V (exps_view es) a (map_made (onto expr_front xs) r))
      → GivesAll base highers funs V (exps_view es) a (made (exps_view ys) b)
  all_done i b xs ys l q inv =
      subst (λ z. GivesAll base highers funs V (exps_view es) a (made z b)) (exprs_made xs ∙ ap exps_view (sym q))
      (inv (made no_exps b) (subst (λ z. GivesAll base highers funs V (exps_view z) b (made no_exps b)) (sym (drop_all i es l)) (all_none base highers funs V b)))

  -- what stopped an item stops all
  pub all_error : (i b d : ℕ) (e : Expr) (xs : List Expr) (r : Result (List Expr) Stop) (s : Stop) → i < length es → e ≡ get_or es i e → IsErrAnd r (λ z. z ≡ s) → GivesExp base highers funs V (view e) b (told view (Err s) d)
      → ((r : Made Exps) → GivesAll base highers funs V (exps_view (drop i es)) b r → GivesAll base highers funs V (exps_view es) a (map_made (onto expr_front xs) r))
      → GivesAll base highers funs V (exps_view es) a (told exps_view r d)
  all_error i b d e xs (Ok x) s l q h g inv = absurd h
  all_error i b d e xs (Err NoMemory) s l q h g inv = tt
  all_error i b d e xs (Err TooBig) s l q h g inv =
      let big : GivesExp base highers funs V (view e) b too_big = subst (λ z. GivesExp base highers funs V (view e) b (told {X = Expr} view (Err z) d)) (sym h) g in
      inv too_big (subst (λ z. GivesAll base highers funs V (exps_view z) b too_big) (sym (drop_at es i e l q)) (all_big base highers funs V (view e) (exps_view (drop (i + 1) es)) b big))

module _ (base : Name) (highers : Highers) (funs : Funs) (V : List Name) (ss : List (Op × Expr)) (a : ℕ) where
  pub steps_step : (i b d : ℕ) (e : Op × Expr) (x : Expr) (xs ys : List (Op × Expr)) → i < length ss → e ≡ get_or ss i e → ys ≡ xs ++ (e.0, x) ∷ [] → GivesExp base highers funs V (view e.1) b (made (view x) d)
      → ((r : Made Steps) → GivesSteps base highers funs V (steps_view (drop i ss)) b r → GivesSteps base highers funs V (steps_view ss) a (map_made (onto step_front xs) r))
      → (r : Made Steps) → GivesSteps base highers funs V (steps_view (drop (i + 1) ss)) d r → GivesSteps base highers funs V (steps_view ss) a (map_made (onto step_front ys) r)
  steps_step i b d e x xs ys l q p h inv r g =
      one_more step_front (GivesSteps base highers funs V (steps_view (e ∷ drop (i + 1) ss)) b) (GivesSteps base highers funs V (steps_view (drop (i + 1) ss)) d) (GivesSteps base highers funs V (steps_view ss) a) xs ys (e.0, x) p
      (λ r g. inv r (subst (λ z. GivesSteps base highers funs V (steps_view z) b r) (sym (drop_at ss i e l q)) g))
      (λ r g. steps_cons base highers funs V e.0 (view e.1) (view x) (steps_view (drop (i + 1) ss)) b d h r g) r g

  pub steps_done : (i b : ℕ) (xs ys : List (Op × Expr)) → length ss ≤ i → ys ≡ xs
      → ((r : Made Steps) → GivesSteps base highers funs V (steps_view (drop i ss)) b r → GivesSteps base highers funs V (steps_view ss) a (map_made (onto step_front xs) r))
      → GivesSteps base highers funs V (steps_view ss) a (made (steps_view ys) b)
  steps_done i b xs ys l q inv =
      subst (λ z. GivesSteps base highers funs V (steps_view ss) a (made z b)) (steps_made xs ∙ ap steps_view (sym q))
      (inv (made no_steps b) (subst (λ z. GivesSteps base highers funs V (steps_view z) b (made no_steps b)) (sym (drop_all i ss l)) (steps_none base highers funs V b)))

  pub steps_error : (i b d : ℕ) (e : Op × Expr) (xs : List (Op × Expr)) (r : Result (List (Op × Expr)) Stop) (s : Stop) → i < length ss → e ≡ get_or ss i e → IsErrAnd r (λ z. z ≡ s) → GivesExp base highers funs V (view e.1) b (told view (Err s) d)
      → ((r : Made Steps) → GivesSteps base highers funs V (steps_view (drop i ss)) b r → GivesSteps base highers funs V (steps_view ss) a (map_made (onto step_front xs) r))
      → GivesSteps base highers funs V (steps_view ss) a (told steps_view r d)
  steps_error i b d e xs (Ok x) s l q h g inv = absurd h
  steps_error i b d e xs (Err NoMemory) s l q h g inv = tt
  steps_error i b d e xs (Err TooBig) s l q h g inv =
      let big : GivesExp base highers funs V (view e.1) b too_big = subst (λ z. GivesExp base highers funs V (view e.1) b (told {X = Expr} view (Err z) d)) (sym h) g in
      inv too_big (subst (λ z. GivesSteps base highers funs V (steps_view z) b too_big) (sym (drop_at ss i e l q)) (steps_big base highers funs V e.0 (view e.1) (steps_view (drop (i + 1) ss)) b big))

module _ (base : Name) (highers : Highers) (funs : Funs) (V : List Name) (qs : List Qual) (a : ℕ) where
  pub quals_step : (i b d : ℕ) (e x : Qual) (U W : List Name) (xs ys : List Qual) → i < length qs → e ≡ get_or qs i e → ys ≡ xs ++ x ∷ []
      → ((rest : Quals) (r : Made Quals) → GivesQuals base highers funs W rest d r → GivesQuals base highers funs U (qual_view e rest) b (map_made (qual_view x) r))
      → ((r : Made Quals) → GivesQuals base highers funs U (quals_view (drop i qs)) b r → GivesQuals base highers funs V (quals_view qs) a (map_made (onto qual_view xs) r))
      → (r : Made Quals) → GivesQuals base highers funs W (quals_view (drop (i + 1) qs)) d r → GivesQuals base highers funs V (quals_view qs) a (map_made (onto qual_view ys) r)
  quals_step i b d e x U W xs ys l q p h inv r g =
      one_more qual_view (GivesQuals base highers funs U (quals_view (e ∷ drop (i + 1) qs)) b) (GivesQuals base highers funs W (quals_view (drop (i + 1) qs)) d) (GivesQuals base highers funs V (quals_view qs) a) xs ys x p
      (λ r g. inv r (subst (λ z. GivesQuals base highers funs U (quals_view z) b r) (sym (drop_at qs i e l q)) g)) (λ r g. h (quals_view (drop (i + 1) qs)) r g) r g

  pub quals_behind : (i : ℕ) (e : Qual) (U W : List Name) → i < length qs → e ≡ get_or qs i e → ((rest : Quals) → behind_shaped (qual_view e rest) U ≡ behind_shaped rest W)
      → behind_shaped (quals_view (drop i qs)) U ≡ behind_shaped (quals_view qs) V → behind_shaped (quals_view (drop (i + 1) qs)) W ≡ behind_shaped (quals_view qs) V
  quals_behind i e U W l q h inv = sym (h (quals_view (drop (i + 1) qs))) ∙ sym (ap (λ z. behind_shaped (quals_view z) U) (drop_at qs i e l q)) ∙ inv

  pub quals_done : (i b : ℕ) (U : List Name) (xs ys : List Qual) → length qs ≤ i → ys ≡ xs
      → ((r : Made Quals) → GivesQuals base highers funs U (quals_view (drop i qs)) b r → GivesQuals base highers funs V (quals_view qs) a (map_made (onto qual_view xs) r))
      → GivesQuals base highers funs V (quals_view qs) a (made (quals_view ys) b)
  quals_done i b U xs ys l q inv =
      subst (λ z. GivesQuals base highers funs V (quals_view qs) a (made z b)) (quals_made xs ∙ ap quals_view (sym q))
      (inv (made no_quals b) (subst (λ z. GivesQuals base highers funs U (quals_view z) b (made no_quals b)) (sym (drop_all i qs l)) (quals_none base highers funs U b)))

  -- what stopped a qualifier stops all
  pub quals_error : (i b d : ℕ) (e : Qual) (U W : List Name) (xs : List Qual) (r : Result (List Qual) Stop) (s : Stop) → i < length qs → e ≡ get_or qs i e → IsErrAnd r (λ z. z ≡ s)
      → GivesQual base highers funs U W (qual_view e) b d (Err s)
      → ((r : Made Quals) → GivesQuals base highers funs U (quals_view (drop i qs)) b r → GivesQuals base highers funs V (quals_view qs) a (map_made (onto qual_view xs) r))
      → GivesQuals base highers funs V (quals_view qs) a (told quals_view r d)
  quals_error i b d e U W xs (Ok x) s l q h g inv = absurd h
  quals_error i b d e U W xs (Err NoMemory) s l q h g inv = tt
  quals_error i b d e U W xs (Err TooBig) s l q h g inv =
      let big : GivesQual base highers funs U W (qual_view e) b d (Err TooBig) = subst (λ z. GivesQual base highers funs U W (qual_view e) b d (Err z)) (sym h) g in
      inv too_big (subst (λ z. GivesQuals base highers funs U (quals_view z) b too_big) (sym (drop_at qs i e l q)) (big (quals_view (drop (i + 1) qs))))

pub otherwise_made : (base : Name) (highers : Highers) (funs : Funs) (V : List Name) (e x : Exp) (b d : ℕ) → GivesExp base highers funs V e b (made x d) → GivesBranches base highers funs V (otherwise e) b (made (otherwise x) d)
otherwise_made base highers funs V e x b d h = (h.0, b_otherwise h.1, h.2)

pub otherwise_error : (base : Name) (highers : Highers) (funs : Funs) (V : List Name) (e : Exp) (b d : ℕ) (r : Result (Option Expr) Stop) (s : Stop) → IsErrAnd r (λ z. z ≡ s) → GivesExp base highers funs V e b (told {X = Expr} view (Err s) d)
    → GivesBranches base highers funs V (otherwise e) b (told other_view r d)
otherwise_error base highers funs V e b d (Ok x) s h g = absurd h
otherwise_error base highers funs V e b d (Err NoMemory) s h g = tt
otherwise_error base highers funs V e b d (Err TooBig) s h g =
    let big : GivesExp base highers funs V e b too_big = subst (λ z. GivesExp base highers funs V e b (told {X = Expr} view (Err z) d)) (sym h) g in
    λ w a. let k = otherwise_split highers a.3 in omega (arith, big k.0 k.1, k.2)

-- ---- qualifiers

module _ (base : Name) (highers : Highers) (funs : Funs) (V : List Name) where
  gen_made : (g : Qual) (p q : Pattern) (e x : Expr) (U O W : List Name) (b d : ℕ) → g ≡ code.Gen p e → U ≡ V → O ≡ V → GivesExp base highers funs U (view e) b (made (view x) d)
      → PatBecomes (begins base) (scope_of base O) (scope_of base V) (pattern_view p) (pattern_view q) (scope_of base W) → W ≡ names_after (pattern_view p) V
      → GivesQual base highers funs V W (qual_view g) b d (Ok (code.Gen q x))
  gen_made g p q e x U O W b d s u o h k w =
      let i : GivesExp base highers funs V (view e) b (made (view x) d) = subst (λ z. GivesExp base highers funs z (view e) b (made (view x) d)) u h in
      let j : PatBecomes (begins base) (scope_of base V) (scope_of base V) (pattern_view p) (pattern_view q) (scope_of base W) =
      subst (λ z. PatBecomes (begins base) (scope_of base z) (scope_of base V) (pattern_view p) (pattern_view q) (scope_of base W)) o k in
      rw (ap qual_view s ∙ view_Gen p e, view_Gen q x)
      ((λ rest r g. draw_cons base highers funs V (pattern_view p) (pattern_view q) (view e) (view x) W b d i j w rest r g), (λ rest. ap (behind_shaped rest) (sym w)))

  cond_made : (g : Qual) (e x : Expr) (U : List Name) (b d : ℕ) → g ≡ code.Cond e → U ≡ V → GivesExp base highers funs U (view e) b (made (view x) d)
      → GivesQual base highers funs V V (qual_view g) b d (Ok (code.Cond x))
  cond_made g e x U b d s u h =
      let i : GivesExp base highers funs V (view e) b (made (view x) d) = subst (λ z. GivesExp base highers funs z (view e) b (made (view x) d)) u h in
      rw (ap qual_view s ∙ view_Cond e, view_Cond x) ((λ rest r g. test_cons base highers funs V (view e) (view x) b d i rest r g), (λ rest. refl))

  pub gen_arm : (g : Qual) (p : Pattern) (e : Expr) (U W : List Name) (b d : ℕ) (rs : Result Expr Stop) (r : Result Qual Stop) → g ≡ code.Gen p e → U ≡ V → GivesExp base highers funs U (view e) b (told view rs d)
      → Passes rs r (λ x. Makes r (Draws base V W (pattern_view p) x)) → GivesQual base highers funs V W (qual_view g) b d r
  gen_arm g p e U W b d (Ok x) (Ok y) s u h m = rw m.1 (gen_made g p m.0 e x U V W b d s u refl h m.2 m.3)
  gen_arm g p e U W b d (Ok x) (Err TooBig) s u h m = absurd m
  gen_arm g p e U W b d (Ok x) (Err NoMemory) s u h m = tt
  gen_arm g p e U W b d (Err TooBig) r s u h m = rw (m, ap qual_view s ∙ view_Gen p e) (λ rest. draw_big base highers funs V (pattern_view p) (view e) rest b (subst (λ z. GivesExp base highers funs z (view e) b too_big) u h))
  gen_arm g p e U W b d (Err NoMemory) r s u h m = rw m tt

  pub cond_arm : (g : Qual) (e : Expr) (U : List Name) (b d : ℕ) (rs : Result Expr Stop) (r : Result Qual Stop) → g ≡ code.Cond e → U ≡ V → GivesExp base highers funs U (view e) b (told view rs d)
      → Passes rs r (λ x. Makes r (λ q. q ≡ code.Cond x)) → GivesQual base highers funs V V (qual_view g) b d r
  cond_arm g e U b d (Ok x) (Ok y) s u h m = rw m (cond_made g e x U b d s u h)
  cond_arm g e U b d (Ok x) (Err TooBig) s u h m = absurd m
  cond_arm g e U b d (Ok x) (Err NoMemory) s u h m = tt
  cond_arm g e U b d (Err TooBig) r s u h m = rw (m, ap qual_view s ∙ view_Cond e) (λ rest. test_big base highers funs V (view e) rest b (subst (λ z. GivesExp base highers funs z (view e) b too_big) u h))
  cond_arm g e U b d (Err NoMemory) r s u h m = rw m tt

-- ---- fields

module _ (base : Name) (highers : Highers) (funs : Funs) (V : List Name) (skips : List (Name × Name)) (fs : List (Word × Expr)) (a : ℕ) where
  pub fields_step : (i b d : ℕ) (e : Word × Expr) (m : Word) (x : Expr) (xs ys : List (Word × Expr)) → i < length fs → e ≡ get_or fs i e → ys ≡ xs ++ (m, x) ∷ [] → m ≡ e.0 → is_some (field e.0.text skips) ≡ false
      → GivesExp base highers funs V (view e.1) b (made (view x) d)
      → ((r : Made Flds) → GivesFields base highers funs V (fields_view (drop i fs)) skips b r → GivesFields base highers funs V (fields_view fs) skips a (map_made (onto field_front xs) r))
      → (r : Made Flds) → GivesFields base highers funs V (fields_view (drop (i + 1) fs)) skips d r → GivesFields base highers funs V (fields_view fs) skips a (map_made (onto field_front ys) r)
  fields_step i b d e m x xs ys l q p t s h inv r g =
      one_more field_front (GivesFields base highers funs V (fields_view (e ∷ drop (i + 1) fs)) skips b) (GivesFields base highers funs V (fields_view (drop (i + 1) fs)) skips d) (GivesFields base highers funs V (fields_view fs) skips a) xs ys (m, x) p
      (λ r g. inv r (subst (λ z. GivesFields base highers funs V (fields_view z) skips b r) (sym (drop_at fs i e l q)) g))
      (λ r g. fields_cons base highers funs V skips e.0 m (view e.1) (view x) (fields_view (drop (i + 1) fs)) b d (not_some (field e.0.text skips) s) (ap (λ (w : Word). w.text) t) h r g) r g

  pub fields_next : (i b : ℕ) (e : Word × Expr) (xs : List (Word × Expr)) → i < length fs → e ≡ get_or fs i e → is_some (field e.0.text skips) ≡ true
      → ((r : Made Flds) → GivesFields base highers funs V (fields_view (drop i fs)) skips b r → GivesFields base highers funs V (fields_view fs) skips a (map_made (onto field_front xs) r))
      → (r : Made Flds) → GivesFields base highers funs V (fields_view (drop (i + 1) fs)) skips b r → GivesFields base highers funs V (fields_view fs) skips a (map_made (onto field_front xs) r)
  fields_next i b e xs l q s inv r g =
      inv r (subst (λ z. GivesFields base highers funs V (fields_view z) skips b r) (sym (drop_at fs i e l q)) (fields_skip base highers funs V skips e.0 (view e.1) (fields_view (drop (i + 1) fs)) b s r g))

  pub fields_done : (i b : ℕ) (xs ys : List (Word × Expr)) → length fs ≤ i → ys ≡ xs
      → ((r : Made Flds) → GivesFields base highers funs V (fields_view (drop i fs)) skips b r → GivesFields base highers funs V (fields_view fs) skips a (map_made (onto field_front xs) r))
      → GivesFields base highers funs V (fields_view fs) skips a (made (fields_view ys) b)
  fields_done i b xs ys l q inv =
      subst (λ z. GivesFields base highers funs V (fields_view fs) skips a (made z b)) (fields_made xs ∙ ap fields_view (sym q))
      (inv (made no_flds b) (subst (λ z. GivesFields base highers funs V (fields_view z) skips b (made no_flds b)) (sym (drop_all i fs l)) (fields_none base highers funs V skips b)))

  pub fields_error : (i b d : ℕ) (e : Word × Expr) (xs : List (Word × Expr)) (r : Result (List (Word × Expr)) Stop) (s : Stop) → i < length fs → e ≡ get_or fs i e → is_some (field e.0.text skips) ≡ false → IsErrAnd r (λ z. z ≡ s)
      → GivesExp base highers funs V (view e.1) b (told view (Err s) d)
      → ((r : Made Flds) → GivesFields base highers funs V (fields_view (drop i fs)) skips b r → GivesFields base highers funs V (fields_view fs) skips a (map_made (onto field_front xs) r))
      → GivesFields base highers funs V (fields_view fs) skips a (told fields_view r d)
  fields_error i b d e xs (Ok x) s l q n h g inv = absurd h
  fields_error i b d e xs (Err NoMemory) s l q n h g inv = tt
  fields_error i b d e xs (Err TooBig) s l q n h g inv =
      let big : GivesExp base highers funs V (view e.1) b too_big = subst (λ z. GivesExp base highers funs V (view e.1) b (told {X = Expr} view (Err z) d)) (sym h) g in
      inv too_big (subst (λ z. GivesFields base highers funs V (fields_view z) skips b too_big) (sym (drop_at fs i e l q))
      (fields_big base highers funs V skips e.0 (view e.1) (fields_view (drop (i + 1) fs)) b (not_some (field e.0.text skips) n) big))

-- ---- branches

rolled_seen : (l : Word) (p : Pattern) (e : Expr) (rest : Branches) → branch_view (roll-Branch (record { label = l; pat = p; body = e })) rest ≡ branch l (pattern_view p) (view e) rest
rolled_seen l p e rest = search (rules, branch_lemmas)

map_same : {T U : Type 0} (f g : T → U) → ((x : T) → f x ≡ g x) → (r : Made T) → map_made f r ≡ map_made g r
map_same f g e (made x c) = ap (λ z. made z c) (e x)
map_same f g e too_big = refl
map_same f g e wanting = refl

module _ (base : Name) (highers : Highers) (funs : Funs) (V : List Name) (bs : List Branch) (last : Option Expr) (a : ℕ) where
  pub branches_step : (i b d : ℕ) (e : Branch) (m : Word) (q : Pattern) (x : Expr) (xs ys : List Branch) → i < length bs → e ≡ get_or bs i e → ys ≡ xs ++ roll-Branch (record { label = m; pat = q; body = x }) ∷ []
      → m ≡ (out-Branch e).label → GivesWithin base highers funs V (pattern_view (out-Branch e).pat) (view (out-Branch e).body) b (made (pattern_view q, view x) d)
      → ((r : Made Branches) → GivesBranches base highers funs V (branches_view (drop i bs) last) b r → GivesBranches base highers funs V (branches_view bs last) a (map_made (onto branch_view xs) r))
      → (r : Made Branches) → GivesBranches base highers funs V (branches_view (drop (i + 1) bs) last) d r → GivesBranches base highers funs V (branches_view bs last) a (map_made (onto branch_view ys) r)
  branches_step i b d e m q x xs ys l t p w h inv r g =
      let new : Branch = roll-Branch (record { label = m; pat = q; body = x }) in
      let rest : Branches = branches_view (drop (i + 1) bs) last in
      one_more branch_view (GivesBranches base highers funs V (branches_view (e ∷ drop (i + 1) bs) last) b) (GivesBranches base highers funs V rest d) (GivesBranches base highers funs V (branches_view bs last) a) xs ys new p
      (λ r g. inv r (subst (λ z. GivesBranches base highers funs V (branches_view z last) b r) (sym (drop_at bs i e l t)) g))
      (λ r g. subst (λ z. GivesBranches base highers funs V z b (map_made (branch_view new) r)) (sym (branch_seen e rest))
      (subst (λ z. GivesBranches base highers funs V (branch (out-Branch e).label (pattern_view (out-Branch e).pat) (view (out-Branch e).body) rest) b z)
      (sym (map_same (branch_view new) (branch m (pattern_view q) (view x)) (rolled_seen m q x) r))
      (branches_cons base highers funs V (out-Branch e).label m (pattern_view (out-Branch e).pat) (pattern_view q) (view (out-Branch e).body) (view x) rest b d (ap (λ (z : Word). z.text) w) h r g))) r g

  pub branches_done : (i b d : ℕ) (xs ys : List Branch) (o : Option Expr) → length bs ≤ i → ys ≡ xs → GivesBranches base highers funs V (other_view last) b (made (other_view o) d)
      → ((r : Made Branches) → GivesBranches base highers funs V (branches_view (drop i bs) last) b r → GivesBranches base highers funs V (branches_view bs last) a (map_made (onto branch_view xs) r))
      → GivesBranches base highers funs V (branches_view bs last) a (made (arms_view (ys, o)) d)
  branches_done i b d xs ys o l q h inv =
      subst (λ z. GivesBranches base highers funs V (branches_view bs last) a (made z d)) (branches_made xs o ∙ ap (λ z. branches_view z o) (sym q))
      (inv (made (other_view o) d) (subst (λ z. GivesBranches base highers funs V (branches_view z last) b (made (other_view o) d)) (sym (drop_all i bs l)) h))

  pub branches_error : (i b d : ℕ) (e : Branch) (xs : List Branch) (r : Result (List Branch × Option Expr) Stop) (s : Stop) → i < length bs → e ≡ get_or bs i e → IsErrAnd r (λ z. z ≡ s)
      → GivesWithin base highers funs V (pattern_view (out-Branch e).pat) (view (out-Branch e).body) b (told within_view (Err s) d)
      → ((r : Made Branches) → GivesBranches base highers funs V (branches_view (drop i bs) last) b r → GivesBranches base highers funs V (branches_view bs last) a (map_made (onto branch_view xs) r))
      → GivesBranches base highers funs V (branches_view bs last) a (told arms_view r d)
  branches_error i b d e xs (Ok x) s l q h g inv = absurd h
  branches_error i b d e xs (Err NoMemory) s l q h g inv = tt
  branches_error i b d e xs (Err TooBig) s l q h g inv =
      let rest : Branches = branches_view (drop (i + 1) bs) last in
      let big : GivesWithin base highers funs V (pattern_view (out-Branch e).pat) (view (out-Branch e).body) b too_big =
      subst (λ z. GivesWithin base highers funs V (pattern_view (out-Branch e).pat) (view (out-Branch e).body) b (told {X = Pattern × Expr} within_view (Err z) d)) (sym h) g in
      inv too_big (subst (λ z. GivesBranches base highers funs V (branches_view z last) b too_big) (sym (drop_at bs i e l q))
      (subst (λ z. GivesBranches base highers funs V z b too_big) (sym (branch_seen e rest))
      (branches_big base highers funs V (out-Branch e).label (pattern_view (out-Branch e).pat) (view (out-Branch e).body) rest b big)))

  -- what stopped the last branch stops all
  pub other_error : (i b d : ℕ) (xs : List Branch) (r : Result (List Branch × Option Expr) Stop) (s : Stop) → length bs ≤ i → IsErrAnd r (λ z. z ≡ s)
      → GivesBranches base highers funs V (other_view last) b (told {X = Option Expr} other_view (Err s) d)
      → ((r : Made Branches) → GivesBranches base highers funs V (branches_view (drop i bs) last) b r → GivesBranches base highers funs V (branches_view bs last) a (map_made (onto branch_view xs) r))
      → GivesBranches base highers funs V (branches_view bs last) a (told arms_view r d)
  other_error i b d xs (Ok x) s l h g inv = absurd h
  other_error i b d xs (Err NoMemory) s l h g inv = tt
  other_error i b d xs (Err TooBig) s l h g inv =
      let big : GivesBranches base highers funs V (other_view last) b too_big = subst (λ z. GivesBranches base highers funs V (other_view last) b (told {X = Option Expr} other_view (Err z) d)) (sym h) g in
      inv too_big (subst (λ z. GivesBranches base highers funs V (branches_view z last) b too_big) (sym (drop_all i bs l)) big)
