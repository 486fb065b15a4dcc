-- What is made of an expression, a form each.
use Rattle.std.proofs.Common.{◌≡◌, ℕ, suc, ◌+◌, false, List, [], ◌∷◌, Option, Some, None, Result, Ok, Err, IfOk, refl, sym, ap, ◌∙◌, subst, arith}
use Rattle.std.specs.Result.{IsErrAnd}
use Rattle.kl_outcome.specs.Outcome.{Name}
use Rattle.kl_value.specs.declared.value.Kind.{Kind}
use Rattle.kl_value.specs.declared.value.Value.{Value}
use Rattle.kl_syntax.specs.declared.tree.Branch.{Branch}
use Rattle.kl_syntax.specs.declared.tree.Expr.{Expr}
use Rattle.kl_syntax.specs.declared.tree.Expr.TheVariants as expr
use Rattle.kl_syntax.specs.declared.tree.Op.{Op}
use Rattle.kl_syntax.specs.declared.tree.Pattern.{Pattern}
use Rattle.kl_syntax.specs.declared.tree.Pattern.TheVariants as code
use Rattle.kl_syntax.specs.declared.tree.Qual.{Qual}
use Rattle.kl_syntax.specs.declared.tree.Tail.TheVariants as tail
use Rattle.kl_syntax.specs.declared.tree.Word.{Word}
use Rattle.kl_syntax.specs.Syntax.{Pat, any, shape, Exp, Call, Rec, More, Inj, Coll, Comp, If, Let, Case, Path, Not, Neg, Chain, Exps, no_exps, exps, Flds, Quals, Branches, Steps}
use Rattle.kl_syntax.specs.View.{view, exps_view, fields_view, quals_view, steps_view, branches_view, pattern_view, patterns_view}
use Rattle.kl_syntax.proofs.Views.{view_Const, view_Name, view_Call, view_Rec, view_More, view_Inj, view_Coll, view_Comp, view_If, view_Let, view_Case, view_Path, view_Not, view_Neg, view_Chain, pattern_Rec}
use Rattle.kl_ho.specs.declared.stop.Stop.{Stop}
use Rattle.kl_ho.specs.declared.stop.Stop.TheVariants.{TooBig, NoMemory}
use Rattle.kl_ho.specs.Highers.{Higher, Highers, Funs, head, given_by}
use Rattle.kl_ho.specs.Nodes.{nodes, nodes_all, nodes_fields, nodes_quals, nodes_branches, nodes_steps}
use Rattle.kl_ho.specs.Shapes.{names_after, behind_shaped}
use Rattle.kl_ho.specs.Expansion.{New, Becomes, PatBecomes, p_shape, t_exact, PatsBecome, Expands, e_const, e_name, e_call, e_unfold, e_rec, e_extend, e_inj, e_coll, e_comp, e_if, e_let, e_case, e_path, e_not, e_neg, e_chain, ExpandAll, FieldsExpand, QualsExpand, BranchesExpand, StepsExpand}
use Rattle.kl_ho.specs.KeptPrograms.{begins}
use Rattle.kl_ho.specs.Growing.{scope_of, made, told, AnyExp, AnyAll, AnyFields, AnyQuals, AnyBranches, AnySteps, GivesExp, GivesAll, GivesFields, GivesQuals, GivesBranches, GivesSteps, GivesWithin, within_view, arms_view, Passes, Makes}
use Rattle.kl_ho.proofs.Ending.{raise, raise_all, raise_fields, raise_quals, raise_branches, raise_steps, left, right}
use Rattle.kl_ho.proofs.Counting.{same_nodes, same_all, same_fields, same_quals, same_branches, same_steps}
use Rattle.kl_ho.proofs.Growing.{Part, one_told, two_told, some_node, call_split, unfold_split, rec_split, more_split, inj_split, coll_split, comp_split, if_split, let_split, case_split, path_split, not_split, neg_split, chain_split}

module _ (base : Name) (highers : Highers) (funs : Funs) where
  abbrev is_new : New
  is_new = begins base

  abbrev pub ExpAt : List Name → Exp → ℕ → Exp → Type 0
  ExpAt V e n x = Expands is_new highers n funs (scope_of base V) e x

  abbrev pub exp_part : (V : List Name) (e : Exp) → Part (ExpAt V e) (AnyExp highers e funs) nodes
  exp_part V e = record { any = λ n x h. (is_new, scope_of base V, n, h); same = λ x y h k. same_nodes h.0 k.0 highers h.3 k.3; up = λ n m x l h. raise is_new highers h m l }

  abbrev pub AllAt : List Name → Exps → ℕ → Exps → Type 0
  AllAt V es n xs = ExpandAll is_new highers n funs (scope_of base V) es xs

  abbrev pub all_part : (V : List Name) (es : Exps) → Part (AllAt V es) (AnyAll highers es funs) nodes_all
  all_part V es = record { any = λ n x h. (is_new, scope_of base V, n, h); same = λ x y h k. same_all h.0 k.0 highers h.3 k.3; up = λ n m x l h. raise_all is_new highers h m l }

  abbrev pub FieldsAt : List Name → Flds → List (Name × Name) → ℕ → Flds → Type 0
  FieldsAt V fs skips n gs = FieldsExpand is_new highers n funs (scope_of base V) skips fs gs

  abbrev pub fields_part : (V : List Name) (fs : Flds) (skips : List (Name × Name)) → Part (FieldsAt V fs skips) (AnyFields highers fs skips funs) nodes_fields
  fields_part V fs skips = record { any = λ n x h. (is_new, scope_of base V, n, h); same = λ x y h k. same_fields h.0 k.0 highers h.3 k.3; up = λ n m x l h. raise_fields is_new highers h m l }

  abbrev pub QualsAt : List Name → Quals → ℕ → Quals → Type 0
  QualsAt V qs n rs = QualsExpand is_new highers n funs (scope_of base V) qs rs (scope_of base (behind_shaped qs V))

  abbrev pub quals_part : (V : List Name) (qs : Quals) → Part (QualsAt V qs) (AnyQuals highers qs funs) nodes_quals
  quals_part V qs = record { any = λ n x h. (is_new, scope_of base V, n, scope_of base (behind_shaped qs V), h); same = λ x y h k. same_quals h.0 k.0 highers h.4 k.4; up = λ n m x l h. raise_quals is_new highers h m l }

  abbrev pub BranchesAt : List Name → Branches → ℕ → Branches → Type 0
  BranchesAt V bs n cs = BranchesExpand is_new highers n funs (scope_of base V) bs cs

  abbrev pub branches_part : (V : List Name) (bs : Branches) → Part (BranchesAt V bs) (AnyBranches highers bs funs) nodes_branches
  branches_part V bs = record { any = λ n x h. (is_new, scope_of base V, n, h); same = λ x y h k. same_branches h.0 k.0 highers h.3 k.3; up = λ n m x l h. raise_branches is_new highers h m l }

  abbrev pub StepsAt : List Name → Steps → ℕ → Steps → Type 0
  StepsAt V ss n rs = StepsExpand is_new highers n funs (scope_of base V) ss rs

  abbrev pub steps_part : (V : List Name) (ss : Steps) → Part (StepsAt V ss) (AnySteps highers ss funs) nodes_steps
  steps_part V ss = record { any = λ n x h. (is_new, scope_of base V, n, h); same = λ x y h k. same_steps h.0 k.0 highers h.3 k.3; up = λ n m x l h. raise_steps is_new highers h m l }

  abbrev pub WithinAt : List Name → Pat → Exp → ℕ → Pat × Exp → Type 0
  WithinAt V p e n r = PatBecomes is_new (scope_of base V) (scope_of base V) p r.0 (scope_of base (names_after p V)) × Expands is_new highers n funs (scope_of base (names_after p V)) e r.1

  abbrev pub within_part : (V : List Name) (p : Pat) (e : Exp) → Part (WithinAt V p e) (λ r. AnyExp highers e funs r.1) (λ r. nodes r.1)
  within_part V p e = record { any = λ n x h. (is_new, scope_of base (names_after p V), n, h.1); same = λ x y h k. same_nodes h.0 k.0 highers h.3 k.3; up = λ n m x l h. (h.0, raise is_new highers h.1 m l) }

  -- the body of a definition, with what stands for its function parameters
  abbrev pub body_part : (given : Funs) (T : List Name) (e : Exp) → Part (λ n x. Expands is_new highers n given (scope_of base T) e x) (AnyExp highers e given) nodes
  body_part given T e = record { any = λ n x h. (is_new, scope_of base T, n, h); same = λ x y h k. same_nodes h.0 k.0 highers h.3 k.3; up = λ n m x l h. raise is_new highers h m l }

  -- no expression is let in
  pub none_arm : (V : List Name) (e : Exp) (t c : ℕ) (r : Result Expr Stop) (s : Stop) → t ≡ 0 → IsErrAnd r (λ z. z ≡ s) → GivesExp base highers funs V e t (told view r c)
  none_arm V e t c (Ok x) s z h = absurd h
  none_arm V e t c (Err TooBig) s z h = λ x a. rw z (some_node x)
  none_arm V e t c (Err NoMemory) s z h = tt

  module _ (V : List Name) (e : Expr) (t b : ℕ) (spent : t ≡ 1 + b) where
    pub const_arm : (v w : Value) → e ≡ expr.Const v → w ≡ v → GivesExp base highers funs V (view e) t (made (view (expr.Const w)) b)
    const_arm v w p q = rw (p, q, view_Const) (0, e_const, omega (arith, spent))

    pub name_arm : (x y : Word) → e ≡ expr.Name x → Becomes is_new (scope_of base V) x.text y.text → GivesExp base highers funs V (view e) t (made (view (expr.Name y)) b)
    name_arm x y p h = rw (p, view_Name, view_Name) (0, e_name h, omega (arith, spent))

    pub rec_arm : (fs : List (Word × Expr)) (c : ℕ) (ra : Result (List (Word × Expr)) Stop) (r : Result Expr Stop) → e ≡ expr.Rec fs → GivesFields base highers funs V (fields_view fs) [] b (told fields_view ra c) → Passes ra r (λ x. Makes r (λ y. y ≡ expr.Rec x)) → GivesExp base highers funs V (view e) t (told view r c)
    rec_arm fs c ra r p h m =
        rw (p, view_Rec) (one_told (FieldsAt V (fields_view fs) []) (AnyFields highers (fields_view fs) [] funs) nodes_fields (ExpAt V (Rec (fields_view fs))) (AnyExp highers (Rec (fields_view fs)) funs) nodes fields_view view (λ x. expr.Rec x) 1 t b c spent (λ x. Rec x) (λ x. view_Rec x)
        (λ n x h. (n, e_rec h)) (λ x. omega arith) (λ w s. rec_split highers s.3) ra r h m)

    pub inj_arm : (l : Word) (a : Expr) (c : ℕ) (ra : Result (Expr) Stop) (r : Result Expr Stop) → e ≡ expr.Inj l a → GivesExp base highers funs V (view a) b (told view ra c) → Passes ra r (λ x. Makes r (λ y. y ≡ expr.Inj l x)) → GivesExp base highers funs V (view e) t (told view r c)
    inj_arm l a c ra r p h m =
        rw (p, view_Inj) (one_told (ExpAt V (view a)) (AnyExp highers (view a) funs) nodes (ExpAt V (Inj l (view a))) (AnyExp highers (Inj l (view a)) funs) nodes view view (λ x. expr.Inj l x) 1 t b c spent (λ x. Inj l x) (λ x. view_Inj l x)
        (λ n x h. (n, e_inj refl h)) (λ x. omega arith) (λ w s. inj_split highers s.3) ra r h m)

    pub coll_arm : (k : Kind) (es : List Expr) (c : ℕ) (ra : Result (List Expr) Stop) (r : Result Expr Stop) → e ≡ expr.Coll k es → GivesAll base highers funs V (exps_view es) b (told exps_view ra c) → Passes ra r (λ x. Makes r (λ y. y ≡ expr.Coll k x)) → GivesExp base highers funs V (view e) t (told view r c)
    coll_arm k es c ra r p h m =
        rw (p, view_Coll) (one_told (AllAt V (exps_view es)) (AnyAll highers (exps_view es) funs) nodes_all (ExpAt V (Coll k (exps_view es))) (AnyExp highers (Coll k (exps_view es)) funs) nodes exps_view view (λ x. expr.Coll k x) 1 t b c spent (λ x. Coll k x) (λ x. view_Coll k x)
        (λ n x h. (n, e_coll h)) (λ x. omega arith) (λ w s. coll_split highers s.3) ra r h m)

    pub not_arm : (a : Expr) (c : ℕ) (ra : Result (Expr) Stop) (r : Result Expr Stop) → e ≡ expr.Not a → GivesExp base highers funs V (view a) b (told view ra c) → Passes ra r (λ x. Makes r (λ y. y ≡ expr.Not x)) → GivesExp base highers funs V (view e) t (told view r c)
    not_arm a c ra r p h m =
        rw (p, view_Not) (one_told (ExpAt V (view a)) (AnyExp highers (view a) funs) nodes (ExpAt V (Not (view a))) (AnyExp highers (Not (view a)) funs) nodes view view (λ x. expr.Not x) 1 t b c spent (λ x. Not x) (λ x. view_Not x)
        (λ n x h. (n, e_not h)) (λ x. omega arith) (λ w s. not_split highers s.3) ra r h m)

    pub neg_arm : (a : Expr) (c : ℕ) (ra : Result (Expr) Stop) (r : Result Expr Stop) → e ≡ expr.Neg a → GivesExp base highers funs V (view a) b (told view ra c) → Passes ra r (λ x. Makes r (λ y. y ≡ expr.Neg x)) → GivesExp base highers funs V (view e) t (told view r c)
    neg_arm a c ra r p h m =
        rw (p, view_Neg) (one_told (ExpAt V (view a)) (AnyExp highers (view a) funs) nodes (ExpAt V (Neg (view a))) (AnyExp highers (Neg (view a)) funs) nodes view view (λ x. expr.Neg x) 1 t b c spent (λ x. Neg x) (λ x. view_Neg x)
        (λ n x h. (n, e_neg h)) (λ x. omega arith) (λ w s. neg_split highers s.3) ra r h m)

    pub path_arm : (a : Expr) (ls : List Word) (c : ℕ) (ra : Result Expr Stop) (r : Result Expr Stop) → e ≡ expr.Path a ls → GivesExp base highers funs V (view a) b (told view ra c) → Passes ra r (λ x. Makes r (λ y. y ≡ expr.Path x ls))
        → GivesExp base highers funs V (view e) t (told view r c)
    path_arm a ls c ra r p h m =
        rw (p, view_Path) (one_told (ExpAt V (view a)) (AnyExp highers (view a) funs) nodes (ExpAt V (Path (view a) ls)) (AnyExp highers (Path (view a) ls) funs) nodes view view (λ x. expr.Path x ls) 1 t b c spent (λ x. Path x ls) (λ x. view_Path x ls)
        (λ n x h. (n, e_path refl h)) (λ x. omega arith) (λ w s. path_split highers s.3) ra r h m)

    pub more_arm : (fs : List (Word × Expr)) (a : Expr) (d c : ℕ) (ra : Result (List (Word × Expr)) Stop) (rb r : Result Expr Stop) → e ≡ expr.More fs a → GivesFields base highers funs V (fields_view fs) [] b (told fields_view ra d)
        → GivesExp base highers funs V (view a) d (told view rb c) → Passes ra r (λ x. Passes rb r (λ y. Makes r (λ z. z ≡ expr.More x y))) → GivesExp base highers funs V (view e) t (told view r c)
    more_arm fs a d c ra rb r p h i m =
        rw (p, view_More) (two_told (FieldsAt V (fields_view fs) []) (AnyFields highers (fields_view fs) [] funs) nodes_fields (ExpAt V (view a)) (AnyExp highers (view a) funs) nodes (ExpAt V (More (fields_view fs) (view a)))
        (AnyExp highers (More (fields_view fs) (view a)) funs) nodes (fields_part V (fields_view fs) []) (exp_part V (view a)) fields_view view view (λ x y. expr.More x y) 1 t b d c spent (λ x y. More x y) (λ x y. view_More x y)
        (λ n x y h i. (n, e_extend h i)) (λ x y. omega arith) (λ w s. more_split highers s.3) ra rb r h i m)

    pub let_arm : (p : Pattern) (x y : Expr) (d c : ℕ) (ra : Result Expr Stop) (rb : Result (Pattern × Expr) Stop) (r : Result Expr Stop) → e ≡ expr.Let p x y → GivesExp base highers funs V (view x) b (told view ra d)
        → GivesWithin base highers funs V (pattern_view p) (view y) d (told within_view rb c) → Passes ra r (λ x. Passes rb r (λ y. Makes r (λ z. z ≡ expr.Let y.0 x y.1))) → GivesExp base highers funs V (view e) t (told view r c)
    let_arm p x y d c ra rb r q h i m =
        rw (q, view_Let) (two_told (ExpAt V (view x)) (AnyExp highers (view x) funs) nodes (WithinAt V (pattern_view p) (view y)) (λ r. AnyExp highers (view y) funs r.1) (λ r. nodes r.1) (ExpAt V (Let (pattern_view p) (view x) (view y)))
        (AnyExp highers (Let (pattern_view p) (view x) (view y)) funs) nodes (exp_part V (view x)) (within_part V (pattern_view p) (view y)) view within_view view (λ u v. expr.Let v.0 u v.1) 1 t b d c spent (λ u v. Let v.0 u v.1) (λ u v. view_Let v.0 u v.1)
        (λ n u v h i. (n, e_let h i.0 i.1)) (λ u v. omega arith) (λ w s. let k = let_split highers s.3 in (k.0, (any, k.1), k.2, k.3, k.4)) ra rb r h i m)

    pub case_arm : (a : Expr) (bs : List Branch) (o : Option Expr) (d c : ℕ) (ra : Result Expr Stop) (rb : Result (List Branch × Option Expr) Stop) (r : Result Expr Stop) → e ≡ expr.Case a bs o → GivesExp base highers funs V (view a) b (told view ra d)
        → GivesBranches base highers funs V (branches_view bs o) d (told arms_view rb c) → Passes ra r (λ x. Passes rb r (λ y. Makes r (λ z. z ≡ expr.Case x y.0 y.1))) → GivesExp base highers funs V (view e) t (told view r c)
    case_arm a bs o d c ra rb r p h i m =
        rw (p, view_Case) (two_told (ExpAt V (view a)) (AnyExp highers (view a) funs) nodes (BranchesAt V (branches_view bs o)) (AnyBranches highers (branches_view bs o) funs) nodes_branches (ExpAt V (Case (view a) (branches_view bs o)))
        (AnyExp highers (Case (view a) (branches_view bs o)) funs) nodes (exp_part V (view a)) (branches_part V (branches_view bs o)) view arms_view view (λ x y. expr.Case x y.0 y.1) 1 t b d c spent (λ x y. Case x y) (λ x y. view_Case x y.0 y.1)
        (λ n x y h i. (n, e_case h i)) (λ x y. omega arith) (λ w s. case_split highers s.3) ra rb r h i m)

    pub chain_arm : (a : Expr) (ss : List (Op × Expr)) (d c : ℕ) (ra : Result Expr Stop) (rb : Result (List (Op × Expr)) Stop) (r : Result Expr Stop) → e ≡ expr.Chain a ss → GivesExp base highers funs V (view a) b (told view ra d)
        → GivesSteps base highers funs V (steps_view ss) d (told steps_view rb c) → Passes ra r (λ x. Passes rb r (λ y. Makes r (λ z. z ≡ expr.Chain x y))) → GivesExp base highers funs V (view e) t (told view r c)
    chain_arm a ss d c ra rb r p h i m =
        rw (p, view_Chain) (two_told (ExpAt V (view a)) (AnyExp highers (view a) funs) nodes (StepsAt V (steps_view ss)) (AnySteps highers (steps_view ss) funs) nodes_steps (ExpAt V (Chain (view a) (steps_view ss)))
        (AnyExp highers (Chain (view a) (steps_view ss)) funs) nodes (exp_part V (view a)) (steps_part V (steps_view ss)) view steps_view view (λ x y. expr.Chain x y) 1 t b d c spent (λ x y. Chain x y) (λ x y. view_Chain x y)
        (λ n x y h i. (n, e_chain h i)) (λ x y. omega arith) (λ w s. chain_split highers s.3) ra rb r h i m)

    pub if_arm : (x y z : Expr) (d f c : ℕ) (ra rb rc r : Result Expr Stop) → e ≡ expr.If x y z → GivesExp base highers funs V (view x) b (told view ra d) → GivesExp base highers funs V (view y) d (told view rb f)
        → GivesExp base highers funs V (view z) f (told view rc c) → Passes ra r (λ a. Passes rb r (λ b. Passes rc r (λ c. Makes r (λ w. w ≡ expr.If a b c)))) → GivesExp base highers funs V (view e) t (told view r c)
    if_arm x y z d f c (Ok u) rb rc r p h i j m =
        rw (p, view_If) (two_told (ExpAt V (view y)) (AnyExp highers (view y) funs) nodes (ExpAt V (view z)) (AnyExp highers (view z) funs) nodes (ExpAt V (If (view x) (view y) (view z))) (AnyExp highers (If (view x) (view y) (view z)) funs) nodes
        (exp_part V (view y)) (exp_part V (view z)) view view view (λ v w. expr.If u v w) (1 + nodes (view u)) t d f c (omega (arith, spent, h.2)) (λ v w. If (view u) v w) (λ v w. view_If u v w)
        (λ n v w k l. (h.0 + n, e_if (raise is_new highers h.1 (h.0 + n) (left h.0 n)) (raise is_new highers k (h.0 + n) (right h.0 n)) (raise is_new highers l (h.0 + n) (right h.0 n)))) (λ v w. omega arith)
        (λ w s. let k = if_split highers s.3 in (k.1, k.2, k.4, k.5, omega (arith, k.6, same_nodes is_new k.3.0 highers h.1 k.3.3))) rb rc r i j m)
    if_arm x y z d f c (Err TooBig) rb rc r p h i j m = rw (m, p, view_If) (λ w s. let k = if_split highers s.3 in omega (arith, spent, h k.0 k.3, k.6))
    if_arm x y z d f c (Err NoMemory) rb rc r p h i j m = rw m tt

  -- a box of it
  pub boxed_arm : (V : List Name) (e a : Expr) (b c : ℕ) (ra r : Result Expr Stop) → a ≡ e → GivesExp base highers funs V (view a) b (told view ra c) → Passes ra r (λ x. Makes r (λ y. y ≡ x))
      → GivesExp base highers funs V (view e) b (told view r c)
  boxed_arm V e a b c (Ok x) (Ok y) q h m = rw (m, sym q) h
  boxed_arm V e a b c (Ok x) (Err TooBig) q h m = absurd m
  boxed_arm V e a b c (Ok x) (Err NoMemory) q h m = tt
  boxed_arm V e a b c (Err TooBig) r q h m = rw (m, sym q) h
  boxed_arm V e a b c (Err NoMemory) r q h m = rw m tt

  pub comp_arm : (k : Kind) (a : Exp) (qs : Quals) (V W : List Name) (b d c : ℕ) (ra : Result (List Qual) Stop) (rb r : Result Expr Stop) → GivesQuals base highers funs V qs b (told quals_view ra d)
      → IfOk ra (λ q. W ≡ behind_shaped qs V) → GivesExp base highers funs W a d (told view rb c) → Passes ra r (λ x. Passes rb r (λ y. Makes r (λ z. z ≡ expr.Comp k y x)))
      → GivesExp base highers funs V (Comp k a qs) (1 + b) (told view r c)
  comp_arm k a qs V W b d c (Ok x) rb r h q i m =
      two_told (QualsAt V qs) (AnyQuals highers qs funs) nodes_quals (ExpAt (behind_shaped qs V) a) (AnyExp highers a funs) nodes (ExpAt V (Comp k a qs)) (AnyExp highers (Comp k a qs) funs) nodes
      (quals_part V qs) (exp_part (behind_shaped qs V) a) quals_view view view (λ x y. expr.Comp k y x) 1 (1 + b) b d c refl (λ x y. Comp k y x) (λ x y. view_Comp k y x)
      (λ n x y h i. (n, e_comp h i)) (λ x y. omega arith) (λ w s. comp_split highers s.3) (Ok x) rb r h (rw q at i) m
  comp_arm k a qs V W b d c (Err TooBig) rb r h q i m = rw m (λ w s. let k = comp_split highers s.3 in omega (arith, h k.0 k.2, k.4))
  comp_arm k a qs V W b d c (Err NoMemory) rb r h q i m = rw m tt

  pub call_arm : (f g : Word) (es : List Expr) (V : List Name) (b c : ℕ) (ra : Result (List Expr) Stop) (r : Result Expr Stop) → highers (head funs f.text) ≡ None → g.text ≡ head funs f.text → is_new g.text ≡ false
      → GivesAll base highers funs V (exps_view es) b (told exps_view ra c) → Passes ra r (λ x. Makes r (λ y. y ≡ expr.Call g x)) → GivesExp base highers funs V (Call f (exps_view es)) (1 + b) (told view r c)
  call_arm f g es V b c ra r n s o h m =
      one_told (AllAt V (exps_view es)) (AnyAll highers (exps_view es) funs) nodes_all (ExpAt V (Call f (exps_view es))) (AnyExp highers (Call f (exps_view es)) funs) nodes exps_view view (λ x. expr.Call g x) 1 (1 + b) b c refl (λ x. Call g x) (λ x. view_Call g x)
      (λ k x a. (k, e_call n s o a)) (λ x. omega arith) (λ w a. call_split highers n a.3) ra r h m

  -- a definition's body in the place of its call
  pub unfold_arm : (f : Word) (h : Higher) (given : Funs) (es : List Expr) (fs : List (Word × Expr)) (ps : List (Word × Pattern)) (V T : List Name) (t b d c : ℕ) (rf : Result (List (Word × Expr)) Stop) (rb r : Result Expr Stop)
      → highers (head funs f.text) ≡ Some h → es ≡ expr.Rec fs ∷ [] → given_by h.handed (fields_view fs) funs ≡ Some given → t ≡ 1 + b
      → GivesFields base highers funs V (fields_view fs) h.handed b (told fields_view rf d) → PatsBecome is_new [] [] h.rest (patterns_view ps) (scope_of base T)
      → GivesExp base highers given T h.body d (told view rb c) → Passes rf r (λ gs. Passes rb r (λ y. Makes r (λ z. z ≡ expr.Let (code.Rec ps tail.Exact) (expr.Rec gs) y)))
      → GivesExp base highers funs V (Call f (exps_view es)) (1 + t) (told view r c)
  unfold_arm f h given es fs ps V T t b d c rf rb r found one g spent hf hp hb m =
      rw (one, view_Rec) (two_told (FieldsAt V (fields_view fs) h.handed) (AnyFields highers (fields_view fs) h.handed funs) nodes_fields (λ n x. Expands is_new highers n given (scope_of base T) h.body x) (AnyExp highers h.body given) nodes
      (ExpAt V (Call f (exps (Rec (fields_view fs)) no_exps))) (AnyExp highers (Call f (exps (Rec (fields_view fs)) no_exps)) funs) nodes
      (fields_part V (fields_view fs) h.handed) (body_part given T h.body) fields_view view view (λ gs y. expr.Let (code.Rec ps tail.Exact) (expr.Rec gs) y) 2 (1 + t) b d c (omega (arith, spent)) (λ gs y. Let (shape (patterns_view ps) tail.Exact) (Rec gs) y)
      (λ gs y. view_Let (code.Rec ps tail.Exact) (expr.Rec gs) y ∙ ap (λ z. Let z (view (expr.Rec gs)) (view y)) (pattern_Rec ps tail.Exact) ∙ ap (λ z. Let (shape (patterns_view ps) tail.Exact) z (view y)) (view_Rec gs))
      (λ n gs y k l. (suc n, e_unfold h given found g (raise_fields is_new highers k (suc n) (omega arith)) (p_shape hp t_exact) l)) (λ gs y. omega arith)
      (λ w s. unfold_split highers h given found g s.3) rf rb r hf hb m)

  -- not even the call is let in
  pub unfold_none : (f : Word) (h : Higher) (given : Funs) (es : List Expr) (fs : List (Word × Expr)) (V : List Name) (t c : ℕ) (r : Result Expr Stop) (s : Stop) → highers (head funs f.text) ≡ Some h → es ≡ expr.Rec fs ∷ []
      → given_by h.handed (fields_view fs) funs ≡ Some given → t ≡ 0 → IsErrAnd r (λ z. z ≡ s) → GivesExp base highers funs V (Call f (exps_view es)) (1 + t) (told view r c)
  unfold_none f h given es fs V t c (Ok x) s found one g z e = absurd e
  unfold_none f h given es fs V t c (Err TooBig) s found one g z e = rw (one, view_Rec) (λ w a. let k = unfold_split highers h given found g a.3 in omega (arith, z, k.4))
  unfold_none f h given es fs V t c (Err NoMemory) s found one g z e = tt

  -- a pattern, and what stands behind it
  pub within_arm : (V W : List Name) (p : Pat) (q : Pattern) (e : Exp) (b c : ℕ) (rb : Result Expr Stop) (r : Result (Pattern × Expr) Stop) → PatBecomes is_new (scope_of base V) (scope_of base V) p (pattern_view q) (scope_of base W) → W ≡ names_after p V
      → GivesExp base highers funs W e b (told view rb c) → Passes rb r (λ y. Makes r (λ z. z ≡ (q, y))) → GivesWithin base highers funs V p e b (told within_view r c)
  within_arm V W p q e b c (Ok y) (Ok z) k w h m =
      rw m (
        h.0,
        (subst (λ X. PatBecomes is_new (scope_of base V) (scope_of base V) p (pattern_view q) (scope_of base X)) w k, subst (λ X. Expands is_new highers h.0 funs (scope_of base X) e (view y)) w h.1),
        h.2,
      )
  within_arm V W p q e b c (Ok y) (Err TooBig) k w h m = absurd m
  within_arm V W p q e b c (Ok y) (Err NoMemory) k w h m = tt
  within_arm V W p q e b c (Err TooBig) r k w h m = rw m (λ x a. h x.1 a)
  within_arm V W p q e b c (Err NoMemory) r k w h m = rw m tt
