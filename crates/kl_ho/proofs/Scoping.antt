-- A program without a breach whose functions keep to their shapes keeps to the rules of scope.
use Rattle.std.proofs.Common.{◌≡◌, ℕ, suc, ◌==◌, Bool, true, false, ◌||◌, ◌&&◌, not, if◌then◌else◌, cond, List, [], ◌∷◌}
use Rattle.std.proofs.Common.{◌++◌, map, Option, Some, None, IsSome, is_some, refl, sym, ap, ◌∙◌, subst, true≢false}
use Rattle.std.proofs.Common.{append-nil, bytes_eq, arith}
use Rattle.std.specs.Option.{option_map, option_or}
use Rattle.std.proofs.lemmas.Bool.{eqb-true, or_parts}
use Rattle.kl_base.specs.Fields.{field}
use Rattle.kl_outcome.specs.Outcome.{Name}
use Rattle.kl_syntax.specs.declared.tree.Tail.{Tail}
use Rattle.kl_syntax.specs.declared.tree.Tail.TheVariants as tail
use Rattle.kl_syntax.specs.declared.tree.Meaning.TheVariants.{Variable}
use Rattle.kl_syntax.specs.declared.tree.Word.{Word}
use Rattle.kl_syntax.specs.Syntax.{Pat, catch, any, same, is, shape, variant, Pats, no_pats, pats, Exp, Const, name, Call, Rec}
use Rattle.kl_syntax.specs.Syntax.{More, Inj, Coll, Comp, If, Let, Case, Path, Not, Neg, Chain, Exps, no_exps, exps, Flds}
use Rattle.kl_syntax.specs.Syntax.{no_flds, flds, Quals, no_quals, draw, test, Branches, no_branches, otherwise, branch, Steps}
use Rattle.kl_syntax.specs.Syntax.{no_steps, step}
use Rattle.kl_scope.specs.Senses as scope
use Rattle.kl_scope.specs.Senses.{place_in, named, called}
use Rattle.kl_scope.specs.declared.names.Sense.{Sense}
use Rattle.kl_scope.specs.declared.refusal.ScopeError.TheVariants.{Misapplied}
use Rattle.kl_scope.specs.Patterns.{rest_variable, variables, variables_all, tests, pattern_labels, within}
use Rattle.kl_scope.specs.Findings.{breach, only_if, mention_in, not_as_taken, used, repeated, pattern_findings}
use Rattle.kl_scope.specs.Findings.{patterns_findings, drawn_findings, may_fail, sure_findings, count, field_labels}
use Rattle.kl_scope.specs.Findings.{branch_labels, behind, findings, findings_all, findings_fields, findings_quals}
use Rattle.kl_scope.specs.Findings.{findings_branches, findings_steps}
use Rattle.kl_meaning.specs.Match.{same_name}
use Rattle.kl_ho.specs.HoPrograms.{FunctionFields, is_among}
use Rattle.kl_ho.specs.Shapes.{Shape, plain, with, shape_at, World, rest_after, names_after, names_after_all, behind_shaped}
use Rattle.kl_ho.specs.Shapes.{or_function, ByShape, Unless, IsShapedPat, AreShapedPats, IsShaped, IsShapedArgument}
use Rattle.kl_ho.specs.Shapes.{IsShapedLiteral, AreShaped, AreShapedFields, AreShapedQuals, AreShapedBranches, AreShapedSteps}
use Rattle.kl_ho.specs.Keeps.{Clean, Takes, Else, ByParam, KeepsName, KeepsNames, KeepsNamesAll, KeepsDrawn, KeepsSure}
use Rattle.kl_ho.specs.Keeps.{Keeps, KeepsArgument, KeepsLiteral, KeepsAll, KeepsFields, KeepsQuals, KeepsBranches, KeepsSteps}
use Rattle.kl_ho.specs.Plain.{nothing, is_parameter, takes_function, is_bare_function, called_parameter, plainly, plainly_handed}
use Rattle.kl_ho.specs.Plain.{plainly_all, plainly_fields, plainly_quals, plainly_branches, plainly_steps}
use Rattle.kl_ho.proofs.Accepting.{split_clean, pushed, pushed_both}
use Rattle.kl_ho.proofs.ProgramAccepting.{flipped}

-- ---- what a name has without a breach

clean_count : (s : Sense) (w : Word) (n : ℕ) (b : Bool) → (s.takes == n) ≡ b → Clean (only_if (if b then false else true) (breach (Misapplied w.text w.token))) → s.takes ≡ n
clean_count s w n true e h = eqb-true s.takes n e
clean_count s w n false e h = absurd h.0

clean_takes : (o : Option Sense) (w : Word) (n : ℕ) → Clean (used o w n) → Takes o n
clean_takes (Some s) w n h = clean_count s w n (s.takes == n) refl (split_clean (mention_in s.means) (only_if (not_as_taken s.takes n) (breach (Misapplied w.text w.token))) h).1
clean_takes None w n h = absurd h.0

pub no_tests : (ns : List ℕ) → Clean (map may_fail ns) → ns ≡ []
no_tests [] h = refl
no_tests (n ∷ ns) h = absurd h.0

-- ---- the scope behind patterns

-- a name is bound only where it stands for a value or is a function parameter
abbrev pub Inside : List Name → List (Name × Shape) → List Name → Type 0
Inside V params ys = (x : Name) → is_among x V ≡ false → field x params ≡ None → place_in ys x ≡ None

abbrev pub AreThere : List (Name × Shape) → List Name → Type 0
AreThere params ys = (x : Name) (t : Shape) → field x params ≡ Some t → IsSome (place_in ys x)

pub place_none : (b : Bool) (o : Option ℕ) → b ≡ false → o ≡ None → (if b then Some 0 else option_map suc o) ≡ None
place_none true o e h = absurd (true≢false e)
place_none false o e h = rw h refl

pub place_some : (b : Bool) (o : Option ℕ) → IsSome o → IsSome (if b then Some 0 else option_map suc o)
place_some true o h = refl
place_some false (Some i) h = refl
place_some false None h = absurd (true≢false (sym h))

module _ (params : List (Name × Shape)) where
  pub inside_one : (y : Name) (V ys : List Name) → Inside V params ys → Inside (y ∷ V) params (y ∷ ys)
  inside_one y V ys h = λ x n p. place_none (bytes_eq y x) (place_in ys x) (flipped x y (or_parts (same_name x y) (is_among x V) n).0) (h x (or_parts (same_name x y) (is_among x V) n).1 p)

  there_one : (y : Name) (ys : List Name) → AreThere params ys → AreThere params (y ∷ ys)
  there_one y ys h = λ x t p. place_some (bytes_eq y x) (place_in ys x) (h x t p)

  there_pushed : (ws : List Word) (ys : List Name) → AreThere params ys → AreThere params (pushed ws ys)
  there_pushed [] ys h = h
  there_pushed (w ∷ ws) ys h = there_pushed ws (w.text ∷ ys) (there_one w.text ys h)

  inside_tail : (end : Tail) (V ys : List Name) → Inside V params ys → Inside (rest_after end V) params (pushed (rest_variable end) ys)
  inside_tail tail.Exact V ys h = h
  inside_tail tail.Open V ys h = h
  inside_tail (tail.Rest x) V ys h = inside_one x.text V ys h

  mutual
    pub inside_after : (p : Pat) (V ys : List Name) → Inside V params ys → Inside (names_after p V) params (pushed (variables p) ys)
    inside_after (catch x) V ys h = inside_one x.text V ys h
    inside_after any V ys h = h
    inside_after (same x) V ys h = h
    inside_after (is v n) V ys h = h
    inside_after (shape ps end) V ys h =
        rw (pushed_both (variables_all ps) (rest_variable end) ys) (inside_tail end (names_after_all ps V) (pushed (variables_all ps) ys) (inside_after_all ps V ys h))
    inside_after (variant l p) V ys h = inside_after p V ys h

    inside_after_all : (ps : Pats) (V ys : List Name) → Inside V params ys → Inside (names_after_all ps V) params (pushed (variables_all ps) ys)
    inside_after_all no_pats V ys h = h
    inside_after_all (pats l p ps) V ys h =
        rw (pushed_both (variables p) (variables_all ps) ys) (inside_after_all ps (names_after p V) (pushed (variables p) ys) (inside_after p V ys h))

pub among_field : (x : Name) (ps : List (Name × Shape)) → is_among x (map (λ p. p.0) ps) ≡ is_some (field x ps)
among_field x [] = refl
among_field x (p ∷ ps) = by_name (same_name x p.0) (among_field x ps)
  where
    by_name : (b : Bool) → is_among x (map (λ p. p.0) ps) ≡ is_some (field x ps) → (b || is_among x (map (λ p. p.0) ps)) ≡ is_some (cond b (Some p.1) (field x ps))
    by_name true e = refl
    by_name false e = e

-- ---- expressions

module _ (fields : FunctionFields) (is_function : Name → Bool) (world : World) (params : List (Name × Shape)) (g : scope.Scope) (arity : Name → Option ℕ)
    (value_arity : (x : Name) → Takes (named (record g { variables = [] }) x) 0 → arity x ≡ Some 0) (call_arity : (x : Name) (k : ℕ) → Takes (called (record g { variables = [] }) x) k → arity x ≡ Some k)
    (functions : (x : Name) → is_function x ≡ true → IsSome (world.functions x)) where
  abbrev pub names : List Name
  names = map (λ p. p.0) params

  abbrev pub at : List Name → scope.Scope
  at ys = record g { variables = ys }

  pub bound_at : (ws : List Word) (ys : List Name) → scope.all_bound (at ys) ws ≡ at (pushed ws ys)
  bound_at [] ys = refl
  bound_at (w ∷ ws) ys = bound_at ws (w.text ∷ ys)

  pub record Here (V ys : List Name) : Type 0 where
    pub inside : Inside V params ys
    pub there : AreThere params ys

  pub here_after : (p : Pat) (V ys : List Name) → Here V ys → Here (names_after p V) (pushed (variables p) ys)
  here_after p V ys h = record { inside = inside_after params p V ys h.inside; there = there_pushed params (variables p) ys h.there }

  none_of : (o : Option Shape) (p : Option Shape) → or_function o p ≡ None → o ≡ None
  none_of (Some s) p e = e
  none_of None p e = refl

  -- a name that stands for a value
  name_by : (among : Bool) (x : Word) (V ys : List Name) → is_among x.text V ≡ among → Here V ys → cond among None (or_function (field x.text params) (world.functions x.text)) ≡ None
      → Clean (used (named (at ys) x.text) x 0) → Else among ((field x.text params ≡ None) × (arity x.text ≡ Some 0))
  name_by true x V ys q h e c = tt
  name_by false x V ys q h e c =
      let n = none_of (field x.text params) (world.functions x.text) e in
      (n, value_arity x.text (rw (h.inside x.text q n) at (clean_takes (named (at ys) x.text) x 0 c)))

  name_keeps : (x : Word) (V ys : List Name) → Here V ys → cond (is_among x.text V) None (or_function (field x.text params) (world.functions x.text)) ≡ None → Clean (used (named (at ys) x.text) x 0)
      → KeepsName world arity params V x.text
  name_keeps x V ys h e c = name_by (is_among x.text V) x V ys refl h e c

  mutual
    names_keep : (p : Pat) (V ys : List Name) → Here V ys → IsShapedPat world params p V → Clean (pattern_findings p (at ys)) → KeepsNames world arity params p V
    names_keep (catch x) V ys h s c = tt
    names_keep any V ys h s c = tt
    names_keep (same x) V ys h s c = name_keeps x V ys h s.0 c
    names_keep (is v n) V ys h s c = tt
    names_keep (shape ps end) V ys h s c =
        let r = split_clean (repeated [] (pattern_labels ps)) (patterns_findings ps (at ys)) c in
        (r.0, all_names_keep ps V ys h s r.1)
    names_keep (variant l p) V ys h s c = names_keep p V ys h s c

    pub all_names_keep : (ps : Pats) (V ys : List Name) → Here V ys → AreShapedPats world params ps V → Clean (patterns_findings ps (at ys)) → KeepsNamesAll world arity params ps V
    all_names_keep no_pats V ys h s c = tt
    all_names_keep (pats l p ps) V ys h s c =
        let r = split_clean (pattern_findings p (at ys)) (patterns_findings ps (at ys)) c in
        (names_keep p V ys h s.0 r.0, all_names_keep ps V ys h s.1 r.1)

  drawn_keeps : (p : Pat) (V ys : List Name) → Here V ys → IsShapedPat world params p V → Clean (drawn_findings p (at ys)) → KeepsDrawn world arity params p V
  drawn_keeps p V ys h s c = let r = split_clean (pattern_findings p (at ys)) (repeated [] (variables p)) c in (names_keep p V ys h s r.0, r.1)

  pub sure_keeps : (p : Pat) (V ys : List Name) → Here V ys → IsShapedPat world params p V → Clean (sure_findings p (at ys)) → KeepsSure world arity params p V
  sure_keeps p V ys h s c = let r = split_clean (map may_fail (tests p)) (drawn_findings p (at ys)) c in (no_tests (tests p) r.0, drawn_keeps p V ys h s r.1)

  -- a field that holds a value is as it was
  no_function : (among : Bool) (x : Name) → cond among None (or_function (field x params) (world.functions x)) ≡ None → (not among && (is_among x names || is_function x)) ≡ false
  no_function true x e = refl
  no_function false x e = by_param (field x params) (is_function x) refl refl e
    where
      by_param : (o : Option Shape) (b : Bool) → field x params ≡ o → is_function x ≡ b → or_function o (world.functions x) ≡ None → (is_among x names || b) ≡ false
      by_param (Some t) b q r e = let z : ⊥ = cc in absurd z
      by_param None true q r e = absurd (true≢false (sym (functions x r) ∙ ap is_some e))
      by_param None false q r e = rw (among_field x params ∙ ap is_some q) refl

  bare_value : (e : Exp) (V : List Name) → IsShaped world params e V → is_bare_function is_function names e V ≡ false
  bare_value (name x) V s = no_function (is_among x.text V) x.text s.0
  bare_value e V s = refl

  -- ---- labels and arguments

  labels_still : (fs : Flds) (o : Option Name) (V : List Name) → field_labels (plainly_fields fields is_function names fs o V) ≡ field_labels fs
  labels_still no_flds o V = refl
  labels_still (flds l e fs) o V = ap (λ ls. l ∷ ls) (labels_still fs o V)

  branches_still : (bs : Branches) (V : List Name) → branch_labels (plainly_branches fields is_function names bs V) ≡ branch_labels bs
  branches_still no_branches V = refl
  branches_still (otherwise e) V = refl
  branches_still (branch l p e bs) V = ap (λ ls. l ∷ ls) (branches_still bs V)

  all_counted : (es : Exps) (V : List Name) → count (plainly_all fields is_function names es V) ≡ count es
  all_counted no_exps V = refl
  all_counted (exps e es) V = ap suc (all_counted es V)

  counted : (f : Name) (es : Exps) (V : List Name) → count (plainly_handed fields is_function names es f V) ≡ count es
  counted f no_exps V = refl
  counted f (exps e no_exps) V = refl
  counted f (exps e (exps x es)) V = ap suc (ap suc (all_counted es V))

  variable_takes : (o : Option ℕ) (p q : Option Sense) (n : ℕ) → IsSome o → Takes (option_or (option_or (option_map (λ i. scope.sense (Variable i) 0) o) p) q) (suc n) → ⊥
  variable_takes (Some i) p q n h t = omega (arith, t)
  variable_takes None p q n h t = absurd (true≢false (sym h))

  -- a variable with arguments is misapplied
  variable_alone : (f : Word) (ys : List Name) (n : ℕ) → IsSome (place_in ys f.text) → Clean (used (called (at ys) f.text) f (suc n)) → ⊥
  variable_alone f ys n i c = variable_takes (place_in ys f.text) _ _ n i (clean_takes (called (at ys) f.text) f (suc n) c)

  -- of a parameter without a breach there is one argument
  one_argument : (f : Word) (ys : List Name) (ws : Exps) → IsSome (place_in ys f.text) → Clean (findings (called_parameter f ws) (at ys)) → (count ws ≡ 1) × Clean (findings_all ws (at ys))
  one_argument f ys (exps e no_exps) i c = (refl, rw (append-nil (findings e (at ys))) c)
  one_argument f ys no_exps i c = absurd (variable_alone f ys 0 i (split_clean (used (called (at ys) f.text) f 1) [] c).0)
  one_argument f ys (exps e (exps x es)) i c =
      absurd (variable_alone f ys (suc (suc (count es))) i
      (split_clean (used (called (at ys) f.text) f (suc (suc (suc (count es))))) (findings_all (exps nothing (exps e (exps x es))) (at ys)) c).0)

  -- the head of a call, and what is handed to it
  head_by : (f : Word) (ws : Exps) (V ys : List Name) (o : Option Shape) (b : Bool) → is_among f.text V ≡ false → Here V ys → field f.text params ≡ o → is_among f.text names ≡ b → is_some o ≡ b
      → Clean (findings (cond b (called_parameter f ws) (Call f ws)) (at ys)) → ByParam o (count ws ≡ 1) (arity f.text ≡ Some (count ws)) × Clean (findings_all ws (at ys))
  head_by f ws V ys (Some t) true n h q m e c = one_argument f ys ws (h.there f.text t q) c
  head_by f ws V ys None false n h q m e c =
      let r = split_clean (used (called (at ys) f.text) f (count ws)) (findings_all ws (at ys)) c in
      (call_arity f.text (count ws) (rw (h.inside f.text n q) at (clean_takes (called (at ys) f.text) f (count ws) r.0)), r.1)
  head_by f ws V ys (Some t) false n h q m e c = absurd (true≢false e)
  head_by f ws V ys None true n h q m e c = absurd (true≢false (sym e))

  head_keeps : (f : Word) (ws : Exps) (V ys : List Name) → is_among f.text V ≡ false → Here V ys
      → Clean (findings (cond (is_parameter names V f.text) (called_parameter f ws) (Call f ws)) (at ys))
      → ByParam (field f.text params) (count ws ≡ 1) (arity f.text ≡ Some (count ws)) × Clean (findings_all ws (at ys))
  head_keeps f ws V ys n h c =
      head_by f ws V ys (field f.text params) (is_among f.text names) n h refl refl (sym (among_field f.text params)) (rw n at c)

  unless_keeps : (o : Option Shape) (P Q : Type 0) → (P → Q) → Unless o P → Unless o Q
  unless_keeps (Some s) P Q go u = tt
  unless_keeps None P Q go u = go u

  behind_here : (qs : Quals) (V ys : List Name) → Here V ys
      → (zs : List Name) × (behind (plainly_quals fields is_function names qs V) (at ys) ≡ at zs) × Here (behind_shaped qs V) zs
  behind_here no_quals V ys h = (ys, refl, h)
  behind_here (draw p e qs) V ys h =
      let r = behind_here qs (names_after p V) (pushed (variables p) ys) (here_after p V ys h) in
      (r.0, rw (bound_at (variables p) ys) r.1, r.2)
  behind_here (test e qs) V ys h = behind_here qs V ys h

  mutual
    pub keeps : (e : Exp) (o : Option Name) (V ys : List Name) → Here V ys → IsShaped world params e V → Clean (findings (plainly fields is_function names e o V) (at ys)) → Keeps world arity params e V
    keeps (Const v) o V ys h s c = tt
    keeps (name x) o V ys h s c = name_keeps x V ys h s.0 c
    keeps (Call f es) o V ys h s c =
        let r = head_keeps f (plainly_handed fields is_function names es f.text V) V ys s.0.0 h c in (
          (s.0.0, subst (λ n. ByParam (field f.text params) (n ≡ 1) (arity f.text ≡ Some n)) (counted f.text es V) r.0),
          handed_keeps es f.text (or_function (field f.text params) (world.functions f.text)) V ys h (rw s.0.0 at s.1) r.1,
        )
    keeps (Rec fs) o V ys h s c =
        let r = split_clean (repeated [] (field_labels (plainly_fields fields is_function names fs o V))) (findings_fields (plainly_fields fields is_function names fs o V) (at ys)) c in
        (subst (λ ls. Clean (repeated [] ls)) (labels_still fs o V) r.0, fields_keep fs o plain V ys h s r.1)
    keeps (More fs a) o V ys h s c =
        let gs = plainly_fields fields is_function names fs None V in
        let r = split_clean (repeated [] (field_labels gs)) (findings_fields gs (at ys) ++ findings (plainly fields is_function names a None V) (at ys)) c in
        let q = split_clean (findings_fields gs (at ys)) (findings (plainly fields is_function names a None V) (at ys)) r.1 in
        (subst (λ ls. Clean (repeated [] ls)) (labels_still fs None V) r.0, fields_keep fs None plain V ys h s.0 q.0, keeps a None V ys h s.1 q.1)
    keeps (Inj l a) o V ys h s c = keeps a None V ys h s c
    keeps (Coll k es) o V ys h s c = all_keep es V ys h s c
    keeps (Comp k e qs) o V ys h s c =
        let b = behind_here qs V ys h in
        let r = split_clean (findings_quals (plainly_quals fields is_function names qs V) (at ys)) (findings (plainly fields is_function names e None (behind_shaped qs V)) (behind (plainly_quals fields is_function names qs V) (at ys))) c in
        (quals_keep qs V ys h s.0 r.0, keeps e None (behind_shaped qs V) b.0 b.2 s.1 (rw b.1 at r.1))
    keeps (If x y z) o V ys h s c =
        let r = split_clean (findings (plainly fields is_function names x None V) (at ys)) (findings (plainly fields is_function names y None V) (at ys) ++ findings (plainly fields is_function names z None V) (at ys)) c in
        let q = split_clean (findings (plainly fields is_function names y None V) (at ys)) (findings (plainly fields is_function names z None V) (at ys)) r.1 in
        (keeps x None V ys h s.0 r.0, keeps y None V ys h s.1 q.0, keeps z None V ys h s.2 q.1)
    keeps (Let p x y) o V ys h s c =
        let r = split_clean (findings (plainly fields is_function names x None V) (at ys)) (sure_findings p (at ys) ++ findings (plainly fields is_function names y None (names_after p V)) (within p (at ys))) c in
        let q = split_clean (sure_findings p (at ys)) (findings (plainly fields is_function names y None (names_after p V)) (within p (at ys))) r.1 in (
          keeps x None V ys h s.0 r.0,
          sure_keeps p V ys h s.1 q.0,
          keeps y None (names_after p V) (pushed (variables p) ys) (here_after p V ys h) s.2 (rw (bound_at (variables p) ys) at q.1),
        )
    keeps (Case a bs) o V ys h s c =
        let cs = plainly_branches fields is_function names bs V in
        let r = split_clean (findings (plainly fields is_function names a None V) (at ys)) (repeated [] (branch_labels cs) ++ findings_branches cs (at ys)) c in
        let q = split_clean (repeated [] (branch_labels cs)) (findings_branches cs (at ys)) r.1 in
        (keeps a None V ys h s.0 r.0, subst (λ ls. Clean (repeated [] ls)) (branches_still bs V) q.0, branches_keep bs V ys h s.1 q.1)
    keeps (Path a ls) o V ys h s c = keeps a None V ys h s c
    keeps (Not a) o V ys h s c = keeps a None V ys h s c
    keeps (Neg a) o V ys h s c = keeps a None V ys h s c
    keeps (Chain a ss) o V ys h s c =
        let r = split_clean (findings (plainly fields is_function names a None V) (at ys)) (findings_steps (plainly_steps fields is_function names ss V) (at ys)) c in
        (keeps a None V ys h s.0 r.0, steps_keep ss V ys h s.1 r.1)

    handed_keeps : (es : Exps) (f : Name) (o : Option Shape) (V ys : List Name) → Here V ys → ByShape o (AreShaped world params es V) (λ t. IsShapedArgument world params t es V)
        → Clean (findings_all (plainly_handed fields is_function names es f V) (at ys)) → ByShape o (KeepsAll world arity params es V) (λ t. KeepsArgument world arity params t es V)
    handed_keeps no_exps f None V ys h s c = tt
    handed_keeps no_exps f (Some plain) V ys h s c = tt
    handed_keeps no_exps f (Some (with l t rest)) V ys h s c = absurd s
    handed_keeps (exps e no_exps) f None V ys h s c = (keeps e (Some f) V ys h s.0 (split_clean (findings (plainly fields is_function names e (Some f) V) (at ys)) [] c).0, tt)
    handed_keeps (exps e no_exps) f (Some plain) V ys h s c = (keeps e (Some f) V ys h s.0 (split_clean (findings (plainly fields is_function names e (Some f) V) (at ys)) [] c).0, tt)
    handed_keeps (exps e no_exps) f (Some (with l t rest)) V ys h s c =
        literal_keeps e f (with l t rest) V ys h s (split_clean (findings (plainly fields is_function names e (Some f) V) (at ys)) [] c).0
    handed_keeps (exps e (exps x es)) f None V ys h s c =
        let r = split_clean (findings (plainly fields is_function names e None V) (at ys)) (findings_all (plainly_all fields is_function names (exps x es) V) (at ys)) c in
        let q = split_clean (findings (plainly fields is_function names x None V) (at ys)) (findings_all (plainly_all fields is_function names es V) (at ys)) r.1 in
        (keeps e None V ys h s.0 r.0, (keeps x None V ys h s.1.0 q.0, all_keep es V ys h s.1.1 q.1))
    handed_keeps (exps e (exps x es)) f (Some plain) V ys h s c =
        let r = split_clean (findings (plainly fields is_function names e None V) (at ys)) (findings_all (plainly_all fields is_function names (exps x es) V) (at ys)) c in
        let q = split_clean (findings (plainly fields is_function names x None V) (at ys)) (findings_all (plainly_all fields is_function names es V) (at ys)) r.1 in
        (keeps e None V ys h s.0 r.0, (keeps x None V ys h s.1.0 q.0, all_keep es V ys h s.1.1 q.1))
    handed_keeps (exps e (exps x es)) f (Some (with l t rest)) V ys h s c = absurd s

    literal_keeps : (e : Exp) (f : Name) (t : Shape) (V ys : List Name) → Here V ys → IsShapedLiteral world params t e V → Clean (findings (plainly fields is_function names e (Some f) V) (at ys))
        → KeepsLiteral world arity params t e V
    literal_keeps (Rec fs) f t V ys h s c =
        let r = split_clean (repeated [] (field_labels (plainly_fields fields is_function names fs (Some f) V))) (findings_fields (plainly_fields fields is_function names fs (Some f) V) (at ys)) c in
        (s.0, subst (λ ls. Clean (repeated [] ls)) (labels_still fs (Some f) V) r.0, fields_keep fs (Some f) t V ys h s.1 r.1)
    literal_keeps e f t V ys h s c = absurd s

    all_keep : (es : Exps) (V ys : List Name) → Here V ys → AreShaped world params es V → Clean (findings_all (plainly_all fields is_function names es V) (at ys)) → KeepsAll world arity params es V
    all_keep no_exps V ys h s c = tt
    all_keep (exps e es) V ys h s c =
        let r = split_clean (findings (plainly fields is_function names e None V) (at ys)) (findings_all (plainly_all fields is_function names es V) (at ys)) c in
        (keeps e None V ys h s.0 r.0, all_keep es V ys h s.1 r.1)

    fields_keep : (fs : Flds) (o : Option Name) (t : Shape) (V ys : List Name) → Here V ys → AreShapedFields world params t fs V → Clean (findings_fields (plainly_fields fields is_function names fs o V) (at ys))
        → KeepsFields world arity params t fs V
    fields_keep no_flds o t V ys h s c = tt
    fields_keep (flds l e fs) o t V ys h s c =
        let made : Exp = cond (is_bare_function is_function names e V && takes_function fields names o l.text) nothing (plainly fields is_function names e None V) in
        let r = split_clean (findings made (at ys)) (findings_fields (plainly_fields fields is_function names fs o V) (at ys)) c in
        (unless_keeps (shape_at l.text t) _ _ (λ i. keeps e None V ys h i (rw (bare_value e V i) at r.0)) s.0, fields_keep fs o t V ys h s.1 r.1)

    quals_keep : (qs : Quals) (V ys : List Name) → Here V ys → AreShapedQuals world params qs V → Clean (findings_quals (plainly_quals fields is_function names qs V) (at ys)) → KeepsQuals world arity params qs V
    quals_keep no_quals V ys h s c = tt
    quals_keep (draw p e qs) V ys h s c =
        let r = split_clean (findings (plainly fields is_function names e None V) (at ys)) (drawn_findings p (at ys) ++ findings_quals (plainly_quals fields is_function names qs (names_after p V)) (within p (at ys))) c in
        let q = split_clean (drawn_findings p (at ys)) (findings_quals (plainly_quals fields is_function names qs (names_after p V)) (within p (at ys))) r.1 in (
          keeps e None V ys h s.0 r.0,
          drawn_keeps p V ys h s.1 q.0,
          quals_keep qs (names_after p V) (pushed (variables p) ys) (here_after p V ys h) s.2 (rw (bound_at (variables p) ys) at q.1),
        )
    quals_keep (test e qs) V ys h s c =
        let r = split_clean (findings (plainly fields is_function names e None V) (at ys)) (findings_quals (plainly_quals fields is_function names qs V) (at ys)) c in
        (keeps e None V ys h s.0 r.0, quals_keep qs V ys h s.1 r.1)

    branches_keep : (bs : Branches) (V ys : List Name) → Here V ys → AreShapedBranches world params bs V → Clean (findings_branches (plainly_branches fields is_function names bs V) (at ys)) → KeepsBranches world arity params bs V
    branches_keep no_branches V ys h s c = tt
    branches_keep (otherwise e) V ys h s c = keeps e None V ys h s c
    branches_keep (branch l p e bs) V ys h s c =
        let r = split_clean (sure_findings p (at ys)) (findings (plainly fields is_function names e None (names_after p V)) (within p (at ys)) ++ findings_branches (plainly_branches fields is_function names bs V) (at ys)) c in
        let q = split_clean (findings (plainly fields is_function names e None (names_after p V)) (within p (at ys))) (findings_branches (plainly_branches fields is_function names bs V) (at ys)) r.1 in (
          sure_keeps p V ys h s.0 r.0,
          keeps e None (names_after p V) (pushed (variables p) ys) (here_after p V ys h) s.1 (rw (bound_at (variables p) ys) at q.0),
          branches_keep bs V ys h s.2 q.1,
        )

    steps_keep : (ss : Steps) (V ys : List Name) → Here V ys → AreShapedSteps world params ss V → Clean (findings_steps (plainly_steps fields is_function names ss V) (at ys)) → KeepsSteps world arity params ss V
    steps_keep no_steps V ys h s c = tt
    steps_keep (step op e ss) V ys h s c =
        let r = split_clean (findings (plainly fields is_function names e None V) (at ys)) (findings_steps (plainly_steps fields is_function names ss V) (at ys)) c in
        (keeps e None V ys h s.0 r.0, steps_keep ss V ys h s.1 r.1)
