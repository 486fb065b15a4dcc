-- The walk, a form of pattern and of expression each.
use Rattle.std.proofs.Common.{◌≡◌, ℕ, suc, ◌-◌, List, [], ◌∷◌, ◌++◌, map, length, drop, Option, Some, None, Result, Ok, Err, IfOk, refl, sym, ap, subst, ◌∙◌, rules, append_assoc}
use Rattle.std.specs.Option.{option_map}
use Rattle.kl_base.specs.declared.memory.NoMemory.{NoMemory}
use Rattle.kl_value.specs.declared.value.Kind.{Kind}
use Rattle.kl_syntax.specs.declared.tree.Branch.{Branch, out-Branch, roll-Branch, the_lemmas as branch_lemmas}
use Rattle.kl_syntax.specs.declared.tree.Expr.{Expr}
use Rattle.kl_syntax.specs.declared.tree.Expr.TheVariants as expr
use Rattle.kl_syntax.specs.declared.tree.Op.{Op}
use Rattle.kl_syntax.specs.declared.tree.Pattern.{Pattern}
use Rattle.kl_syntax.specs.declared.tree.Pattern.TheVariants as code
use Rattle.kl_syntax.specs.declared.tree.Qual.{Qual}
use Rattle.kl_syntax.specs.declared.tree.Qual.TheVariants as quals
use Rattle.kl_syntax.specs.declared.tree.Tail.{Tail}
use Rattle.kl_syntax.specs.declared.tree.Word.{Word}
use Rattle.kl_syntax.specs.Syntax.{Pat, Pats, no_pats, pats, shape, Exp, Call, Rec, More, Coll, Comp, If, Let, Case, Chain, Exps, no_exps, exps, Flds, no_flds, flds, Quals, no_quals, Branches, no_branches, branch, Steps, no_steps, step}
use Rattle.kl_syntax.specs.View.{view, exps_view, exps_of, fields_view, field_view, flds_of, quals_view, qual_view, quals_of, steps_view, steps_of, step_view, branch_view, branches_of, rest_of, pattern_view, patterns_view, pats_of, pattern_pair}
use Rattle.kl_scope.specs.declared.walk.Walk.{Walk}
use Rattle.kl_scope.specs.declared.names.Sense.{Sense}
use Rattle.kl_scope.specs.Senses.{Scope, called}
use Rattle.kl_scope.specs.Patterns.{within, pattern_labels, rest_variable, variables, variables_all, tests}
use Rattle.kl_scope.specs.Findings.{Finding, may_fail, used, repeated, pattern_findings, patterns_findings, drawn_findings, sure_findings, count, field_labels, branch_labels, behind, findings, findings_all, findings_fields, findings_quals, findings_branches, findings_steps}
use Rattle.kl_scope.specs.Gathering.{gathered}
use Rattle.kl_scope.specs.Resolved.{meant, resolved_pat, resolved_pats, resolved, resolved_all, resolved_fields, resolved_quals, resolved_branches, resolved_steps}
use Rattle.kl_scope.specs.Walks.{Walked, Fronted, onto, same_scope, pattern_front, expr_front, field_front, step_front, PatternWalk, PatternsWalk, PatternsFront, ExprWalk, ItemsWalk, ExprsFront, FieldsFront, QualsFront, BranchesFront, StepsFront, QualFront, QualsWalk, HeadWalk, Bound, AfterOk, BranchFront, BranchesWalk, RestWalk, StepsWalk, SureWalk, DrawnWalk}
use Rattle.kl_scope.proofs.StayLemmas.{variables_stay}
use Rattle.kl_scope.proofs.FindingLemmas.{gathered_append}
use Rattle.kl_scope.proofs.WalkLemmas.{closed, left_is, behind_more, within_more, draw_in_front, test_in_front}
use Rattle.kl_syntax.proofs.Views.{pattern_Rec, view_Call, view_Rec, view_More, view_Coll, view_Comp, view_If, view_Let, view_Case, view_Chain, view_Gen, view_Cond, branch_seen}

-- ---- the lists of the code's trees

pats_onto : (ps : List (Word × Pattern)) → onto pattern_front ps no_pats ≡ pats_of (map pattern_pair ps)
pats_onto [] = refl
pats_onto (p ∷ ps) = ap (pats p.0 (pattern_view p.1)) (pats_onto ps)

pats_labels : (ps : List (Word × Pattern)) → pattern_labels (pats_of (map pattern_pair ps)) ≡ map (λ f. f.0) ps
pats_labels [] = refl
pats_labels (p ∷ ps) = ap (λ z. p.0 ∷ z) (pats_labels ps)

exps_onto : (es : List Expr) → onto expr_front es no_exps ≡ exps_of (map view es)
exps_onto [] = refl
exps_onto (e ∷ es) = ap (exps (view e)) (exps_onto es)

exps_count : (es : List Expr) → count (exps_of (map view es)) ≡ length es
exps_count [] = refl
exps_count (e ∷ es) = ap suc (exps_count es)

flds_onto : (fs : List (Word × Expr)) → onto field_front fs no_flds ≡ flds_of (map field_view fs)
flds_onto [] = refl
flds_onto (f ∷ fs) = ap (flds f.0 (view f.1)) (flds_onto fs)

flds_labels : (fs : List (Word × Expr)) → field_labels (flds_of (map field_view fs)) ≡ map (λ f. f.0) fs
flds_labels [] = refl
flds_labels (f ∷ fs) = ap (λ z. f.0 ∷ z) (flds_labels fs)

quals_onto : (qs : List Qual) → onto qual_view qs no_quals ≡ quals_of (map qual_view qs)
quals_onto [] = refl
quals_onto (q ∷ qs) = ap (qual_view q) (quals_onto qs)

branches_onto : (bs : List Branch) (rest : Branches) → onto branch_view bs rest ≡ branches_of (map branch_view bs) rest
branches_onto [] rest = refl
branches_onto (b ∷ bs) rest = ap (branch_view b) (branches_onto bs rest)

steps_onto : (ss : List (Op × Expr)) → onto step_front ss no_steps ≡ steps_of (map step_view ss)
steps_onto [] = refl
steps_onto (s ∷ ss) = ap (step s.0 (view s.1)) (steps_onto ss)

-- a whole list, walked
module _ {A T : Type 0} (res : T → Scope → T) (found_in : T → Scope → List Finding) (scope_behind : T → Scope → Scope) (front : A → T → T) (none : T)
    (res_none : (s : Scope) → res none s ≡ none) (found_none : (s : Scope) → found_in none s ≡ []) (scope_none : (s : Scope) → scope_behind none s ≡ s) where
  whole : (xs ys : List A) (w v : Walk) → Fronted res found_in scope_behind (onto front xs) (onto front ys) w v → Walked res found_in scope_behind (onto front xs none) (onto front ys none) w v
  whole xs ys w v h =
      closed res found_in scope_behind (onto front xs) (onto front ys) none none w v v h
      (record { tree = sym (res_none v.names); found = sym (ap (gathered v.findings) (found_none v.names)); scope = sym (scope_none v.names) })

pub pats_walked : (ps qs : List (Word × Pattern)) (w v : Walk) → PatternsFront ps qs w v → Walked resolved_pats patterns_findings same_scope (pats_of (map pattern_pair ps)) (pats_of (map pattern_pair qs)) w v
pats_walked ps qs w v h =
    rw (← pats_onto ps, ← pats_onto qs) (whole resolved_pats patterns_findings same_scope pattern_front no_pats (λ s. refl) (λ s. refl) (λ s. refl) ps qs w v h)

pub exps_walked : (es fs : List Expr) (w v : Walk) → ExprsFront es fs w v → Walked resolved_all findings_all same_scope (exps_of (map view es)) (exps_of (map view fs)) w v
exps_walked es fs w v h =
    rw (← exps_onto es, ← exps_onto fs) (whole resolved_all findings_all same_scope expr_front no_exps (λ s. refl) (λ s. refl) (λ s. refl) es fs w v h)

pub flds_walked : (es fs : List (Word × Expr)) (w v : Walk) → FieldsFront es fs w v → Walked resolved_fields findings_fields same_scope (flds_of (map field_view es)) (flds_of (map field_view fs)) w v
flds_walked es fs w v h =
    rw (← flds_onto es, ← flds_onto fs) (whole resolved_fields findings_fields same_scope field_front no_flds (λ s. refl) (λ s. refl) (λ s. refl) es fs w v h)

pub quals_walked : (es fs : List Qual) (w v : Walk) → QualsFront es fs w v → Walked resolved_quals findings_quals behind (quals_of (map qual_view es)) (quals_of (map qual_view fs)) w v
quals_walked es fs w v h =
    rw (← quals_onto es, ← quals_onto fs) (whole resolved_quals findings_quals behind qual_view no_quals (λ s. refl) (λ s. refl) (λ s. refl) es fs w v h)

pub steps_walked : (es fs : List (Op × Expr)) (w v : Walk) → StepsFront es fs w v → Walked resolved_steps findings_steps same_scope (steps_of (map step_view es)) (steps_of (map step_view fs)) w v
steps_walked es fs w v h =
    rw (← steps_onto es, ← steps_onto fs) (whole resolved_steps findings_steps same_scope step_front no_steps (λ s. refl) (λ s. refl) (λ s. refl) es fs w v h)

-- ---- results

pub if_ok : {P Q : Type 0} (r : Result (Unit {0}) NoMemory) → (P → Q) → IfOk r (λ _. P) → IfOk r (λ _. Q)
if_ok (Ok x) f p = f p
if_ok (Err e) f p = tt

-- what holds of a part and of the one behind it
pub behind_ok : {P Q R : Type 0} (r s : Result (Unit {0}) NoMemory) → IfOk r (λ _. P) → IfOk s (λ _. AfterOk r Q) → (P → Q → R) → IfOk s (λ _. R)
behind_ok (Ok x) (Ok y) p q go = go p q
behind_ok (Err e) (Ok y) p q go = absurd q
behind_ok r (Err e) p q go = tt

pub behind_both : (P Q : Type 0) (r s : Result (Unit {0}) NoMemory) → IfOk r (λ _. P) → IfOk s (λ _. AfterOk r Q) → IfOk s (λ _. P × Q)
behind_both P Q (Ok x) (Ok y) p q = (p, q)
behind_both P Q (Err e) (Ok y) p q = absurd q
behind_both P Q r (Err e) p q = tt

pub behind_walked : {P : Type 0} (r : Result (Unit {0}) NoMemory) (x : Unit {0}) → r ≡ Ok x → P → AfterOk r P
behind_walked r x e p = rw e p

-- ---- patterns

pub record_walked : (ps qs : List (Word × Pattern)) (w v u : Walk) → v.names ≡ w.names → v.findings ≡ gathered w.findings (repeated [] (map (λ f. f.0) ps)) → PatternsFront ps qs v u
    → PatternsWalk (patterns_view ps) (patterns_view qs) w u
record_walked ps qs w v u same labels k =
    let walked : Walked resolved_pats patterns_findings same_scope (patterns_view ps) (patterns_view qs) v u = pats_walked ps qs v u k in
    record {
      tree = walked.tree ∙ ap (resolved_pats (patterns_view ps)) same;
      found = walked.found ∙ rw (labels, same, ← pats_labels ps) (sym (gathered_append w.findings (repeated [] (pattern_labels (patterns_view ps))) (patterns_findings (patterns_view ps) w.names)));
      scope = walked.scope ∙ same;
    }

-- ---- expressions

pub call_walked : (f g : Word) (es : List Expr) (b : Exps) (sense : Option Sense) (given : ℕ) (w v u : Walk) → v.names ≡ w.names → sense ≡ called w.names f.text → given ≡ length es → g ≡ meant sense f
    → v.findings ≡ gathered w.findings (used sense f given) → ItemsWalk (exps_view es) b v u → ExprWalk (Call f (exps_view es)) (Call g b) w u
call_walked f g es b sense given w v u same is many mean found k =
    let now : v.findings ≡ gathered w.findings (used (called w.names f.text) f (count (exps_view es))) = found ∙ rw (is, many, exps_count es) refl in
    record {
      tree = rw (mean, is, k.tree, same) refl;
      found = k.found ∙ rw (now, same) (sym (gathered_append w.findings (used (called w.names f.text) f (count (exps_view es))) (findings_all (exps_view es) w.names)));
      scope = k.scope ∙ same;
    }

pub fields_walked : (es fs : List (Word × Expr)) (w v u : Walk) → v.names ≡ w.names → v.findings ≡ gathered w.findings (repeated [] (map (λ f. f.0) es)) → FieldsFront es fs v u → ExprWalk (Rec (fields_view es)) (Rec (fields_view fs)) w u
fields_walked es fs w v u same labels k =
    let walked : Walked resolved_fields findings_fields same_scope (fields_view es) (fields_view fs) v u = flds_walked es fs v u k in
    record {
      tree = ap Rec (walked.tree ∙ ap (resolved_fields (fields_view es)) same);
      found = walked.found ∙ rw (labels, same, ← flds_labels es) (sym (gathered_append w.findings (repeated [] (field_labels (fields_view es))) (findings_fields (fields_view es) w.names)));
      scope = walked.scope ∙ same;
    }

head_walked : (e f : Exp) (depth : ℕ) (v u : Walk) (last : Scope) → ExprWalk e f v u → last ≡ record u.names { variables = drop (length u.names.variables - depth) u.names.variables }
    → HeadWalk e f depth v (record { alloc = u.alloc; names = last; findings = u.findings })
head_walked e f depth v u last h left = record {
  tree = h.tree;
  found = h.found;
  scope = subst (λ (s : Scope). last ≡ record s { variables = drop (length s.variables - depth) s.variables }) h.scope left;
}

pub comp_walked : (k : Kind) (qs rs : Quals) (e f : Exp) (depth : ℕ) (w v u : Walk) → depth ≡ length w.names.variables → QualsWalk qs rs w v → HeadWalk e f depth v u → ExprWalk (Comp k e qs) (Comp k f rs) w u
comp_walked k qs rs e f depth w v u deep q h =
    let next : v.names ≡ behind qs w.names = q.scope in
    record {
      tree = rw (h.tree, q.tree, next) refl;
      found = h.found ∙ rw (q.found, next) (sym (gathered_append w.findings (findings_quals qs w.names) (findings e (behind qs w.names))));
      scope = left_is w.names (behind qs w.names) u.names depth (behind_more qs w.names) deep (subst (λ (s : Scope). u.names ≡ record s { variables = drop (length s.variables - depth) s.variables }) next h.scope);
    }

pub bound_walked : (p q : Pat) (e f : Exp) (depth : ℕ) (w v u : Walk) (last : Scope) → depth ≡ length w.names.variables → SureWalk p q w v → ExprWalk e f v u
    → last ≡ record u.names { variables = drop (length u.names.variables - depth) u.names.variables } → Bound p e q f w (record { alloc = u.alloc; names = last; findings = u.findings })
bound_walked p q e f depth w v u last deep k h left =
    let next : v.names ≡ within p w.names = k.scope in
    record {
      pattern = k.tree;
      body = h.tree ∙ ap (resolved e) next;
      found = h.found ∙ rw (k.found, next) (sym (gathered_append w.findings (sure_findings p w.names) (findings e (within p w.names))));
      scope = left_is w.names (within p w.names) last depth (within_more p w.names) deep (subst (λ (s : Scope). last ≡ record s { variables = drop (length s.variables - depth) s.variables }) (h.scope ∙ next) left);
    }

pub choice_walked : (a b c d e f : Exp) (w v u z : Walk) → ExprWalk a d w v → ExprWalk b e v u → ExprWalk c f u z → ExprWalk (If a b c) (If d e f) w z
choice_walked a b c d e f w v u z h k j =
    let one : v.names ≡ w.names = h.scope in
    let two : u.names ≡ w.names = k.scope ∙ one in
    record {
      tree = rw (h.tree, k.tree, j.tree, two, one) refl;
      found = j.found ∙ rw (k.found, h.found, two, one)
          (sym (gathered_append w.findings (findings a w.names) (findings b w.names ++ findings c w.names) ∙ gathered_append (gathered w.findings (findings a w.names)) (findings b w.names) (findings c w.names)));
      scope = j.scope ∙ two;
    }

pub bind_walked : (p q : Pat) (a b c d : Exp) (w v u : Walk) → ExprWalk a c w v → Bound p b q d v u → ExprWalk (Let p a b) (Let q c d) w u
bind_walked p q a b c d w v u h k =
    let one : v.names ≡ w.names = h.scope in
    record {
      tree = rw (h.tree, k.pattern, k.body, one) refl;
      found = k.found ∙ rw (h.found, one) (sym (gathered_append w.findings (findings a w.names) (sure_findings p w.names ++ findings b (within p w.names))));
      scope = k.scope ∙ one;
    }

label_is : (b : Branch) (rest : Branches) → branch_labels (branch_view b rest) ≡ (out-Branch b).label ∷ branch_labels rest
label_is b rest = search (rules, branch_lemmas)

labels_onto : (bs : List Branch) (c : Option Exp) → branch_labels (onto branch_view bs (rest_of c)) ≡ map (λ b. (out-Branch b).label) bs
labels_onto [] None = refl
labels_onto [] (Some e) = refl
labels_onto (b ∷ bs) c = label_is b (onto branch_view bs (rest_of c)) ∙ ap (λ z. (out-Branch b).label ∷ z) (labels_onto bs c)

pub branches_walked : (bs cs : List Branch) (w v u : Walk) → v.names ≡ w.names → v.findings ≡ gathered w.findings (repeated [] (map (λ b. (out-Branch b).label) bs)) → BranchesFront bs cs v u → BranchesWalk bs cs w u
branches_walked bs cs w v u same labels k = record {
  tree = λ rest. k.tree rest ∙ ap (resolved_branches (onto branch_view bs rest)) same;
  found = λ rest. gathered_append w.findings (repeated [] (map (λ b. (out-Branch b).label) bs)) (findings_branches (onto branch_view bs rest) w.names)
      ∙ ap (λ g. gathered g (findings_branches (onto branch_view bs rest) w.names)) (sym labels) ∙ ap (λ s. gathered v.findings (findings_branches (onto branch_view bs rest) s)) (sym same) ∙ k.found rest;
  scope = sym (k.scope no_branches) ∙ same;
}

pub case_walked : (a b : Exp) (bs cs : List Branch) (c d : Option Expr) (w v u z : Walk) → ExprWalk a b w v → BranchesWalk bs cs v u → RestWalk c d u z
    → ExprWalk (Case a (onto branch_view bs (rest_of (option_map view c)))) (Case b (onto branch_view cs (rest_of (option_map view d)))) w z
case_walked a b bs cs c d w v u z h k r =
    let one : v.names ≡ w.names = h.scope in
    let rest = rest_of (option_map view c) in
    let whole = onto branch_view bs rest in
    record {
      tree = rw (h.tree, r.tree, k.tree rest, one) refl;
      found = r.found ∙ sym (k.found rest) ∙ rw (h.found, one)
          (sym (ap (λ (ls : List Word). gathered w.findings (findings a w.names ++ (repeated [] ls ++ findings_branches whole w.names))) (labels_onto bs (option_map view c))
          ∙ gathered_append w.findings (findings a w.names) (repeated [] (map (λ b. (out-Branch b).label) bs) ++ findings_branches whole w.names)));
      scope = r.scope ∙ k.scope ∙ one;
    }

pub chain_walked : (a b : Exp) (ss ts : Steps) (w v u : Walk) → ExprWalk a b w v → StepsWalk ss ts v u → ExprWalk (Chain a ss) (Chain b ts) w u
chain_walked a b ss ts w v u h k =
    let one : v.names ≡ w.names = h.scope in
    record {
      tree = rw (h.tree, k.tree, one) refl;
      found = k.found ∙ rw (h.found, one) (sym (gathered_append w.findings (findings a w.names) (findings_steps ss w.names)));
      scope = k.scope ∙ one;
    }

pub branch_in_front : (l : Word) (p q : Pat) (e f : Exp) (w v : Walk) → Bound p e q f w v → BranchFront (branch l p e) (branch l q f) w v
branch_in_front l p q e f w v h =
    let one : v.names ≡ w.names = h.scope in
    record {
      tree = λ rest. rw (h.pattern, h.body, one) refl;
      found = λ rest. ap (gathered w.findings) (sym (append_assoc (sure_findings p w.names) (findings e (within p w.names)) (findings_branches rest w.names)))
          ∙ gathered_append w.findings (sure_findings p w.names ++ findings e (within p w.names)) (findings_branches rest w.names) ∙ rw (h.found, one) refl;
      scope = λ rest. sym one;
    }

-- ---- the forms as the code has them

pub rec_ok : (r : Result (Unit {0}) NoMemory) (p q : Pattern) (ps qs zs : List (Word × Pattern)) (end : Tail) (w u : Walk) → p ≡ code.Rec ps end → q ≡ code.Rec qs end → zs ≡ ps → IfOk r (λ _. PatternsWalk (patterns_view zs) (patterns_view qs) w u)
    → IfOk r (λ _. PatternWalk (pattern_view p) (pattern_view q) w u)
rec_ok r p q ps qs zs end w u pe qe ze h =
    if_ok r (λ k.
    let walked : PatternsWalk (patterns_view ps) (patterns_view qs) w u = subst (λ (z : List (Word × Pattern)). PatternsWalk (patterns_view z) (patterns_view qs) w u) ze k in
    rw (pe, qe, pattern_Rec ps end, pattern_Rec qs end) (record { tree = ap (λ (t : Pats). shape t end) walked.tree; found = walked.found; scope = walked.scope })) h

pub variables_rec : (p : Pattern) (ps zs : List (Word × Pattern)) (end : Tail) → p ≡ code.Rec ps end → zs ≡ ps → variables_all (patterns_view zs) ++ rest_variable end ≡ variables (pattern_view p)
variables_rec p ps zs end pe pz = rw pz (sym (ap variables (ap pattern_view pe ∙ pattern_Rec ps end)))

-- what holds of the views holds of the code's trees
seen_as : (r : Result (Unit {0}) NoMemory) (e g : Expr) (a b : Exp) (w u : Walk) → view e ≡ a → view g ≡ b → IfOk r (λ _. ExprWalk a b w u) → IfOk r (λ _. ExprWalk (view e) (view g) w u)
seen_as r e g a b w u p q h = rw (p, q) h

pub call_ok : (r : Result (Unit {0}) NoMemory) (e g : Expr) (f k y : Word) (es fs zs : List Expr) (w u : Walk) → e ≡ expr.Call f es → g ≡ expr.Call k fs → y ≡ f → zs ≡ es → IfOk r (λ _. ExprWalk (Call y (exps_view zs)) (Call k (exps_view fs)) w u)
    → IfOk r (λ _. ExprWalk (view e) (view g) w u)
call_ok r e g f k y es fs zs w u pe pg py pz h =
    seen_as r e g (Call f (exps_view es)) (Call k (exps_view fs)) w u (ap view pe ∙ view_Call f es) (ap view pg ∙ view_Call k fs)
    (subst (λ (x : Word). IfOk r (λ _. ExprWalk (Call x (exps_view es)) (Call k (exps_view fs)) w u)) py
    (subst (λ (x : List Expr). IfOk r (λ _. ExprWalk (Call y (exps_view x)) (Call k (exps_view fs)) w u)) pz h))

pub fields_ok : (r : Result (Unit {0}) NoMemory) (e g : Expr) (es fs zs : List (Word × Expr)) (w u : Walk) → e ≡ expr.Rec es → g ≡ expr.Rec fs → zs ≡ es → IfOk r (λ _. ExprWalk (Rec (fields_view zs)) (Rec (fields_view fs)) w u)
    → IfOk r (λ _. ExprWalk (view e) (view g) w u)
fields_ok r e g es fs zs w u pe pg pz h =
    seen_as r e g (Rec (fields_view es)) (Rec (fields_view fs)) w u (ap view pe ∙ view_Rec es) (ap view pg ∙ view_Rec fs)
    (subst (λ (x : List (Word × Expr)). IfOk r (λ _. ExprWalk (Rec (fields_view x)) (Rec (fields_view fs)) w u)) pz h)

-- a record and what stands behind its dots
more_walked : (fs gs : Flds) (a b : Exp) (w v u : Walk) → ExprWalk (Rec fs) (Rec gs) w v → ExprWalk a b v u → ExprWalk (More fs a) (More gs b) w u
more_walked fs gs a b w v u h k = record {
  tree = ap (λ (f : Exp). more_of f b) h.tree ∙ ap (More (resolved_fields fs w.names)) (k.tree ∙ ap (resolved a) h.scope);
  found = k.found ∙ rw (h.found, h.scope) (sym (gathered_append w.findings (repeated [] (field_labels fs) ++ findings_fields fs w.names) (findings a w.names)) ∙ ap (gathered w.findings) (append_assoc (repeated [] (field_labels fs)) (findings_fields fs w.names) (findings a w.names)));
  scope = k.scope ∙ h.scope;
}
  where
    more_of : Exp → Exp → Exp
    more_of (Rec hs) c = More hs c
    more_of e c = e

pub coll_ok : (r : Result (Unit {0}) NoMemory) (e g : Expr) (k : Kind) (es fs zs : List Expr) (w u : Walk) → e ≡ expr.Coll k es → g ≡ expr.Coll k fs → zs ≡ es → IfOk r (λ _. ItemsWalk (exps_view zs) (exps_view fs) w u)
    → IfOk r (λ _. ExprWalk (view e) (view g) w u)
coll_ok r e g k es fs zs w u pe pg pz h =
    seen_as r e g (Coll k (exps_view es)) (Coll k (exps_view fs)) w u (ap view pe ∙ view_Coll k es) (ap view pg ∙ view_Coll k fs)
    (if_ok r (λ j.
    let walked : ItemsWalk (exps_view es) (exps_view fs) w u = subst (λ (x : List Expr). ItemsWalk (exps_view x) (exps_view fs) w u) pz j in
    record { tree = ap (Coll k) walked.tree; found = walked.found; scope = walked.scope }) h)

-- a part behind another one
pub next_ok : (r before : Result (Unit {0}) NoMemory) (x : Unit {0}) (a y : Expr) (b : Exp) (w u : Walk) → before ≡ Ok x → y ≡ a → IfOk r (λ _. ExprWalk (view y) b w u) → IfOk r (λ _. AfterOk before (ExprWalk (view a) b w u))
next_ok r before x a y b w u first py h = if_ok r (λ k. behind_walked before x first (subst (λ (t : Expr). ExprWalk (view t) b w u) py k)) h

pub head_is : (before : Result (Unit {0}) NoMemory) (x : Unit {0}) (a y f : Expr) (depth : ℕ) (v u : Walk) (last : Scope) → before ≡ Ok x → y ≡ a → ExprWalk (view y) (view f) v u
    → last ≡ record u.names { variables = drop (length u.names.variables - depth) u.names.variables } → AfterOk before (HeadWalk (view a) (view f) depth v (record { alloc = u.alloc; names = last; findings = u.findings }))
head_is before x a y f depth v u last first py h left =
    behind_walked before x first (head_walked (view a) (view f) depth v u last (subst (λ (t : Expr). ExprWalk (view t) (view f) v u) py h) left)

pub body_is : (before : Result (Unit {0}) NoMemory) (x : Unit {0}) (p q : Pattern) (a y f : Expr) (depth : ℕ) (w v u : Walk) (last : Scope) → before ≡ Ok x → y ≡ a → depth ≡ length w.names.variables
    → SureWalk (pattern_view p) (pattern_view q) w v → ExprWalk (view y) (view f) v u → last ≡ record u.names { variables = drop (length u.names.variables - depth) u.names.variables }
    → AfterOk before (Bound (pattern_view p) (view a) (pattern_view q) (view f) w (record { alloc = u.alloc; names = last; findings = u.findings }))
body_is before x p q a y f depth w v u last first py deep s h left =
    behind_walked before x first
    (bound_walked (pattern_view p) (pattern_view q) (view a) (view f) depth w v u last deep s (subst (λ (t : Expr). ExprWalk (view t) (view f) v u) py h) left)

-- the same where the part was reached
seen : (e g : Expr) (a b : Exp) (w u : Walk) → view e ≡ a → view g ≡ b → ExprWalk a b w u → ExprWalk (view e) (view g) w u
seen e g a b w u p q h = rw (p, q) h

pub comp_is : (e g : Expr) (k : Kind) (a b y : Expr) (qs rs zs : List Qual) (depth : ℕ) (w v u : Walk) → e ≡ expr.Comp k a qs → g ≡ expr.Comp k b rs → y ≡ a → zs ≡ qs → depth ≡ length w.names.variables
    → QualsWalk (quals_view zs) (quals_view rs) w v → HeadWalk (view y) (view b) depth v u → ExprWalk (view e) (view g) w u
comp_is e g k a b y qs rs zs depth w v u pe pg py pz deep q h =
    seen e g (Comp k (view a) (quals_view qs)) (Comp k (view b) (quals_view rs)) w u (ap view pe ∙ view_Comp k a qs) (ap view pg ∙ view_Comp k b rs)
    (comp_walked k (quals_view qs) (quals_view rs) (view a) (view b) depth w v u deep (subst (λ (x : List Qual). QualsWalk (quals_view x) (quals_view rs) w v) pz q)
    (subst (λ (x : Expr). HeadWalk (view x) (view b) depth v u) py h))

pub if_is : (e g : Expr) (a b c x y z d f j : Expr) (w v u o : Walk) → e ≡ expr.If a b c → g ≡ expr.If d f j → x ≡ a → y ≡ b → z ≡ c
    → ExprWalk (view x) (view d) w v → ExprWalk (view y) (view f) v u → ExprWalk (view z) (view j) u o → ExprWalk (view e) (view g) w o
if_is e g a b c x y z d f j w v u o pe pg px py pz h k l =
    seen e g (If (view a) (view b) (view c)) (If (view d) (view f) (view j)) w o (ap view pe ∙ view_If a b c) (ap view pg ∙ view_If d f j)
    (choice_walked (view a) (view b) (view c) (view d) (view f) (view j) w v u o (subst (λ (t : Expr). ExprWalk (view t) (view d) w v) px h) (subst (λ (t : Expr). ExprWalk (view t) (view f) v u) py k)
    (subst (λ (t : Expr). ExprWalk (view t) (view j) u o) pz l))

pub let_is : (e g : Expr) (p q m : Pattern) (a b c d x y : Expr) (w v u : Walk) → e ≡ expr.Let p a b → g ≡ expr.Let q c d → m ≡ p → x ≡ a → y ≡ b
    → ExprWalk (view x) (view c) w v → Bound (pattern_view m) (view y) (pattern_view q) (view d) v u → ExprWalk (view e) (view g) w u
let_is e g p q m a b c d x y w v u pe pg pm px py h k =
    seen e g (Let (pattern_view p) (view a) (view b)) (Let (pattern_view q) (view c) (view d)) w u (ap view pe ∙ view_Let p a b) (ap view pg ∙ view_Let q c d)
    (bind_walked (pattern_view p) (pattern_view q) (view a) (view b) (view c) (view d) w v u (subst (λ (t : Expr). ExprWalk (view t) (view c) w v) px h)
    (subst (λ (t : Pattern). Bound (pattern_view t) (view b) (pattern_view q) (view d) v u) pm (subst (λ (t : Expr). Bound (pattern_view m) (view t) (pattern_view q) (view d) v u) py k)))

pub case_is : (e g : Expr) (a b x : Expr) (bs cs zs : List Branch) (c d y : Option Expr) (w v u o : Walk) → e ≡ expr.Case a bs c → g ≡ expr.Case b cs d → x ≡ a → zs ≡ bs → y ≡ c
    → ExprWalk (view x) (view b) w v → BranchesWalk zs cs v u → RestWalk y d u o → ExprWalk (view e) (view g) w o
case_is e g a b x bs cs zs c d y w v u o pe pg px pz py h k r =
    seen e g (Case (view a) (onto branch_view bs (rest_of (option_map view c)))) (Case (view b) (onto branch_view cs (rest_of (option_map view d)))) w o
    (ap view pe ∙ view_Case a bs c ∙ ap (Case (view a)) (sym (branches_onto bs (rest_of (option_map view c))))) (ap view pg ∙ view_Case b cs d ∙ ap (Case (view b)) (sym (branches_onto cs (rest_of (option_map view d)))))
    (case_walked (view a) (view b) bs cs c d w v u o (subst (λ (t : Expr). ExprWalk (view t) (view b) w v) px h) (subst (λ (t : List Branch). BranchesWalk t cs v u) pz k) (subst (λ (t : Option Expr). RestWalk t d u o) py r))

pub chain_is : (e g : Expr) (a b x : Expr) (ss ts zs : List (Op × Expr)) (w v u : Walk) → e ≡ expr.Chain a ss → g ≡ expr.Chain b ts → x ≡ a → zs ≡ ss
    → ExprWalk (view x) (view b) w v → StepsWalk (steps_view zs) (steps_view ts) v u → ExprWalk (view e) (view g) w u
chain_is e g a b x ss ts zs w v u pe pg px pz h k =
    seen e g (Chain (view a) (steps_view ss)) (Chain (view b) (steps_view ts)) w u (ap view pe ∙ view_Chain a ss) (ap view pg ∙ view_Chain b ts)
    (chain_walked (view a) (view b) (steps_view ss) (steps_view ts) w v u (subst (λ (t : Expr). ExprWalk (view t) (view b) w v) px h) (subst (λ (t : List (Op × Expr)). StepsWalk (steps_view t) (steps_view ts) v u) pz k))

pub more_is : (e g : Expr) (a b x : Expr) (es fs zs : List (Word × Expr)) (w v u : Walk) → e ≡ expr.More es a → g ≡ expr.More fs b → zs ≡ es → x ≡ a
    → ExprWalk (Rec (fields_view zs)) (Rec (fields_view fs)) w v → ExprWalk (view x) (view b) v u → ExprWalk (view e) (view g) w u
more_is e g a b x es fs zs w v u pe pg pz px h k =
    seen e g (More (fields_view es) (view a)) (More (fields_view fs) (view b)) w u (ap view pe ∙ view_More es a) (ap view pg ∙ view_More fs b)
    (more_walked (fields_view es) (fields_view fs) (view a) (view b) w v u (subst (λ (t : List (Word × Expr)). ExprWalk (Rec (fields_view t)) (Rec (fields_view fs)) w v) pz h) (subst (λ (t : Expr). ExprWalk (view t) (view b) v u) px k))

pub gen_is : (e g : Qual) (p q m : Pattern) (a b x : Expr) (w v u : Walk) → e ≡ quals.Gen p a → g ≡ quals.Gen q b → m ≡ p → x ≡ a
    → ExprWalk (view x) (view b) w v → DrawnWalk (pattern_view m) (pattern_view q) v u → QualFront (qual_view e) (qual_view g) w u
gen_is e g p q m a b x w v u pe pg pm px h k =
    rw (ap qual_view pe ∙ view_Gen p a, ap qual_view pg ∙ view_Gen q b)
    (draw_in_front (pattern_view p) (pattern_view q) (view a) (view b) w v u (subst (λ (t : Expr). ExprWalk (view t) (view b) w v) px h) (subst (λ (t : Pattern). DrawnWalk (pattern_view t) (pattern_view q) v u) pm k))

pub cond_is : (e g : Qual) (a b x : Expr) (w u : Walk) → e ≡ quals.Cond a → g ≡ quals.Cond b → x ≡ a → ExprWalk (view x) (view b) w u → QualFront (qual_view e) (qual_view g) w u
cond_is e g a b x w u pe pg px k =
    rw (ap qual_view pe ∙ view_Cond a, ap qual_view pg ∙ view_Cond b) (test_in_front (view a) (view b) w u (subst (λ (t : Expr). ExprWalk (view t) (view b) w u) px k))

rolled_seen : (l : Word) (p : Pattern) (e : Expr) (rest : Branches) → branch_view (roll-Branch (record { label = l; pat = p; body = e })) rest ≡ branch l (pattern_view p) (view e) rest
rolled_seen l p e rest = search (rules, branch_lemmas)

pub branch_is : (b : Branch) (q : Pattern) (f : Expr) (depth : ℕ) (w v u : Walk) (last : Scope) → depth ≡ length w.names.variables → SureWalk (pattern_view (out-Branch b).pat) (pattern_view q) w v → ExprWalk (view (out-Branch b).body) (view f) v u
    → last ≡ record u.names { variables = drop (length u.names.variables - depth) u.names.variables }
    → BranchFront (branch_view b) (branch_view (roll-Branch (record { label = (out-Branch b).label; pat = q; body = f }))) w (record { alloc = u.alloc; names = last; findings = u.findings })
branch_is b q f depth w v u last deep s h left =
    let z : Walk = record { alloc = u.alloc; names = last; findings = u.findings } in
    let l = (out-Branch b).label in
    let front = branch_in_front l (pattern_view (out-Branch b).pat) (pattern_view q) (view (out-Branch b).body) (view f) w z (bound_walked (pattern_view (out-Branch b).pat) (pattern_view q) (view (out-Branch b).body) (view f) depth w v u last deep s h left) in
    record {
      tree = λ rest. rolled_seen l q f (resolved_branches rest last) ∙ front.tree rest ∙ ap (λ t. resolved_branches t w.names) (sym (branch_seen b rest));
      found = λ rest. ap (λ t. gathered w.findings (findings_branches t w.names)) (branch_seen b rest) ∙ front.found rest;
      scope = front.scope;
    }

-- ---- patterns with their variables

pub drawn_walked : (p q : Pat) (w v u : Walk) → PatternWalk p q w v → u.names ≡ within q v.names → u.findings ≡ gathered v.findings (repeated [] (variables q)) → DrawnWalk p q w u
drawn_walked p q w v u h names found =
    let same : variables q ≡ variables p = ap variables h.tree ∙ variables_stay p w.names in
    let one : v.names ≡ w.names = h.scope in
    record {
      tree = h.tree;
      found = found ∙ rw (h.found, same) (sym (gathered_append w.findings (pattern_findings p w.names) (repeated [] (variables p))));
      scope = names ∙ rw (one, same) refl;
    }

pub sure_walked : (p q : Pat) (w v u : Walk) → v.names ≡ w.names → v.findings ≡ gathered w.findings (map may_fail (tests p)) → DrawnWalk p q v u → SureWalk p q w u
sure_walked p q w v u one found h = record {
  tree = h.tree ∙ ap (resolved_pat p) one;
  found = h.found ∙ rw (found, one) (sym (gathered_append w.findings (map may_fail (tests p)) (drawn_findings p w.names)));
  scope = h.scope ∙ ap (within p) one;
}
