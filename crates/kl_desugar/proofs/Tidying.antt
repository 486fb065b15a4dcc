-- A program in scope is tidy.
use Rattle.std.proofs.Common.{◌≡◌, ◌∙◌, ap, Bool, true, false, ◌||◌, List, [], ◌∷◌, ◌++◌, map, refl, sym, subst, arith, bytes_eq}
use Rattle.std.specs.Cmp.Lexicographic.{same_text}
use Rattle.std.specs.List.{Contains}
use Rattle.std.proofs.lemmas.List.{map-append}
use Rattle.std.proofs.lemmas.List.Elements.{Contains-append_left, Contains-append_right}
use Rattle.std.proofs.lemmas.Slice.Eq.{bytes_eq-Decides}
use Rattle.kl_outcome.specs.Outcome.{Name}
use Rattle.kl_syntax.specs.declared.tree.Program.{Program}
use Rattle.kl_syntax.specs.declared.tree.Word.{Word}
use Rattle.kl_syntax.specs.Syntax.{Pat, catch, any, same, is, shape, variant, Pats, no_pats, pats, Exp, Const, name, Call, Rec, More, Inj, Coll, Comp, If, Let, Case, Path, Not, Neg, Chain, Exps, no_exps, exps, Flds, no_flds, flds, Quals, no_quals, draw, test, Branches, no_branches, otherwise, branch, Steps, no_steps, step, Decls, no_decls, constant, function}
use Rattle.kl_syntax.specs.View.{view, decls_of}
use Rattle.kl_scope.specs.declared.refusal.ScopeError.{ScopeError}
use Rattle.kl_scope.specs.declared.refusal.ScopeError.TheVariants.{Twice}
use Rattle.kl_scope.specs.declared.scoped.Scoped.{Scoped}
use Rattle.kl_scope.specs.Breaches.{Resolves}
use Rattle.kl_scope.specs.Findings.{Finding, breach, may_fail, only_if, is_among, repeated, pattern_findings, patterns_findings, field_labels, branch_labels, count, used, drawn_findings, sure_findings, behind, findings, findings_all, findings_fields, findings_quals, findings_branches, findings_steps, taken, decls_findings, behind_decls}
use Rattle.kl_scope.specs.Patterns.{variables, pattern_labels, tests, tests_all, within}
use Rattle.kl_scope.specs.Resolved.{resolved_pat, resolved_pats, resolved, resolved_all, resolved_fields, resolved_quals, resolved_branches, resolved_steps, resolved_decls}
use Rattle.kl_scope.specs.Senses.{Scope, at_first, called, defined}
use Rattle.kl_meaning.specs.Match.{same_name, has_label}
use Rattle.kl_meaning.specs.Tidy.{IsSurePattern, AreSurePatterns, IsTidyPattern, AreTidyPatterns, IsTidy, AreTidy, AreTidyFields, AreTidyQuals, AreTidyBranches, AreTidySteps, IsTidyProgram}
use Rattle.kl_meaning.specs.Typing.{has_field}
use Rattle.std.proofs.Math.Bool.{or-true}

-- no breach is among the findings
abbrev pub Clean : List Finding → Type 0
Clean fs = (e : ScopeError) → Contains fs (breach e) → ⊥

pub first_clean : (fs gs : List Finding) → Clean (fs ++ gs) → Clean fs
first_clean fs gs h e c = h e (Contains-append_left fs gs (breach e) c)

pub last_clean : (fs gs : List Finding) → Clean (fs ++ gs) → Clean gs
last_clean fs gs h e c = h e (Contains-append_right fs gs (breach e) c)

pub never_breach : (e : ScopeError) (fs : List Finding) → Clean (breach e ∷ fs) → ⊥
never_breach e fs h = h e (0, omega arith, refl)

-- ---- patterns

mutual
  sure : (p : Pat) (s : Scope) → Clean (map may_fail (tests p)) → IsSurePattern (resolved_pat p s)
  sure (catch w) s h = tt
  sure any s h = tt
  sure (same w) s h = absurd (never_breach _ [] h)
  sure (is v n) s h = absurd (never_breach _ [] h)
  sure (shape ps end) s h = all_sure ps s h
  sure (variant l p) s h = absurd (never_breach _ (map may_fail (tests p)) h)

  all_sure : (ps : Pats) (s : Scope) → Clean (map may_fail (tests_all ps)) → AreSurePatterns (resolved_pats ps s)
  all_sure no_pats s h = tt
  all_sure (pats l p ps) s h =
      let both : Clean (map may_fail (tests p) ++ map may_fail (tests_all ps)) = subst Clean (map-append may_fail (tests p) (tests_all ps)) h in
      (sure p s (first_clean _ _ both), all_sure ps s (last_clean _ _ both))

must_match : (p : Pat) (s : Scope) → Clean (sure_findings p s) → IsSurePattern (resolved_pat p s)
must_match p s h = sure p s (first_clean (map may_fail (tests p)) (drawn_findings p s) h)

-- ---- labels

among_itself : (x : Name) (before : List Name) → is_among x (x ∷ before) ≡ true
among_itself x before = let e : bytes_eq x x ≡ true = (bytes_eq-Decides x x).1 refl in rw e refl

abbrev named_in : List Word → Name → Bool
named_in [] x = false
named_in (w ∷ ws) x = same_name x w.text || named_in ws x

-- what stands before stands not again
not_again : (ws : List Word) (x : Name) (before : List Name) → is_among x before ≡ true → Clean (repeated before ws) → named_in ws x ≡ false
not_again [] x before h clean = refl
not_again (w ∷ ws) x before h clean =
    here (same_name x w.text) refl
    (not_again ws x (w.text ∷ before) (ap (λ b. bytes_eq w.text x || b) h ∙ or-true (bytes_eq w.text x)) (last_clean (only_if (is_among w.text before) (breach (Twice w.text w.token))) (repeated (w.text ∷ before) ws) clean))
  where
    here : (b : Bool) → b ≡ same_name x w.text → named_in ws x ≡ false → (b || named_in ws x) ≡ false
    here true told later =
        let twice : is_among w.text before ≡ true = subst (λ y. is_among y before ≡ true) (same_text x w.text told) h in
        absurd (never_breach _ _ (subst (λ b. Clean (only_if b (breach (Twice w.text w.token)) ++ repeated (w.text ∷ before) ws)) twice clean))
    here false told later = later

-- a word stands not again behind it, and the others stand not again either
first_alone : (w : Word) (ws : List Word) (before : List Name) → Clean (repeated before (w ∷ ws)) → (named_in ws w.text ≡ false) × Clean (repeated (w.text ∷ before) ws)
first_alone w ws before clean =
    let others = last_clean (only_if (is_among w.text before) (breach (Twice w.text w.token))) (repeated (w.text ∷ before) ws) clean in
    (not_again ws w.text (w.text ∷ before) (among_itself w.text before) others, others)

field_named : (fs : Flds) (s : Scope) (x : Name) → has_field (resolved_fields fs s) x ≡ named_in (field_labels fs) x
field_named no_flds s x = refl
field_named (flds l e fs) s x = ap (λ b. same_name x l.text || b) (field_named fs s x)

label_named : (ps : Pats) (s : Scope) (x : Name) → has_label (resolved_pats ps s) x ≡ named_in (pattern_labels ps) x
label_named no_pats s x = refl
label_named (pats l p ps) s x = ap (λ b. same_name x l.text || b) (label_named ps s x)

mutual
  tidy_pattern : (p : Pat) (s : Scope) → Clean (pattern_findings p s) → IsTidyPattern (resolved_pat p s)
  tidy_pattern (catch w) s h = tt
  tidy_pattern any s h = tt
  tidy_pattern (same w) s h = tt
  tidy_pattern (is v n) s h = tt
  tidy_pattern (shape ps end) s h = tidy_patterns ps [] s (first_clean _ (patterns_findings ps s) h) (last_clean (repeated [] (pattern_labels ps)) _ h)
  tidy_pattern (variant l p) s h = tidy_pattern p s h

  tidy_patterns : (ps : Pats) (before : List Name) (s : Scope) → Clean (repeated before (pattern_labels ps)) → Clean (patterns_findings ps s) → AreTidyPatterns (resolved_pats ps s)
  tidy_patterns no_pats before s labels h = tt
  tidy_patterns (pats l p ps) before s labels h =
      let alone = first_alone l (pattern_labels ps) before labels in
      (label_named ps s l.text ∙ alone.0, tidy_pattern p s (first_clean _ (patterns_findings ps s) h), tidy_patterns ps (l.text ∷ before) s alone.1 (last_clean (pattern_findings p s) _ h))

tidy_drawn : (p : Pat) (s : Scope) → Clean (drawn_findings p s) → IsTidyPattern (resolved_pat p s)
tidy_drawn p s h = tidy_pattern p s (first_clean _ (repeated [] (variables p)) h)

tidy_sure : (p : Pat) (s : Scope) → Clean (sure_findings p s) → IsTidyPattern (resolved_pat p s)
tidy_sure p s h = tidy_drawn p s (last_clean (map may_fail (tests p)) (drawn_findings p s) h)

-- ---- expressions

mutual
  tidy : (e : Exp) (s : Scope) → Clean (findings e s) → IsTidy (resolved e s)
  tidy (Const v) s h = tt
  tidy (name w) s h = tt
  tidy (Call f es) s h = tidy_all es s (last_clean (used (called s f.text) f (count es)) _ h)
  tidy (Rec fs) s h = tidy_fields fs [] s (first_clean _ (findings_fields fs s) h) (last_clean (repeated [] (field_labels fs)) _ h)
  tidy (More fs e) s h =
      let k = last_clean (repeated [] (field_labels fs)) (findings_fields fs s ++ findings e s) h in
      (tidy_fields fs [] s (first_clean _ (findings_fields fs s ++ findings e s) h) (first_clean _ (findings e s) k), tidy e s (last_clean (findings_fields fs s) _ k))
  tidy (Inj l e) s h = tidy e s h
  tidy (Coll k es) s h = tidy_all es s h
  tidy (Comp k e qs) s h = (tidy_quals qs s (first_clean _ (findings e (behind qs s)) h), tidy e (behind qs s) (last_clean (findings_quals qs s) _ h))
  tidy (If a b c) s h =
      let k = last_clean (findings a s) (findings b s ++ findings c s) h in
      (tidy a s (first_clean _ (findings b s ++ findings c s) h), tidy b s (first_clean _ (findings c s) k), tidy c s (last_clean (findings b s) _ k))
  tidy (Let p a b) s h =
      let k = last_clean (findings a s) (sure_findings p s ++ findings b (within p s)) h in
      let fit = first_clean _ (findings b (within p s)) k in
      (must_match p s fit, tidy a s (first_clean _ (sure_findings p s ++ findings b (within p s)) h), tidy b (within p s) (last_clean (sure_findings p s) _ k), tidy_sure p s fit)
  tidy (Case e bs) s h =
      let k = last_clean (findings e s) (repeated [] (branch_labels bs) ++ findings_branches bs s) h in
      (tidy e s (first_clean _ (repeated [] (branch_labels bs) ++ findings_branches bs s) h), tidy_branches bs s (last_clean (repeated [] (branch_labels bs)) _ k))
  tidy (Path e ls) s h = tidy e s h
  tidy (Not e) s h = tidy e s h
  tidy (Neg e) s h = tidy e s h
  tidy (Chain e ss) s h = (tidy e s (first_clean _ (findings_steps ss s) h), tidy_steps ss s (last_clean (findings e s) _ h))

  tidy_all : (es : Exps) (s : Scope) → Clean (findings_all es s) → AreTidy (resolved_all es s)
  tidy_all no_exps s h = tt
  tidy_all (exps e es) s h = (tidy e s (first_clean _ (findings_all es s) h), tidy_all es s (last_clean (findings e s) _ h))

  tidy_fields : (fs : Flds) (before : List Name) (s : Scope) → Clean (repeated before (field_labels fs)) → Clean (findings_fields fs s) → AreTidyFields (resolved_fields fs s)
  tidy_fields no_flds before s labels h = tt
  tidy_fields (flds l e fs) before s labels h =
      let alone = first_alone l (field_labels fs) before labels in (
        field_named fs s l.text ∙ alone.0,
        tidy e s (first_clean _ (findings_fields fs s) h),
        tidy_fields fs (l.text ∷ before) s alone.1 (last_clean (findings e s) _ h),
      )

  tidy_quals : (qs : Quals) (s : Scope) → Clean (findings_quals qs s) → AreTidyQuals (resolved_quals qs s)
  tidy_quals no_quals s h = tt
  tidy_quals (draw p e qs) s h =
      let k = last_clean (findings e s) (drawn_findings p s ++ findings_quals qs (within p s)) h in
      (tidy e s (first_clean _ (drawn_findings p s ++ findings_quals qs (within p s)) h), tidy_quals qs (within p s) (last_clean (drawn_findings p s) _ k), tidy_drawn p s (first_clean _ (findings_quals qs (within p s)) k))
  tidy_quals (test e qs) s h = (tidy e s (first_clean _ (findings_quals qs s) h), tidy_quals qs s (last_clean (findings e s) _ h))

  tidy_branches : (bs : Branches) (s : Scope) → Clean (findings_branches bs s) → AreTidyBranches (resolved_branches bs s)
  tidy_branches no_branches s h = tt
  tidy_branches (otherwise e) s h = tidy e s h
  tidy_branches (branch l p e bs) s h =
      let k = last_clean (sure_findings p s) (findings e (within p s) ++ findings_branches bs s) h in
      let fit = first_clean _ (findings e (within p s) ++ findings_branches bs s) h in
      (must_match p s fit, tidy e (within p s) (first_clean _ (findings_branches bs s) k), tidy_branches bs s (last_clean (findings e (within p s)) _ k), tidy_sure p s fit)

  tidy_steps : (ss : Steps) (s : Scope) → Clean (findings_steps ss s) → AreTidySteps (resolved_steps ss s)
  tidy_steps no_steps s h = tt
  tidy_steps (step c e ss) s h = (tidy e s (first_clean _ (findings_steps ss s) h), tidy_steps ss s (last_clean (findings e s) _ h))

-- ---- programs

tidy_program : (ds : Decls) (e : Exp) (s : Scope) → Clean (decls_findings ds s) → Clean (findings e (behind_decls ds s)) → IsTidyProgram (resolved_decls ds s) (resolved e (behind_decls ds s))
tidy_program no_decls e s h k = tidy e s k
tidy_program (constant w a ds) e s h k =
    let next = defined s w.text false in
    let g = last_clean (taken s w) (findings a s ++ decls_findings ds next) h in
    (tidy a s (first_clean _ (decls_findings ds next) g), tidy_program ds e next (last_clean (findings a s) _ g) k)
tidy_program (function w p a ds) e s h k =
    let next = defined s w.text true in
    let g = last_clean (taken s w) (sure_findings p s ++ (findings a (within p s) ++ decls_findings ds next)) h in
    let j = last_clean (sure_findings p s) (findings a (within p s) ++ decls_findings ds next) g in
    let fit = first_clean _ (findings a (within p s) ++ decls_findings ds next) g in
    (must_match p s fit, tidy a (within p s) (first_clean _ (decls_findings ds next) j), tidy_program ds e next (last_clean (findings a (within p s)) _ j) k, tidy_sure p s fit)

pub resolved_tidy : (p : Program) (sources : List Name) (s : Scoped) → Resolves p sources s → IsTidyProgram (decls_of s.program.defs) (view s.program.last)
resolved_tidy p sources s r =
    let first = at_first sources in
    let ds = decls_of p.defs in
    let all : Clean (decls_findings ds first ++ findings (view p.last) (behind_decls ds first)) = r.in_scope in
    subst (λ d. IsTidyProgram d (view s.program.last)) (sym r.defs)
    (subst (λ e. IsTidyProgram (resolved_decls ds first) e) (sym r.last)
    (tidy_program ds (view p.last) first (first_clean _ (findings (view p.last) (behind_decls ds first)) all) (last_clean (decls_findings ds first) _ all)))
