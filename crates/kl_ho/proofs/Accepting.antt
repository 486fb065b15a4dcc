-- The rules of scope find no breach in an expansion of what keeps to them.
use Rattle.std.proofs.Common.{◌≡◌, ℕ, suc, ◌==◌, Bool, true, false, ◌||◌, if◌then◌else◌, cond, List, [], ◌∷◌, ◌++◌, Option, Some}
use Rattle.std.proofs.Common.{None, IsSome, is_some, refl, sym, ap, ◌∙◌, subst, true≢false, append_assoc, append-nil, bytes_eq}
use Rattle.std.proofs.Common.{arith}
use Rattle.std.specs.Cmp.Lexicographic.{same_text}
use Rattle.std.specs.List.{AllByRecursion}
use Rattle.std.specs.Option.{option_map, option_or}
use Rattle.std.proofs.lemmas.Bool.{or_left, or_right}
use Rattle.std.proofs.lemmas.Option.{same_Some}
use Rattle.kl_base.proofs.Each.{all_append}
use Rattle.kl_base.specs.Fields.{field}
use Rattle.kl_type.proofs.RowLemmas.{same_label}
use Rattle.kl_outcome.specs.Outcome.{Name}
use Rattle.kl_syntax.specs.declared.tree.Meaning.{Meaning}
use Rattle.kl_syntax.specs.declared.tree.Meaning.TheVariants.{Source, Variable}
use Rattle.kl_syntax.specs.declared.tree.Tail.{Tail}
use Rattle.kl_syntax.specs.declared.tree.Tail.TheVariants as tail
use Rattle.kl_syntax.specs.declared.tree.Word.{Word}
use Rattle.kl_syntax.specs.Syntax.{Pat, shape, Pats, Exp, Rec, Exps, no_exps, exps, Flds, Quals, Branches, Steps}
use Rattle.kl_scope.specs.Senses as scope
use Rattle.kl_scope.specs.Senses.{place_in, named, called}
use Rattle.kl_scope.specs.declared.names.Sense.{Sense}
use Rattle.kl_scope.specs.Patterns.{rest_variable, variables, variables_all, tests, tests_all, pattern_labels, within}
use Rattle.kl_scope.specs.Findings.{Finding, breach, mention, only_if, mention_in, not_as_taken, used, repeated, pattern_findings}
use Rattle.kl_scope.specs.Findings.{patterns_findings, drawn_findings, may_fail, sure_findings, count, field_labels}
use Rattle.kl_scope.specs.Findings.{branch_labels, behind, findings, findings_all, findings_fields, findings_quals}
use Rattle.kl_scope.specs.Findings.{findings_branches, findings_steps}
use Rattle.kl_scope.specs.Findings as scope_findings
use Rattle.kl_scope.specs.declared.refusal.ScopeError.{ScopeError}
use Rattle.kl_scope.specs.declared.refusal.ScopeError.TheVariants.{Twice}
use Rattle.kl_meaning.specs.Match.{same_name}
use Rattle.kl_ho.specs.Highers.{Higher, Highers, Funs, head, or_itself, bare_at, given_by}
use Rattle.kl_ho.specs.HoPrograms.{is_among}
use Rattle.kl_ho.specs.Shapes.{Shape, plain, with, shape_at, World, rest_after, names_after, names_after_all, behind_shaped}
use Rattle.kl_ho.specs.Shapes.{or_function, ByShape, IsOfShape, HoldsAll, Unless, AreParams}
use Rattle.kl_ho.proofs.Ending.{AreSeen, seen_among, seen_bound, either_some}
use Rattle.kl_ho.specs.Keeps.{IsFine, Clean, Takes, Else, ByParam, KeepsName, KeepsHead, KeepsNames, KeepsNamesAll, KeepsDrawn}
use Rattle.kl_ho.specs.Keeps.{KeepsSure, Keeps, KeepsArgument, KeepsAll, KeepsFields, KeepsQuals, KeepsBranches, KeepsSteps}
use Rattle.kl_ho.specs.Expansion.{Scope, New, HidesNone, BecomesBy, Becomes, PatBecomes, p_catch, p_any, p_same, p_is, p_shape}
use Rattle.kl_ho.specs.Expansion.{p_variant, TailBecomes, t_exact, t_open, t_rest, PatsBecome, p_none, p_more, Expands, e_const}
use Rattle.kl_ho.specs.Expansion.{e_name, e_call, e_unfold, e_rec, e_extend, e_inj, e_coll, e_comp, e_if, e_let, e_case, e_path}
use Rattle.kl_ho.specs.Expansion.{e_not, e_neg, e_chain, ExpandAll, a_none, a_more, FieldsExpand, f_none, f_skip, f_more}
use Rattle.kl_ho.specs.Expansion.{QualsExpand, q_none, q_draw, q_test, BranchesExpand, b_none, b_otherwise, b_more, StepsExpand}
use Rattle.kl_ho.specs.Expansion.{s_none, s_more}

pub both_clean : (xs ys : List Finding) → Clean xs → Clean ys → Clean (xs ++ ys)
both_clean xs ys h k = all_append IsFine xs ys h k

else_second : (b : Bool) (P Q : Type 0) → Else b (P × Q) → Else b Q
else_second true P Q h = tt
else_second false P Q h = h.1

-- ---- names

abbrev pub AreNew : New → List Name → Type 0
AreNew is_new ys = AllByRecursion (λ y. is_new y ≡ true) ys

-- the new names that are seen are bound
abbrev pub AreBound : Scope → List Name → Type 0
AreBound S ys = AllByRecursion (λ s. IsSome (place_in ys s.1)) S

mention_clean : (m : Meaning) → Clean (mention_in m)
mention_clean (Source i) = (tt, tt)
mention_clean _ = tt

same_number : (n : ℕ) → (n == n) ≡ true
same_number n = grind arith

used_clean : (o : Option Sense) (w : Word) (n : ℕ) → Takes o n → Clean (used o w n)
used_clean (Some s) w n h =
    both_clean (mention_in s.means) (only_if (not_as_taken s.takes n) _) (mention_clean s.means) (rw (h, same_number n) tt)
used_clean None w n h = absurd h

step_none : (b : Bool) (o : Option ℕ) → b ≡ false → o ≡ None → (if b then Some 0 else option_map suc o) ≡ None
step_none true o e h = absurd (true≢false e)
step_none false o e h = rw h refl

step_some : (b : Bool) (o : Option ℕ) → (b ≡ false → IsSome o) → IsSome (if b then Some 0 else option_map suc o)
step_some true o h = refl
step_some false (Some i) h = refl
step_some false None h = h refl

module _ (is_new : New) (g : scope.Scope) where
  pub apart : (y x : Name) → is_new y ≡ true → is_new x ≡ false → bytes_eq y x ≡ false
  apart y x n o = by_name (bytes_eq y x) refl
    where
      by_name : (b : Bool) → bytes_eq y x ≡ b → b ≡ false
      by_name true q = absurd (true≢false (sym n ∙ ap is_new (same_text y x (sym q)) ∙ o))
      by_name false q = refl

  no_place : (ys : List Name) (x : Name) → AreNew is_new ys → is_new x ≡ false → place_in ys x ≡ None
  no_place [] x n o = refl
  no_place (y ∷ ys) x n o = step_none (bytes_eq y x) (place_in ys x) (apart y x n.0 o) (no_place ys x n.1 o)

  bound_place : (S : Scope) (ys : List Name) (x z : Name) → AreBound S ys → field x S ≡ Some z → IsSome (place_in ys z)
  bound_place [] ys x z b e = let n : ⊥ = cc in absurd n
  bound_place (s ∷ S) ys x z b e = by_name (λ i. bound_place S ys x z b.1 i) (same_name x s.0) e
    where
      by_name : (field x S ≡ Some z → IsSome (place_in ys z)) → (t : Bool) → cond t (Some s.1) (field x S) ≡ Some z → IsSome (place_in ys z)
      by_name go true i = subst (λ w. IsSome (place_in ys w)) (same_Some s.1 z i) b.0
      by_name go false i = go i

  takes_variable : (o : Option ℕ) (p : Option Sense) → IsSome o → Takes (option_or (option_map (λ i. scope.sense (Variable i) 0) o) p) 0
  takes_variable (Some i) p h = refl
  takes_variable None p h = absurd (true≢false (sym h))

-- ---- labels and variables, none of them twice

pub split_clean : (xs ys : List Finding) → Clean (xs ++ ys) → Clean xs × Clean ys
split_clean [] ys h = (tt, h)
split_clean (x ∷ xs) ys h = let r = split_clean xs ys h.1 in ((h.0, r.0), r.1)

pub none_clean : (b : Bool) (f : Finding) → b ≡ false → Clean (only_if b f)
none_clean true f e = absurd (true≢false e)
none_clean false f e = tt

pub clean_none : (b : Bool) (e : ScopeError) → Clean (only_if b (breach e)) → b ≡ false
clean_none true e h = absurd h.0
clean_none false e h = refl

not_true : (b c : Bool) → (b ≡ true → c ≡ true) → c ≡ false → b ≡ false
not_true true c h e = absurd (true≢false (sym (h refl) ∙ e))
not_true false c h e = refl

pub repeat_step : (b b' : List Name) (w w' : Word) (ws ws' : List Word) → (scope_findings.is_among w'.text b' ≡ true → scope_findings.is_among w.text b ≡ true) → Clean (repeated b (w ∷ ws))
    → (Clean (repeated (w.text ∷ b) ws) → Clean (repeated (w'.text ∷ b') ws')) → Clean (repeated b' (w' ∷ ws'))
repeat_step b b' w w' ws ws' h c go =
    let r = split_clean (only_if (scope_findings.is_among w.text b) (breach (Twice w.text w.token))) (repeated (w.text ∷ b) ws) c in
    both_clean (only_if (scope_findings.is_among w'.text b') (breach (Twice w'.text w'.token))) (repeated (w'.text ∷ b') ws')
    (none_clean _ _ (not_true (scope_findings.is_among w'.text b') (scope_findings.is_among w.text b) h (clean_none (scope_findings.is_among w.text b) (Twice w.text w.token) r.0))) (go r.1)

same_repeat : (b : List Name) (w w' : Word) (ws ws' : List Word) → w'.text ≡ w.text → Clean (repeated b (w ∷ ws)) → ((c : List Name) → Clean (repeated c ws) → Clean (repeated c ws')) → Clean (repeated b (w' ∷ ws'))
same_repeat b w w' ws ws' e c go = repeat_step b b w w' ws ws' (λ h. rw e at h) c (λ i. rw e (go (w.text ∷ b) i))

pub labels_clean : {is_new : New} {O S T : Scope} {ps qs : Pats} → PatsBecome is_new O S ps qs T → (b : List Name) → Clean (repeated b (pattern_labels ps)) → Clean (repeated b (pattern_labels qs))
labels_clean p_none b h = tt
labels_clean (p_more {l = l} {m = m} {ps = ps} {qs = qs} e p h) b c = same_repeat b l m (pattern_labels ps) (pattern_labels qs) e c (λ d i. labels_clean h d i)

-- a new name stands where its variable does
abbrev Linked : List Name → List Name → Scope → Type 0
Linked b b' S = (x y : Name) → HidesNone x y S → scope_findings.is_among y b' ≡ true → scope_findings.is_among x b ≡ true

pub or_more : (a b c d : Bool) → (a ≡ true → c ≡ true) → (b ≡ true → d ≡ true) → (a || b) ≡ true → (c || d) ≡ true
or_more true b c d f g e = or_left c d (f refl)
or_more false b true d f g e = refl
or_more false b false d f g e = g e

linked_more : (b b' : List Name) (S : Scope) (x y : Name) → Linked b b' S → Linked (x ∷ b) (y ∷ b') ((x, y) ∷ S)
linked_more b b' S x y l = λ u v h t. or_more (bytes_eq y v) (scope_findings.is_among v b') (bytes_eq x u) (scope_findings.is_among u b) (λ e. h.0 e) (λ e. l u v h.1 e) t

rest_clean : {is_new : New} {S T : Scope} {end close : Tail} → TailBecomes is_new S end close T → (rest rest' : List Word) (b b' : List Name) → Linked b b' S → Clean (repeated b (rest_variable end ++ rest))
    → ((c c' : List Name) → Linked c c' T → Clean (repeated c rest) → Clean (repeated c' rest')) → Clean (repeated b' (rest_variable close ++ rest'))
rest_clean t_exact rest rest' b b' l h go = go b b' l h
rest_clean t_open rest rest' b b' l h go = go b b' l h
rest_clean (t_rest {S = S} {x = x} {y = y} n a) rest rest' b b' l h go =
    repeat_step b b' x y rest rest' (λ t. l x.text y.text a t) h (λ i. go (x.text ∷ b) (y.text ∷ b') (linked_more b b' S x.text y.text l) i)

module _ (is_new : New) (O : Scope) where
  mutual
    vars_clean : {S T : Scope} {p q : Pat} → PatBecomes is_new O S p q T → (rest rest' : List Word) (b b' : List Name) → Linked b b' S → Clean (repeated b (variables p ++ rest))
        → ((c c' : List Name) → Linked c c' T → Clean (repeated c rest) → Clean (repeated c' rest')) → Clean (repeated b' (variables q ++ rest'))
    vars_clean (p_catch {S = S} {x = x} {y = y} n a) rest rest' b b' l h go =
        repeat_step b b' x y rest rest' (λ t. l x.text y.text a t) h (λ i. go (x.text ∷ b) (y.text ∷ b') (linked_more b b' S x.text y.text l) i)
    vars_clean p_any rest rest' b b' l h go = go b b' l h
    vars_clean (p_same c) rest rest' b b' l h go = go b b' l h
    vars_clean p_is rest rest' b b' l h go = go b b' l h
    vars_clean (p_shape {ps = ps} {qs = qs} {end = end} {close = close} r c) rest rest' b b' l h go =
        rw (append_assoc (variables_all qs) (rest_variable close) rest')
        (vars_all_clean r (rest_variable end ++ rest) (rest_variable close ++ rest') b b' l (rw (append_assoc (variables_all ps) (rest_variable end) rest) at h)
        (λ d d' k i. rest_clean c rest rest' d d' k i go))
    vars_clean (p_variant e p) rest rest' b b' l h go = vars_clean p rest rest' b b' l h go

    vars_all_clean : {S T : Scope} {ps qs : Pats} → PatsBecome is_new O S ps qs T → (rest rest' : List Word) (b b' : List Name) → Linked b b' S → Clean (repeated b (variables_all ps ++ rest))
        → ((c c' : List Name) → Linked c c' T → Clean (repeated c rest) → Clean (repeated c' rest')) → Clean (repeated b' (variables_all qs ++ rest'))
    vars_all_clean p_none rest rest' b b' l h go = go b b' l h
    vars_all_clean (p_more {p = p} {q = q} {ps = ps} {qs = qs} e f r) rest rest' b b' l h go =
        rw (append_assoc (variables q) (variables_all qs) rest')
        (vars_clean f (variables_all ps ++ rest) (variables_all qs ++ rest') b b' l (rw (append_assoc (variables p) (variables_all ps) rest) at h)
        (λ c c' k i. vars_all_clean r rest rest' c c' k i go))

  none_linked : (S : Scope) → Linked [] [] S
  none_linked S = λ x y h t. absurd (true≢false (sym t))

  vars_once : {S T : Scope} {p q : Pat} → PatBecomes is_new O S p q T → Clean (repeated [] (variables p)) → Clean (repeated [] (variables q))
  vars_once {S = S} {p = p} {q = q} f h =
      subst (λ z. Clean (repeated [] z)) (append-nil (variables q))
      (vars_clean f [] [] [] [] (none_linked S) (subst (λ z. Clean (repeated [] z)) (sym (append-nil (variables p))) h) (λ c c' l i. tt))

-- ---- sure patterns

pub nil_left : {A : Type 0} (xs ys : List A) → xs ++ ys ≡ [] → xs ≡ []
nil_left [] ys e = refl
nil_left (x ∷ xs) ys e = let n : ⊥ = cc in absurd n

pub nil_right : {A : Type 0} (xs ys : List A) → xs ++ ys ≡ [] → ys ≡ []
nil_right [] ys e = e
nil_right (x ∷ xs) ys e = let n : ⊥ = cc in absurd n

module _ (is_new : New) (O : Scope) where
  mutual
    still_sure : {S T : Scope} {p q : Pat} → PatBecomes is_new O S p q T → tests p ≡ [] → tests q ≡ []
    still_sure (p_catch n a) h = refl
    still_sure p_any h = refl
    still_sure (p_same c) h = let n : ⊥ = cc in absurd n
    still_sure p_is h = let n : ⊥ = cc in absurd n
    still_sure (p_shape ps c) h = all_sure ps h
    still_sure (p_variant e p) h = let n : ⊥ = cc in absurd n

    all_sure : {S T : Scope} {ps qs : Pats} → PatsBecome is_new O S ps qs T → tests_all ps ≡ [] → tests_all qs ≡ []
    all_sure p_none h = refl
    all_sure (p_more {p = p} {ps = ps} e f r) h = rw (still_sure f (nil_left (tests p) (tests_all ps) h), all_sure r (nil_right (tests p) (tests_all ps) h)) refl

-- ---- scopes behind patterns

abbrev pub pushed : List Word → List Name → List Name
pushed [] ys = ys
pushed (w ∷ ws) ys = pushed ws (w.text ∷ ys)

pub pushed_both : (xs zs : List Word) (ys : List Name) → pushed (xs ++ zs) ys ≡ pushed zs (pushed xs ys)
pushed_both [] zs ys = refl
pushed_both (x ∷ xs) zs ys = pushed_both xs zs (x.text ∷ ys)

-- what is seen, what is bound, and that all of it is new
pub record At (is_new : New) (V : List Name) (S : Scope) (ys : List Name) : Type 0 where
  pub seen : AreSeen V S
  pub bound : AreBound S ys
  pub new : AreNew is_new ys

bound_more : (S : Scope) (y : Name) (ys : List Name) → AreBound S ys → AreBound S (y ∷ ys)
bound_more [] y ys h = tt
bound_more (s ∷ S) y ys h = (step_some (bytes_eq y s.1) (place_in ys s.1) (λ e. h.0), bound_more S y ys h.1)

here_bound : (y : Name) (ys : List Name) → IsSome (place_in (y ∷ ys) y)
here_bound y ys = rw (same_label y) refl

at_after_tail : {is_new : New} {S T : Scope} {end close : Tail} → TailBecomes is_new S end close T → (V ys : List Name) → At is_new V S ys → At is_new (rest_after end V) T (pushed (rest_variable close) ys)
at_after_tail t_exact V ys h = h
at_after_tail t_open V ys h = h
at_after_tail (t_rest {S = S} {x = x} {y = y} n a) V ys h =
    record { seen = seen_bound x.text y.text V S h.seen; bound = (here_bound y.text ys, bound_more S y.text ys h.bound); new = (n, h.new) }

module _ (is_new : New) (O : Scope) where
  mutual
    pub at_after : {S T : Scope} {p q : Pat} → PatBecomes is_new O S p q T → (V ys : List Name) → At is_new V S ys → At is_new (names_after p V) T (pushed (variables q) ys)
    at_after (p_catch {S = S} {x = x} {y = y} n a) V ys h = record { seen = seen_bound x.text y.text V S h.seen; bound = (here_bound y.text ys, bound_more S y.text ys h.bound); new = (n, h.new) }
    at_after p_any V ys h = h
    at_after (p_same c) V ys h = h
    at_after p_is V ys h = h
    at_after (p_shape {ps = ps} {qs = qs} {close = close} r c) V ys h =
        rw (pushed_both (variables_all qs) (rest_variable close) ys) (at_after_tail c (names_after_all ps V) (pushed (variables_all qs) ys) (at_after_all r V ys h))
    at_after (p_variant e p) V ys h = at_after p V ys h

    at_after_all : {S T : Scope} {ps qs : Pats} → PatsBecome is_new O S ps qs T → (V ys : List Name) → At is_new V S ys → At is_new (names_after_all ps V) T (pushed (variables_all qs) ys)
    at_after_all p_none V ys h = h
    at_after_all (p_more {T = T} {U = U} {p = p} {q = q} {ps = ps} {qs = qs} e f r) V ys h =
        rw (pushed_both (variables q) (variables_all qs) ys) (at_after_all r (names_after p V) (pushed (variables q) ys) (at_after f V ys h))

-- ---- expressions

counts_same : {is_new : New} {highers : Highers} {n : ℕ} {funs : Funs} {S : Scope} {es fs : Exps} → ExpandAll is_new highers n funs S es fs → count es ≡ count fs
counts_same a_none = refl
counts_same (a_more e es) = ap suc (counts_same es)

abbrev pub Includes : List Name → List Name → Type 0
Includes b b' = (x : Name) → scope_findings.is_among x b' ≡ true → scope_findings.is_among x b ≡ true

field_labels_clean : {is_new : New} {highers : Highers} {n : ℕ} {funs : Funs} {S : Scope} {skips : List (Name × Name)} {fs gs : Flds} → FieldsExpand is_new highers n funs S skips fs gs → (b b' : List Name)
    → Includes b b' → Clean (repeated b (field_labels fs)) → Clean (repeated b' (field_labels gs))
field_labels_clean f_none b b' i h = tt
field_labels_clean (f_skip {l = l} {fs = fs} s r) b b' i h =
    field_labels_clean r (l.text ∷ b) b' (λ x t. or_right (bytes_eq l.text x) (scope_findings.is_among x b) (i x t))
    (split_clean (only_if (scope_findings.is_among l.text b) (breach (Twice l.text l.token))) (repeated (l.text ∷ b) (field_labels fs)) h).1
field_labels_clean (f_more {l = l} {m = m} {fs = fs} {gs = gs} s e a r) b b' i h =
    repeat_step b b' l m (field_labels fs) (field_labels gs) (λ t. i l.text (rw e at t)) h
    (λ k. rw e (field_labels_clean r (l.text ∷ b) (l.text ∷ b') (λ x t. or_more (bytes_eq l.text x) (scope_findings.is_among x b') (bytes_eq l.text x) (scope_findings.is_among x b) (λ z. z) (i x) t) k))

branch_labels_clean : {is_new : New} {highers : Highers} {n : ℕ} {funs : Funs} {S : Scope} {bs cs : Branches} → BranchesExpand is_new highers n funs S bs cs → (b : List Name)
    → Clean (repeated b (branch_labels bs)) → Clean (repeated b (branch_labels cs))
branch_labels_clean b_none b h = tt
branch_labels_clean (b_otherwise e) b h = tt
branch_labels_clean (b_more {l = l} {m = m} {bs = bs} {cs = cs} e p x r) b h = same_repeat b l m (branch_labels bs) (branch_labels cs) e h (λ c i. branch_labels_clean r c i)

skips_of : (t : Shape) (ks : List (Name × Name)) (ps : List (Name × Shape)) → AreParams t ks ps → (l : Name) → is_some (shape_at l t) ≡ is_some (field l ks)
skips_of plain ks ps a l = rw a.0 refl
skips_of (with m s rest) (k ∷ ks) (p ∷ ps) a l = rw a.0 (either_some (same_name l m) s k.1 (shape_at l rest) (field l ks) (skips_of rest ks ps a.2 l))
skips_of (with m s rest) [] ps a l = absurd a
skips_of (with m s rest) (k ∷ ks) [] a l = absurd a

not_skipped : (o : Option Shape) (P : Type 0) → is_some o ≡ false → Unless o P → P
not_skipped (Some s) P e u = absurd (true≢false e)
not_skipped None P e u = u

module _ (is_new : New) (highers : Highers) (g : scope.Scope) (functions : Name → Option Shape) (arity : Name → Option ℕ) where
  abbrev pub here : List Name → scope.Scope
  here ys = record g { variables = ys }

  pub all_bound_is : (ws : List Word) (ys : List Name) → scope.all_bound (here ys) ws ≡ here (pushed ws ys)
  all_bound_is [] ys = refl
  all_bound_is (w ∷ ws) ys = all_bound_is ws (w.text ∷ ys)

  -- what is asked of a definition with function fields
  pub record BodyKeeps (t : Shape) (h : Higher) : Type 0 where
    pub world : World
    pub takes : Name → Option ℕ
    pub params : List (Name × Shape)
    pub are : AreParams t h.handed params
    pub below : (x : Name) (s : Shape) → world.functions x ≡ Some s → functions x ≡ Some s
    pub less : (x : Name) (k : ℕ) → takes x ≡ Some k → arity x ≡ Some k
    pub none : (x : Name) (k : ℕ) → takes x ≡ Some k → world.functions x ≡ None → highers x ≡ None
    pub pattern : KeepsSure world takes [] (shape h.rest tail.Exact) []
    pub body : Keeps world takes params h.body (names_after (shape h.rest tail.Exact) [])

  abbrev pub TableAt : Shape → Option Higher → Type 0
  TableAt plain o = o ≡ None
  TableAt (with l s rest) o = (h : Higher) × (o ≡ Some h) × BodyKeeps (with l s rest) h

  -- where an expression stands: what is asked of its names, and which functions stand for its parameters
  pub record Fitting (funs : Funs) : Type 0 where
    pub world : World
    pub takes : Name → Option ℕ
    pub params : List (Name × Shape)
    pub heads : (f : Name) (t : Shape) → or_function (field f params) (world.functions f) ≡ Some t → functions (head funs f) ≡ Some t
    pub others : (f : Name) → field f params ≡ None → head funs f ≡ f
    pub less : (x : Name) (k : ℕ) → takes x ≡ Some k → arity x ≡ Some k
    pub none : (x : Name) (k : ℕ) → takes x ≡ Some k → world.functions x ≡ None → highers x ≡ None

  module _ (values : (x : Name) → arity x ≡ Some 0 → Takes (named (here []) x) 0)
      (calls : (x : Name) (k : ℕ) → arity x ≡ Some k → highers x ≡ None → Takes (called (here []) x) k)
      (table : (x : Name) (t : Shape) → functions x ≡ Some t → (arity x ≡ Some 1) × TableAt t (highers x)) where
    value_by : (o : Option Name) (takes : Name → Option ℕ) (x y : Name) (among : Bool) (ys : List Name) → BecomesBy is_new o x y → (among ≡ true → IsSome o) → ((z : Name) → o ≡ Some z → IsSome (place_in ys z))
        → AreNew is_new ys → ((k : ℕ) → takes x ≡ Some k → arity x ≡ Some k) → Else among (takes x ≡ Some 0) → Takes (named (here ys) y) 0
    value_by (Some z) takes x y among ys b s p n l k = rw b (takes_variable is_new g (place_in ys z) _ (p z refl))
    value_by None takes x y true ys b s p n l k = absurd (true≢false (sym (s refl)))
    value_by None takes x y false ys b s p n l k = rw (b.0, no_place is_new g ys x n b.1) (values x (l 0 k))

    value_clean : {funs : Funs} (c : Fitting funs) (V : List Name) (S : Scope) (ys : List Name) (x y : Word) → At is_new V S ys → Becomes is_new S x.text y.text → KeepsName c.world c.takes c.params V x.text
        → Clean (used (named (here ys) y.text) y 0)
    value_clean c V S ys x y h b k =
        used_clean (named (here ys) y.text) y 0
        (value_by (field x.text S) c.takes x.text y.text (is_among x.text V) ys b (seen_among x.text V S h.seen) (λ z e. bound_place is_new g S ys x.text z h.bound e) h.new (λ n e. c.less x.text n e) (else_second (is_among x.text V) _ _ k))

    -- patterns
    module _ {funs : Funs} (c : Fitting funs) (V : List Name) (O : Scope) (ys : List Name) (h : At is_new V O ys) where
      mutual
        names_clean : {S T : Scope} {p q : Pat} → PatBecomes is_new O S p q T → KeepsNames c.world c.takes c.params p V → Clean (pattern_findings q (here ys))
        names_clean (p_catch n a) k = tt
        names_clean p_any k = tt
        names_clean (p_same {x = x} {y = y} b) k = value_clean c V O ys x y h b k
        names_clean p_is k = tt
        names_clean (p_shape {ps = ps} {qs = qs} r c) k =
            both_clean (repeated [] (pattern_labels qs)) (patterns_findings qs (here ys)) (labels_clean r [] k.0) (all_names_clean r k.1)
        names_clean (p_variant e p) k = names_clean p k

        all_names_clean : {S T : Scope} {ps qs : Pats} → PatsBecome is_new O S ps qs T → KeepsNamesAll c.world c.takes c.params ps V → Clean (patterns_findings qs (here ys))
        all_names_clean p_none k = tt
        all_names_clean (p_more {q = q} {qs = qs} e p ps) k = both_clean (pattern_findings q (here ys)) (patterns_findings qs (here ys)) (names_clean p k.0) (all_names_clean ps k.1)

      drawn_clean : {S T : Scope} {p q : Pat} → PatBecomes is_new O S p q T → KeepsDrawn c.world c.takes c.params p V → Clean (drawn_findings q (here ys))
      drawn_clean {q = q} r k = both_clean (pattern_findings q (here ys)) (repeated [] (variables q)) (names_clean r k.0) (vars_once is_new O r k.1)

      pub sure_clean : {S T : Scope} {p q : Pat} → PatBecomes is_new O S p q T → KeepsSure c.world c.takes c.params p V → Clean (sure_findings q (here ys))
      sure_clean {q = q} r k = rw (still_sure is_new O r k.0) (drawn_clean r k.1)

    -- heads
    called_old : (ys : List Name) (x : Name) (k : ℕ) → AreNew is_new ys → is_new x ≡ false → Takes (called (here []) x) k → Takes (called (here ys) x) k
    called_old ys x k n o t = rw (no_place is_new g ys x n o) t

    takes_by : (o : Option Shape) (w : Option Shape) (x h : Name) (k : ℕ) (takes : Name → Option ℕ) → ((t : Shape) → or_function o w ≡ Some t → functions h ≡ Some t) → (o ≡ None → h ≡ x)
        → ((z : Name) (j : ℕ) → takes z ≡ Some j → arity z ≡ Some j) → ByParam o (k ≡ 1) (takes x ≡ Some k) → arity h ≡ Some k
    takes_by (Some t) w x h k takes f e l b = rw b (table h t (f t refl)).0
    takes_by None w x h k takes f e l b = rw (e refl) (l x k b)

    head_clean : {funs : Funs} (c : Fitting funs) (V : List Name) (S : Scope) (ys : List Name) (f g : Word) (k j : ℕ) → At is_new V S ys → highers (head funs f.text) ≡ None → g.text ≡ head funs f.text
        → is_new g.text ≡ false → k ≡ j → KeepsHead c.world c.takes c.params V f.text k → Clean (used (called (here ys) g.text) g j)
    head_clean {funs = funs} c V S ys f g k j h n e o q b =
        let a : arity (head funs f.text) ≡ Some k = takes_by (field f.text c.params) (c.world.functions f.text) f.text (head funs f.text) k c.takes (c.heads f.text) (c.others f.text) c.less b.1 in
        let t : Takes (called (here []) (head funs f.text)) k = calls (head funs f.text) k a n in
        used_clean (called (here ys) g.text) g j (called_old ys g.text j h.new o (subst (λ z. Takes (called (here []) z) j) (sym e) (subst (λ z. Takes (called (here []) (head funs f.text)) z) q t)))

    all_kept : (o : Option Shape) (x : Name) (P : Type 0) (Q : Shape → Type 0) → ((t : Shape) → o ≡ Some t → functions x ≡ Some t) → highers x ≡ None → ByShape o P Q → P
    all_kept None x P Q f n b = b
    all_kept (Some plain) x P Q f n b = b
    all_kept (Some (with l s rest)) x P Q f n b =
        let t = (table x (with l s rest) (f (with l s rest) refl)).1 in
        let w : Some t.0 ≡ None = sym t.1 ∙ n in
        let z : ⊥ = cc in absurd z

    abbrev Unfolds : (Shape → Type 0) → Higher → Type 0
    Unfolds Q h = (l : Name) × (s : Shape) × (rest : Shape) × BodyKeeps (with l s rest) h × Q (with l s rest)

    kept_argument : (o : Option Shape) (x : Name) (h : Higher) (P : Type 0) (Q : Shape → Type 0) → ((t : Shape) → o ≡ Some t → functions x ≡ Some t) → (o ≡ None → highers x ≡ None) → highers x ≡ Some h
        → ByShape o P Q → Unfolds Q h
    kept_argument None x h P Q f e n b = let w : None ≡ Some h = sym (e refl) ∙ n in let z : ⊥ = cc in absurd z
    kept_argument (Some plain) x h P Q f e n b = let w : None ≡ Some h = sym (table x plain (f plain refl)).1 ∙ n in let z : ⊥ = cc in absurd z
    kept_argument (Some (with l s rest)) x h P Q f e n b =
        let t = (table x (with l s rest) (f (with l s rest) refl)).1 in
        let w : t.0 ≡ h = same_Some t.0 h (sym t.1 ∙ n) in
        (l, s, rest, subst (BodyKeeps (with l s rest)) w t.2, b)

    -- the functions that are given have the shapes that are asked
    abbrev Given : List (Name × Shape) → Funs → Type 0
    Given [] [] = Unit {0}
    Given (p ∷ ps) (q ∷ qs) = (q.0 ≡ p.0) × (functions q.1 ≡ Some p.1) × Given ps qs
    Given _ _ = ⊥

    given_more : {funs : Funs} (c : Fitting funs) (V : List Name) (fs : Flds) (l : Name) (s : Shape) (k : Name × Name) (ks : List (Name × Name)) (p : Name × Shape) (ps : List (Name × Shape)) (o : Option Name)
        → k.0 ≡ l → p ≡ (k.1, s) → bare_at l fs ≡ o → IsOfShape c.world c.params o s V → (given : Funs) × (given_by ks fs funs ≡ Some given) × Given ps given
        → (given : Funs) × (given_by (k ∷ ks) fs funs ≡ Some given) × Given (p ∷ ps) given
    given_more c V fs l s k ks p ps None t q e i g = absurd i
    given_more {funs = funs} c V fs l s k ks p ps (Some x) t q e i g =
        let shape : or_function (field x c.params) (c.world.functions x) ≡ Some s = rw i.0 at i.1 in
        ((k.1, head funs x) ∷ g.0, rw (t, e, g.1) refl, rw q (refl, c.heads x s shape, g.2))

    given_fits : {funs : Funs} (c : Fitting funs) (V : List Name) (fs : Flds) (t : Shape) (ks : List (Name × Name)) (ps : List (Name × Shape)) → AreParams t ks ps → HoldsAll c.world c.params t fs V
        → (given : Funs) × (given_by ks fs funs ≡ Some given) × Given ps given
    given_fits c V fs plain ks ps a h = ([], rw a.0 refl, rw a.1 tt)
    given_fits c V fs (with l s rest) (k ∷ ks) (p ∷ ps) a h = given_more c V fs l s k ks p ps (bare_at l fs) a.0 a.1 refl h.0 (given_fits c V fs rest ks ps a.2 h.1)
    given_fits c V fs (with l s rest) [] ps a h = absurd a
    given_fits c V fs (with l s rest) (k ∷ ks) [] a h = absurd a

    either_shape : (b : Bool) (s t : Shape) (g x : Name) (o w : Option Shape) (p : Option Name) → functions g ≡ Some s → (or_function o w ≡ Some t → functions (or_itself p x) ≡ Some t)
        → or_function (cond b (Some s) o) w ≡ Some t → functions (or_itself (cond b (Some g) p) x) ≡ Some t
    either_shape true s t g x o w p h k e = h ∙ e
    either_shape false s t g x o w p h k e = k e

    given_heads : (below : Name → Option Shape) (sub : (x : Name) (s : Shape) → below x ≡ Some s → functions x ≡ Some s) (ps : List (Name × Shape)) (given : Funs) → Given ps given → (f : Name) (t : Shape)
        → or_function (field f ps) (below f) ≡ Some t → functions (head given f) ≡ Some t
    given_heads below sub [] [] g f t e = sub f t e
    given_heads below sub (p ∷ ps) (q ∷ qs) g f t e =
        rw g.0 (either_shape (same_name f p.0) p.1 t q.1 f (field f ps) (below f) (field f qs) g.1 (given_heads below sub ps qs g.2 f t) e)
    given_heads below sub [] (q ∷ qs) g f t e = absurd g
    given_heads below sub (p ∷ ps) [] g f t e = absurd g

    either_none : (b : Bool) (s : Shape) (g x : Name) (o : Option Shape) (p : Option Name) → (o ≡ None → or_itself p x ≡ x) → cond b (Some s) o ≡ None → or_itself (cond b (Some g) p) x ≡ x
    either_none true s g x o p k e = let z : ⊥ = cc in absurd z
    either_none false s g x o p k e = k e

    given_others : (ps : List (Name × Shape)) (given : Funs) → Given ps given → (f : Name) → field f ps ≡ None → head given f ≡ f
    given_others [] [] g f e = refl
    given_others (p ∷ ps) (q ∷ qs) g f e = rw g.0 (either_none (same_name f p.0) p.1 q.1 f (field f ps) (field f qs) (given_others ps qs g.2 f) e)
    given_others [] (q ∷ qs) g f e = absurd g
    given_others (p ∷ ps) [] g f e = absurd g

    abbrev inside : (t : Shape) (h : Higher) (b : BodyKeeps t h) (given : Funs) → Given b.params given → Fitting given
    inside t h b given g =
        record { world = b.world; takes = b.takes; params = b.params; heads = given_heads b.world.functions b.below b.params given g; others = given_others b.params given g; less = b.less; none = b.none }

    -- the same without them, where its parameter is matched
    abbrev outside : (t : Shape) (h : Higher) → BodyKeeps t h → Fitting []
    outside t h b = record { world = b.world; takes = b.takes; params = []; heads = b.below; others = λ f e. refl; less = b.less; none = b.none }

    no_head : (o : Option Shape) (w : Option Shape) (x h : Name) (k : ℕ) (takes : Name → Option ℕ) → (o ≡ None → h ≡ x) → ((j : ℕ) → takes x ≡ Some j → w ≡ None → highers x ≡ None)
        → ByParam o (k ≡ 1) (takes x ≡ Some k) → or_function o w ≡ None → highers h ≡ None
    no_head (Some t) w x h k takes e n b q = let z : ⊥ = cc in absurd z
    no_head None w x h k takes e n b q = rw (e refl) (n k b q)

    mutual
      pub clean : {n : ℕ} {funs : Funs} {S : Scope} {e x : Exp} → Expands is_new highers n funs S e x → (c : Fitting funs) (V ys : List Name) → Keeps c.world c.takes c.params e V → At is_new V S ys
          → Clean (findings x (here ys))
      clean e_const c V ys k h = tt
      clean (e_name {S = S} {x = x} {y = y} b) c V ys k h = value_clean c V S ys x y h b k
      clean (e_call {funs = funs} {S = S} {f = f} {g = w} {es = es} {fs = fs} n t a r) c V ys k h =
          both_clean (used (called (here ys) w.text) w (count fs)) (findings_all fs (here ys)) (head_clean c V S ys f w (count es) (count fs) h n t a (counts_same r) k.0)
          (all_clean r c V ys (all_kept (or_function (field f.text c.params) (c.world.functions f.text)) (head funs f.text) _ _ (c.heads f.text) n k.1) h)
      clean (e_unfold {n = n} {funs = funs} {S = S} {T = T} {f = f} {fs = fs} {gs = gs} {q = q} {b = b} d given found gv r p x) c V ys k h =
          let u = kept_argument (or_function (field f.text c.params) (c.world.functions f.text)) (head funs f.text) d _ (λ s. KeepsArgument c.world c.takes c.params s (exps (Rec fs) no_exps) V) (c.heads f.text)
          (no_head (field f.text c.params) (c.world.functions f.text) f.text (head funs f.text) 1 c.takes (c.others f.text) (c.none f.text) k.0.1) found k.1 in
          let w = u.3 in
          let a = u.4 in
          let i = given_fits c V fs (with u.0 u.1 u.2) d.handed w.params w.are a.0 in
          let same : i.0 ≡ given = same_Some i.0 given (sym i.1 ∙ gv) in
          let inner = inside (with u.0 u.1 u.2) d w given (subst (Given w.params) same i.2) in
          let start : At is_new [] [] ys = record { seen = tt; bound = tt; new = h.new } in
          let behind_p : At is_new (names_after (shape d.rest tail.Exact) []) T (pushed (variables q) ys) = at_after is_new [] p [] ys start in
          both_clean (findings (Rec gs) (here ys)) (sure_findings q (here ys) ++ findings b (within q (here ys)))
          (both_clean (repeated [] (field_labels gs)) (findings_fields gs (here ys)) (field_labels_clean r [] [] (λ z t. t) a.1) (fields_clean r c (with u.0 u.1 u.2) V ys (skips_of (with u.0 u.1 u.2) d.handed w.params w.are) a.2 h))
          (both_clean (sure_findings q (here ys)) (findings b (within q (here ys))) (sure_clean (outside (with u.0 u.1 u.2) d w) [] [] ys start p w.pattern)
          (rw (all_bound_is (variables q) ys) (clean x inner (names_after (shape d.rest tail.Exact) []) (pushed (variables q) ys) w.body behind_p)))
      clean (e_rec {gs = gs} r) c V ys k h =
          both_clean (repeated [] (field_labels gs)) (findings_fields gs (here ys)) (field_labels_clean r [] [] (λ z t. t) k.0) (fields_clean r c plain V ys (λ l. refl) k.1 h)
      clean (e_extend {gs = gs} {x = x} r a) c V ys k h =
          both_clean (repeated [] (field_labels gs)) (findings_fields gs (here ys) ++ findings x (here ys)) (field_labels_clean r [] [] (λ z t. t) k.0)
          (both_clean (findings_fields gs (here ys)) (findings x (here ys)) (fields_clean r c plain V ys (λ l. refl) k.1 h) (clean a c V ys k.2 h))
      clean (e_inj t a) c V ys k h = clean a c V ys k h
      clean (e_coll es) c V ys k h = all_clean es c V ys k h
      clean (e_comp {T = T} {b = b} {qs = ps} {rs = rs} qs a) c V ys k h =
          let r = quals_clean qs c V ys k.0 h in
          both_clean (findings_quals rs (here ys)) (findings b (behind rs (here ys))) r.1 (rw r.2 (clean a c (behind_shaped ps V) r.0 k.1 r.3))
      clean (e_if {x = x} {y = y} {z = z} a b e) c V ys k h =
          both_clean (findings x (here ys)) (findings y (here ys) ++ findings z (here ys)) (clean a c V ys k.0 h)
          (both_clean (findings y (here ys)) (findings z (here ys)) (clean b c V ys k.1 h) (clean e c V ys k.2 h))
      clean (e_let {S = S} {T = T} {p = p} {q = q} {x = x} {y = y} a r b) c V ys k h =
          both_clean (findings x (here ys)) (sure_findings q (here ys) ++ findings y (within q (here ys))) (clean a c V ys k.0 h)
          (both_clean (sure_findings q (here ys)) (findings y (within q (here ys))) (sure_clean c V S ys h r k.1)
          (rw (all_bound_is (variables q) ys) (clean b c (names_after p V) (pushed (variables q) ys) k.2 (at_after is_new S r V ys h))))
      clean (e_case {x = x} {cs = cs} a bs) c V ys k h =
          both_clean (findings x (here ys)) (repeated [] (branch_labels cs) ++ findings_branches cs (here ys)) (clean a c V ys k.0 h)
          (both_clean (repeated [] (branch_labels cs)) (findings_branches cs (here ys)) (branch_labels_clean bs [] k.1) (branches_clean bs c V ys k.2 h))
      clean (e_path t a) c V ys k h = clean a c V ys k h
      clean (e_not a) c V ys k h = clean a c V ys k h
      clean (e_neg a) c V ys k h = clean a c V ys k h
      clean (e_chain {x = x} {rs = rs} a ss) c V ys k h = both_clean (findings x (here ys)) (findings_steps rs (here ys)) (clean a c V ys k.0 h) (steps_clean ss c V ys k.1 h)

      all_clean : {n : ℕ} {funs : Funs} {S : Scope} {es xs : Exps} → ExpandAll is_new highers n funs S es xs → (c : Fitting funs) (V ys : List Name) → KeepsAll c.world c.takes c.params es V → At is_new V S ys
          → Clean (findings_all xs (here ys))
      all_clean a_none c V ys k h = tt
      all_clean (a_more {x = x} {xs = xs} e es) c V ys k h = both_clean (findings x (here ys)) (findings_all xs (here ys)) (clean e c V ys k.0 h) (all_clean es c V ys k.1 h)

      fields_clean : {n : ℕ} {funs : Funs} {S : Scope} {skips : List (Name × Name)} {fs gs : Flds} → FieldsExpand is_new highers n funs S skips fs gs → (c : Fitting funs) (t : Shape) (V ys : List Name)
          → ((l : Name) → is_some (shape_at l t) ≡ is_some (field l skips)) → KeepsFields c.world c.takes c.params t fs V → At is_new V S ys → Clean (findings_fields gs (here ys))
      fields_clean f_none c t V ys s k h = tt
      fields_clean (f_skip q r) c t V ys s k h = fields_clean r c t V ys s k.1 h
      fields_clean (f_more {l = l} {x = x} {gs = gs} q e a r) c t V ys s k h =
          both_clean (findings x (here ys)) (findings_fields gs (here ys)) (clean a c V ys (not_skipped (shape_at l.text t) _ (s l.text ∙ ap is_some q) k.0) h) (fields_clean r c t V ys s k.1 h)

      quals_clean : {n : ℕ} {funs : Funs} {S T : Scope} {qs rs : Quals} → QualsExpand is_new highers n funs S qs rs T → (c : Fitting funs) (V ys : List Name) → KeepsQuals c.world c.takes c.params qs V → At is_new V S ys
          → (zs : List Name) × Clean (findings_quals rs (here ys)) × (behind rs (here ys) ≡ here zs) × At is_new (behind_shaped qs V) T zs
      quals_clean q_none c V ys k h = (ys, tt, refl, h)
      quals_clean (q_draw {S = S} {p = p} {q = q} {x = x} {rs = rs} e r qs) c V ys k h =
          let i = quals_clean qs c (names_after p V) (pushed (variables q) ys) k.2 (at_after is_new S r V ys h) in (
            i.0,
            both_clean (findings x (here ys)) (drawn_findings q (here ys) ++ findings_quals rs (within q (here ys))) (clean e c V ys k.0 h)
                (both_clean (drawn_findings q (here ys)) (findings_quals rs (within q (here ys))) (drawn_clean c V S ys h r k.1) (rw (all_bound_is (variables q) ys) i.1)),
            rw (all_bound_is (variables q) ys) i.2,
            i.3,
          )
      quals_clean (q_test {x = x} {rs = rs} e qs) c V ys k h =
          let i = quals_clean qs c V ys k.1 h in
          (i.0, both_clean (findings x (here ys)) (findings_quals rs (here ys)) (clean e c V ys k.0 h) i.1, i.2, i.3)

      branches_clean : {n : ℕ} {funs : Funs} {S : Scope} {bs cs : Branches} → BranchesExpand is_new highers n funs S bs cs → (c : Fitting funs) (V ys : List Name) → KeepsBranches c.world c.takes c.params bs V → At is_new V S ys
          → Clean (findings_branches cs (here ys))
      branches_clean b_none c V ys k h = tt
      branches_clean (b_otherwise e) c V ys k h = clean e c V ys k h
      branches_clean (b_more {S = S} {p = p} {q = q} {x = x} {cs = cs} t r e bs) c V ys k h =
          both_clean (sure_findings q (here ys)) (findings x (within q (here ys)) ++ findings_branches cs (here ys)) (sure_clean c V S ys h r k.0)
          (both_clean (findings x (within q (here ys))) (findings_branches cs (here ys))
          (rw (all_bound_is (variables q) ys) (clean e c (names_after p V) (pushed (variables q) ys) k.1 (at_after is_new S r V ys h))) (branches_clean bs c V ys k.2 h))

      steps_clean : {n : ℕ} {funs : Funs} {S : Scope} {ss rs : Steps} → StepsExpand is_new highers n funs S ss rs → (c : Fitting funs) (V ys : List Name) → KeepsSteps c.world c.takes c.params ss V → At is_new V S ys
          → Clean (findings_steps rs (here ys))
      steps_clean s_none c V ys k h = tt
      steps_clean (s_more {x = x} {rs = rs} e ss) c V ys k h = both_clean (findings x (here ys)) (findings_steps rs (here ys)) (clean e c V ys k.0 h) (steps_clean ss c V ys k.1 h)
