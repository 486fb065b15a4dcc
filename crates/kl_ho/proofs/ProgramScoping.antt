-- A program without a breach whose functions keep to their shapes keeps to the rules of scope, declaration by declaration.
use Rattle.std.proofs.Common.{◌≡◌, ℕ, Bool, true, false, ◌||◌, if◌then◌else◌, cond, List, [], ◌∷◌, ◌++◌, map, Option, Some}
use Rattle.std.proofs.Common.{None, IsSome, is_some, refl, sym, ap, ◌∙◌, subst, true≢false, append-nil, bytes_eq}
use Rattle.std.specs.Cmp.Lexicographic.{same_text}
use Rattle.std.specs.Option.{option_or, IfSome}
use Rattle.std.specs.Prelude.{find, not, nat_eq, ◌==◌}
use Rattle.std.specs.List.{list_all}
use Rattle.std.specs.Prelude.{option_and_then}
use Rattle.kl_base.specs.Sorted.{put_in}
use Rattle.std.specs.Ordering.{is_gt}
use Rattle.std.proofs.Math.Bool.{or_assoc, or_comm}
use Rattle.std.proofs.lemmas.Bool.{cond_both, or_parts, or_right, and_parts, eqb-true}
use Rattle.std.proofs.lemmas.Option.{same_Some}
use Rattle.kl_base.specs.Fields.{field}
use Rattle.kl_prim.specs.Records.{by_label, in_order}
use Rattle.kl_prim.specs.Table.{Entry, rows}
use Rattle.kl_type.proofs.RowLemmas.{same_label}
use Rattle.kl_outcome.specs.Outcome.{Name}
use Rattle.kl_syntax.specs.declared.tree.Tail.TheVariants as tail
use Rattle.kl_syntax.specs.declared.tree.Meaning.TheVariants.{Primitive}
use Rattle.kl_syntax.specs.declared.tree.Word.{Word}
use Rattle.kl_syntax.specs.Syntax.{Pat, catch, any, same, is, shape, variant, Pats, no_pats, pats, Exp, Decls, no_decls, constant}
use Rattle.kl_syntax.specs.Syntax.{function}
use Rattle.kl_scope.specs.Senses as scope
use Rattle.kl_scope.specs.Senses.{place_in, named, called, at_first, defined, entry_named, primitive_of, by_name, has_a_form, is_taken}
use Rattle.kl_scope.specs.declared.names.Sense.{Sense}
use Rattle.kl_scope.specs.declared.refusal.ScopeError.TheVariants.{Twice}
use Rattle.kl_scope.specs.Patterns.{variables, variables_all, tests, tests_all, pattern_labels, within}
use Rattle.kl_scope.specs.Findings.{breach, only_if, repeated, pattern_findings, patterns_findings, drawn_findings, may_fail}
use Rattle.kl_scope.specs.Findings.{sure_findings, findings, taken, decls_findings, behind_decls}
use Rattle.kl_scope.specs.Findings as scope_findings
use Rattle.kl_meaning.specs.Match.{same_name}
use Rattle.kl_ho.specs.Functions.{takes_one, first_functions, with_function}
use Rattle.kl_ho.specs.HoPrograms.{FunctionFields, is_among, caught, handed_in, rest_in, higher_from}
use Rattle.kl_ho.specs.Shapes.{Shape, plain, with, World, AreParams, added, names_after, names_after_all, IsShapedPat}
use Rattle.kl_ho.specs.Shapes.{AreShapedPats, IsShaped, IsShapedFunction, IsShapedDecls}
use Rattle.kl_ho.specs.Keeps.{Clean, Takes, KeepsSure, Keeps, with_arity, IsFree, KeepsFunction, KeepsDecls}
use Rattle.kl_ho.specs.Keeps.{KnowsFirst}
use Rattle.kl_ho.specs.Plain.{plainly, body_plainly, decls_plainly, last_plainly, AreCaught, CatchesFunctions, CatchFunctions}
use Rattle.kl_ho.specs.Plain.{HasNoBreach, arity_of, first_arity, plain_if, first_world}
use Rattle.kl_ho.proofs.Accepting.{split_clean, both_clean, clean_none, repeat_step, Includes, or_more, nil_left, nil_right}
use Rattle.kl_ho.proofs.Accepting.{pushed, pushed_both}
use Rattle.kl_ho.proofs.ProgramAccepting.{flipped}
use Rattle.kl_ho.proofs.Scoping.{no_tests, place_none, place_some, among_field, Inside, inside_one, inside_after, bound_at, Here}
use Rattle.kl_ho.proofs.Scoping.{here_after, all_names_keep, sure_keeps, keeps}

-- ---- what names take

arity_zero : (o p : Option Sense) → Takes o 0 → arity_of (option_or o p) ≡ Some 0
arity_zero (Some s) p t = ap Some t
arity_zero None p t = absurd t

arity_taken : (o : Option Sense) (k : ℕ) → Takes o k → arity_of o ≡ Some k
arity_taken (Some s) k t = ap Some t
arity_taken None k t = absurd t

arity_free : (o : Option Sense) (e : Option Entry) → is_some o ≡ false → is_some e ≡ false → arity_of (option_or o (option_and_then by_name e)) ≡ None
arity_free None None h k = refl
arity_free (Some s) e h k = absurd (true≢false h)
arity_free None (Some e) h k = absurd (true≢false k)

turned : (x d : Name) → same_name x d ≡ true → bytes_eq d x ≡ true
turned x d e = ap (λ z. bytes_eq d z) (same_text x d (sym e)) ∙ same_label d

-- ---- the fields that are left

rest_labels : (ls : List Name) (ps : Pats) (b b' : List Name) → Includes b b' → Clean (repeated b (pattern_labels ps)) → Clean (repeated b' (pattern_labels (rest_in ls ps)))
rest_labels ls no_pats b b' i h = tt
rest_labels ls (pats l p ps) b b' i h =
    cond_both (is_among l.text ls) (rest_in ls ps) (pats l p (rest_in ls ps)) (λ qs. Clean (repeated b' (pattern_labels qs)))
    (λ t. rest_labels ls ps (l.text ∷ b) b' (λ x e. or_right (bytes_eq l.text x) (scope_findings.is_among x b) (i x e))
    (split_clean (only_if (scope_findings.is_among l.text b) (breach (Twice l.text l.token))) (repeated (l.text ∷ b) (pattern_labels ps)) h).1)
    (λ t. repeat_step b b' l l (pattern_labels ps) (pattern_labels (rest_in ls ps)) (λ e. i l.text e) h
    (λ k. rest_labels ls ps (l.text ∷ b) (l.text ∷ b') (λ x e. or_more (bytes_eq l.text x) (scope_findings.is_among x b') (bytes_eq l.text x) (scope_findings.is_among x b) (λ z. z) (i x) e) k))

-- words that stay before others, and words that go
words_stay : (ws rest others : List Word) (b b' : List Name) → Includes b b' → Clean (repeated b (ws ++ rest)) → ((c c' : List Name) → Includes c c' → Clean (repeated c rest) → Clean (repeated c' others))
    → Clean (repeated b' (ws ++ others))
words_stay [] rest others b b' i h go = go b b' i h
words_stay (w ∷ ws) rest others b b' i h go =
    repeat_step b b' w w (ws ++ rest) (ws ++ others) (λ e. i w.text e) h
    (λ k. words_stay ws rest others (w.text ∷ b) (w.text ∷ b') (λ x e. or_more (bytes_eq w.text x) (scope_findings.is_among x b') (bytes_eq w.text x) (scope_findings.is_among x b) (λ z. z) (i x) e) k go)

words_go : (ws rest : List Word) (b b' : List Name) (P : Type 0) → Includes b b' → Clean (repeated b (ws ++ rest)) → ((c : List Name) → Includes c b' → Clean (repeated c rest) → P) → P
words_go [] rest b b' P i h go = go b i h
words_go (w ∷ ws) rest b b' P i h go =
    words_go ws rest (w.text ∷ b) b' P (λ x e. or_right (bytes_eq w.text x) (scope_findings.is_among x b) (i x e))
    (split_clean (only_if (scope_findings.is_among w.text b) (breach (Twice w.text w.token))) (repeated (w.text ∷ b) (ws ++ rest)) h).1 go

rest_words : (ls : List Name) (ps : Pats) (b b' : List Name) → Includes b b' → Clean (repeated b (variables_all ps)) → Clean (repeated b' (variables_all (rest_in ls ps)))
rest_words ls no_pats b b' i h = tt
rest_words ls (pats l p ps) b b' i h =
    cond_both (is_among l.text ls) (rest_in ls ps) (pats l p (rest_in ls ps)) (λ qs. Clean (repeated b' (variables_all qs)))
    (λ t. words_go (variables p) (variables_all ps) b b' (Clean (repeated b' (variables_all (rest_in ls ps)))) i h (λ c j k. rest_words ls ps c b' j k))
    (λ t. words_stay (variables p) (variables_all ps) (variables_all (rest_in ls ps)) b b' i h (λ c d j k. rest_words ls ps c d j k))

rest_tests : (ls : List Name) (ps : Pats) → tests_all ps ≡ [] → tests_all (rest_in ls ps) ≡ []
rest_tests ls no_pats h = refl
rest_tests ls (pats l p ps) h =
    let others = rest_tests ls ps (nil_right (tests p) (tests_all ps) h) in
    cond_both (is_among l.text ls) (rest_in ls ps) (pats l p (rest_in ls ps)) (λ qs. tests_all qs ≡ []) (λ t. others) (λ t. rw (nil_left (tests p) (tests_all ps) h) others)

rest_findings : (ls : List Name) (ps : Pats) (s : scope.Scope) → Clean (patterns_findings ps s) → Clean (patterns_findings (rest_in ls ps) s)
rest_findings ls no_pats s h = tt
rest_findings ls (pats l p ps) s h =
    let r = split_clean (pattern_findings p s) (patterns_findings ps s) h in
    let others = rest_findings ls ps s r.1 in
    cond_both (is_among l.text ls) (rest_in ls ps) (pats l p (rest_in ls ps)) (λ qs. Clean (patterns_findings qs s)) (λ t. others) (λ t. both_clean (pattern_findings p s) (patterns_findings (rest_in ls ps) s) r.0 others)

-- ---- where variables are bound

abbrev seconds : List (Name × Name) → List Name
seconds ks = map (λ k. k.1) ks

put_among : (x : Name) (k : Name × Name) (ks : List (Name × Name)) → is_among x (seconds (put_in by_label k ks)) ≡ (same_name x k.1 || is_among x (seconds ks))
put_among x k [] = refl
put_among x k (j ∷ ks) =
    cond_both (is_gt (by_label k j)) (j ∷ put_in by_label k ks) (k ∷ j ∷ ks) (λ z. is_among x (seconds z) ≡ (same_name x k.1 || (same_name x j.1 || is_among x (seconds ks))))
    (λ t. ap (λ b. same_name x j.1 || b) (put_among x k ks) ∙ sym (or_assoc (same_name x j.1) (same_name x k.1) (is_among x (seconds ks)))
    ∙ ap (λ b. b || is_among x (seconds ks)) (or_comm (same_name x j.1) (same_name x k.1)) ∙ or_assoc (same_name x k.1) (same_name x j.1) (is_among x (seconds ks))) (λ t. refl)

order_among : (x : Name) (ks : List (Name × Name)) → is_among x (seconds (in_order ks)) ≡ is_among x (seconds ks)
order_among x [] = refl
order_among x (k ∷ ks) = put_among x k (in_order ks) ∙ ap (λ b. same_name x k.1 || b) (order_among x ks)

params_named : (t : Shape) (ks : List (Name × Name)) (ps : List (Name × Shape)) → AreParams t ks ps → seconds ks ≡ map (λ p. p.0) ps
params_named plain ks ps a = rw (a.0, a.1) refl
params_named (with l s rest) (k ∷ ks) (p ∷ ps) a = rw a.1 (ap (λ xs. k.1 ∷ xs) (params_named rest ks ps a.2))
params_named (with l s rest) [] ps a = absurd a
params_named (with l s rest) (k ∷ ks) [] a = absurd a

place_more : (ws : List Word) (ys : List Name) (x : Name) → IsSome (place_in ys x) → IsSome (place_in (pushed ws ys) x)
place_more [] ys x h = h
place_more (w ∷ ws) ys x h = place_more ws (w.text ∷ ys) x (place_some (bytes_eq w.text x) (place_in ys x) h)

module _ (params : List (Name × Shape)) (ls : List Name) where
  -- each variable is left, or a function parameter
  all_inside : (ps : Pats) (V ys : List Name) → AreCaught ls ps → ((x : Name) → field x params ≡ None → is_among x (seconds (handed_in ls ps)) ≡ false) → Inside V params ys
      → Inside (names_after_all (rest_in ls ps) V) params (pushed (variables_all ps) ys)
  all_inside no_pats V ys a o h = h
  all_inside (pats l (catch w) ps) V ys a o h = by_name (is_among l.text ls) o (λ p. all_inside ps V (w.text ∷ ys) a p) (λ p. all_inside ps (w.text ∷ V) (w.text ∷ ys) a p)
    where
      by_name : (t : Bool) → ((x : Name) → field x params ≡ None → is_among x (seconds (cond t ((l.text, w.text) ∷ handed_in ls ps) (handed_in ls ps))) ≡ false)
          → (((x : Name) → field x params ≡ None → is_among x (seconds (handed_in ls ps)) ≡ false) → Inside V params (w.text ∷ ys) → Inside (names_after_all (rest_in ls ps) V) params (pushed (variables_all ps) (w.text ∷ ys)))
          → (((x : Name) → field x params ≡ None → is_among x (seconds (handed_in ls ps)) ≡ false) → Inside (w.text ∷ V) params (w.text ∷ ys)
          → Inside (names_after_all (rest_in ls ps) (w.text ∷ V)) params (pushed (variables_all ps) (w.text ∷ ys)))
          → Inside (names_after_all (cond t (rest_in ls ps) (pats l (catch w) (rest_in ls ps))) V) params (pushed (variables_all ps) (w.text ∷ ys))
      by_name true o go k =
          go (λ x p. (or_parts (same_name x w.text) (is_among x (seconds (handed_in ls ps))) (o x p)).1)
          (λ x n p. place_none (bytes_eq w.text x) (place_in ys x) (flipped x w.text (or_parts (same_name x w.text) (is_among x (seconds (handed_in ls ps))) (o x p)).0) (h x n p))
      by_name false o go k = k o (inside_one params w.text V ys h)
  all_inside (pats l any ps) V ys a o h = rw a.0 (all_inside ps V ys a.1 (rw a.0 at o) h)
  all_inside (pats l (same w) ps) V ys a o h = rw a.0 (all_inside ps V ys a.1 (rw a.0 at o) h)
  all_inside (pats l (is v n) ps) V ys a o h = rw a.0 (all_inside ps V ys a.1 (rw a.0 at o) h)
  all_inside (pats l (shape qs end) ps) V ys a o h =
      rw (a.0, pushed_both (variables (shape qs end)) (variables_all ps) ys)
      (all_inside ps (names_after (shape qs end) V) (pushed (variables (shape qs end)) ys) a.1 (rw a.0 at o) (inside_after params (shape qs end) V ys h))
  all_inside (pats l (variant k q) ps) V ys a o h =
      rw (a.0, pushed_both (variables q) (variables_all ps) ys) (all_inside ps (names_after q V) (pushed (variables q) ys) a.1 (rw a.0 at o) (inside_after params q V ys h))

caught_there : (ls : List Name) (ps : Pats) (ys : List Name) (x : Name) → AreCaught ls ps → is_among x (seconds (handed_in ls ps)) ≡ true → IsSome (place_in (pushed (variables_all ps) ys) x)
caught_there ls no_pats ys x a e = absurd (true≢false (sym e))
caught_there ls (pats l (catch w) ps) ys x a e = by_name (is_among l.text ls) e (λ i. caught_there ls ps (w.text ∷ ys) x a i)
  where
    here : (b : Bool) → same_name x w.text ≡ b → (b || is_among x (seconds (handed_in ls ps))) ≡ true
        → (is_among x (seconds (handed_in ls ps)) ≡ true → IsSome (place_in (pushed (variables_all ps) (w.text ∷ ys)) x)) → IsSome (place_in (pushed (variables_all ps) (w.text ∷ ys)) x)
    here true q i go = place_more (variables_all ps) (w.text ∷ ys) x (rw (turned x w.text q) refl)
    here false q i go = go i

    by_name : (t : Bool) → is_among x (seconds (cond t ((l.text, w.text) ∷ handed_in ls ps) (handed_in ls ps))) ≡ true
        → (is_among x (seconds (handed_in ls ps)) ≡ true → IsSome (place_in (pushed (variables_all ps) (w.text ∷ ys)) x)) → IsSome (place_in (pushed (variables_all ps) (w.text ∷ ys)) x)
    by_name true i go = here (same_name x w.text) refl i go
    by_name false i go = go i
caught_there ls (pats l any ps) ys x a e = caught_there ls ps ys x a.1 (rw a.0 at e)
caught_there ls (pats l (same w) ps) ys x a e = caught_there ls ps ys x a.1 (rw a.0 at e)
caught_there ls (pats l (is v n) ps) ys x a e = caught_there ls ps ys x a.1 (rw a.0 at e)
caught_there ls (pats l (shape qs end) ps) ys x a e =
    rw (pushed_both (variables (shape qs end)) (variables_all ps) ys) (caught_there ls ps (pushed (variables (shape qs end)) ys) x a.1 (rw a.0 at e))
caught_there ls (pats l (variant k q) ps) ys x a e = rw (pushed_both (variables q) (variables_all ps) ys) (caught_there ls ps (pushed (variables q) ys) x a.1 (rw a.0 at e))

-- ---- declarations

module _ (fields : FunctionFields) (sources : List Name) where
  abbrev at : List (Name × Bool) → scope.Scope
  at D = record { variables = []; definitions = D; sources = sources }

  -- what stands before a declaration
  record Stands (D : List (Name × Bool)) (is_function : Name → Bool) (world : World) (arity : Name → Option ℕ) : Type 0 where
    functions : (x : Name) → is_function x ≡ true → IsSome (world.functions x)
    arities : (x : Name) → arity x ≡ arity_of (called (at D) x)

  abbrev arity_if : Bool → ℕ
  arity_if f = if f then 1 else 0

  stands_more : (D : List (Name × Bool)) (is_function : Name → Bool) (world : World) (arity : Name → Option ℕ) (d : Name) (f : Bool) (o : Option Shape) → Stands D is_function world arity → (f ≡ true → IsSome o)
      → Stands ((d, f) ∷ D) (with_function d f is_function) (added world d o) (with_arity d (arity_if f) arity)
  stands_more D is_function world arity d f o s own = record { functions = λ x e. by_function x (same_name x d) e; arities = λ x. by_arity x (same_name x d) refl }
    where
      by_function : (x : Name) (b : Bool) → cond b f (is_function x) ≡ true → IsSome (cond b o (world.functions x))
      by_function x true e = own e
      by_function x false e = s.functions x e

      by_arity : (x : Name) (b : Bool) → same_name x d ≡ b → cond b (Some (arity_if f)) (arity x) ≡ arity_of (called (at ((d, f) ∷ D)) x)
      by_arity x true q = rw (turned x d q) refl
      by_arity x false q = rw (flipped x d q) (s.arities x)

  module _ (D : List (Name × Bool)) (is_function : Name → Bool) (world : World) (arity : Name → Option ℕ) (s : Stands D is_function world arity) where
    values : (x : Name) → Takes (named (at D) x) 0 → arity x ≡ Some 0
    values x t = s.arities x ∙ arity_zero (named (at D) x) (primitive_of x) t

    calls : (x : Name) (k : ℕ) → Takes (called (at D) x) k → arity x ≡ Some k
    calls x k t = s.arities x ∙ arity_taken (called (at D) x) k t

    free : (w : Word) → Clean (taken (at D) w) → IsFree arity w.text
    free w c =
        let n = or_parts (is_some (named (at D) w.text)) (is_some (entry_named w.text)) (clean_none (is_taken (at D) w.text) (Twice w.text w.token) c) in
        (s.arities w.text ∙ arity_free (named (at D) w.text) (entry_named w.text) n.0 n.1, n.1)

    nowhere : Here fields is_function world [] (at D) arity values calls s.functions [] []
    nowhere = record { inside = λ x n p. refl; there = λ x t p. let z : ⊥ = cc in absurd z }

    expression_keeps : (e : Exp) → IsShaped world [] e [] → Clean (findings (plainly fields is_function [] e None []) (at D)) → Keeps world arity [] e []
    expression_keeps e h c = keeps fields is_function world [] (at D) arity values calls s.functions e None [] [] nowhere h c

    parameter_keeps : (p : Pat) → IsShapedPat world [] p [] → Clean (sure_findings p (at D)) → KeepsSure world arity [] p []
    parameter_keeps p h c = sure_keeps fields is_function world [] (at D) arity values calls s.functions p [] [] nowhere h c

    plain_keeps : (p : Pat) (a : Exp) (o : Shape) → IsShapedFunction world None p a o → Clean (sure_findings p (at D)) → Clean (findings (body_plainly fields is_function None p a) (within p (at D)))
        → KeepsFunction world arity None p a o
    plain_keeps p a o (q, h, b) c i = (
      q,
      parameter_keeps p h c,
      keeps fields is_function world [] (at D) arity values calls s.functions a None (names_after p []) (pushed (variables p) [])
          (here_after fields is_function world [] (at D) arity values calls s.functions p [] [] nowhere) b
          (rw (bound_at fields is_function world [] (at D) arity values calls s.functions (variables p) []) at i),
    )

    rest_keeps : (ls : List Name) (ps : Pats) → AreShapedPats world [] (rest_in ls ps) [] → Clean (sure_findings (shape ps tail.Exact) (at D)) → KeepsSure world arity [] (shape (rest_in ls ps) tail.Exact) []
    rest_keeps ls ps h c =
        let r = split_clean (map may_fail (tests_all ps)) (drawn_findings (shape ps tail.Exact) (at D)) c in
        let q = split_clean (pattern_findings (shape ps tail.Exact) (at D)) (repeated [] (variables (shape ps tail.Exact))) r.1 in
        let l = split_clean (repeated [] (pattern_labels ps)) (patterns_findings ps (at D)) q.0 in (
          rest_tests ls ps (no_tests (tests_all ps) r.0),
          (
            (rest_labels ls ps [] [] (λ x e. e) l.0, all_names_keep fields is_function world [] (at D) arity values calls s.functions (rest_in ls ps) [] [] nowhere h (rest_findings ls ps (at D) l.1)),
            subst (λ ws. Clean (repeated [] ws)) (sym (append-nil (variables_all (rest_in ls ps))))
                (rest_words ls ps [] [] (λ x e. e) (subst (λ ws. Clean (repeated [] ws)) (append-nil (variables_all ps)) q.1)),
          ),
        )

    higher_keeps : (l : Name) (ls : List Name) (ps : Pats) (a : Exp) (o : Shape) → AreCaught (l ∷ ls) ps → IsShapedFunction world (higher_from (l ∷ ls) (shape ps tail.Exact) a) (shape ps tail.Exact) a o
        → Clean (sure_findings (shape ps tail.Exact) (at D))
        → Clean (findings (body_plainly fields is_function (higher_from (l ∷ ls) (shape ps tail.Exact) a) (shape ps tail.Exact) a) (within (shape ps tail.Exact) (at D)))
        → KeepsFunction world arity (higher_from (l ∷ ls) (shape ps tail.Exact) a) (shape ps tail.Exact) a o
    higher_keeps l ls ps a o caught (m, t, rest, params, q, are, h, b) c i =
        let handed = in_order (handed_in (l ∷ ls) ps) in
        let as_with : AreParams (with m t rest) handed params = subst (λ z. AreParams z handed params) q are in
        let names_same : seconds handed ≡ map (λ p. p.0) params = params_named (with m t rest) handed params as_with in
        let among : (x : Name) → is_among x (seconds (handed_in (l ∷ ls) ps)) ≡ is_some (field x params) =
        λ x. sym (order_among x (handed_in (l ∷ ls) ps)) ∙ ap (λ z. is_among x z) names_same ∙ among_field x params in
        let V = names_after_all (rest_in (l ∷ ls) ps) [] in
        let here : Here fields is_function world params (at D) arity values calls s.functions V (pushed (variables_all ps) []) =
        record {
          inside = all_inside params (l ∷ ls) ps [] [] caught (λ x p. among x ∙ ap is_some p) (λ x n p. refl);
          there = λ x u p. caught_there (l ∷ ls) ps [] x caught (among x ∙ ap is_some p);
        } in
        let body = subst (λ z. Clean (findings (plainly fields is_function z a None V) (within (shape ps tail.Exact) (at D)))) names_same i in
        let placed = subst (λ ws. Clean (findings (plainly fields is_function (map (λ p. p.0) params) a None V) (scope.all_bound (at D) ws))) (append-nil (variables_all ps)) body in (
          m,
          t,
          rest,
          params,
          q,
          as_with,
          rest_keeps (l ∷ ls) ps h c,
          keeps fields is_function world params (at D) arity values calls s.functions a None V (pushed (variables_all ps) []) here b
              (rw (bound_at fields is_function world params (at D) arity values calls s.functions (variables_all ps) []) at placed),
        )

    function_keeps : (ls : List Name) (p : Pat) (a : Exp) (o : Shape) → CatchesFunctions ls p → IsShapedFunction world (higher_from ls p a) p a o → Clean (sure_findings p (at D))
        → Clean (findings (body_plainly fields is_function (higher_from ls p a) p a) (within p (at D))) → KeepsFunction world arity (higher_from ls p a) p a o
    function_keeps [] p a o k h c i = plain_keeps p a o h c i
    function_keeps (l ∷ ls) (shape ps tail.Exact) a o k h c i = higher_keeps l ls ps a o k h c i
    function_keeps (l ∷ ls) (shape ps tail.Open) a o k h c i = plain_keeps (shape ps tail.Open) a o h c i
    function_keeps (l ∷ ls) (shape ps (tail.Rest x)) a o k h c i = plain_keeps (shape ps (tail.Rest x)) a o h c i
    function_keeps (l ∷ ls) (catch x) a o k h c i = plain_keeps (catch x) a o h c i
    function_keeps (l ∷ ls) any a o k h c i = plain_keeps any a o h c i
    function_keeps (l ∷ ls) (same x) a o k h c i = plain_keeps (same x) a o h c i
    function_keeps (l ∷ ls) (is v n) a o k h c i = plain_keeps (is v n) a o h c i
    function_keeps (l ∷ ls) (variant m p) a o k h c i = plain_keeps (variant m p) a o h c i

  decls_keep : (ds : Decls) (e : Exp) (D : List (Name × Bool)) (is_function : Name → Bool) (world : World) (arity : Name → Option ℕ) → Stands D is_function world arity → CatchFunctions fields ds
      → IsShapedDecls fields ds e world → Clean (decls_findings (decls_plainly fields ds is_function) (at D))
      → Clean (findings (last_plainly fields ds e is_function) (behind_decls (decls_plainly fields ds is_function) (at D))) → KeepsDecls fields ds e world arity
  decls_keep no_decls e D is_function world arity s k h c i = expression_keeps D is_function world arity s e h i
  decls_keep (constant d a ds) e D is_function world arity s k h c i =
      let others = decls_plainly fields ds (with_function d.text false is_function) in
      let r = split_clean (taken (at D) d) (findings (plainly fields is_function [] a None []) (at D) ++ decls_findings others (defined (at D) d.text false)) c in
      let q = split_clean (findings (plainly fields is_function [] a None []) (at D)) (decls_findings others (defined (at D) d.text false)) r.1 in (
        free D is_function world arity s d r.0,
        expression_keeps D is_function world arity s a h.1 q.0,
        decls_keep ds e ((d.text, false) ∷ D) (with_function d.text false is_function) (added world d.text None) (with_arity d.text 0 arity)
            (stands_more D is_function world arity d.text false None s (λ z. absurd (true≢false (sym z)))) k h.2 q.1 i,
      )
  decls_keep (function d p a ds) e D is_function world arity s k h c i =
      let others = decls_plainly fields ds (with_function d.text true is_function) in
      let body = body_plainly fields is_function (higher_from (fields d.text) p a) p a in
      let r = split_clean (taken (at D) d) (sure_findings p (at D) ++ (findings body (within p (at D)) ++ decls_findings others (defined (at D) d.text true))) c in
      let q = split_clean (sure_findings p (at D)) (findings body (within p (at D)) ++ decls_findings others (defined (at D) d.text true)) r.1 in
      let u = split_clean (findings body (within p (at D))) (decls_findings others (defined (at D) d.text true)) q.1 in (
        free D is_function world arity s d r.0,
        h.1,
        function_keeps D is_function world arity s (fields d.text) p a h.1 k.0 h.2 q.0 u.0,
        decls_keep ds e ((d.text, true) ∷ D) (with_function d.text true is_function) (added world d.text (Some h.1)) (with_arity d.text 1 arity)
            (stands_more D is_function world arity d.text true (Some h.1) s (λ z. refl)) k.1 h.3 u.1 i,
      )

  first_stands : Stands [] (first_functions sources) (first_world sources) (first_arity sources)
  first_stands = record { functions = λ x e. rw e refl; arities = λ x. refl }

pub program_keeps : (fields : FunctionFields) (ds : Decls) (e : Exp) (sources : List Name) → CatchFunctions fields ds → IsShapedDecls fields ds e (first_world sources) → HasNoBreach fields ds e sources
    → KeepsDecls fields ds e (first_world sources) (first_arity sources)
program_keeps fields ds e sources k h c = decls_keep fields sources ds e [] (first_functions sources) (first_world sources) (first_arity sources) (first_stands fields sources) k h c.0 c.1

-- ---- what stands before a program

takes_from : (o : Option Sense) (k : ℕ) → arity_of o ≡ Some k → Takes o k
takes_from (Some s) k e = same_Some s.takes k e
takes_from None k e = let z : ⊥ = cc in absurd z

unknown_from : (o p : Option Sense) → arity_of (option_or o p) ≡ None → o ≡ None
unknown_from (Some s) p e = let z : ⊥ = cc in absurd z
unknown_from None p e = refl

abbrev takes_some : Entry → Bool
takes_some e = not (nat_eq e.arity 0)

-- each primitive takes an argument
some_argument : list_all takes_some (map (λ r. r.entry) rows) ≡ true
unfolding rows
some_argument = refl

found_takes : (p : Entry → Bool) (es : List Entry) → list_all takes_some es ≡ true → (o : Option Entry) → find p es ≡ o → IfSome o (λ e. takes_some e ≡ true)
found_takes p es h (Some e) q = by_place es h q
  where
    by_test : (b : Bool) (f : Entry) (o : Option Entry) → takes_some f ≡ true → (o ≡ Some e → takes_some e ≡ true) → cond b (Some f) o ≡ Some e → takes_some e ≡ true
    by_test true f o t go q = subst (λ z. takes_some z ≡ true) (same_Some f e q) t
    by_test false f o t go q = go q

    by_place : (es : List Entry) → list_all takes_some es ≡ true → find p es ≡ Some e → takes_some e ≡ true
    by_place [] h q = let z : ⊥ = cc in absurd z
    by_place (f ∷ es) h q = let r = and_parts (takes_some f) (list_all takes_some es) h in by_test (p f) f (find p es) r.0 (λ i. by_place es r.1 i) q
found_takes p es h None q = tt

no_value : (o : Option Entry) → IfSome o (λ e. takes_some e ≡ true) → arity_of (option_and_then by_name o) ≡ Some 0 → ⊥
no_value None h e = let z : ⊥ = cc in z
no_value (Some f) h e = by_form (has_a_form f.code) e
  where
    by_form : (b : Bool) → arity_of (if b then None else Some (scope.sense (Primitive f.code) f.arity)) ≡ Some 0 → ⊥
    by_form true e = let z : ⊥ = cc in z
    by_form false e = let a : f.arity ≡ 0 = same_Some f.arity 0 e in true≢false (sym h ∙ ap (λ n. not (nat_eq n 0)) a)

value_first : (o p : Option Sense) → (arity_of p ≡ Some 0 → ⊥) → arity_of (option_or o p) ≡ Some 0 → Takes o 0
value_first (Some s) p n e = same_Some s.takes 0 e
value_first None p n e = absurd (n e)

plain_one : (o : Option Sense) (t : Shape) → plain_if (takes_one o) ≡ Some t → (t ≡ plain) × (arity_of o ≡ Some 1)
plain_one None t e = let z : ⊥ = cc in absurd z
plain_one (Some s) t e = by_count (s.takes == 1) refl e
  where
    by_count : (b : Bool) → (s.takes == 1) ≡ b → plain_if b ≡ Some t → (t ≡ plain) × (Some s.takes ≡ Some 1)
    by_count true q e = (sym (same_Some plain t e), ap Some (eqb-true s.takes 1 q))
    by_count false q e = let z : ⊥ = cc in absurd z

pub knows_first : (sources : List Name) → KnowsFirst sources (first_world sources) (first_arity sources)
knows_first sources =
    record {
      values = λ x e. value_first (named (at_first sources) x) (primitive_of x) (no_value (entry_named x) (found_takes (λ f. bytes_eq f.name x) (map (λ r. r.entry) rows) some_argument (entry_named x) refl)) e;
      calls = λ x k e. takes_from (called (at_first sources) x) k e;
      plain_only = λ x t e. plain_one (called (at_first sources) x) t e;
      unknown = λ x e. unknown_from (named (at_first sources) x) (primitive_of x) e;
      taken = λ x. refl;
    }
