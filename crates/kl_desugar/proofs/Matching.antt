-- The term of a pattern matches as the pattern does.
use Rattle.std.proofs.Common.{◌≡◌, ℕ, Bool, true, false, ◌||◌, cond, List, [], ◌∷◌, ◌++◌, length, Option, Some, None, refl, ap}
use Rattle.std.specs.List.{list_all}
use Rattle.std.specs.Ordering.{is_eq}
use Rattle.kl_base.specs.Fields.{field}
use Rattle.kl_value.specs.Order.{compare}
use Rattle.kl_value.specs.declared.Kind.{Kind}
use Rattle.kl_value.specs.declared.Value.{Value}
use Rattle.kl_value.specs.declared.Value.TheVariants as value
use Rattle.kl_prim.specs.Records.{Fields, without}
use Rattle.kl_prim.specs.Table.{meaning, row_at, rows}
use Rattle.kl_value.specs.Views.{as_bool}
use Rattle.kl_outcome.proofs.Drawing.{kept_none}
use Rattle.kl_outcome.specs.Outcome.{Outcome, done, over, stuck, Flow, stop, fine, Name, after, answered, if_then, outcome_of, as_record, as_variant, opened, collected}
use Rattle.kl_syntax.specs.declared.tree.Tail.{Tail}
use Rattle.kl_syntax.specs.declared.tree.Tail.TheVariants as tail
use Rattle.kl_syntax.specs.Syntax.{Pat, catch, any, same, is, shape, variant, Pats, no_pats, pats}
use Rattle.kl_meaning.specs.Match.{Env, Fit, bound, misses, past, odd, fit_then, same_name, compared, has_label, is_open, bind_rest, fit_field, fit_record, fit_variant, fits, fits_fields, if_fits, must_fit}
use Rattle.kl_meaning.specs.Run.{Meant, nothing, value_of, function_of, primitive, KnownOutcomes, as_value, named, look_up}
use Rattle.kl_core.specs.Core.{Tables, core}
use Rattle.kl_core.specs.Trees.{Tree}
use Rattle.kl_desugar.specs.Translation.{Scope, level_of, Place, here, inside, place_tree, Code, value_by, function_by, primitive_by, Codes, code_tree, level_tree, name_tree, with_rest, matched, matched_fields, matched_here, empty}
use Rattle.kl_desugar.specs.Translation as translation
use Rattle.kl_desugar.proofs.Positions.{Held, scope, values, names, Grows, grows_none, grows_one, grows_both, nearest, level_is, At, name_at, Stands, stands_more, place_is}
use Rattle.kl_desugar.proofs.Resting.{HasLabels, rest_means}
use Rattle.kl_outcome.proofs.Refining.{Refines}

-- what comes of a fit, where `miss` comes of none
abbrev pub fit_to : Outcome → Fit → (Env → Outcome) → Outcome
fit_to miss (bound env) go = go env
fit_to miss misses go = miss
fit_to miss past go = over []
fit_to miss odd go = stuck

pub must_is : (f : Fit) (go : Env → Outcome) → must_fit f go ≡ fit_to stuck f go
must_is (bound env) go = refl
must_is misses go = refl
must_is past go = refl
must_is odd go = refl

pub if_is : (k : Kind) (f : Fit) (go : Env → Flow) → collected k (if_fits f go) ≡ fit_to (collected k (stop fine)) f (λ env. collected k (go env))
if_is k (bound env) go = refl
if_is k misses go = refl
if_is k past go = kept_none k
if_is k odd go = refl

fit_both : (miss : Outcome) (f : Fit) (go : Env → Fit) (K : Env → Outcome) → fit_to miss (fit_then f go) K ≡ fit_to miss f (λ env. fit_to miss (go env) K)
fit_both miss (bound env) go K = refl
fit_both miss misses go K = refl
fit_both miss past go K = refl
fit_both miss odd go K = refl

equal_is : (v w : Value) → answered (meaning 1 (v ∷ w ∷ [])) ≡ done (value.Bool (is_eq (compare v w)))
unfolding meaning row_at rows
equal_is v w = refl

bool_is : (b : Bool) → as_bool (value.Bool b) ≡ Some b
bool_is b = rw value.outs-Bool refl

-- a name that is no variable stands for what it means
abbrev pub Meets : Tables → Meant → Code → Type 0
Meets T nothing c = Unit {0}
Meets T (value_of o) (value_by t) = (env : List Value) → Refines o (core T t env)
Meets T (function_of f) (function_by t) = (v : Value) (env : List Value) → Refines (f v) (core T t (v ∷ env))
Meets T (primitive c) (primitive_by d) = c ≡ d
Meets T _ _ = ⊥

abbrev pub AllMeet : Tables → KnownOutcomes → Codes → Type 0
AllMeet T known codes = (x : Name) → Meets T (known x) (codes x)

code_up : (T : Tables) (m : Meant) (c : Code) (env : List Value) → Meets T m c → Refines (as_value m) (core T (code_tree c) env)
code_up T nothing c env h = tt
code_up T (value_of o) (value_by t) env h = h env
code_up T (value_of o) translation.nothing env h = absurd h
code_up T (value_of o) (function_by t) env h = absurd h
code_up T (value_of o) (primitive_by d) env h = absurd h
code_up T (function_of f) c env h = tt
code_up T (primitive d) c env h = tt

module _ (T : Tables) (known : KnownOutcomes) (codes : Codes) (rest : List Value) (meets : AllMeet T known codes) where
  level_up : (P Q : Held) (m : Option ℕ) (v : Option Value) (d : Meant) (c : Code) → Meets T d c → At P m v → Grows P Q → Refines (named v d) (core T (level_tree m c (length (scope Q))) (values Q ++ rest))
  level_up P Q (Some m) (Some v) d c h a g = ap outcome_of (level_is Q m v rest (g m v a))
  level_up P Q (Some m) None d c h a g = absurd a
  level_up P Q None (Some v) d c h a g = absurd a
  level_up P Q None None d c h a g = code_up T d c _ h

  pub name_up : (P Q : Held) (x : Name) → Grows P Q → Refines (look_up known (names P) x) (core T (name_tree codes (scope P) x (length (scope Q))) (values Q ++ rest))
  name_up P Q x g = level_up P Q (level_of x (scope P)) (field x (names P)) (known x) (codes x) (meets x) (name_at x P) g

  compared_up : (o q a e miss : Outcome) (v : Value) (env : Env) (K : Env → Outcome) → Refines o q → Refines (K env) a → Refines miss e
      → Refines (fit_to miss (compared o v env) K) (if_then (after q (λ w. answered (meaning 1 (v ∷ w ∷ [])))) a e)
  compared_up (done w) q a e miss v env K h k m = rw (h, equal_is v w, bool_is (is_eq (compare v w))) (chosen_by (is_eq (compare v w)))
    where
      chosen_by : (b : Bool) → Refines (fit_to miss (cond b (bound env) misses) K) (cond b a e)
      chosen_by true = k
      chosen_by false = m
  compared_up (over ws) q a e miss v env K h k m = rw h refl
  compared_up stuck q a e miss v env K h k m = tt

  shape_up : (r : Option (List (Name × Value))) (dots : Bool) (ps : Pats) (go : List (Name × Value) → Fit) (miss q : Outcome) (K : Env → Outcome)
      → ((fs : List (Name × Value)) → r ≡ Some fs → Refines (fit_to miss (go fs) K) q) → Refines (fit_to miss (fit_record r dots ps go) K) q
  shape_up (Some fs) dots ps go miss q K h = covered (dots || list_all (λ f. has_label ps f.0) fs)
    where
      covered : (b : Bool) → Refines (fit_to miss (cond b (go fs) odd) K) q
      covered true = h fs refl
      covered false = tt
  shape_up None dots ps go miss q K h = tt

  field_up : (r : Option Value) (go : Value → Fit) (miss q : Outcome) (K : Env → Outcome)
      → ((w : Value) → r ≡ Some w → Refines (fit_to miss (go w) K) q) → Refines (fit_to miss (fit_field r go) K) q
  field_up (Some w) go miss q K h = h w refl
  field_up None go miss q K h = tt

  variant_up : (r : Option (Name × Value)) (l : Name) (go : Value → Fit) (miss e : Outcome) (a : Value → Outcome) (K : Env → Outcome)
      → ((w : Value) → Refines (fit_to miss (go w) K) (a w)) → Refines miss e → Refines (fit_to miss (fit_variant r l go) K) (opened r (λ m w. cond (same_name m l) (a w) e))
  variant_up (Some c) l go miss e a K h k = chosen_by (same_name c.0 l)
    where
      chosen_by : (b : Bool) → Refines (fit_to miss (cond b (go c.1) misses) K) (cond b (a c.1) e)
      chosen_by true = h c.1
      chosen_by false = k
  variant_up None l go miss e a K h k = tt

  rest_up : (end : Tail) (ps : Pats) (t : Place) (P : Held) (v : Value) (fs : Fields) (miss : Outcome) (K : Env → Outcome) (A : Scope → Tree) → Stands t P v → as_record v ≡ Some fs → HasLabels ps fs
      → ((Q : Held) → Grows P Q → Refines (K (names Q)) (core T (A (scope Q)) (values Q ++ rest)))
      → Refines (fit_to miss (bind_rest end (without (has_label ps) fs) (names P)) K) (core T (with_rest end ps t A (scope P)) (values P ++ rest))
  rest_up (tail.Rest x) ps t P v fs miss K A s r h k =
      let others = value.Rec (without (has_label ps) fs) in
      rw (place_is T t P v rest s, rest_means v fs ps r h) (k ((Some x.text, others) ∷ P) (grows_one P (Some x.text, others)))
  rest_up tail.Exact ps t P v fs miss K A s r h k = k P (grows_none P)
  rest_up tail.Open ps t P v fs miss K A s r h k = k P (grows_none P)

  -- P0 is what stood before the pattern, P what stands by now
  module _ (P0 : Held) (miss : Outcome) (e : Tree) (missed : (env : List Value) → Refines miss (core T e env)) where
    mutual
      pub matched_up : (p : Pat) (t : Place) (P : Held) (v : Value) (K : Env → Outcome) (A : Scope → Tree) → Grows P0 P → Stands t P v
          → ((Q : Held) → Grows P Q → Refines (K (names Q)) (core T (A (scope Q)) (values Q ++ rest)))
          → Refines (fit_to miss (fits p (look_up known (names P0)) v (names P)) K) (core T (matched p t codes (scope P0) e A (scope P)) (values P ++ rest))
      matched_up (catch x) t P v K A g s k = rw (place_is T t P v rest s) (k ((Some x.text, v) ∷ P) (grows_one P (Some x.text, v)))
      matched_up any t P v K A g s k = k P (grows_none P)
      matched_up (same x) t P v K A g s k =
          rw (place_is T t P v rest s) (compared_up _ _ _ _ miss v (names P) K (name_up P0 P x.text g) (k P (grows_none P)) (missed _))
      matched_up (is w n) t P v K A g s k =
          rw (place_is T t P v rest s) (compared_up (done w) (done w) _ _ miss v (names P) K refl (k P (grows_none P)) (missed _))
      matched_up (shape ps end) t P v K A g s k =
          shape_up (as_record v) (is_open end) ps _ miss _ K
          (λ fs r. rw (fit_both miss (fits_fields ps (look_up known (names P0)) fs (names P)) (λ inner. bind_rest end (without (has_label ps) fs) inner) K)
          (fields_up ps t P v fs (λ inner. fit_to miss (bind_rest end (without (has_label ps) fs) inner) K) (λ Q. with_rest end ps t A Q) g s r
          (λ Q h there. rest_up end ps t Q v fs miss K A (stands_more t P Q v h s) r there (λ R j. k R (grows_both P Q R h j)))))
      matched_up (variant l p) t P v K A g s k =
          rw (place_is T t P v rest s)
          (variant_up (as_variant v) l.text _ miss _ _ K
          (λ w. matched_up p (here (length (scope P))) ((None, w) ∷ P) w K A (grows_both P0 P ((None, w) ∷ P) g (grows_one P (None, w))) (nearest P (None, w)) (λ Q h. k Q (grows_both P ((None, w) ∷ P) Q (grows_one P (None, w)) h)))
          (missed _))

      pub fields_up : (ps : Pats) (t : Place) (P : Held) (v : Value) (fs : List (Name × Value)) (K : Env → Outcome) (A : Scope → Tree) → Grows P0 P → Stands t P v → as_record v ≡ Some fs
          → ((Q : Held) → Grows P Q → HasLabels ps fs → Refines (K (names Q)) (core T (A (scope Q)) (values Q ++ rest)))
          → Refines (fit_to miss (fits_fields ps (look_up known (names P0)) fs (names P)) K) (core T (matched_fields ps t codes (scope P0) e A (scope P)) (values P ++ rest))
      fields_up no_pats t P v fs K A g s r k = k P (grows_none P) tt
      fields_up (pats l p ps) t P v fs K A g s r k =
          field_up (field l.text fs) _ miss _ K
          (λ w found. rw (fit_both miss (fits p (look_up known (names P0)) w (names P)) (λ inner. fits_fields ps (look_up known (names P0)) fs inner) K)
          (matched_up p (inside l.text t) P w (λ inner. fit_to miss (fits_fields ps (look_up known (names P0)) fs inner) K) (λ Q. matched_fields ps t codes (scope P0) e A Q) g
          (v, s, rw (r, found) refl)
          (λ Q h. fields_up ps t Q v fs K A (grows_both P0 P Q g h) (stands_more t P Q v h s) r (λ R j there. k R (grows_both P Q R h j) (rw found refl, there)))))

  -- a value that was just bound is matched
  pub here_up : (p : Pat) (P : Held) (v : Value) (miss : Outcome) (e : Tree) (K : Env → Outcome) (A : Scope → Tree) → ((env : List Value) → Refines miss (core T e env))
      → ((Q : Held) → Refines (K (names Q)) (core T (A (scope Q)) (values Q ++ rest)))
      → Refines (fit_to miss (fits p (look_up known (names P)) v (names P)) K) (core T (matched_here p codes (scope P) e A) (v ∷ values P ++ rest))
  here_up p P v miss e K A missed k =
      matched_up P miss e missed p (here (length (scope P))) ((None, v) ∷ P) v K A (grows_one P (None, v)) (nearest P (None, v)) (λ Q h. k Q)
