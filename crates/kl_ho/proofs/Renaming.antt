-- Patterns with new names, a form each and field by field.
use Rattle.std.proofs.Common.{◌≡◌, ℕ, ◌+◌, ◌<◌, ◌≤◌, true, false, List, [], ◌∷◌, ◌++◌, cond, refl, sym, ap, ◌∙◌, subst, length, get_or, drop}
use Rattle.std.specs.List.{insert}
use Rattle.std.proofs.lemmas.List.{drop_all}
use Rattle.kl_value.specs.declared.value.Value.{Value}
use Rattle.kl_outcome.specs.Outcome.{Name}
use Rattle.kl_scope.specs.Walks.{onto, pattern_front}
use Rattle.kl_syntax.specs.declared.tree.Pattern.{Pattern}
use Rattle.kl_syntax.specs.declared.tree.Pattern.TheVariants as code
use Rattle.kl_syntax.specs.declared.tree.Tail.{Tail}
use Rattle.kl_syntax.specs.declared.tree.Tail.TheVariants as tail
use Rattle.kl_syntax.specs.declared.tree.Word.{Word}
use Rattle.kl_syntax.specs.Syntax.{catch, Pats, no_pats, pats}
use Rattle.kl_syntax.specs.View.{pattern_view, patterns_view}
use Rattle.kl_syntax.proofs.Views.{pattern_Rec}
use Rattle.kl_infer.proofs.Views.{view_catch, view_any, view_same, view_is, view_variant}
use Rattle.kl_ho.specs.Expansion.{Scope, HidesNone, Becomes, PatBecomes, p_catch, p_any, p_same, p_is, p_shape, p_variant, PatsBecome, p_none, p_more, TailBecomes, t_exact, t_open, t_rest}
use Rattle.kl_ho.specs.HoPrograms.{is_among, rest_in}
use Rattle.kl_ho.specs.KeptPrograms.{begins}
use Rattle.kl_ho.specs.Growing.{scope_of}
use Rattle.kl_ho.specs.Shapes.{names_after, names_after_all, rest_after}
use Rattle.kl_ho.proofs.Growing.{begins_new, hides_none}
use Rattle.kl_ho.proofs.Loops.{onto_push, patterns_made}
use Rattle.kl_base.proofs.Places.{drop_at}

-- a list with another item in front
pub insert_first : {X : Type 0} (xs ys : List X) (x y : X) → ys ≡ insert xs 0 x → x ≡ y → ys ≡ y ∷ xs
insert_first xs ys x y e q = e ∙ ap (λ z. z ∷ xs) q

-- the fields that are left, behind a number of them
rest_more : (ls : List Name) (fs : List (Word × Pattern)) (i : ℕ) (e : Word × Pattern) → i < length fs → e ≡ get_or fs i e → is_among e.0.text ls ≡ false
    → rest_in ls (patterns_view (drop i fs)) ≡ pats e.0 (pattern_view e.1) (rest_in ls (patterns_view (drop (i + 1) fs)))
rest_more ls fs i e l g n = ap (λ z. rest_in ls (patterns_view z)) (drop_at fs i e l g) ∙ ap (λ b. cond b (rest_in ls (patterns_view (drop (i + 1) fs))) (pats e.0 (pattern_view e.1) (rest_in ls (patterns_view (drop (i + 1) fs))))) n

rest_less : (ls : List Name) (fs : List (Word × Pattern)) (i : ℕ) (e : Word × Pattern) → i < length fs → e ≡ get_or fs i e → is_among e.0.text ls ≡ true
    → rest_in ls (patterns_view (drop i fs)) ≡ rest_in ls (patterns_view (drop (i + 1) fs))
rest_less ls fs i e l g n = ap (λ z. rest_in ls (patterns_view z)) (drop_at fs i e l g) ∙ ap (λ b. cond b (rest_in ls (patterns_view (drop (i + 1) fs))) (pats e.0 (pattern_view e.1) (rest_in ls (patterns_view (drop (i + 1) fs))))) n

module _ (base : Name) where
  -- what a name becomes that a pattern binds
  new_front : (x y : Name) (V W : List Name) → y ≡ base ++ x → W ≡ x ∷ V → (x, y) ∷ scope_of base V ≡ scope_of base W
  new_front x y V W e w = ap (λ z. (x, z) ∷ scope_of base V) e ∙ sym (ap (scope_of base) w)

  is_begun : (x y : Name) → y ≡ base ++ x → begins base y ≡ true
  is_begun x y e = ap (begins base) e ∙ begins_new base x

  is_hiding : (x y : Name) (V : List Name) → y ≡ base ++ x → HidesNone x y (scope_of base V)
  is_hiding x y V e = subst (λ z. HidesNone x z (scope_of base V)) (sym e) (hides_none base x V)

  -- how a record pattern ends
  pub exact_tail : (end : Tail) (V : List Name) → end ≡ tail.Exact → TailBecomes (begins base) (scope_of base V) end tail.Exact (scope_of base V)
  exact_tail end V s = rw s t_exact

  pub open_tail : (end : Tail) (V : List Name) → end ≡ tail.Open → TailBecomes (begins base) (scope_of base V) end tail.Open (scope_of base V)
  open_tail end V s = rw s t_open

  pub rest_tail : (end : Tail) (x y : Word) (V W : List Name) → end ≡ tail.Rest x → y.text ≡ base ++ x.text → W ≡ x.text ∷ V → TailBecomes (begins base) (scope_of base V) end (tail.Rest y) (scope_of base W)
  rest_tail end x y V W s e w =
      rw s (subst (λ Z. TailBecomes (begins base) (scope_of base V) (tail.Rest x) (tail.Rest y) Z) (new_front x.text y.text V W e w) (t_rest (is_begun x.text y.text e) (is_hiding x.text y.text V e)))

module _ (base : Name) (O : Scope) where
  pub catch_pattern : (p : Pattern) (x y : Word) (V W : List Name) → p ≡ code.Bind x → y.text ≡ base ++ x.text → W ≡ x.text ∷ V
      → PatBecomes (begins base) O (scope_of base V) (pattern_view p) (pattern_view (code.Bind y)) (scope_of base W)
  catch_pattern p x y V W s e w =
      rw (view_catch p x s, view_catch (code.Bind y) y refl)
      (subst (λ Z. PatBecomes (begins base) O (scope_of base V) (catch x) (catch y) Z) (new_front base x.text y.text V W e w) (p_catch (is_begun base x.text y.text e) (is_hiding base x.text y.text V e)))

  pub any_pattern : (p : Pattern) (S : Scope) → p ≡ code.Any → PatBecomes (begins base) O S (pattern_view p) (pattern_view code.Any) S
  any_pattern p S s = rw (view_any p s, view_any code.Any refl) p_any

  pub same_pattern : (p : Pattern) (x y : Word) (S : Scope) → p ≡ code.Same x → Becomes (begins base) O x.text y.text → PatBecomes (begins base) O S (pattern_view p) (pattern_view (code.Same y)) S
  same_pattern p x y S s h = rw (view_same p x s, view_same (code.Same y) y refl) (p_same h)

  pub is_pattern : (p : Pattern) (v w : Value) (m n : ℕ) (S : Scope) → p ≡ code.Is v m → w ≡ v → PatBecomes (begins base) O S (pattern_view p) (pattern_view (code.Is w n)) S
  is_pattern p v w m n S s e = rw (view_is p v m s, e, view_is (code.Is v n) v n refl) p_is

  pub rec_pattern : (p : Pattern) (ps qs : List (Word × Pattern)) (end close : Tail) (S T U : Scope) → p ≡ code.Rec ps end → PatsBecome (begins base) O S (patterns_view ps) (patterns_view qs) T → TailBecomes (begins base) T end close U
      → PatBecomes (begins base) O S (pattern_view p) (pattern_view (code.Rec qs close)) U
  rec_pattern p ps qs end close S T U s h k = rw (ap pattern_view s ∙ pattern_Rec ps end, pattern_Rec qs close) (p_shape h k)

  pub inj_pattern : (p : Pattern) (l m : Word) (a b c : Pattern) (S T : Scope) → p ≡ code.Inj l a → m ≡ l → c ≡ b → PatBecomes (begins base) O S (pattern_view a) (pattern_view b) T
      → PatBecomes (begins base) O S (pattern_view p) (pattern_view (code.Inj m c)) T
  inj_pattern p l m a b c S T s e f h = rw (view_variant p l a a s refl, e, f, view_variant (code.Inj l b) l b b refl refl) (p_variant refl h)

  -- ---- the fields of a record pattern, of which the first are made

  module _ (fs : List (Word × Pattern)) (S : Scope) where
    pub pats_step : (i : ℕ) (e : Word × Pattern) (m : Word) (q : Pattern) (T U : Scope) (xs ys : List (Word × Pattern)) → i < length fs → e ≡ get_or fs i e → ys ≡ xs ++ (m, q) ∷ [] → m ≡ e.0
        → PatBecomes (begins base) O T (pattern_view e.1) (pattern_view q) U
        → ((qs : Pats) (W : Scope) → PatsBecome (begins base) O T (patterns_view (drop i fs)) qs W → PatsBecome (begins base) O S (patterns_view fs) (onto pattern_front xs qs) W)
        → (qs : Pats) (W : Scope) → PatsBecome (begins base) O U (patterns_view (drop (i + 1) fs)) qs W → PatsBecome (begins base) O S (patterns_view fs) (onto pattern_front ys qs) W
    pats_step i e m q T U xs ys l g p t h inv qs W k =
        subst (λ z. PatsBecome (begins base) O S (patterns_view fs) z W) (sym (onto_push pattern_front xs (m, q) qs) ∙ ap (λ z. onto pattern_front z qs) (sym p))
        (inv (pats m (pattern_view q) qs) W (subst (λ z. PatsBecome (begins base) O T (patterns_view z) (pats m (pattern_view q) qs) W) (sym (drop_at fs i e l g)) (p_more (ap (λ (w : Word). w.text) t) h k)))

    pub pats_done : (i : ℕ) (T : Scope) (xs ys : List (Word × Pattern)) → length fs ≤ i → ys ≡ xs
        → ((qs : Pats) (W : Scope) → PatsBecome (begins base) O T (patterns_view (drop i fs)) qs W → PatsBecome (begins base) O S (patterns_view fs) (onto pattern_front xs qs) W)
        → PatsBecome (begins base) O S (patterns_view fs) (patterns_view ys) T
    pats_done i T xs ys l q inv =
        subst (λ z. PatsBecome (begins base) O S (patterns_view fs) z T) (patterns_made xs ∙ ap patterns_view (sym q))
        (inv no_pats T (subst (λ z. PatsBecome (begins base) O T (patterns_view z) no_pats T) (sym (drop_all i fs l)) p_none))

  -- without the fields at these labels
  module _ (ls : List Name) (fs : List (Word × Pattern)) (S : Scope) where
    pub rest_step : (i : ℕ) (e : Word × Pattern) (m : Word) (q : Pattern) (T U : Scope) (xs ys : List (Word × Pattern)) → i < length fs → e ≡ get_or fs i e → is_among e.0.text ls ≡ false → ys ≡ xs ++ (m, q) ∷ [] → m ≡ e.0
        → PatBecomes (begins base) O T (pattern_view e.1) (pattern_view q) U
        → ((qs : Pats) (W : Scope) → PatsBecome (begins base) O T (rest_in ls (patterns_view (drop i fs))) qs W → PatsBecome (begins base) O S (rest_in ls (patterns_view fs)) (onto pattern_front xs qs) W)
        → (qs : Pats) (W : Scope) → PatsBecome (begins base) O U (rest_in ls (patterns_view (drop (i + 1) fs))) qs W → PatsBecome (begins base) O S (rest_in ls (patterns_view fs)) (onto pattern_front ys qs) W
    rest_step i e m q T U xs ys l g n p t h inv qs W k =
        subst (λ z. PatsBecome (begins base) O S (rest_in ls (patterns_view fs)) z W) (sym (onto_push pattern_front xs (m, q) qs) ∙ ap (λ z. onto pattern_front z qs) (sym p))
        (inv (pats m (pattern_view q) qs) W (subst (λ z. PatsBecome (begins base) O T z (pats m (pattern_view q) qs) W) (sym (rest_more ls fs i e l g n)) (p_more (ap (λ (w : Word). w.text) t) h k)))

    pub rest_next : (i : ℕ) (e : Word × Pattern) (T : Scope) (xs : List (Word × Pattern)) → i < length fs → e ≡ get_or fs i e → is_among e.0.text ls ≡ true
        → ((qs : Pats) (W : Scope) → PatsBecome (begins base) O T (rest_in ls (patterns_view (drop i fs))) qs W → PatsBecome (begins base) O S (rest_in ls (patterns_view fs)) (onto pattern_front xs qs) W)
        → (qs : Pats) (W : Scope) → PatsBecome (begins base) O T (rest_in ls (patterns_view (drop (i + 1) fs))) qs W → PatsBecome (begins base) O S (rest_in ls (patterns_view fs)) (onto pattern_front xs qs) W
    rest_next i e T xs l g n inv qs W k = inv qs W (subst (λ z. PatsBecome (begins base) O T z qs W) (sym (rest_less ls fs i e l g n)) k)

    pub rest_done : (i : ℕ) (T : Scope) (xs ys : List (Word × Pattern)) → length fs ≤ i → ys ≡ xs
        → ((qs : Pats) (W : Scope) → PatsBecome (begins base) O T (rest_in ls (patterns_view (drop i fs))) qs W → PatsBecome (begins base) O S (rest_in ls (patterns_view fs)) (onto pattern_front xs qs) W)
        → PatsBecome (begins base) O S (rest_in ls (patterns_view fs)) (patterns_view ys) T
    rest_done i T xs ys l q inv =
        subst (λ z. PatsBecome (begins base) O S (rest_in ls (patterns_view fs)) z T) (patterns_made xs ∙ ap patterns_view (sym q))
        (inv no_pats T (subst (λ z. PatsBecome (begins base) O T (rest_in ls (patterns_view z)) no_pats T) (sym (drop_all i fs l)) p_none))

-- ---- the variables behind them

pub names_rec : (p : Pattern) (ps : List (Word × Pattern)) (end : Tail) (V U W : List Name) → p ≡ code.Rec ps end → U ≡ names_after_all (patterns_view ps) V → W ≡ rest_after end U → W ≡ names_after (pattern_view p) V
names_rec p ps end V U W s u w = rw (ap pattern_view s ∙ pattern_Rec ps end) (w ∙ ap (rest_after end) u)

pub names_step : (fs : List (Word × Pattern)) (i : ℕ) (e : Word × Pattern) (V U W : List Name) → i < length fs → e ≡ get_or fs i e → U ≡ names_after (pattern_view e.1) V
    → names_after_all (patterns_view (drop i fs)) V ≡ W → names_after_all (patterns_view (drop (i + 1) fs)) U ≡ W
names_step fs i e V U W l g u inv = ap (names_after_all (patterns_view (drop (i + 1) fs))) u ∙ sym (ap (λ z. names_after_all (patterns_view z) V) (drop_at fs i e l g)) ∙ inv

pub rest_names_step : (ls : List Name) (fs : List (Word × Pattern)) (i : ℕ) (e : Word × Pattern) (V U W : List Name) → i < length fs → e ≡ get_or fs i e → is_among e.0.text ls ≡ false → U ≡ names_after (pattern_view e.1) V
    → names_after_all (rest_in ls (patterns_view (drop i fs))) V ≡ W → names_after_all (rest_in ls (patterns_view (drop (i + 1) fs))) U ≡ W
rest_names_step ls fs i e V U W l g n u inv = ap (names_after_all (rest_in ls (patterns_view (drop (i + 1) fs)))) u ∙ sym (ap (λ z. names_after_all z V) (rest_more ls fs i e l g n)) ∙ inv

pub rest_names_next : (ls : List Name) (fs : List (Word × Pattern)) (i : ℕ) (e : Word × Pattern) (V W : List Name) → i < length fs → e ≡ get_or fs i e → is_among e.0.text ls ≡ true
    → names_after_all (rest_in ls (patterns_view (drop i fs))) V ≡ W → names_after_all (rest_in ls (patterns_view (drop (i + 1) fs))) V ≡ W
rest_names_next ls fs i e V W l g n inv = sym (ap (λ z. names_after_all z V) (rest_less ls fs i e l g n)) ∙ inv
