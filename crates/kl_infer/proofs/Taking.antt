-- Patterns as the code takes them.
use Rattle.std.proofs.Common.{◌≡◌, ℕ, ◌+◌, ◌<◌, ◌≤◌, Bool, List, [], ◌∷◌, ◌++◌, length, map, drop, get_or, slice_index_or, Result, Ok, Err, refl, sym, ap, ◌∙◌, subst, arith}
use Rattle.std.proofs.lemmas.List.{drop_all}
use Rattle.kl_value.specs.declared.Value.{Value}
use Rattle.kl_type.specs.Ground.{Ground, IsGround}
use Rattle.kl_rows.specs.Lists.{Fields}
use Rattle.kl_rows.specs.Places.{IsFine}
use Rattle.kl_rows.specs.Solutions.{Assignment}
use Rattle.kl_forms.specs.Forms.{VariantOf, IsRecord, IsOfType, RestOf}
use Rattle.kl_outcome.specs.Outcome.{Name}
use Rattle.kl_syntax.specs.declared.tree.Pattern.{Pattern}
use Rattle.kl_syntax.specs.declared.tree.Pattern.TheVariants as code
use Rattle.kl_syntax.specs.declared.tree.Tail.{Tail}
use Rattle.kl_syntax.specs.declared.tree.Tail.TheVariants as tail
use Rattle.kl_syntax.specs.declared.tree.Word.{Word}
use Rattle.kl_syntax.specs.Syntax.{Pat, catch, shape}
use Rattle.kl_meaning.specs.Match.{is_open}
use Rattle.kl_syntax.specs.View.{pattern_view, patterns_view, pattern_pair}
use Rattle.kl_meaning.specs.Typing.{Context, NameTypes, Takes}
use Rattle.kl_infer.specs.Asking.{Asks, Refuses, Asked, Gets, Found, GetsMany, Binds, Bound, Binding, context, onto}
use Rattle.kl_infer.specs.Names.{Ready, sorts, TakesAll, labelled}
use Rattle.kl_infer.specs.declared.refusal.Refusal.{Refusal}
use Rattle.kl_infer.specs.declared.scope.Known.{Known}
use Rattle.kl_rows.specs.declared.cell.Cell.{Cell}
use Rattle.kl_infer.proofs.Leaving.{ready_on, ready_in}
use Rattle.kl_infer.proofs.Lists.{names_of, length_names, RestAt, rest_at}
use Rattle.kl_infer.proofs.Loops.{BindingLeads, at_number, takes_next, bound_all, binding_begins}
use Rattle.kl_infer.proofs.PatternForms.{any_pattern, same_pattern, is_pattern, catch_pattern, variant_refused, variant_pattern, BindsNoRest, record_refused, record_pattern, rest_refused, rest_untaken, rest_pattern, ready_out, bound_so_far}
use Rattle.kl_infer.proofs.Answering.{next_ready, one_ready}
use Rattle.kl_infer.proofs.Views.{view_catch, view_any, view_same, view_is, view_shape, view_variant, pattern_names, pattern_length}
use Rattle.kl_base.proofs.Places.{drop_at}

module _ (k : Known) (ns : Fields) (a : List Cell) (bs : Fields) (t : ℕ) (p : Pattern) (ready : Ready k a (onto bs ns) (t ∷ [])) where
  -- the pattern takes the type
  abbrev pub Taken : Result (Unit {0}) Refusal → List Cell → Fields → Pat → Type 0
  Taken r b cs q = Bound r a b bs cs ns (λ s. Takes q (NameTypes (sorts k) (context s ns)) (s.types t))

  seen_as : (r : Result (Unit {0}) Refusal) (b : List Cell) (cs : Fields) (q : Pat) → pattern_view p ≡ q → Taken r b cs q → Taken r b cs (pattern_view p)
  seen_as r b cs q e f = subst (λ (z : Pat). Taken r b cs z) (sym e) f

  pub catch_ok : (cs : Fields) (x : Word) (l : Name) → p ≡ code.Bind x → l ≡ x.text → cs ≡ bs ++ (l, t) ∷ [] → Taken (Ok tt) a cs (pattern_view p)
  catch_ok cs x l e el ec = seen_as (Ok tt) a cs _ (view_catch p x e)
      (subst (λ (v : Fields). Binds a a bs v ns (λ s. Takes (catch x) (NameTypes (sorts k) (context s ns)) (s.types t))) (sym (ec ∙ ap (λ (z : Name). bs ++ (z, t) ∷ []) el)) (catch_pattern k ns a bs t ready x))

  pub any_ok : p ≡ code.Any → Taken (Ok tt) a bs (pattern_view p)
  any_ok e = seen_as (Ok tt) a bs _ (view_any p e) (any_pattern k ns a bs t ready)

  pub same_ok : (r : Result (Unit {0}) Refusal) (b : List Cell) (x : Word) → p ≡ code.Same x → Asked r a b (λ s. NameTypes (sorts k) (context s ns) x.text (s.types t)) → Taken r b bs (pattern_view p)
  same_ok r b x e f = seen_as r b bs _ (view_same p x e) (same_pattern k ns a bs t ready r x b f)

  pub is_ok : (r : Result (Unit {0}) Refusal) (b : List Cell) (v : Value) (n : ℕ) → p ≡ code.Is v n → Asked r a b (IsOfType v t) → Taken r b bs (pattern_view p)
  is_ok r b v n e f = seen_as r b bs _ (view_is p v n e) (is_pattern k ns a bs t ready r v n b f)

  pub variant_none : (o : Refusal) (l : Word) (q : Pattern) → p ≡ code.Inj l q → Refuses a (λ s. (u : Ground) × IsGround u × VariantOf l.text t u s) o → Taken (Err o) a bs (pattern_view p)
  variant_none o l q e f = seen_as (Err o) a bs _ (view_variant p l q q e refl) (variant_refused k ns a bs t ready l (pattern_view q) o f)

  pub variant_ok : (r : Result (Unit {0}) Refusal) (b c : List Cell) (cs : Fields) (i : ℕ) (l : Word) (q q2 : Pattern) → p ≡ code.Inj l q → q2 ≡ q → Gets a b i (VariantOf l.text t)
      → Bound r b c bs cs ns (λ s. Takes (pattern_view q2) (NameTypes (sorts k) (context s ns)) (s.types i)) → Taken r c cs (pattern_view p)
  variant_ok r b c cs i l q q2 e e2 g f = seen_as r c cs _ (view_variant p l q q2 e e2) (variant_pattern k ns a bs t ready l (pattern_view q2) r b c cs i g f)

  module _ (b : List Cell) (ps qs : List (Word × Pattern)) (end : Tail) (is ds1 : List ℕ) (all : Fields) (e : p ≡ code.Rec ps end) (j1 : qs ≡ ps) (j2 : ds1 ≡ is) (j4 : all ≡ labelled (map (λ f. f.0.text) qs) ds1) (g : GetsMany a b is (length qs)) where
    abbrev Pairs : List (Word × Pat)
    Pairs = map pattern_pair qs

    pub many : GetsMany a b is (length Pairs)
    many = subst (λ (n : ℕ). GetsMany a b is n) (sym (pattern_length qs)) g

    same_labels : all ≡ labelled (names_of Pairs) is
    same_labels = j4 ∙ ap (λ (v : List Name). labelled v ds1) (sym (pattern_names qs)) ∙ ap (labelled (names_of Pairs)) j2

    -- the other fields are not bound
    module _ (dots : Bool) (plain : BindsNoRest end) (same : dots ≡ is_open end) where
      shaped : (r : Result (Unit {0}) Refusal) (c : List Cell) → Asked r b c (IsRecord dots all t) → Asked r b c (IsRecord (is_open end) (labelled (names_of Pairs) is) t)
      shaped r c f = subst (λ (v : Fields). Asked r b c (IsRecord (is_open end) v t)) same_labels (subst (λ (o : Bool). Asked r b c (IsRecord o all t)) same f)

      pub shape_none : (o : Refusal) → Refuses b (IsRecord dots all t) o → Taken (Err o) a bs (pattern_view p)
      shape_none o f = seen_as (Err o) a bs _ (view_shape p ps qs end e j1) (record_refused k ns a bs t ready is b Pairs end plain many b o (shaped (Err o) b f))

      pub shape_ok : (r : Result (Unit {0}) Refusal) (c d : List Cell) (cs : Fields) (ds2 : List ℕ) → ds2 ≡ is → Asks b c (IsRecord dots all t)
          → Bound r c d bs cs ns (λ s. TakesAll (patterns_view qs) (NameTypes (sorts k) (context s ns)) (map s.types ds2)) → Taken r d cs (pattern_view p)
      shape_ok r c d cs ds2 j3 f h = seen_as r d cs _ (view_shape p ps qs end e j1)
          (record_pattern k ns a bs t ready is b Pairs end plain many r c d cs (shaped (Ok tt) c f) (subst (λ (v : List ℕ). Bound r c d bs cs ns (λ s. TakesAll (patterns_view qs) (NameTypes (sorts k) (context s ns)) (map s.types v))) j3 h))

    -- they are
    module _ (x : Word) (bound : end ≡ tail.Rest x) where
      seen_rest : (r : Result (Unit {0}) Refusal) (d : List Cell) (cs : Fields) → Taken r d cs (shape (patterns_view qs) (tail.Rest x)) → Taken r d cs (pattern_view p)
      seen_rest r d cs f = seen_as r d cs _ (view_shape p ps qs end e j1) (subst (λ (o : Tail). Taken r d cs (shape (patterns_view qs) o)) (sym bound) f)

      others_so : (r : Result ℕ Refusal) (c : List Cell) → Found r b c (RestOf all t) → Found r b c (λ u s. RestAt (names_of Pairs) (s.types t) (map s.types is) u)
      others_so r c q = rest_at r b c (names_of Pairs) is t (many.size ∙ sym (length_names Pairs)) (subst (λ (v : Fields). Found r b c (RestOf v t)) same_labels q)

      pub rest_none : (o : Refusal) → Refuses b (λ s. (u : Ground) × IsGround u × RestOf all t u s) o → Taken (Err o) a bs (pattern_view p)
      rest_none o f = seen_rest (Err o) a bs (rest_refused k ns a bs t ready is b Pairs x many o (others_so (Err o) b f))

      module _ (c : List Cell) (i : ℕ) (q : Gets b c i (RestOf all t)) (ds2 : List ℕ) (j3 : ds2 ≡ is) where
        taken_so : (r : Result (Unit {0}) Refusal) (d : List Cell) (cs : Fields) → Bound r c d bs cs ns (λ s. TakesAll (patterns_view qs) (NameTypes (sorts k) (context s ns)) (map s.types ds2))
            → Bound r c d bs cs ns (λ s. TakesAll (patterns_view qs) (NameTypes (sorts k) (context s ns)) (map s.types is))
        taken_so r d cs h = subst (λ (v : List ℕ). Bound r c d bs cs ns (λ s. TakesAll (patterns_view qs) (NameTypes (sorts k) (context s ns)) (map s.types v))) j3 h

        pub rest_fails : (d : List Cell) (cs : Fields) (o : Refusal) → Refuses c (λ s. (H : Context) × TakesAll (patterns_view qs) (NameTypes (sorts k) (context s ns)) (map s.types ds2) (context s (onto bs ns)) H) o → Taken (Err o) a bs (pattern_view p)
        rest_fails d cs o h = seen_rest (Err o) a bs (rest_untaken k ns a bs t ready is b Pairs x many c i (others_so (Ok i) c q) d cs o (taken_so (Err o) d cs h))

        pub rest_ok : (d : List Cell) (cs ds : Fields) (l : Name) → l ≡ x.text → ds ≡ cs ++ (l, i) ∷ [] → Binds c d bs cs ns (λ s. TakesAll (patterns_view qs) (NameTypes (sorts k) (context s ns)) (map s.types ds2)) → Taken (Ok tt) d ds (pattern_view p)
        rest_ok d cs ds l el ed h = subst (λ (v : Fields). Taken (Ok tt) d v (pattern_view p)) (sym (ed ∙ ap (λ (z : Name). cs ++ (z, i) ∷ []) el))
            (seen_rest (Ok tt) d (cs ++ (x.text, i) ∷ []) (rest_pattern k ns a bs t ready is b Pairs x many c i (others_so (Ok i) c q) d cs (taken_so (Ok tt) d cs h)))

-- ---- the fields of a record pattern

module _ (k : Known) (ns : Fields) where
  abbrev All : List (Word × Pattern) → List ℕ → Assignment → Context → Context → Type 0
  All ps ws = λ s. TakesAll (patterns_view ps) (NameTypes (sorts k) (context s ns)) (map s.types ws)

  pub takes_starts : (t : List Cell) (bs : Fields) (ps : List (Word × Pattern)) (ws : List ℕ) → IsFine t → Binding t t bs bs ns (All ps ws) (All (drop 0 ps) (drop 0 ws))
  takes_starts t bs ps ws f = binding_begins t bs ns (All ps ws) f

  pub wants_one : (a0 a : List Cell) (bs0 bs : Fields) (D R : Assignment → Context → Context → Type 0) (ws : List ℕ) (n m : ℕ) → length ws ≡ m → n < m → Ready k a0 (onto bs0 ns) ws → Binding a0 a bs0 bs ns D R → Ready k a (onto bs ns) (slice_index_or ws n 0 ∷ [])
  wants_one a0 a bs0 bs D R ws n m e lt r f = ready_in k a bs ns _ (f.sorts (bound_so_far k a0 bs0 ns ws r)) (one_ready k a ns ws n m lt e (ready_on k a0 a ns ws f.fine f.keeps (ready_out k a0 bs0 ns ws r)))

  pub takes_more : (r : Result (Unit {0}) Refusal) (a0 a b : List Cell) (bs0 bs cs : Fields) (D : Assignment → Context → Context → Type 0) (ps : List (Word × Pattern)) (ws : List ℕ) (n : ℕ) (x y : Word × Pattern) → length ws ≡ length ps → n < length ps → x ≡ get_or ps n x → x ≡ y → Ready k a0 (onto bs0 ns) ws
      → Binding a0 a bs0 bs ns D (All (drop n ps) (drop n ws)) → Bound r a b bs cs ns (λ s. Takes (pattern_view y.1) (NameTypes (sorts k) (context s ns)) (s.types (slice_index_or ws n 0))) → BindingLeads r a0 b bs0 cs ns D (All (drop (n + 1) ps) (drop (n + 1) ws))
  takes_more r a0 a b bs0 bs cs D ps ws n x y e lt h hy ready f g =
      let q = next_ready k a ns ws n (omega arith) (ready_on k a0 a ns ws f.fine f.keeps (ready_out k a0 bs0 ns ws ready)) in
      takes_next k ns r a0 a b bs0 bs cs D x.0 (pattern_view x.1) (patterns_view (drop (n + 1) ps)) (slice_index_or ws n 0) (drop (n + 1) ws) q
      (subst (λ (v : List ℕ). Binding a0 a bs0 bs ns D (All (x ∷ drop (n + 1) ps) v)) (at_number ws n (omega arith)) (subst (λ (v : List (Word × Pattern)). Binding a0 a bs0 bs ns D (All v (drop n ws))) (drop_at ps n x lt h) f))
      (subst (λ (z : Word × Pattern). Bound r a b bs cs ns (λ s. Takes (pattern_view z.1) (NameTypes (sorts k) (context s ns)) (s.types (slice_index_or ws n 0)))) (sym hy) g)

  pub takes_done : (a0 a : List Cell) (bs0 bs : Fields) (D : Assignment → Context → Context → Type 0) (ps : List (Word × Pattern)) (ws : List ℕ) (n : ℕ) → length ws ≡ length ps → length ps ≤ n → Binding a0 a bs0 bs ns D (All (drop n ps) (drop n ws)) → Binds a0 a bs0 bs ns D
  takes_done a0 a bs0 bs D ps ws n e le f =
      bound_all ns a0 a bs0 bs D (All [] []) (λ s G H h. h) (λ s G H h. h)
      (subst (λ (v : List ℕ). Binding a0 a bs0 bs ns D (All [] v)) (drop_all n ws (omega arith)) (subst (λ (v : List (Word × Pattern)). Binding a0 a bs0 bs ns D (All v (drop n ws))) (drop_all n ps le) f))
