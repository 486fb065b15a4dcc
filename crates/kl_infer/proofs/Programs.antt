-- One declaration after another.
use Rattle.std.proofs.Common.{◌≡◌, inl, inr, ℕ, suc, ◌+◌, ◌<◌, ◌≤◌, Bool, true, false, List, [], ◌∷◌, ◌++◌, cond, length, take, drop, get_or, Option, Some, None, option_map, refl, sym, ap, ◌∙◌, subst, arith}
use Rattle.std.specs.Prelude.{nat_eq, All}
use Rattle.std.proofs.lemmas.List.Elements.{All-head, All-tail}
use Rattle.std.proofs.lemmas.List.{take-append-drop, length-take, take_more, take_all}
use Rattle.std.specs.Cmp.Lexicographic.{pointwise}
use Rattle.kl_base.specs.Fields.{field}
use Rattle.kl_type.specs.Ground.{Ground, arrow, ground_of, IsProper}
use Rattle.kl_type.specs.declared.Ty.{Ty}
use Rattle.kl_rows.specs.declared.Scheme.{Scheme}
use Rattle.kl_rows.specs.Places.{Sort as CellSort, a_type, a_function}
use Rattle.kl_outcome.specs.Outcome.{Name}
use Rattle.kl_syntax.specs.declared.tree.Decl.{Decl}
use Rattle.kl_syntax.specs.declared.tree.Pattern.{Pattern}
use Rattle.kl_syntax.specs.Syntax.{Exp, Decls, no_decls}
use Rattle.kl_syntax.specs.View.{view, pattern_view, decls_of, decl_of}
use Rattle.kl_meaning.specs.Match.{same_name}
use Rattle.kl_meaning.specs.Run.{code_named}
use Rattle.kl_meaning.specs.Typing.{Sort, value_of, function_of, KnownTypes as Sorts, with_sort, sort_if, sort_at, sort_by_code, types_at_first, types_after, Types, FunctionTypes, EachTyped}
use Rattle.kl_infer.specs.Asking.{OnNoType}
use Rattle.kl_infer.specs.Declaring.{Declared, HasNoType, IsAt}
use Rattle.kl_infer.specs.declared.refusal.Refusal.{Refusal}
use Rattle.kl_infer.specs.declared.refusal.Refusal.TheVariants.{NoType, NoMemory as WantOfMemory}
use Rattle.kl_infer.specs.Inferred.{IsPrincipal, IsArrow, HaveSchemes, FailsAt, Infers, types_of}
use Rattle.kl_infer.specs.Refusing.{IsRefusal}
use Rattle.kl_infer.specs.declared.typed.Typed.{Typed}
use Rattle.kl_infer.specs.declared.inference.InferError.{InferError}
use Rattle.kl_infer.specs.declared.inference.InferError.TheVariants.{IllTyped, NoMemory}
use Rattle.kl_infer.specs.declared.scope.Known.{Known}
use Rattle.kl_infer.specs.Names.{Meant, meant, sorts, by_value, by_function, by_source, meant_over, meant_first, by_maybe_code, by_maybe_source, defined, sort_of, IsGood}
use Rattle.kl_infer.proofs.Alike.{AreAlike, types_within, function_within}
use Rattle.kl_base.proofs.Places.{drop_at}

-- ---- the definitions so far

-- a declaration has a type
abbrev pub HasType : Option Pattern → Decl → Sorts → Type 0
HasType (Some q) d K = (s : Ground) × (t : Ground) × FunctionTypes K (pattern_view q) (view d.body) s t
HasType None d K = (t : Ground) × Types (view d.body) K [] t

-- the names behind one declaration
abbrev pub behind_one : Option Pattern → Decl → Sorts → Sorts
behind_one (Some q) d K = with_sort d.name.text (function_of (FunctionTypes K (pattern_view q) (view d.body))) K
behind_one None d K = with_sort d.name.text (value_of (Types (view d.body) K [])) K

abbrev pub behind_all : List Decl → Sorts → Sorts
behind_all ds K = types_after (decls_of ds) K

-- schemes of declarations, split at the first
have_split : (o : Option Pattern) (d : Decl) (ds : Decls) (K : Sorts) (ss : List Scheme) → HaveSchemes (decl_of o d ds) K ss → (p : Scheme) × (rest : List Scheme) × (ss ≡ p ∷ rest) × Declared o d K p × HaveSchemes ds (behind_one o d K) rest
have_split (Some q) d ds K ss h = h
have_split None d ds K ss h = h

have_join : (o : Option Pattern) (d : Decl) (ds : Decls) (K : Sorts) (ss : List Scheme) → ((p : Scheme) × (rest : List Scheme) × (ss ≡ p ∷ rest) × Declared o d K p × HaveSchemes ds (behind_one o d K) rest) → HaveSchemes (decl_of o d ds) K ss
have_join (Some q) d ds K ss h = h
have_join None d ds K ss h = h

after_one : (o : Option Pattern) (d : Decl) (ds : Decls) (K : Sorts) (P : Sorts → Type 0) → P (types_after ds (behind_one o d K)) → P (types_after (decl_of o d ds) K)
after_one (Some q) d ds K P h = h
after_one None d ds K P h = h

after_back : (o : Option Pattern) (d : Decl) (ds : Decls) (K : Sorts) (P : Sorts → Type 0) → P (types_after (decl_of o d ds) K) → P (types_after ds (behind_one o d K))
after_back (Some q) d ds K P h = h
after_back None d ds K P h = h

pub have_more : (ds : List Decl) (d : Decl) (K : Sorts) (ss : List Scheme) (p : Scheme) → HaveSchemes (decls_of ds) K ss → Declared d.param d (behind_all ds K) p → HaveSchemes (decls_of (ds ++ d ∷ [])) K (ss ++ p ∷ [])
have_more [] d K ss p h g = have_join d.param d no_decls K (ss ++ p ∷ []) (p, [], ap (λ (z : List Scheme). z ++ p ∷ []) h, g, refl)
have_more (e ∷ ds) d K ss p h g =
    let w = have_split e.param e (decls_of ds) K ss h in
    have_join e.param e (decls_of (ds ++ d ∷ [])) K (ss ++ p ∷ [])
    (w.0, w.1 ++ p ∷ [], ap (λ (z : List Scheme). z ++ p ∷ []) w.2, w.3, have_more ds d (behind_one e.param e K) w.1 p w.4 (after_back e.param e (decls_of ds) K (λ J. Declared d.param d J p) g))

declared_type : (o : Option Pattern) (d : Decl) (K : Sorts) (p : Scheme) → Declared o d K p → HasType o d K
declared_type (Some q) d K p h = let w = h.has_one in (w.1.0, w.1.1, w.1.3)
declared_type None d K p h = h.has_one

-- ---- where a program fails

fails_here : (o : Option Pattern) (d : Decl) (ds : Decls) (last : Exp) (K : Sorts) → HasNoType o d K → FailsAt (decl_of o d ds) last K 0
fails_here (Some q) d ds last K h = inl (refl, h)
fails_here None d ds last K h = inl (refl, h)

fails_behind : (o : Option Pattern) (d : Decl) (ds : Decls) (last : Exp) (K : Sorts) (n : ℕ) → HasType o d K → FailsAt ds last (behind_one o d K) n → FailsAt (decl_of o d ds) last K (suc n)
fails_behind (Some q) d ds last K n h f = inr (n, refl, h, f)
fails_behind None d ds last K n h f = inr (n, refl, h, f)

pub fails_at : (ds : List Decl) (d : Decl) (more : List Decl) (last : Exp) (K : Sorts) (ss : List Scheme) → HaveSchemes (decls_of ds) K ss → HasNoType d.param d (behind_all ds K) → FailsAt (decls_of (ds ++ d ∷ more)) last K (length ds)
fails_at [] d more last K ss h g = fails_here d.param d (decls_of more) last K g
fails_at (e ∷ ds) d more last K ss h g =
    let w = have_split e.param e (decls_of ds) K ss h in
    fails_behind e.param e (decls_of (ds ++ d ∷ more)) last K (length ds) (declared_type e.param e K w.0 w.3) (fails_at ds d more last (behind_one e.param e K) w.1 w.4 (after_back e.param e (decls_of ds) K (λ J. HasNoType d.param d J) g))

pub fails_last : (ds : List Decl) (last : Exp) (K : Sorts) (ss : List Scheme) → HaveSchemes (decls_of ds) K ss → ((t : Ground) → Types last (behind_all ds K) [] t → ⊥) → FailsAt (decls_of ds) last K (length ds)
fails_last [] last K ss h g = (refl, g)
fails_last (e ∷ ds) last K ss h g =
    let w = have_split e.param e (decls_of ds) K ss h in
    fails_behind e.param e (decls_of ds) last K (length ds) (declared_type e.param e K w.0 w.3) (fails_last ds last (behind_one e.param e K) w.1 w.4 (after_back e.param e (decls_of ds) K (λ J. (t : Ground) → Types last J [] t → ⊥) g))

each_split : (o : Option Pattern) (d : Decl) (ds : Decls) (K : Sorts) → EachTyped (decl_of o d ds) K → HasType o d K × EachTyped ds (behind_one o d K)
each_split (Some q) d ds K h = h
each_split None d ds K h = h

each_join : (o : Option Pattern) (d : Decl) (ds : Decls) (K : Sorts) → HasType o d K → EachTyped ds (behind_one o d K) → EachTyped (decl_of o d ds) K
each_join (Some q) d ds K h j = (h, j)
each_join None d ds K h j = (h, j)

pub each_typed : (ds : List Decl) (K : Sorts) (ss : List Scheme) → HaveSchemes (decls_of ds) K ss → EachTyped (decls_of ds) K
each_typed [] K ss h = tt
each_typed (e ∷ ds) K ss h =
    let w = have_split e.param e (decls_of ds) K ss h in
    each_join e.param e (decls_of ds) K (declared_type e.param e K w.0 w.3) (each_typed ds (behind_one e.param e K) w.1 w.4)

no_and_has : (o : Option Pattern) (d : Decl) (K : Sorts) → HasNoType o d K → HasType o d K → ⊥
no_and_has (Some q) d K h j = h j.0 j.1 j.2
no_and_has None d K h j = h j.0 j.1

pub not_each : (ds : List Decl) (d : Decl) (more : List Decl) (K : Sorts) → HasNoType d.param d (behind_all ds K) → EachTyped (decls_of (ds ++ d ∷ more)) K → ⊥
not_each [] d more K g h = no_and_has d.param d K g (each_split d.param d (decls_of more) K h).0
not_each (e ∷ ds) d more K g h = not_each ds d more (behind_one e.param e K) (after_back e.param e (decls_of ds) K (λ J. HasNoType d.param d J) g) (each_split e.param e (decls_of (ds ++ d ∷ more)) K h).1

-- ---- the code's names and the definition's

alike_code : (o : Option ℕ) → AreAlike (sort_by_code o) (sort_of (by_maybe_code o))
alike_code (Some c) = (refl, refl)
alike_code None = (tt, tt)

alike_source : (o : Option Ty) (c : Option ℕ) (g : Option Ground) → g ≡ option_map ground_of o → AreAlike (sort_at g c) (sort_of (by_maybe_source o (by_maybe_code c)))
alike_source (Some t) c g e = subst (λ (z : Option Ground). AreAlike (sort_at z c) (sort_of (by_source t))) (sym e) ((λ u h. h), (λ u h. h))
alike_source None c g e = subst (λ (z : Option Ground). AreAlike (sort_at z c) (sort_of (by_maybe_code c))) (sym e) (alike_code c)

source_field : (x : Name) (sources : List (Name × Ty)) → field x (types_of sources) ≡ option_map ground_of (field x sources)
source_field x [] = refl
source_field x (f ∷ fs) = here (pointwise nat_eq x f.0) (field x fs) (source_field x fs)
  where
    here : (b : Bool) (o : Option Ty) → field x (types_of fs) ≡ option_map ground_of o → cond b (Some (ground_of f.1)) (field x (types_of fs)) ≡ option_map ground_of (cond b (Some f.1) o)
    here true o e = refl
    here false o e = e

pub alike_first : (sources : List (Name × Ty)) (x : Name) → AreAlike (types_at_first (types_of sources) x) (sort_of (meant_first x sources))
alike_first sources x = alike_source (field x sources) (code_named x) (field x (types_of sources)) (source_field x sources)

alike_if : (b : Bool) (k j : Sort) (m n : Meant) → AreAlike k (sort_of m) → AreAlike j (sort_of n) → AreAlike (sort_if b k j) (sort_of (cond b m n))
alike_if true k j m n h g = h
alike_if false k j m n h g = g

alike_declared : (o : Option Pattern) (d : Decl) (K : Sorts) (p : Scheme) (m : Name → Meant) (x : Name) → Declared o d K p → AreAlike (K x) (sort_of (m x)) → AreAlike (behind_one o d K x) (sort_of (cond (same_name x d.name.text) (defined o p) (m x)))
alike_declared (Some q) d K p m x h g = alike_if (same_name x d.name.text) (function_of (FunctionTypes K (pattern_view q) (view d.body))) (K x) (by_function p) (m x)
    ((λ a b j. (h.instances (arrow a b)).1 (a, b, refl, j)), (λ a b i. let w = (h.instances (arrow a b)).0 i in parts a b w.0 w.1 w.2 w.3)) g
  where
    parts : (a b s t : Ground) → arrow a b ≡ arrow s t → FunctionTypes K (pattern_view q) (view d.body) s t → FunctionTypes K (pattern_view q) (view d.body) a b
    parts a b s t e f =
        let e1 : s ≡ a = cc in
        let e2 : t ≡ b = cc in
        subst (λ (z : Ground). FunctionTypes K (pattern_view q) (view d.body) z b) e1 (subst (λ (z : Ground). FunctionTypes K (pattern_view q) (view d.body) s z) e2 f)
alike_declared None d K p m x h g = alike_if (same_name x d.name.text) (value_of (Types (view d.body) K [])) (K x) (by_value p) (m x)
    ((λ t j. (h.instances t).1 j), (λ t i. (h.instances t).0 i)) g

over_none : (x : Name) (ds : List Decl) (m : Meant) → meant_over x ds [] m ≡ m
over_none x [] m = refl
over_none x (d ∷ ds) m = refl

pub alike_after : (ds more : List Decl) (K : Sorts) (m : Name → Meant) (ss : List Scheme) → HaveSchemes (decls_of ds) K ss → ((x : Name) → AreAlike (K x) (sort_of (m x))) → (x : Name) → AreAlike (behind_all ds K x) (sort_of (meant_over x (ds ++ more) ss (m x)))
alike_after [] more K m ss h g x = subst (λ (z : List Scheme). AreAlike (K x) (sort_of (meant_over x more z (m x)))) (sym h) (subst (λ (z : Meant). AreAlike (K x) (sort_of z)) (sym (over_none x more (m x))) (g x))
alike_after (d ∷ ds) more K m ss h g x =
    let w = have_split d.param d (decls_of ds) K ss h in
    let K2 = behind_one d.param d K in
    let m2 = λ (y : Name). cond (same_name y d.name.text) (defined d.param w.0) (m y) in
    subst (λ (z : List Scheme). AreAlike (behind_all (d ∷ ds) K x) (sort_of (meant_over x (d ∷ ds ++ more) z (m x)))) (sym w.2)
    (after_one d.param d (decls_of ds) K (λ J. AreAlike (J x) (sort_of (meant_over x (ds ++ more) w.1 (m2 x))))
    (alike_after ds more K2 m2 w.1 w.4 (λ y. alike_declared d.param d K w.0 m y w.3 (g y)) x))

-- ---- what the code knows is good

good_if : (b : Bool) (m n : Meant) → IsGood m → IsGood n → IsGood (cond b m n)
good_if true m n h g = h
good_if false m n h g = g

good_declared : (o : Option Pattern) (d : Decl) (K : Sorts) (p : Scheme) → Declared o d K p → IsGood (defined o p)
good_declared (Some q) d K p h = (h.good, h.sort_is)
good_declared None d K p h = (h.good, h.sort_is, (h.has_one.0, (h.instances h.has_one.0).1 h.has_one.1))

pub good_after : (ds more : List Decl) (K : Sorts) (ss : List Scheme) (x : Name) (m : Meant) → HaveSchemes (decls_of ds) K ss → IsGood m → IsGood (meant_over x (ds ++ more) ss m)
good_after [] more K ss x m h g = subst (λ (z : List Scheme). IsGood (meant_over x more z m)) (sym h) (subst IsGood (sym (over_none x more m)) g)
good_after (d ∷ ds) more K ss x m h g =
    let w = have_split d.param d (decls_of ds) K ss h in
    subst (λ (z : List Scheme). IsGood (meant_over x (d ∷ ds ++ more) z m)) (sym w.2)
    (good_after ds more (behind_one d.param d K) w.1 x (cond (same_name x d.name.text) (defined d.param w.0) m) w.4 (good_if (same_name x d.name.text) (defined d.param w.0) m (good_declared d.param d K w.0 w.3) g))

-- ---- the loop over the definitions

good_source : (o : Option Ty) (m : Meant) → ((t : Ty) → o ≡ Some t → IsProper t) → IsGood m → IsGood (by_maybe_source o m)
good_source (Some t) m f g = f t refl
good_source None m f g = g

good_code : (o : Option ℕ) → IsGood (by_maybe_code o)
good_code (Some c) = tt
good_code None = tt

proper_field : (x : Name) (sources : List (Name × Ty)) (t : Ty) → All (λ s. IsProper s.1) sources → field x sources ≡ Some t → IsProper t
proper_field x [] t h e = let d : ⊥ = cc in absurd d
proper_field x (f ∷ fs) t h e = here (pointwise nat_eq x f.0) (field x fs) (proper_field x fs t (All-tail (λ s. IsProper s.1) f fs h)) e
  where
    here : (b : Bool) (o : Option Ty) → (o ≡ Some t → IsProper t) → cond b (Some f.1) o ≡ Some t → IsProper t
    here true o go q = let d : f.1 ≡ t = cc in subst IsProper d (All-head (λ s. IsProper s.1) f fs h)
    here false o go q = go q

good_first : (x : Name) (sources : List (Name × Ty)) → All (λ s. IsProper s.1) sources → IsGood (meant_first x sources)
good_first x sources h = good_source (field x sources) (by_maybe_code (code_named x)) (λ t e. proper_field x sources t h e) (good_code (code_named x))

module _ (defs : List Decl) (sources : List (Name × Ty)) (n : ℕ) (ss : List Scheme) (have : HaveSchemes (decls_of (take n defs)) (types_at_first (types_of sources)) ss) where
  whole : take n defs ++ drop n defs ≡ defs
  whole = take-append-drop n defs

  pub good_so_far : All (λ s. IsProper s.1) sources → (x : Name) → IsGood (meant_over x defs ss (meant_first x sources))
  good_so_far h x = subst (λ (z : List Decl). IsGood (meant_over x z ss (meant_first x sources))) whole (good_after (take n defs) (drop n defs) (types_at_first (types_of sources)) ss x (meant_first x sources) have (good_first x sources h))

  pub alike_so_far : (x : Name) → AreAlike (behind_all (take n defs) (types_at_first (types_of sources)) x) (sort_of (meant_over x defs ss (meant_first x sources)))
  alike_so_far x = subst (λ (z : List Decl). AreAlike (behind_all (take n defs) (types_at_first (types_of sources)) x) (sort_of (meant_over x z ss (meant_first x sources)))) whole
      (alike_after (take n defs) (drop n defs) (types_at_first (types_of sources)) (λ y. meant_first y sources) ss have (alike_first sources) x)

-- ---- over what is alike

principal_map : (q : CellSort) (P Q : Ground → Type 0) (p : Scheme) → ((u : Ground) → P u → Q u) → ((u : Ground) → Q u → P u) → IsPrincipal q p P → IsPrincipal q p Q
principal_map q P Q p go come h = record { good = h.good; sort_is = h.sort_is; instances = λ u. ((λ i. go u ((h.instances u).0 i)), (λ k. (h.instances u).1 (come u k))); has_one = (h.has_one.0, go h.has_one.0 h.has_one.1) }

arrow_map : (F G : Ground → Ground → Type 0) → ((s t : Ground) → F s t → G s t) → (u : Ground) → IsArrow F u → IsArrow G u
arrow_map F G go u h = (h.0, h.1, h.2, go h.0 h.1 h.3)

module _ (K J : Sorts) (alike : (x : Name) → AreAlike (K x) (J x)) where
  forth : (e : Exp) (t : Ground) → Types e K [] t → Types e J [] t
  forth e t h = types_within K J (λ x. (alike x).0) e [] t h

  back : (e : Exp) (t : Ground) → Types e J [] t → Types e K [] t
  back e t h = types_within J K (λ x. (alike x).1) e [] t h

  pub principal_alike : (e : Exp) (p : Scheme) → IsPrincipal a_type p (Types e J []) → IsPrincipal a_type p (Types e K [])
  principal_alike e p h = principal_map a_type (Types e J []) (Types e K []) p (back e) (forth e) h

  pub declared_alike : (o : Option Pattern) (d : Decl) (p : Scheme) → Declared o d J p → Declared o d K p
  declared_alike (Some q) d p h = principal_map a_function (IsArrow (FunctionTypes J (pattern_view q) (view d.body))) (IsArrow (FunctionTypes K (pattern_view q) (view d.body))) p
      (arrow_map (FunctionTypes J (pattern_view q) (view d.body)) (FunctionTypes K (pattern_view q) (view d.body)) (function_within J K (λ x. (alike x).1) (pattern_view q) (view d.body)))
      (arrow_map (FunctionTypes K (pattern_view q) (view d.body)) (FunctionTypes J (pattern_view q) (view d.body)) (function_within K J (λ x. (alike x).0) (pattern_view q) (view d.body))) h
  declared_alike None d p h = principal_alike (view d.body) p h

  pub none_alike : (o : Option Pattern) (d : Decl) → HasNoType o d J → HasNoType o d K
  none_alike (Some q) d h = λ s t f. h s t (function_within K J (λ x. (alike x).0) (pattern_view q) (view d.body) s t f)
  none_alike None d h = λ t f. h t (forth (view d.body) t f)

-- ---- the loop

module _ (known : Known) (defs : List Decl) (ss : List Scheme) (sources : List (Name × Ty)) (e1 : known.defs.now ≡ defs) (e2 : known.schemes.now ≡ ss) (e3 : known.sources.now ≡ sources) (n : ℕ)
    (have : HaveSchemes (decls_of (take n defs)) (types_at_first (types_of sources)) ss) where
  same_meant : (x : Name) → meant known x ≡ meant_over x defs ss (meant_first x sources)
  same_meant x = ap (λ (z : List Decl). meant_over x z known.schemes.now (meant_first x known.sources.now)) e1 ∙ ap (λ (z : List Scheme). meant_over x defs z (meant_first x known.sources.now)) e2 ∙ ap (λ (z : List (Name × Ty)). meant_over x defs ss (meant_first x z)) e3

  pub known_good : All (λ s. IsProper s.1) sources → (x : Name) → IsGood (meant known x)
  known_good h x = subst IsGood (sym (same_meant x)) (good_so_far defs sources n ss have h x)

  known_alike : (x : Name) → AreAlike (behind_all (take n defs) (types_at_first (types_of sources)) x) (sorts known x)
  known_alike x = subst (λ (m : Meant). AreAlike (behind_all (take n defs) (types_at_first (types_of sources)) x) (sort_of m)) (sym (same_meant x)) (alike_so_far defs sources n ss have x)

  pub have_next : (d : Decl) (p : Scheme) (ss2 : List Scheme) → n < length defs → d ≡ get_or defs n d → ss2 ≡ ss ++ p ∷ [] → Declared d.param d (sorts known) p → HaveSchemes (decls_of (take (n + 1) defs)) (types_at_first (types_of sources)) ss2
  have_next d p ss2 lt e es h =
      let K = types_at_first (types_of sources) in
      let here : take (n + 1) defs ≡ take n defs ++ d ∷ [] = take_more defs n d lt ∙ ap (λ (z : Decl). take n defs ++ z ∷ []) (sym e) in
      subst (λ (z : List Scheme). HaveSchemes (decls_of (take (n + 1) defs)) K z) (sym es) (subst (λ (z : List Decl). HaveSchemes (decls_of z) K (ss ++ p ∷ [])) (sym here)
      (have_more (take n defs) d K ss p have (declared_alike (behind_all (take n defs) K) (sorts known) known_alike d.param d p h)))

  split_at : (d : Decl) → n < length defs → d ≡ get_or defs n d → take n defs ++ d ∷ drop (n + 1) defs ≡ defs
  split_at d lt e = ap (λ (z : List Decl). take n defs ++ z) (sym (drop_at defs n d lt e)) ∙ take-append-drop n defs

  pub refuses : (d : Decl) (last : Exp) (why : InferError) (refusal : Refusal) → n < length defs → d ≡ get_or defs n d → OnNoType refusal (HasNoType d.param d (sorts known)) → IsAt n refusal why → IsRefusal (decls_of defs) last (types_of sources) why
  refuses d last NoMemory refusal lt e h at = tt
  refuses d last (IllTyped m) WantOfMemory lt e h at = absurd at
  refuses d last (IllTyped m) NoType lt e h at =
      let K = types_at_first (types_of sources) in
      let none = none_alike (behind_all (take n defs) K) (sorts known) known_alike d.param d h in
      let long : length (take n defs) ≡ n = length-take n defs ∙ omega arith in
      record {
        fails = subst (λ (z : ℕ). FailsAt (decls_of defs) last K z) (long ∙ sym at) (subst (λ (z : List Decl). FailsAt (decls_of z) last K (length (take n defs))) (split_at d lt e) (fails_at (take n defs) d (drop (n + 1) defs) last K ss have none));
        none = λ t. not_each (take n defs) d (drop (n + 1) defs) K none (subst (λ (z : List Decl). EachTyped (decls_of z) K) (sym (split_at d lt e)) t.0);
      }

  -- behind all definitions
  at_end : length defs ≤ n → take n defs ≡ defs
  at_end le = take_all n defs le

  pub answers : (last : Exp) (p : Scheme) (typed : Typed) → length defs ≤ n → typed.schemes ≡ ss → typed.result ≡ p → IsPrincipal a_type p (Types last (sorts known) []) → Infers (decls_of defs) last (types_of sources) typed
  answers last p typed le es er h =
      let K = types_at_first (types_of sources) in
      let all = subst (λ (z : List Decl). HaveSchemes (decls_of z) K ss) (at_end le) have in
      let main : IsPrincipal a_type p (Types last (types_after (decls_of defs) K) []) = subst (λ (z : List Decl). IsPrincipal a_type p (Types last (types_after (decls_of z) K) [])) (at_end le) (principal_alike (behind_all (take n defs) K) (sorts known) known_alike last p h) in
      record {
        schemes = subst (λ (z : List Scheme). HaveSchemes (decls_of defs) K z) (sym es) all;
        result = subst (λ (z : Scheme). IsPrincipal a_type z (Types last (types_after (decls_of defs) K) [])) (sym er) main;
        has_typing = (each_typed defs K ss all, main.has_one);
      }

  pub refuses_last : (last : Exp) (why : InferError) (refusal : Refusal) → length defs ≤ n → OnNoType refusal ((t : Ground) → Types last (sorts known) [] t → ⊥) → IsAt (length defs) refusal why → IsRefusal (decls_of defs) last (types_of sources) why
  refuses_last last NoMemory refusal le h at = tt
  refuses_last last (IllTyped m) WantOfMemory le h at = absurd at
  refuses_last last (IllTyped m) NoType le h at =
      let K = types_at_first (types_of sources) in
      let all = subst (λ (z : List Decl). HaveSchemes (decls_of z) K ss) (at_end le) have in
      let none : (t : Ground) → Types last (types_after (decls_of defs) K) [] t → ⊥ = subst (λ (z : List Decl). (t : Ground) → Types last (types_after (decls_of z) K) [] t → ⊥) (at_end le) (λ t f. h t (forth (behind_all (take n defs) K) (sorts known) known_alike last t f)) in
      record {
        fails = subst (λ (z : ℕ). FailsAt (decls_of defs) last K z) (sym at) (fails_last defs last K ss all none);
        none = λ t. none t.1.0 t.1.1;
      }
