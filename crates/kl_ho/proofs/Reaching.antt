-- Declarations, one by one: what is made of those so far and of the rest is an expansion of the program.
use Rattle.std.proofs.Common.{◌≡◌, ℕ, suc, ◌+◌, ◌<◌, ◌≤◌, List, [], ◌∷◌, ◌++◌, Option, Some, None, Result, Ok, Err, IfOk, IfErr, refl, sym, ap, ◌∙◌, subst, length, get_or, drop, append_assoc, append-nil, arith}
use Rattle.std.specs.Result.{IsErrAnd}
use Rattle.std.proofs.lemmas.List.{drop_all}
use Rattle.std.specs.List.{AllByRecursion}
use Rattle.kl_base.proofs.Each.{all_append}
use Rattle.kl_outcome.specs.Outcome.{Name}
use Rattle.kl_scope.specs.Walks.{onto, decl_front}
use Rattle.kl_syntax.specs.declared.tree.Decl.{Decl}
use Rattle.kl_syntax.specs.declared.tree.Expr.{Expr}
use Rattle.kl_syntax.specs.declared.tree.Pattern.{Pattern}
use Rattle.kl_syntax.specs.declared.tree.Word.{Word}
use Rattle.kl_syntax.specs.Syntax.{Pat, any, Exp, Decls, no_decls, constant, function}
use Rattle.kl_syntax.specs.View.{view, pattern_view, decl_of, decls_of}
use Rattle.kl_ho.specs.declared.expanded.ExpandError.{ExpandError}
use Rattle.kl_ho.specs.declared.expanded.ExpandError.TheVariants as refusal
use Rattle.kl_ho.specs.Declaring.{SomeExpansion, EachListed, higher_by, behind_by, PartsMade, DeclMade, BodyMade, Added, LastMade, RefusedAt}
use Rattle.kl_ho.specs.Expanded.{IsBig, IsSmall, IsFirstBig, IsRefusal, left_in, bodies}
use Rattle.kl_ho.specs.Expansion.{Scope, New, Expands}
use Rattle.kl_ho.specs.declared.stop.Stop.{Stop}
use Rattle.kl_ho.specs.declared.stop.Stop.TheVariants as stop
use Rattle.kl_ho.specs.Growing.{scope_of, AnyExp, made as given, too_big, told, GivesExp, GivesWithin, within_view}
use Rattle.kl_ho.specs.Highers.{Higher, Highers}
use Rattle.kl_ho.specs.HoPrograms.{FunctionFields, ProgramExpands, x_last, x_constant, x_function, x_dropped, higher_from, with_higher, no_highers}
use Rattle.kl_ho.specs.KeptPrograms.{begins, listed}
use Rattle.kl_ho.specs.Nodes.{nodes}
use Rattle.kl_ho.specs.Shapes.{names_after}
use Rattle.kl_ho.proofs.Counting.{some_none}
use Rattle.kl_ho.proofs.Ending.{raise, left, right}
use Rattle.kl_ho.proofs.Loops.{onto_push}
use Rattle.kl_base.proofs.Places.{drop_at}

abbrev pub HasExpansion : Highers → Exp → Type 0
HasExpansion highers a = (n : ℕ) × (x : Exp) × (is_new : New) × (S : Scope) × Expands is_new highers n [] S a x

module _ (fields : FunctionFields) (highers : Highers) where
  behind_dropped : {is_new : New} {n : ℕ} {cs : Decls} {x : Exp} (d : Word) (p : Pat) (a : Exp) (ds : Decls) (e : Exp) (h : Higher) → higher_from (fields d.text) p a ≡ Some h
      → ProgramExpands is_new fields n highers (function d p a ds) e cs x → SomeExpansion fields (with_higher d.text (Some h) highers) ds e
  behind_dropped d p a ds e h q (x_function i t r k l) = absurd (some_none q i)
  behind_dropped {is_new = is_new} {n = n} {cs = cs} {x = x} d p a ds e h q (x_dropped g i k) =
      (is_new, n, cs, x, subst (λ o. ProgramExpands is_new fields n (with_higher d.text o highers) ds e cs x) (sym i ∙ q) k)

  behind_function : {is_new : New} {n : ℕ} {cs : Decls} {x : Exp} (d : Word) (p : Pat) (a : Exp) (ds : Decls) (e : Exp) → higher_from (fields d.text) p a ≡ None
      → ProgramExpands is_new fields n highers (function d p a ds) e cs x → SomeExpansion fields (with_higher d.text None highers) ds e × HasExpansion highers a
  behind_function {is_new = is_new} {n = n} d p a ds e q (x_function {S = S} {b = b} {x = x} {cs = cs} i t r h k) = ((is_new, n, cs, x, k), (n, b, is_new, S, h))
  behind_function d p a ds e q (x_dropped g i k) = absurd (some_none i q)

  behind_constant : {is_new : New} {n : ℕ} {cs : Decls} {x : Exp} (d : Word) (a : Exp) (ds : Decls) (e : Exp) → ProgramExpands is_new fields n highers (constant d a ds) e cs x → SomeExpansion fields highers ds e × HasExpansion highers a
  behind_constant {is_new = is_new} {n = n} d a ds e (x_constant {b = b} {x = x} {cs = cs} t h k) = ((is_new, n, cs, x, k), (n, b, is_new, [], h))

  last_expansion : {is_new : New} {n : ℕ} {cs : Decls} {x : Exp} (e : Exp) → ProgramExpands is_new fields n highers no_decls e cs x → HasExpansion highers e
  last_expansion {is_new = is_new} {n = n} e (x_last {x = x} h) = (n, x, is_new, [], h)

module _ (base : Name) (fields : FunctionFields) (highers : Highers) (d : Decl) (ds : Decls) (e : Exp) where
  -- ---- a definition with function fields

  dropped_expands : (p : Option Pattern) (h : Higher) (m : ℕ) (cs : Decls) (x : Exp) → higher_by (fields d.name.text) p d.body ≡ Some h
      → ProgramExpands (begins base) fields m (behind_by p d.name.text (Some h) highers) ds e cs x → ProgramExpands (begins base) fields m highers (decl_of p d ds) e cs x
  dropped_expands (Some p) h m cs x q k = x_dropped h q k
  dropped_expands None h m cs x q k = absurd (some_none q refl)

  some_dropped : (p : Option Pattern) (h : Higher) → higher_by (fields d.name.text) p d.body ≡ Some h → SomeExpansion fields highers (decl_of p d ds) e → SomeExpansion fields (behind_by p d.name.text (Some h) highers) ds e
  some_dropped (Some p) h q s = behind_dropped fields highers d.name (pattern_view p) (view d.body) ds e h q s.4
  some_dropped None h q s = absurd (some_none q refl)

  left_dropped : (p : Option Pattern) (h : Higher) (k : ℕ) → higher_by (fields d.name.text) p d.body ≡ Some h → left_in fields (decl_of p d ds) k ≡ left_in fields ds (suc k)
  left_dropped (Some p) h k q = rw q refl
  left_dropped None h k q = absurd (some_none q refl)

  first_dropped : (p : Option Pattern) (h : Higher) (k : ℕ) → higher_by (fields d.name.text) p d.body ≡ Some h → IsFirstBig fields ds e (behind_by p d.name.text (Some h) highers) k
      → IsFirstBig fields (decl_of p d ds) e highers (suc k)
  first_dropped (Some p) h k q f = rw q f
  first_dropped None h k q f = absurd (some_none q refl)

  -- ---- another

  made_expands : (p o : Option Pattern) (c : Decl) (n m : ℕ) (cs : Decls) (x : Exp) → higher_by (fields d.name.text) p d.body ≡ None → c.name.text ≡ d.name.text → PartsMade base highers n p o (view d.body) (view c.body) → n ≤ m
      → ProgramExpands (begins base) fields m (behind_by p d.name.text None highers) ds e cs x → ProgramExpands (begins base) fields m highers (decl_of p d ds) e (decl_of o c cs) x
  made_expands None None c n m cs x q t h l k = x_constant t (raise (begins base) highers h m l) k
  made_expands (Some p) (Some o) c n m cs x q t h l k = x_function q t h.0 (raise (begins base) highers h.1 m l) k
  made_expands None (Some o) c n m cs x q t h l k = absurd h
  made_expands (Some p) None c n m cs x q t h l k = absurd h

  some_made : (p : Option Pattern) → higher_by (fields d.name.text) p d.body ≡ None → SomeExpansion fields highers (decl_of p d ds) e
      → SomeExpansion fields (behind_by p d.name.text None highers) ds e × HasExpansion highers (view d.body)
  some_made None q s = behind_constant fields highers d.name (view d.body) ds e s.4
  some_made (Some p) q s = behind_function fields highers d.name (pattern_view p) (view d.body) ds e q s.4

  left_made : (p : Option Pattern) (k : ℕ) → higher_by (fields d.name.text) p d.body ≡ None → left_in fields (decl_of p d ds) k ≡ k ∷ left_in fields ds (suc k)
  left_made (Some p) k q = rw q refl
  left_made None k q = refl

  first_made : (p : Option Pattern) (k : ℕ) → higher_by (fields d.name.text) p d.body ≡ None → IsSmall highers (view d.body) → IsFirstBig fields ds e (behind_by p d.name.text None highers) k
      → IsFirstBig fields (decl_of p d ds) e highers (suc k)
  first_made (Some p) k q s f = rw q (s, f)
  first_made None k q s f = (s, f)

  first_here : (p : Option Pattern) → higher_by (fields d.name.text) p d.body ≡ None → IsBig highers (view d.body) → IsFirstBig fields (decl_of p d ds) e highers 0
  first_here (Some p) q b = rw q b
  first_here None q b = b

  parts_small : (p o : Option Pattern) (c : Decl) (n : ℕ) → PartsMade base highers n p o (view d.body) (view c.body) → nodes (view c.body) ≤ 4096 → IsSmall highers (view d.body)
  parts_small None None c n h l = (n, view c.body, (begins base, [], h), l)
  parts_small (Some p) (Some o) c n h l = (n, view c.body, (begins base, scope_of base (names_after (pattern_view p) []), h.1), l)
  parts_small None (Some o) c n h l = absurd h
  parts_small (Some p) None c n h l = absurd h

  is_big : HasExpansion highers (view d.body) → ((x : Exp) → AnyExp highers (view d.body) [] x → 4096 < nodes x) → IsBig highers (view d.body)
  is_big s b = (s.0, s.1, (s.2, s.3, s.4), b s.1 (s.2, s.3, s.0, s.4))

-- ---- how far the program is expanded

-- `made` are the expansions of the first i declarations, and behind them stand those of `rest`
pub record Reached (base : Name) (fields : FunctionFields) (ds : Decls) (e : Exp) (highers : Highers) (rest : Decls) (i : ℕ) (made : List Decl) (from : List ℕ) : Type 0 where
  pub expands : (n : ℕ) × ((m : ℕ) (cs : Decls) (x : Exp) → n ≤ m → ProgramExpands (begins base) fields m highers rest e cs x → ProgramExpands (begins base) fields m no_highers ds e (onto decl_front made cs) x)
  pub some : SomeExpansion fields highers rest e
  pub numbers : left_in fields ds 0 ≡ from ++ left_in fields rest i
  pub first : (k : ℕ) → IsFirstBig fields rest e highers k → IsFirstBig fields ds e no_highers (i + k)
  pub small : AllByRecursion (λ c. nodes (view c.body) ≤ 4096) made

-- before anything is made
pub reached_first : (base : Name) (fields : FunctionFields) (ds : Decls) (e : Exp) → SomeExpansion fields no_highers ds e → Reached base fields ds e no_highers ds 0 [] []
reached_first base fields ds e s = record { expands = (0, λ m cs x l k. k); some = s; numbers = refl; first = λ k f. let same : k ≡ 0 + k = omega arith in subst (IsFirstBig fields ds e no_highers) same f; small = tt }

module _ (base : Name) (fields : FunctionFields) (ds : Decls) (e : Exp) (highers : Highers) (rest : Decls) (i : ℕ) (made : List Decl) (from : List ℕ) (d : Decl) where
  reached_dropped : (p : Option Pattern) (h : Higher) → higher_by (fields d.name.text) p d.body ≡ Some h → Reached base fields ds e highers (decl_of p d rest) i made from
      → Reached base fields ds e (behind_by p d.name.text (Some h) highers) rest (i + 1) made from
  reached_dropped p h q r =
      let one : suc i ≡ i + 1 = omega arith in record {
        expands = (r.expands.0, λ m cs x l k. r.expands.1 m cs x l (dropped_expands base fields highers d rest e p h m cs x q k));
        some = some_dropped base fields highers d rest e p h q r.some;
        numbers = r.numbers ∙ ap (λ z. from ++ z) (left_dropped base fields highers d rest e p h i q ∙ ap (left_in fields rest) one);
        first = λ k f. let next : i + suc k ≡ (i + 1) + k = omega arith in subst (IsFirstBig fields ds e no_highers) next (r.first (suc k) (first_dropped base fields highers d rest e p h k q f));
        small = r.small;
      }

  reached_made : (p : Option Pattern) (c : Decl) (n : ℕ) → higher_by (fields d.name.text) p d.body ≡ None → c.name.text ≡ d.name.text → PartsMade base highers n p c.param (view d.body) (view c.body) → nodes (view c.body) ≤ 4096
      → Reached base fields ds e highers (decl_of p d rest) i made from → Reached base fields ds e (behind_by p d.name.text None highers) rest (i + 1) (made ++ c ∷ []) (from ++ i ∷ [])
  reached_made p c n q t h l r =
      let one : suc i ≡ i + 1 = omega arith in record {
        expands = (
          r.expands.0 + n,
          λ m cs x le k.
              let near : n ≤ m = omega (arith, le) in
              let far : r.expands.0 ≤ m = omega (arith, le) in
              subst (λ z. ProgramExpands (begins base) fields m no_highers ds e z x) (sym (onto_push decl_front made c cs))
              (r.expands.1 m (decl_of c.param c cs) x far (made_expands base fields highers d rest e p c.param c n m cs x q t h near k)),
        );
        some = (some_made base fields highers d rest e p q r.some).0;
        numbers = r.numbers ∙ ap (λ z. from ++ z) (left_made base fields highers d rest e p i q ∙ ap (λ z. i ∷ left_in fields rest z) one) ∙ sym (append_assoc from (i ∷ []) (left_in fields rest (i + 1)));
        first = λ k f. let next : i + suc k ≡ (i + 1) + k = omega arith in
            subst (IsFirstBig fields ds e no_highers) next (r.first (suc k) (first_made base fields highers d rest e p k q (parts_small base fields highers d rest e p c.param c n h l) f));
        small = all_append (λ c. nodes (view c.body) ≤ 4096) made (c ∷ []) r.small (l, tt);
      }

  pub reached_next : (o : Option Higher) (K : Highers) (all : List Decl) (numbers : List ℕ) (u : Unit {0}) → o ≡ higher_by (fields d.name.text) d.param d.body → K ≡ behind_by d.param d.name.text o highers
      → Added base highers o d i made from all numbers (Ok u) → Reached base fields ds e highers (decl_of d.param d rest) i made from → Reached base fields ds e K rest (i + 1) all numbers
  reached_next (Some h) K all numbers u q k a r = rw (k, a.0, a.1) (reached_dropped d.param h (sym q) r)
  reached_next None K all numbers u q k (c, m, f, g) r = rw (k, f, g) (reached_made d.param c m.1.0 (sym q) m.0 m.1.1 m.2 r)

  -- the declaration is the first that is too big
  pub first_stopped : (o : Option Higher) (all : List Decl) (numbers : List ℕ) (n : ℕ) → o ≡ higher_by (fields d.name.text) d.param d.body
      → Added base highers o d i made from all numbers (Err (refusal.TooBig n)) → Reached base fields ds e highers (decl_of d.param d rest) i made from → IsFirstBig fields ds e no_highers n
  first_stopped o all numbers n q a r =
      let none : higher_by (fields d.name.text) d.param d.body ≡ None = sym q ∙ a.0 in
      let here : i + 0 ≡ n = omega (arith, a.1) in
      subst (IsFirstBig fields ds e no_highers) here
      (r.first 0 (first_here base fields highers d rest e d.param none (is_big base fields highers d rest e (some_made base fields highers d rest e d.param none r.some).1 a.2)))

-- ---- the last expression

decls_made : (ds cs : List Decl) → onto decl_front ds (decls_of cs) ≡ decls_of (ds ++ cs)
decls_made [] cs = refl
decls_made (d ∷ ds) cs = ap (decl_of d.param d) (decls_made ds cs)

with_body : (d : Decl) (p : Option Pattern) (ds : Decls) (x : Exp) → nodes (view d.body) ≤ 4096 → AllByRecursion (λ a. nodes a ≤ 4096) (bodies ds x) → AllByRecursion (λ a. nodes a ≤ 4096) (bodies (decl_of p d ds) x)
with_body d (Some p) ds x l s = (l, s)
with_body d None ds x l s = (l, s)

pub bodies_small : (ds : List Decl) (x : Exp) → AllByRecursion (λ c. nodes (view c.body) ≤ 4096) ds → nodes x ≤ 4096 → AllByRecursion (λ a. nodes a ≤ 4096) (bodies (decls_of ds) x)
bodies_small [] x s l = (l, tt)
bodies_small (d ∷ ds) x s l = with_body d d.param (decls_of ds) x s.0 (bodies_small ds x s.1 l)

module _ (base : Name) (fields : FunctionFields) (ds : Decls) (e : Exp) (highers : Highers) (i : ℕ) (made : List Decl) (from : List ℕ) (r : Reached base fields ds e highers no_decls i made from) where
  pub whole_expands : (n : ℕ) (x : Exp) → Expands (begins base) highers n [] [] e x → (m : ℕ) × ProgramExpands (begins base) fields m no_highers ds e (decls_of made) x
  whole_expands n x h =
      let m = r.expands.0 + n in
      (m, subst (λ z. ProgramExpands (begins base) fields m no_highers ds e z x) (decls_made made [] ∙ ap decls_of (append-nil made)) (r.expands.1 m no_decls x (left r.expands.0 n) (x_last (raise (begins base) highers h m (right r.expands.0 n)))))

  pub last_stopped : ((x : Exp) → AnyExp highers e [] x → 4096 < nodes x) → IsFirstBig fields ds e no_highers i
  last_stopped b =
      let here : i + 0 ≡ i = omega arith in
      let s = last_expansion fields highers e r.some.4 in
      subst (IsFirstBig fields ds e no_highers) here (r.first 0 (refl, (s.0, s.1, (s.2, s.3, s.4), b s.1 (s.2, s.3, s.0, s.4))))

-- ---- what the code answers

module _ (base : Name) (highers : Highers) (d : Decl) where
  -- a definition without a parameter, and one with a parameter
  pub constant_made : (c : Decl) (b rest : ℕ) → d.param ≡ None → c.param ≡ None → c.name.text ≡ d.name.text → b ≡ 4096 → GivesExp base highers [] [] (view d.body) b (given (view c.body) rest) → DeclMade base highers d (Ok c)
  constant_made c b rest p q t e h = (t, (h.0, rw (p, q) h.1), omega (arith, e, h.2))

  pub function_made : (c : Decl) (p q : Pattern) (b rest : ℕ) → d.param ≡ Some p → c.param ≡ Some q → c.name.text ≡ d.name.text → b ≡ 4096
      → GivesWithin base highers [] [] (pattern_view p) (view d.body) b (given (pattern_view q, view c.body) rest) → DeclMade base highers d (Ok c)
  function_made c p q b rest s u t e h = (t, (h.0, rw (s, u) h.1), omega (arith, e, h.2))

  pub constant_stopped : (r : Result Decl Stop) (s : Stop) (b rest : ℕ) → IsErrAnd r (λ z. z ≡ s) → b ≡ 4096 → GivesExp base highers [] [] (view d.body) b (told {X = Expr} view (Err s) rest) → DeclMade base highers d r
  constant_stopped (Ok c) s b rest h e g = absurd h
  constant_stopped (Err stop.NoMemory) s b rest h e g = tt
  constant_stopped (Err stop.TooBig) s b rest h e g =
      let big : GivesExp base highers [] [] (view d.body) b too_big = subst (λ z. GivesExp base highers [] [] (view d.body) b (told {X = Expr} view (Err z) rest)) (sym h) g in
      λ x a. omega (arith, e, big x a)

  pub function_stopped : (r : Result Decl Stop) (s : Stop) (p : Pat) (b rest : ℕ) → IsErrAnd r (λ z. z ≡ s) → b ≡ 4096
      → GivesWithin base highers [] [] p (view d.body) b (told {X = Pattern × Expr} within_view (Err s) rest) → DeclMade base highers d r
  function_stopped (Ok c) s p b rest h e g = absurd h
  function_stopped (Err stop.NoMemory) s p b rest h e g = tt
  function_stopped (Err stop.TooBig) s p b rest h e g =
      let big : GivesWithin base highers [] [] p (view d.body) b too_big = subst (λ z. GivesWithin base highers [] [] p (view d.body) b (told {X = Pattern × Expr} within_view (Err z) rest)) (sym h) g in
      λ x a. omega (arith, e, big (any, x) a)

  -- listed with its number, or refused
  pub listed_made : (k : ℕ) (before all : List Decl) (from numbers : List ℕ) (c : Decl) (r : Result (Unit {0}) ExpandError) → DeclMade base highers d (Ok c) → IfOk r (λ _. all ≡ before ++ c ∷ []) → IfOk r (λ _. numbers ≡ from ++ k ∷ [])
      → IfErr r (λ e. e ≡ refusal.NoMemory) → Added base highers None d k before from all numbers r
  listed_made k before all from numbers c (Ok u) m a n w = (c, m, a, n)
  listed_made k before all from numbers c (Err (refusal.TooBig j)) m a n w = let z : ⊥ = cc in absurd z
  listed_made k before all from numbers c (Err refusal.NoMemory) m a n w = tt

  pub refused_made : (k : ℕ) (before all : List Decl) (from numbers : List ℕ) (s : Stop) (e : ExpandError) → DeclMade base highers d (Err s) → RefusedAt k s e → Added base highers None d k before from all numbers (Err e)
  refused_made k before all from numbers s (refusal.TooBig j) m r = (refl, r.1, subst (λ z. DeclMade base highers d (Err z)) r.0 m)
  refused_made k before all from numbers s refusal.NoMemory m r = tt

module _ (base : Name) (highers : Highers) (e : Expr) where
  pub body_made : (r : Result Expr Stop) (b rest : ℕ) → b ≡ 4096 → GivesExp base highers [] [] (view e) b (told view r rest) → BodyMade base highers e r
  body_made (Ok x) b rest q h = ((h.0, h.1), omega (arith, q, h.2))
  body_made (Err stop.TooBig) b rest q h = λ x a. omega (arith, q, h x a)
  body_made (Err stop.NoMemory) b rest q h = tt

  pub listed_last : (k : ℕ) (from numbers : List ℕ) (x : Expr) (r : Result Expr ExpandError) → BodyMade base highers e (Ok x) → IfOk r (λ y. y ≡ x) → IfOk r (λ _. numbers ≡ from ++ k ∷ []) → IfErr r (λ e. e ≡ refusal.NoMemory)
      → LastMade base highers e k from numbers r
  listed_last k from numbers x (Ok y) m s n w = rw s (m.0, m.1, n)
  listed_last k from numbers x (Err (refusal.TooBig j)) m s n w = let z : ⊥ = cc in absurd z
  listed_last k from numbers x (Err refusal.NoMemory) m s n w = tt

  pub refused_last : (k : ℕ) (from numbers : List ℕ) (s : Stop) (r : ExpandError) → BodyMade base highers e (Err s) → RefusedAt k s r → LastMade base highers e k from numbers (Err r)
  refused_last k from numbers s (refusal.TooBig j) m r = (r.1, subst (λ z. BodyMade base highers e (Err z)) r.0 m)
  refused_last k from numbers s refusal.NoMemory m r = tt

-- ---- what the whole answers

pub refused_as : {X : Type 0} (fields : FunctionFields) (ds : Decls) (e : Exp) (r : Result X ExpandError) (s : ExpandError) → IsErrAnd r (λ z. z ≡ s) → IsRefusal fields ds e s → IfErr r (IsRefusal fields ds e)
refused_as fields ds e (Ok x) s h k = tt
refused_as fields ds e (Err z) s h k = subst (IsRefusal fields ds e) (sym h) k

module _ (base : Name) (ds : List Decl) (lss : List (List Name)) (last : Expr) (highers : Highers) (i : ℕ) (made : List Decl) (from : List ℕ) where
  abbrev At : List Decl → Type 0
  At rest = Reached base (listed ds lss) (decls_of ds) (view last) highers (decls_of rest) i made from

  -- the definition at a place
  pub own_at : (d : Decl) (ls labels : List Name) (o : Option Higher) → EachListed ds lss → i < length ds → d ≡ get_or ds i d → ls ≡ get_or lss i ls → labels ≡ ls → o ≡ higher_by labels d.param d.body
      → o ≡ higher_by (listed ds lss d.name.text) d.param d.body
  own_at d ls labels o each l s t q h = h ∙ ap (λ z. higher_by z d.param d.body) (q ∙ sym (each i d ls l s t))

  pub next_at : (d : Decl) (o : Option Higher) (K : Highers) (all : List Decl) (numbers : List ℕ) (u : Unit {0}) → i < length ds → d ≡ get_or ds i d → o ≡ higher_by (listed ds lss d.name.text) d.param d.body
      → K ≡ behind_by d.param d.name.text o highers → Added base highers o d i made from all numbers (Ok u) → At (drop i ds)
      → Reached base (listed ds lss) (decls_of ds) (view last) K (decls_of (drop (i + 1) ds)) (i + 1) all numbers
  next_at d o K all numbers u l s q k a r =
      reached_next base (listed ds lss) (decls_of ds) (view last) highers (decls_of (drop (i + 1) ds)) i made from d o K all numbers u q k a (subst At (drop_at ds i d l s) r)

  pub stopped_at : (d : Decl) (o : Option Higher) (all : List Decl) (numbers : List ℕ) (e : ExpandError) → i < length ds → d ≡ get_or ds i d → o ≡ higher_by (listed ds lss d.name.text) d.param d.body
      → Added base highers o d i made from all numbers (Err e) → At (drop i ds) → IsRefusal (listed ds lss) (decls_of ds) (view last) e
  stopped_at d o all numbers (refusal.TooBig n) l s q a r =
      first_stopped base (listed ds lss) (decls_of ds) (view last) highers (decls_of (drop (i + 1) ds)) i made from d o all numbers n q a (subst At (drop_at ds i d l s) r)
  stopped_at d o all numbers refusal.NoMemory l s q a r = tt

  -- behind all definitions
  module _ (n : ℕ) (l : length ds ≤ i) (place : n ≡ i) (r : At (drop i ds)) where
    all_done : At []
    all_done = subst At (drop_all i ds l) r

    pub expands_all : (numbers : List ℕ) (x : Expr) → LastMade base highers last n from numbers (Ok x) → (m : ℕ) × ProgramExpands (begins base) (listed ds lss) m no_highers (decls_of ds) (view last) (decls_of made) (view x)
    expands_all numbers x h = whole_expands base (listed ds lss) (decls_of ds) (view last) highers i made from all_done h.0.0 (view x) h.0.1

    pub within_all : (numbers : List ℕ) (x : Expr) → LastMade base highers last n from numbers (Ok x) → AllByRecursion (λ a. nodes a ≤ 4096) (bodies (decls_of made) (view x))
    within_all numbers x h = bodies_small made (view x) all_done.small h.1

    pub numbers_all : (numbers : List ℕ) (x : Expr) → LastMade base highers last n from numbers (Ok x) → numbers ≡ left_in (listed ds lss) (decls_of ds) 0
    numbers_all numbers x h = h.2 ∙ ap (λ z. from ++ z ∷ []) place ∙ sym all_done.numbers

    pub stopped_last : (numbers : List ℕ) (e : ExpandError) → LastMade base highers last n from numbers (Err e) → IsRefusal (listed ds lss) (decls_of ds) (view last) e
    stopped_last numbers (refusal.TooBig j) h = rw (h.0, place) (last_stopped base (listed ds lss) (decls_of ds) (view last) highers i made from all_done h.1)
    stopped_last numbers refusal.NoMemory h = tt
