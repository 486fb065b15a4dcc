-- The nearest free position, as the walk over a term finds it.
use Rattle.std.proofs.Common.{◌≡◌, ℕ, ◌+◌, ◌-◌, ◌<◌, ◌≤◌, min, Bool, true, false, ◌||◌, cond, nat_eq, nat_lt, List, [], ◌∷◌, map, Option, Some, None, refl, sym, ap, subst, ◌∙◌, arith, ⊎_elim, ◌⊎◌, inl, inr}
use Rattle.std.proofs.lemmas.Bool.{cases_lt, lt-ltb, le-ltb, eqb-true, eq-eqb}
use Rattle.std.proofs.Math.Bool.{or-true}
use mathlib.Core.Path.{fun_ext}
use Rattle.kl_outcome.specs.Outcome.{Name}
use Rattle.kl_core.specs.declared.term.Term.{Term}
use Rattle.kl_core.specs.declared.term.Term.TheVariants as term
use Rattle.kl_core.specs.Trees.{Tree, Var, Const, Source, Rec, Proj, Inj, Case, Make, Union, Ext, If, Let, Prim, Trees, no_trees, trees, Parts, no_parts, parts, Arms, no_arms, rest, arm, arms_of, rest_of, view, view_part, parts_view}
use Rattle.kl_core.specs.Positions.{occurs_in, occurs_trees, occurs_parts, occurs_arms}
use Rattle.kl_core.proofs.Views.{view_Case, view_option}
use Rattle.kl_rules.specs.Nearness.{IsNearest, least, nearest_in, nearest_trees, nearest_parts, nearest_arms}

-- ---- the least number of which something is true

abbrev IsLeast : (ℕ → Bool) → Option ℕ → Type 0
IsLeast P (Some m) = (P m ≡ true) × ((j : ℕ) → P j ≡ true → m ≤ j)
IsLeast P None = (j : ℕ) → P j ≡ true → ⊥

one_of : (a b : Bool) → (a || b) ≡ true → (a ≡ true) ⊎ (b ≡ true)
one_of true b e = inl refl
one_of false b e = inr e

first_of : (a b : Bool) → a ≡ true → (a || b) ≡ true
first_of a b e = rw e refl

least_is : (P Q : ℕ → Bool) (o p : Option ℕ) → IsLeast P o → IsLeast Q p → IsLeast (λ j. P j || Q j) (least o p)
least_is P Q None None h g = λ j e. ⊎_elim (h j) (g j) (one_of (P j) (Q j) e)
least_is P Q None (Some y) h g = (rw g.0 (or-true (P y)), λ j e. ⊎_elim (λ a. absurd (h j a)) (g.1 j) (one_of (P j) (Q j) e))
least_is P Q (Some x) None h g = (first_of (P x) (Q x) h.0, λ j e. ⊎_elim (h.1 j) (λ b. absurd (g j b)) (one_of (P j) (Q j) e))
least_is P Q (Some x) (Some y) h g = (
  ⊎_elim (λ l. here x (omega (arith, l)) (first_of (P x) (Q x) h.0)) (λ l. here y (omega (arith, l)) (rw g.0 (or-true (P y)))) (cases_lt x y),
  λ j e. ⊎_elim (λ a. below_first j (h.1 j a)) (λ b. below_second j (g.1 j b)) (one_of (P j) (Q j) e),
)
  where
    here : (m : ℕ) → min x y ≡ m → (P m || Q m) ≡ true → (P (min x y) || Q (min x y)) ≡ true
    here m e f = subst (λ n. (P n || Q n) ≡ true) (sym e) f

    below_first : (j : ℕ) → x ≤ j → min x y ≤ j
    below_first j l = omega (arith, l)

    below_second : (j : ℕ) → y ≤ j → min x y ≤ j
    below_second j l = omega (arith, l)

none_at : IsLeast (λ j. false) None
none_at j e = cc

-- under one more binder
next_at : (n : ℕ) (f : ℕ → Bool) (o : Option ℕ) → IsLeast (λ j. f (n + 1 + j)) o → IsLeast (λ j. f (n + j + 1)) o
next_at n f o h = subst (λ P. IsLeast P o) (fun_ext λ j. ap f (moved n j)) h
  where
    moved : (n j : ℕ) → n + 1 + j ≡ n + j + 1
    moved n j = omega arith

var_at : (x n : ℕ) → IsLeast (λ j. nat_eq x (n + j)) (cond (nat_lt x n) None (Some (x - n)))
var_at x n = ⊎_elim low high (cases_lt x n)
  where
    not_there : x < n → (j : ℕ) → nat_eq x (n + j) ≡ true → ⊥
    not_there l j e = let same = eqb-true x (n + j) e in absurd (omega (arith, l, same))

    low : x < n → IsLeast (λ j. nat_eq x (n + j)) (cond (nat_lt x n) None (Some (x - n)))
    low l = rw (lt-ltb x n l) (not_there l)

    at_least : n ≤ x → (j : ℕ) → nat_eq x (n + j) ≡ true → x - n ≤ j
    at_least l j e = let same = eqb-true x (n + j) e in omega (arith, l, same)

    high : n ≤ x → IsLeast (λ j. nat_eq x (n + j)) (cond (nat_lt x n) None (Some (x - n)))
    high l = rw (le-ltb x n l) (eq-eqb x (n + (x - n)) (omega (arith, l)), at_least l)

mutual
  pub nearest_is : (t : Tree) (n : ℕ) → IsLeast (λ j. occurs_in (n + j) t) (nearest_in n t)
  nearest_is (Var x) n = var_at x n
  nearest_is (Const v) n = none_at
  nearest_is (Source i) n = none_at
  nearest_is (Rec ps) n = nearest_parts_is ps n
  nearest_is (Proj l a) n = nearest_is a n
  nearest_is (Inj l a) n = nearest_is a n
  nearest_is (Case a bs) n = least_is (λ j. occurs_in (n + j) a) (λ j. occurs_arms (n + j) bs) (nearest_in n a) (nearest_arms n bs) (nearest_is a n) (nearest_arms_is bs n)
  nearest_is (Make k ts) n = nearest_trees_is ts n
  nearest_is (Union a b) n = least_is (λ j. occurs_in (n + j) a) (λ j. occurs_in (n + j) b) (nearest_in n a) (nearest_in n b) (nearest_is a n) (nearest_is b n)
  nearest_is (Ext k b s) n = least_is (λ j. occurs_in (n + j + 1) b) (λ j. occurs_in (n + j) s) (nearest_in (n + 1) b) (nearest_in n s) (next_at n (λ m. occurs_in m b) (nearest_in (n + 1) b) (nearest_is b (n + 1))) (nearest_is s n)
  nearest_is (If a b c) n =
      least_is (λ j. occurs_in (n + j) a) (λ j. occurs_in (n + j) b || occurs_in (n + j) c) (nearest_in n a) (least (nearest_in n b) (nearest_in n c)) (nearest_is a n)
      (least_is (λ j. occurs_in (n + j) b) (λ j. occurs_in (n + j) c) (nearest_in n b) (nearest_in n c) (nearest_is b n) (nearest_is c n))
  nearest_is (Let a b) n = least_is (λ j. occurs_in (n + j) a) (λ j. occurs_in (n + j + 1) b) (nearest_in n a) (nearest_in (n + 1) b) (nearest_is a n) (next_at n (λ m. occurs_in m b) (nearest_in (n + 1) b) (nearest_is b (n + 1)))
  nearest_is (Prim c ts) n = nearest_trees_is ts n

  nearest_trees_is : (ts : Trees) (n : ℕ) → IsLeast (λ j. occurs_trees (n + j) ts) (nearest_trees n ts)
  nearest_trees_is no_trees n = none_at
  nearest_trees_is (trees t ts) n = least_is (λ j. occurs_in (n + j) t) (λ j. occurs_trees (n + j) ts) (nearest_in n t) (nearest_trees n ts) (nearest_is t n) (nearest_trees_is ts n)

  nearest_parts_is : (ps : Parts) (n : ℕ) → IsLeast (λ j. occurs_parts (n + j) ps) (nearest_parts n ps)
  nearest_parts_is no_parts n = none_at
  nearest_parts_is (parts l t ps) n = least_is (λ j. occurs_in (n + j) t) (λ j. occurs_parts (n + j) ps) (nearest_in n t) (nearest_parts n ps) (nearest_is t n) (nearest_parts_is ps n)

  nearest_arms_is : (bs : Arms) (n : ℕ) → IsLeast (λ j. occurs_arms (n + j) bs) (nearest_arms n bs)
  nearest_arms_is no_arms n = none_at
  nearest_arms_is (rest c) n = nearest_is c n
  nearest_arms_is (arm l b bs) n = least_is (λ j. occurs_in (n + j + 1) b) (λ j. occurs_arms (n + j) bs) (nearest_in (n + 1) b) (nearest_arms n bs) (next_at n (λ m. occurs_in m b) (nearest_in (n + 1) b) (nearest_is b (n + 1))) (nearest_arms_is bs n)

-- ---- what the calls answer

pub nearest_whole : (t : Tree) (o : Option ℕ) → o ≡ nearest_in 0 t → IsNearest t o
nearest_whole t o e = subst (IsNearest t) (sym e) (by_answer (nearest_in 0 t) (nearest_is t 0))
  where
    none_below : (j : ℕ) → 0 + j ≡ j
    none_below j = omega arith

    by_answer : (o : Option ℕ) → IsLeast (λ j. occurs_in (0 + j) t) o → IsNearest t o
    by_answer (Some m) h = (subst (λ j. occurs_in j t ≡ true) (none_below m) h.0, λ j f. h.1 j (subst (λ i. occurs_in i t ≡ true) (sym (none_below j)) f))
    by_answer None h = λ j f. h j (subst (λ i. occurs_in i t ≡ true) (sym (none_below j)) f)

-- ---- lists

least_assoc : (a b c : Option ℕ) → least (least a b) c ≡ least a (least b c)
least_assoc None b c = refl
least_assoc (Some x) None c = refl
least_assoc (Some x) (Some y) None = refl
least_assoc (Some x) (Some y) (Some z) = let e : min (min x y) z ≡ min x (min y z) = omega arith in ap (λ n. Some n) e

nearest_branches : (n : ℕ) (ps : List (Name × Term)) (last : Arms) → nearest_arms n (arms_of (map view_part ps) last) ≡ least (nearest_parts (n + 1) (parts_view ps)) (nearest_arms n last)
nearest_branches n [] last = refl
nearest_branches n (p ∷ ps) last = ap (least (nearest_in (n + 1) (view p.1))) (nearest_branches n ps last) ∙ sym (least_assoc (nearest_in (n + 1) (view p.1)) (nearest_parts (n + 1) (parts_view ps)) (nearest_arms n last))

pub nearest_case : (n : ℕ) (t a : Term) (ps : List (Name × Term)) (c : Option Term) → t ≡ term.Case a ps c
    → nearest_in n (view t) ≡ least (nearest_in n (view a)) (least (nearest_parts (n + 1) (parts_view ps)) (nearest_arms n (rest_of (view_option c))))
nearest_case n t a ps c e = ap (nearest_in n) (ap view e ∙ view_Case a ps c) ∙ ap (least (nearest_in n (view a))) (nearest_branches n ps (rest_of (view_option c)))
