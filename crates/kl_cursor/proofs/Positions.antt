-- Parts whose free positions have the same values mean the same, and have the same types.
use Rattle.std.proofs.Common.{◌≡◌, ◌⊎◌, ⊎_elim, ℕ, zero, suc, ◌+◌, ◌<◌, ◌≤◌, Bool, true, false, cond, List, [], ◌∷◌, length, Some, slice_get, refl, sym, ap, subst, ◌∙◌, arith}
use Rattle.std.specs.List.{AllByRecursion, Contains}
use Rattle.std.proofs.lemmas.List.Elements.{All-contains, All-from_recursion}
use Rattle.std.proofs.lemmas.Option.{slice_get_past}
use Rattle.kl_value.specs.declared.Value.{Value}
use Rattle.kl_type.specs.Ground.{Ground}
use Rattle.kl_outcome.specs.Typed.{Inhabits, HaveTypes}
use Rattle.kl_plan.specs.Nodes.{Node}
use Rattle.kl_plan.specs.Occurs.{occurs, frees_in}
use Rattle.kl_plan.specs.Subqueries.{with_value, values_at, Covers}
use Rattle.kl_plan.proofs.Agree.{AgreeAt}
use Rattle.kl_plan.proofs.Frees.{frees_bound, frees_covered, frees_listed}

-- ---- values at positions

there : (env : List Value) (x : ℕ) → x < length env → (v : Value) × (slice_get env x ≡ Some v)
there [] x h = absurd (omega arith)
there (v ∷ env) zero h = (v, refl)
there (w ∷ env) (suc x) h = there env x (omega arith)

same_read : (env to : List Value) (xs : List ℕ) → AllByRecursion (λ x. x < length env) xs → AllByRecursion (λ x. x < length to) xs → values_at env xs ≡ values_at to xs
    → (x : ℕ) → Contains xs x → slice_get env x ≡ slice_get to x
same_read env to [] h g e x m = absurd (omega (arith, m.1))
same_read env to (y ∷ ys) h g e x m = by m (λ n. same_read env to ys h.1 g.1 tails x n)
  where
    v : (z : Value) × (slice_get env y ≡ Some z)
    v = there env y h.0

    w : (z : Value) × (slice_get to y ≡ Some z)
    w = there to y g.0

    firsts : (v.0 ∷ values_at env ys) ≡ (w.0 ∷ values_at to ys)
    firsts = ap (λ o. with_value o (values_at env ys)) (sym v.1) ∙ e ∙ ap (λ o. with_value o (values_at to ys)) w.1

    heads : v.0 ≡ w.0
    heads = let f = firsts in cc

    tails : values_at env ys ≡ values_at to ys
    tails = let f = firsts in cc

    by : Contains (y ∷ ys) x → (Contains ys x → slice_get env x ≡ slice_get to x) → slice_get env x ≡ slice_get to x
    by (zero, lt, is) r = subst (λ z. slice_get env z ≡ slice_get to z) is (v.1 ∙ ap Some heads ∙ sym w.1)
    by (suc k, lt, is) r = r (k, omega (arith, lt), is)

below : (d : ℕ) (xs : List ℕ) (x : ℕ) → AllByRecursion (λ y. y < d) xs → Contains xs x → x < d
below d xs x h m = All-contains (λ y. y < d) xs x (All-from_recursion (λ y. y < d) xs h) m

pub have_length : (G : List Ground) (env : List Value) → HaveTypes G env → length env ≡ length G
have_length [] [] h = refl
have_length [] (v ∷ env) h = absurd h
have_length (t ∷ G) [] h = absurd h
have_length (t ∷ G) (v ∷ env) h = ap suc (have_length G env h.1)

module _ (p : Node) (G H : List Ground) (env to : List Value) (has : HaveTypes G env) (have : HaveTypes H to) (frees : frees_in (length G) p ≡ frees_in (length H) p) where
  -- a position that stands in the part is bound around it in both, or in none
  bound_too : (x : ℕ) → occurs x p ≡ true → x < length G → x < length H
  bound_too x o h = below (length H) (frees_in (length H) p) x (frees_bound (length H) p) (subst (λ xs. Contains xs x) frees (frees_listed (length G) p x h o))

  bound_back : (x : ℕ) → occurs x p ≡ true → x < length H → x < length G
  bound_back x o h = below (length G) (frees_in (length G) p) x (frees_bound (length G) p) (subst (λ xs. Contains xs x) (sym frees) (frees_listed (length H) p x h o))

  module _ (values : values_at env (frees_in (length G) p) ≡ values_at to (frees_in (length G) p)) where
    inside : (x : ℕ) → occurs x p ≡ true → x < length G → slice_get env x ≡ slice_get to x
    inside x o h =
        same_read env to (frees_in (length G) p)
        (frees_covered (length G) p env (have_length G env has)) (subst (λ xs. Covers xs to) (sym frees) (frees_covered (length H) p to (have_length H to have)))
        values x (frees_listed (length G) p x h o)

    pub values_agree : AgreeAt (λ n. occurs n p) env to
    values_agree x o = ⊎_elim (λ h. inside x o h)
        (λ h.
        let past : length H ≤ x = ⊎_elim (λ l. absurd (let b = bound_back x o l in omega arith)) (λ l. l) (either x (length H)) in
        let e = have_length G env has in let f = have_length H to have in
        slice_get_past env x (omega arith) ∙ sym (slice_get_past to x (omega arith)))
        (either x (length G))
      where
        either : (a b : ℕ) → (a < b) ⊎ (b ≤ a)
        either a b = grind arith

-- ---- types at positions

-- the types of some positions from one list, of all others from another
abbrev pub mixed : (ℕ → Bool) → ℕ → List Ground → List Ground → List Ground
mixed at n H [] = []
mixed at n [] (t ∷ G) = t ∷ mixed at (suc n) [] G
mixed at n (s ∷ H) (t ∷ G) = cond (at n) s t ∷ mixed at (suc n) H G

module _ (at : ℕ → Bool) where
  mixed_have : (n : ℕ) (H G : List Ground) (env to : List Value) → HaveTypes G env → HaveTypes H to → ((x : ℕ) → at (n + x) ≡ true → x < length H → slice_get env x ≡ slice_get to x) → HaveTypes (mixed at n H G) env
  mixed_have n H [] [] to g h e = tt
  mixed_have n H [] (v ∷ env) to g h e = absurd g
  mixed_have n H (t ∷ G) [] to g h e = absurd g
  mixed_have n [] (t ∷ G) (v ∷ env) to g h e = (g.0, mixed_have (suc n) [] G env to g.1 h (λ x o l. absurd (omega arith)))
  mixed_have n (s ∷ H) (t ∷ G) (v ∷ env) [] g h e = absurd h
  mixed_have n (s ∷ H) (t ∷ G) (v ∷ env) (w ∷ to) g h e =
      (by (at n) refl, mixed_have (suc n) H G env to g.1 h.1 (λ x o l. e (suc x) (subst (λ z. at z ≡ true) (omega arith) o) (omega arith)))
    where
      by : (b : Bool) → at n ≡ b → Inhabits (cond b s t) v
      by true o =
          let both : Some v ≡ Some w = e 0 (subst (λ z. at z ≡ true) (omega arith) o) (omega arith) in
          let same : v ≡ w = cc in
          subst (Inhabits s) (sym same) h.0
      by false o = g.0

  mixed_at : (n : ℕ) (H G : List Ground) → ((x : ℕ) → at (n + x) ≡ true → x < length H → x < length G) → ((x : ℕ) → at (n + x) ≡ true → x < length G → x < length H)
      → (x : ℕ) → at (n + x) ≡ true → slice_get H x ≡ slice_get (mixed at n H G) x
  mixed_at n [] [] up down x o = refl
  mixed_at n (s ∷ H) [] up down zero o = absurd (let l = up 0 o (omega arith) in omega arith)
  mixed_at n (s ∷ H) [] up down (suc x) o = slice_get_past H x (⊎_elim (λ l. absurd (let m = up (suc x) o (omega arith) in omega arith)) (λ l. l) (either x (length H)))
    where
      either : (a b : ℕ) → (a < b) ⊎ (b ≤ a)
      either a b = grind arith
  mixed_at n [] (t ∷ G) up down zero o = absurd (let l = down 0 o (omega arith) in omega arith)
  mixed_at n [] (t ∷ G) up down (suc x) o =
      mixed_at (suc n) [] G (λ y q l. absurd (omega arith)) (λ y q l. absurd (let m = down (suc y) (subst (λ z. at z ≡ true) (omega arith) q) (omega arith) in omega arith)) x (subst (λ z. at z ≡ true) (omega arith) o)
  mixed_at n (s ∷ H) (t ∷ G) up down zero o =
      let here : at n ≡ true = subst (λ z. at z ≡ true) (omega arith) o in
      ap (λ b. Some (cond b s t)) (sym here)
  mixed_at n (s ∷ H) (t ∷ G) up down (suc x) o =
      mixed_at (suc n) H G
      (λ y q l. let m = up (suc y) (subst (λ z. at z ≡ true) (omega arith) q) (omega arith) in omega arith)
      (λ y q l. let m = down (suc y) (subst (λ z. at z ≡ true) (omega arith) q) (omega arith) in omega arith)
      x (subst (λ z. at z ≡ true) (omega arith) o)

-- The types under which a part stands elsewhere, as far as it has the positions, and else those that the values here have.
module _ (p : Node) (G H : List Ground) (env to : List Value) (has : HaveTypes G env) (have : HaveTypes H to) (frees : frees_in (length G) p ≡ frees_in (length H) p)
    (values : values_at env (frees_in (length G) p) ≡ values_at to (frees_in (length G) p)) where
  abbrev pub retyped : List Ground
  retyped = mixed (λ n. occurs n p) 0 H G

  zero_on : (x : ℕ) → occurs (0 + x) p ≡ true → occurs x p ≡ true
  zero_on x o = subst (λ z. occurs z p ≡ true) (omega arith) o

  pub retyped_have : HaveTypes retyped env
  retyped_have = mixed_have (λ n. occurs n p) 0 H G env to has have (λ x o l. values_agree p G H env to has have frees values x (zero_on x o))

  pub retyped_at : (x : ℕ) → occurs x p ≡ true → slice_get H x ≡ slice_get retyped x
  retyped_at x o =
      mixed_at (λ n. occurs n p) 0 H G (λ y q l. bound_back p G H env to has have frees y (zero_on y q) l) (λ y q l. bound_too p G H env to has have frees y (zero_on y q) l)
      x (subst (λ z. occurs z p ≡ true) (omega arith) o)
