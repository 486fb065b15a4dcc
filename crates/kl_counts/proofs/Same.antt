-- What a part comes to depends on its free positions alone.
use Rattle.std.proofs.Common.{◌≡◌, ◌≤◌, ◌<◌, ℕ, zero, suc, ◌+◌, ◌-◌, Bool, true, false, ◌||◌, List, [], ◌∷◌, Option, Some, cond, nat_eq, length, get_or, slice_get, refl, sym, ap, subst, ◌∙◌, arith}
use Rattle.std.specs.Cmp.Lexicographic.{pointwise}
use Rattle.std.specs.List.{list_any, AllByRecursion}
use Rattle.std.proofs.lemmas.Bool.Decides.{Decides-eqb}
use Rattle.std.proofs.lemmas.Option.{slice_get-get_or}
use mathlib.Core.Path.{fun_ext, ap₂}
use Rattle.kl_value.specs.Views.{as_bool, field_at}
use Rattle.kl_value.specs.declared.Kind.{Kind}
use Rattle.kl_value.specs.declared.Value.{Value}
use Rattle.kl_value.specs.declared.Value.TheVariants as value
use Rattle.kl_outcome.specs.Outcome.{Name, as_variant}
use Rattle.kl_ask.specs.declared.settings.JoinHow.{JoinHow}
use Rattle.kl_plan.specs.Alike.{weight}
use Rattle.kl_plan.specs.declared.plan.Scan.{Scan}
use Rattle.kl_plan.specs.Nodes as node
use Rattle.kl_plan.specs.Nodes.{Node, Nodes, no_nodes, nodes, Fields, no_fields, fields, Branches, no_branches, rest, branch, Key as JoinKey, no_key, key}
use Rattle.kl_plan.specs.Meaning.{Readings, worth, drawn_for, same_key, scanned}
use Rattle.kl_plan.specs.Reached.{once, chosen_of, opened_of, passes, reached, reached_nodes, reached_fields, reached_branch, reached_conds, reached_key}
use Rattle.kl_plan.specs.Subqueries.{with_value, values_at}
use Rattle.kl_counts.specs.Keys.{filled, under}
use Rattle.kl_plan.specs.Prices.{Prices, executed}
use Rattle.kl_counts.specs.Places.{MemoFree, AnyScan, AnyJoin, NoMemo, PlacesNodes, PlacesFields, PlacesBranches, PlacesKey}
use Rattle.kl_plan.specs.Occurs.{occurs, occurs_nodes, occurs_fields, occurs_branches, occurs_key}
use Rattle.kl_plan.proofs.Agree.{AgreeAt, plan_agrees}
use Rattle.kl_counts.specs.Free.{Rise, AreFree}

agree_first : (f g : ℕ → Bool) (env to : List Value) → AgreeAt (λ x. f x || g x) env to → AgreeAt f env to
agree_first f g env to h x t = h x (ap (λ c. c || g x) t)

agree_second : (f g : ℕ → Bool) (env to : List Value) → AgreeAt (λ x. f x || g x) env to → AgreeAt g env to
agree_second f g env to h x t = h x (by (f x))
  where
    by : (b : Bool) → (b || g x) ≡ true
    by true = refl
    by false = t

agree_more : (f : ℕ → Bool) (v : Value) (env to : List Value) → AgreeAt (λ x. f (x + 1)) env to → AgreeAt f (v ∷ env) (v ∷ to)
agree_more f v env to h zero t = refl
agree_more f v env to h (suc x) t = h x (let e : suc x ≡ x + 1 = omega arith in subst (λ y. f y ≡ true) e t)

agree_two : (f : ℕ → Bool) (v w : Value) (env to : List Value) → AgreeAt (λ x. f (x + 2)) env to → AgreeAt f (v ∷ w ∷ env) (v ∷ w ∷ to)
agree_two f v w env to h = agree_more f v (w ∷ env) (w ∷ to) (agree_more (λ x. f (x + 1)) w env to
    (λ x t. h x (let e : x + 1 + 1 ≡ x + 2 = omega arith in subst (λ y. f y ≡ true) e t)))

pub nat_itself : (x : ℕ) → nat_eq x x ≡ true
nat_itself x = (Decides-eqb x x).1 refl

pub nat_is : (x y : ℕ) → nat_eq x y ≡ true → x ≡ y
nat_is x y h = (Decides-eqb x y).0 h

-- ---- plans

-- the conditions, the key and the body of a join
join_rest : (n : ℕ) (k : Kind) (way : JoinHow) (o : Node) (cs : Nodes) (i : Scan) (q : JoinKey) (b : Node) (env to : List Value) → AgreeAt (λ x. occurs x (node.Join n k way o cs i q b)) env to
    → AgreeAt (λ x. occurs_nodes (x + 1) cs) env to × AgreeAt (λ x. occurs_key (x + 1) q) env to × AgreeAt (λ x. occurs (x + 2) b) env to
join_rest n k way o cs i q b env to h =
    let more = agree_second (λ x. occurs x o) (λ x. occurs_nodes (x + 1) cs || (occurs_key (x + 1) q || occurs (x + 2) b)) env to h in
    let last = agree_second (λ x. occurs_nodes (x + 1) cs) (λ x. occurs_key (x + 1) q || occurs (x + 2) b) env to more in (
      agree_first (λ x. occurs_nodes (x + 1) cs) (λ x. occurs_key (x + 1) q || occurs (x + 2) b) env to more,
      agree_first (λ x. occurs_key (x + 1) q) (λ x. occurs (x + 2) b) env to last,
      agree_second (λ x. occurs_key (x + 1) q) (λ x. occurs (x + 2) b) env to last,
    )

module _ (R : Readings) where
  passes_agree : (cs : Nodes) (env to : List Value) → AgreeAt (λ x. occurs_nodes x cs) env to → passes R cs env ≡ passes R cs to
  passes_agree no_nodes env to h = refl
  passes_agree (nodes c cs) env to h =
      ap₂ (λ d n. once (worth d) (λ v. chosen_of (as_bool v) n 0)) (plan_agrees R c env to (agree_first (λ x. occurs x c) (λ x. occurs_nodes x cs) env to h))
      (passes_agree cs env to (agree_second (λ x. occurs x c) (λ x. occurs_nodes x cs) env to h))

  module _ (block : ℕ) (P : Prices) where
    mutual
      pub reached_agrees : (d : ℕ) (p : Node) (env to : List Value) → MemoFree d p → AgreeAt (λ x. occurs x p) env to → reached R block P p env ≡ reached R block P p to
      reached_agrees d (node.Plain t) env to m h = refl
      reached_agrees d (node.Var x) env to m h = refl
      reached_agrees d (node.Rec ps) env to m h = fields_agree d ps env to m h
      reached_agrees d (node.Proj l a) env to m h = reached_agrees d a env to m h
      reached_agrees d (node.Inj l a) env to m h = reached_agrees d a env to m h
      reached_agrees d (node.Case a bs) env to m h =
          let here = agree_first (λ x. occurs x a) (λ x. occurs_branches x bs) env to h in
          let more = agree_second (λ x. occurs x a) (λ x. occurs_branches x bs) env to h in
          ap₂ (λ i j. i + j) (reached_agrees d a env to m.0 here)
          (ap₂ (λ c go. once (worth c) go) (plan_agrees R a env to here) (fun_ext λ v. ap (opened_of (as_variant v)) (fun_ext λ l. fun_ext λ w. branch_agrees d bs l w env to m.1 more)))
      reached_agrees d (node.Make k ps) env to m h = nodes_agree d ps env to m h
      reached_agrees d (node.Union a b) env to m h =
          ap₂ (λ i j. i + j) (reached_agrees d a env to m.0 (agree_first (λ x. occurs x a) (λ x. occurs x b) env to h)) (reached_agrees d b env to m.1 (agree_second (λ x. occurs x a) (λ x. occurs x b) env to h))
      reached_agrees d (node.Ext k b s) env to m h =
          let here = agree_second (λ x. occurs (x + 1) b) (λ x. occurs x s) env to h in
          let more = agree_first (λ x. occurs (x + 1) b) (λ x. occurs x s) env to h in
          ap₂ (λ i j. i + j) (reached_agrees d s env to m.1 here)
          (ap₂ (λ w c. weight w (drawn_for k c)) (fun_ext λ v. reached_agrees (suc d) b (v ∷ env) (v ∷ to) m.0 (agree_more (λ x. occurs x b) v env to more)) (plan_agrees R s env to here))
      reached_agrees d (node.If a b c) env to m h =
          let here = agree_first (λ x. occurs x a) (λ x. occurs x b || occurs x c) env to h in
          let more = agree_second (λ x. occurs x a) (λ x. occurs x b || occurs x c) env to h in
          ap₂ (λ i j. i + j) (reached_agrees d a env to m.0 here)
          (ap₂ (λ x go. once (worth x) go) (plan_agrees R a env to here)
          (fun_ext λ v. ap₂ (chosen_of (as_bool v)) (reached_agrees d b env to m.1 (agree_first (λ x. occurs x b) (λ x. occurs x c) env to more)) (reached_agrees d c env to m.2 (agree_second (λ x. occurs x b) (λ x. occurs x c) env to more))))
      reached_agrees d (node.Let a b) env to m h =
          let here = agree_first (λ x. occurs x a) (λ x. occurs (x + 1) b) env to h in
          let more = agree_second (λ x. occurs x a) (λ x. occurs (x + 1) b) env to h in
          ap₂ (λ i j. i + j) (reached_agrees d a env to m.0 here)
          (ap₂ (λ x go. once (worth x) go) (plan_agrees R a env to here) (fun_ext λ v. reached_agrees (suc d) b (v ∷ env) (v ∷ to) m.1 (agree_more (λ x. occurs x b) v env to more)))
      reached_agrees d (node.Prim c ps) env to m h = nodes_agree d ps env to m h
      reached_agrees d (node.Scan c) env to m h = refl
      reached_agrees d (node.Join n k way o cs i q b) env to m h =
          let here = agree_first (λ x. occurs x o) (λ x. occurs_nodes (x + 1) cs || (occurs_key (x + 1) q || occurs (x + 2) b)) env to h in
          let more = join_rest n k way o cs i q b env to h in
          let outer = plan_agrees R o env to here in
          ap₂ (λ i j. i + j) (reached_agrees d o env to m.0 here)
          (ap₂ (λ i j. i + j)
          (ap₂ (λ w c. weight w (drawn_for k c))
          (fun_ext λ x. conds_agree (suc d) cs (x ∷ env) (x ∷ to) _ _ m.1 (agree_more (λ y. occurs_nodes y cs) x env to more.0)
          (key_agrees (suc d) q (x ∷ env) (x ∷ to) _ _ m.2 (agree_more (λ y. occurs_key y q) x env to more.1)
          (fun_ext λ test. ap (λ w. weight w (drawn_for k (scanned i.kind (R i)))) (fun_ext λ y. ap (λ n. chosen_of (test y) n 0) (reached_agrees (suc (suc d)) b (y ∷ x ∷ env) (y ∷ x ∷ to) m.4 (agree_two (λ z. occurs z b) y x env to more.2))))))
          outer)
          (ap (executed block P n way i) (ap₂ (λ w c. weight w (drawn_for k c)) (fun_ext λ x. passes_agree cs (x ∷ env) (x ∷ to) (agree_more (λ y. occurs_nodes y cs) x env to more.0)) outer)))
      reached_agrees d (node.Memo n frees p) env to m h = absurd m

      nodes_agree : (d : ℕ) (ps : Nodes) (env to : List Value) → PlacesNodes AnyScan AnyJoin NoMemo d ps → AgreeAt (λ x. occurs_nodes x ps) env to → reached_nodes R block P ps env ≡ reached_nodes R block P ps to
      nodes_agree d no_nodes env to m h = refl
      nodes_agree d (nodes p ps) env to m h =
          ap₂ (λ i j. i + j) (reached_agrees d p env to m.0 (agree_first (λ x. occurs x p) (λ x. occurs_nodes x ps) env to h)) (nodes_agree d ps env to m.1 (agree_second (λ x. occurs x p) (λ x. occurs_nodes x ps) env to h))

      fields_agree : (d : ℕ) (ps : Fields) (env to : List Value) → PlacesFields AnyScan AnyJoin NoMemo d ps → AgreeAt (λ x. occurs_fields x ps) env to → reached_fields R block P ps env ≡ reached_fields R block P ps to
      fields_agree d no_fields env to m h = refl
      fields_agree d (fields l p ps) env to m h =
          ap₂ (λ i j. i + j) (reached_agrees d p env to m.0 (agree_first (λ x. occurs x p) (λ x. occurs_fields x ps) env to h)) (fields_agree d ps env to m.1 (agree_second (λ x. occurs x p) (λ x. occurs_fields x ps) env to h))

      branch_agrees : (d : ℕ) (bs : Branches) (l : Name) (v : Value) (env to : List Value) → PlacesBranches AnyScan AnyJoin NoMemo d bs → AgreeAt (λ x. occurs_branches x bs) env to
          → reached_branch R block P bs l v env ≡ reached_branch R block P bs l v to
      branch_agrees d no_branches l v env to m h = refl
      branch_agrees d (rest c) l v env to m h = reached_agrees d c env to m h
      branch_agrees d (branch x b bs) l v env to m h =
          ap₂ (λ i j. cond (pointwise nat_eq l x) i j)
          (reached_agrees (suc d) b (v ∷ env) (v ∷ to) m.0 (agree_more (λ y. occurs y b) v env to (agree_first (λ y. occurs (y + 1) b) (λ y. occurs_branches y bs) env to h)))
          (branch_agrees d bs l v env to m.1 (agree_second (λ y. occurs (y + 1) b) (λ y. occurs_branches y bs) env to h))

      conds_agree : (d : ℕ) (cs : Nodes) (env to : List Value) (i j : ℕ) → PlacesNodes AnyScan AnyJoin NoMemo d cs → AgreeAt (λ x. occurs_nodes x cs) env to → i ≡ j
          → reached_conds R block P cs env i ≡ reached_conds R block P cs to j
      conds_agree d no_nodes env to i j m h e = e
      conds_agree d (nodes c cs) env to i j m h e =
          let here = agree_first (λ x. occurs x c) (λ x. occurs_nodes x cs) env to h in
          ap₂ (λ i j. i + j) (reached_agrees d c env to m.0 here)
          (ap₂ (λ x n. once (worth x) (λ v. chosen_of (as_bool v) n 0)) (plan_agrees R c env to here) (conds_agree d cs env to i j m.1 (agree_second (λ x. occurs x c) (λ x. occurs_nodes x cs) env to h) e))

      key_agrees : (d : ℕ) (q : JoinKey) (env to : List Value) (i j : (Value → Option Bool) → ℕ) → PlacesKey AnyScan AnyJoin NoMemo d q → AgreeAt (λ x. occurs_key x q) env to → i ≡ j
          → reached_key R block P q env i ≡ reached_key R block P q to j
      key_agrees d no_key env to i j m h e = ap (λ go. go (λ y. Some true)) e
      key_agrees d (key l p) env to i j m h e =
          ap₂ (λ i j. i + j) (reached_agrees d p env to m h) (ap₂ (λ x go. once (worth x) (λ v. go (λ y. same_key v (field_at l y)))) (plan_agrees R p env to h) e)

-- ---- under the values of its free positions

filled_past : (n i : ℕ) (v : Value) (vs : List Value) → slice_get (filled n v vs) (n + i) ≡ slice_get vs i
filled_past zero i v vs = let e : 0 + i ≡ i = omega arith in ap (slice_get vs) e
filled_past (suc n) i v vs = let e : suc n + i ≡ suc (n + i) = omega arith in ap (slice_get (v ∷ filled n v vs)) e ∙ filled_past n i v vs

below_first : (x i : ℕ) (xs : List ℕ) → Rise i xs → list_any (nat_eq x) xs ≡ true → i ≤ x
below_first x i [] r h = absurd cc
below_first x i (y ∷ ys) r h = by (nat_eq x y) refl h (below_first x (suc y) ys r.1)
  where
    by : (b : Bool) → nat_eq x y ≡ b → (b || list_any (nat_eq x) ys) ≡ true → (list_any (nat_eq x) ys ≡ true → suc y ≤ x) → i ≤ x
    by true t g k = let low = r.0 in let e = nat_is x y t in omega arith
    by false t g k = let low = r.0 in let up = k g in omega arith

under_at : (env : List Value) (i : ℕ) (xs : List ℕ) → Rise i xs → AllByRecursion (λ x. x < length env) xs → (x : ℕ) → list_any (nat_eq x) xs ≡ true
    → slice_get (under i xs (values_at env xs)) (x - i) ≡ slice_get env x
under_at env i [] r b x h = absurd cc
under_at env i (y ∷ ys) r b x h =
    let is = slice_get-get_or env y (value.Bool true) b.0 in
    subst (λ o. slice_get (under i (y ∷ ys) (with_value o (values_at env ys))) (x - i) ≡ slice_get env x) (sym is) (at (get_or env y (value.Bool true)) is (nat_eq x y) refl h (under_at env (suc y) ys r.1 b.1 x))
  where
    at : (v : Value) → slice_get env y ≡ Some v → (c : Bool) → nat_eq x y ≡ c → (c || list_any (nat_eq x) ys) ≡ true
        → (list_any (nat_eq x) ys ≡ true → slice_get (under (suc y) ys (values_at env ys)) (x - suc y) ≡ slice_get env x)
        → slice_get (filled (y - i) v (v ∷ under (suc y) ys (values_at env ys))) (x - i) ≡ slice_get env x
    at v e true t g k =
        let is = nat_is x y t in
        let n : x - i ≡ (y - i) + 0 = omega arith in
        ap (slice_get (filled (y - i) v (v ∷ under (suc y) ys (values_at env ys)))) n ∙ filled_past (y - i) 0 v (v ∷ under (suc y) ys (values_at env ys)) ∙ sym e ∙ ap (slice_get env) (sym is)
    at v e false t g k =
        let up = below_first x (suc y) ys r.1 g in
        let low = r.0 in
        let n : x - i ≡ (y - i) + suc (x - suc y) = omega arith in
        ap (slice_get (filled (y - i) v (v ∷ under (suc y) ys (values_at env ys)))) n ∙ filled_past (y - i) (suc (x - suc y)) v (v ∷ under (suc y) ys (values_at env ys)) ∙ k g

-- A part comes to the same under all values of its positions, and under those of its key.
pub under_key_at : (R : Readings) (block : ℕ) (P : Prices) (d : ℕ) (frees : List ℕ) (p : Node) (env : List Value) → Rise 0 frees → ((x : ℕ) → occurs x p ≡ true → list_any (nat_eq x) frees ≡ true)
    → MemoFree d p → AllByRecursion (λ x. x < length env) frees → reached R block P p env ≡ reached R block P p (under 0 frees (values_at env frees))
under_key_at R block P d frees p env rising listed m bound =
    reached_agrees R block P d p env (under 0 frees (values_at env frees)) m
    (λ x t. let e : x - 0 ≡ x = omega arith in sym (under_at env 0 frees rising bound x (listed x t)) ∙ ap (slice_get (under 0 frees (values_at env frees))) e)

pub under_key_same : (R : Readings) (block : ℕ) (P : Prices) (d : ℕ) (frees : List ℕ) (p : Node) (env : List Value) → AreFree d frees p → MemoFree d p → length env ≡ d
    → reached R block P p env ≡ reached R block P p (under 0 frees (values_at env frees))
under_key_same R block P d frees p env f m z = under_key_at R block P d frees p env f.rising f.listed m (subst (λ n. AllByRecursion (λ x. x < n) frees) (sym z) f.bound)
