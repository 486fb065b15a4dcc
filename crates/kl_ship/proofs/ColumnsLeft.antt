-- A column that a statement shows is used in the body over its rows.
use Rattle.std.proofs.Common.{◌≡◌, ◌⊎◌, inl, inr, ⊎_elim, ℕ, suc, ◌+◌, ◌-◌, ◌<◌, ◌≤◌, Bool, true, false, ◌&&◌, ◌||◌, cond, nat_eq, List, [], ◌∷◌, ◌++◌, map, filter, length, codes, decimal, Option, Some, None, IsSome, is_eq, slice_get, refl, sym, ap, subst, ◌∙◌, arith}
use Rattle.std.proofs.Math.Bool.{or-false}
use Rattle.std.specs.List.{AllByRecursion}
use Rattle.std.specs.Cmp.Lexicographic.{pointwise, same_text, texts_ties}
use Rattle.std.proofs.lemmas.Cmp.{nat_list_eq_equiv}
use Rattle.std.proofs.lemmas.Bool.{cases_eq, eq-eqb, ne_eqb, lt-ltb, le-ltb}
use mathlib.Core.Path.{ap₂}
use Rattle.kl_base.proofs.Each.{all_map, all_append}
use Rattle.kl_type.specs.Ground.{Ground, Row, no_row, row, at, labels_in, IsRow}
use Rattle.kl_outcome.specs.Outcome.{Name}
use Rattle.kl_core.specs.Trees.{Tree, Var, Const, Source, Rec, Proj, Inj, Case, Make, Union, Ext, If, Let, Prim, Trees, no_trees, trees, Parts, no_parts, parts, Arms, no_arms, rest, arm}
use Rattle.kl_sqltext.specs.Grammar.{SqlColumn}
use Rattle.kl_sqltext.specs.declared.ast.SqlTest.{SqlTest}
use Rattle.kl_value.specs.declared.Kind.{Kind}
use Rattle.kl_ship.specs.Delegation.{variable, first_of, is_at, whole_use, whole_use_trees, whole_use_parts, whole_use_arms, column_use, column_use_trees, column_use_parts, column_use_arms}
use Rattle.kl_ship.specs.declared.source.ShipSource.{ShipSource}
use Rattle.kl_ship.specs.Joined.{columns_of, used_of, of_table, columns_used, or_one, under_own, numbered, label_in, over_shown, statement, columns_at, columns_if, row_parts, packed_variable, packed_column, packed, packed_trees, packed_parts, packed_arms}
use Rattle.kl_ship.proofs.Listed.{Among, UsedAt, labels_there}

either : (a b c d : Bool) → ((a || b) ≡ true) ⊎ ((c || d) ≡ true) → ((a ≡ true) ⊎ (c ≡ true)) ⊎ ((b ≡ true) ⊎ (d ≡ true))
either true b c d h = inl (inl refl)
either false b true d h = inl (inr refl)
either false b false d (inl h) = inr (inl h)
either false b false d (inr h) = inr (inr h)

or_true : (x y : Bool) → (x ≡ true) ⊎ (y ≡ true) → (x || y) ≡ true
or_true true y h = refl
or_true false y (inl h) = cc
or_true false y (inr h) = h

pass : (a b c d x y : Bool) → ((a ≡ true) ⊎ (c ≡ true) → x ≡ true) → ((b ≡ true) ⊎ (d ≡ true) → y ≡ true) → ((a || b) ≡ true) ⊎ ((c || d) ≡ true) → (x || y) ≡ true
pass a b c d x y f g h = or_true x y (⊎_elim (λ e. inl (f e)) (λ e. inr (g e)) (either a b c d h))

equal_is : (x y : ℕ) → nat_eq x y ≡ true → x ≡ y
equal_is x y h = ⊎_elim (λ e. e) (λ n. absurd (let f : false ≡ true = sym (ne_eqb x y n) ∙ h in cc)) (cases_eq x y)

module _ (f : Name → Name) (at : ℕ) (l : Name) where
  here : (k : Name) → k ≡ l → column_use at (f l) (Proj (f k) (Var at)) ≡ true
  here k e = ap₂ (λ x y. (x && y) || false) (eq-eqb at at refl) (ap (λ z. pointwise nat_eq (f z) (f l)) e ∙ nat_list_eq_equiv.refl (f l))

  row_used : (ls : List Name) → Among l ls → column_use_parts at (f l) (row_parts f at ls) ≡ true
  row_used [] h = absurd h
  row_used (k ∷ ls) (inl e) = or_true (column_use at (f l) (Proj (f k) (Var at))) (column_use_parts at (f l) (row_parts f at ls)) (inl (here k e))
  row_used (k ∷ ls) (inr h) = or_true (column_use at (f l) (Proj (f k) (Var at))) (column_use_parts at (f l) (row_parts f at ls)) (inr (row_used ls h))

module _ (n : ℕ) (shown : ℕ → Name → Name) (all : ℕ → List Name) (p : ℕ) (in_rows : p < n) (l : Name) (there : Among l (all p)) where
  abbrev Seen : ℕ → Tree → Type 0
  Seen at t = column_use at (shown p l) t ≡ true

  of_row : (at x : ℕ) → nat_eq x (at + p) ≡ true → Seen at (packed_variable n shown all at x)
  of_row at x h =
      let e : x ≡ at + p = equal_is x (at + p) h in
      let ge : at ≤ x = omega (arith, e) in
      let lt : x < at + n = omega (arith, e, in_rows) in
      let place : p ≡ x - at = omega (arith, e) in
      rw (le-ltb x at ge, lt-ltb x (at + n) lt)
      (subst (λ q. column_use_parts at (shown p l) (row_parts (shown q) at (all q)) ≡ true) place (row_used (shown p) at l (all p) there))

  of_column : (at x : ℕ) (m : Name) (t : Tree) → (nat_eq x (at + p) && pointwise nat_eq m l) ≡ true → Seen at (packed_column n shown all at m (Some x) t)
  of_column at x m t h = by (nat_eq x (at + p)) refl (pointwise nat_eq m l) refl h
    where
      by : (a : Bool) → nat_eq x (at + p) ≡ a → (b : Bool) → pointwise nat_eq m l ≡ b → (a && b) ≡ true → Seen at (packed_column n shown all at m (Some x) t)
      by false g b q h = cc
      by true g false q h = cc
      by true g true q h =
          let e : x ≡ at + p = equal_is x (at + p) g in
          let ge : at ≤ x = omega (arith, e) in
          let lt : x < at + n = omega (arith, e, in_rows) in
          let place : p ≡ x - at = omega (arith, e) in
          let same : m ≡ l = same_text m l (sym q) in
          rw (le-ltb x at ge, lt-ltb x (at + n) lt)
          (subst (λ y. column_use at (shown p l) (Proj (shown y m) (Var at)) ≡ true) place (here (shown p) at l m same))

  under_packed : (at : ℕ) (b : Tree) → (UsedAt (at + 1 + p) l b → Seen (at + 1) (packed n shown all (at + 1) b)) → UsedAt (at + p + 1) l b → Seen (at + 1) (packed n shown all (at + 1) b)
  under_packed at b f h = let e : at + p + 1 ≡ at + 1 + p = omega arith in f (subst (λ x. UsedAt x l b) e h)

  mutual
    pub use_packed : (at : ℕ) (t : Tree) → UsedAt (at + p) l t → Seen at (packed n shown all at t)
    use_packed at (Var x) (inl h) = of_row at x h
    use_packed at (Var x) (inr h) = cc
    use_packed at (Const v) (inl h) = cc
    use_packed at (Const v) (inr h) = cc
    use_packed at (Source i) (inl h) = cc
    use_packed at (Source i) (inr h) = cc
    use_packed at (Rec ps) h = parts_packed at ps h
    use_packed at (Proj m (Var x)) (inl h) = cc
    use_packed at (Proj m (Var x)) (inr h) = of_column at x m (Proj m (packed_variable n shown all at x)) (sym (or-false (nat_eq x (at + p) && pointwise nat_eq m l)) ∙ h)
    use_packed at (Proj m a) h = or_true (is_at at (variable (packed n shown all at a)) && pointwise nat_eq m (shown p l)) (column_use at (shown p l) (packed n shown all at a)) (inr (use_packed at a h))
    use_packed at (Inj m a) h = use_packed at a h
    use_packed at (Case a bs) h =
        pass (whole_use (at + p) a) (whole_use_arms (at + p) bs) (column_use (at + p) l a) (column_use_arms (at + p) l bs) (column_use at (shown p l) (packed n shown all at a)) (column_use_arms at (shown p l) (packed_arms n shown all at bs))
        (use_packed at a) (arms_packed at bs) h
    use_packed at (Make k ts) h = trees_packed at ts h
    use_packed at (Union a b) h =
        pass (whole_use (at + p) a) (whole_use (at + p) b) (column_use (at + p) l a) (column_use (at + p) l b) (column_use at (shown p l) (packed n shown all at a)) (column_use at (shown p l) (packed n shown all at b))
        (use_packed at a) (use_packed at b) h
    use_packed at (Ext k b s) h =
        pass (whole_use (at + p + 1) b) (whole_use (at + p) s) (column_use (at + p + 1) l b) (column_use (at + p) l s) (column_use (at + 1) (shown p l) (packed n shown all (at + 1) b)) (column_use at (shown p l) (packed n shown all at s))
        (under_packed at b (use_packed (at + 1) b)) (use_packed at s) h
    use_packed at (If a b c) h =
        pass (whole_use (at + p) a) (whole_use (at + p) b || whole_use (at + p) c) (column_use (at + p) l a) (column_use (at + p) l b || column_use (at + p) l c)
        (column_use at (shown p l) (packed n shown all at a)) (column_use at (shown p l) (packed n shown all at b) || column_use at (shown p l) (packed n shown all at c))
        (use_packed at a)
        (pass (whole_use (at + p) b) (whole_use (at + p) c) (column_use (at + p) l b) (column_use (at + p) l c) (column_use at (shown p l) (packed n shown all at b)) (column_use at (shown p l) (packed n shown all at c)) (use_packed at b) (use_packed at c))
        h
    use_packed at (Let a b) h =
        pass (whole_use (at + p) a) (whole_use (at + p + 1) b) (column_use (at + p) l a) (column_use (at + p + 1) l b) (column_use at (shown p l) (packed n shown all at a)) (column_use (at + 1) (shown p l) (packed n shown all (at + 1) b))
        (use_packed at a) (under_packed at b (use_packed (at + 1) b)) h
    use_packed at (Prim c ts) h = trees_packed at ts h

    trees_packed : (at : ℕ) (ts : Trees) → (whole_use_trees (at + p) ts ≡ true) ⊎ (column_use_trees (at + p) l ts ≡ true) → column_use_trees at (shown p l) (packed_trees n shown all at ts) ≡ true
    trees_packed at no_trees (inl h) = cc
    trees_packed at no_trees (inr h) = cc
    trees_packed at (trees t ts) h =
        pass (whole_use (at + p) t) (whole_use_trees (at + p) ts) (column_use (at + p) l t) (column_use_trees (at + p) l ts) (column_use at (shown p l) (packed n shown all at t)) (column_use_trees at (shown p l) (packed_trees n shown all at ts))
        (use_packed at t) (trees_packed at ts) h

    parts_packed : (at : ℕ) (ts : Parts) → (whole_use_parts (at + p) ts ≡ true) ⊎ (column_use_parts (at + p) l ts ≡ true) → column_use_parts at (shown p l) (packed_parts n shown all at ts) ≡ true
    parts_packed at no_parts (inl h) = cc
    parts_packed at no_parts (inr h) = cc
    parts_packed at (parts m t ts) h =
        pass (whole_use (at + p) t) (whole_use_parts (at + p) ts) (column_use (at + p) l t) (column_use_parts (at + p) l ts) (column_use at (shown p l) (packed n shown all at t)) (column_use_parts at (shown p l) (packed_parts n shown all at ts))
        (use_packed at t) (parts_packed at ts) h

    arms_packed : (at : ℕ) (bs : Arms) → (whole_use_arms (at + p) bs ≡ true) ⊎ (column_use_arms (at + p) l bs ≡ true) → column_use_arms at (shown p l) (packed_arms n shown all at bs) ≡ true
    arms_packed at no_arms (inl h) = cc
    arms_packed at no_arms (inr h) = cc
    arms_packed at (rest c) h = use_packed at c h
    arms_packed at (arm m b bs) h =
        pass (whole_use (at + p + 1) b) (whole_use_arms (at + p) bs) (column_use (at + p + 1) l b) (column_use_arms (at + p) l bs) (column_use (at + 1) (shown p l) (packed n shown all (at + 1) b)) (column_use_arms at (shown p l) (packed_arms n shown all at bs))
        (under_packed at b (use_packed (at + 1) b)) (arms_packed at bs) h

-- ---- each column is shown once

abbrev Other : ℕ × Name → ℕ × Name → Type 0
Other c y = (nat_eq c.0 y.0 && pointwise nat_eq c.1 y.1) ≡ false

abbrev Once : List (ℕ × Name) → Type 0
Once [] = Unit {0}
Once (c ∷ cs) = AllByRecursion (Other c) cs × Once cs

abbrev pub Strict : List Name → Type 0
Strict [] = Unit {0}
Strict (l ∷ ls) = AllByRecursion (λ m. pointwise nat_eq l m ≡ false) ls × Strict ls

filtered : (P : Name → Type 0) (f : Name → Bool) (xs : List Name) → AllByRecursion P xs → AllByRecursion P (filter f xs)
filtered P f [] h = tt
filtered P f (x ∷ xs) h = by (f x) (filtered P f xs h.1)
  where
    by : (b : Bool) → AllByRecursion P (filter f xs) → AllByRecursion P (cond b (x ∷ filter f xs) (filter f xs))
    by true more = (h.0, more)
    by false more = more

strict_filtered : (f : Name → Bool) (xs : List Name) → Strict xs → Strict (filter f xs)
strict_filtered f [] h = tt
strict_filtered f (x ∷ xs) h = by (f x) (strict_filtered f xs h.1)
  where
    by : (b : Bool) → Strict (filter f xs) → Strict (cond b (x ∷ filter f xs) (filter f xs))
    by true more = (filtered (λ m. pointwise nat_eq x m ≡ false) f xs h.0, more)
    by false more = more

pub labels_strict : (r : Row) → IsRow r → Strict (labels_in r)
labels_strict no_row h = tt
labels_strict (row l t r) h = (all_map (λ m. IsSome (at m r)) (λ m. pointwise nat_eq l m ≡ false) (labels_in r) (λ m s. by m (at m r) refl s) (labels_there r), labels_strict r h.2)
  where
    by : (m : Name) (o : Option Ground) → at m r ≡ o → IsSome o → pointwise nat_eq l m ≡ false
    by m (Some u) e s = texts_ties l m ∙ ap is_eq (h.0 m u e)
    by m None e s = cc

own_columns : (i : ℕ) (l : Name) (ls : List Name) → AllByRecursion (λ m. pointwise nat_eq l m ≡ false) ls → AllByRecursion (Other (i, l)) (of_table i ls)
own_columns i l [] h = tt
own_columns i l (m ∷ ms) h = (ap₂ (λ x y. x && y) (eq-eqb i i refl) h.0, own_columns i l ms h.1)

once_front : (i : ℕ) (ls : List Name) (ys : List (ℕ × Name)) → Strict ls → AllByRecursion (λ y. i < y.0) ys → Once ys → Once (of_table i ls ++ ys)
once_front i [] ys s h o = o
once_front i (l ∷ ls) ys s h o =
    (all_append (Other (i, l)) (of_table i ls) ys (own_columns i l ls s.0) (all_map (λ y. i < y.0) (Other (i, l)) ys (λ y lt. ap (λ b. b && pointwise nat_eq l y.1) (ne_eqb i y.0 (λ e. omega (arith, e, lt)))) h), once_front i ls ys s.1 h o)

table_each : (Q : ℕ × Name → Type 0) (i : ℕ) (ls : List Name) → AllByRecursion (λ l. Q (i, l)) ls → AllByRecursion Q (of_table i ls)
table_each Q i [] h = tt
table_each Q i (l ∷ ls) h = (h.0, table_each Q i ls h.1)

every : (P : Name → Type 0) (ls : List Name) → ((l : Name) → P l) → AllByRecursion P ls
every P [] f = tt
every P (l ∷ ls) f = (f l, every P ls f)

-- sources with labels that differ
abbrev pub AllStrict : List ShipSource → Type 0
AllStrict [] = Unit {0}
AllStrict (t ∷ ts) = Strict (columns_of t) × AllStrict ts

module _ (d : Tree) where
  later : (i : ℕ) (ts : List ShipSource) → AllByRecursion (λ y. i ≤ y.0) (columns_used true d i ts)
  later i [] = tt
  later i (t ∷ ts) =
      all_append (λ y. i ≤ y.0) (of_table i (used_of true (length ts) d t)) (columns_used true d (suc i) ts)
      (table_each (λ y. i ≤ y.0) i (used_of true (length ts) d t) (every (λ l. i ≤ i) (used_of true (length ts) d t) (λ l. omega arith)))
      (all_map (λ y. suc i ≤ y.0) (λ y. i ≤ y.0) (columns_used true d (suc i) ts) (λ y le. omega (arith, le)) (later (suc i) ts))

  pub strict_used : (p : ℕ) (t : ShipSource) → Strict (columns_of t) → Strict (used_of true p d t)
  strict_used p t h = by (whole_use p d)
    where
      by : (w : Bool) → Strict (cond w (columns_of t) (filter (λ m. column_use p m d) (columns_of t)))
      by true = h
      by false = strict_filtered (λ m. column_use p m d) (columns_of t) h

  once_used : (i : ℕ) (ts : List ShipSource) → AllStrict ts → Once (columns_used true d i ts)
  once_used i [] h = tt
  once_used i (t ∷ ts) h =
      once_front i (used_of true (length ts) d t) (columns_used true d (suc i) ts) (strict_used (length ts) t h.0)
      (all_map (λ y. suc i ≤ y.0) (λ y. i < y.0) (columns_used true d (suc i) ts) (λ y le. omega (arith, le)) (later (suc i) ts))
      (once_used (suc i) ts h.1)

  -- each of them is used, and a column of its table
  record IsUsedColumn (all : List ShipSource) (c : ℕ × Name) : Type 0 where
    pub place : ℕ
    pub long : place + suc c.0 ≡ length all
    pub used : UsedAt place c.1 d
    pub there : Among c.1 (columns_at all c.0)

  used_by_label : (p : ℕ) (t : ShipSource) → AllByRecursion (λ l. UsedAt p l d × Among l (columns_of t)) (used_of true p d t)
  used_by_label p t = by (whole_use p d) refl
    where
      among_all : (ls : List Name) → AllByRecursion (λ l. Among l ls) ls
      among_all [] = tt
      among_all (l ∷ ls) = (inl refl, all_map (λ m. Among m ls) (λ m. Among m (l ∷ ls)) ls (λ m h. inr h) (among_all ls))

      used_too : (ls : List Name) → AllByRecursion (λ l. Among l (columns_of t)) ls → AllByRecursion (λ l. UsedAt p l d × Among l (columns_of t)) (filter (λ m. column_use p m d) ls)
      used_too [] h = tt
      used_too (l ∷ ls) h = case_of (column_use p l d) refl (used_too ls h.1)
        where
          case_of : (b : Bool) → column_use p l d ≡ b → AllByRecursion (λ l. UsedAt p l d × Among l (columns_of t)) (filter (λ m. column_use p m d) ls)
              → AllByRecursion (λ l. UsedAt p l d × Among l (columns_of t)) (cond b (l ∷ filter (λ m. column_use p m d) ls) (filter (λ m. column_use p m d) ls))
          case_of true e more = ((inr e, h.0), more)
          case_of false e more = more

      by : (w : Bool) → whole_use p d ≡ w → AllByRecursion (λ l. UsedAt p l d × Among l (columns_of t)) (cond w (columns_of t) (filter (λ m. column_use p m d) (columns_of t)))
      by true e = all_map (λ l. Among l (columns_of t)) (λ l. UsedAt p l d × Among l (columns_of t)) (columns_of t) (λ l h. (inl e, h)) (among_all (columns_of t))
      by false e = used_too (columns_of t) (among_all (columns_of t))

  used_columns : (all ts : List ShipSource) (i : ℕ) → ((j : ℕ) → slice_get all (i + j) ≡ slice_get ts j) → length all ≡ i + length ts → AllByRecursion (IsUsedColumn all) (columns_used true d i ts)
  used_columns all [] i same long = tt
  used_columns all (t ∷ ts) i same long =
      let start : i ≡ i + 0 = omega arith in
      let is : columns_at all i ≡ columns_of t = ap (columns_at all) start ∙ ap columns_if (same 0) in
      let place : length ts + suc i ≡ length all = omega (arith, long) in
      all_append (IsUsedColumn all) (of_table i (used_of true (length ts) d t)) (columns_used true d (suc i) ts)
      (table_each (IsUsedColumn all) i (used_of true (length ts) d t)
      (all_map (λ l. UsedAt (length ts) l d × Among l (columns_of t)) (λ l. IsUsedColumn all (i, l)) (used_of true (length ts) d t)
      (λ l h. record { place = length ts; long = place; used = h.0; there = subst (Among l) (sym is) h.1 })
      (used_by_label (length ts) t)))
      (used_columns all ts (suc i) (λ j. let z : suc i + j ≡ i + suc j = omega arith in ap (slice_get all) z ∙ same (suc j)) (omega (arith, long)))

-- ---- the labels of what is shown

rest_labels : (x : SqlColumn) (all : List SqlColumn) (m : ℕ) (ys : List (ℕ × Name)) → AllByRecursion (λ y. (nat_eq x.0 y.0 && pointwise nat_eq x.1 y.1) ≡ false) ys → AllByRecursion (λ e. label_in all e.0 e.1 ≡ e.2) (numbered m ys)
    → AllByRecursion (λ e. label_in (x ∷ all) e.0 e.1 ≡ e.2) (numbered m ys)
rest_labels x all m [] h o = tt
rest_labels x all m (y ∷ ys) h o = (ap (λ b. cond b x.2 (label_in all y.0 y.1)) h.0 ∙ o.0, rest_labels x all (suc m) ys h.1 o.1)

own_labels : (n : ℕ) (cs : List (ℕ × Name)) → Once cs → AllByRecursion (λ e. label_in (numbered n cs) e.0 e.1 ≡ e.2) (numbered n cs)
own_labels n [] h = tt
own_labels n (c ∷ cs) h =
    (ap₂ (λ x y. cond (x && y) (codes "c" ++ decimal n) (label_in (numbered (suc n) cs) c.0 c.1)) (eq-eqb c.0 c.0 refl) (nat_list_eq_equiv.refl c.1), rest_labels (c.0, c.1, codes "c" ++ decimal n) (numbered (suc n) cs) (suc n) cs h.0 (own_labels (suc n) cs h.1))

labels_used : (P : Name → Type 0) (all : List SqlColumn) (n : ℕ) (ys : List (ℕ × Name)) → AllByRecursion (λ y. P (label_in all y.0 y.1)) ys → AllByRecursion (λ e. label_in all e.0 e.1 ≡ e.2) (numbered n ys)
    → AllByRecursion P (map (λ e. e.2) (numbered n ys))
labels_used P all n [] h o = tt
labels_used P all n (y ∷ ys) h o = (subst P o.0 h.0, labels_used P all (suc n) ys h.1 o.1)

own_used : (P : Name → Type 0) (ys : List (ℕ × Name)) → AllByRecursion (λ y. P y.1) ys → AllByRecursion P (map (λ e. e.2) (under_own ys))
own_used P [] h = tt
own_used P (y ∷ ys) h = (h.0, own_used P ys h.1)

first_few : (ls : List Name) → length (map (λ e. e.2) (under_own (of_table 0 (first_of ls)))) ≤ 1
first_few [] = omega arith
first_few (l ∷ ls) = omega arith

first_numbered : (ls : List Name) → length (map (λ e. e.2) (numbered 0 (of_table 0 (first_of ls)))) ≤ 1
first_numbered [] = omega arith
first_numbered (l ∷ ls) = omega arith

module _ (s t : ShipSource) (ts : List ShipSource) (d : Tree) where
  abbrev pub tables : List ShipSource
  tables = s ∷ t ∷ ts

  abbrev pub body : List SqlColumn → Tree
  body cols = packed (length tables) (λ p. label_in cols (length (t ∷ ts) - p)) (λ p. columns_at tables (length (t ∷ ts) - p)) 0 d

  abbrev pub Goal : List SqlColumn → Type 0
  Goal cols = AllByRecursion (λ l. UsedAt 0 l (body cols)) (map (λ e. e.2) cols) ⊎ (length (map (λ e. e.2) cols) ≤ 1)

  one : (cols : List SqlColumn) (y : ℕ × Name) → IsUsedColumn d tables y → UsedAt 0 (label_in cols y.0 y.1) (body cols)
  one cols y u =
      let long : u.place + suc y.0 ≡ suc (length (t ∷ ts)) = u.long in
      let low : u.place < length tables = omega (arith, long) in
      let table : y.0 ≡ length (t ∷ ts) - u.place = omega (arith, long) in
      let zero_more : u.place ≡ 0 + u.place = omega arith in
      inr (subst (λ i. column_use 0 (label_in cols i y.1) (body cols) ≡ true) (sym table)
      (use_packed (length tables) (λ p. label_in cols (length (t ∷ ts) - p)) (λ p. columns_at tables (length (t ∷ ts) - p)) u.place low y.1 (subst (λ i. Among y.1 (columns_at tables i)) table u.there) 0 d (subst (λ p. UsedAt p y.1 d) zero_more u.used)))

  many_used : (cs : List (ℕ × Name)) → Once cs → AllByRecursion (IsUsedColumn d tables) cs → Goal (numbered 0 (or_one cs (columns_of s)))
  many_used [] o h = inr (first_numbered (columns_of s))
  many_used (c ∷ cs) o h =
      let cols : List SqlColumn = numbered 0 (c ∷ cs) in
      inl (labels_used (λ l. UsedAt 0 l (body cols)) cols 0 (c ∷ cs) (all_map (IsUsedColumn d tables) (λ y. UsedAt 0 (label_in cols y.0 y.1) (body cols)) (c ∷ cs) (λ y u. one cols y u) h) (own_labels 0 (c ∷ cs) o))

-- what is shown is used in the body over it, or it is one column
pub shown_used : (s : ShipSource) (k : Kind) (ts : List ShipSource) (qs : List SqlTest) (d : Tree) → s.abilities.project ≡ true → AllStrict (s ∷ ts)
    → AllByRecursion (λ l. UsedAt 0 l (over_shown s ts (statement k s ts qs d).columns d)) (map (λ e. e.2) (statement k s ts qs d).columns) ⊎ (length (map (λ e. e.2) (statement k s ts qs d).columns) ≤ 1)
shown_used s k [] qs d project strict =
    subst (λ b. AllByRecursion (λ l. UsedAt 0 l d) (map (λ e. e.2) (under_own (or_one (columns_used b d 0 (s ∷ [])) (columns_of s)))) ⊎ (length (map (λ e. e.2) (under_own (or_one (columns_used b d 0 (s ∷ [])) (columns_of s)))) ≤ 1)) (sym project)
    (by (columns_used true d 0 (s ∷ []))
    (all_map (IsUsedColumn d (s ∷ [])) (λ y. UsedAt 0 y.1 d) (columns_used true d 0 (s ∷ [])) (λ y u. let z : u.place ≡ 0 = (let e : u.place + suc y.0 ≡ 1 = u.long in omega (arith, e)) in subst (λ p. UsedAt p y.1 d) z u.used)
    (used_columns d (s ∷ []) (s ∷ []) 0 (λ j. let z : 0 + j ≡ j = omega arith in ap (slice_get (s ∷ [])) z) (omega arith))))
  where
    by : (cs : List (ℕ × Name)) → AllByRecursion (λ y. UsedAt 0 y.1 d) cs → AllByRecursion (λ l. UsedAt 0 l d) (map (λ e. e.2) (under_own (or_one cs (columns_of s)))) ⊎ (length (map (λ e. e.2) (under_own (or_one cs (columns_of s)))) ≤ 1)
    by [] h = inr (first_few (columns_of s))
    by (c ∷ cs) h = inl (own_used (λ l. UsedAt 0 l d) (c ∷ cs) h)
shown_used s k (t ∷ ts) qs d project strict =
    subst (Goal s t ts d) (sym (ap (λ b. numbered 0 (or_one (columns_used b d 0 (s ∷ t ∷ ts)) (columns_of s))) project))
    (many_used s t ts d (columns_used true d 0 (s ∷ t ∷ ts)) (once_used d 0 (s ∷ t ∷ ts) strict) (used_columns d (s ∷ t ∷ ts) (s ∷ t ∷ ts) 0 (λ j. let z : 0 + j ≡ j = omega arith in ap (slice_get (s ∷ t ∷ ts)) z) (omega arith)))
