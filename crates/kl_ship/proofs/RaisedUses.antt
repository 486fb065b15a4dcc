-- What a term that is raised uses, and the tests in its front.
use Rattle.std.proofs.Common.{◌≡◌, ◌⊎◌, inl, inr, ⊎_elim, ℕ, ◌+◌, ◌-◌, ◌<◌, ◌≤◌, Bool, true, false, not, ◌&&◌, ◌||◌, cond, nat_eq}
use Rattle.std.proofs.Common.{List, [], Option, Some, None, refl, sym, ap, ◌∙◌, arith}
use Rattle.std.specs.Cmp.Lexicographic.{pointwise}
use Rattle.std.proofs.lemmas.Bool.{cases_lt, cases_eq, lt-ltb, le-ltb, eq-eqb, ne_eqb}
use mathlib.Core.Path.{ap₂}
use Rattle.kl_value.specs.declared.Kind.{Kind}
use Rattle.kl_outcome.specs.Outcome.{Name}
use Rattle.kl_core.specs.Trees.{Tree, Var, Const, Source, Rec, Proj, Inj, Case, Make, Union, Ext, If, Let, Prim, Trees, no_trees, trees}
use Rattle.kl_core.specs.Trees.{Parts, no_parts, parts, Arms, no_arms, rest, arm}
use Rattle.kl_core.specs.Positions.{raised, shift_of, shift_trees, shift_parts, shift_arms}
use Rattle.kl_core.proofs.Totals.{total_shift}
use Rattle.kl_sqltext.specs.declared.ast.SqlOp.{SqlOp}
use Rattle.kl_sqltext.specs.declared.ast.SqlTest.{SqlTest}
use Rattle.kl_ship.specs.Delegation.{comparison, variable, is_variable, is_at, constant, column_at, column_of, test_between, test_by}
use Rattle.kl_ship.specs.Delegation.{test_of}
use Rattle.kl_ship.specs.Delegation.{is_empty, is_front, taken_before, taken}
use Rattle.kl_ship.specs.Delegation.{whole_use_trees, whole_use_parts, whole_use_arms}
use Rattle.kl_ship.specs.Delegation.{column_use_trees, column_use_parts, column_use_arms}
use Rattle.kl_ship.proofs.Kept.{Unused, SameUse}

is_variable_raised : (t : Tree) (n : ℕ) → is_variable (shift_of t n 1) ≡ is_variable t
is_variable_raised (Var x) n = refl
is_variable_raised t n = refl

-- ---- a position that stays, or is raised

-- position j is i after positions from n on were raised
abbrev pub Held : ℕ → ℕ → ℕ → Type 0
Held n i j = ((i < n) × (i ≡ j)) ⊎ ((n ≤ j) × (i ≡ j + 1))

under : (n i j : ℕ) → Held n i j → Held (n + 1) (i + 1) (j + 1)
under n i j (inl h) = inl (omega (arith, h.0), ap (λ x. x + 1) h.1)
under n i j (inr h) = inr (omega (arith, h.0), ap (λ x. x + 1) h.1)

same_test : (a b c d : ℕ) → (a ≡ b → c ≡ d) → (c ≡ d → a ≡ b) → nat_eq a b ≡ nat_eq c d
same_test a b c d f g = ⊎_elim (λ e. eq-eqb a b e ∙ sym (eq-eqb c d (f e))) (λ e. ne_eqb a b e ∙ sym (ne_eqb c d (λ h. e (g h))))
    (cases_eq a b)

var_held : (x n i j : ℕ) → Held n i j → nat_eq (raised n 1 x) i ≡ nat_eq x j
var_held x n i j h = ⊎_elim low high (cases_lt x n)
  where
    stays : x < n → Held n i j → nat_eq x i ≡ nat_eq x j
    stays l (inl g) = ap (nat_eq x) g.1
    stays l (inr g) = same_test x i x j (λ e. omega (arith, l, g.0, g.1, e)) (λ e. omega (arith, l, g.0, g.1, e))

    goes : n ≤ x → Held n i j → nat_eq (x + 1) i ≡ nat_eq x j
    goes l (inl g) = same_test (x + 1) i x j (λ e. omega (arith, l, g.0, g.1, e)) (λ e. omega (arith, l, g.0, g.1, e))
    goes l (inr g) = same_test (x + 1) i x j (λ e. omega (arith, l, g.0, g.1, e)) (λ e. omega (arith, l, g.0, g.1, e))

    low : x < n → nat_eq (raised n 1 x) i ≡ nat_eq x j
    low l = rw (lt-ltb x n l) (stays l h)

    high : n ≤ x → nat_eq (raised n 1 x) i ≡ nat_eq x j
    high l = rw (le-ltb x n l) (goes l h)

at_held : (t : Tree) (n i j : ℕ) → Held n i j → is_at i (variable (shift_of t n 1)) ≡ is_at j (variable t)
at_held (Var x) n i j h = var_held x n i j h
at_held t n i j h = refl

mutual
  pub held : (t : Tree) (n i j : ℕ) → Held n i j → SameUse 0 0 i j t (shift_of t n 1)
  held (Var x) n i j h = record { whole = var_held x n i j h; column = λ l. refl }
  held (Const v) n i j h = record { whole = refl; column = λ l. refl }
  held (Source s) n i j h = record { whole = refl; column = λ l. refl }
  held (Rec ps) n i j h = let q = held_parts ps n i j h in record { whole = q.0; column = q.1 }
  held (Proj l a) n i j h =
      let q = held a n i j h in
      record {
        whole = ap₂ (λ x y. not x && y) (is_variable_raised a n) q.whole;
        column = λ m. ap₂ (λ x y. (x && pointwise nat_eq l m) || y) (at_held a n i j h) (q.column m);
      }
  held (Inj l a) n i j h = let q = held a n i j h in record { whole = q.whole; column = λ m. q.column m }
  held (Case a bs) n i j h =
      let p = held a n i j h in
      let q = held_arms bs n i j h in
      record { whole = ap₂ (λ x y. x || y) p.whole q.0; column = λ m. ap₂ (λ x y. x || y) (p.column m) (q.1 m) }
  held (Make k ts) n i j h = let q = held_trees ts n i j h in record { whole = q.0; column = q.1 }
  held (Union a b) n i j h =
      let p = held a n i j h in
      let q = held b n i j h in
      record { whole = ap₂ (λ x y. x || y) p.whole q.whole; column = λ m. ap₂ (λ x y. x || y) (p.column m) (q.column m) }
  held (Ext k b s) n i j h =
      let p = held b (n + 1) (i + 1) (j + 1) (under n i j h) in
      let q = held s n i j h in
      record { whole = ap₂ (λ x y. x || y) p.whole q.whole; column = λ m. ap₂ (λ x y. x || y) (p.column m) (q.column m) }
  held (If a b c) n i j h =
      let p = held a n i j h in
      let q = held b n i j h in
      let r = held c n i j h in
      record {
        whole = ap₂ (λ x y. x || y) p.whole (ap₂ (λ x y. x || y) q.whole r.whole);
        column = λ m. ap₂ (λ x y. x || y) (p.column m) (ap₂ (λ x y. x || y) (q.column m) (r.column m));
      }
  held (Let a b) n i j h =
      let p = held a n i j h in
      let q = held b (n + 1) (i + 1) (j + 1) (under n i j h) in
      record { whole = ap₂ (λ x y. x || y) p.whole q.whole; column = λ m. ap₂ (λ x y. x || y) (p.column m) (q.column m) }
  held (Prim c ts) n i j h = let q = held_trees ts n i j h in record { whole = q.0; column = q.1 }

  held_trees : (ts : Trees) (n i j : ℕ) → Held n i j → (whole_use_trees i (shift_trees ts n 1) ≡ whole_use_trees j ts)
      × ((l : Name) → column_use_trees i l (shift_trees ts n 1) ≡ column_use_trees j l ts)
  held_trees no_trees n i j h = (refl, λ l. refl)
  held_trees (trees t ts) n i j h =
      let p = held t n i j h in
      let q = held_trees ts n i j h in
      (ap₂ (λ x y. x || y) p.whole q.0, λ l. ap₂ (λ x y. x || y) (p.column l) (q.1 l))

  held_parts : (ps : Parts) (n i j : ℕ) → Held n i j → (whole_use_parts i (shift_parts ps n 1) ≡ whole_use_parts j ps)
      × ((l : Name) → column_use_parts i l (shift_parts ps n 1) ≡ column_use_parts j l ps)
  held_parts no_parts n i j h = (refl, λ l. refl)
  held_parts (parts m t ps) n i j h =
      let p = held t n i j h in
      let q = held_parts ps n i j h in
      (ap₂ (λ x y. x || y) p.whole q.0, λ l. ap₂ (λ x y. x || y) (p.column l) (q.1 l))

  held_arms : (bs : Arms) (n i j : ℕ) → Held n i j → (whole_use_arms i (shift_arms bs n 1) ≡ whole_use_arms j bs)
      × ((l : Name) → column_use_arms i l (shift_arms bs n 1) ≡ column_use_arms j l bs)
  held_arms no_arms n i j h = (refl, λ l. refl)
  held_arms (rest c) n i j h = let p = held c n i j h in (p.whole, λ l. p.column l)
  held_arms (arm m b bs) n i j h =
      let p = held b (n + 1) (i + 1) (j + 1) (under n i j h) in
      let q = held_arms bs n i j h in
      (ap₂ (λ x y. x || y) p.whole q.0, λ l. ap₂ (λ x y. x || y) (p.column l) (q.1 l))

-- ---- the position that is free

var_gone : (n x : ℕ) → nat_eq (raised n 1 x) n ≡ false
var_gone n x = ⊎_elim low high (cases_lt x n)
  where
    low : x < n → nat_eq (raised n 1 x) n ≡ false
    low h = rw (lt-ltb x n h) (ne_eqb x n (λ e. omega (arith, h, e)))

    high : n ≤ x → nat_eq (raised n 1 x) n ≡ false
    high h = rw (le-ltb x n h) (ne_eqb (x + 1) n (λ e. omega (arith, h, e)))

at_gone : (t : Tree) (n : ℕ) → is_at n (variable (shift_of t n 1)) ≡ false
at_gone (Var x) n = var_gone n x
at_gone t n = refl

and_false : (x : Bool) → (x && false) ≡ false
and_false true = refl
and_false false = refl

mutual
  pub gone : (t : Tree) (n : ℕ) → Unused n (shift_of t n 1)
  gone (Var x) n = record { whole = var_gone n x; column = λ l. refl }
  gone (Const v) n = record { whole = refl; column = λ l. refl }
  gone (Source s) n = record { whole = refl; column = λ l. refl }
  gone (Rec ps) n = let q = gone_parts ps n in record { whole = q.0; column = q.1 }
  gone (Proj l a) n =
      let q = gone a n in
      record {
        whole = ap (λ x. not (is_variable (shift_of a n 1)) && x) q.whole ∙ and_false (not (is_variable (shift_of a n 1)));
        column = λ m. ap₂ (λ x y. (x && pointwise nat_eq l m) || y) (at_gone a n) (q.column m);
      }
  gone (Inj l a) n = let q = gone a n in record { whole = q.whole; column = λ m. q.column m }
  gone (Case a bs) n =
      let p = gone a n in
      let q = gone_arms bs n in
      record { whole = ap₂ (λ x y. x || y) p.whole q.0; column = λ m. ap₂ (λ x y. x || y) (p.column m) (q.1 m) }
  gone (Make k ts) n = let q = gone_trees ts n in record { whole = q.0; column = q.1 }
  gone (Union a b) n =
      let p = gone a n in
      let q = gone b n in
      record { whole = ap₂ (λ x y. x || y) p.whole q.whole; column = λ m. ap₂ (λ x y. x || y) (p.column m) (q.column m) }
  gone (Ext k b s) n =
      let p = gone b (n + 1) in
      let q = gone s n in
      record { whole = ap₂ (λ x y. x || y) p.whole q.whole; column = λ m. ap₂ (λ x y. x || y) (p.column m) (q.column m) }
  gone (If a b c) n =
      let p = gone a n in
      let q = gone b n in
      let r = gone c n in
      record {
        whole = ap₂ (λ x y. x || y) p.whole (ap₂ (λ x y. x || y) q.whole r.whole);
        column = λ m. ap₂ (λ x y. x || y) (p.column m) (ap₂ (λ x y. x || y) (q.column m) (r.column m));
      }
  gone (Let a b) n =
      let p = gone a n in
      let q = gone b (n + 1) in
      record { whole = ap₂ (λ x y. x || y) p.whole q.whole; column = λ m. ap₂ (λ x y. x || y) (p.column m) (q.column m) }
  gone (Prim c ts) n = let q = gone_trees ts n in record { whole = q.0; column = q.1 }

  gone_trees : (ts : Trees) (n : ℕ) → (whole_use_trees n (shift_trees ts n 1) ≡ false)
      × ((l : Name) → column_use_trees n l (shift_trees ts n 1) ≡ false)
  gone_trees no_trees n = (refl, λ l. refl)
  gone_trees (trees t ts) n =
      let p = gone t n in
      let q = gone_trees ts n in
      (ap₂ (λ x y. x || y) p.whole q.0, λ l. ap₂ (λ x y. x || y) (p.column l) (q.1 l))

  gone_parts : (ps : Parts) (n : ℕ) → (whole_use_parts n (shift_parts ps n 1) ≡ false)
      × ((l : Name) → column_use_parts n l (shift_parts ps n 1) ≡ false)
  gone_parts no_parts n = (refl, λ l. refl)
  gone_parts (parts m t ps) n =
      let p = gone t n in
      let q = gone_parts ps n in
      (ap₂ (λ x y. x || y) p.whole q.0, λ l. ap₂ (λ x y. x || y) (p.column l) (q.1 l))

  gone_arms : (bs : Arms) (n : ℕ) → (whole_use_arms n (shift_arms bs n 1) ≡ false)
      × ((l : Name) → column_use_arms n l (shift_arms bs n 1) ≡ false)
  gone_arms no_arms n = (refl, λ l. refl)
  gone_arms (rest c) n = let p = gone c n in (p.whole, λ l. p.column l)
  gone_arms (arm m b bs) n =
      let p = gone b (n + 1) in
      let q = gone_arms bs n in
      (ap₂ (λ x y. x || y) p.whole q.0, λ l. ap₂ (λ x y. x || y) (p.column l) (q.1 l))

-- ---- tests of rows below the place

pub constant_raised : (t : Tree) (n : ℕ) → constant (shift_of t n 1) ≡ constant t
constant_raised (Const v) n = refl
constant_raised t n = refl

at_raised : (r n x : ℕ) (l : Name) → r ≤ n → column_at r l (Some (raised n 1 x)) ≡ column_at r l (Some x)
at_raised r n x l le = ⊎_elim low high (cases_lt x n)
  where
    low : x < n → column_at r l (Some (raised n 1 x)) ≡ column_at r l (Some x)
    low h = ap (λ b. column_at r l (Some (cond b x (x + 1)))) (lt-ltb x n h)

    high : n ≤ x → column_at r l (Some (raised n 1 x)) ≡ column_at r l (Some x)
    high h =
        ap (λ b. column_at r l (Some (cond b x (x + 1)))) (le-ltb x n h)
        ∙ ap (λ b. cond b (Some (r - 1 - (x + 1), l)) None) (le-ltb (x + 1) r (omega (arith, h, le)))
        ∙ sym (ap (λ b. cond b (Some (r - 1 - x, l)) None) (le-ltb x r (omega (arith, h, le))))

column_raised : (t : Tree) (r n : ℕ) → r ≤ n → column_of r (shift_of t n 1) ≡ column_of r t
column_raised (Proj l (Var x)) r n le = at_raised r n x l le
column_raised (Proj l a) r n le = refl
column_raised t r n le = refl

by_raised : (r n : ℕ) (o : Option SqlOp) (ts : Trees) → r ≤ n → test_by r o (shift_trees ts n 1) ≡ test_by r o ts
by_raised r n None ts le = refl
by_raised r n (Some o) no_trees le = refl
by_raised r n (Some o) (trees a no_trees) le = refl
by_raised r n (Some o) (trees a (trees b (trees c ts))) le = refl
by_raised r n (Some o) (trees a (trees b no_trees)) le =
    ap₂ (λ x y. test_between o x y (constant (shift_of a n 1)) (constant (shift_of b n 1))) (column_raised a r n le)
    (column_raised b r n le)
    ∙ ap₂ (λ x y. test_between o (column_of r a) (column_of r b) x y) (constant_raised a n) (constant_raised b n)

test_raised : (t : Tree) (r n : ℕ) → r ≤ n → test_of r (shift_of t n 1) ≡ test_of r t
test_raised (Prim c ts) r n le = by_raised r n (comparison c) ts le
test_raised t r n le = refl

pub empty_raised : (k : Kind) (t : Tree) (n : ℕ) → is_empty k (shift_of t n 1) ≡ is_empty k t
empty_raised k (Make j no_trees) n = refl
empty_raised k (Make j (trees t ts)) n = refl
empty_raised k t n = refl

pub taken_raised : (k : Kind) (t : Tree) (r n : ℕ) → r ≤ n → taken k r (shift_of t n 1) ≡ taken k r t
taken_raised k (If c d e) r n le =
    ap₂ (λ x y. cond (x && y) (taken_before (test_of r (shift_of c n 1)) (taken k r (shift_of d n 1))) []) (total_shift c n 1)
    (empty_raised k e n)
    ∙ ap₂ (λ x y. cond (is_front k c e) (taken_before x y) []) (test_raised c r n le) (taken_raised k d r n le)
taken_raised k t r n le = refl

-- no column of the nearest row
pub no_column_raised : (t : Tree) → column_of 1 (shift_of t 0 1) ≡ None
no_column_raised (Proj l (Var x)) =
    ap (λ b. column_at 1 l (Some (cond b x (x + 1)))) (le-ltb x 0 (omega arith))
    ∙ ap (λ b. cond b (Some (1 - 1 - (x + 1), l)) None) (le-ltb (x + 1) 1 (omega arith))
no_column_raised (Proj l a) = refl
no_column_raised t = refl

no_between_raised : (o : Option SqlOp) (ts : Trees) → test_by 1 o (shift_trees ts 0 1) ≡ None
no_between_raised None ts = refl
no_between_raised (Some o) no_trees = refl
no_between_raised (Some o) (trees a no_trees) = refl
no_between_raised (Some o) (trees a (trees b (trees c ts))) = refl
no_between_raised (Some o) (trees a (trees b no_trees)) =
    ap₂ (λ x y. test_between o x y (constant (shift_of a 0 1)) (constant (shift_of b 0 1))) (no_column_raised a) (no_column_raised b)

-- no test of it
pub no_test_raised : (t : Tree) → test_of 1 (shift_of t 0 1) ≡ None
no_test_raised (Prim c ts) = no_between_raised (comparison c) ts
no_test_raised t = refl

-- behind what is no test there may be none
pub none_behind_none : (k : Kind) (c d e : Tree) → test_of 1 c ≡ None → taken k 1 d ≡ [] → taken k 1 (If c d e) ≡ []
none_behind_none k c d e h g = ap₂ (λ x y. cond (is_front k c e) (taken_before x y) []) h g ∙ by (is_front k c e)
  where
    by : (b : Bool) → cond {A = List SqlTest} b [] [] ≡ []
    by true = refl
    by false = refl

pub no_front_raised : (k : Kind) (t : Tree) → taken k 1 (shift_of t 0 1) ≡ []
no_front_raised k (If c d e) =
    none_behind_none k (shift_of c 0 1) (shift_of d 0 1) (shift_of e 0 1) (no_test_raised c) (no_front_raised k d)
no_front_raised k t = refl
