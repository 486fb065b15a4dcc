-- No free position comes from a rule.
use Rattle.std.proofs.Common.{◌≡◌, ℕ, zero, suc, ◌+◌, ◌-◌, ◌^◌, ◌≤◌, ◌<◌, Bool, true, false, ◌||◌, cond, nat_eq, nat_lt, List, [], ◌∷◌, length, Option, Some, None, option_and_then, slice_get, refl, sym, ap, subst, ◌∙◌, arith, ⊎_elim, true≢false}
use Rattle.std.specs.Bool.{⊤}
use Rattle.std.specs.Cmp.Lexicographic.{pointwise}
use Rattle.std.proofs.lemmas.Bool.{cases_lt, ltb-true, ltb-false, eqb-false, eq-eqb, ne_eqb, or_from}
use Rattle.std.proofs.lemmas.Option.{same_Some, slice_get_within}
use Rattle.kl_value.specs.declared.Value.TheVariants as value
use Rattle.kl_outcome.specs.Outcome.{Name}
use Rattle.kl_core.specs.Trees.{Tree, Var, Const, Source, Rec, Proj, Inj, Case, Make, Union, Ext, If, Let, Prim, Trees, no_trees, trees, Parts, no_parts, parts, Arms, no_arms, rest, arm}
use Rattle.kl_core.specs.Leaves.{Leaves, LeavesOfTrees, LeavesOfParts, LeavesOfArms}
use Rattle.kl_core.specs.Positions.{raised, placed, shift_of, shift_trees, shift_parts, shift_arms, subst_of, subst_trees, subst_parts, subst_arms, occurs_in, occurs_trees, occurs_parts, occurs_arms, AnySource}
use Rattle.kl_core.specs.Counts.{depth_of, depth_trees, depth_parts, depth_arms}
use Rattle.kl_rules.specs.Rules.{RewriteRule, row_of, empty_of, part_of, branch_of, DeadLet, CopyPropagation, InlinedOnce, ScalarReplacement, LetOfLet, KnownField, KnownVariant, KnownCondition, NestedCondition, ConditionOrder}
use Rattle.kl_rules.specs.Rewriting.{IsLowPosition}
use Rattle.kl_rules.specs.Unpacking.{labels_at, turned_onto, bound_round, packed_var, packed, packed_trees, packed_parts, packed_arms}
use Rattle.kl_rewrite.specs.Places.{tree_at, field_at, arm_at, part_at, with_tree, with_field, with_arm, with_part, Place, stands_at, in_part, with_at}
use Rattle.kl_rewrite.specs.Steps.{IsClosed, Step}

-- each free position is below n
abbrev mutual
  Below : ℕ → Tree → Type 0
  Below n (Var x) = x < n
  Below n (Const v) = ⊤
  Below n (Source i) = ⊤
  Below n (Rec ps) = BelowParts n ps
  Below n (Proj l a) = Below n a
  Below n (Inj l a) = Below n a
  Below n (Case a bs) = Below n a × BelowArms n bs
  Below n (Make k ts) = BelowTrees n ts
  Below n (Union a b) = Below n a × Below n b
  Below n (Ext k b s) = Below (n + 1) b × Below n s
  Below n (If a b c) = Below n a × Below n b × Below n c
  Below n (Let a b) = Below n a × Below (n + 1) b
  Below n (Prim c ts) = BelowTrees n ts

  BelowTrees : ℕ → Trees → Type 0
  BelowTrees n no_trees = ⊤
  BelowTrees n (trees t ts) = Below n t × BelowTrees n ts

  BelowParts : ℕ → Parts → Type 0
  BelowParts n no_parts = ⊤
  BelowParts n (parts l t ps) = Below n t × BelowParts n ps

  BelowArms : ℕ → Arms → Type 0
  BelowArms n no_arms = ⊤
  BelowArms n (rest c) = Below n c
  BelowArms n (arm l b bs) = Below (n + 1) b × BelowArms n bs

-- ---- closed terms

abbrev Absent : ℕ → (ℕ → Bool) → Type 0
Absent n f = (m : ℕ) → n ≤ m → f m ≡ false

or_left : (a b : Bool) → (a || b) ≡ false → a ≡ false
or_left true b e = absurd (true≢false e)
or_left false b e = refl

or_right : (a b : Bool) → (a || b) ≡ false → b ≡ false
or_right true b e = absurd (true≢false e)
or_right false b e = e

no_left : (n : ℕ) (f g : ℕ → Bool) → Absent n (λ m. f m || g m) → Absent n f
no_left n f g h m l = or_left (f m) (g m) (h m l)

no_right : (n : ℕ) (f g : ℕ → Bool) → Absent n (λ m. f m || g m) → Absent n g
no_right n f g h m l = or_right (f m) (g m) (h m l)

no_under : (n : ℕ) (f : ℕ → Bool) → Absent n (λ m. f (m + 1)) → Absent (n + 1) f
no_under n f h zero l = absurd (omega (arith, l))
no_under n f h (suc m) l = subst (λ k. f k ≡ false) (omega arith) (h m (omega (arith, l)))

var_below : (n x : ℕ) → Absent n (λ m. nat_eq x m) → x < n
var_below n x h = ⊎_elim (λ l. l) (λ g. absurd (true≢false (sym (eq-eqb x x refl) ∙ h x g))) (cases_lt x n)

mutual
  below_of : (t : Tree) (n : ℕ) → Absent n (λ m. occurs_in m t) → Below n t
  below_of (Var x) n h = var_below n x h
  below_of (Const v) n h = tt
  below_of (Source i) n h = tt
  below_of (Rec ps) n h = below_of_parts ps n h
  below_of (Proj l a) n h = below_of a n h
  below_of (Inj l a) n h = below_of a n h
  below_of (Case a bs) n h = (below_of a n (no_left n _ (λ m. occurs_arms m bs) h), below_of_arms bs n (no_right n (λ m. occurs_in m a) _ h))
  below_of (Make k ts) n h = below_of_trees ts n h
  below_of (Union a b) n h = (below_of a n (no_left n _ (λ m. occurs_in m b) h), below_of b n (no_right n (λ m. occurs_in m a) _ h))
  below_of (Ext k b s) n h = (below_of b (n + 1) (no_under n (λ m. occurs_in m b) (no_left n _ (λ m. occurs_in m s) h)), below_of s n (no_right n (λ m. occurs_in (m + 1) b) _ h))
  below_of (If a b c) n h =
      let later = no_right n (λ m. occurs_in m a) (λ m. occurs_in m b || occurs_in m c) h in
      (below_of a n (no_left n (λ m. occurs_in m a) (λ m. occurs_in m b || occurs_in m c) h), below_of b n (no_left n (λ m. occurs_in m b) (λ m. occurs_in m c) later), below_of c n (no_right n (λ m. occurs_in m b) (λ m. occurs_in m c) later))
  below_of (Let a b) n h = (below_of a n (no_left n (λ m. occurs_in m a) (λ m. occurs_in (m + 1) b) h), below_of b (n + 1) (no_under n (λ m. occurs_in m b) (no_right n (λ m. occurs_in m a) (λ m. occurs_in (m + 1) b) h)))
  below_of (Prim c ts) n h = below_of_trees ts n h

  below_of_trees : (ts : Trees) (n : ℕ) → Absent n (λ m. occurs_trees m ts) → BelowTrees n ts
  below_of_trees no_trees n h = tt
  below_of_trees (trees t ts) n h = (below_of t n (no_left n (λ m. occurs_in m t) (λ m. occurs_trees m ts) h), below_of_trees ts n (no_right n (λ m. occurs_in m t) (λ m. occurs_trees m ts) h))

  below_of_parts : (ps : Parts) (n : ℕ) → Absent n (λ m. occurs_parts m ps) → BelowParts n ps
  below_of_parts no_parts n h = tt
  below_of_parts (parts l t ps) n h = (below_of t n (no_left n (λ m. occurs_in m t) (λ m. occurs_parts m ps) h), below_of_parts ps n (no_right n (λ m. occurs_in m t) (λ m. occurs_parts m ps) h))

  below_of_arms : (bs : Arms) (n : ℕ) → Absent n (λ m. occurs_arms m bs) → BelowArms n bs
  below_of_arms no_arms n h = tt
  below_of_arms (rest c) n h = below_of c n h
  below_of_arms (arm l b bs) n h =
      (below_of b (n + 1) (no_under n (λ m. occurs_in m b) (no_left n (λ m. occurs_in (m + 1) b) (λ m. occurs_arms m bs) h)), below_of_arms bs n (no_right n (λ m. occurs_in (m + 1) b) (λ m. occurs_arms m bs) h))

var_absent : (n x m : ℕ) → x < n → n ≤ m → nat_eq x m ≡ false
var_absent n x m h l = ne_eqb x m (λ e. omega (arith, h, l, e))

mutual
  absent_in : (t : Tree) (n : ℕ) → Below n t → Absent n (λ m. occurs_in m t)
  absent_in (Var x) n h m l = var_absent n x m h l
  absent_in (Const v) n h m l = refl
  absent_in (Source i) n h m l = refl
  absent_in (Rec ps) n h m l = absent_parts ps n h m l
  absent_in (Proj k a) n h m l = absent_in a n h m l
  absent_in (Inj k a) n h m l = absent_in a n h m l
  absent_in (Case a bs) n h m l = or_from (occurs_in m a) (occurs_arms m bs) (absent_in a n h.0 m l) (absent_arms bs n h.1 m l)
  absent_in (Make k ts) n h m l = absent_trees ts n h m l
  absent_in (Union a b) n h m l = or_from (occurs_in m a) (occurs_in m b) (absent_in a n h.0 m l) (absent_in b n h.1 m l)
  absent_in (Ext k b s) n h m l = or_from (occurs_in (m + 1) b) (occurs_in m s) (absent_in b (n + 1) h.0 (m + 1) (omega (arith, l))) (absent_in s n h.1 m l)
  absent_in (If a b c) n h m l = or_from (occurs_in m a) (occurs_in m b || occurs_in m c) (absent_in a n h.0 m l) (or_from (occurs_in m b) (occurs_in m c) (absent_in b n h.1 m l) (absent_in c n h.2 m l))
  absent_in (Let a b) n h m l = or_from (occurs_in m a) (occurs_in (m + 1) b) (absent_in a n h.0 m l) (absent_in b (n + 1) h.1 (m + 1) (omega (arith, l)))
  absent_in (Prim c ts) n h m l = absent_trees ts n h m l

  absent_trees : (ts : Trees) (n : ℕ) → BelowTrees n ts → Absent n (λ m. occurs_trees m ts)
  absent_trees no_trees n h m l = refl
  absent_trees (trees t ts) n h m l = or_from (occurs_in m t) (occurs_trees m ts) (absent_in t n h.0 m l) (absent_trees ts n h.1 m l)

  absent_parts : (ps : Parts) (n : ℕ) → BelowParts n ps → Absent n (λ m. occurs_parts m ps)
  absent_parts no_parts n h m l = refl
  absent_parts (parts k t ps) n h m l = or_from (occurs_in m t) (occurs_parts m ps) (absent_in t n h.0 m l) (absent_parts ps n h.1 m l)

  absent_arms : (bs : Arms) (n : ℕ) → BelowArms n bs → Absent n (λ m. occurs_arms m bs)
  absent_arms no_arms n h m l = refl
  absent_arms (rest c) n h m l = absent_in c n h m l
  absent_arms (arm k b bs) n h m l = or_from (occurs_in (m + 1) b) (occurs_arms m bs) (absent_in b (n + 1) h.0 (m + 1) (omega (arith, l))) (absent_arms bs n h.1 m l)

-- ---- no position of a closed term is high

mutual
  low_of : (t : Tree) (n : ℕ) → n + depth_of t < 2 ^ 31 → Below n t → Leaves IsLowPosition AnySource t
  low_of (Var x) n d h = omega (arith, d, h)
  low_of (Const v) n d h = tt
  low_of (Source i) n d h = tt
  low_of (Rec ps) n d h = low_of_parts ps n (omega (arith, d)) h
  low_of (Proj l a) n d h = low_of a n (omega (arith, d)) h
  low_of (Inj l a) n d h = low_of a n (omega (arith, d)) h
  low_of (Case a bs) n d h = (low_of a n (omega (arith, d)) h.0, low_of_arms bs n (omega (arith, d)) h.1)
  low_of (Make k ts) n d h = low_of_trees ts n (omega (arith, d)) h
  low_of (Union a b) n d h = (low_of a n (omega (arith, d)) h.0, low_of b n (omega (arith, d)) h.1)
  low_of (Ext k b s) n d h = (low_of b (n + 1) (omega (arith, d)) h.0, low_of s n (omega (arith, d)) h.1)
  low_of (If a b c) n d h = (low_of a n (omega (arith, d)) h.0, low_of b n (omega (arith, d)) h.1, low_of c n (omega (arith, d)) h.2)
  low_of (Let a b) n d h = (low_of a n (omega (arith, d)) h.0, low_of b (n + 1) (omega (arith, d)) h.1)
  low_of (Prim c ts) n d h = low_of_trees ts n (omega (arith, d)) h

  low_of_trees : (ts : Trees) (n : ℕ) → n + depth_trees ts < 2 ^ 31 → BelowTrees n ts → LeavesOfTrees IsLowPosition AnySource ts
  low_of_trees no_trees n d h = tt
  low_of_trees (trees t ts) n d h = (low_of t n (omega (arith, d)) h.0, low_of_trees ts n (omega (arith, d)) h.1)

  low_of_parts : (ps : Parts) (n : ℕ) → n + depth_parts ps < 2 ^ 31 → BelowParts n ps → LeavesOfParts IsLowPosition AnySource ps
  low_of_parts no_parts n d h = tt
  low_of_parts (parts l t ps) n d h = (low_of t n (omega (arith, d)) h.0, low_of_parts ps n (omega (arith, d)) h.1)

  low_of_arms : (bs : Arms) (n : ℕ) → n + 1 + depth_arms bs < 2 ^ 31 → BelowArms n bs → LeavesOfArms IsLowPosition AnySource bs
  low_of_arms no_arms n d h = tt
  low_of_arms (rest c) n d h = low_of c n (omega (arith, d)) h
  low_of_arms (arm l b bs) n d h = (low_of b (n + 1) (omega (arith, d)) h.0, low_of_arms bs n (omega (arith, d)) h.1)

pub closed_low : (t : Tree) → IsClosed t → depth_of t ≤ 512 → Leaves IsLowPosition AnySource t
closed_low t h d = low_of t 0 (omega (arith, d)) (below_of t 0 (λ m l. h m))

-- ---- raised and lowered

var_up : (n from by x : ℕ) → x < n → raised from by x < n + by
var_up n from by x h = elim (nat_lt x from) as (λ b. cond b x (x + by) < n + by) [ true ↦ omega (arith, h) | false ↦ omega (arith, h) ]

mutual
  up : (t : Tree) (n from by : ℕ) → Below n t → Below (n + by) (shift_of t from by)
  up (Var x) n from by h = var_up n from by x h
  up (Const v) n from by h = tt
  up (Source i) n from by h = tt
  up (Rec ps) n from by h = up_parts ps n from by h
  up (Proj k a) n from by h = up a n from by h
  up (Inj k a) n from by h = up a n from by h
  up (Case a bs) n from by h = (up a n from by h.0, up_arms bs n from by h.1)
  up (Make k ts) n from by h = up_trees ts n from by h
  up (Union a b) n from by h = (up a n from by h.0, up b n from by h.1)
  up (Ext k b s) n from by h = (subst (λ m. Below m (shift_of b (from + 1) by)) (omega arith) (up b (n + 1) (from + 1) by h.0), up s n from by h.1)
  up (If a b c) n from by h = (up a n from by h.0, up b n from by h.1, up c n from by h.2)
  up (Let a b) n from by h = (up a n from by h.0, subst (λ m. Below m (shift_of b (from + 1) by)) (omega arith) (up b (n + 1) (from + 1) by h.1))
  up (Prim c ts) n from by h = up_trees ts n from by h

  up_trees : (ts : Trees) (n from by : ℕ) → BelowTrees n ts → BelowTrees (n + by) (shift_trees ts from by)
  up_trees no_trees n from by h = tt
  up_trees (trees t ts) n from by h = (up t n from by h.0, up_trees ts n from by h.1)

  up_parts : (ps : Parts) (n from by : ℕ) → BelowParts n ps → BelowParts (n + by) (shift_parts ps from by)
  up_parts no_parts n from by h = tt
  up_parts (parts k t ps) n from by h = (up t n from by h.0, up_parts ps n from by h.1)

  up_arms : (bs : Arms) (n from by : ℕ) → BelowArms n bs → BelowArms (n + by) (shift_arms bs from by)
  up_arms no_arms n from by h = tt
  up_arms (rest c) n from by h = up c n from by h
  up_arms (arm k b bs) n from by h = (subst (λ m. Below m (shift_of b (from + 1) by)) (omega arith) (up b (n + 1) (from + 1) by h.0), up_arms bs n from by h.1)

var_down : (n from x : ℕ) → from ≤ n → raised from 1 x < n + 1 → x < n
var_down n from x l h = by_bit (nat_lt x from) refl h
  where
    by_bit : (b : Bool) → nat_lt x from ≡ b → cond b x (x + 1) < n + 1 → x < n
    by_bit true e g = let low = ltb-true x from e in omega (arith, l, low)
    by_bit false e g = omega (arith, g)

mutual
  down : (t : Tree) (n from : ℕ) → from ≤ n → Below (n + 1) (shift_of t from 1) → Below n t
  down (Var x) n from l h = var_down n from x l h
  down (Const v) n from l h = tt
  down (Source i) n from l h = tt
  down (Rec ps) n from l h = down_parts ps n from l h
  down (Proj k a) n from l h = down a n from l h
  down (Inj k a) n from l h = down a n from l h
  down (Case a bs) n from l h = (down a n from l h.0, down_arms bs n from l h.1)
  down (Make k ts) n from l h = down_trees ts n from l h
  down (Union a b) n from l h = (down a n from l h.0, down b n from l h.1)
  down (Ext k b s) n from l h = (down b (n + 1) (from + 1) (omega (arith, l)) h.0, down s n from l h.1)
  down (If a b c) n from l h = (down a n from l h.0, down b n from l h.1, down c n from l h.2)
  down (Let a b) n from l h = (down a n from l h.0, down b (n + 1) (from + 1) (omega (arith, l)) h.1)
  down (Prim c ts) n from l h = down_trees ts n from l h

  down_trees : (ts : Trees) (n from : ℕ) → from ≤ n → BelowTrees (n + 1) (shift_trees ts from 1) → BelowTrees n ts
  down_trees no_trees n from l h = tt
  down_trees (trees t ts) n from l h = (down t n from l h.0, down_trees ts n from l h.1)

  down_parts : (ps : Parts) (n from : ℕ) → from ≤ n → BelowParts (n + 1) (shift_parts ps from 1) → BelowParts n ps
  down_parts no_parts n from l h = tt
  down_parts (parts k t ps) n from l h = (down t n from l h.0, down_parts ps n from l h.1)

  down_arms : (bs : Arms) (n from : ℕ) → from ≤ n → BelowArms (n + 1) (shift_arms bs from 1) → BelowArms n bs
  down_arms no_arms n from l h = tt
  down_arms (rest c) n from l h = down c n from l h
  down_arms (arm k b bs) n from l h = (down b (n + 1) (from + 1) (omega (arith, l)) h.0, down_arms bs n from l h.1)

-- ---- put in

var_put : (n at x : ℕ) (w : Tree) → at ≤ n → x < n + 1 → Below n w → Below n (placed at w x)
var_put n at x w l h g = by_equal (nat_eq x at) refl
  where
    by_order : (b : Bool) → nat_lt x at ≡ b → nat_eq x at ≡ false → Below n (cond b (Var x) (Var (x - 1)))
    by_order true e f = let low = ltb-true x at e in omega (arith, l, low)
    by_order false e f = let high = ltb-false x at e in let other = eqb-false x at f in omega (arith, h, high, other)

    by_equal : (b : Bool) → nat_eq x at ≡ b → Below n (cond b w (cond (nat_lt x at) (Var x) (Var (x - 1))))
    by_equal true e = g
    by_equal false e = by_order (nat_lt x at) refl e

mutual
  put : (t : Tree) (w : Tree) (n at : ℕ) → at ≤ n → Below (n + 1) t → Below n w → Below n (subst_of t at w)
  put (Var x) w n at l h g = var_put n at x w l h g
  put (Const v) w n at l h g = tt
  put (Source i) w n at l h g = tt
  put (Rec ps) w n at l h g = put_parts ps w n at l h g
  put (Proj k a) w n at l h g = put a w n at l h g
  put (Inj k a) w n at l h g = put a w n at l h g
  put (Case a bs) w n at l h g = (put a w n at l h.0 g, put_arms bs w n at l h.1 g)
  put (Make k ts) w n at l h g = put_trees ts w n at l h g
  put (Union a b) w n at l h g = (put a w n at l h.0 g, put b w n at l h.1 g)
  put (Ext k b s) w n at l h g = (put b (shift_of w 0 1) (n + 1) (at + 1) (omega (arith, l)) h.0 (up w n 0 1 g), put s w n at l h.1 g)
  put (If a b c) w n at l h g = (put a w n at l h.0 g, put b w n at l h.1 g, put c w n at l h.2 g)
  put (Let a b) w n at l h g = (put a w n at l h.0 g, put b (shift_of w 0 1) (n + 1) (at + 1) (omega (arith, l)) h.1 (up w n 0 1 g))
  put (Prim c ts) w n at l h g = put_trees ts w n at l h g

  put_trees : (ts : Trees) (w : Tree) (n at : ℕ) → at ≤ n → BelowTrees (n + 1) ts → Below n w → BelowTrees n (subst_trees ts at w)
  put_trees no_trees w n at l h g = tt
  put_trees (trees t ts) w n at l h g = (put t w n at l h.0 g, put_trees ts w n at l h.1 g)

  put_parts : (ps : Parts) (w : Tree) (n at : ℕ) → at ≤ n → BelowParts (n + 1) ps → Below n w → BelowParts n (subst_parts ps at w)
  put_parts no_parts w n at l h g = tt
  put_parts (parts k t ps) w n at l h g = (put t w n at l h.0 g, put_parts ps w n at l h.1 g)

  put_arms : (bs : Arms) (w : Tree) (n at : ℕ) → at ≤ n → BelowArms (n + 1) bs → Below n w → BelowArms n (subst_arms bs at w)
  put_arms no_arms w n at l h g = tt
  put_arms (rest c) w n at l h g = put c w n at l h g
  put_arms (arm k b bs) w n at l h g = (put b (shift_of w 0 1) (n + 1) (at + 1) (omega (arith, l)) h.0 (up w n 0 1 g), put_arms bs w n at l h.1 g)

-- ---- unpacked

var_opened : (ls : List Name) (n m x : ℕ) → m ≤ n → Below (n + 1) (cond (nat_lt x m) (Var x) (packed_var ls m x (slice_get ls (x - m)))) → x < n + length ls
var_opened ls n m x l h = by_bit (nat_lt x m) refl h
  where
    by_label : (o : Option Name) → slice_get ls (x - m) ≡ o → Below (n + 1) (packed_var ls m x o) → x < n + length ls
    by_label (Some k) e g = let inside = slice_get_within ls (x - m) k e in omega (arith, l, inside)
    by_label None e g = omega (arith, g)

    by_bit : (b : Bool) → nat_lt x m ≡ b → Below (n + 1) (cond b (Var x) (packed_var ls m x (slice_get ls (x - m)))) → x < n + length ls
    by_bit true e g = let low = ltb-true x m e in omega (arith, l, low)
    by_bit false e g = by_label (slice_get ls (x - m)) refl g

mutual
  opened : (t : Tree) (ls : List Name) (n m : ℕ) → m ≤ n → Below (n + 1) (packed ls m t) → Below (n + length ls) t
  opened (Var x) ls n m l h = var_opened ls n m x l h
  opened (Const v) ls n m l h = tt
  opened (Source i) ls n m l h = tt
  opened (Rec ps) ls n m l h = opened_parts ps ls n m l h
  opened (Proj k a) ls n m l h = opened a ls n m l h
  opened (Inj k a) ls n m l h = opened a ls n m l h
  opened (Case a bs) ls n m l h = (opened a ls n m l h.0, opened_arms bs ls n m l h.1)
  opened (Make k ts) ls n m l h = opened_trees ts ls n m l h
  opened (Union a b) ls n m l h = (opened a ls n m l h.0, opened b ls n m l h.1)
  opened (Ext k b s) ls n m l h = (subst (λ k. Below k b) (omega arith) (opened b ls (n + 1) (m + 1) (omega (arith, l)) h.0), opened s ls n m l h.1)
  opened (If a b c) ls n m l h = (opened a ls n m l h.0, opened b ls n m l h.1, opened c ls n m l h.2)
  opened (Let a b) ls n m l h = (opened a ls n m l h.0, subst (λ k. Below k b) (omega arith) (opened b ls (n + 1) (m + 1) (omega (arith, l)) h.1))
  opened (Prim c ts) ls n m l h = opened_trees ts ls n m l h

  opened_trees : (ts : Trees) (ls : List Name) (n m : ℕ) → m ≤ n → BelowTrees (n + 1) (packed_trees ls m ts) → BelowTrees (n + length ls) ts
  opened_trees no_trees ls n m l h = tt
  opened_trees (trees t ts) ls n m l h = (opened t ls n m l h.0, opened_trees ts ls n m l h.1)

  opened_parts : (ps : Parts) (ls : List Name) (n m : ℕ) → m ≤ n → BelowParts (n + 1) (packed_parts ls m ps) → BelowParts (n + length ls) ps
  opened_parts no_parts ls n m l h = tt
  opened_parts (parts k t ps) ls n m l h = (opened t ls n m l h.0, opened_parts ps ls n m l h.1)

  opened_arms : (bs : Arms) (ls : List Name) (n m : ℕ) → m ≤ n → BelowArms (n + 1) (packed_arms ls m bs) → BelowArms (n + length ls) bs
  opened_arms no_arms ls n m l h = tt
  opened_arms (rest c) ls n m l h = opened c ls n m l h
  opened_arms (arm k b bs) ls n m l h = (subst (λ k. Below k b) (omega arith) (opened b ls (n + 1) (m + 1) (omega (arith, l)) h.0), opened_arms bs ls n m l h.1)

abbrev count : Parts → ℕ
count no_parts = 0
count (parts l t ps) = suc (count ps)

labels_many : (ps : Parts) → length (labels_at ps) ≡ count ps
labels_many no_parts = refl
labels_many (parts l t ps) = ap suc (labels_many ps)

turned_many : (xs ys : List Name) → length (turned_onto xs ys) ≡ length xs + length ys
turned_many [] ys = omega arith
turned_many (x ∷ xs) ys = omega (arith, turned_many xs (x ∷ ys))

round_below : (ps : Parts) (n k : ℕ) (b : Tree) → BelowParts n ps → Below (n + k + count ps) b → Below (n + k) (bound_round ps k b)
round_below no_parts n k b h g = subst (λ m. Below m b) (omega arith) g
round_below (parts l t ps) n k b h g =
    let inside : Below (n + (k + 1)) (bound_round ps (k + 1) b) = round_below ps n (k + 1) b h.1 (subst (λ m. Below m b) (omega arith) g) in
    (up t n 0 k h.0, subst (λ m. Below m (bound_round ps (k + 1) b)) (omega arith) inside)

part_below : (l : Name) (ps : Parts) (n : ℕ) (u : Tree) → BelowParts n ps → part_of l ps ≡ Some u → Below n u
part_below l no_parts n u h e = absurd cc
part_below l (parts m t ps) n u h e = by_bit (pointwise nat_eq l m) (part_below l ps n u h.1) e
  where
    by_bit : (b : Bool) → (part_of l ps ≡ Some u → Below n u) → cond b (Some t) (part_of l ps) ≡ Some u → Below n u
    by_bit true next f = subst (Below n) (same_Some t u f) h.0
    by_bit false next f = next f

branch_below : (l : Name) (bs : Arms) (n : ℕ) (u : Tree) → BelowArms n bs → branch_of l bs ≡ Some u → Below (n + 1) u
branch_below l no_arms n u h e = absurd cc
branch_below l (rest c) n u h e = subst (Below (n + 1)) (same_Some (shift_of c 0 1) u e) (up c n 0 1 h)
branch_below l (arm m b bs) n u h e = by_bit (pointwise nat_eq l m) (branch_below l bs n u h.1) e
  where
    by_bit : (x : Bool) → (branch_of l bs ≡ Some u → Below (n + 1) u) → cond x (Some b) (branch_of l bs) ≡ Some u → Below (n + 1) u
    by_bit true next f = subst (Below (n + 1)) (same_Some b u f) h.0
    by_bit false next f = next f

-- ---- the rules

chosen_below : (b : Bool) (n : ℕ) (p q : Tree) → Below n p → Below n q → Below n (cond b p q)
chosen_below true n p q h g = h
chosen_below false n p q h g = g

rule_below : (i : ℕ) (t u : Tree) (n : ℕ) → RewriteRule i t u → Below n t → Below n u
rule_below zero t u n r h = absurd r
rule_below (suc zero) t u n (k, j, a, b, s, e, f, g) h =
    let d : Below n (Ext k a (Ext j b s)) = subst (Below n) e h in
    subst (Below n) (sym f) ((up a (n + 1) 1 1 d.0, d.1.0), d.1.1)
rule_below (suc (suc zero)) t u n (k, a, b, s, e, f, g, l) h =
    let d : Below n (Union (Ext k a s) (Ext k b s)) = subst (Below n) e h in
    subst (Below n) (sym f) ((d.0.0, d.1.0), d.0.1)
rule_below (suc (suc (suc zero))) t u n (k, j, a, c, s, e, f, g, l) h =
    let d : Below n (Ext k (If (shift_of c 0 1) a (empty_of j)) s) = subst (Below n) e h in
    subst (Below n) (sym f) (down c n 0 (omega arith) d.0.0, (d.0.1, d.1), tt)
rule_below (suc (suc (suc (suc zero)))) t u n (k, j, a, e, f) h = subst (Below n) (sym f) tt
rule_below (suc (suc (suc (suc (suc zero))))) t u n (k, j, a, s, e, f) h =
    let d : Below n (Ext k a (Make j (trees s no_trees))) = subst (Below n) e h in
    subst (Below n) (sym f) (d.1.0, d.0)
rule_below (suc (suc (suc (suc (suc (suc zero)))))) t u n (k, j, a, c, s, e, f) h =
    let d : Below n (Ext k a (If c s (empty_of j))) = subst (Below n) e h in
    subst (Below n) (sym f) (d.1.0, (d.0, d.1.1), tt)
rule_below (suc (suc (suc (suc (suc (suc (suc zero))))))) t u n (k, a, b, s, e, f) h =
    let d : Below n (Ext k a (Let b s)) = subst (Below n) e h in
    subst (Below n) (sym f) (d.1.0, (up a (n + 1) 1 1 d.0, d.1.1))
rule_below (suc (suc (suc (suc (suc (suc (suc (suc i)))))))) t u n r h = later i r
  where
    last : (i : ℕ) → row_of (KnownField ∷ KnownVariant ∷ KnownCondition ∷ NestedCondition ∷ ConditionOrder ∷ []) i t u → Below n u
    last zero (l, ps, e, f, g) = let d : Below n (Proj l (Rec ps)) = subst (Below n) e h in part_below l ps n u d f
    last (suc zero) (l, bs, a, s, e, f, g) =
        let d : Below n (Case (Inj l s) bs) = subst (Below n) e h in
        subst (Below n) (sym g) (d.0, branch_below l bs n a d.1 f)
    last (suc (suc zero)) (b, p, q, e, f) =
        let d : Below n (If (Const (value.Bool b)) p q) = subst (Below n) e h in
        subst (Below n) (sym f) (chosen_below b n p q d.1 d.2)
    last (suc (suc (suc zero))) (k, a, b, c, e, f) =
        let d : Below n (If (If a b (Const (value.Bool false))) c (empty_of k)) = subst (Below n) e h in
        subst (Below n) (sym f) (d.0.0, (d.0.1, d.1, tt), tt)
    last (suc (suc (suc (suc zero)))) (k, c, d, s, e, f, g, o, w) =
        let b : Below n (If c (If d s (empty_of k)) (empty_of k)) = subst (Below n) e h in
        subst (Below n) (sym f) (b.1.0, (b.0, b.1.1, tt), tt)
    last (suc (suc (suc (suc (suc i))))) r = absurd r

    later : (i : ℕ) → row_of (DeadLet ∷ CopyPropagation ∷ InlinedOnce ∷ ScalarReplacement ∷ LetOfLet ∷ KnownField ∷ KnownVariant ∷ KnownCondition ∷ NestedCondition ∷ ConditionOrder ∷ []) i t u → Below n u
    later zero (a, s, e, f, g) =
        let d : Below n (Let s (shift_of a 0 1)) = subst (Below n) e h in
        subst (Below n) (sym f) (down a n 0 (omega arith) d.1)
    later (suc zero) (a, s, e, f, g) =
        let d : Below n (Let s a) = subst (Below n) e h in
        subst (Below n) (sym f) (put a s n 0 (omega arith) d.1 d.0)
    later (suc (suc zero)) (a, s, e, f, g, o) =
        let d : Below n (Let s a) = subst (Below n) e h in
        subst (Below n) (sym f) (put a s n 0 (omega arith) d.1 d.0)
    later (suc (suc (suc zero))) (b, ps, e, f, g) =
        let ls : List Name = turned_onto (labels_at ps) [] in
        let d : Below n (Let (Rec ps) (packed ls 0 b)) = subst (Below n) e h in
        let many : length ls ≡ count ps = omega (arith, turned_many (labels_at ps) [], labels_many ps) in
        let body : Below (n + length ls) b = opened b ls n 0 (omega arith) d.1 in
        let all : Below (n + 0) (bound_round ps 0 b) = round_below ps n 0 b d.0 (subst (λ m. Below m b) (omega (arith, many)) body) in
        subst (Below n) (sym f) (subst (λ m. Below m (bound_round ps 0 b)) (omega arith) all)
    later (suc (suc (suc (suc zero)))) (a, b, s, e, f) =
        let d : Below n (Let (Let s b) a) = subst (Below n) e h in
        subst (Below n) (sym f) (d.0.0, (d.0.1, up a (n + 1) 1 1 d.1))
    later (suc (suc (suc (suc (suc i))))) r = last i r

-- ---- at a place

abbrev Closer : Tree → Tree → Type 0
Closer t u = (n : ℕ) → Below n t → Below n u

module _ (v a : Tree) (k : Closer a v) where
  here : (b : Tree) → Some b ≡ Some a → Closer b v
  here b e n h = k n (subst (Below n) (same_Some b a e) h)

  tree_below : (ts : Trees) (i : ℕ) → tree_at ts i ≡ Some a → (n : ℕ) → BelowTrees n ts → BelowTrees n (with_tree ts i v)
  tree_below no_trees i e n h = absurd cc
  tree_below (trees t ts) zero e n h = (here t e n h.0, h.1)
  tree_below (trees t ts) (suc i) e n h = (h.0, tree_below ts i e n h.1)

  field_below : (ps : Parts) (i : ℕ) → field_at ps i ≡ Some a → (n : ℕ) → BelowParts n ps → BelowParts n (with_field ps i v)
  field_below no_parts i e n h = absurd cc
  field_below (parts l t ps) zero e n h = (here t e n h.0, h.1)
  field_below (parts l t ps) (suc i) e n h = (h.0, field_below ps i e n h.1)

  arm_below : (bs : Arms) (i : ℕ) → arm_at bs i ≡ Some a → (n : ℕ) → BelowArms n bs → BelowArms n (with_arm bs i v)
  arm_below no_arms i e n h = absurd cc
  arm_below (rest c) zero e n h = here c e n h
  arm_below (rest c) (suc i) e n h = absurd cc
  arm_below (arm l b bs) zero e n h = (here b e (n + 1) h.0, h.1)
  arm_below (arm l b bs) (suc i) e n h = (h.0, arm_below bs i e n h.1)

  with_below : (t : Tree) (i : ℕ) → part_at t i ≡ Some a → Closer t (with_part t i v)
  with_below (Var x) i e n h = absurd cc
  with_below (Const c) i e n h = absurd cc
  with_below (Source m) i e n h = absurd cc
  with_below (Rec ps) i e n h = field_below ps i e n h
  with_below (Proj l b) zero e n h = here b e n h
  with_below (Proj l b) (suc i) e n h = absurd cc
  with_below (Inj l b) zero e n h = here b e n h
  with_below (Inj l b) (suc i) e n h = absurd cc
  with_below (Case b bs) zero e n h = (here b e n h.0, h.1)
  with_below (Case b bs) (suc i) e n h = (h.0, arm_below bs i e n h.1)
  with_below (Make j ts) i e n h = tree_below ts i e n h
  with_below (Union b c) zero e n h = (here b e n h.0, h.1)
  with_below (Union b c) (suc zero) e n h = (h.0, here c e n h.1)
  with_below (Union b c) (suc (suc i)) e n h = absurd cc
  with_below (Ext j b s) zero e n h = (here b e (n + 1) h.0, h.1)
  with_below (Ext j b s) (suc zero) e n h = (h.0, here s e n h.1)
  with_below (Ext j b s) (suc (suc i)) e n h = absurd cc
  with_below (If b c d) zero e n h = (here b e n h.0, h.1, h.2)
  with_below (If b c d) (suc zero) e n h = (h.0, here c e n h.1, h.2)
  with_below (If b c d) (suc (suc zero)) e n h = (h.0, h.1, here d e n h.2)
  with_below (If b c d) (suc (suc (suc i))) e n h = absurd cc
  with_below (Let b c) zero e n h = (here b e n h.0, h.1)
  with_below (Let b c) (suc zero) e n h = (h.0, here c e (n + 1) h.1)
  with_below (Let b c) (suc (suc i)) e n h = absurd cc
  with_below (Prim c ts) i e n h = tree_below ts i e n h

place_below : (p : Place) (t a v : Tree) → stands_at t p ≡ Some a → Closer a v → Closer t (with_at t p v)
place_below [] t a v e k = λ n h. k n (subst (Below n) (same_Some t a e) h)
place_below (i ∷ p) t a v e k = by_part (part_at t i) refl e (λ b f. place_below p b a v f k)
  where
    by_part : (o : Option Tree) → part_at t i ≡ o → option_and_then (λ b. stands_at b p) o ≡ Some a → ((b : Tree) → stands_at b p ≡ Some a → Closer b (with_at b p v)) → Closer t (in_part t i o (λ b. with_at b p v))
    by_part (Some b) f g next = with_below (with_at b p v) b (next b g) t i f
    by_part None f g next = absurd cc

pub closed_after : (t u : Tree) → Step t u → IsClosed t → IsClosed u
closed_after t u s h =
    let m = s.makes in
    let closer = place_below s.place t m.before m.after m.stands (λ n. rule_below s.number m.before m.after n m.rewrites) in
    λ n. subst (λ x. occurs_in n x ≡ false) (sym m.whole) (absent_in (with_at t s.place m.after) 0 (closer 0 (below_of t 0 (λ m l. h m))) n (omega arith))
