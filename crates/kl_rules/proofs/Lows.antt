-- Small terms stay within 32 bits where they are moved and put.
use Rattle.std.proofs.Common.{◌≡◌, ℕ, ◌+◌, ◌<◌, ◌^◌, true, false, cond, nat_lt, sym, ap, subst, ◌∙◌, arith}
use Rattle.kl_value.specs.declared.Kind.{Kind}
use Rattle.kl_core.specs.declared.term.Term.{Term}
use Rattle.kl_core.specs.declared.term.Term.TheVariants as term
use Rattle.kl_core.specs.Trees.{Tree, Var, Const, Source, Rec, Proj, Inj, Case, Make, Union, Ext, If, Let, Prim, Trees, no_trees, trees, Parts, no_parts, parts, Arms, no_arms, rest, arm, view}
use Rattle.kl_core.specs.Leaves.{Leaves, LeavesOfTrees, LeavesOfParts, LeavesOfArms}
use Rattle.kl_core.specs.Positions.{raised, shift_of, shift_trees, shift_parts, shift_arms, binders, AnySource, InRange, TreesInRange, PartsInRange, ArmsInRange}
use Rattle.kl_core.specs.Counts.{nodes_of}
use Rattle.kl_core.specs.Keeping.{Room}
use Rattle.kl_core.proofs.Views.{view_Ext, view_Let}
use Rattle.kl_core.proofs.Sizes.{few_binders}
use Rattle.kl_rules.specs.Rewriting.{IsLowPosition, IsShiftable}

low_var : (x n m : ℕ) → m < 2 ^ 31 → x < 2 ^ 31 → raised n m x < 2 ^ 32
low_var x n m few low = elim (nat_lt x n) as (λ b. cond b x (x + m) < 2 ^ 32) [ true ↦ omega (arith, few, low) | false ↦ omega (arith, few, low) ]

mutual
  pub low_raised : (t : Tree) (n m : ℕ) → m < 2 ^ 31 → Leaves IsLowPosition AnySource t → InRange (shift_of t n m)
  low_raised (Var x) n m few h = low_var x n m few h
  low_raised (Const v) n m few h = tt
  low_raised (Source i) n m few h = tt
  low_raised (Rec ps) n m few h = low_raised_parts ps n m few h
  low_raised (Proj l a) n m few h = low_raised a n m few h
  low_raised (Inj l a) n m few h = low_raised a n m few h
  low_raised (Case a bs) n m few h = (low_raised a n m few h.0, low_raised_arms bs n m few h.1)
  low_raised (Make k ts) n m few h = low_raised_trees ts n m few h
  low_raised (Union a b) n m few h = (low_raised a n m few h.0, low_raised b n m few h.1)
  low_raised (Ext k b s) n m few h = (low_raised b (n + 1) m few h.0, low_raised s n m few h.1)
  low_raised (If a b c) n m few h = (low_raised a n m few h.0, low_raised b n m few h.1, low_raised c n m few h.2)
  low_raised (Let a b) n m few h = (low_raised a n m few h.0, low_raised b (n + 1) m few h.1)
  low_raised (Prim c ts) n m few h = low_raised_trees ts n m few h

  low_raised_trees : (ts : Trees) (n m : ℕ) → m < 2 ^ 31 → LeavesOfTrees IsLowPosition AnySource ts → TreesInRange (shift_trees ts n m)
  low_raised_trees no_trees n m few h = tt
  low_raised_trees (trees t ts) n m few h = (low_raised t n m few h.0, low_raised_trees ts n m few h.1)

  low_raised_parts : (ps : Parts) (n m : ℕ) → m < 2 ^ 31 → LeavesOfParts IsLowPosition AnySource ps → PartsInRange (shift_parts ps n m)
  low_raised_parts no_parts n m few h = tt
  low_raised_parts (parts l t ps) n m few h = (low_raised t n m few h.0, low_raised_parts ps n m few h.1)

  pub low_raised_arms : (bs : Arms) (n m : ℕ) → m < 2 ^ 31 → LeavesOfArms IsLowPosition AnySource bs → ArmsInRange (shift_arms bs n m)
  low_raised_arms no_arms n m few h = tt
  low_raised_arms (rest c) n m few h = low_raised c n m few h
  low_raised_arms (arm l b bs) n m few h = (low_raised b (n + 1) m few h.0, low_raised_arms bs n m few h.1)

pub low_room : (t w : Tree) → nodes_of t < 2 ^ 31 → Leaves IsLowPosition AnySource w → Room t 0 w
low_room t w small low = (omega (arith, small, few_binders t), low_raised w 0 (binders t) (omega (arith, small, few_binders t)) low)

-- ---- the parts of small terms

pub small_Ext : (t b s : Term) (k : Kind) → t ≡ term.Ext k b s → IsShiftable (view t) → IsShiftable (view b) × IsShiftable (view s)
small_Ext t b s k e h =
    let g : IsShiftable (Ext k (view b) (view s)) = subst IsShiftable (ap view e ∙ view_Ext k b s) h in
    ((g.0.0, omega (arith, g.1)), (g.0.1, omega (arith, g.1)))

pub small_Let : (t a b : Term) → t ≡ term.Let a b → IsShiftable (view t) → IsShiftable (view a) × IsShiftable (view b)
small_Let t a b e h =
    let g : IsShiftable (Let (view a) (view b)) = subst IsShiftable (ap view e ∙ view_Let a b) h in
    ((g.0.0, omega (arith, g.1)), (g.0.1, omega (arith, g.1)))

-- a body that comes under one binder more
pub body_raised : (t b c s : Term) (k : Kind) → t ≡ term.Ext k b s → c ≡ b → IsShiftable (view t) → InRange (shift_of (view c) 1 1)
body_raised t b c s k e f h = subst (λ x. InRange (shift_of (view x) 1 1)) (sym f) (low_raised (view b) 1 1 (omega arith) ((small_Ext t b s k e h).0.0))

pub let_raised : (t a b c : Term) → t ≡ term.Let a b → c ≡ b → IsShiftable (view t) → InRange (shift_of (view c) 1 1)
let_raised t a b c e f h = subst (λ x. InRange (shift_of (view x) 1 1)) (sym f) (low_raised (view b) 1 1 (omega arith) ((small_Let t a b e h).1.0))

-- what is bound, put in the body
pub let_room : (t a b c d : Term) → t ≡ term.Let a b → c ≡ b → d ≡ a → IsShiftable (view t) → Room (view c) 0 (view d)
let_room t a b c d e f g h =
    let s = small_Let t a b e h in
    subst (λ x. Room (view x) 0 (view d)) (sym f) (subst (λ y. Room (view b) 0 (view y)) (sym g) (low_room (view b) (view a) s.1.1 s.0.0))

pub let_small : (t a b c : Term) → t ≡ term.Let a b → c ≡ b → IsShiftable (view t) → IsShiftable (view c)
let_small t a b c e f h = subst (λ x. IsShiftable (view x)) (sym f) ((small_Let t a b e h).1)

-- room for a small term in itself
pub self_room : (t : Tree) → IsShiftable t → Room t 0 t
self_room t h = low_room t t h.1 h.0
